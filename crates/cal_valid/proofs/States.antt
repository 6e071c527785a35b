-- What holds of all that stands between two lines.
use Rattle.std.proofs.Common.{◌≡◌, ℕ, ◌+◌, Bool, List, [], ◌∷◌, ◌++◌, length, All, refl, sym, ap, subst, ◌∙◌, arith}
use Rattle.std.specs.Prelude.{Option, Some, None, unwrap_or, sum_by}
use Rattle.std.specs.Option.{option_to_list}
use Rattle.std.proofs.lemmas.List.{length_push}
use Rattle.std.proofs.lemmas.List.Sums.{sum_by-append}
use Rattle.std.proofs.lemmas.List.Elements.{All-nil, All-cons, All-append, All-push, All-weaker}
use Rattle.cal_value.specs.declared.attribute.Attribute.{Attribute}
use Rattle.cal_value.specs.declared.variant.Variant.{Variant}
use Rattle.cal_script.specs.declared.script.Channel.{Channel}
use Rattle.cal_script.specs.declared.script.Line as lines
use Rattle.cal_script.specs.declared.script.Line.TheVariants as line
use Rattle.cal_script.specs.declared.tally.Tally.{Tally}
use Rattle.cal_script.specs.State.{State, counted, next_thread, with_line}
use Rattle.cal_script.specs.Counts.{is_process_line, line_words, tally_of}
use Rattle.cal_script.specs.Valid.{IsOpening, IsPlaced}
use Rattle.cal_valid.proofs.Counting.{slice_get-more, tally_line, tally_more, tally_thread}

-- the lines that stand have their places
abbrev pub IsAt : State → lines.Line → Type 0
IsAt state = IsPlaced state.attributes state.channels state.values

pub record IsSound (state : State) : Type 0 where
  pub earlier : All (All (IsAt state)) state.earlier
  pub thread : All (IsAt state) (unwrap_or state.thread [])
  pub counted : sum_by length state.earlier + length (unwrap_or state.thread []) ≡ state.tally.lines
  pub idle : state.thread ≡ None → state.earlier ≡ []
  pub tallied : tally_of state.attributes state.values (state.earlier ++ option_to_list state.thread) ≡ state.tally

-- ---- threads with the last one

pub ended : (P : lines.Line → Type 0) (thread : Option (List lines.Line)) → All P (unwrap_or thread []) → All (All P) (option_to_list thread)
ended P None all = All-nil (All P)
ended P (Some thread) all = All-cons (All P) thread [] all (All-nil (All P))

-- ---- more values

opening_more : (attributes : List Attribute) (values more : List Variant) (attr value : ℕ) → IsOpening attributes values attr value → IsOpening attributes (values ++ more) attr value
opening_more attributes values more attr value is = record {
  attribute = is.attribute;
  opened = is.opened;
  declared = is.declared;
  kept = slice_get-more values more value is.opened is.kept;
  said = is.said;
}

placed_more : (attributes : List Attribute) (channels : List Channel) (values more : List Variant) (l : lines.Line) → IsPlaced attributes channels values l → IsPlaced attributes channels (values ++ more) l
placed_more attributes channels values more (line.Begin attr value) is = opening_more attributes values more attr value is
placed_more attributes channels values more (line.Set attr value) is = opening_more attributes values more attr value is
placed_more attributes channels values more (line.End attr) is = is
placed_more attributes channels values more line.Snapshot is = is
placed_more attributes channels values more (line.Flush channel) is = is
placed_more attributes channels values more (line.Tick n) is = is

pub values_sound : (state : State) (more : List Variant) → IsSound state → IsSound (record state { values = state.values ++ more })
values_sound state more sound =
    let one : (l : lines.Line) → IsAt state l → IsPlaced state.attributes state.channels (state.values ++ more) l = placed_more state.attributes state.channels state.values more in
    record {
      earlier = All-weaker (All (IsAt state)) (All (IsPlaced state.attributes state.channels (state.values ++ more))) (All-weaker _ _ one) state.earlier sound.earlier;
      thread = All-weaker _ _ one (unwrap_or state.thread []) sound.thread;
      counted = sound.counted;
      idle = sound.idle;
      tallied = tally_more state.attributes state.channels state.values more (state.earlier ++ option_to_list state.thread)
          (All-append (All (IsAt state)) state.earlier (option_to_list state.thread) sound.earlier (ended (IsAt state) state.thread sound.thread))
          ∙ sound.tallied;
    }

-- ---- one line more

more_tallied : (state : State) (thread : List lines.Line) (l : lines.Line) (process : Bool) (words : ℕ) → state.thread ≡ Some thread
    → is_process_line state.attributes state.values l ≡ process → line_words state.attributes state.values l ≡ words
    → tally_of state.attributes state.values (state.earlier ++ option_to_list state.thread) ≡ state.tally
    → tally_of state.attributes state.values (state.earlier ++ (unwrap_or state.thread [] ++ l ∷ []) ∷ []) ≡ counted process words state.tally
more_tallied state thread l process words is processes makes =
    let P : Option (List lines.Line) → Type 0 = λ t.
    tally_of state.attributes state.values (state.earlier ++ option_to_list t) ≡ state.tally
    → tally_of state.attributes state.values (state.earlier ++ (unwrap_or t [] ++ l ∷ []) ∷ []) ≡ counted process words state.tally in
    subst P (sym is) (tally_line state.attributes state.values state.earlier thread l process words state.tally processes makes)

pub line_sound : (state : State) (thread : List lines.Line) (l : lines.Line) (process : Bool) (words : ℕ) → state.thread ≡ Some thread → IsAt state l
    → is_process_line state.attributes state.values l ≡ process → line_words state.attributes state.values l ≡ words
    → IsSound state → IsSound (with_line l process words state)
line_sound state thread l process words is placed processes makes sound = record {
  earlier = sound.earlier;
  thread = All-push (IsAt state) (unwrap_or state.thread []) l sound.thread placed;
  counted = (let counted = sound.counted in omega (arith, length_push (unwrap_or state.thread []) l));
  idle = λ none. absurd cc;
  tallied = more_tallied state thread l process words is processes makes sound.tallied;
}

-- ---- a header line

-- the threads that stand are the same, and there are none
pub record IsSame (state next : State) : Type 0 where
  pub earlier : next.earlier ≡ state.earlier
  pub thread : next.thread ≡ state.thread
  pub tally : next.tally ≡ state.tally

pub header_sound : (state next : State) → state.thread ≡ None → IsSame state next → IsSound state → IsSound next
header_sound state next none same sound =
    let idle : next.earlier ≡ [] = same.earlier ∙ sound.idle none in
    let off : next.thread ≡ None = same.thread ∙ none in
    let counted : sum_by length state.earlier + length (unwrap_or state.thread []) ≡ state.tally.lines = sound.counted in
    record {
      earlier = (let P : List (List lines.Line) → Type 0 = λ threads. All (All (IsAt next)) threads in subst P (sym idle) (All-nil (All (IsAt next))));
      thread = (let P : Option (List lines.Line) → Type 0 = λ thread. All (IsAt next) (unwrap_or thread []) in subst P (sym off) (All-nil (IsAt next)));
      counted = rw (same.earlier, same.thread, same.tally) counted;
      idle = λ off. idle;
      tallied =
          (λ i. tally_of next.attributes next.values (idle i ++ option_to_list (off i)))
          ∙ sym (λ i. tally_of state.attributes state.values (sound.idle none i ++ option_to_list (none i)))
          ∙ sound.tallied ∙ sym same.tally;
    }

-- ---- a thread

pub ended_length : (thread : Option (List lines.Line)) → sum_by length (option_to_list thread) ≡ length (unwrap_or thread [])
ended_length None = refl
ended_length (Some thread) = omega arith

pub thread_sound : (state : State) (tally : Tally) → tally ≡ next_thread state.tally → IsSound state
    → IsSound (record state { earlier = state.earlier ++ option_to_list state.thread; thread = Some []; tally = tally })
thread_sound state tally same sound = record {
  earlier = All-append (All (IsAt state)) state.earlier (option_to_list state.thread) sound.earlier (ended (IsAt state) state.thread sound.thread);
  thread = All-nil (IsAt state);
  counted = rw sum_by-append (omega (arith, ended_length state.thread, sound.counted, ap (λ t. t.lines) same));
  idle = λ none. absurd cc;
  tallied =
      tally_thread state.attributes state.values (state.earlier ++ option_to_list state.thread) state.tally sound.tallied ∙ sym same;
}
