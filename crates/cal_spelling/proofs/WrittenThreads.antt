-- The lines of written threads are read, and then the whole text.
use Rattle.std.proofs.Common.{◌≡◌, ℕ, ◌+◌, ◌<◌, ◌≤◌, ◌^◌, Bool, true, false, cond, List, [], ◌∷◌}
use Rattle.std.proofs.Common.{◌++◌, length, map, take, refl, sym, ap, subst, ◌∙◌, append_assoc}
use Rattle.std.proofs.Common.{append-nil, arith}
use Rattle.std.specs.Prelude.{Option, Some, None, Result, Ok, Err, codes, decimal, slice_get}
use Rattle.std.specs.List.{flat_map}
use Rattle.std.specs.Option.{ok_or, option_to_list}
use Rattle.std.proofs.lemmas.List.{length-append, length-take, take_more}
use Rattle.std.proofs.lemmas.List.Elements.{All-nil, All-cons}
use Rattle.std.proofs.lemmas.Option.{get_or_from_slice_get, slice_get_within}
use Rattle.cal_line.specs.FirstFault.{◌>>=◌}
use Rattle.cal_value.specs.Props.{has_process_scope}
use Rattle.cal_value.specs.declared.attribute.Attribute.{Attribute}
use Rattle.cal_value.specs.declared.attribute.Entry.{Entry}
use Rattle.cal_value.specs.Reading.{uint_of}
use Rattle.cal_value.specs.declared.variant.Variant.{Variant}
use Rattle.cal_value.specs.declared.variant.Variant.TheVariants as variant
use Rattle.cal_value.proofs.RoundTrip.{reads_back}
use Rattle.cal_script.specs.Lines.{is_skipped, joined, words_of}
use Rattle.cal_script.specs.Parts.{attribute_named, attribute_names, channel_named, channel_names}
use Rattle.cal_script.specs.Parts.{number_said, place_of, value_said}
use Rattle.cal_script.specs.Reading.{opening_after, words_after}
use Rattle.cal_script.specs.State.{State, counted, made_words, next_thread, opening, with_line}
use Rattle.cal_script.specs.State.{with_opening}
use Rattle.cal_script.specs.declared.kind.ScriptKind.{ScriptKind}
use Rattle.cal_script.specs.declared.kind.ScriptKind.TheVariants.{BadValue, NotAggregate}
use Rattle.cal_script.specs.declared.kind.ScriptKind.TheVariants.{WrongArity}
use Rattle.cal_script.specs.declared.script.Channel.{Channel}
use Rattle.cal_script.specs.declared.script.Script.{Script}
use Rattle.cal_script.specs.declared.script.Line as lines
use Rattle.cal_script.specs.declared.script.Line.TheVariants as line
use Rattle.cal_script.specs.declared.tally.Tally.{Tally}
use Rattle.cal_script.proofs.Cuts.{word_and_rest_of}
use Rattle.cal_script.specs.Ticks.{AreHalves, number_of_ticks, ticks_of}
use Rattle.cal_script.specs.declared.ticks.Ticks.{Ticks}
use Rattle.cal_script.proofs.Halves.{halves_back, halves_small}
use Rattle.cal_script.proofs.Values.{uint_read}
use Rattle.cal_valid.proofs.Values.{named_at}
use Rattle.cal_spelling.specs.CanonicalText.{Words, attribute_at, channel_at, of_item, spelled}
use Rattle.cal_spelling.specs.CanonicalText.{thread_line, thread_lines, value_at}
use Rattle.cal_spelling.proofs.Growth.{Grows, counted_arena, counted_lines, next_arena}
use Rattle.cal_spelling.proofs.Legible.{AreNext, AreThreads, IsNext, IsOpened, behind_line}
use Rattle.cal_spelling.proofs.Legible.{behind_lines, behind_threads}
use Rattle.cal_spelling.proofs.Values.{IsSpoken, IsText}
use Rattle.cal_spelling.proofs.Words.{IsWord, decimal_word, joined_text, literal, word_text}
use Rattle.cal_spelling.proofs.Words.{words_before, words_joined, words_text}
use Rattle.cal_spelling.proofs.WrittenHeader.{IsStep, Steps, more, none, standing, steps-append}

-- a decimal reads back as its number
decimal_uint : (n : ℕ) → n < 2 ^ 64 → uint_of (decimal n) ≡ Some n
decimal_uint n small =
    let back = reads_back (variant.Uint n) small (record { small = tt; proper = tt }) in
    sym (uint_read (decimal n) (variant.Uint n) back)

module _ (attributes : List Attribute) (channels : List Channel) (valued : Bool)
    (globals : List Entry) where
  -- in a thread
  abbrev running : List Variant → List (List lines.Line) → List lines.Line → Tally → State
  running values earlier done tally = standing attributes channels valued globals values earlier
      (Some done) tally

  line_grows : (values more_values : List Variant) (earlier : List (List lines.Line))
      (done longer : List lines.Line) (process : Bool) (words : ℕ) (tally : Tally)
      → Grows (running values earlier done tally) (running more_values earlier longer
      (counted process words tally))
  line_grows values more_values earlier done longer process words tally = record {
    attributes = omega arith;
    channels = omega arith;
    threads = omega arith;
    lines = omega arith;
    process_lines = counted_lines process words tally;
    arena = counted_arena process words tally;
  }

  module _ (values : List Variant) (earlier : List (List lines.Line)) (done : List lines.Line)
      (tally : Tally) where
    abbrev before : State
    before = running values earlier done tally

    -- ---- the lines that open a value

    opened_step : (word : List ℕ) (line_of : ℕ → ℕ → lines.Line) → IsWord word
        → ((rest : List ℕ) → is_skipped (word ++ rest) ≡ false)
        → ((words : List (List ℕ)) → words_after before (word ∷ words)
        ≡ opening_after line_of before words)
        → (attr : ℕ) (a : Attribute) (v : Variant) → attribute_named attributes a.name
        ≡ Ok (attr, a) → IsSpoken a.kind v → IsWord a.name
        → IsStep before (word ∷ a.name ∷ spelled v ∷ [])
        (running (values ++ v ∷ []) earlier (done ++ line_of attr (length values) ∷ [])
        (counted (has_process_scope a.props) (made_words a v) tally))
    opened_step word line_of first starts goes attr a v named spoken name =
        let text : List ℕ = spelled v in
        let two : List ℕ × List ℕ = (a.name, text) in
        let behind : Option (List ℕ × List ℕ) → Result State ScriptKind =
        λ found. (ok_or found WrongArity
        >>= (λ (two : List ℕ × List ℕ). attribute_named attributes two.0
        >>= (λ (n : ℕ × Attribute). value_said n.1.kind two.1
        >>= (λ (value : Variant). Ok (opening n.0 n.1 value)))))
        >>= (λ o. Ok (with_opening line_of o before)) in
        record {
          text = joined_text (word ∷ a.name ∷ text ∷ [])
              (All-cons IsText word (a.name ∷ text ∷ []) (word_text word first)
              (All-cons IsText a.name (text ∷ []) (word_text a.name name)
              (All-cons IsText text [] spoken.text (All-nil IsText))));
          says = starts (32 ∷ joined (a.name ∷ text ∷ []));
          said =
              ap (words_after before) (words_before word a.name text first name)
              ∙ goes (a.name ∷ words_of text)
              ∙ ap behind (word_and_rest_of a.name text)
              ∙ ap (λ (some : Bool). behind (cond some (Some two) None)) name.some
              ∙ ap (λ (found : Result (ℕ × Attribute) ScriptKind).
              (found >>= (λ (n : ℕ × Attribute). value_said n.1.kind text
              >>= (λ (value : Variant). Ok (opening n.0 n.1 value))))
              >>= (λ o. Ok (with_opening line_of o before))) named
              ∙ ap (λ (found : Result Variant ScriptKind).
              (found >>= (λ (value : Variant). Ok (opening attr a value)))
              >>= (λ o. Ok (with_opening line_of o before))) spoken.said;
          grows = line_grows values (values ++ v ∷ []) earlier done
              (done ++ line_of attr (length values) ∷ []) (has_process_scope a.props)
              (made_words a v) tally;
        }

    -- ---- the other lines

    -- a line of one word behind the first
    one_step : (word second : List ℕ) (l : lines.Line) (process : Bool) → IsWord word
        → IsWord second → ((rest : List ℕ) → is_skipped (word ++ rest) ≡ false)
        → words_after before (word ∷ second ∷ []) ≡ Ok (with_line l process 0 before)
        → IsStep before (word ∷ second ∷ []) (running values earlier (done ++ l ∷ [])
        (counted process 0 tally))
    one_step word second l process first is starts said =
        let rest = All-cons IsWord second [] is (All-nil IsWord) in
        record {
          text = words_text (word ∷ second ∷ []) (All-cons IsWord word (second ∷ []) first rest);
          says = starts (32 ∷ second);
          said = ap (words_after before) (words_joined word (second ∷ []) first rest) ∙ said;
          grows = line_grows values values earlier done (done ++ l ∷ []) process 0 tally;
        }

    ended_step : (attr : ℕ) (a : Attribute) → attribute_named attributes a.name ≡ Ok (attr, a)
        → IsWord a.name
        → IsStep before (codes "end" ∷ a.name ∷ [])
        (running values earlier (done ++ line.End attr ∷ [])
        (counted (has_process_scope a.props) 0 tally))
    ended_step attr a named name =
        let make : ℕ × Attribute → Result State ScriptKind =
        λ n. Ok (with_line (line.End n.0) (has_process_scope n.1.props) 0 before) in
        one_step (codes "end") a.name (line.End attr) (has_process_scope a.props)
        (literal (codes "end") refl refl) name (λ rest. refl)
        (ap (λ (some : Bool). ok_or (cond some (Some a.name) None) WrongArity
        >>= (λ (word : List ℕ). attribute_named attributes word >>= make)) name.some
        ∙ ap (λ (found : Result (ℕ × Attribute) ScriptKind). found >>= make) named)

    flushed_step : (place : ℕ) (c : Channel) → channel_named channels c.name ≡ Ok (place, c)
        → c.aggregate ≡ true → IsWord c.name
        → IsStep before (codes "flush" ∷ c.name ∷ [])
        (running values earlier (done ++ line.Flush place ∷ []) (counted false 0 tally))
    flushed_step place c named aggregates name =
        let make : ℕ × Channel → Result State ScriptKind =
        λ n. cond n.1.aggregate (Ok (with_line (line.Flush n.0) false 0 before))
        (Err NotAggregate) in
        one_step (codes "flush") c.name (line.Flush place) false (literal (codes "flush") refl refl)
        name (λ rest. refl)
        (ap (λ (some : Bool). ok_or (cond some (Some c.name) None) WrongArity
        >>= (λ (word : List ℕ). channel_named channels word >>= make)) name.some
        ∙ ap (λ (found : Result (ℕ × Channel) ScriptKind). found >>= make) named
        ∙ ap (λ (has : Bool). cond has (Ok (with_line (line.Flush place) false 0 before))
        (Err NotAggregate)) aggregates)

    ticked_step : (ticks : Ticks) → AreHalves ticks
        → IsStep before (codes "tick" ∷ decimal (number_of_ticks ticks) ∷ [])
        (running values earlier (done ++ line.Tick ticks ∷ []) (counted false 0 tally))
    ticked_step ticks are =
        let n = number_of_ticks ticks in
        let small = halves_small ticks are in
        let number = decimal_word n small in
        let make : ℕ → Result State ScriptKind =
        λ m. Ok (with_line (line.Tick (ticks_of m)) false 0 before) in
        one_step (codes "tick") (decimal n) (line.Tick ticks) false
        (literal (codes "tick") refl refl)
        number (λ rest. refl)
        (ap (λ (some : Bool). ok_or (cond some (Some (decimal n)) None) WrongArity
        >>= (λ (word : List ℕ). number_said word >>= make)) number.some
        ∙ ap (λ (found : Option ℕ). ok_or found BadValue >>= make) (decimal_uint n small)
        ∙ ap (λ (t : Ticks). Ok (with_line (line.Tick t) false 0 before)) (halves_back ticks are))

    snapshot_step : IsStep before (codes "snapshot" ∷ [])
        (running values earlier (done ++ line.Snapshot ∷ []) (counted false 0 tally))
    snapshot_step = record {
      text = words_text (codes "snapshot" ∷ []) (All-cons IsWord (codes "snapshot") []
          (literal (codes "snapshot") refl refl) (All-nil IsWord));
      says = refl;
      said = refl;
      grows = line_grows values values earlier done (done ++ line.Snapshot ∷ []) false 0 tally;
    }

-- a thread begins
begun_step : (attributes : List Attribute) (channels : List Channel) (valued : Bool)
    (globals : List Entry) (values : List Variant) (earlier : List (List lines.Line))
    (thread : Option (List lines.Line)) (tally : Tally)
    → IsStep (standing attributes channels valued globals values earlier thread tally)
    (codes "thread" ∷ [])
    (standing attributes channels valued globals values (earlier ++ option_to_list thread) (Some [])
    (next_thread tally))
begun_step attributes channels valued globals values earlier thread tally = record {
  text = words_text (codes "thread" ∷ []) (All-cons IsWord (codes "thread") []
      (literal (codes "thread") refl refl) (All-nil IsWord));
  says = refl;
  said = refl;
  grows = record {
    attributes = omega arith;
    channels = omega arith;
    threads = omega (arith, length-append earlier (option_to_list thread));
    lines = omega arith;
    process_lines = omega arith;
    arena = next_arena tally;
  };
}

-- ---- the lines of a script's threads

module _ (script : Script) (valued : Bool) where
  abbrev at : List Variant → List (List lines.Line) → Option (List lines.Line) → Tally → State
  at values earlier thread tally = standing script.attributes script.channels valued script.globals
      values earlier thread tally

  abbrev all : List Variant
  all = script.values

  attribute_is : (attr : ℕ) (a : Attribute) → attribute_named script.attributes a.name
      ≡ Ok (attr, a) → a.name ≡ attribute_at script attr
  attribute_is attr a named = sym (ap (of_item (λ (b : Attribute). b.name))
      (named_at script.attributes (place_of (attribute_names script.attributes) a.name) (attr, a)
      named))

  channel_is : (place : ℕ) (c : Channel) → channel_named script.channels c.name ≡ Ok (place, c)
      → c.name ≡ channel_at script place
  channel_is place c named = sym (ap (of_item (λ (b : Channel). b.name))
      (named_at script.channels (place_of (channel_names script.channels) c.name) (place, c) named))

  -- what a line leaves: its thread has it, and so many values stand
  record Goes (next : ℕ) (earlier : List (List lines.Line)) (done : List lines.Line) (tally : Tally)
      (l : lines.Line) : Type 0 where
    after : Tally
    within : behind_line next l ≤ length all
    step : IsStep (at (take next all) earlier (Some done) tally) (thread_line script l)
        (at (take (behind_line next l) all) earlier (Some (done ++ l ∷ [])) after)

  opened_goes : (word : List ℕ) (line_of : ℕ → ℕ → lines.Line) → IsWord word
      → ((rest : List ℕ) → is_skipped (word ++ rest) ≡ false)
      → ((state : State) (words : List (List ℕ)) → words_after state (word ∷ words)
      ≡ opening_after line_of state words)
      → (next : ℕ) (earlier : List (List lines.Line)) (done : List lines.Line) (tally : Tally)
      (attr value : ℕ) (opened : IsOpened script.attributes script.channels all next attr value)
      → (value < length all) × IsStep (at (take next all) earlier (Some done) tally)
      (word ∷ attribute_at script attr ∷ value_at script value ∷ [])
      (at (take (next + 1) all) earlier (Some (done ++ line_of attr value ∷ []))
      (counted (has_process_scope opened.attribute.props)
      (made_words opened.attribute opened.opened) tally))
  opened_goes word line_of first starts goes next earlier done tally attr value opened =
      let a : Attribute = opened.attribute in
      let v : Variant = opened.opened in
      let process : Bool = has_process_scope a.props in
      let words : ℕ = made_words a v in
      let inside = slice_get_within all value v opened.kept in
      let step = opened_step script.attributes script.channels valued script.globals (take next all)
      earlier done tally word line_of first starts
      (goes (at (take next all) earlier (Some done) tally))
      attr a v opened.named opened.spoken opened.word in
      let name = attribute_is attr a opened.named in
      let text : spelled v ≡ value_at script value = sym (ap (of_item spelled) opened.kept) in
      let short : length (take next all) ≡ value =
      omega (arith, length-take next all, opened.place, inside) in
      let got : take next all ++ v ∷ [] ≡ take (next + 1) all =
      ap (λ (x : Variant). take next all ++ x ∷ [])
      (sym (get_or_from_slice_get all next v v
      (subst (λ (k : ℕ). slice_get all k ≡ Some v) opened.place opened.kept)))
      ∙ sym (take_more all next v (omega (arith, opened.place, inside))) in (
        inside,
        subst (λ (s : State). IsStep (at (take next all) earlier (Some done) tally)
            (word ∷ attribute_at script attr ∷ value_at script value ∷ []) s)
            (λ i. at (got i) earlier (Some (done ++ line_of attr (short i) ∷ []))
            (counted process words tally))
            (subst (λ (ws : Words). IsStep (at (take next all) earlier (Some done) tally) ws
            (at (take next all ++ v ∷ []) earlier
            (Some (done ++ line_of attr (length (take next all)) ∷ []))
            (counted process words tally)))
            (λ i. word ∷ name i ∷ text i ∷ []) step),
      )

  line_goes : (next : ℕ) (earlier : List (List lines.Line)) (done : List lines.Line) (tally : Tally)
      (l : lines.Line) → next ≤ length all
      → IsNext script.attributes script.channels all next l → Goes next earlier done tally l
  line_goes next earlier done tally (line.Begin attr value) within opened =
      let goes = opened_goes (codes "begin") line.Begin (literal (codes "begin") refl refl)
      (λ rest. refl) (λ state words. refl) next earlier done tally attr value opened in
      record {
        after = counted (has_process_scope opened.attribute.props)
            (made_words opened.attribute opened.opened) tally;
        within = omega (arith, goes.0, opened.place);
        step = goes.1;
      }
  line_goes next earlier done tally (line.Set attr value) within opened =
      let goes = opened_goes (codes "set") line.Set (literal (codes "set") refl refl) (λ rest. refl)
      (λ state words. refl) next earlier done tally attr value opened in
      record {
        after = counted (has_process_scope opened.attribute.props)
            (made_words opened.attribute opened.opened) tally;
        within = omega (arith, goes.0, opened.place);
        step = goes.1;
      }
  line_goes next earlier done tally (line.End attr) within ended = record {
    after = counted (has_process_scope ended.attribute.props) 0 tally;
    within = within;
    step = subst (λ (name : List ℕ). IsStep (at (take next all) earlier (Some done) tally)
        (codes "end" ∷ name ∷ [])
        (at (take next all) earlier (Some (done ++ line.End attr ∷ []))
        (counted (has_process_scope ended.attribute.props) 0 tally)))
        (attribute_is attr ended.attribute ended.named)
        (ended_step script.attributes script.channels valued script.globals (take next all) earlier
        done tally attr ended.attribute ended.named ended.word);
  }
  line_goes next earlier done tally line.Snapshot within is = record {
    after = counted false 0 tally;
    within = within;
    step = snapshot_step script.attributes script.channels valued script.globals (take next all)
        earlier done tally;
  }
  line_goes next earlier done tally (line.Flush place) within flush = record {
    after = counted false 0 tally;
    within = within;
    step = subst (λ (name : List ℕ). IsStep (at (take next all) earlier (Some done) tally)
        (codes "flush" ∷ name ∷ [])
        (at (take next all) earlier (Some (done ++ line.Flush place ∷ [])) (counted false 0 tally)))
        (channel_is place flush.channel flush.named)
        (flushed_step script.attributes script.channels valued script.globals (take next all)
        earlier done tally place flush.channel flush.named flush.aggregates flush.word);
  }
  line_goes next earlier done tally (line.Tick n) within small = record {
    after = counted false 0 tally;
    within = within;
    step = ticked_step script.attributes script.channels valued script.globals (take next all)
        earlier done tally n small;
  }

  lines_read : (ls : List lines.Line) (next : ℕ) (earlier : List (List lines.Line))
      (done : List lines.Line) (tally : Tally) → next ≤ length all
      → AreNext script.attributes script.channels all next ls
      → (after : Tally) × (behind_lines next ls ≤ length all)
      × Steps (at (take next all) earlier (Some done) tally) (map (thread_line script) ls)
      (at (take (behind_lines next ls) all) earlier (Some (done ++ ls)) after)
  lines_read [] next earlier done tally within are = (
    tally,
    within,
    subst (λ (d : List lines.Line). Steps
        (at (take next all) earlier (Some done) tally) []
        (at (take next all) earlier (Some d) tally)) (sym (append-nil done)) none,
  )
  lines_read (l ∷ ls) next earlier done tally within are =
      let goes = line_goes next earlier done tally l within are.0 in
      let rest = lines_read ls (behind_line next l) earlier (done ++ l ∷ []) goes.after goes.within
      are.1 in (
        rest.0,
        rest.1,
        more goes.step
            (subst (λ (d : List lines.Line). Steps
            (at (take (behind_line next l) all) earlier (Some (done ++ l ∷ [])) goes.after)
            (map (thread_line script) ls)
            (at (take (behind_lines (behind_line next l) ls) all) earlier (Some d) rest.0))
            (append_assoc done (l ∷ []) ls) rest.2),
      )

  -- where threads end
  pub record AreRead (next : ℕ) (earlier : List (List lines.Line))
      (thread : Option (List lines.Line)) (tally : Tally) (threads : List (List lines.Line)) : Type
      0 where
    pub before : List (List lines.Line)
    pub last : Option (List lines.Line)
    pub after : Tally
    pub same : before ++ option_to_list last ≡ (earlier ++ option_to_list thread) ++ threads
    pub steps : Steps (at (take next all) earlier thread tally)
        (flat_map (thread_lines script) threads) (at (take (behind_threads next threads) all) before
        last after)

  pub threads_read : (threads : List (List lines.Line)) (next : ℕ)
      (earlier : List (List lines.Line)) (thread : Option (List lines.Line)) (tally : Tally) → next
      ≤ length all
      → AreThreads script.attributes script.channels all next threads
      → AreRead next earlier thread tally threads
  threads_read [] next earlier thread tally within are =
      record {
        before = earlier;
        last = thread;
        after = tally;
        same = sym (append-nil (earlier ++ option_to_list thread));
        steps = none;
      }
  threads_read (t ∷ threads) next earlier thread tally within are =
      let begun : List (List lines.Line) = earlier ++ option_to_list thread in
      let first = lines_read t next begun [] (next_thread tally) within are.0 in
      let rest = threads_read threads (behind_lines next t) begun (Some t) first.0 first.1 are.1 in
      let start = begun_step script.attributes script.channels valued script.globals (take next all)
      earlier thread tally in
      record {
        before = rest.before;
        last = rest.last;
        after = rest.after;
        same = rest.same ∙ append_assoc begun (t ∷ []) threads;
        steps = more start (steps-append first.2 rest.steps);
      }
