-- What a reader has read, as bytes come and lines end.
use Rattle.std.proofs.Common.{◌≡◌, ℕ, ◌+◌, ◌<◌, List, [], ◌∷◌, ◌++◌, length, Some, None, refl, sym, ap, ◌∙◌, subst, append_assoc, arith}
use Rattle.std.specs.Prelude.{Ok, Err}
use Rattle.std.proofs.lemmas.List.{length-append}
use Rattle.cal_context.specs.Snapshots.{meaning}
use Rattle.cal_context.specs.Tree.{Tree, Grows}
use Rattle.cal_context.proofs.CallerLemmas.{IsIn-Grows, meaning-Grows, TakesMore-trans}
use Rattle.cal_line.specs.FirstFault.{after_lines, IsFirstFault}
use Rattle.cal_line.specs.Lines.{lines_of, HasNoNewline}
use Rattle.cal_value.specs.declared.record.Rec.{Rec}
use Rattle.cal_read.specs.Cuts.{ended_lines, joined, IsCut}
use Rattle.cal_read.specs.Reading.{HasEnded, HasRead, IsReady, IsReadyIf, IsRefusalOf, TakesBytes, Ends, rows_made, rows_of_lines, rows_before}
use Rattle.cal_read.specs.Standing.{Stands, TakesUpTo}
use Rattle.cal_read.specs.Stream as streams
use Rattle.cal_read.specs.Stream.{no_lines, line_step}
use Rattle.cal_read.specs.declared.end.StreamEnd as ends
use Rattle.cal_read.specs.declared.end.StreamEnd.TheVariants as end
use Rattle.cal_read.specs.declared.kind.StreamKind.{StreamKind}
use Rattle.cal_read.specs.declared.stream.Stream.{Stream}
use Rattle.cal_read.specs.declared.stream_reader.StreamReader.{StreamReader}
use Rattle.cal_read.proofs.CutLemmas.{cut-begin, cut-end, cut-ended, cut-more, cut-lines, cut-lines_none, cut-start, ended-front}
use Rattle.cal_read.proofs.FaultLemmas.{after_push, fault_push, fault_more}
use Rattle.cal_read.proofs.HeldLemmas.{AreHeld-Grows}

append-nil : {A : Type 0} (xs : List A) → xs ++ [] ≡ xs
append-nil [] = refl
append-nil (x ∷ xs) = ap (λ r. x ∷ r) (append-nil xs)

-- what is held stays while the context grows
pub Stands-Grows : {old new : Tree} → Grows old new → (held : Stream) (s : streams.Stream) → Stands old held s → Stands new held s
Stands-Grows grows held s h = record {
  nodes = AreHeld-Grows grows held.nodes s.nodes h.nodes;
  within = IsIn-Grows grows held.globals h.within;
  globals = meaning-Grows grows held.globals h.within ∙ h.globals;
}

pub HasRead-Grows : (r : StreamReader) (old new : Tree) (bytes : List ℕ) → HasRead r old bytes → Grows old new → HasRead r new bytes
HasRead-Grows r old new bytes h grows = record {
  sound = h.sound;
  lines = h.lines;
  cut = h.cut;
  counted = h.counted;
  stream = h.stream;
  made = h.made;
  stands = Stands-Grows grows r.stream h.stream h.stands;
}

module _ (r : StreamReader) (t : Tree) (bytes : List ℕ) (h : HasRead r t bytes) where
  -- the rows of what was read
  pub rows_read : rows_before bytes ≡ h.stream.rows
  rows_read = ap rows_of_lines (cut-ended bytes h.lines r.begun.items h.cut) ∙ ap rows_made h.made

  pub rows_begun : (part : List ℕ) → HasNoNewline part → rows_before (bytes ++ part) ≡ rows_before bytes
  rows_begun part none =
      ap rows_of_lines (cut-ended (bytes ++ part) h.lines (r.begun.items ++ part) (cut-begin bytes h.lines r.begun.items h.cut part none)
      ∙ sym (cut-ended bytes h.lines r.begun.items h.cut))

  -- the same bytes, where a reader has the same
  pub read_same : (new : StreamReader) → new.refused ≡ r.refused → new.lines ≡ r.lines → new.stream ≡ r.stream → new.begun.items ≡ r.begun.items → HasRead new t bytes
  read_same new refused lines stream begun = record {
    sound = refused ∙ h.sound;
    lines = h.lines;
    cut = subst (IsCut bytes h.lines) (sym begun) h.cut;
    counted = lines ∙ h.counted;
    stream = h.stream;
    made = h.made;
    stands = subst (λ s. Stands t s h.stream) (sym stream) h.stands;
  }

  -- what stands before the line that has begun
  before_begun : IsCut (joined h.lines) h.lines []
  before_begun = record { bytes_are = sym (append-nil (joined h.lines)); ended = h.cut.ended; begun_line = λ k d l. absurd (omega (arith, l)) }

  pub read_before : (new : StreamReader) → new.refused ≡ r.refused → new.lines ≡ r.lines → new.stream ≡ r.stream → new.begun.items ≡ [] → HasRead new t (joined h.lines)
  read_before new refused lines stream none = record {
    sound = refused ∙ h.sound;
    lines = h.lines;
    cut = subst (IsCut (joined h.lines) h.lines) (sym none) before_begun;
    counted = lines ∙ h.counted;
    stream = h.stream;
    made = h.made;
    stands = subst (λ s. Stands t s h.stream) (sym stream) h.stands;
  }

  pub rows_until_begun : rows_before (joined h.lines) ≡ rows_before bytes
  rows_until_begun = ap rows_of_lines (cut-ended (joined h.lines) h.lines [] before_begun ∙ sym (cut-ended bytes h.lines r.begun.items h.cut))

  pub with_begun : (joined h.lines ++ r.begun.items) ++ 10 ∷ [] ≡ bytes ++ 10 ∷ []
  with_begun = ap (λ b. b ++ 10 ∷ []) (sym h.cut.bytes_are)

  -- the lines of the whole, where one has begun
  pub lines_ended : 0 < length r.begun.items → lines_of bytes ≡ ended_lines (bytes ++ 10 ∷ [])
  lines_ended some = cut-lines bytes h.lines r.begun.items h.cut some ∙ sym (cut-ended (bytes ++ 10 ∷ []) (h.lines ++ r.begun.items ∷ []) [] (cut-end bytes h.lines r.begun.items h.cut))

  pub lines_none : r.begun.items ≡ [] → lines_of bytes ≡ ended_lines bytes
  lines_none none = cut-lines_none bytes h.lines r.begun.items h.cut none ∙ sym (cut-ended bytes h.lines r.begun.items h.cut)

  -- the end, where no line has begun, and where one has
  pub ended_none : r.begun.items ≡ [] → HasEnded r t bytes
  ended_none none = record {
    stream = h.stream;
    is = ap (after_lines line_step no_lines) (cut-lines_none bytes h.lines r.begun.items h.cut none) ∙ h.made;
    stands = h.stands;
  }

  pub ended_read : (new : StreamReader) (u : Tree) → 0 < length r.begun.items → HasRead new u (bytes ++ 10 ∷ []) → HasEnded new u bytes
  ended_read new u some k = record {
    stream = k.stream;
    is = ap (after_lines line_step no_lines) (lines_ended some ∙ cut-ended (bytes ++ 10 ∷ []) k.lines new.begun.items k.cut) ∙ k.made;
    stands = k.stands;
  }

  -- a line ends, where none has begun
  module _ (none : r.begun.items ≡ []) (line : List ℕ) (one : HasNoNewline line) where
    one_line : IsCut (bytes ++ line) h.lines line
    one_line = subst (λ b. IsCut (bytes ++ line) h.lines (b ++ line)) none (cut-begin bytes h.lines r.begun.items h.cut line one)

    ended : ended_lines ((bytes ++ line) ++ 10 ∷ []) ≡ h.lines ++ line ∷ []
    ended = cut-ended ((bytes ++ line) ++ 10 ∷ []) (h.lines ++ line ∷ []) [] (cut-end (bytes ++ line) h.lines line one_line)

    pub read_ended : (u : Tree) (new : StreamReader) (next : streams.Stream) → line_step h.stream line ≡ Ok next → Stands u new.stream next
        → new.refused ≡ r.refused → new.lines ≡ r.lines + 1 → new.begun.items ≡ r.begun.items → HasRead new u ((bytes ++ line) ++ 10 ∷ [])
    read_ended u new next made stands refused lines begun = record {
      sound = refused ∙ h.sound;
      lines = h.lines ++ line ∷ [];
      cut = subst (IsCut ((bytes ++ line) ++ 10 ∷ []) (h.lines ++ line ∷ [])) (sym (begun ∙ none)) (cut-end (bytes ++ line) h.lines line one_line);
      counted = lines ∙ ap (λ n. n + 1) h.counted ∙ sym (length-append h.lines (line ∷ []));
      stream = next;
      made = after_push line_step no_lines h.lines line h.stream next h.made made;
      stands = stands;
    }

    rows_ended : (next : streams.Stream) → line_step h.stream line ≡ Ok next → rows_before ((bytes ++ line) ++ 10 ∷ []) ≡ next.rows
    rows_ended next made = ap rows_of_lines ended ∙ ap rows_made (after_push line_step no_lines h.lines line h.stream next h.made made)

    pub takes_ended : (had has : List Rec → Type 0) (next : streams.Stream) → line_step h.stream line ≡ Ok next → TakesUpTo had has h.stream.rows next.rows
        → TakesBytes had has bytes ((bytes ++ line) ++ 10 ∷ [])
    takes_ended had has next made takes = record {
      more = takes.more;
      rows = rows_ended next made ∙ takes.rows ∙ ap (λ rs. rs ++ takes.more) (sym rows_read);
      taken = takes.taken;
    }

    pub fault_ended : (kind : StreamKind) → line_step h.stream line ≡ Err kind → IsFirstFault line_step no_lines (ended_lines ((bytes ++ line) ++ 10 ∷ [])) (r.lines + 1) kind
    fault_ended kind falls =
        subst (λ ls. IsFirstFault line_step no_lines ls (r.lines + 1) kind) (sym ended)
        (subst (λ n. IsFirstFault line_step no_lines (h.lines ++ line ∷ []) (n + 1) kind) (sym h.counted)
        (fault_push line_step no_lines h.lines line h.stream kind h.made falls))

-- a refusal of lines that have ended stays one, where more bytes follow
pub refusal_more : (r : StreamReader) (t : Tree) (bytes : List ℕ) → HasRead r t bytes → (part more : List ℕ) → HasNoNewline part → (refusal : ends.StreamEnd) → IsRefusalOf (ended_lines ((bytes ++ part) ++ 10 ∷ [])) refusal
    → IsRefusalOf (ended_lines (((bytes ++ part) ++ 10 ∷ []) ++ more)) refusal
refusal_more r t bytes h part more one end.OutOfMemory is = tt
refusal_more r t bytes h part more one (end.BadLine line kind) is =
    let ends = cut-end (bytes ++ part) h.lines (r.begun.items ++ part) (cut-begin bytes h.lines r.begun.items h.cut part one) in
    let whole = (bytes ++ part) ++ 10 ∷ [] in
    let all = h.lines ++ (r.begun.items ++ part) ∷ [] in
    subst (λ ls. IsFirstFault line_step no_lines ls line kind)
    (ap (λ ls. ls ++ ended_lines more) (cut-ended whole all [] ends) ∙ sym (cut-more whole all [] ends refl more))
    (fault_more line_step no_lines (ended_lines whole) (ended_lines more) line kind is)

pub ends_of : (r : StreamReader) (t : Tree) (bytes : List ℕ) (globals : Rec) → HasEnded r t bytes → globals ≡ meaning t r.stream.globals → Ends bytes globals
ends_of r t bytes globals h same = record { stream = h.stream; is = h.is; globals_are = same ∙ h.stands.globals }

-- two parts of what was taken
pub TakesUpTo-trans : (had then has : List Rec → Type 0) (a b c : List Rec) → TakesUpTo had then a b → TakesUpTo then has b c → TakesUpTo had has a c
TakesUpTo-trans had then has a b c h g = record {
  more = h.more ++ g.more;
  rows = g.rows ∙ ap (λ rs. rs ++ g.more) h.rows ∙ append_assoc a h.more g.more;
  taken = TakesMore-trans had then has h.more g.more h.taken g.taken;
}

-- nothing more was taken
pub TakesUpTo-none : (had has : List Rec → Type 0) (a b : List Rec) → b ≡ a → ((rs : List Rec) → had rs → has rs) → TakesUpTo had has a b
TakesUpTo-none had has a b same keeps = record {
  more = [];
  rows = same ∙ sym (append-nil a);
  taken = λ rs h. subst has (sym (append-nil rs)) (keeps rs h);
}

-- ---- a reader that has read is ready

pub ready_read : (r : StreamReader) (t : Tree) (bytes : List ℕ) → HasRead r t bytes → IsReady r t
ready_read r t bytes h = subst (λ o. IsReadyIf o r t) (sym h.sound) (bytes, h)

pub has_read : (r : StreamReader) (t : Tree) → IsReady r t → r.refused ≡ None → (bytes : List ℕ) × HasRead r t bytes
has_read r t ready none = subst (λ o. IsReadyIf o r t) none ready

-- nothing was read yet
pub read_nothing : (r : StreamReader) (t : Tree) → r.refused ≡ None → r.begun.items ≡ [] → r.lines ≡ 0 → Stands t r.stream no_lines → HasRead r t []
read_nothing r t sound begun lines stands = record {
  sound = sound;
  lines = [];
  cut = subst (IsCut [] []) (sym begun) cut-start;
  counted = lines;
  stream = no_lines;
  made = refl;
  stands = stands;
}

-- a refusal of the lines that have ended is one of the whole
pub refusal_whole : (bytes : List ℕ) (refusal : ends.StreamEnd) → IsRefusalOf (ended_lines bytes) refusal → IsRefusalOf (lines_of bytes) refusal
refusal_whole bytes end.OutOfMemory is = tt
refusal_whole bytes (end.BadLine line kind) is =
    let front = ended-front bytes in
    subst (λ ls. IsFirstFault line_step no_lines ls line kind) (sym front.1) (fault_more line_step no_lines (ended_lines bytes) front.0 line kind is)

-- ---- at a loop's turn

pub turns : (bytes consumed line : List ℕ) → ((bytes ++ consumed) ++ line) ++ 10 ∷ [] ≡ bytes ++ (consumed ++ (line ++ 10 ∷ []))
turns bytes consumed line = append_assoc (bytes ++ consumed) line (10 ∷ []) ∙ append_assoc bytes consumed (line ++ 10 ∷ [])

pub piece_turn : (piece consumed rest line after : List ℕ) → piece ≡ consumed ++ rest → rest ≡ line ++ 10 ∷ after → piece ≡ (consumed ++ (line ++ 10 ∷ [])) ++ after
piece_turn piece consumed rest line after is parts =
    is ∙ ap (λ r. consumed ++ r) (parts ∙ sym (append_assoc line (10 ∷ []) after)) ∙ sym (append_assoc consumed (line ++ 10 ∷ []) after)

pub whole_turn : (bytes piece consumed rest line after : List ℕ) → piece ≡ consumed ++ rest → rest ≡ line ++ 10 ∷ after
    → bytes ++ piece ≡ (((bytes ++ consumed) ++ line) ++ 10 ∷ []) ++ after
whole_turn bytes piece consumed rest line after is parts =
    ap (λ p. bytes ++ p) (piece_turn piece consumed rest line after is parts) ∙ sym (append_assoc bytes (consumed ++ (line ++ 10 ∷ [])) after)
    ∙ ap (λ r. r ++ after) (sym (turns bytes consumed line))
