-- A reader goes on through rows that stand at the front of what is left.
use Rattle.std.proofs.Common.{◌≡◌, ℕ, ◌+◌, List, [], ◌∷◌, ◌++◌, refl, sym, ap, ◌∙◌, subst, append_assoc, append-nil}
use Rattle.std.specs.Prelude.{Ok}
use Rattle.cal_context.specs.Tree.{Tree}
use Rattle.cal_line.specs.Lines.{HasNoNewline}
use Rattle.cal_value.specs.declared.record.Rec.{Rec}
use Rattle.cal_read.specs.Reading.{HasRead, ReadsOn, TakesBytes, rows_before}
use Rattle.cal_read.specs.Standing.{Stands, TakesLine}
use Rattle.cal_read.specs.Stream as streams
use Rattle.cal_read.specs.Stream.{line_step}
use Rattle.cal_read.specs.declared.stream_reader.StreamReader.{StreamReader}
use Rattle.cal_read.proofs.ReadLemmas.{TakesUpTo-none, TakesUpTo-trans, read_ended, takes_ended}

-- by nothing
pub ReadsOn-none : (had has : List Rec → Type 0) (old new : StreamReader) (t : Tree) (all : List ℕ) → ((bytes : List ℕ) → HasRead old t bytes → HasRead new t bytes) → ((rs : List Rec) → had rs → has rs)
    → ReadsOn had has old new t all all
ReadsOn-none had has old new t all read taken = record {
  front = [];
  parts = refl;
  read = λ bytes h. subst (HasRead new t) (sym (append-nil bytes)) (read bytes h);
  taken = λ bytes h. TakesUpTo-none had has (rows_before bytes) (rows_before (bytes ++ [])) (ap rows_before (append-nil bytes)) taken;
}

pub ReadsOn-trans : (had then has : List Rec → Type 0) (old mid new : StreamReader) (t : Tree) (all rest after : List ℕ) → ReadsOn had then old mid t all rest → ReadsOn then has mid new t rest after
    → ReadsOn had has old new t all after
ReadsOn-trans had then has old mid new t all rest after one two = record {
  front = one.front ++ two.front;
  parts = one.parts ∙ ap (λ l. one.front ++ l) two.parts ∙ sym (append_assoc one.front two.front after);
  read = λ bytes h. subst (HasRead new t) (append_assoc bytes one.front two.front) (two.read (bytes ++ one.front) (one.read bytes h));
  taken = λ bytes h. subst (TakesBytes had has bytes) (append_assoc bytes one.front two.front)
      (TakesUpTo-trans had then has (rows_before bytes) (rows_before (bytes ++ one.front)) (rows_before ((bytes ++ one.front) ++ two.front)) (one.taken bytes h) (two.taken (bytes ++ one.front) (one.read bytes h)));
}

-- by a line that was taken
module _ (had has : List Rec → Type 0) (old new : StreamReader) (t : Tree) (line rest : List ℕ) (none : old.begun.items ≡ []) (one : HasNoNewline line)
    (refused : new.refused ≡ old.refused) (lines : new.lines ≡ old.lines + 1) (begun : new.begun.items ≡ old.begun.items) where
  pub ReadsOn-line : ((s : streams.Stream) → Stands t old.stream s → (next : streams.Stream) × (line_step s line ≡ Ok next) × TakesLine t new.stream had has s next)
      → ReadsOn had has old new t (line ++ 10 ∷ rest) rest
  ReadsOn-line steps = record {
    front = line ++ 10 ∷ [];
    parts = sym (append_assoc line (10 ∷ []) rest);
    read = λ bytes h.
        let it = steps h.stream h.stands in
        subst (HasRead new t) (append_assoc bytes line (10 ∷ [])) (read_ended old t bytes h none line one t new it.0 it.1 it.2.stands refused lines begun);
    taken = λ bytes h.
        let it = steps h.stream h.stands in
        subst (TakesBytes had has bytes) (append_assoc bytes line (10 ∷ [])) (takes_ended old t bytes h none line one had has it.0 it.1 it.2.taken);
  }
