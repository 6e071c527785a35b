-- Records with entries of their own, piece by piece and as a whole.
use Rattle.std.proofs.Common.{◌≡◌, ℕ, List, [], ◌++◌, sym, ap, ◌∙◌, subst}
use Rattle.std.specs.Prelude.{Result, Err, IsErr, IfErr}
use Rattle.std.specs.Result.{IsErrAnd}
use Rattle.std.proofs.lemmas.Result.{err_from_is_err_and}
use Rattle.cal_line.specs.Lines.{lines_of}
use Rattle.cal_value.specs.declared.record.Rec.{Rec}
use Rattle.cal_read.specs.Owned.{AppendsRows}
use Rattle.cal_read.specs.Reading.{Ends, rows_made, rows_of_lines, rows_before}
use Rattle.cal_read.specs.Standing.{TakesUpTo}
use Rattle.cal_read.specs.Stream.{IsStream, IsStreamOf}
use Rattle.cal_read.specs.declared.end.StreamEnd.{StreamEnd}

-- a refusal that is passed on
pub end_passes : {C : Type 0} (P : StreamEnd → Type 0) (e : StreamEnd) (r : Result C StreamEnd) → IsErr r × IsErrAnd r (λ y. y ≡ e) → P e → IfErr r P
end_passes P e r h is = let p = err_from_is_err_and r h.1 in subst (λ x. IfErr x P) (sym (p.1 ∙ ap Err p.2)) is

-- what a taker of records of its own has taken is appended
pub appends : (had has old new before after : List Rec) → TakesUpTo (λ rs. had ≡ rs) (λ rs. has ≡ rs) before after → had ≡ [] → new ≡ old ++ has → AppendsRows old new before after
appends had has old new before after takes none is = record {
  more = takes.more;
  rows = takes.rows;
  appended = is ∙ ap (λ rs. old ++ rs) (takes.taken [] none);
}

pub whole : (bytes : List ℕ) (first rows : List Rec) (globals : Rec) → AppendsRows [] first [] (rows_before bytes) → AppendsRows first rows (rows_before bytes) (rows_of_lines (lines_of bytes))
    → Ends bytes globals → IsStreamOf bytes (record { rows = rows; globals = globals })
whole bytes first rows globals one two ends = record {
  nodes = ends.stream.nodes;
  stream = subst (IsStream bytes) (λ j. record { nodes = ends.stream.nodes; rows = sym same j; globals = sym ends.globals_are j }) ends.is;
}
  where
    same : rows ≡ ends.stream.rows
    same = two.appended ∙ ap (λ rs. rs ++ two.more) (one.appended ∙ sym one.rows) ∙ sym two.rows ∙ ap rows_made ends.is
