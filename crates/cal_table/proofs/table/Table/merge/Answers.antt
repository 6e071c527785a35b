use Rattle.std.proofs.Common.{◌≡◌, ◌+◌, ◌++◌, ℕ, [], List, length, sym, ap, ◌∙◌, subst, arith}
use Rattle.std.specs.Prelude.{sum_by}
use Rattle.std.specs.Vec.{vec_len}
use Rattle.std.proofs.lemmas.Bool.{eqb-true}
use Rattle.std.proofs.lemmas.List.{nil_from_length}
use Rattle.std.specs.List.{All}
use Rattle.cal_agg.specs.declared.row.AggRow.{AggRow}
use Rattle.cal_table.specs.declared.key.TableKey.{TableKey}
use Rattle.cal_table.specs.declared.shape.TableShape.{TableShape}
use Rattle.cal_table.specs.Held.{AreHeld, IsHeld, MayPour, size}
use Rattle.cal_table.specs.Rows.{both_held, rows_of, tally}
use Rattle.cal_table.specs.TableLaws.{tally-append}
use Rattle.cal_table.specs.Tables.{Same, TableValue, merged_tables}
use Rattle.cal_table.proofs.Holding.{MayPour-held}
use Rattle.cal_table.proofs.NoRows.{becomes}
use Rattle.cal_table.proofs.table.Table.merge.Goals as goal

pub pour-requires-clause-may : goal.pour-requires-clause-may
pour-requires-clause-may c =
    let s = c.self.inside in
    let o = c.other.inside in
    let cells : length o.shape.values ≡ length s.shape.values = ap (λ (v : TableShape). length v.values) (ap (λ (v : TableValue). v.shape) c.other.view_is ∙ c.requires.made ∙ sym (ap (λ (v : TableValue). v.shape) c.self.view_is)) in
    let other : AreHeld (length s.shape.values) o.snapshots o.keys.keys o.rows.items = subst (λ (n : ℕ). AreHeld n o.snapshots o.keys.keys o.rows.items) cells c.other.invariant in
    let mine : s.snapshots ≡ c.args.self.now.snapshots = ap (λ (v : TableValue). v.snapshots) c.self.view_is in
    let theirs : o.snapshots ≡ c.args.other.snapshots = ap (λ (v : TableValue). v.snapshots) c.other.view_is in
    let few = c.requires.few in
    subst (λ (z : List TableKey × List AggRow). MayPour z.0 z.1 o.keys.keys o.rows.items) (λ i. (sym c.reserve.ensures.keys i, sym c.reserve-else-is_err.ensures.items i))
    (MayPour-held (length s.shape.values) s.snapshots o.snapshots s.keys.keys s.rows.items o.keys.keys o.rows.items c.self.invariant other (omega arith))

pub invariant_of-self-2 : goal.invariant_of-self-2
invariant_of-self-2 c =
    let s = c.self.inside in
    let o = c.other.inside in
    let cells : length o.shape.values ≡ length s.shape.values = ap (λ (v : TableShape). length v.values) (ap (λ (v : TableValue). v.shape) c.other.view_is ∙ c.requires.made ∙ sym (ap (λ (v : TableValue). v.shape) c.self.view_is)) in
    let other : AreHeld (length s.shape.values) o.snapshots o.keys.keys o.rows.items = subst (λ (n : ℕ). AreHeld n o.snapshots o.keys.keys o.rows.items) cells c.other.invariant in
    record {
      long = c.pour.ensures.long;
      each = c.pour.ensures.each (length s.shape.values) (subst (All (IsHeld (length s.shape.values))) (sym c.reserve-else-is_err.ensures.items) c.self.invariant.each) other.each;
      total = c.pour.ensures.total ∙ (λ i. sum_by size (c.reserve-else-is_err.ensures.items i) + sum_by size o.rows.items) ∙ (λ i. c.self.invariant.total i + other.total i);
    }

pub returns-clause-merged : goal.returns-clause-merged
returns-clause-merged c =
    let s = c.self.inside in
    let o = c.other.inside in
    record {
      shape = ap (λ (v : TableValue). v.shape) c.self.view_is;
      snapshots = λ i. (c.self.view_is i).snapshots + (c.other.view_is i).snapshots;
      tally = λ asked.
          c.pour.ensures.poured asked
          ∙ (λ i. both_held (tally asked (rows_of (c.reserve.ensures.keys i) (c.reserve-else-is_err.ensures.items i))) (tally asked (rows_of o.keys.keys o.rows.items)))
          ∙ sym (tally-append asked (rows_of s.keys.keys s.rows.items) (rows_of o.keys.keys o.rows.items))
          ∙ (λ i. tally asked ((c.self.view_is i).rows ++ (c.other.view_is i).rows));
    }

-- without rows of its own
pub returns-then-is_empty-clause-merged : goal.returns-then-is_empty-clause-merged
returns-then-is_empty-clause-merged c =
    let s = c.self.inside in
    let was = c.args.self.now in
    let other = c.args.other in
    let none : vec_len s.rows ≡ 0 =
    eqb-true (vec_len s.rows) 0 (sym c.is_empty.ensures ∙ c.if-is_empty.true) in
    let long = s.rows.ok.0 in
    let empty : s.rows.items ≡ [] = nil_from_length s.rows.items (omega (arith, none, long)) in
    subst (λ (t : TableValue). Same t (merged_tables was other)) (sym c.put_back.ensures)
    (becomes (length s.shape.values) s.snapshots s.keys.keys s.rows.items c.self.invariant empty
    was other (sym (ap (λ (v : TableValue). v.rows) c.self.view_is))
    (sym (ap (λ (v : TableValue). v.snapshots) c.self.view_is)) c.requires.made)
