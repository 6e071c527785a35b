-- Tables may be merged in any order, and stand for the same.
use Rattle.std.specs.Prelude.{◌≡◌, ◌+◌, Bool, Option, None, Some, List, [], ◌∷◌, ◌++◌, refl}
use Rattle.std.proofs.Common.{sym, ap, ◌∙◌, append_assoc, arith}
use Rattle.cal_agg.specs.RowLaws.{merged_row-comm, merged_row-assoc}
use Rattle.cal_agg.specs.declared.row.AggRow.{AggRow}
use Rattle.cal_table.specs.declared.key.TableKey.{TableKey}
use Rattle.cal_table.specs.declared.shape.TableShape.{TableShape}
use Rattle.cal_table.specs.Rows.{Row, both_held, held_at, tally}
use Rattle.cal_table.specs.Tables.{Same, TableValue, empty_table, merged_tables}

pub both_held-none : (a : Option AggRow) → both_held a None ≡ a
both_held-none None = refl
both_held-none (Some a) = refl

pub both_held-comm : (a b : Option AggRow) → both_held a b ≡ both_held b a
both_held-comm None None = refl
both_held-comm None (Some b) = refl
both_held-comm (Some a) None = refl
both_held-comm (Some a) (Some b) = ap Some (merged_row-comm a b)

pub both_held-assoc : (a b c : Option AggRow)
    → both_held (both_held a b) c ≡ both_held a (both_held b c)
both_held-assoc None b c = refl
both_held-assoc (Some a) None c = refl
both_held-assoc (Some a) (Some b) None = refl
both_held-assoc (Some a) (Some b) (Some c) = ap Some (merged_row-assoc a b c)

-- two lists of rows, one behind the other
pub tally-append : (asked : TableKey → Bool) (xs ys : List Row)
    → tally asked (xs ++ ys) ≡ both_held (tally asked xs) (tally asked ys)
tally-append asked [] ys = refl
tally-append asked (x ∷ xs) ys =
    ap (both_held (held_at asked x)) (tally-append asked xs ys)
    ∙ sym (both_held-assoc (held_at asked x) (tally asked xs) (tally asked ys))

pub Same-refl : (a : TableValue) → Same a a
Same-refl a = record { shape = refl; snapshots = refl; tally = λ asked. refl }

pub Same-sym : (a b : TableValue) → Same a b → Same b a
Same-sym a b h = record {
  shape = sym h.shape;
  snapshots = sym h.snapshots;
  tally = λ asked. sym (h.tally asked);
}

pub Same-trans : (a b c : TableValue) → Same a b → Same b c → Same a c
Same-trans a b c h k = record {
  shape = h.shape ∙ k.shape;
  snapshots = h.snapshots ∙ k.snapshots;
  tally = λ asked. h.tally asked ∙ k.tally asked;
}

-- merging keeps what tables stand for
pub Same-merged_tables : (a b c d : TableValue) → Same a b → Same c d
    → Same (merged_tables a c) (merged_tables b d)
Same-merged_tables a b c d h k = record {
  shape = h.shape;
  snapshots = λ i. h.snapshots i + k.snapshots i;
  tally = λ asked. tally-append asked a.rows c.rows
      ∙ (λ i. both_held (h.tally asked i) (k.tally asked i))
      ∙ sym (tally-append asked b.rows d.rows);
}

-- nothing merged is as it was
pub merged_tables-empty : (q : TableShape) (a : TableValue) → a.shape ≡ q
    → Same (merged_tables (empty_table q) a) a
merged_tables-empty q a made = record {
  shape = sym made;
  snapshots = omega arith;
  tally = λ asked. refl;
}

pub merged_tables-comm : (q : TableShape) (a b : TableValue) → a.shape ≡ q → b.shape ≡ q
    → Same (merged_tables a b) (merged_tables b a)
merged_tables-comm q a b one other = record {
  shape = one ∙ sym other;
  snapshots = omega arith;
  tally = λ asked. tally-append asked a.rows b.rows
      ∙ both_held-comm (tally asked a.rows) (tally asked b.rows)
      ∙ sym (tally-append asked b.rows a.rows);
}

pub merged_tables-assoc : (q : TableShape) (a b c : TableValue) → a.shape ≡ q → b.shape ≡ q
    → c.shape ≡ q
    → Same (merged_tables (merged_tables a b) c) (merged_tables a (merged_tables b c))
merged_tables-assoc q a b c one two three = record {
  shape = refl;
  snapshots = omega arith;
  tally = λ asked. ap (tally asked) (append_assoc a.rows b.rows c.rows);
}
