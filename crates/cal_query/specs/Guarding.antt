-- Rows that a guard lets through, while the context grows (private).
use Rattle.std.specs.Prelude.{List, filter}
use Rattle.cal_context.specs.Tree.{Tree, Grows}
use Rattle.cal_filter.specs.Conditions.{where_holds}
use Rattle.cal_ql.specs.declared.query.Cond.{Cond}
use Rattle.cal_value.specs.declared.record.Rec.{Rec}
use Rattle.cal_query.specs.declared.guarded.Guarded.{Guarded}

module _ {K T : Type 0} (conditions : List Cond) (answers_in : K → Tree → Type 0)
    (has_taken : T → Tree → List Rec → Type 0) where
  -- of these rows the taker has taken those of which the conditions hold, and the guard answers on
  pub record HasLetThrough (guarded : Guarded K T) (t : Tree) (rows : List Rec) : Type 0 where
    pub answers : answers_in guarded.guard t
    pub taken : has_taken guarded.taker t (filter (where_holds conditions) rows)

  pub HasLetThrough-stays : ((guard : K) (old new : Tree) → answers_in guard old → Grows old new
      → answers_in guard new)
      → ((taker : T) (old new : Tree) (rs : List Rec) → has_taken taker old rs → Grows old new
      → has_taken taker new rs)
      → (guarded : Guarded K T) (old new : Tree) (rows : List Rec)
      → HasLetThrough guarded old rows → Grows old new → HasLetThrough guarded new rows
  HasLetThrough-stays keeps_on stays guarded old new rows has grows = record {
    answers = keeps_on guarded.guard old new has.answers grows;
    taken = stays guarded.taker old new (filter (where_holds conditions) rows) has.taken grows;
  }
