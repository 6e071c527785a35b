-- Snapshots that are kept, and that they mean the same records while the context grows (private).
use Rattle.std.proofs.Common.{◌≡◌, List, [], get_or, map, ◌∙◌}
use Rattle.std.specs.List.{All}
use Rattle.cal_value.specs.declared.record.Rec.{Rec}
use Rattle.cal_context.specs.Snapshots.{IsIn, meaning}
use Rattle.cal_context.specs.Tree.{Tree, Grows}
use Rattle.cal_context.proofs.CallerLemmas.{IsIn-Grows, meaning-Grows}
use Rattle.cal_context.proofs.ListLemmas.{map-alike}
use Rattle.cal_query.specs.declared.joining.Kept.{Kept}

module _ {T : Type 0} (has_taken : T → Tree → List Rec → Type 0) where
  -- the snapshots that are kept mean these records, and whoever waits for them has taken none
  pub record HasKept (kept : Kept T) (t : Tree) (rs : List Rec) : Type 0 where
    pub are_in : All (IsIn t) kept.snapshots.items
    pub mean : map (meaning t) kept.snapshots.items ≡ rs
    pub waits : has_taken kept.waiting t []

  pub HasKept-stays : ((taker : T) (old new : Tree) (rs : List Rec) → has_taken taker old rs
      → Grows old new → has_taken taker new rs)
      → (kept : Kept T) (old new : Tree) (rs : List Rec) → HasKept kept old rs
      → Grows old new → HasKept kept new rs
  HasKept-stays stays kept old new rs has grows = record {
    are_in = λ k d l. IsIn-Grows grows (get_or kept.snapshots.items k d) (has.are_in k d l);
    mean =
        map-alike (meaning new) (meaning old) kept.snapshots.items
        (λ k d l. meaning-Grows grows (get_or kept.snapshots.items k d) (has.are_in k d l))
        ∙ has.mean;
    waits = stays kept.waiting old new [] has.waits grows;
  }
