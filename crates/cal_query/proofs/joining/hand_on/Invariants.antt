use Rattle.std.proofs.Common.{◌≡◌, ◌++◌, List, map}
use Rattle.std.specs.List.{All}
use Rattle.std.specs.Vec.Iter.{into_iter_items}
use Rattle.cal_value.specs.declared.record.Rec.{Rec}
use Rattle.cal_context.specs.Snapshots.{IsIn, entry_of, meaning}
use Rattle.cal_context.specs.Taking.{TakesMore}
use Rattle.cal_query.specs.Joining.{with_entries}
use Rattle.cal_query.proofs.joining.hand_on.Given as goal

-- what was handed on, and what is left, are all of it
abbrev pub invariant-loop-snapshot : goal.invariant-loop-snapshot
invariant-loop-snapshot g l =
    let taken = g.T.Taker in
    let joined : List Rec → List Rec = λ rows.
    map (with_entries (map (entry_of l.context) l.fn.globals.items)) rows in
    let left = into_iter_items l.snapshot-iterator in
    record {
      are_in : All (IsIn l.context) left;
      globals : l.globals.items ≡ l.fn.globals.items;
      handed : (done : List Rec)
          × TakesMore (taken.has_taken l.fn.taker l.context) (taken.has_taken l.taker l.context) done
          × (done ++ joined (map (meaning l.context) left)
          ≡ joined (map (meaning l.context) l.fn.kept.items));
      about : taken.about l.taker ≡ taken.about l.fn.taker;
    }
