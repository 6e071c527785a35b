use Rattle.std.proofs.Common.{◌≡◌, ◌<◌, length, get_or, None}
use Rattle.cal_context.specs.Tree.{attribute_at}
use Rattle.cal_context.specs.declared.numbers.AttributeNumber.{AttributeNumber}
use Rattle.cal_rowset.specs.Filling.{names}
use Rattle.cal_rowset.specs.Rooms.{IsNamedAt}
use Rattle.cal_rowset.proofs.snapshot_row.attribute_places.Given as goal

-- of the attributes so far the places are known
abbrev pub invariant-loop-number : goal.invariant-loop-number
invariant-loop-number l = record {
  counted : length l.places.items ≡ l.number;
  known : (n : AttributeNumber) → n.0 < l.number → IsNamedAt (names l.cells) (attribute_at l.context n).name (get_or l.places.items n.0 None);
}
