use Rattle.std.proofs.Common.{◌≡◌, ◌≤◌, ◌⊎◌, List, length, take}
use Rattle.cal_value.specs.declared.attribute.Entry.{Entry}
use Rattle.cal_rowset.specs.Trails.{IsTrail}
use Rattle.cal_rowset.proofs.cells.Cells.keep.Given as goal

-- the first entries, as many as there are steps: all, or still enough
abbrev pub invariant-loop-self : goal.invariant-loop-self
invariant-loop-self l = record {
  same : l.self.names ≡ l.fn.self.names;
  kept : (entries : List Entry) → IsTrail l.fn.self entries → IsTrail l.self (take (length l.self.steps.items) entries);
  within : (entries : List Entry) → IsTrail l.fn.self entries → length l.self.steps.items ≤ length entries;
  enough : (entries : List Entry) → IsTrail l.fn.self entries → (length l.self.steps.items ≡ length entries) ⊎ (l.count ≤ length l.self.steps.items);
}

abbrev pub decreases-loop-self : goal.decreases-loop-self
decreases-loop-self l = length l.self.steps.items
