use Rattle.std.proofs.Common.{◌≡◌, ◌<◌, Ok, length, map, take}
use Rattle.std.specs.List.{All, zip}
use Rattle.cal_context.specs.Snapshots.{entry_of as imm_entry}
use Rattle.cal_context.specs.Tree.{attribute_at}
use Rattle.cal_read.specs.Fields.{each}
use Rattle.cal_read.specs.RecordLines.{entry_of}
use Rattle.cal_read.proofs.record_line.push_imms.Given as goal

abbrev pub invariant-loop-place : goal.invariant-loop-place
invariant-loop-place l = record {
  known : All (λ i. i.attribute.0 < length l.context.attributes) l.imms.items;
  read : each entry_of (take l.place (zip (map (attribute_at l.context) l.numbers) l.texts.values)) ≡ Ok (map (imm_entry l.context) l.imms.items);
}
