use Rattle.std.proofs.Common.{◌≡◌, ◌≤◌, filter, length, take}
use Rattle.std.specs.List.{All}
use Rattle.cal_value.specs.Reading.{IsSmall}
use Rattle.cal_engine.specs.Looked.{is_looked}
use Rattle.cal_engine.proofs.gate.put_looked.Given as goal

abbrev pub invariant-loop-imm : goal.invariant-loop-imm
invariant-loop-imm l = record {
  front : take l.place l.imms.items ≡ filter (λ imm. is_looked l.looked imm.attribute) (take l.imm-index l.others);
  within : l.place ≤ length l.imms.items;
  small : All (λ imm. IsSmall imm.value) (take l.place l.imms.items);
}
