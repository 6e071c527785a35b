use Rattle.std.proofs.Common.{◌≡◌, ◌+◌, ◌++◌, take}
use Rattle.cal_line.specs.Escapes.{escaped}
use Rattle.cal_write.proofs.placing.put_plain.Given as goal

-- the bytes so far are put, and each is written as it is
abbrev pub invariant-loop-place : goal.invariant-loop-place
invariant-loop-place l = record {
  front : take l.at l.bytes ≡ take l.at l.fn.bytes;
  written : take (l.at + l.place) l.bytes ≡ take l.at l.fn.bytes ++ take l.place l.text;
  plain : escaped (take l.place l.text) ≡ take l.place l.text;
}
