use Rattle.std.proofs.Common.{◌≤◌, length, take}
use Rattle.std.specs.Io.KnownBytes.{Appends}
use Rattle.cal_base.proofs.std_sink.write_retrying.Given as goal

-- the front of the piece that was written so far
abbrev pub invariant-loop : goal.invariant-loop
invariant-loop g l = let contents = g.W.Write.contents in record {
  front : Appends (contents l.initial.writer) (contents l.writer) (take l.done l.bytes);
  within : l.done ≤ length l.bytes;
}
