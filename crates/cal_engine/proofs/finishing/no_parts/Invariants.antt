use Rattle.std.proofs.Common.{◌≡◌, [], take}
use Rattle.cal_parts.specs.Parts.{parts_over}
use Rattle.cal_engine.proofs.finishing.no_parts.Given as goal

abbrev pub invariant-loop-agg : goal.invariant-loop-agg
invariant-loop-agg l = l.parts.items ≡ parts_over (take l.agg-index l.aggs) []
