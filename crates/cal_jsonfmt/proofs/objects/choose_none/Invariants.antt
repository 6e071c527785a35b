use Rattle.std.proofs.Common.{◌≡◌, None, replicate}
use Rattle.cal_jsonfmt.proofs.objects.choose_none.Given as goal

abbrev pub invariant-loop-key : goal.invariant-loop-key
invariant-loop-key l = l.chosen.items ≡ replicate l._key None
