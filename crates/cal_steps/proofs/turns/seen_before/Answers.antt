use Rattle.std.proofs.Common.{arith}
use Rattle.cal_steps.proofs.TurningLemmas.{seen-back}
use Rattle.cal_steps.proofs.turns.seen_before.Goals as goal

pub returns-else-place-eq0 : goal.returns-else-place-eq0
returns-else-place-eq0 c = let some = c.if-place-eq0.false in
    seen-back 0 c.args.notes.now c.args.place _ (omega (arith, some)) c.requires
