use Rattle.std.proofs.Common.{◌≡◌}
use Rattle.crossbeam_channel.specs.Claims.{IsSeatAt, view}
use Rattle.crossbeam_channel.specs.Ends.{sends_on}
use Rattle.cal_mail.proofs.ends.post.Given as goal

-- nothing was done so far
abbrev pub invariant-loop : goal.invariant-loop
invariant-loop g l =
    (goal.iterator-loop g).can_next l.iterator' × (goal.iterator-loop g).is_finite l.iterator'
    × IsSeatAt (sends_on l.fn.end) l.pass × (view l.pass ≡ view l.initial.pass) × (l.mail ≡ l.initial.mail)
