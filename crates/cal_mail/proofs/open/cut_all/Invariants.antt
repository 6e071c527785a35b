use Rattle.std.proofs.Common.{◌≡◌, true, None, [], length}
use Rattle.crossbeam_channel.specs.Claims.{IsSeatAt, view}
use Rattle.crossbeam_channel.specs.Ends.{sends_on}
use Rattle.cal_mail.specs.Ends.{AreNewSenders}
use Rattle.cal_mail.proofs.open.cut_all.Given as goal

-- there is a sender for each number so far
abbrev pub invariant-loop-number : goal.invariant-loop-number
invariant-loop-number g l = record {
  at : IsSeatAt (sends_on l.own) l.pass;
  live : (view l.pass).live ≡ true;
  collects : (view l.pass).sender ≡ None;
  got : (view l.pass).got ≡ [];
  others : length (view l.pass).others ≡ l.number;
  long : length l.all.items ≡ l.number;
  senders : AreNewSenders (sends_on l.own) l.all.items;
}
