use Rattle.std.proofs.Common.{◌≡◌, ◌++◌, map, length, take, drop, vec_len}
use Rattle.crossbeam_channel.specs.Claims.{IsSeatAt, view}
use Rattle.crossbeam_channel.specs.Ends.{sends_on}
use Rattle.cal_mail.specs.Ends.{AreEndedOf}
use Rattle.cal_mail.proofs.Ending.{told_of}
use Rattle.cal_mail.proofs.finish.take_all.Given as goal

-- those behind the ones that are left were taken in
abbrev pub invariant-loop-one : goal.invariant-loop-one
invariant-loop-one g l = record {
  at : IsSeatAt (sends_on l.own) l.pass;
  live : (view l.pass).live ≡ (view l.initial.pass).live;
  sender : (view l.pass).sender ≡ (view l.initial.pass).sender;
  got : (view l.pass).got ≡ (view l.initial.pass).got;
  ended : AreEndedOf (sends_on l.own) l.ended.items;
  split : l.initial.ended.items ≡ l.ended.items ++ drop (length l.ended.items) l.initial.ended.items;
  others : (view l.pass).others ≡ take (length l.ended.items) (view l.initial.pass).others
      ++ map told_of (drop (length l.ended.items) l.initial.ended.items);
}

abbrev pub decreases-loop-one : goal.decreases-loop-one
decreases-loop-one g l = vec_len l.ended
