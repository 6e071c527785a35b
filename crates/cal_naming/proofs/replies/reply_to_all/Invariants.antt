use Rattle.std.proofs.Common.{◌≡◌, take}
use Rattle.cal_naming.specs.Replies.{all_replies}
use Rattle.cal_naming.proofs.replies.reply_to_all.Given as goal

-- those of the threads so far
abbrev pub invariant-loop-own : goal.invariant-loop-own
invariant-loop-own l = l.replies.items ≡ all_replies (take l.own-index l.answers)
