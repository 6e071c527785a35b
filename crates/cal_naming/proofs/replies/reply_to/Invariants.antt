use Rattle.std.proofs.Common.{◌≡◌, take}
use Rattle.cal_naming.specs.Replies.{replies_to}
use Rattle.cal_naming.proofs.replies.reply_to.Given as goal

-- those of the answers so far
abbrev pub invariant-loop-answer : goal.invariant-loop-answer
invariant-loop-answer l = l.replies.items ≡ replies_to (take l.answer-index l.answers)
