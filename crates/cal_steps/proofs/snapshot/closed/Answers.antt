use Rattle.std.proofs.Common.{ap, ◌∙◌}
use Rattle.cal_board.specs.Blackboard.{reply_to}
use Rattle.cal_steps.proofs.ClosingLemmas.{closes-some}
use Rattle.cal_steps.proofs.snapshot.closed.Goals as goal
use Rattle.cal_words.specs.declared.op.OpCode.TheVariants as code

pub last-requires : goal.last-requires
last-requires c =
    closes-some c.args.script.now c.args.board.now c.attr_ref.result c.requires.known
    (ap (reply_to c.args.board.now code.End) c.attr_ref.ensures ∙ c.requires.closes)
