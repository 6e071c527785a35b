use Rattle.cal_lawful.proofs.WalkLemmas.{found-made}
use Rattle.cal_lawful.proofs.found.found_on.Goals as goal

pub returns : goal.returns
returns c = found-made c.args.script.now c.args.board.now c.args.line c.args.clock _ _ _ _
    c.reply_to_line-reply.ensures c.is_accepted-accepted.ensures c.looks.ensures c.is_read.ensures
