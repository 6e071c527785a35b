use Rattle.std.proofs.Common.{List, sym, subst}
use Rattle.cal_naming.proofs.Whole.{naming}
use Rattle.cal_naming.specs.Naming.{IsNaming}
use Rattle.cal_naming.specs.declared.reply.NameReply.{NameReply}
use Rattle.cal_naming.proofs.naming.tell.Goals as goal

pub returns : goal.returns
returns c =
    let threads = c.args.threads.now in
    let kept = c.in_ok-kept.kept in
    subst (λ (rs : List (List NameReply)). IsNaming threads kept rs)
    (sym c.in_ok-replies.ensures)
    (naming threads c.args.answers.now kept c.in_ok-kept.ensures)
