use Rattle.std.proofs.Common.{sym, subst}
use Rattle.std.proofs.lemmas.Result.{on_ok_weaker}
use Rattle.cal_jsonfmt.specs.Writing.{WritesIf}
use Rattle.cal_jsonfmt.proofs.WritingLemmas.{WritesValue-member}
use Rattle.cal_jsonfmt.proofs.members.write_member.Goals as goal

pub returns : goal.returns
returns c =
    on_ok_weaker c.write_value.result
    (λ writes vs shows.
    subst (WritesIf c.args.writer.now c.write_value.new.writer c.args.key.now) (sym shows.there)
    (WritesValue-member c.args.writer.now c.key.new.self c.write_value.new.writer c.args.key.now _
    (c.in_ok-key.ensures.room.0, rw c.as_str.ensures at c.in_ok-key.ensures.ok) (writes shows.spelled)))
    c.write_value.ensures
