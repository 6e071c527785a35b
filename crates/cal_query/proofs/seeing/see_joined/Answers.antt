use Rattle.std.proofs.Common.{◌∙◌}
use Rattle.cal_query.proofs.Layouts.{sees_joined}
use Rattle.cal_query.proofs.seeing.see_joined.Goals as goal

pub read_stream-requires : goal.read_stream-requires
read_stream-requires g c = c.new.ensures.taken _ c.requires

pub returns-clause-taken : goal.returns-clause-taken
returns-clause-taken g c =
    let read = c.in_ok-read.ensures.read in
    sees_joined g.T.Taker.has_taken c.args.limit _ read.0 c.in_ok-read.read _ read.1 read.2
    c.in_ok-join.ensures.taken

pub returns-clause-about : goal.returns-clause-about
returns-clause-about g c =
    c.in_ok-join.ensures.about ∙ c.in_ok-read.ensures.about ∙ c.new.ensures.about
