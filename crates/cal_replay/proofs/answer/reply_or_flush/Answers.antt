use Rattle.std.proofs.Common.{subst}
use Rattle.cal_replay.proofs.OwnLines.{board-flushes, flush-flushes, flush-placed}
use Rattle.cal_replay.specs.Steps.{HasReply}
use Rattle.cal_replay.proofs.answer.reply_or_flush.Goals as goal

pub flush-requires : goal.flush-requires
flush-requires g c =
    let r = c.requires.ready in
    record {
      ready = (
        r.0,
        r.1,
        r.2,
        r.3,
        flush-placed r.0 c.args.line
            (subst (HasReply c.args.line) c.in-None.is c.requires.found) c.flushed.result
            c.flushed.ensures r.4,
      );
    }

pub returns-in-Some-clause-flushes : goal.returns-in-Some-clause-flushes
returns-in-Some-clause-flushes g c =
    board-flushes g.F.Keeper.flushed c.args.keeper.now c.args.line c.in-Some.reply
    (subst (HasReply c.args.line) c.in-Some.is c.requires.found)

pub returns-in_ok-reply-in-None-clause-flushes : goal.returns-in_ok-reply-in-None-clause-flushes
returns-in_ok-reply-in-None-clause-flushes g c =
    flush-flushes g.F.Keeper.flushed c.args.keeper.now c.flush.new.self c.args.line
    (subst (HasReply c.args.line) c.in-None.is c.requires.found) c.flushed.result c.flushed.ensures
    c.in_ok-reply-in-None.reply c.in_ok-reply-in-None.ensures.flushed
