use Rattle.std.proofs.Common.{List, sym, ◌∙◌, subst, arith}
use Rattle.cal_collect.specs.Parts.{AreMergesOf}
use Rattle.cal_collect.specs.declared.part.Part.{Part}
use Rattle.cal_live_run.proofs.SentRuns.{all-ended, all-hired, sent-of, told-sent}
use Rattle.cal_mail.specs.Ends.{AreEndedOf, mailbox_of}
use Rattle.cal_live_run.proofs.running.run_all.Goals as goal

pub run_and_collect-requires-clause-hired : goal.run_and_collect-requires-clause-hired
run_and_collect-requires-clause-hired g c κs within =
    all-hired g.S.Shapes.shapes c.args.run.now (mailbox_of c.in_ok-runners.collector.collector)
    c.in_ok-runners.runners.items c.in_ok-runners.ensures.hired

pub run_and_collect-requires-clause-clocks : goal.run_and_collect-requires-clause-clocks
run_and_collect-requires-clause-clocks g c =
    let many = c.in_ok-runners.ensures.hired.many in
    let enough = c.requires.clocks in
    omega (arith, many, enough)

-- all senders have ended
pub hand_over-requires : goal.hand_over-requires
hand_over-requires g c = record {
  ended = all-ended g.S.Shapes.shapes c.args.run.now
      (mailbox_of c.in_ok-runners.collector.collector) c.in_ok-runners.runners.items
      c.in_ok-runners.ensures.hired g.K.Clock.given c.in_ok-done.done.items
      c.args.clocks.now.items c.run_and_collect.new.clocks.items c.in_ok-done.ensures.ran
      c.requires.clocks;
}

pub finish-tables-requires-clause-all : goal.finish-tables-requires-clause-all
finish-tables-requires-clause-all g c =
    let sent = sent-of g.S.Shapes.shapes c.args.run.now
    (mailbox_of c.in_ok-runners.collector.collector) c.in_ok-runners.runners.items
    c.in_ok-runners.ensures.hired g.K.Clock.given c.in_ok-done.done.items
    c.args.clocks.now.items c.run_and_collect.new.clocks.items c.in_ok-done.ensures.ran
    c.requires.clocks c.in_ok-sent.sent c.in_ok-sent.ensures in
    sent.many ∙ sym (c.in_ok-done.ensures.collected.senders ∙ c.in_ok-runners.ensures.senders)

pub finish-tables-requires-clause-ended : goal.finish-tables-requires-clause-ended
finish-tables-requires-clause-ended g c =
    let sent = sent-of g.S.Shapes.shapes c.args.run.now
    (mailbox_of c.in_ok-runners.collector.collector) c.in_ok-runners.runners.items
    c.in_ok-runners.ensures.hired g.K.Clock.given c.in_ok-done.done.items
    c.args.clocks.now.items c.run_and_collect.new.clocks.items c.in_ok-done.ensures.ran
    c.requires.clocks c.in_ok-sent.sent c.in_ok-sent.ensures in
    subst (λ m. AreEndedOf m c.in_ok-sent.sent.ended.items)
    (sym c.in_ok-done.ensures.collected.mailbox) sent.ended

pub returns-clause-collected : goal.returns-clause-collected
returns-clause-collected g c =
    let sent = sent-of g.S.Shapes.shapes c.args.run.now
    (mailbox_of c.in_ok-runners.collector.collector) c.in_ok-runners.runners.items
    c.in_ok-runners.ensures.hired g.K.Clock.given c.in_ok-done.done.items
    c.args.clocks.now.items c.run_and_collect.new.clocks.items c.in_ok-done.ensures.ran
    c.requires.clocks c.in_ok-sent.sent c.in_ok-sent.ensures in
    record {
      from = sent.from;
      sent = sent.have;
      threads = sent.threads;
      notes = sent.notes;
      channels = sent.channels;
      merged = subst (λ (sents : List (List Part)).
          AreMergesOf g.S.Shapes.shapes sents c.finish-tables.result.items) sent.sents
          c.finish-tables.ensures.merged;
    }

pub returns-clause-told : goal.returns-clause-told
returns-clause-told g c =
    told-sent g.S.Shapes.shapes c.args.run.now
    (mailbox_of c.in_ok-runners.collector.collector) c.in_ok-runners.runners.items
    c.in_ok-runners.ensures.hired g.K.Clock.given c.in_ok-done.done.items
    c.args.clocks.now.items c.run_and_collect.new.clocks.items c.in_ok-done.ensures.ran
    c.requires.clocks c.in_ok-sent.sent c.in_ok-sent.ensures
