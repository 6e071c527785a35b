use Rattle.std.proofs.Common.{ℕ, All, List, drop, length, map, subst, sym, ap, ◌∙◌, arith, refl}
use Rattle.std.proofs.lemmas.List.{take_at}
use Rattle.cal_channel.specs.Places.{lists_of}
use Rattle.cal_ending.specs.Joining.{AreInOrder}
use Rattle.cal_handover.specs.Places.{emptied}
use Rattle.cal_live_run.proofs.CollectedRuns.{collected-ended, collected-quiet, collected-ran}
use Rattle.cal_live_run.proofs.CollectedRuns.{collected-taken, gatherable}
use Rattle.cal_ran.proofs.Places.{length-left}
use Rattle.cal_thread.specs.Hiring.{HasHired}
use Rattle.cal_thread.specs.Threads.{HasSomeState}
use Rattle.cal_thread.specs.declared.thread.Thread.{Thread}
use Rattle.cal_live_run.proofs.ending.end_run.Goals as goal

pub gather_tables-requires : goal.gather_tables-requires
gather_tables-requires g c =
    gatherable g.S.Shapes.shapes c.args.run c.requires.run c.requires.shapes c.args.collected
    c.requires.collected _ (ap lists_of c.as_mut_slice.ensures.value)

pub end_threads-requires : goal.end_threads-requires
end_threads-requires g c =
    let shared = c.args.run.shared in
    let from = c.requires.collected.from in
    let threads = c.requires.collected.threads in
    let law = c.ended_threads_law.ensures in
    let ran = collected-ran g.S.Shapes.shapes c.args.run c.requires.run c.requires.shapes
    c.args.collected c.requires.collected in
    record {
      shared = c.requires.run.shared;
      hired = subst (λ (n : ℕ). HasHired shared.common c.args.first.tree c.args.first.log n)
          (sym (ap (λ (ts : List Thread). length ts) threads ∙ law.many shared from ran))
          c.requires.first;
      threads = subst (λ (ts : List Thread). All (HasSomeState shared.common) ts) (sym threads)
          (law.states shared from ran);
      order = subst (λ (ts : List Thread). AreInOrder ts) (sym threads)
          (law.order shared from ran);
    }

pub returns-clause-ended : goal.returns-clause-ended
returns-clause-ended g c =
    let run = c.args.run in
    let journal = c.in_ok-journal.journal in
    let valid = c.requires.valid in
    let new = c.gather_tables.new.channels in
    let was = c.args.collected.channels.items in
    let left = c.in_ok-alls.ensures.left in
    let many = length-left new was
    (left ∙ ap (λ cs. map (map emptied) (lists_of cs)) c.as_mut_slice.ensures.value) in
    let ok = c.args.collected.channels.ok in
    record {
      script_is = refl;
      runnable = c.requires.run.shared.common.runnable;
      layout = c.requires.run.tree;
      seat = c.in_ok-journal.ensures.seat;
      lawful = c.ended_runners_law.ensures.lawful run.shared c.requires.collected.from journal
          c.requires.run.shared
          (collected-ended g.S.Shapes.shapes run c.requires.run c.requires.shapes
          c.args.collected c.requires.collected journal c.in_ok-journal.ensures.noted
          c.in_ok-journal.ensures.known c.in_ok-journal.ensures.begins)
          c.in_ok-journal.ensures.real
          (c.in_ok-journal.ensures.noted ∙ c.requires.collected.notes);
      taken = collected-taken g.S.Shapes.shapes run c.requires.run c.requires.shapes
          c.args.collected c.requires.collected journal c.in_ok-journal.ensures.noted
          c.in_ok-journal.ensures.known c.in_ok-journal.ensures.begins
          (lists_of c.in_ok-alls.alls.items) _ (ap lists_of c.as_mut_slice.ensures.value)
          c.in_ok-alls.ensures.gathered _ c.in_ok-journal.ensures.joined
          record {
            declared = c.names_law.ensures.declared run.shared.common.script.now valid;
            all = c.names_law.ensures.all run.shared.common.script.now run.context.attributes
                valid c.requires.run.only c.has_each_once.ensures.attributes;
          }
          (λ channel there. record {
            trace = c.traces_law.ensures run.shared.common.script.now journal channel valid there;
            few = c.limits_law.ensures.few run.shared.common.script.now journal channel valid;
            small = c.limits_law.ensures.small run.shared.common.script.now journal channel valid;
            sums = c.limits_law.ensures.sums run.shared.common.script.now journal channel valid
                there;
          })
          _ (ap lists_of (take_at new (drop (length new) was) c.args.collected.channels.len
          (omega (arith, many, ok))) ∙ left);
    }

pub returns-clause-quiet : goal.returns-clause-quiet
returns-clause-quiet g c =
    collected-quiet g.S.Shapes.shapes c.args.run c.requires.run c.requires.shapes
    c.args.collected c.requires.collected c.in_ok-journal.journal
    c.in_ok-journal.ensures.noted
