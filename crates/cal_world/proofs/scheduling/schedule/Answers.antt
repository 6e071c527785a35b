use Rattle.std.proofs.Common.{List, ◌≡◌, ◌∙◌, false, true}
use Rattle.cal_world.proofs.ScheduleLemmas.{rows-end, rows-next}
use Rattle.cal_world.specs.Events.{events_of}
use Rattle.cal_world.specs.Turns.{turns}
use Rattle.cal_world.specs.declared.turn.Turn.{Turn}
use Rattle.cal_world.proofs.scheduling.schedule.Goals as goal

pub loop-seen-preserved : goal.loop-seen-preserved
loop-seen-preserved c =
    let script = c.args.script.now in
    let ts : List Turn = turns script c.args.journal.now in
    let listed : c.as_slice-turns.result.now ≡ ts =
    c.as_slice-turns.ensures.value ∙ c.in_ok-listed.ensures in
    rows-next (events_of script c.args.journal.now) script ts _ c.loop-seen.seen
    c.loop-seen.events _ _ _ c.as_slice-turns.result.now listed c.loop-seen-test.true
    (c.in_ok-push_row.ensures true _ c.as_slice-turns.result.now
    c.in_ok-placed.ensures)
    (c.in_ok-push_row-2.ensures false _ c.as_slice-turns.result.now
    c.in_ok-others.ensures)
    c.loop-seen.invariant

pub returns : goal.returns
returns c = record {
  scheduled = rows-end (events_of c.args.script.now c.args.journal.now) c.args.script.now
      (turns c.args.script.now c.args.journal.now) _ c.loop-seen.seen
      c.loop-seen.events _ c.loop-seen-test.false c.loop-seen.invariant;
}
