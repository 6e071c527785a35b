use Rattle.std.proofs.Common.{◌<◌, length, arith}
use Rattle.cal_context.proofs.CallerLemmas.{Grows-trans}
use Rattle.cal_run.proofs.HeldLemmas.{process_board-more}
use Rattle.cal_run.proofs.NumberLemmas.{AreNumbered-Grows}
use Rattle.cal_run.proofs.process.Process.take_more.Goals as goal

pub loop-place-preserved : goal.loop-place-preserved
loop-place-preserved c =
    let old = c.loop-place.invariant in
    let step = c.in_ok-place_on.ensures in
    let within = c.requires.within in
    let below : c.loop-place.place < length c.args.history.now = omega (arith, within) in
    let p = c.placed_at-placed.result in
    record {
      holds = process_board-more c.place_on.new.context c.args.script.now c.args.history.now
          c.loop-place.place p c.place_on.new.board
          (c.placed_at-placed.ensures p) below (step.changed _ old.holds);
      numbered = AreNumbered-Grows step.grows c.args.script.now c.args.numbers.now old.numbered;
      grows = Grows-trans _ _ _ old.grows step.grows;
    }
