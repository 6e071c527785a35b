use Rattle.std.proofs.Common.{◌-◌, length, drop, length-take, length-drop, arith}
use Rattle.std.proofs.KnownBytes.{Appends-kept}
use Rattle.cal_base.proofs.Growing.{Appends-next}
use Rattle.cal_base.proofs.std_sink.write_retrying.Goals as goal
use Rattle.cal_base.proofs.std_sink.write_retrying.Goals.{in-Ok, in-Err+else-ne}

-- a front of the piece more, or nothing more where a signal interrupted the write
pub loop-preserved : goal.loop-preserved
loop-preserved g c =
    let bytes = c.args.bytes.now in
    let done = c.loop.done in
    let so_far = c.loop.invariant in
    let room = length-take (length bytes - done) (drop done bytes) in
    elim c.match-write.branch [
      | in-Ok w ↦ record {
        front = rw w.done-is
            (Appends-next _ _ _ bytes done w.in-Ok.count so_far.front w.in-Ok.ensures.bytes);
        within = omega (arith, w.in-Ok.ensures.bound, room, length-drop done bytes);
      }
      | in-Err+else-ne w ↦ record {
        front = rw w.done-is (Appends-kept _ _ _ _ so_far.front w.in-Err.ensures.bytes);
        within = omega arith;
      }
    ]
