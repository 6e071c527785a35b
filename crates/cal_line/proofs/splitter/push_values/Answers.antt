use Rattle.std.proofs.Common.{◌≡◌, ◌<◌, length, get_or, ap, arith}
use Rattle.std.proofs.lemmas.Str.{IsCharBoundary-after_ascii}
use Rattle.cal_line.proofs.SplitSteps.{PushesValues-start, PushesValues-more}
use Rattle.cal_line.proofs.splitter.push_values.Goals as goal

pub loop-place-init : goal.loop-place-init
loop-place-init c =
    record { pushes = PushesValues-start c.args.line.now c.args.start c.args.values.now.items c.requires.start; stop = c.requires.stop }

pub scan_piece-requires : goal.scan_piece-requires
scan_piece-requires c =
    let within : c.loop-place.place < length c.args.line.now = omega (arith, ap length c.as_bytes-bytes.ensures.value) in
    let sign : get_or c.args.line.now c.loop-place.place 0 ≡ 61 = rw c.as_bytes-bytes.ensures.value at c.if-bytes-place-eq61.true in
    IsCharBoundary-after_ascii c.args.line.now c.loop-place.place c.utf8.line within (omega arith)

pub loop-place-preserved : goal.loop-place-preserved
loop-place-preserved c =
    let within : c.loop-place.place < length c.args.line.now = omega (arith, ap length c.as_bytes-bytes.ensures.value) in
    let sign : get_or c.args.line.now c.loop-place.place 0 ≡ 61 = rw c.as_bytes-bytes.ensures.value at c.if-bytes-place-eq61.true in
    record {
      pushes = rw c.in_ok-push.ensures (PushesValues-more c.args.line.now c.args.start c.loop-place.place c.args.values.now.items c.loop-place.values.items c.in-Some.value c.loop-place.invariant.pushes within sign c.in-Some.ensures.span c.in-Some.ensures.start c.in-Some.ensures.read);
      stop = c.in-Some.ensures.stop;
    }
