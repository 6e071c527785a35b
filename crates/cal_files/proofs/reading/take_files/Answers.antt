use Rattle.std.proofs.Common.{◌<◌, length, refl, ◌∙◌, arith}
use Rattle.std.proofs.lemmas.Option.{slice_get_read}
use Rattle.std.proofs.lemmas.Result.{err_from_is_err_and}
use Rattle.cal_files.proofs.Reached.{AreFiles-read, StopsIn-then, bytes_of_all-read}
use Rattle.cal_files.proofs.reading.take_files.Goals as goal

-- the files before were read, and this one wasn't
pub returns-in_err-bytes-clause-refused : goal.returns-in_err-bytes-clause-refused
returns-in_err-bytes-clause-refused g c =
    let p = err_from_is_err_and c.from_residual.result c.from_residual.ensures.1 in
    let loop = c.loop-place.invariant in
    let within : c.loop-place.place < length c.args.names.now = omega arith in
    let named = slice_get_read c.args.names.now _ _ _ refl within c.index-names-place.is in
    let stops = rw (loop.content, c.as_str.ensures) at c.in_err-bytes.ensures.refused in
    rw (p.1, p.2) (StopsIn-then _ _ c.args.names.now _ _ _ _ _ _ _ _ _ _ _ _ _ _
    loop.each loop.left named within loop.openings loop.opens loop.reads stops)

-- a file more
pub loop-place-preserved : goal.loop-place-preserved
loop-place-preserved g c =
    let loop = c.loop-place.invariant in
    let within : c.loop-place.place < length c.args.names.now = omega arith in
    let named = slice_get_read c.args.names.now _ _ _ refl within c.index-names-place.is in
    let whole = rw (loop.content, c.as_str.ensures) at c.in_ok-bytes.ensures.whole in
    let grown = c.in_ok-push.ensures.items in
    let more = bytes_of_all-read _ _ _ grown in
    record {
      each = AreFiles-read _ c.args.names.now _ _ _ _ _ grown loop.each named whole;
      left = omega (
        arith,
        more,
        loop.left,
        c.len.ensures,
        c.in_ok-bytes.ensures.within,
        c.in_ok-bytes.bytes.ok.0,
      );
      openings = omega (arith, loop.openings, c.in_ok-bytes.ensures.opened);
      content = c.read_file.ensures.content ∙ loop.content;
      opens = omega (arith, loop.opens, c.read_file.ensures.opens);
      reads = omega (arith, loop.reads, c.read_file.ensures.reads);
      room = omega (arith, loop.room, c.read_file.auto.buffer);
    }
