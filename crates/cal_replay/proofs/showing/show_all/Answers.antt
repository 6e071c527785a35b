use Rattle.std.proofs.Common.{◌≡◌, ◌<◌, ◌∙◌, get_or, length, refl, sym, ap, arith}
use Rattle.std.specs.Prelude.{List, Some, slice_get}
use Rattle.std.proofs.lemmas.Option.{slice_get-get_or, slice_get_read}
use Rattle.cal_script.specs.declared.script.Channel.{Channel}
use Rattle.cal_replay.proofs.ShowingLemmas.{room-at, shown-all, shown-next, shown-none}
use Rattle.cal_replay.proofs.showing.show_all.Goals as goal

pub loop-place-init : goal.loop-place-init
loop-place-init g c = shown-none c.args.common.now c.args.numbers.now c.args.thread.now
    c.args.shown c.args.channels.now

pub show_to-requires-clause-room : goal.show_to-requires-clause-room
show_to-requires-clause-room g c =
    let now = c.loop-place.channels in
    let place = c.loop-place.place in
    let within : place < length now = omega arith in
    room-at c.args.common.now c.args.numbers.now c.args.thread.now c.args.shown
    c.args.channels.now now place (get_or now place c.index-channels-place.result)
    c.requires.may.room c.loop-place.invariant
    (slice_get-get_or now place c.index-channels-place.result within)

pub loop-place-preserved : goal.loop-place-preserved
loop-place-preserved g c =
    let now = c.loop-place.channels in
    let place = c.loop-place.place in
    let channels = c.as_slice.result.now in
    let many = c.requires.may.many in
    let long = ap length c.as_slice.ensures in
    let within : place < length now = omega arith in
    let there : place < length channels = omega (arith, many, long) in
    let at : slice_get c.args.common.now.script.now.channels place
    ≡ Some c.index-as_slice-place.result =
    ap (λ (cs : List Channel). slice_get cs place) (sym c.as_slice.ensures)
    ∙ slice_get_read channels (length channels) place c.index-as_slice-place.result refl there
    c.index-as_slice-place.is in
    let here = slice_get-get_or now place c.index-channels-place.result within in
    shown-next c.args.common.now c.args.numbers.now c.args.thread.now c.args.shown
    c.args.channels.now now place c.index-as_slice-place.result
    (get_or now place c.index-channels-place.result) c.show_to.new.kept c.loop-place.invariant
    at here c.in_ok-show_to.ensures

pub returns : goal.returns
returns g c =
    let many = c.requires.may.many in
    shown-all c.args.common.now c.args.numbers.now c.args.thread.now c.args.shown
    c.args.channels.now c.loop-place.channels c.loop-place.place c.loop-place.invariant
    (omega (arith, many))
