use Rattle.std.proofs.Common.{◌∙◌, ◌<◌, ◌++◌, List, [], ◌∷◌, ap, arith, length, refl, sym, take}
use Rattle.std.proofs.lemmas.List.{take_all}
use Rattle.std.proofs.lemmas.Option.{slice_get_read}
use Rattle.cal_channel.specs.Values.{ChannelValue}
use Rattle.cal_keeping.proofs.FreshChannels.{length-new_for, take-new_for}
use Rattle.cal_keeping.specs.Kept.{new_for}
use Rattle.cal_keeping.proofs.channels.new_channels.Goals as goal

pub loop-place-preserved : goal.loop-place-preserved
loop-place-preserved c =
    let channels = c.args.channels.now in
    let shapes = c.args.shapes.now in
    let place = c.loop-place.place in
    let many = c.requires in
    let less : place < length channels = omega arith in
    let also : place < length shapes = omega (arith, less, many) in
    let next = take-new_for channels shapes place c.index-channels-place.result
    c.index-shapes-place.result many
    (slice_get_read channels (length channels) place c.index-channels-place.result refl less
    c.index-channels-place.is)
    (slice_get_read shapes (length shapes) place c.index-shapes-place.result refl also
    c.index-shapes-place.is) in
    c.in_ok-push.ensures.items
    ∙ ap (λ (made : List ChannelValue). made ++ c.in_ok-new_channel.field-0 ∷ [])
    c.loop-place.invariant
    ∙ ap (λ (x : ChannelValue). take place (new_for channels shapes) ++ x ∷ [])
    c.in_ok-new_channel.ensures ∙ sym next

pub returns : goal.returns
returns c =
    let channels = c.args.channels.now in
    let shapes = c.args.shapes.now in
    let all = c.loop-place-test.false in
    let many = length-new_for channels shapes c.requires in
    c.loop-place.invariant
    ∙ take_all c.loop-place.place (new_for channels shapes) (omega (arith, all, many))
