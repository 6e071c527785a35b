use Rattle.std.proofs.Common.{◌∙◌, ◌++◌, ap, arith, map, slice_set, sym, take}
use Rattle.std.specs.Prelude.{List}
use Rattle.std.proofs.lemmas.List.{append-nil, drop_all, take_all}
use Rattle.std.proofs.lemmas.List.Edits.{map_over_more}
use Rattle.cal_channel.specs.Values.{ChannelValue, started_at}
use Rattle.cal_keeping.proofs.channels.start_all.Goals as goal

pub loop-channel-preserved : goal.loop-channel-preserved
loop-channel-preserved c =
    let now = c.loop-channel.channels in
    let n = c.loop-channel.channel-index in
    let f : ChannelValue → ChannelValue =
    λ (x : ChannelValue). started_at x c.args.reading in
    ap (λ (x : ChannelValue). slice_set now n x) c.start.ensures
    ∙ ap (λ (x : ChannelValue). slice_set now n (f x)) (sym c.channel-item.is)
    ∙ map_over_more f c.args.channels.now now n c.channel-item.result (omega arith)
    c.loop-channel.invariant c.channel-item.is

pub returns : goal.returns
returns c =
    let old = c.args.channels.now in
    let n = c.loop-channel.channel-index in
    let f : ChannelValue → ChannelValue =
    λ (x : ChannelValue). started_at x c.args.reading in
    c.loop-channel.invariant
    ∙ ap (λ (rest : List ChannelValue). map f (take n old) ++ rest)
    (drop_all n old (omega arith))
    ∙ append-nil (map f (take n old)) ∙ ap (map f) (take_all n old (omega arith))
