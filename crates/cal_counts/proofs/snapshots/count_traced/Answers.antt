use Rattle.std.proofs.Common.{◌≡◌, ◌<◌, ◌≤◌, List, length, get_or, subst, ◌∙◌, arith}
use Rattle.cal_records.specs.Records.{traced}
use Rattle.cal_script.specs.declared.script.Channel.{Channel}
use Rattle.cal_counts.proofs.CountingLemmas.{sum-all, sum-more}
use Rattle.cal_counts.proofs.snapshots.count_traced.Goals as goal

pub overflow_add-count : goal.overflow_add-count
overflow_add-count c =
    let script = c.args.script.now in
    let i = c.loop-channel.channel-index in
    let below : i < length script.channels =
    subst (λ (cs : List Channel). i < length cs) c.as_slice-channel-items.ensures
    c.loop-channel-test.true in
    omega (
      arith,
      below,
      c.requires.runnable.few_channels,
      c.count_in_trace-count.ensures.few,
      c.loop-channel.invariant.few,
    )

pub loop-channel-preserved : goal.loop-channel-preserved
loop-channel-preserved c =
    let script = c.args.script.now in
    let journal = c.args.journal.now in
    let i = c.loop-channel.channel-index in
    let ch = c.channel-item.result in
    let at : ch ≡ get_or script.channels i ch = c.channel-item.is
    ∙ (λ j. get_or (c.as_slice-channel-items.ensures j) i ch) in
    let below : i < length script.channels =
    subst (λ (cs : List Channel). i < length cs) c.as_slice-channel-items.ensures
    c.loop-channel-test.true in
    record {
      counted = sum-more (λ (x : Channel). length (traced script journal x)) script.channels i ch
          c.loop-channel.count c.count_in_trace-count.result below at
          c.count_in_trace-count.ensures.counted c.loop-channel.invariant.counted;
      few = omega (arith, c.count_in_trace-count.ensures.few, c.loop-channel.invariant.few);
    }

pub returns : goal.returns
returns c =
    let script = c.args.script.now in
    let journal = c.args.journal.now in
    let i = c.loop-channel.channel-index in
    let past : length script.channels ≤ i =
    subst (λ (cs : List Channel). length cs ≤ i) c.as_slice-channel-items.ensures
    c.loop-channel-test.false in
    sum-all (λ (x : Channel). length (traced script journal x)) script.channels i
    c.loop-channel.count past c.loop-channel.invariant.counted
