use Rattle.std.proofs.Common.{◌<◌, ◌≤◌, List, length, get_or, refl, ap, subst, ◌∙◌}
use Rattle.std.specs.List.{flat_map, list_any}
use Rattle.std.proofs.lemmas.List.{take_all}
use Rattle.cal_context.proofs.CallerLemmas.{Grows-refl, Grows-trans}
use Rattle.cal_context.specs.Taking.{TakesMore}
use Rattle.cal_run.proofs.NumberLemmas.{AreNumbered-Grows}
use Rattle.cal_records.specs.Records.{channel_rows}
use Rattle.cal_run.specs.Plain.{plain}
use Rattle.cal_records.specs.Told.{is_kept}
use Rattle.cal_records.proofs.TakingLemmas.{counted-more, taken-more, takes-none}
use Rattle.cal_script.specs.declared.script.Channel.{Channel}
use Rattle.cal_records.proofs.run.take_plain_run.Goals as goal

pub loop-channel-init : goal.loop-channel-init
loop-channel-init g c = record {
  numbered = c.requires.numbered;
  grows = Grows-refl _;
  taken = takes-none (g.T.Taker.has_taken c.args.taker.now c.args.context.now);
  about = refl;
  refused = tt;
  counted = refl;
}

pub loop-channel-preserved : goal.loop-channel-preserved
loop-channel-preserved g c =
    let old = c.loop-channel.invariant in
    let next = c.in_ok-counted.ensures in
    let has_taken = g.T.Taker.has_taken in
    let i = c.loop-channel.channel-index in
    let channel = c.channel-item.result in
    let all = c.as_slice-channel-items.ensures in
    record {
      numbered = AreNumbered-Grows next.grows _ _ old.numbered;
      grows = Grows-trans _ _ _ old.grows next.grows;
      taken = taken-more (channel_rows c.args.script.now (plain c.args.script.now))
          (has_taken c.args.taker.now c.args.context.now)
          (has_taken c.loop-channel.taker c.loop-channel.context)
          (has_taken c.take_rows_of.new.taker c.take_rows_of.new.context)
          c.args.script.now.channels i channel
          (subst (λ (xs : List Channel). i < length xs) all c.loop-channel-test.true)
          (c.channel-item.is ∙ ap (λ (xs : List Channel). get_or xs i channel) all)
          old.taken next.taken;
      about = next.about ∙ old.about;
      refused = c.either-refused.ensures.refused;
      counted = counted-more is_kept c.args.script.now.channels i channel c.loop-channel.refused
          c.in_ok-counted.counted c.either-refused.result
          (subst (λ (xs : List Channel). i < length xs) all c.loop-channel-test.true)
          (c.channel-item.is ∙ ap (λ (xs : List Channel). get_or xs i channel) all)
          old.counted next.counted c.either-refused.ensures.counted;
    }

pub returns-in_err-counted-clause-grows : goal.returns-in_err-counted-clause-grows
returns-in_err-counted-clause-grows g c =
    Grows-trans _ _ _ c.loop-channel.invariant.grows c.take_rows_of.ensures.grows

pub returns-clause-about : goal.returns-clause-about
returns-clause-about g c = c.loop-channel.invariant.about

pub returns-clause-taken : goal.returns-clause-taken
returns-clause-taken g c =
    let has_taken = g.T.Taker.has_taken in
    let i = c.loop-channel.channel-index in
    subst (λ (l : List Channel). TakesMore (has_taken c.args.taker.now c.args.context.now)
    (has_taken c.loop-channel.taker c.loop-channel.context)
    (flat_map (channel_rows c.args.script.now (plain c.args.script.now)) l))
    (take_all i c.args.script.now.channels
    (subst (λ (xs : List Channel). length xs ≤ i) c.as_slice-channel-items.ensures
    c.loop-channel-test.false))
    c.loop-channel.invariant.taken

pub returns-clause-counted : goal.returns-clause-counted
returns-clause-counted g c =
    c.loop-channel.invariant.counted ∙ ap (list_any is_kept)
    (take_all c.loop-channel.channel-index c.args.script.now.channels
    (subst (λ (xs : List Channel). length xs ≤ c.loop-channel.channel-index)
    c.as_slice-channel-items.ensures c.loop-channel-test.false))
