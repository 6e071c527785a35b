use Rattle.std.proofs.Common.{◌≡◌, ◌<◌, ◌++◌, length, take, get_or, subst, ap, ◌∙◌, arith}
use Rattle.std.proofs.lemmas.Grind.{common_steps}
use Rattle.cal_engine.specs.Folding.{Gathers, groups_over}
use Rattle.cal_keys.specs.Groups.{groups_of, records_of}
use Rattle.cal_parts.specs.Parts.{parts_over}
use Rattle.cal_engine.proofs.GroupRows.{read_map}
use Rattle.cal_engine.proofs.Regroups.{groups_over-regrouped, regrouped, regrouped_more}
use Rattle.cal_engine.proofs.groups.Groups.gather_all.Goals as goal

pub loop-number-preserved : goal.loop-number-preserved
loop-number-preserved c = λ q rs ss is also.
    let n = c.loop-number.number in
    let key = c.key-item.result in
    let keys = c.as_slice-key-items.ensures.items ∙ ap (λ g. g.keys) c.other.view_is ∙ ap (λ g. g.keys) also in
    let parts = ap (λ g. g.parts) c.other.view_is ∙ ap (λ g. g.parts) also in
    let long = ap length keys in
    let within : n < length (groups_of q.group ss) = omega (arith, long, c.loop-number-test.true) in
    let at = c.key-item.is ∙ ap (λ ks. get_or ks n key) keys in
    let read = read_map (λ g. parts_over q.aggs (records_of q.group g ss)) (groups_of q.group ss) n key c.index.result.now within at
    (c.index.ensures ∙ ap (λ ps. get_or ps n c.index.result.now) parts) in
    regrouped_more q ss rs n key c.in_ok-parts.parts c.loop-number.self c.gather.new.self within at
    (c.in_ok-parts.ensures ∙ read) (c.loop-number.invariant q rs ss is also)
    (subst (λ k. Gathers c.loop-number.self k c.in_ok-parts.parts c.gather.new.self) c.in_ok-copy.ensures c.in_ok-gather.ensures.ok)

pub returns : goal.returns
returns c = λ q rs ss is also.
    let n = c.loop-number.number in
    let keys = c.as_slice-key-items.ensures.items ∙ ap (λ g. g.keys) c.other.view_is ∙ ap (λ g. g.keys) also in
    let long = ap length keys in
    let all : take n (groups_of q.group ss) ≡ groups_of q.group ss = grind (arith, common_steps, long, c.loop-number-test.false) in
    c.loop-number.invariant q rs ss is also
    ∙ ap (λ ks. groups_over q (rs ++ regrouped q ss ks)) all
    ∙ groups_over-regrouped q ss rs
