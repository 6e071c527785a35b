use Rattle.std.proofs.Common.{◌≡◌, length, take, get_or, sym, ap, subst, ◌∙◌, arith}
use Rattle.std.specs.List.{All}
use Rattle.std.proofs.lemmas.Grind.{common_steps}
use Rattle.std.proofs.lemmas.List.Elements.{All-append}
use Rattle.cal_value.specs.Flat.{joined}
use Rattle.cal_value.specs.Reading.{IsSmall}
use Rattle.cal_value.specs.declared.attribute.Entry.{Entry}
use Rattle.cal_parts.proofs.Lasts.{joined-more}
use Rattle.cal_engine.proofs.small.has_small_numbers.Goals as goal

pub loop-path-preserved : goal.loop-path-preserved
loop-path-preserved c =
    let paths = c.args.rec.now.paths in
    let n = c.loop-path.path-index in
    let path = c.path-item.result in
    let same = c.as_slice-path-items.ensures in
    let long : length c.as_slice-path-items.result.now ≡ length paths = ap length same in
    let more = joined-more paths n path (omega arith) (c.path-item.is ∙ ap (λ xs. get_or xs n path) same) in
    let P = λ (e : Entry). IsSmall e.value in
    let here : All P path = subst (All P) c.as_slice.ensures (c.are_small.ensures.0 c.if-not-are_small.false) in
    subst (All P) (sym more) (All-append P (joined (take n paths)) path c.loop-path.invariant here)

pub returns : goal.returns
returns c = λ yes.
    let paths = c.args.rec.now.paths in
    let same = c.as_slice-path-items.ensures in
    let long : length c.as_slice-path-items.result.now ≡ length paths = ap length same in
    let all : take c.loop-path.path-index paths ≡ paths = grind (arith, common_steps, long) in
    let P = λ (e : Entry). IsSmall e.value in
    All-append P (joined paths) c.args.rec.now.imms
    (subst (λ ps. All P (joined ps)) all c.loop-path.invariant)
    (subst (All P) c.as_slice-2.ensures (c.are_small-2.ensures.0 yes))
