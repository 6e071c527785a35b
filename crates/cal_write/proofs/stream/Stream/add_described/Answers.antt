use Rattle.std.proofs.Common.{◌≡◌, ◌<◌, List, length, get_or, sym, subst, ap, ◌∙◌, arith}
use Rattle.std.proofs.lemmas.Option.{slice_get_within, get_or_from_slice_get}
use Rattle.std.proofs.lemmas.Bool.Decides.{nat_tests}
use Rattle.std.proofs.lemmas.Grind.{common_steps}
use Rattle.cal_write.specs.Stream.{AddsLine}
use Rattle.cal_write.specs.declared.described.DescribedNode.{DescribedNode}
use Rattle.cal_write.proofs.StreamLemmas.{known-step, described-step}
use Rattle.cal_write.proofs.stream.Stream.add_described.Goals as goal

pub returns-in-Some : goal.returns-in-Some
returns-in-Some c = λ s up is parent knows small.
    known-step c.args.self.now c.intern.new.self s up c.args.entry c.args.parent c.in_ok-number.number c.in-Some.id.now is parent c.in_ok-number.ensures.interned
    (grind (arith, common_steps, nat_tests, c.in-Some.ensures.lookup, c.deref.ensures.value))
    (grind (arith, common_steps, nat_tests, c.in-Some.ensures.lookup, c.deref.ensures.value))

pub bounds-as_slice-number : goal.bounds-as_slice-number
bounds-as_slice-number c =
    let same : c.as_slice.result.now ≡ c.intern.new.self = c.as_slice.ensures.items in
    subst (λ (l : List DescribedNode). c.in_ok-number.number < length l) (sym same) (slice_get_within c.intern.new.self c.in_ok-number.number _ c.in_ok-number.ensures.interned.number)

-- the line is that of the node that was asked for
adds : (c : goal.In_ok-push) → AddsLine c.args.self.now.lines c.add.new.self c.args.parent c.args.attribute c.args.entry.value c.in_ok-id.id
adds c =
    let node = c.index-as_slice-number.result in
    let key : DescribedNode = record { parent = c.args.parent; entry = c.args.entry } in
    let same : node ≡ key = c.index-as_slice-number.is ∙ ap (λ (l : List DescribedNode). get_or l c.in_ok-number.number node) c.as_slice.ensures.items
    ∙ get_or_from_slice_get c.intern.new.self c.in_ok-number.number key node c.in_ok-number.ensures.interned.number in
    subst (λ (k : DescribedNode). AddsLine c.args.self.now.lines c.add.new.self c.args.parent c.args.attribute k.entry.value c.in_ok-id.id) same c.in_ok-id.ensures

pub returns : goal.returns
returns c = λ s up is parent knows small.
    described-step c.args.self.now (record { described = c.intern.new.self; ids = c.push.new.self; lines = c.add.new.self }) s up c.args.entry c.args.parent c.args.attribute c.in_ok-number.number c.in_ok-id.id is parent knows small c.in_ok-number.ensures.interned
    (grind (arith, common_steps, nat_tests, c.in_default.ensures.lookup, c.deref.ensures.value)) (adds c) c.in_ok-push.ensures.items
