use Rattle.std.proofs.Common.{◌≡◌, [], ◌∷◌, List, Option, ap, arith, length, map, slice_index_or, subst, sym, ◌∙◌}
use Rattle.std.proofs.Common.{option_and_then, option_map}
use Rattle.cal_agg.specs.declared.num.Num.{Num}
use Rattle.cal_context.specs.Snapshots.{meaning}
use Rattle.cal_value.specs.Flat.{flat}
use Rattle.cal_filter.specs.Known.{sought}
use Rattle.cal_filter.specs.Latest.{AreReadyOperands, IsReadyOperand}
use Rattle.cal_filter.specs.Lets.{limited, operation}
use Rattle.cal_filter.specs.Named.{HasSmallNumbers}
use Rattle.cal_filter.specs.Numbers.{value_of_number}
use Rattle.cal_filter.specs.Sought.{number_sought}
use Rattle.cal_filter.specs.declared.seeker.Seeker.{Seeker}
use Rattle.cal_filter.proofs.NamedLemmas.{operand_at, operands_ready}
use Rattle.cal_filter.proofs.ReadyLemmas.{map_one, weaker}
use Rattle.cal_filter.proofs.definition.Definition.value_of_numbers.Goals as goal

pub returns-then-len-eq1 : goal.returns-then-len-eq1
returns-then-len-eq1 c =
    let t = c.args.context.now in
    let r = meaning t c.args.snapshot.now in
    let imms = c.args.snapshot.now.imms.items in
    let latest = c.args.latest.now in
    let d = c.args.self.now in
    let seeker = c.index.result.now in
    let value = λ (numbers : List (Option Num)). option_map value_of_number
    (option_and_then limited (operation d.operator.op d.operator.n numbers)) in
    let found = λ (s : Seeker). number_sought (sought s) (flat r) in
    let one : length d.seekers.items ≡ 1 = omega arith in
    weaker
    (λ v. v ≡ value (c.number_found-number.result ∷ []))
    (λ v. AreReadyOperands t latest imms d.seekers.items d.names.items → HasSmallNumbers r
    → v ≡ value (map found d.seekers.items))
    c.result.result
    (λ v h all small.
    let ready = subst (IsReadyOperand t latest imms seeker)
    (sym (c.name_at-name.ensures ∙ ap (λ ns. slice_index_or ns 0 0) c.deref.ensures.value))
    (operand_at t latest imms d.seekers.items d.names.items 0 seeker all (omega arith) c.index.ensures) in
    h ∙ ap value ((λ i. c.number_found-number.ensures.found ready small i ∷ [])
    ∙ sym (map_one found d.seekers.items seeker one c.index.ensures)))
    c.result.ensures

pub returns : goal.returns
returns c =
    let t = c.args.context.now in
    let r = meaning t c.args.snapshot.now in
    let imms = c.args.snapshot.now.imms.items in
    let latest = c.args.latest.now in
    let d = c.args.self.now in
    let value = λ (numbers : List (Option Num)). option_map value_of_number
    (option_and_then limited (operation d.operator.op d.operator.n numbers)) in
    let found = λ (s : Seeker). number_sought (sought s) (flat r) in
    weaker
    (λ v. v ≡ value c.deref-4.result.now)
    (λ v. AreReadyOperands t latest imms d.seekers.items d.names.items → HasSmallNumbers r
    → v ≡ value (map found d.seekers.items))
    c.result-2.result
    (λ v h all small.
    let ready = operands_ready t latest imms d.seekers.items c.deref-2.result.now d.names.items
    c.deref-3.result.now c.deref-2.ensures.value c.deref-3.ensures.value all.knows all.named all.latest in
    h ∙ ap value (c.deref-4.ensures.value ∙ c.in_ok-fill_numbers.ensures.found ready small
    ∙ ap (map found) c.deref-2.ensures.value))
    c.result-2.ensures
