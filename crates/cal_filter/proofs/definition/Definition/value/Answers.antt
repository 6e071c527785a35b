use Rattle.std.proofs.Common.{◌≡◌, ap, map, refl, subst, sym, ◌∙◌, option_map, option_and_then, slice_get}
use Rattle.std.specs.List.{filter_map}
use Rattle.cal_context.specs.Snapshots.{meaning}
use Rattle.cal_ql.specs.declared.query.Let.{Let}
use Rattle.cal_value.specs.Flat.{flat}
use Rattle.cal_filter.specs.Known.{sought}
use Rattle.cal_filter.specs.Latest.{AreNamed, AreReadyOperands, IsLatest}
use Rattle.cal_filter.specs.Lets.{let_value, limited, operation}
use Rattle.cal_filter.specs.Named.{HasSmallNumbers}
use Rattle.cal_filter.specs.Numbers.{value_of_number}
use Rattle.cal_filter.specs.Ready.{IsReadyDefinition}
use Rattle.cal_filter.specs.Sought.{number_sought, value_sought}
use Rattle.cal_filter.specs.declared.seeker.Seeker.{Seeker}
use Rattle.cal_filter.proofs.NamedLemmas.{operands_ready}
use Rattle.cal_filter.proofs.OperandLemmas.{first_is, number_is}
use Rattle.cal_filter.proofs.ReadyLemmas.{weaker}
use Rattle.cal_filter.proofs.definition.Definition.value.Goals as goal

pub returns-in-First : goal.returns-in-First
returns-in-First c =
    let t = c.args.context.now in
    let r = meaning t c.args.snapshot.now in
    let imms = c.args.snapshot.now.imms.items in
    let latest = c.args.latest.now in
    let d = c.args.self.now in
    let seekers = c.deref.result.now in
    let names = c.deref-in-First.result.now in
    weaker
    (λ v. AreReadyOperands t latest imms seekers names
    → v ≡ slice_get (filter_map (λ s. value_sought (sought s) (flat r)) seekers) 0)
    (λ v. (l : Let) → IsReadyDefinition t l d → AreNamed latest.names.keys d
    → IsLatest t latest imms → HasSmallNumbers r → v ≡ let_value l r)
    c.first_found.result
    (λ v h l ready named follows small.
    h (operands_ready t latest imms d.seekers.items seekers d.names.items names c.deref.ensures.value
    c.deref-in-First.ensures.value ready.knows named follows)
    ∙ ap (λ xs. slice_get (filter_map (λ s. value_sought (sought s) (flat r)) xs) 0)
    c.deref.ensures.value
    ∙ first_is t l d r ready.defined c.in-First.is)
    c.first_found.ensures

pub returns-in_default : goal.returns-in_default
returns-in_default c =
    let t = c.args.context.now in
    let r = meaning t c.args.snapshot.now in
    let imms = c.args.snapshot.now.imms.items in
    let latest = c.args.latest.now in
    let d = c.args.self.now in
    let numbers = map (λ (s : Seeker). number_sought (sought s) (flat r)) d.seekers.items in
    weaker
    (λ v. AreReadyOperands t latest imms d.seekers.items d.names.items → HasSmallNumbers r
    → v ≡ option_map value_of_number
    (option_and_then limited (operation d.operator.op d.operator.n numbers)))
    (λ v. (l : Let) → IsReadyDefinition t l d → AreNamed latest.names.keys d
    → IsLatest t latest imms → HasSmallNumbers r → v ≡ let_value l r)
    c.value_of_numbers.result
    (λ v h l ready named follows small.
    h (record { knows = ready.knows; named = named; latest = follows }) small
    ∙ number_is t l d r numbers ready.defined c.in_default.not-First refl)
    c.value_of_numbers.ensures
