use Rattle.std.proofs.Common.{◌≡◌, ℕ, List, Some, slice_get, map, ap, ◌∙◌, subst}
use Rattle.std.specs.List.{AllZip}
use Rattle.cal_filter.specs.Sought.{sought_by}
use Rattle.cal_filter.proofs.NamedLemmas.{names_of}
use Rattle.cal_filter.proofs.definition.Definition.new.Goals as goal

pub returns-clause-named : goal.returns-clause-named
returns-clause-named c =
    let o = c.args.definition.now.op in
    let keys = c.number_names.new.names.keys in
    names_of o keys c.args.definition.now.args c.in_ok-seekers.seekers.items c.in_ok-names.names.items
    (c.in_ok-seekers.ensures.sought ∙ ap (map (sought_by o)) c.as_slice.ensures)
    (subst (λ (args : List (List ℕ)). AllZip (λ name n. slice_get keys n ≡ Some name) args
    c.in_ok-names.names.items) c.as_slice-2.ensures c.in_ok-names.ensures.numbers)
