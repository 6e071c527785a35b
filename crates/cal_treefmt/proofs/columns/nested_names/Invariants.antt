use Rattle.std.proofs.Common.{◌≡◌, ℕ, Bool, List, take}
use Rattle.std.specs.List.{list_any}
use Rattle.cal_treefmt.proofs.columns.nested_names.Given as goal

abbrev pub invariant-loop-number : goal.invariant-loop-number
invariant-loop-number l = (test : List ℕ → Bool)
    → list_any test l.names ≡ list_any (λ a. test a.name) (take l.number l.context.attributes)
