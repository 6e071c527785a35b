use Rattle.std.proofs.Common.{List, ℕ, sym, subst, ◌∙◌}
use Rattle.std.specs.List.{Contains}
use Rattle.std.proofs.lemmas.Map.Views.{Contains-from_any}
use Rattle.cal_value.specs.ExactOrder.{exact_tells, text_exact}
use Rattle.cal_rowset.specs.Showing.{nth_column}
use Rattle.cal_jsonfmt.proofs.keys.Keys.new.Goals as goal

pub places-requires-clause-headers : goal.places-requires-clause-headers
places-requires-clause-headers c = λ k l.
    let header = (nth_column c.args.columns.now k).header in
    subst (λ (names : List (List ℕ)). Contains names header)
    (sym (c.deref.ensures.value ∙ c.in_ok-names.ensures.same))
    (Contains-from_any (exact_tells text_exact) header c.in_ok-headers.field-0.keys
    (c.in_ok-headers.ensures k l))
