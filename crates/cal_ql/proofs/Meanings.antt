-- A text means a query or has a fault, and not both.
use Rattle.std.proofs.Common.{◌≡◌, ℕ, List, Result, Ok, Err, refl, sym, ◌∙◌}
use Rattle.std.specs.Prelude.{◌↔◌, IfOk, IfErr}
use Rattle.cal_ql.specs.declared.end.QueryEnd.{QueryEnd}
use Rattle.cal_ql.specs.declared.end.QueryEnd.TheVariants as ends
use Rattle.cal_ql.specs.declared.query.Query.{Query}
use Rattle.cal_ql.specs.Clauses.{reading}
use Rattle.cal_ql.specs.FirstFault.{HasFault, IsRefused}
use Rattle.cal_ql.specs.Grammar.{Means}
use Rattle.cal_ql.specs.Steps.{Gives}
use Rattle.cal_ql.specs.Tokens.{Fault}
use Rattle.cal_ql.specs.Valid.{IsValidQuery}
use Rattle.cal_ql.proofs.Binds.{ok_is}
use Rattle.cal_ql.proofs.GrammarClauses.{reading_means}
use Rattle.cal_ql.proofs.GrammarWhole.{means_reading}
use Rattle.cal_ql.proofs.ValidClauses.{reading_valid}

pub means_or_reads : (text : List ℕ) (query : Query) → Means text query ↔ (reading text ≡ Ok query)
means_or_reads text query = (means_reading text query, reading_means text query)

pub means_valid : (text : List ℕ) (query : Query) → Means text query → IsValidQuery query
means_valid text query means = reading_valid text query (means_reading text query means)

pub one_query : (text : List ℕ) (query other : Query) → Means text query → Means text other → query ≡ other
one_query text query other means means_too = ok_is query other (sym (means_reading text query means) ∙ means_reading text other means_too)

abbrev failed : Fault → Result Query Fault
failed fault = Err fault

err_is : (fault other : Fault) → failed fault ≡ failed other → fault ≡ other
err_is fault other e = cc

pub one_fault : (text : List ℕ) (fault other : Fault) → HasFault text fault → HasFault text other → fault ≡ other
one_fault text fault other has has_too = err_is fault other (sym has ∙ has_too)

fault_of : (text : List ℕ) (read : Result Query Fault) → reading text ≡ read → ((query : Query) → Means text query → ⊥) → (fault : Fault) × HasFault text fault
fault_of text (Ok query) is none = absurd (none query (reading_means text query is))
fault_of text (Err fault) is none = (fault, is)

pub fault_or_query : (text : List ℕ) → ((fault : Fault) × HasFault text fault) ↔ ((query : Query) → Means text query → ⊥)
fault_or_query text = (λ has query means. (let both : Err has.0 ≡ Ok query = sym has.1 ∙ means_reading text query means in cc), λ none. fault_of text (reading text) refl none)

pub meant : (text : List ℕ) (result : Result Query QueryEnd) → Gives (λ query. query) result (reading text) → IfOk result (λ query. Means text query)
meant text (Ok query) gives = reading_means text query gives
meant text (Err e) gives = tt

pub valid : (text : List ℕ) (result : Result Query QueryEnd) → Gives (λ query. query) result (reading text) → IfOk result (λ query. IsValidQuery query)
valid text (Ok query) gives = reading_valid text query gives
valid text (Err e) gives = tt

pub refused : (text : List ℕ) (result : Result Query QueryEnd) → Gives (λ query. query) result (reading text) → IfErr result (λ end. IsRefused text end)
refused text (Ok query) gives = tt
refused text (Err (ends.BadQuery place kind)) gives = gives
refused text (Err ends.OutOfMemory) gives = tt
