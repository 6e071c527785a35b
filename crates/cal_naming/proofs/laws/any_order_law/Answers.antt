use Rattle.std.proofs.Common.{◌≡◌, ◌<◌, ℕ, List, length}
use Rattle.std.specs.Prelude.{Contains, Some, find, slice_index_or}
use Rattle.std.specs.List.{AllZip}
use Rattle.std.proofs.lemmas.List.Sorted.{Contains-permutation}
use Rattle.cal_naming.proofs.Lists.{zip-more}
use Rattle.cal_naming.proofs.Names.{all-in-any-order, distinct-in-any-order}
use Rattle.cal_naming.specs.Naming.{IsAlone, IsAnswered, all_lines, same_name}
use Rattle.cal_value.specs.declared.attribute.Attribute.{Attribute}
use Rattle.cal_naming.proofs.laws.any_order_law.Goals as goal

pub returns : goal.returns
returns c threads kept other replies order is = record {
  once = distinct-in-any-order kept other order is.once;
  declared = all-in-any-order (λ (k : Attribute). Contains (all_lines threads) k) kept other order
      is.declared;
  answered = zip-more (AllZip (IsAnswered kept)) (AllZip (IsAnswered other)) threads replies
      (λ ls own all. zip-more (IsAnswered kept) (IsAnswered other) ls own
      (λ line reply h. (h.0, Contains-permutation kept other h.0 order h.1, h.2, h.3)) all)
      is.answered;
  first = all-in-any-order
      (λ (k : Attribute). (n : ℕ) (d : List Attribute) → n < length threads
      → IsAlone threads n k.name → find (same_name k) (slice_index_or threads n d) ≡ Some k)
      kept other order is.first;
}
