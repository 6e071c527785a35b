use Rattle.std.proofs.Common.{◌≡◌, ℕ, Bool, true, List, Some, slice_get, sym, rules}
use Rattle.std.proofs.lemmas.Grind.{common_steps}
use Rattle.std.specs.Cmp.{IsEquivalence}
use Rattle.std.specs.List.{IsDistinct}
use Rattle.indexmap.specs.IndexSet.{insert_key}
use Rattle.cal_context.specs.Lists.{Interns}
use Rattle.cal_context.proofs.ListLemmas.{Adds-insert_key, number_of_equal}
use Rattle.cal_context.proofs.links.Links.intern.Goals as goal

-- what an insertion says; that the keys are distinct names the equality
interns_key : {A : Type 0} {eq : A → A → Bool} (new : List A) → IsDistinct eq new → IsEquivalence eq
    → ((x y : A) → eq x y ≡ true → x ≡ y) → (old : List A) (x : A) (n : ℕ)
    → (k : A) × (slice_get new n ≡ Some k) × (eq x k ≡ true) → new ≡ insert_key eq old x
    → Interns old x new n
interns_key new distinct laws same old x n stored keys = record {
  number = number_of_equal laws same new n x stored.0 stored.1 stored.2;
  adds = Adds-insert_key laws same old x new keys;
}

pub returns-clause-interned : goal.returns-clause-interned
returns-clause-interned c =
    let added = c.in_ok-number.ensures in
    rw (sym c.self.view_is) (interns_key c.insert_full.new.self.keys added.unique (search rules) (search (rules, common_steps)) _ c.args.link c.in_ok-number.number added.stored added.keys)
