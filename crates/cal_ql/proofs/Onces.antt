-- Keeping each result name once, the first kept.
use Rattle.std.proofs.Common.{◌≡◌, ℕ, Bool, true, false, cond, not, ◌&&◌, ◌||◌, List, [], ◌∷◌, ◌++◌, refl, sym, ap, ◌∙◌, append_assoc, inl, inr}
use Rattle.std.specs.Prelude.{filter, nat_eq}
use Rattle.std.specs.BTreeMap.{is_at}
use Rattle.std.specs.BTreeSet.{BTreeSet, contains}
use Rattle.std.specs.List.{list_any}
use Rattle.std.specs.Bool.{one_answer}
use Rattle.std.specs.Ordering.{eq_by_cmp}
use Rattle.std.specs.Cmp.Lexicographic.{pointwise, bytes_decides}
use Rattle.std.proofs.lemmas.Bool.{cond-false, cond-true}
use Rattle.std.proofs.lemmas.List.{append-nil}
use Rattle.std.proofs.lemmas.List.Folds.{list_any-append}
use Rattle.cal_value.specs.Texts.{text_cmp}
use Rattle.cal_value.specs.ExactOrder.{exact_decides, text_exact}
use Rattle.cal_ql.specs.declared.query.Agg.{Agg}
use Rattle.cal_ql.specs.Kernels.{first_of_each}
use Rattle.cal_ql.specs.Once.{has_name, with_new, with_all_new}
use Rattle.cal_ql.proofs.Choices.{either_way}

-- whether one of the kernels has the name of this one
abbrev pub is_named : List Agg → Agg → Bool
is_named kept agg = list_any (λ other. pointwise nat_eq agg.name other.name) kept

-- ---- filters

filter_both : {X : Type 0} (p q r : X → Bool) → ((x : X) → r x ≡ (q x && p x)) → (xs : List X) → filter p (filter q xs) ≡ filter r xs
filter_both p q r both [] = refl
filter_both {X} p q r both (x ∷ xs) =
    elim (either_way (q x)) [
      | inl passes ↦
          rw (both x, passes) (ap (λ (rest : List X). cond (p x) (x ∷ rest) rest) (filter_both p q r both xs))
      | inr fails ↦ rw (both x, fails) (filter_both p q r both xs)
    ]

filter_all : {X : Type 0} (p : X → Bool) → ((x : X) → p x ≡ true) → (xs : List X) → filter p xs ≡ xs
filter_all p passes [] = refl
filter_all {X} p passes (x ∷ xs) = rw (passes x) (ap (λ (rest : List X). x ∷ rest) (filter_all p passes xs))

-- ---- names

same_name : (agg other : Agg) → pointwise nat_eq agg.name other.name ≡ true → agg.name ≡ other.name
same_name agg other = (bytes_decides agg.name other.name).0

other_name : (kept : List Agg) (agg other : Agg) → is_named kept agg ≡ true → is_named kept other ≡ false → pointwise nat_eq other.name agg.name ≡ false
other_name kept agg other named unnamed =
    elim (either_way (pointwise nat_eq other.name agg.name)) [
      | inl same ↦ (
          let names : other.name ≡ agg.name = same_name other agg same in
          let named_too : is_named kept other ≡ true = ap (λ (n : List ℕ). list_any (λ third. pointwise nat_eq n third.name) kept) names ∙ named in
          absurd (let contradiction : true ≡ false = sym named_too ∙ unnamed in cc))
      | inr apart ↦ apart
    ]

without_known : (kept : List Agg) (agg other : Agg) → is_named kept agg ≡ true → not (is_named kept other) ≡ (not (pointwise nat_eq other.name agg.name) && not (is_named kept other))
without_known kept agg other named =
    elim (either_way (is_named kept other)) [
      | inl too ↦ rw too (elim (either_way (pointwise nat_eq other.name agg.name)) [ inl same ↦ rw same refl | inr apart ↦ rw apart refl ])
      | inr unnamed ↦ rw (unnamed, other_name kept agg other named unnamed) refl
    ]

not_or : (a b : Bool) → not (a || (b || false)) ≡ (not b && not a)
not_or true true = refl
not_or true false = refl
not_or false true = refl
not_or false false = refl

without_new : (kept : List Agg) (agg other : Agg) → not (is_named (kept ++ agg ∷ []) other) ≡ (not (pointwise nat_eq other.name agg.name) && not (is_named kept other))
without_new kept agg other = ap not (list_any-append (λ third. pointwise nat_eq other.name third.name) kept (agg ∷ [])) ∙ not_or (is_named kept other) (pointwise nat_eq other.name agg.name)

-- ---- what is kept

all_new : (kept aggs : List Agg) → with_all_new kept aggs ≡ kept ++ filter (λ agg. not (is_named kept agg)) (first_of_each aggs)
all_new kept [] = sym (append-nil kept)
all_new kept (agg ∷ aggs) =
    elim (either_way (is_named kept agg)) [
      | inl named ↦ (
          let same : with_new kept agg ≡ kept = cond-true (is_named kept agg) _ _ named in
          ap (λ (k : List Agg). with_all_new k aggs) same ∙ all_new kept aggs
          ∙ rw named (ap (λ (k : List Agg). kept ++ k) (sym (filter_both (λ other. not (is_named kept other)) (λ other. not (pointwise nat_eq other.name agg.name)) (λ other. not (is_named kept other)) (λ other. without_known kept agg other named) (first_of_each aggs)))))
      | inr new ↦ (
          let longer : with_new kept agg ≡ kept ++ agg ∷ [] = cond-false (is_named kept agg) _ _ new in
          ap (λ (k : List Agg). with_all_new k aggs) longer ∙ all_new (kept ++ agg ∷ []) aggs
          ∙ append_assoc kept (agg ∷ []) _
          ∙ rw new (ap (λ (k : List Agg). kept ++ agg ∷ k) (sym (filter_both (λ other. not (is_named kept other)) (λ other. not (pointwise nat_eq other.name agg.name)) (λ other. not (is_named (kept ++ agg ∷ []) other)) (λ other. without_new kept agg other) (first_of_each aggs)))))
    ]

with_all_new-append : (kept aggs others : List Agg) → with_all_new kept (aggs ++ others) ≡ with_all_new (with_all_new kept aggs) others
with_all_new-append kept [] others = refl
with_all_new-append kept (agg ∷ aggs) others = with_all_new-append (with_new kept agg) aggs others

pub all_once : (selected others : List Agg) → with_all_new (with_all_new [] selected) others ≡ first_of_each (selected ++ others)
all_once selected others = sym (with_all_new-append [] selected others) ∙ all_new [] (selected ++ others) ∙ filter_all _ (λ agg. refl) (first_of_each (selected ++ others))

pub one_more : (kept aggs : List Agg) (agg : Agg) → with_all_new kept (aggs ++ agg ∷ []) ≡ with_new (with_all_new kept aggs) agg
one_more kept aggs agg = with_all_new-append kept aggs (agg ∷ [])

-- ---- the set of names

-- whether two texts are one, asked of either
same_text : (x y : List ℕ) → is_at (text_cmp x) y ≡ pointwise nat_eq y x
same_text x y =
    let d = bytes_decides y x in
    one_answer (eq_by_cmp text_cmp x y) (pointwise nat_eq y x) (exact_decides text_exact x y)
    (λ t. sym (d.0 t), λ e. d.1 (sym e))

either_or : (a b : Bool) → cond a true b ≡ (b || (a || false))
either_or true true = refl
either_or true false = refl
either_or false true = refl
either_or false false = refl

-- a set of the names of kernels, with the name of one kernel more
pub names_more : (names new : BTreeSet (List ℕ)) (aggs : List Agg) (agg : Agg) (key : List ℕ)
    → key ≡ agg.name
    → ((q : List ℕ) → contains text_cmp new q
    ≡ cond (is_at (text_cmp key) q) true (contains text_cmp names q))
    → ((q : List ℕ) → contains text_cmp names q ≡ has_name aggs q)
    → (q : List ℕ) → contains text_cmp new q ≡ has_name (aggs ++ agg ∷ []) q
names_more names new aggs agg key same added kept q =
    added q
    ∙ ap (λ (k : List ℕ). cond (is_at (text_cmp k) q) true (contains text_cmp names q)) same
    ∙ ap (λ (b : Bool). cond b true (contains text_cmp names q)) (same_text agg.name q)
    ∙ ap (λ (b : Bool). cond (pointwise nat_eq q agg.name) true b) (kept q)
    ∙ either_or (pointwise nat_eq q agg.name) (has_name aggs q)
    ∙ sym (list_any-append (λ other. pointwise nat_eq q other.name) aggs (agg ∷ []))

turned : (b new : Bool) → new ≡ not b → b ≡ not new
turned true new e = rw e refl
turned false new e = rw e refl

-- whether a name is new to the set tells whether it is new to the kernels
pub known_name : (names : BTreeSet (List ℕ)) (aggs : List Agg) (name : List ℕ) (new : Bool)
    → ((q : List ℕ) → contains text_cmp names q ≡ has_name aggs q)
    → new ≡ not (contains text_cmp names name) → has_name aggs name ≡ not new
known_name names aggs name new kept told =
    turned (has_name aggs name) new (told ∙ ap not (kept name))
