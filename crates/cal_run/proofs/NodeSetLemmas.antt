-- A set of nodes that says by their numbers which are there.
use Rattle.std.proofs.Common.{◌≡◌, ◌≢◌, ℕ, zero, suc, ◌<◌, Bool, true, false, ◌⊎◌, inl, inr}
use Rattle.std.proofs.Common.{List, [], ◌∷◌, ◌++◌, length, get_or, sym, ap, ◌∙◌, arith, true≢false, Contains}
use Rattle.std.proofs.Math.ListN.{set}
use Rattle.std.proofs.lemmas.List.{get_or-set_same, get_or-set_other}
use Rattle.std.proofs.lemmas.List.Elements.{Contains-append_cases, Contains-append_left}
use Rattle.std.proofs.lemmas.List.Elements.{Contains-append_right}
use Rattle.cal_context.proofs.ListLemmas.{AreApart-push}
use Rattle.cal_context.specs.declared.numbers.NodeNumber.{NodeNumber}
use Rattle.cal_run.specs.Holding.{AreMarked}

-- no node is there
pub marks-none : AreMarked [] []
marks-none = record {
  listed = λ n is. absurd (true≢false (sym is));
  marked = λ n there. absurd (omega (arith, there.1));
  apart = λ i j d a b e. absurd (omega (arith, a));
}

-- room behind the marks changes nothing
pub marks-same : (there more : List Bool) (nodes : List NodeNumber)
    → ((k : ℕ) → get_or more k false ≡ get_or there k false)
    → AreMarked there nodes → AreMarked more nodes
marks-same there more nodes same are = record {
  listed = λ n is. are.listed n (sym (same n.0) ∙ is);
  marked = λ n on. same n.0 ∙ are.marked n on;
  apart = are.apart;
}

-- a node that isn't there is added
module _ (there : List Bool) (nodes : List NodeNumber) (n : NodeNumber)
    (within : n.0 < length there) (are : AreMarked there nodes)
    (new : get_or there n.0 false ≡ false) where
  pub marks-fresh : ¬ Contains nodes n
  marks-fresh on = true≢false (sym (are.marked n on) ∙ new)

  other : (m : NodeNumber) → ((m.0 ≡ n.0) ⊎ (m.0 ≢ n.0))
  other m = grind (arith)

  pub marks-more : AreMarked (set there n.0 true) (nodes ++ n ∷ [])
  marks-more = record {
    listed = λ m is. elim (other m) [
      | inl same ↦ Contains-append_right nodes (n ∷ []) m
          (0, omega arith, λ i. record { 0 = sym same i })
      | inr apart ↦ Contains-append_left nodes (n ∷ []) m
          (are.listed m (sym (get_or-set_other there n.0 m.0 true false apart) ∙ is))
    ];
    marked = λ m on. elim (other m) [
      | inl same ↦ ap (λ k. get_or (set there n.0 true) k false) same
          ∙ get_or-set_same there n.0 true false within
      | inr apart ↦ get_or-set_other there n.0 m.0 true false apart
          ∙ elim (Contains-append_cases nodes (n ∷ []) m on) [
            | inl old ↦ are.marked m old
            | inr one ↦ absurd (apart (ap (λ (x : NodeNumber). x.0) (only m one)))
          ]
    ];
    apart = AreApart-push nodes n are.apart marks-fresh;
  }
    where
      only : (m : NodeNumber) → Contains (n ∷ []) m → m ≡ n
      only m (zero, _, is) = sym is
      only m (suc k, late, is) = absurd (omega (arith, late))
