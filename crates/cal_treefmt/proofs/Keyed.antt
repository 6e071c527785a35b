-- A list whose items are keyed by nodes: what is found of a node from one place on.
use Rattle.std.proofs.Common.{◌≡◌, ℕ, zero, suc, ◌+◌, ◌<◌, ◌≤◌, Bool, true, false, List, [], ◌∷◌, ◌⊎◌, inl, inr, length, get_or, map, drop, refl, sym, ap, ◌∙◌, arith, drop-cons, ◌-◌}
use Rattle.std.proofs.lemmas.Bool.{cases_lt}
use Rattle.std.proofs.lemmas.List.{drop_all, get_or-map, length-map}
use Rattle.cal_value.specs.ExactOrder.{exact_decides}
use Rattle.cal_value.specs.OrderLaws.{path_exact}
use Rattle.cal_value.specs.declared.attribute.Entry.{Entry}
use Rattle.cal_context.specs.Tree.{Tree, IsContext, path_at}
use Rattle.cal_context.specs.declared.numbers.NodeNumber.{NodeNumber}
use Rattle.cal_context.proofs.CallerLemmas.{one_node}
use Rattle.cal_treefmt.specs.Chains.{IsFirst, LacksKey, key_at}
use Rattle.cal_treefmt.specs.Nodes.{is_node}
use Rattle.cal_treefmt.specs.Walks.{AreAt}

abbrev pub root : NodeNumber
root = record { 0 = 0 }

module _ {X : Type 0} (t : Tree) (context : IsContext t) (f : X → List Entry) (xs : List X) (numbers : List NodeNumber) (at : AreAt t numbers (map f xs)) (d : X) where
  pub counted : length numbers ≡ length xs
  counted = sym (length-map numbers (path_at t)) ∙ ap length at.paths ∙ length-map xs f

  pub node_of : (k : ℕ) → k < length xs → f (get_or xs k d) ≡ path_at t (get_or numbers k root)
  node_of k l =
      sym (get_or-map f xs k d [] l) ∙ ap (λ paths. get_or paths k []) (sym at.paths)
      ∙ get_or-map (path_at t) numbers k root [] (omega (arith, l, counted))

  module _ (n : NodeNumber) where
    pub node_same : (k : ℕ) → k < length xs → key_at numbers k ≡ n.0 → f (get_or xs k d) ≡ path_at t n
    node_same k l e = node_of k l ∙ ap (path_at t) (λ j. record { 0 = e j })

    node_other : n.0 < length t.paths → (k : ℕ) → k < length xs → ¬ (key_at numbers k ≡ n.0) → is_node (f (get_or xs k d)) (path_at t n) ≡ false
    node_other within k l other = by (is_node (f (get_or xs k d)) (path_at t n)) refl
      where
        by : (b : Bool) → is_node (f (get_or xs k d)) (path_at t n) ≡ b → is_node (f (get_or xs k d)) (path_at t n) ≡ false
        by false e = e
        by true e =
            let same : path_at t (get_or numbers k root) ≡ path_at t n = sym (node_of k l) ∙ (exact_decides path_exact (f (get_or xs k d)) (path_at t n)).0 e in
            let is = one_node context (get_or numbers k root) n (at.within k root (omega (arith, l, counted))) within same in
            absurd (other (ap (λ (m : NodeNumber). m.0) is))

    -- what passes over the items at other nodes
    module _ {Y : Type 0} (within : n.0 < length t.paths) (g : List X → Y) (passes : (x : X) (rest : List X) → is_node (f x) (path_at t n) ≡ false → g (x ∷ rest) ≡ g rest) where
      passed : (m i k : ℕ) → i + m ≡ k → k ≤ length xs → LacksKey numbers i k n.0 → g (drop i xs) ≡ g (drop k xs)
      passed zero i k e l lacks = ap (λ (j : ℕ). g (drop j xs)) (omega (arith, e))
      passed (suc m) i k e l lacks =
          ap g (drop-cons xs i d (omega (arith, e, l)))
          ∙ passes (get_or xs i d) (drop (suc i) xs) (node_other within i (omega (arith, e, l)) (lacks i (omega arith) (omega (arith, e))))
          ∙ passed m (suc i) k (omega (arith, e)) l (λ j from to. lacks j (omega (arith, from)) to)

      -- comes to an end
      pub passed_all : (i : ℕ) → LacksKey numbers i (length numbers) n.0 → g (drop i xs) ≡ g []
      passed_all i lacks = by (cases_lt (length xs) i)
        where
          by : ((length xs < i) ⊎ (i ≤ length xs)) → g (drop i xs) ≡ g []
          by (inr l) =
              passed (length xs - i) i (length xs) (omega (arith, l)) (omega arith) (λ j from to. lacks j from (omega (arith, to, counted)))
              ∙ ap g (drop_all (length xs) xs (omega arith))
          by (inl l) = ap g (drop_all i xs (omega (arith, l)))

      -- or to an item at the node
      pub passed_to : (i k : ℕ) → IsFirst numbers i n.0 k → g (drop i xs) ≡ g (get_or xs k d ∷ drop (suc k) xs)
      passed_to i k first =
          passed (k - i) i k (omega (arith, first.later)) (omega (arith, first.within, counted)) first.lacks
          ∙ ap g (drop-cons xs k d (omega (arith, first.within, counted)))
