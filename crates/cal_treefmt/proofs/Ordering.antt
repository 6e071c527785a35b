-- The order of nodes, by what is left to be done.
use Rattle.std.proofs.Common.{◌≡◌, ℕ, suc, ◌+◌, ◌<◌, ◌≤◌, false, List, [], ◌∷◌, ◌++◌, ◌⊎◌, inl, inr, length, get_or, map, take, drop, reverse, Option, None, Some, refl, sym, ap, ◌∙◌, subst, arith, append_assoc, drop-cons, length-drop, if◌then◌else◌, All}
use Rattle.std.specs.Prelude.{option_to_list}
use Rattle.std.specs.List.{flat_map}
use Rattle.std.proofs.lemmas.Bool.{cases_lt}
use Rattle.std.proofs.lemmas.Grind.{flat_map-append}
use Rattle.std.proofs.lemmas.List.{append-nil, get_or_append_left, get_or_push, length_push, map-append, reverse-append, take_all, take_more}
use Rattle.std.proofs.lemmas.List.Elements.{All-nil, All-push}
use Rattle.cal_value.specs.ExactOrder.{exact_decides}
use Rattle.cal_value.specs.OrderLaws.{path_exact}
use Rattle.cal_value.specs.declared.attribute.Entry.{Entry}
use Rattle.cal_context.specs.Children.{IsLinked}
use Rattle.cal_context.specs.Tree.{Tree, IsContext, attribute_at, path_at, value_at}
use Rattle.cal_context.specs.declared.numbers.Link.{Link}
use Rattle.cal_context.specs.declared.numbers.NodeNumber.{NodeNumber}
use Rattle.cal_context.proofs.CallerLemmas.{root_path, root_within}
use Rattle.cal_treefmt.specs.Chains.{IsNext, key_at}
use Rattle.cal_treefmt.specs.Nodes.{below, is_node, parent}
use Rattle.cal_treefmt.specs.Orders.{AreParents, IsParent, nodes_in}
use Rattle.cal_treefmt.specs.Walks.{AreAt}
use Rattle.cal_treefmt.proofs.Keyed.{counted, node_of, node_same, passed_all, passed_to, root}

-- the node at a place
abbrev pub nth_node : Tree → ℕ → List Entry
nth_node t k = get_or (nodes_in t) k []

-- the nodes from a place on that are below the parent of the node there
abbrev pub branch : Tree → ℕ → List (List Entry)
branch t k = below (drop k (nodes_in t)) (parent (nth_node t k))

-- what is left to be done, the last first
abbrev pub to_do : Tree → List ℕ → List (List Entry)
to_do t left = flat_map (branch t) (reverse left)

to_do-push : (t : Tree) (left : List ℕ) (next : Option ℕ) → to_do t (left ++ option_to_list next) ≡ flat_map (branch t) (option_to_list next) ++ to_do t left
to_do-push t left None = ap (to_do t) (append-nil left)
to_do-push t left (Some k) =
    ap (flat_map (branch t)) (reverse-append left (k ∷ []))
    ∙ flat_map-append (branch t) (k ∷ []) (reverse left)

-- below a node's own parent
below-child : (later : List (List Entry)) (node above : List Entry) → parent node ≡ above → below (node ∷ later) above ≡ node ∷ (below later node ++ below later above)
below-child later node above e =
    ap (λ b. if b then node ∷ (below later node ++ below later above) else below later above) ((exact_decides path_exact (parent node) above).1 e)

below-other : (node : List Entry) (later : List (List Entry)) (above : List Entry) → is_node (parent node) above ≡ false → below (node ∷ later) above ≡ below later above
below-other node later above e = ap (λ b. if b then node ∷ (below later node ++ below later above) else below later above) e

-- the root, and then the nodes
pub counted_in : (t : Tree) → IsContext t → length t.paths ≡ suc (length (nodes_in t))
counted_in t context = omega (arith, length-drop 1 t.paths, root_within context)

pub nth_is : (t : Tree) (k : ℕ) → path_at t (record { 0 = suc k }) ≡ nth_node t k
nth_is t k = at_suc t.paths k
  where
    at_suc : (xs : List (List Entry)) (k : ℕ) → get_or xs (suc k) [] ≡ get_or (drop 1 xs) k []
    at_suc [] k = refl
    at_suc (x ∷ xs) k = refl

-- ---- parents

parent-push : (path : List Entry) (e : Entry) → parent (path ++ e ∷ []) ≡ path
parent-push [] e = refl
parent-push (f ∷ []) e = refl
parent-push (f ∷ g ∷ path) e = ap (λ rest. f ∷ rest) (parent-push (g ∷ path) e)

pub parent-is : (t : Tree) (link : Link) (number : ℕ) (n : NodeNumber) → n.0 ≡ number → IsLinked t link n → IsParent t number link.parent
parent-is t link number n is linked = record {
  earlier = omega (arith, linked.child.later, is);
  path =
      sym (parent-push (path_at t link.parent) (record { attr = attribute_at t link.attribute; value = value_at t link.value }))
      ∙ ap parent (sym linked.child.path) ∙ ap (λ (k : ℕ). parent (path_at t (record { 0 = k }))) is;
}

-- the parents of the nodes before a number
pub record AreParentsTo (t : Tree) (number : ℕ) (numbers : List NodeNumber) : Type 0 where
  pub count : number ≡ suc (length numbers)
  pub at : AreAt t numbers (map parent (take (length numbers) (nodes_in t)))
  pub earlier : (k : ℕ) → k < length numbers → key_at numbers k ≤ k

pub parents-none : (t : Tree) (numbers : List NodeNumber) → numbers ≡ [] → AreParentsTo t 1 numbers
parents-none t numbers is = subst (AreParentsTo t 1) (sym is) (record {
  count = refl;
  at = record { within = λ k d l. absurd (omega (arith, l)); paths = refl };
  earlier = λ k l. absurd (omega (arith, l));
})

pub parents-more : (t : Tree) (number : ℕ) (numbers new : List NodeNumber) (above : NodeNumber) → IsContext t → number < length t.paths → new ≡ numbers ++ above ∷ []
    → AreParentsTo t number numbers → IsParent t number above → AreParentsTo t (number + 1) new
parents-more t number numbers new above context within is so_far parent_is = subst (AreParentsTo t (number + 1)) (sym is) (record {
  count = omega (arith, so_far.count, length_push numbers above);
  at = record {
    within = All-push (λ n. n.0 < length t.paths) numbers above so_far.at.within (omega (arith, parent_is.earlier, within));
    paths =
        map-append (path_at t) numbers (above ∷ [])
        ∙ (λ j. so_far.at.paths j ++ (parent_is.path ∙ ap parent here) j ∷ [])
        ∙ sym (map-append parent (take (length numbers) (nodes_in t)) (nth_node t (length numbers) ∷ []))
        ∙ ap (map parent) (sym (take_more (nodes_in t) (length numbers) [] (omega (arith, so_far.count, within, counted_in t context))))
        ∙ ap (λ (k : ℕ). map parent (take k (nodes_in t))) (sym (length_push numbers above));
  };
  earlier = λ k l. by k l (cases_lt k (length numbers));
})
  where
    here : path_at t (record { 0 = number }) ≡ nth_node t (length numbers)
    here = ap (λ (k : ℕ). path_at t (record { 0 = k })) so_far.count ∙ nth_is t (length numbers)

    by : (k : ℕ) → k < length (numbers ++ above ∷ []) → ((k < length numbers) ⊎ (length numbers ≤ k)) → key_at (numbers ++ above ∷ []) k ≤ k
    by k l (inl before) = subst (λ (n : NodeNumber). n.0 ≤ k) (sym (get_or_append_left numbers (above ∷ []) root k before)) (so_far.earlier k before)
    by k l (inr past) =
        let e : length numbers ≡ k = omega (arith, l, past, length_push numbers above) in
        subst (λ (n : NodeNumber). n.0 ≤ k) (sym (get_or_push numbers above root k e)) (omega (arith, parent_is.earlier, so_far.count, e))

pub parents-all : (t : Tree) (number : ℕ) (numbers : List NodeNumber) → IsContext t → length t.paths ≤ number → AreParentsTo t number numbers → AreParents t numbers
parents-all t number numbers context past so_far = record {
  at = subst (λ (nodes : List (List Entry)). AreAt t numbers (map parent nodes)) (take_all (length numbers) (nodes_in t) (omega (arith, so_far.count, past, counted_in t context))) so_far.at;
  earlier = so_far.earlier;
}

-- ---- what is left

-- the places of the nodes so far, and those that are left to be done
pub record IsOrdering (t : Tree) (order left : List ℕ) : Type 0 where
  pub within : All (λ k. k < length (nodes_in t)) order
  pub to_go : All (λ k. k < length (nodes_in t)) left
  pub nodes : map (nth_node t) order ++ to_do t left ≡ below (nodes_in t) []

All-last : (P : ℕ → Type 0) (xs : List ℕ) (x : ℕ) → All P (xs ++ x ∷ []) → P x
All-last P xs x all = subst P (get_or_push xs x 0 (length xs) refl) (all (length xs) 0 (omega (arith, length_push xs x)))

All-front : (P : ℕ → Type 0) (xs : List ℕ) (x : ℕ) → All P (xs ++ x ∷ []) → All P xs
All-front P xs x all = λ k d l. subst P (get_or_append_left xs (x ∷ []) d k l) (all k d (omega (arith, l, length_push xs x)))

module _ (t : Tree) (context : IsContext t) (numbers : List NodeNumber) (parents : AreParents t numbers) where
  pub long : length numbers ≡ length (nodes_in t)
  long = counted t context parent (nodes_in t) numbers parents.at []

  -- the nodes from a place on that are below a node, by the first that is its child
  below-next : (i : ℕ) (n : NodeNumber) (next : Option ℕ) → n.0 < length t.paths → IsNext numbers i n.0 next → below (drop i (nodes_in t)) (path_at t n) ≡ flat_map (branch t) (option_to_list next)
  below-next i n None within lacks =
      passed_all t context parent (nodes_in t) numbers parents.at [] n within (λ later. below later (path_at t n)) (λ x rest e. below-other x rest (path_at t n) e) i lacks
  below-next i n (Some k) within first =
      let is : parent (nth_node t k) ≡ path_at t n = node_same t context parent (nodes_in t) numbers parents.at [] n k (omega (arith, first.within, long)) first.is in
      passed_to t context parent (nodes_in t) numbers parents.at [] n within (λ later. below later (path_at t n)) (λ x rest e. below-other x rest (path_at t n) e) i k first
      ∙ ap (λ later. below later (path_at t n)) (sym (drop-cons (nodes_in t) k [] (omega (arith, first.within, long))))
      ∙ ap (below (drop k (nodes_in t))) (sym is)
      ∙ sym (append-nil (branch t k))

  -- a child comes later than its parent
  later : (k : ℕ) (next : Option ℕ) → IsNext numbers 0 (suc k) next → IsNext numbers (suc k) (suc k) next
  later k None lacks = λ j from to. lacks j (omega arith) to
  later k (Some j) first = record {
    later = omega (arith, parents.earlier j first.within, first.is);
    within = first.within;
    is = first.is;
    lacks = λ i from to. first.lacks i (omega arith) to;
  }

  pub to_do-start : (first : Option ℕ) → IsNext numbers 0 0 first → to_do t (option_to_list first) ≡ below (nodes_in t) []
  to_do-start first is =
      to_do-push t [] first ∙ append-nil (flat_map (branch t) (option_to_list first))
      ∙ sym (below-next 0 root first (root_within context) is)
      ∙ ap (below (nodes_in t)) (root_path context)

  module _ (rest : List ℕ) (k : ℕ) (next first : Option ℕ) (within : k < length (nodes_in t)) (next_is : IsNext numbers (suc k) (key_at numbers k) next)
      (first_is : IsNext numbers 0 (suc k) first) where
    abbrev node : List Entry
    node = nth_node t k

    -- a node is done, and those below it and beside it are left
    pub to_do-turn : to_do t (rest ++ k ∷ []) ≡ node ∷ to_do t ((rest ++ option_to_list next) ++ option_to_list first)
    to_do-turn =
        to_do-push t rest (Some k)
        ∙ ap (λ b. b ++ to_do t rest) (append-nil (branch t k) ∙ whole)
        ∙ ap (λ nodes. node ∷ nodes) (append_assoc A B (to_do t rest) ∙ sym again)
      where
        A : List (List Entry)
        A = below (drop (suc k) (nodes_in t)) node

        B : List (List Entry)
        B = below (drop (suc k) (nodes_in t)) (parent node)

        whole : branch t k ≡ node ∷ (A ++ B)
        whole = ap (λ later. below later (parent node)) (drop-cons (nodes_in t) k [] within) ∙ below-child (drop (suc k) (nodes_in t)) node (parent node) refl

        firsts : flat_map (branch t) (option_to_list first) ≡ A
        firsts = sym (below-next (suc k) (record { 0 = suc k }) first (omega (arith, within, counted_in t context)) (later k first first_is))
            ∙ ap (below (drop (suc k) (nodes_in t))) (nth_is t k)

        nexts : flat_map (branch t) (option_to_list next) ≡ B
        nexts = sym (below-next (suc k) (get_or numbers k root) next (parents.at.within k root (omega (arith, within, long))) next_is)
            ∙ ap (below (drop (suc k) (nodes_in t))) (sym (node_of t context parent (nodes_in t) numbers parents.at [] k within))

        again : to_do t ((rest ++ option_to_list next) ++ option_to_list first) ≡ A ++ (B ++ to_do t rest)
        again =
            to_do-push t (rest ++ option_to_list next) first
            ∙ (λ j. firsts j ++ (to_do-push t rest next ∙ ap (λ b. b ++ to_do t rest) nexts) j)

  -- what is left lies within
  within-option : (left : List ℕ) (i key : ℕ) (next : Option ℕ) → All (λ k. k < length (nodes_in t)) left → IsNext numbers i key next
      → All (λ k. k < length (nodes_in t)) (left ++ option_to_list next)
  within-option left i key None all is = subst (All (λ k. k < length (nodes_in t))) (sym (append-nil left)) all
  within-option left i key (Some k) all is = All-push (λ j. j < length (nodes_in t)) left k all (omega (arith, is.within, long))

  -- the nodes so far, and what is left to be done
  pub ordering-start : (order left : List ℕ) (first : Option ℕ) → order ≡ [] → left ≡ [] ++ option_to_list first → IsNext numbers 0 0 first → IsOrdering t order left
  ordering-start order left first none is next = record {
    within = subst (All (λ k. k < length (nodes_in t))) (sym none) (All-nil (λ k. k < length (nodes_in t)));
    to_go = subst (All (λ k. k < length (nodes_in t))) (sym is) (within-option [] 0 0 first (All-nil (λ k. k < length (nodes_in t))) next);
    nodes = (λ j. map (nth_node t) (none j) ++ to_do t (is j)) ∙ to_do-start first next;
  }

  pub ordering-place : (order left rest : List ℕ) (k : ℕ) → IsOrdering t order left → left ≡ rest ++ k ∷ [] → k < length (nodes_in t)
  ordering-place order left rest k ordering is = All-last (λ j. j < length (nodes_in t)) rest k (subst (All (λ j. j < length (nodes_in t))) is ordering.to_go)

  module _ (order left rest new_order mid new : List ℕ) (k : ℕ) (beside below : Option ℕ) (ordering : IsOrdering t order left) (popped : left ≡ rest ++ k ∷ []) (added : new_order ≡ order ++ k ∷ [])
      (first : mid ≡ rest ++ option_to_list beside) (second : new ≡ mid ++ option_to_list below) (beside_is : IsNext numbers (suc k) (key_at numbers k) beside) (below_is : IsNext numbers 0 (suc k) below) where
    turn : to_do t left ≡ nth_node t k ∷ to_do t new
    turn =
        ap (to_do t) popped ∙ to_do-turn rest k beside below (ordering-place order left rest k ordering popped) beside_is below_is
        ∙ ap (λ l. nth_node t k ∷ to_do t l) (sym (second ∙ ap (λ l. l ++ option_to_list below) first))

    pub ordering-smaller : length (to_do t new) < length (to_do t left)
    ordering-smaller = omega (arith, ap length turn)

    pub ordering-turn : IsOrdering t new_order new
    ordering-turn = record {
      within = subst (All (λ j. j < length (nodes_in t))) (sym added) (All-push (λ j. j < length (nodes_in t)) order k ordering.within (ordering-place order left rest k ordering popped));
      to_go = subst (All (λ j. j < length (nodes_in t))) (sym (second ∙ ap (λ l. l ++ option_to_list below) first))
          (within-option (rest ++ option_to_list beside) 0 (suc k) below (within-option rest (suc k) (key_at numbers k) beside
          (All-front (λ j. j < length (nodes_in t)) rest k (subst (All (λ j. j < length (nodes_in t))) popped ordering.to_go)) beside_is) below_is);
      nodes =
          ap (λ l. map (nth_node t) l ++ to_do t new) added
          ∙ ap (λ nodes. nodes ++ to_do t new) (map-append (nth_node t) order (k ∷ []))
          ∙ append_assoc (map (nth_node t) order) (nth_node t k ∷ []) (to_do t new)
          ∙ ap (λ nodes. map (nth_node t) order ++ nodes) (sym turn)
          ∙ ordering.nodes;
    }
