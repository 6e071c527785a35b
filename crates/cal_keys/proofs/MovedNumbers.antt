-- Numbers of one context in another.
use Rattle.std.proofs.Common.{◌≡◌, ℕ, zero, suc, ◌+◌, ◌<◌, ◌≤◌, List, [], ◌∷◌, ◌++◌, ◌⊎◌, inl, inr, Option, None, Some, length, map, replicate, take, get_or, slice_get, slice_set, sym, ap, subst, ◌∙◌, arith}
use Rattle.std.proofs.lemmas.Bool.{cases_lt}
use Rattle.std.proofs.lemmas.List.{get_or-set_same, get_or-set_other, get_or_append_left, get_or_push, length-append, length-set, map-append, map_more}
use Rattle.std.proofs.lemmas.Option.{get_or_from_slice_get, slice_get-get_or, slice_get_within}
use Rattle.cal_context.specs.Children.{AddsChild, IsLinked}
use Rattle.cal_context.specs.Tree.{Tree, Grows, IsContext, attribute_at, path_at, value_at}
use Rattle.cal_context.specs.declared.numbers.AttributeNumber.{AttributeNumber}
use Rattle.cal_context.specs.declared.numbers.Link.{Link}
use Rattle.cal_context.specs.declared.numbers.NodeNumber.{NodeNumber}
use Rattle.cal_context.proofs.CallerLemmas.{Grows-trans}
use Rattle.cal_filter.specs.Results.{IsNumbered}
use Rattle.cal_keys.specs.Moves.{AreMovedAttributes, AreMovedNodes}
use Rattle.cal_keys.specs.Leading.{Leads}
use Rattle.cal_keys.proofs.Reaching.{Leads-Grows, leads-none}
use Rattle.cal_keys.proofs.Reaching.{numbered-Grows}

-- ---- attributes

pub attributes-Grows : (t u v : Tree) (ks : List AttributeNumber) → Grows u v → AreMovedAttributes t u ks → AreMovedAttributes t v ks
attributes-Grows t u v ks grows are = λ n k at. numbered-Grows grows (attribute_at t n) k (are n k at)

pub attributes_none : (t u : Tree) (ks : List AttributeNumber) → ks ≡ [] → AreMovedAttributes t u ks
attributes_none t u ks none n k at =
    let within = slice_get_within ks n.0 k at in
    absurd (omega (arith, within, ap length none))

pub attributes_more : (t u v : Tree) (old new : List AttributeNumber) (n k : AttributeNumber) → Grows u v → AreMovedAttributes t u old
    → n.0 ≡ length old → new ≡ old ++ k ∷ [] → IsNumbered v (attribute_at t n) k → AreMovedAttributes t v new
attributes_more t u v old new n k grows are counted more is m j at = by (cases_lt m.0 (length old))
  where
    within : m.0 < length new
    within = slice_get_within new m.0 j at

    reads : get_or (old ++ k ∷ []) m.0 j ≡ j
    reads = ap (λ xs. get_or xs m.0 j) (sym more) ∙ get_or_from_slice_get new m.0 j j at

    long : length new ≡ length old + 1
    long = ap length more ∙ length-append old (k ∷ [])

    by : ((m.0 < length old) ⊎ (length old ≤ m.0)) → IsNumbered v (attribute_at t m) j
    by (inl less) =
        let there : slice_get old m.0 ≡ Some j =
        slice_get-get_or old m.0 j less ∙ ap Some (sym (get_or_append_left old (k ∷ []) j m.0 less) ∙ reads) in
        numbered-Grows grows (attribute_at t m) j (are m j there)
    by (inr over) =
        let place : length old ≡ m.0 = omega (arith, over, within, long) in
        let number : k ≡ j = sym (get_or_push old k j m.0 place) ∙ reads in
        let same : n.0 ≡ m.0 = counted ∙ place in
        let attribute : n ≡ m = λ i. record { 0 = same i } in
        subst (IsNumbered v (attribute_at t m)) number (subst (λ (a : AttributeNumber). IsNumbered v (attribute_at t a) k) attribute is)

-- ---- nodes

pub nodes_none : (t u : Tree) (count : ℕ) (nodes : List (Option NodeNumber)) → nodes ≡ replicate count None → AreMovedNodes t u nodes
nodes_none t u count nodes none n k at = absurd (nowhere count n.0 (sym (ap (λ xs. slice_get xs n.0) none) ∙ at))
  where
    nowhere : (c i : ℕ) → slice_get (replicate {A = Option NodeNumber} c None) i ≡ Some (Some k) → ⊥
    nowhere zero i e = cc
    nowhere (suc c) zero e = cc
    nowhere (suc c) (suc i) e = nowhere c i e

pub nodes_set : (t u v : Tree) (old new : List (Option NodeNumber)) (n k : NodeNumber) → Grows u v → AreMovedNodes t u old
    → new ≡ slice_set old n.0 (Some k) → Leads v (path_at t n) k → AreMovedNodes t v new
nodes_set t u v old new n k grows are is leads m j at = by (cases_lt m.0 n.0) (cases_lt n.0 m.0)
  where
    within : m.0 < length old
    within = omega (arith, slice_get_within new m.0 (Some j) at, ap length is ∙ length-set old n.0 (Some k))

    reads : get_or (slice_set old n.0 (Some k)) m.0 (Some j) ≡ Some j
    reads = ap (λ xs. get_or xs m.0 (Some j)) (sym is) ∙ get_or_from_slice_get new m.0 (Some j) (Some j) at

    other : (m.0 ≡ n.0 → ⊥) → Leads v (path_at t m) j
    other differs =
        let there : slice_get old m.0 ≡ Some (Some j) =
        slice_get-get_or old m.0 (Some j) within ∙ ap Some (sym (get_or-set_other old n.0 m.0 (Some k) (Some j) differs) ∙ reads) in
        Leads-Grows grows (path_at t m) j (are m j there)

    here : m.0 ≡ n.0 → Leads v (path_at t m) j
    here same =
        let number : Some k ≡ Some j =
        sym (get_or-set_same old n.0 (Some k) (Some j) (omega (arith, same, within)))
        ∙ ap (λ i. get_or (slice_set old n.0 (Some k)) i (Some j)) (sym same) ∙ reads in
        let numbers : k ≡ j = cc in
        let node : n ≡ m = λ i. record { 0 = sym same i } in
        subst (Leads v (path_at t m)) numbers (subst (λ (a : NodeNumber). Leads v (path_at t a) k) node leads)

    by : ((m.0 < n.0) ⊎ (n.0 ≤ m.0)) → ((n.0 < m.0) ⊎ (m.0 ≤ n.0)) → Leads v (path_at t m) j
    by (inl less) _ = other (λ same. omega (arith, less, same))
    by (inr up) (inl more) = other (λ same. omega (arith, more, same))
    by (inr up) (inr down) = here (omega (arith, up, down))

-- a node below one that was moved
pub node_put : (t u mid v : Tree) (nodes : List (Option NodeNumber)) (link : Link) (node parent number : NodeNumber) (a : AttributeNumber) → IsLinked t link node
    → AreMovedNodes t u nodes → slice_get nodes link.parent.0 ≡ Some (Some parent) → Grows u mid → IsNumbered mid (attribute_at t link.attribute) a
    → AddsChild mid parent a (value_at t link.value) v number → Grows mid v → Leads v (path_at t node) number
node_put t u mid v nodes link node parent number a linked are at first numbered child grows =
    let up = Leads-Grows (Grows-trans u mid v first grows) (path_at t link.parent) parent (are link.parent parent at) in
    let attribute = numbered-Grows grows (attribute_at t link.attribute) a numbered in
    record {
      within = child.child.within;
      is =
          child.child.path
          ∙ (λ i. up.is i ++ record { attr = attribute.is i; value = value_at t link.value } ∷ [])
          ∙ sym linked.child.path;
    }

-- one node more by its number
pub nodes_next : (t u : Tree) (nodes : List NodeNumber) (moved : List (Option NodeNumber)) (n : ℕ) (node number : NodeNumber) (before after : List NodeNumber)
    → n < length nodes → node ≡ get_or nodes n node → AreMovedNodes t u moved → slice_get moved node.0 ≡ Some (Some number)
    → map (path_at u) before ≡ map (path_at t) (take n nodes) → after ≡ before ++ number ∷ []
    → map (path_at u) after ≡ map (path_at t) (take (n + 1) nodes)
nodes_next t u nodes moved n node number before after short is are at done more =
    ap (map (path_at u)) more
    ∙ map-append (path_at u) before (number ∷ [])
    ∙ (λ i. done i ++ (are node number at).is i ∷ [])
    ∙ ap (λ m. map (path_at t) (take n nodes) ++ path_at t m ∷ []) is
    ∙ sym (map_more (path_at t) nodes n node short)
