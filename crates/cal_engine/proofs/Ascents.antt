-- Adding at a node and at each node above it.
use Rattle.std.proofs.Common.{◌≡◌, ◌<◌, Bool, true, false, not, ◌&&◌, List, [], ◌∷◌, ◌++◌, ◌⊎◌, inl, inr, if◌then◌else◌, length, get_or, refl, sym, ap, subst, ◌∙◌, arith, true≢false, append_assoc, get_or-set_other, get_or-set_same}
use Rattle.std.specs.Prelude.{◌==◌, slice_set}
use Rattle.std.proofs.lemmas.Bool.Decides.{Decides-eqb}
use Rattle.std.proofs.lemmas.List.{length-append}
use Rattle.cal_context.specs.Children.{IsLinked}
use Rattle.cal_context.specs.Lists.{IsFront}
use Rattle.cal_context.specs.Tree.{IsContext, Tree, attribute_at, path_at, value_at}
use Rattle.cal_context.specs.declared.numbers.Link.{Link}
use Rattle.cal_context.specs.declared.numbers.NodeNumber.{NodeNumber}
use Rattle.cal_context.proofs.CallerLemmas.{one_node}
use Rattle.cal_value.specs.declared.attribute.Entry.{Entry}
use Rattle.cal_parts.specs.Parts.{Gathered, merged_parts}
use Rattle.cal_engine.specs.Totals.{IsAddedAbove, IsAddedFrom}
use Rattle.cal_keys.specs.Trails.{begins}
use Rattle.cal_engine.proofs.Trails.{begins_decides, front_push}
use Rattle.cal_keys.proofs.ReadSame.{read_same}

begins_true : (x y : List Entry) → IsFront x y → begins x y ≡ true
begins_true x y f = (begins_decides x y).1 f

pub begins_itself : (x : List Entry) → begins x x ≡ true
begins_itself x = begins_true x x ([], sym (nothing x))
  where
    nothing : (xs : List Entry) → xs ++ [] ≡ xs
    nothing [] = refl
    nothing (y ∷ ys) = ap (λ zs. y ∷ zs) (nothing ys)

begins_false : (x y : List Entry) → (IsFront x y → ⊥) → begins x y ≡ false
begins_false x y no_front = by (begins x y) refl
  where
    by : (b : Bool) → begins x y ≡ b → begins x y ≡ false
    by true e = absurd (no_front ((begins_decides x y).0 e))
    by false e = e

module _ {t : Tree} (is : IsContext t) where
  -- what begins a node's path is the node, or begins its parent's
  begins_above : (link : Link) (node n : NodeNumber) → IsLinked t link node → n.0 < length t.paths → (n.0 ≡ node.0 → ⊥)
      → begins (path_at t n) (path_at t node) ≡ begins (path_at t n) (path_at t link.parent)
  begins_above link node n linked l ne = by (begins (path_at t n) (path_at t node)) (begins (path_at t n) (path_at t link.parent)) refl refl
    where
      own : Entry
      own = record { attr = attribute_at t link.attribute; value = value_at t link.value }

      longer : IsFront (path_at t n) (path_at t link.parent) → IsFront (path_at t n) (path_at t node)
      longer f = (
        f.0 ++ record { attr = attribute_at t link.attribute; value = value_at t link.value } ∷ [],
        linked.child.path ∙ ap (λ p. p ++ record { attr = attribute_at t link.attribute; value = value_at t link.value } ∷ []) f.1 ∙ append_assoc (path_at t n) f.0 _,
      )

      shorter : IsFront (path_at t n) (path_at t node) → IsFront (path_at t n) (path_at t link.parent)
      shorter f = at (front_push (path_at t n) (path_at t link.parent) _ (subst (IsFront (path_at t n)) linked.child.path f))
        where
          at : (path_at t n ≡ path_at t link.parent ++ record { attr = attribute_at t link.attribute; value = value_at t link.value } ∷ []) ⊎ IsFront (path_at t n) (path_at t link.parent)
              → IsFront (path_at t n) (path_at t link.parent)
          at (inl e) = absurd (ne (ap (λ m. m.0) (one_node is n node l linked.child.within (e ∙ sym linked.child.path))))
          at (inr f) = f

      by : (a b : Bool) → begins (path_at t n) (path_at t node) ≡ a → begins (path_at t n) (path_at t link.parent) ≡ b
          → begins (path_at t n) (path_at t node) ≡ begins (path_at t n) (path_at t link.parent)
      by true b ea eb = ea ∙ sym (begins_true (path_at t n) (path_at t link.parent) (shorter ((begins_decides (path_at t n) (path_at t node)).0 ea)))
      by false true ea eb = absurd (true≢false (sym (begins_true (path_at t n) (path_at t node) (longer ((begins_decides (path_at t n) (path_at t link.parent)).0 eb))) ∙ ea))
      by false false ea eb = ea ∙ sym eb

  -- a path doesn't begin its parent's
  not_begins_parent : (link : Link) (node : NodeNumber) → IsLinked t link node → begins (path_at t node) (path_at t link.parent) ≡ false
  not_begins_parent link node linked = begins_false (path_at t node) (path_at t link.parent) (λ f.
      let long = ap length linked.child.path ∙ length-append (path_at t link.parent) _ in
      let other = ap length f.1 ∙ length-append (path_at t node) f.0 in
      omega (arith, long, other))

  -- a parent begins what its child begins
  pub parent_begins : (link : Link) (node from : NodeNumber) → IsLinked t link node → begins (path_at t node) (path_at t from) ≡ true
      → begins (path_at t link.parent) (path_at t from) ≡ true
  parent_begins link node from linked h =
      let f = (begins_decides (path_at t node) (path_at t from)).0 h in
      begins_true (path_at t link.parent) (path_at t from)
      (_ ∷ f.0, f.1 ∙ ap (λ p. p ++ f.0) linked.child.path ∙ append_assoc (path_at t link.parent) _ f.0)

  module _ (from node : NodeNumber) (parts : List Gathered) (old now : List (List Gathered)) (d : List Gathered)
      (added : IsAddedFrom t from node parts old now) (within : node.0 < length t.paths)
      (long : length old ≡ length t.paths) (long_now : length now ≡ length t.paths)
      (above : begins (path_at t node) (path_at t from) ≡ true) where
    -- what stands at the node now
    here : (e : List Gathered) → get_or now node.0 d ≡ get_or old node.0 e
    here e =
        added.at node d within
        ∙ ap (λ b. if begins (path_at t node) (path_at t from) && not b then merged_parts (get_or old node.0 d) parts else get_or old node.0 d) (begins_itself (path_at t node))
        ∙ ap (λ b. if b && false then merged_parts (get_or old node.0 d) parts else get_or old node.0 d) above
        ∙ read_same old node.0 d e (omega (arith, within, long))

    now_here : (n : NodeNumber) (e : List Gathered) → n.0 ≡ node.0
        → get_or (slice_set now node.0 (merged_parts (get_or now node.0 d) parts)) n.0 e ≡ merged_parts (get_or old n.0 e) parts
    now_here n e same =
        ap (λ k. get_or (slice_set now node.0 (merged_parts (get_or now node.0 d) parts)) k e) same
        ∙ (let l : node.0 < length now = omega (arith, within, long_now) in rw get_or-set_same refl)
        ∙ ap (λ g. merged_parts g parts) (here e)
        ∙ ap (λ k. merged_parts (get_or old k e) parts) (sym same)

    now_other : (n : NodeNumber) (e : List Gathered) → (n.0 ≡ node.0 → ⊥)
        → get_or (slice_set now node.0 (merged_parts (get_or now node.0 d) parts)) n.0 e ≡ get_or now n.0 e
    now_other n e ne = rw get_or-set_other refl

    -- one node more is added to
    pub added_more : (link : Link) → IsLinked t link node
        → IsAddedFrom t from link.parent parts old (slice_set now node.0 (merged_parts (get_or now node.0 d) parts))
    added_more link linked = record { at = at }
      where
        at : (n : NodeNumber) (e : List Gathered) → n.0 < length t.paths
            → get_or (slice_set now node.0 (merged_parts (get_or now node.0 d) parts)) n.0 e
            ≡ (if begins (path_at t n) (path_at t from) && not (begins (path_at t n) (path_at t link.parent)) then merged_parts (get_or old n.0 e) parts else get_or old n.0 e)
        at n e l = by (n.0 == node.0) refl
          where
            by : (b : Bool) → (n.0 == node.0) ≡ b
                → get_or (slice_set now node.0 (merged_parts (get_or now node.0 d) parts)) n.0 e
                ≡ (if begins (path_at t n) (path_at t from) && not (begins (path_at t n) (path_at t link.parent)) then merged_parts (get_or old n.0 e) parts else get_or old n.0 e)
            by true h =
                let same = (Decides-eqb n.0 node.0).0 h in
                let node_is : node ≡ n = λ i. record { 0 = sym same i } in
                let first = subst (λ m. begins (path_at t m) (path_at t from) ≡ true) node_is above in
                let second = subst (λ m. begins (path_at t m) (path_at t link.parent) ≡ false) node_is (not_begins_parent link node linked) in
                now_here n e same
                ∙ sym (ap (λ b. if b && not (begins (path_at t n) (path_at t link.parent)) then merged_parts (get_or old n.0 e) parts else get_or old n.0 e) first
                ∙ ap (λ b. if not b then merged_parts (get_or old n.0 e) parts else get_or old n.0 e) second)
            by false h =
                let ne = λ (s : n.0 ≡ node.0). true≢false (sym ((Decides-eqb n.0 node.0).1 s) ∙ h) in
                now_other n e ne ∙ added.at n e l
                ∙ ap (λ b. if begins (path_at t n) (path_at t from) && not b then merged_parts (get_or old n.0 e) parts else get_or old n.0 e) (begins_above link node n linked l ne)

    -- and the root is the last
    pub added_last : path_at t node ≡ []
        → IsAddedAbove t from parts old (slice_set now node.0 (merged_parts (get_or now node.0 d) parts))
    added_last root = record { at = at }
      where
        at : (n : NodeNumber) (e : List Gathered) → n.0 < length t.paths
            → get_or (slice_set now node.0 (merged_parts (get_or now node.0 d) parts)) n.0 e
            ≡ (if begins (path_at t n) (path_at t from) then merged_parts (get_or old n.0 e) parts else get_or old n.0 e)
        at n e l = by (n.0 == node.0) refl
          where
            plain : (b : Bool) → (b && true) ≡ b
            plain true = refl
            plain false = refl

            by : (b : Bool) → (n.0 == node.0) ≡ b
                → get_or (slice_set now node.0 (merged_parts (get_or now node.0 d) parts)) n.0 e
                ≡ (if begins (path_at t n) (path_at t from) then merged_parts (get_or old n.0 e) parts else get_or old n.0 e)
            by true h =
                let same = (Decides-eqb n.0 node.0).0 h in
                let node_is : node ≡ n = λ i. record { 0 = sym same i } in
                let first = subst (λ m. begins (path_at t m) (path_at t from) ≡ true) node_is above in
                now_here n e same
                ∙ sym (ap (λ b. if b then merged_parts (get_or old n.0 e) parts else get_or old n.0 e) first)
            by false h =
                let ne = λ (s : n.0 ≡ node.0). true≢false (sym ((Decides-eqb n.0 node.0).1 s) ∙ h) in
                let apart = begins_false (path_at t n) (path_at t node) (λ f.
                let long_root = ap length root in
                let other = ap length f.1 ∙ length-append (path_at t n) f.0 in
                let empty : length (path_at t n) ≡ 0 = omega (arith, long_root, other) in
                ne (ap (λ m. m.0) (one_node is n node l within (no_entry (path_at t n) empty ∙ sym root)))) in
                now_other n e ne ∙ added.at n e l
                ∙ ap (λ b. if begins (path_at t n) (path_at t from) && not b then merged_parts (get_or old n.0 e) parts else get_or old n.0 e) apart
                ∙ ap (λ b. if b then merged_parts (get_or old n.0 e) parts else get_or old n.0 e) (plain (begins (path_at t n) (path_at t from)))
              where
                no_entry : (p : List Entry) → length p ≡ 0 → p ≡ []
                no_entry [] e = refl
                no_entry (x ∷ xs) e = absurd (omega (arith, e))

-- at first nothing is added
pub added_none : (t : Tree) (from : NodeNumber) (parts : List Gathered) (old : List (List Gathered)) → IsAddedFrom t from from parts old old
added_none t from parts old = record { at = λ n d l. by (begins (path_at t n) (path_at t from)) (get_or old n.0 d) (merged_parts (get_or old n.0 d) parts) }
  where
    by : (b : Bool) (x y : List Gathered) → x ≡ (if b && not b then y else x)
    by true x y = refl
    by false x y = refl
