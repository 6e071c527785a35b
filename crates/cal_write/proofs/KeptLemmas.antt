use Rattle.std.proofs.Common.{◌≡◌, ℕ, ◌<◌, ◌≤◌, Bool, true, false, ◌⊎◌, inl, inr, List, [], ◌∷◌, ◌++◌, length, pos, Option, Some, None, refl, sym, ap, ◌∙◌, subst, true≢false, arith, lit≤, eqb, nat_eq, if◌then◌else◌}
use Rattle.std.specs.Prelude.{IsSome}
use Rattle.std.specs.List.{list_any}
use Rattle.std.proofs.lemmas.Bool.Decides.{Decides-eqb}
use Rattle.std.proofs.lemmas.List.{get_or_past, same_from_push}
use Rattle.cal_value.specs.declared.attribute.Attribute.{Attribute}
use Rattle.cal_value.specs.declared.attribute.Entry.{Entry}
use Rattle.cal_value.specs.declared.variant.Variant.TheVariants as value
use Rattle.cal_context.specs.Lists.{IsFront}
use Rattle.cal_context.specs.Tree.{Tree, IsContext, attribute_at, value_at, path_at}
use Rattle.cal_context.specs.Children.{IsLinked}
use Rattle.cal_context.specs.declared.numbers.AttributeNumber.{AttributeNumber}
use Rattle.cal_context.specs.declared.numbers.Link.{Link}
use Rattle.cal_context.specs.declared.numbers.NodeNumber.{NodeNumber}
use Rattle.cal_context.proofs.CallerLemmas.{one_node}
use Rattle.cal_write.specs.Nodes.{Node, same_node, name_attribute, prop_attribute, node_of_kind, node_of_props, node_of_attribute, needed_by_props, needed_by_attribute, needed_below}
use Rattle.cal_write.specs.CanonicalText.{id_in}
use Rattle.cal_write.specs.Memo.{memo_at}
use Rattle.cal_write.specs.Places.{Has, IsAt, IsParent}
use Rattle.cal_write.specs.Stream.{IsStream, IsBegun, WritesTo, Describes, AddsEntry}
use Rattle.cal_write.specs.Kept.{IsNoted, IsKnown, HasNote, IsKept, NeedsAttribute, NeedsNode, AddsNode}
use Rattle.cal_write.specs.Written.{Written, after, written}
use Rattle.cal_write.specs.declared.built_in.BuiltIn.TheVariants.{OfNames, OfProps}
use Rattle.cal_write.specs.declared.node_writer.NodeWriter.{NodeWriter}
use Rattle.cal_write.proofs.AfterLemmas.{after-append, after-known}
use Rattle.cal_write.proofs.BuiltInLemmas.{built_in-named}
use Rattle.cal_write.proofs.DescribeLemmas.{knows}
use Rattle.cal_write.proofs.PlaceLemmas.{at-parent, push-some, fold-front, Has-push_cases, Has-fold_cases, HasAll-fold, IsParent-grown, KnowsAttribute-grown, id_in-grown}
use Rattle.cal_write.proofs.StreamLemmas.{closed-there, closed-attribute, needed_below-push}

-- ---- notes, as more is written

IsNoted-grown : (t : Tree) (old new : List Node) → IsFront old new → (n : NodeNumber) (id : ℕ) → IsNoted t old n id → IsNoted t new n id
IsNoted-grown t old new g n id h = record { within = h.within; at = IsParent-grown old new g (path_at t n) (Some id) h.at }

IsKnown-grown : (t : Tree) (old new : List Node) → IsFront old new → (a : AttributeNumber) (id : ℕ) → IsKnown t old a id → IsKnown t new a id
IsKnown-grown t old new g a id h = record { within = h.within; knows = KnowsAttribute-grown old new g (attribute_at t a) id h.knows }

-- a memo after a note is made
abbrev pub SetsAt : List (Option ℕ) → ℕ → ℕ → List (Option ℕ) → Type 0
SetsAt old n v new = (k : ℕ) → memo_at new k ≡ (if nat_eq n k then Some v else memo_at old k)

set-cases : (old new : List (Option ℕ)) (n v k i : ℕ) → memo_at new k ≡ (if nat_eq n k then Some v else memo_at old k) → memo_at new k ≡ Some i
    → ((n ≡ k) × (v ≡ i)) ⊎ (memo_at old k ≡ Some i)
set-cases old new n v k i set h = by (nat_eq n k) ((Decides-eqb n k).0) (sym set ∙ h)
  where
    by : (b : Bool) → (b ≡ true → n ≡ k) → (if b then Some v else memo_at old k) ≡ Some i → ((n ≡ k) × (v ≡ i)) ⊎ (memo_at old k ≡ Some i)
    by true same e = inl (same refl, (let one : v ≡ i = cc in one))
    by false same e = inr e

set-here : (old new : List (Option ℕ)) (n v : ℕ) → memo_at new n ≡ (if nat_eq n n then Some v else memo_at old n) → IsSome (memo_at new n)
set-here old new n v set = rw (set, (Decides-eqb n n).1 refl) refl

set-more : (old new : List (Option ℕ)) (n v k : ℕ) → memo_at new k ≡ (if nat_eq n k then Some v else memo_at old k) → IsSome (memo_at old k) → IsSome (memo_at new k)
set-more old new n v k set h = rw set (by (nat_eq n k))
  where
    by : (b : Bool) → IsSome (if b then Some v else memo_at old k)
    by true = refl
    by false = h

-- ---- what an attribute needs is of built-in attributes

small : (v : NodeWriter) (s : Written) → IsStream v.stream s → (a : Attribute) (up : Node) (e : Entry) → Has (needed_by_attribute a) (up ++ e ∷ [])
    → id_in s.nodes (node_of_attribute e.attr) ≤ 10
small v s is a up e h = by (Has-push_cases (needed_by_props a) (node_of_attribute a) (up ++ e ∷ []) h)
  where
    named : name_attribute ≡ e.attr → id_in s.nodes (node_of_attribute e.attr) ≤ 10
    named same = subst (λ b. id_in s.nodes (node_of_attribute b) ≤ 10) same (subst (λ i. i ≤ 10) (knows v.stream s is OfNames).at.is (lit≤ tt))

    propped : prop_attribute ≡ e.attr → id_in s.nodes (node_of_attribute e.attr) ≤ 10
    propped same = subst (λ b. id_in s.nodes (node_of_attribute b) ≤ 10) same (subst (λ i. i ≤ 10) (knows v.stream s is OfProps).at.is (lit≤ tt))

    kind_and : Node
    kind_and = node_of_kind a.kind ++ record { attr = prop_attribute; value = value.Int (pos a.props.0) } ∷ []

    props : (b : Bool) → Has (if b then [] else (if b then node_of_kind a.kind else (node_of_kind a.kind ++ record { attr = prop_attribute; value = value.Int (pos a.props.0) } ∷ [])) ∷ []) (up ++ e ∷ [])
        → id_in s.nodes (node_of_attribute e.attr) ≤ 10
    props true g = absurd (true≢false (sym g))
    props false g = one (Has-push_cases [] (node_of_kind a.kind ++ record { attr = prop_attribute; value = value.Int (pos a.props.0) } ∷ []) (up ++ e ∷ []) g)
      where
        one : Has [] (up ++ e ∷ []) ⊎ ((node_of_kind a.kind ++ record { attr = prop_attribute; value = value.Int (pos a.props.0) } ∷ []) ≡ (up ++ e ∷ [])) → id_in s.nodes (node_of_attribute e.attr) ≤ 10
        one (inl k) = absurd (true≢false (sym k))
        one (inr same) = propped (ap (λ f. f.attr) (same_from_push (node_of_kind a.kind) up (record { attr = prop_attribute; value = value.Int (pos a.props.0) }) e same).1)

    by : Has (needed_by_props a) (up ++ e ∷ []) ⊎ (node_of_attribute a ≡ (up ++ e ∷ [])) → id_in s.nodes (node_of_attribute e.attr) ≤ 10
    by (inl g) = props (eqb a.props.0 0) g
    by (inr same) = named (ap (λ f. f.attr) (same_from_push (node_of_props a.props a.kind) up (record { attr = name_attribute; value = value.Text a.name }) e same).1)

-- ---- the writer at its beginning

pub kept-begun : (t : Tree) (w : NodeWriter) → IsBegun w.stream → w.nodes ≡ [] → w.attributes ≡ [] → IsKept t w (written [])
kept-begun t w is nodes attributes = record {
  stream = is;
  nodes = λ n id h. absurd (none n.0 id (sym (ap (λ m. memo_at m n.0) nodes) ∙ h));
  all = λ up e h large. absurd (omega (arith, (built_in-named up e h).0, large));
  attributes = λ a id h. absurd (none a.0 id (sym (ap (λ m. memo_at m a.0) attributes) ∙ h));
}
  where
    none : (n id : ℕ) → memo_at [] n ≡ Some id → ⊥
    none n id h = let e = get_or_past {X = Option ℕ} [] n None (omega arith) in cc

-- ---- an attribute that is needed

pub attribute-known : (t : Tree) (w : NodeWriter) (a : AttributeNumber) (id : ℕ) → memo_at w.attributes a.0 ≡ Some id → NeedsAttribute t w w a id
attribute-known t w a id h = record {
  kept = λ s k. subst (IsKept t w) (sym (after-known s (needed_by_attribute (attribute_at t a)) (k.attributes a id h).knows.needed)) k;
  at = λ s k. subst (λ (v : Written). IsAt v.nodes (node_of_attribute (attribute_at t a)) id)
      (sym (after-known s (needed_by_attribute (attribute_at t a)) (k.attributes a id h).knows.needed)) (k.attributes a id h).knows.at;
}

pub attribute-described : (t : Tree) (old new : NodeWriter) (a : AttributeNumber) (id : ℕ) → a.0 < length t.attributes
    → Describes old.stream new.stream (needed_by_attribute (attribute_at t a)) (node_of_attribute (attribute_at t a)) id → new.nodes ≡ old.nodes
    → SetsAt old.attributes a.0 id new.attributes → NeedsAttribute t old new a id
attribute-described t old new a id within describes same set = record {
  kept = λ s k. record {
    stream = (describes s k.stream).stream;
    nodes = λ n i h. IsNoted-grown t s.nodes (after s needed).nodes (front s) n i (k.nodes n i (sym (ap (λ m. memo_at m n.0) same) ∙ h));
    all = λ up e h large. subst (λ m. HasNote t m (up ++ e ∷ [])) (sym same) (all s k up e large (Has-fold_cases s.nodes needed (up ++ e ∷ []) h));
    attributes = λ b i h. attributes s k b i (set-cases old.attributes new.attributes a.0 id b.0 i (set b.0) h);
  };
  at = λ s k. (describes s k.stream).at;
}
  where
    needed : List Node
    needed = needed_by_attribute (attribute_at t a)

    front : (s : Written) → IsFront s.nodes (after s needed).nodes
    front s = fold-front s.nodes needed

    all : (s : Written) → IsKept t old s → (up : Node) (e : Entry) → 10 < id_in (after s needed).nodes (node_of_attribute e.attr)
        → Has s.nodes (up ++ e ∷ []) ⊎ Has needed (up ++ e ∷ []) → HasNote t old.nodes (up ++ e ∷ [])
    all s k up e large (inl h) =
        let stays = id_in-grown s.nodes (after s needed).nodes (front s) (node_of_attribute e.attr) (closed-attribute s.nodes k.stream.closed up e h) in
        k.all up e h (omega (arith, large, stays))
    all s k up e large (inr h) = absurd (omega (arith, large, small new (after s needed) (describes s k.stream).stream (attribute_at t a) up e h))

    attributes : (s : Written) → IsKept t old s → (b : AttributeNumber) (i : ℕ) → ((a.0 ≡ b.0) × (id ≡ i)) ⊎ (memo_at old.attributes b.0 ≡ Some i)
        → IsKnown t (after s needed).nodes b i
    attributes s k b i (inr h) = IsKnown-grown t s.nodes (after s needed).nodes (front s) b i (k.attributes b i h)
    attributes s k b i (inl (one, place)) =
        let same_number : a ≡ b = λ j. record { 0 = one j } in
        let here : IsKnown t (after s needed).nodes a id = record { within = within; knows = record { at = (describes s k.stream).at; needed = HasAll-fold s.nodes needed } } in
        subst (λ v. IsKnown t (after s needed).nodes b v) place (subst (λ v. IsKnown t (after s needed).nodes v id) same_number here)

-- ---- a node that is needed

pub node-known : (t : Tree) (w : NodeWriter) (n : NodeNumber) (id : ℕ) → memo_at w.nodes n.0 ≡ Some id → NeedsNode t w w n (Some id)
node-known t w n id h = record {
  kept = λ s k. subst (IsKept t w) (sym (stays s k)) k;
  at = λ s k. subst (λ (v : Written). IsParent v.nodes (path_at t n) (Some id)) (sym (stays s k)) (k.nodes n id h).at;
}
  where
    stays : (s : Written) → IsKept t w s → after s (needed_below [] (path_at t n)) ≡ s
    stays s k = after-known s (needed_below [] (path_at t n)) (closed-there s.nodes k.stream.closed (path_at t n) (k.nodes n id h).at.there)

module _ (t : Tree) (context : IsContext t) (old mid new : NodeWriter) (l : Link) (n : NodeNumber) (parent : Option ℕ) (attribute id : ℕ) (linked : IsLinked t l n)
    (unknown : memo_at old.nodes n.0 ≡ None) (needs : NeedsAttribute t old mid l.attribute attribute) (same : mid.nodes ≡ old.nodes)
    (adds : AddsEntry mid.stream new.stream parent attribute (record { attr = attribute_at t l.attribute; value = value_at t l.value }) id)
    (notes : SetsAt mid.nodes n.0 id new.nodes) (others : new.attributes ≡ mid.attributes) where
  entry : Entry
  entry = record { attr = attribute_at t l.attribute; value = value_at t l.value }

  needed : List Node
  needed = needed_by_attribute (attribute_at t l.attribute)

  -- a node without a note isn't there
  fresh : (s : Written) → IsKept t mid s → 10 < id_in s.nodes (node_of_attribute (attribute_at t l.attribute))
      → list_any (same_node (path_at t l.parent ++ record { attr = attribute_at t l.attribute; value = value_at t l.value } ∷ [])) s.nodes ≡ false
  fresh s k large =
      by (list_any (same_node (path_at t l.parent ++ record { attr = attribute_at t l.attribute; value = value_at t l.value } ∷ [])) s.nodes)
      (λ h. k.all (path_at t l.parent) (record { attr = attribute_at t l.attribute; value = value_at t l.value }) h large)
    where
      by : (b : Bool) → (b ≡ true → HasNote t mid.nodes (path_at t l.parent ++ record { attr = attribute_at t l.attribute; value = value_at t l.value } ∷ [])) → b ≡ false
      by false h = refl
      by true h =
          let note = h refl in
          let one = one_node context note.number n note.within linked.child.within (note.path ∙ sym linked.child.path) in
          let none : memo_at mid.nodes n.0 ≡ None = ap (λ m. memo_at m n.0) same ∙ unknown in
          let some : IsSome (memo_at mid.nodes n.0) = subst (λ m. IsSome (memo_at mid.nodes m.0)) one note.noted in
          absurd (true≢false (sym (rw none at some)))

  module _ (s : Written) (k : IsKept t old s) (there : IsParent s.nodes (path_at t l.parent) parent) where
    first : Written
    first = after s (needed_by_attribute (attribute_at t l.attribute))

    writes : WritesTo new.stream (after (after s (needed_by_attribute (attribute_at t l.attribute))) ((path_at t l.parent ++ record { attr = attribute_at t l.attribute; value = value_at t l.value } ∷ []) ∷ []))
        (path_at t l.parent ++ record { attr = attribute_at t l.attribute; value = value_at t l.value } ∷ []) id
    writes =
        let s1 : Written = after s (needed_by_attribute (attribute_at t l.attribute)) in
        let k1 = needs.kept s k in
        let at = needs.at s k in
        adds s1 (path_at t l.parent) k1.stream
        (IsParent-grown s.nodes s1.nodes (fold-front s.nodes (needed_by_attribute (attribute_at t l.attribute))) (path_at t l.parent) parent there)
        (record { at = at; needed = HasAll-fold s.nodes (needed_by_attribute (attribute_at t l.attribute)) })
        (λ large. fresh s1 k1 (subst (λ i. 10 < i) at.is large))

    all-steps : after s (needed_by_attribute (attribute_at t l.attribute) ++ path_at t n ∷ [])
        ≡ after (after s (needed_by_attribute (attribute_at t l.attribute))) ((path_at t l.parent ++ record { attr = attribute_at t l.attribute; value = value_at t l.value } ∷ []) ∷ [])
    all-steps =
        after-append s (needed_by_attribute (attribute_at t l.attribute)) (path_at t n ∷ [])
        ∙ ap (λ m. after (after s (needed_by_attribute (attribute_at t l.attribute))) (m ∷ [])) linked.child.path

    node-at : IsAt (after s (needed_by_attribute (attribute_at t l.attribute) ++ path_at t n ∷ [])).nodes (path_at t n) id
    node-at = subst (λ (v : Written). IsAt v.nodes (path_at t n) id) (sym all-steps) (subst
        (λ p. IsAt (after (after s (needed_by_attribute (attribute_at t l.attribute))) ((path_at t l.parent ++ record { attr = attribute_at t l.attribute; value = value_at t l.value } ∷ []) ∷ [])).nodes p id)
        (sym linked.child.path) writes.at)

    node-kept : IsKept t new (after s (needed_by_attribute (attribute_at t l.attribute) ++ path_at t n ∷ []))
    node-kept = subst (IsKept t new) (sym all-steps) (record {
      stream = writes.stream;
      nodes = λ m i h. nodes m i (set-cases mid.nodes new.nodes n.0 id m.0 i (notes m.0) h);
      all = λ up e h large. all up e large (Has-fold_cases s1.nodes (m ∷ []) (up ++ e ∷ []) h);
      attributes = λ a i h. IsKnown-grown t s1.nodes s2.nodes front a i (k1.attributes a i (sym (ap (λ x. memo_at x a.0) others) ∙ h));
    })
      where
        m : Node
        m = path_at t l.parent ++ record { attr = attribute_at t l.attribute; value = value_at t l.value } ∷ []

        s1 : Written
        s1 = after s (needed_by_attribute (attribute_at t l.attribute))

        s2 : Written
        s2 = after s1 (m ∷ [])

        k1 : IsKept t mid s1
        k1 = needs.kept s k

        front : IsFront s1.nodes s2.nodes
        front = fold-front s1.nodes (m ∷ [])

        nodes : (q : NodeNumber) (i : ℕ) → ((n.0 ≡ q.0) × (id ≡ i)) ⊎ (memo_at mid.nodes q.0 ≡ Some i) → IsNoted t s2.nodes q i
        nodes q i (inr h) = IsNoted-grown t s1.nodes s2.nodes front q i (k1.nodes q i h)
        nodes q i (inl (one, place)) =
            let same_number : n ≡ q = λ j. record { 0 = one j } in
            let at : IsParent s2.nodes m (Some id) = at-parent s2.nodes m id (push-some (path_at t l.parent) (record { attr = attribute_at t l.attribute; value = value_at t l.value })) writes.at in
            let here : IsNoted t s2.nodes n id = record { within = linked.child.within; at = subst (λ p. IsParent s2.nodes p (Some id)) (sym linked.child.path) at } in
            subst (λ v. IsNoted t s2.nodes q v) place (subst (λ v. IsNoted t s2.nodes v id) same_number here)

        all : (up : Node) (e : Entry) → 10 < id_in s2.nodes (node_of_attribute e.attr) → Has s1.nodes (up ++ e ∷ []) ⊎ Has (m ∷ []) (up ++ e ∷ []) → HasNote t new.nodes (up ++ e ∷ [])
        all up e large (inl h) =
            let stays = id_in-grown s1.nodes s2.nodes front (node_of_attribute e.attr) (closed-attribute s1.nodes k1.stream.closed up e h) in
            let note = k1.all up e h (omega (arith, large, stays)) in
            record { number = note.number; within = note.within; path = note.path; noted = set-more mid.nodes new.nodes n.0 id note.number.0 (notes note.number.0) note.noted }
        all up e large (inr h) = last (Has-push_cases [] m (up ++ e ∷ []) h)
          where
            last : Has [] (up ++ e ∷ []) ⊎ (m ≡ (up ++ e ∷ [])) → HasNote t new.nodes (up ++ e ∷ [])
            last (inl g) = absurd (true≢false (sym g))
            last (inr is) = record { number = n; within = linked.child.within; path = linked.child.path ∙ is; noted = set-here mid.nodes new.nodes n.0 id (notes n.0) }

  pub node-added : AddsNode t old new l n parent id
  node-added = record { kept = node-kept; at = node-at }

-- a node after its parent
pub node-needed : (t : Tree) (old mid new : NodeWriter) (l : Link) (n : NodeNumber) (parent : Option ℕ) (id : ℕ) → IsLinked t l n
    → NeedsNode t old mid l.parent parent → AddsNode t mid new l n parent id → NeedsNode t old new n (Some id)
node-needed t old mid new l n parent id linked first adds = record {
  kept = λ s k. subst (IsKept t new) (sym (steps s)) (adds.kept (before s) (first.kept s k) (first.at s k));
  at = λ s k. subst (λ (v : Written). IsParent v.nodes (path_at t n) (Some id)) (sym (steps s)) (at-parent _ (path_at t n) id (λ e. push-some (path_at t l.parent) (entry) (sym linked.child.path ∙ e)) (adds.at (before s) (first.kept s k) (first.at s k)));
}
  where
    entry : Entry
    entry = record { attr = attribute_at t l.attribute; value = value_at t l.value }

    before : (s : Written) → Written
    before s = after s (needed_below [] (path_at t l.parent))

    steps : (s : Written) → after s (needed_below [] (path_at t n))
        ≡ after (after s (needed_below [] (path_at t l.parent))) (needed_by_attribute (attribute_at t l.attribute) ++ path_at t n ∷ [])
    steps s =
        ap (λ p. after s (needed_below [] p)) linked.child.path ∙ ap (after s) (needed_below-push [] (path_at t l.parent) (entry))
        ∙ after-append s (needed_below [] (path_at t l.parent)) (needed_by_attribute (attribute_at t l.attribute) ++ (path_at t l.parent ++ entry ∷ []) ∷ [])
        ∙ ap (λ p. after (after s (needed_below [] (path_at t l.parent))) (needed_by_attribute (attribute_at t l.attribute) ++ p ∷ [])) (sym linked.child.path)
