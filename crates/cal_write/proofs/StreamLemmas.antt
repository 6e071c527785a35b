use Rattle.std.proofs.Common.{◌≡◌, ℕ, ◌+◌, ◌-◌, ◌<◌, ◌≤◌, Bool, true, false, ◌⊎◌, inl, inr, List, [], ◌∷◌, ◌++◌, length, get_or, Option, Some, refl, sym, ap, ◌∙◌, subst, arith}
use Rattle.std.specs.Prelude.{slice_get}
use Rattle.std.specs.List.{Contains, list_any}
use Rattle.std.proofs.lemmas.Bool.{cases_lt}
use Rattle.std.proofs.Math.Seq.{take-append_seam}
use Rattle.std.proofs.lemmas.List.{append_assoc, append-nil, get_or_append_left, get_or_push, length_push, same_from_push}
use Rattle.std.proofs.lemmas.List.Elements.{Contains-get_or, Contains-append_left, Contains-push}
use Rattle.std.proofs.lemmas.Option.{slice_get_within, get_or_from_slice_get, slice_get-get_or}
use Rattle.cal_value.specs.declared.attribute.Entry.{Entry}
use Rattle.cal_context.specs.Lists.{IsFront, Interns}
use Rattle.cal_write.specs.Nodes.{Node, same_node, built_in, node_of_attribute, needed_by_attribute, needed_by_props, needed_below}
use Rattle.cal_write.specs.Lines.{node_line}
use Rattle.cal_write.specs.CanonicalText.{id_in, parent_id, parent_of, line_of_node}
use Rattle.cal_write.specs.Places.{Has, HasAll, IsThere, IsAt, IsParent, KnowsAttribute, IsClosed}
use Rattle.cal_write.specs.Written.{Written, after}
use Rattle.cal_write.specs.Stream.{AddsLine, IsNodeOf, IsDescribed, IsOfBuiltIn, IsStream, WritesTo}
use Rattle.cal_write.specs.declared.described.DescribedNode.{DescribedNode}
use Rattle.cal_write.specs.declared.stream.Lines.{Lines}
use Rattle.cal_write.specs.declared.stream.Stream.{Stream}
use Rattle.cal_write.proofs.PlaceLemmas.{HasAll-grown, parent_id-grown, id_in-grown, IsAt-grown, IsParent-grown, parent_one, Has-last, id_in-last, Has-push_cases, HasAll-append, HasAll-left, HasAll-right}
use Rattle.cal_write.proofs.AfterLemmas.{after-known, after-new}

-- ---- a path and its last entry

parent_of-push : (up : Node) (e : Entry) → parent_of (up ++ e ∷ []) ≡ up
parent_of-push up e = let n : length (up ++ e ∷ []) - 1 ≡ length up = omega (arith, length_push up e) in rw n (take-append_seam up (e ∷ []))

own-push : (up : Node) (e : Entry) → slice_get (up ++ e ∷ []) (length (up ++ e ∷ []) - 1) ≡ Some e
own-push up e =
    let n : length (up ++ e ∷ []) - 1 ≡ length up = omega (arith, length_push up e) in
    rw n (slice_get-get_or (up ++ e ∷ []) (length up) e (omega (arith, length_push up e)) ∙ ap Some (get_or_push up e e (length up) refl))

pub needed_below-push : (v up : Node) (e : Entry)
    → needed_below v (up ++ e ∷ []) ≡ needed_below v up ++ (needed_by_attribute e.attr ++ ((v ++ up) ++ e ∷ []) ∷ [])
needed_below-push v [] e = ap (λ n. needed_by_attribute e.attr ++ (n ++ e ∷ []) ∷ []) (sym (append-nil v))
needed_below-push v (d ∷ up) e =
    ap (λ l. needed_by_attribute d.attr ++ (v ++ d ∷ []) ∷ l) (needed_below-push (v ++ d ∷ []) up e
    ∙ ap (λ n. needed_below (v ++ d ∷ []) up ++ (needed_by_attribute e.attr ++ (n ++ e ∷ []) ∷ [])) (append_assoc v (d ∷ []) up))
    ∙ sym (append_assoc (needed_by_attribute d.attr) ((v ++ d ∷ []) ∷ needed_below (v ++ d ∷ []) up) (needed_by_attribute e.attr ++ ((v ++ d ∷ up) ++ e ∷ []) ∷ []))

-- with all that a path needs its node is there
pub needed-there : (ns : List Node) (path : Node) → HasAll ns (needed_below [] path) → IsThere ns path
needed-there ns [] h = tt
needed-there ns (e ∷ path) h = below [] e path h
  where
    below : (v : Node) (d : Entry) (path : Node) → HasAll ns (needed_below v (d ∷ path)) → Has ns (v ++ d ∷ path)
    below v d [] g = (HasAll-right ns (needed_by_attribute d.attr) ((v ++ d ∷ []) ∷ []) g).0
    below v d (f ∷ path) g =
        let rest = (HasAll-right ns (needed_by_attribute d.attr) ((v ++ d ∷ []) ∷ needed_below (v ++ d ∷ []) (f ∷ path)) g).1 in
        subst (Has ns) (append_assoc v (d ∷ []) (f ∷ path)) (below (v ++ d ∷ []) f path rest)

-- an attribute whose needs are there has its node
pub needed-described : (ns : List Node) (e : Entry) → HasAll ns (needed_by_attribute e.attr) → Has ns (node_of_attribute e.attr)
needed-described ns e h = (HasAll-right ns (needed_by_props e.attr) (node_of_attribute e.attr ∷ []) h).0

module _ (ns : List Node) (closed : IsClosed ns) where
  pub closed-there : (up : Node) → IsThere ns up → HasAll ns (needed_below [] up)
  closed-there [] h = tt
  closed-there (e ∷ up) h = closed (e ∷ up) h

  -- what a node of the stream stands on
  closed-parts : (up : Node) (e : Entry) → Has ns (up ++ e ∷ []) → HasAll ns (needed_below [] up) × HasAll ns (needed_by_attribute e.attr)
  closed-parts up e h =
      let all = subst (HasAll ns) (needed_below-push [] up e) (closed (up ++ e ∷ []) h) in (
        HasAll-left ns (needed_below [] up) (needed_by_attribute e.attr ++ (up ++ e ∷ []) ∷ []) all,
        HasAll-left ns (needed_by_attribute e.attr) ((up ++ e ∷ []) ∷ [])
            (HasAll-right ns (needed_below [] up) (needed_by_attribute e.attr ++ (up ++ e ∷ []) ∷ []) all),
      )

  pub closed-parent : (up : Node) (e : Entry) → Has ns (up ++ e ∷ []) → IsThere ns up
  closed-parent up e h = needed-there ns up (closed-parts up e h).0

  pub closed-attribute : (up : Node) (e : Entry) → Has ns (up ++ e ∷ []) → Has ns (node_of_attribute e.attr)
  closed-attribute up e h = needed-described ns e (closed-parts up e h).1

-- ---- keys of nodes

-- a key that is interned where it was known leaves the keys, and names a node of them
interned-known : (keys new : List DescribedNode) (key : DescribedNode) (n : ℕ) → Interns keys key new n → n < length keys
    → (new ≡ keys) × (get_or keys n key ≡ key)
interned-known keys new key n i within = by i.adds
  where
    at : get_or new n key ≡ key
    at = get_or_from_slice_get new n key key i.number

    by : (Contains keys key × (new ≡ keys)) ⊎ (¬ Contains keys key × (new ≡ keys ++ key ∷ [])) → (new ≡ keys) × (get_or keys n key ≡ key)
    by (inl (has, same)) = (same, ap (λ l. get_or l n key) (sym same) ∙ at)
    by (inr (not, more)) =
        let here = sym (get_or_append_left keys (key ∷ []) key n within) ∙ ap (λ l. get_or l n key) (sym more) ∙ at in
        absurd (not (subst (Contains keys) here (Contains-get_or keys n key within)))

-- where it wasn't it is put last
interned-new : (keys new : List DescribedNode) (key : DescribedNode) (n : ℕ) → Interns keys key new n → length keys ≤ n
    → (¬ Contains keys key) × (new ≡ keys ++ key ∷ [])
interned-new keys new key n i past = by i.adds
  where
    by : (Contains keys key × (new ≡ keys)) ⊎ (¬ Contains keys key × (new ≡ keys ++ key ∷ [])) → (¬ Contains keys key) × (new ≡ keys ++ key ∷ [])
    by (inl (has, same)) = absurd (omega (arith, slice_get_within keys n key (subst (λ l. slice_get l n ≡ Some key) same i.number), past))
    by (inr h) = h

IsNodeOf-grown : (old new : List Node) → IsFront old new → (key : DescribedNode) (id : ℕ) → IsNodeOf old key id → IsNodeOf new key id
IsNodeOf-grown old new g key id h = record {
  up = h.up;
  parent = IsParent-grown old new g h.up key.parent h.parent;
  at = IsAt-grown old new g (h.up ++ key.entry ∷ []) id h.at;
}

-- a key of a node's parent and entry stands for that node
key-of : (ns : List Node) (up : Node) (e : Entry) (p : Option ℕ) (id : ℕ) → IsParent ns up p
    → IsNodeOf ns (record { parent = p; entry = e }) id → IsAt ns (up ++ e ∷ []) id
key-of ns up e p id parent h =
    subst (λ v. IsAt ns (v ++ e ∷ []) id) (parent_one ns h.up up h.parent.there parent.there (sym h.parent.is ∙ parent.is)) h.at

-- ---- a new node below one that is there

module _ (ns : List Node) (up : Node) (e : Entry) (p : Option ℕ) (a : ℕ) (closed : IsClosed ns) (parent : IsParent ns up p)
    (knows : KnowsAttribute ns e.attr a) (new : list_any (same_node (up ++ e ∷ [])) ns ≡ false) where
  front : IsFront ns (ns ++ (up ++ e ∷ []) ∷ [])
  front = ((up ++ e ∷ []) ∷ [], refl)

  pub new-line : line_of_node (ns ++ (up ++ e ∷ []) ∷ []) (up ++ e ∷ []) ≡ node_line (length ns) a e.value p
  new-line =
      rw (own-push up e, parent_of-push up e, id_in-last ns (up ++ e ∷ []) new, parent_id-grown ns (ns ++ (up ++ e ∷ []) ∷ []) front up parent.there, id_in-grown ns (ns ++ (up ++ e ∷ []) ∷ []) front (node_of_attribute e.attr) knows.at.has, ← parent.is, ← knows.at.is) refl

  pub new-closed : IsClosed (ns ++ (up ++ e ∷ []) ∷ [])
  new-closed n h = by (Has-push_cases ns (up ++ e ∷ []) n h)
    where
      grown : (needed : List Node) → HasAll ns needed → HasAll (ns ++ (up ++ e ∷ []) ∷ []) needed
      grown needed g = HasAll-grown ns (ns ++ (up ++ e ∷ []) ∷ []) front needed g

      by : Has ns n ⊎ ((up ++ e ∷ []) ≡ n) → HasAll (ns ++ (up ++ e ∷ []) ∷ []) (needed_below [] n)
      by (inl g) = grown (needed_below [] n) (closed n g)
      by (inr same) =
          subst (λ m. HasAll (ns ++ (up ++ e ∷ []) ∷ []) (needed_below [] m)) same
          (rw (needed_below-push [] up e)
          (HasAll-append (ns ++ (up ++ e ∷ []) ∷ []) (needed_below [] up) (needed_by_attribute e.attr ++ (up ++ e ∷ []) ∷ [])
          (grown (needed_below [] up) (closed-there ns closed up parent.there))
          (HasAll-append (ns ++ (up ++ e ∷ []) ∷ []) (needed_by_attribute e.attr) ((up ++ e ∷ []) ∷ [])
          (grown (needed_by_attribute e.attr) knows.needed) (Has-last ns (up ++ e ∷ []), tt))))

  module _ (keys : List DescribedNode) (ids : List ℕ) (described : IsDescribed keys ids ns) where
    -- nodes that were there keep their keys
    kept-all : (vp : Node) (f : Entry) → Has ns (vp ++ f ∷ []) → IsOfBuiltIn (ns ++ (up ++ e ∷ []) ∷ []) f
        → Contains keys (record { parent = parent_id (ns ++ (up ++ e ∷ []) ∷ []) vp; entry = f })
    kept-all vp f h small =
        let stays = id_in-grown ns (ns ++ (up ++ e ∷ []) ∷ []) front (node_of_attribute f.attr) (closed-attribute ns closed vp f h) in
        let id = parent_id-grown ns (ns ++ (up ++ e ∷ []) ∷ []) front vp (closed-parent ns closed vp f h) in
        subst (λ o. Contains keys (record { parent = o; entry = f })) (sym id) (described.all vp f h (subst (λ i. i ≤ 10) stays small))

    -- a node of another attribute than the built-in ones needs no key
    pub described-plain : 10 < a → IsDescribed keys ids (ns ++ (up ++ e ∷ []) ∷ [])
    described-plain large = record {
      counted = described.counted;
      nodes = λ k d h. IsNodeOf-grown ns (ns ++ (up ++ e ∷ []) ∷ []) front (get_or keys k d) (get_or ids k 0) (described.nodes k d h);
      all = λ vp f h small. by vp f small (Has-push_cases ns (up ++ e ∷ []) (vp ++ f ∷ []) h);
    }
      where
        by : (vp : Node) (f : Entry) → IsOfBuiltIn (ns ++ (up ++ e ∷ []) ∷ []) f → Has ns (vp ++ f ∷ []) ⊎ ((up ++ e ∷ []) ≡ (vp ++ f ∷ []))
            → Contains keys (record { parent = parent_id (ns ++ (up ++ e ∷ []) ∷ []) vp; entry = f })
        by vp f small (inl h) = kept-all vp f h small
        by vp f small (inr same) =
            let one = (same_from_push up vp e f same).1 in
            let stays = id_in-grown ns (ns ++ (up ++ e ∷ []) ∷ []) front (node_of_attribute e.attr) knows.at.has in
            let here : id_in (ns ++ (up ++ e ∷ []) ∷ []) (node_of_attribute e.attr) ≤ 10 = subst (IsOfBuiltIn (ns ++ (up ++ e ∷ []) ∷ [])) (sym one) small in
            absurd (omega (arith, here, stays, knows.at.is, large))

    -- and one of a built-in attribute gets its own
    pub described-key : IsDescribed (keys ++ (record { parent = p; entry = e }) ∷ []) (ids ++ length ns ∷ []) (ns ++ (up ++ e ∷ []) ∷ [])
    described-key = record {
      counted = length_push ids (length ns) ∙ ap (λ n. n + 1) described.counted ∙ sym (length_push keys key);
      nodes = λ k d h. nodes k d (cases_lt k (length keys)) h;
      all = λ vp f h small. by vp f small (Has-push_cases ns (up ++ e ∷ []) (vp ++ f ∷ []) h);
    }
      where
        key : DescribedNode
        key = record { parent = p; entry = e }

        nodes : (k : ℕ) (d : DescribedNode) → (k < length keys) ⊎ (length keys ≤ k) → k < length (keys ++ (record { parent = p; entry = e }) ∷ [])
            → IsNodeOf (ns ++ (up ++ e ∷ []) ∷ []) (get_or (keys ++ (record { parent = p; entry = e }) ∷ []) k d) (get_or (ids ++ length ns ∷ []) k 0)
        nodes k d (inl h) g =
            rw (get_or_append_left keys ((record { parent = p; entry = e }) ∷ []) d k h, get_or_append_left ids (length ns ∷ []) 0 k (omega (arith, h, described.counted)))
            (IsNodeOf-grown ns (ns ++ (up ++ e ∷ []) ∷ []) front (get_or keys k d) (get_or ids k 0) (described.nodes k d h))
        nodes k d (inr h) g =
            let at : length keys ≡ k = omega (arith, h, g, length_push keys (record { parent = p; entry = e })) in
            rw (get_or_push keys (record { parent = p; entry = e }) d k at, get_or_push ids (length ns) 0 k (described.counted ∙ at)) (record {
              up = up;
              parent = IsParent-grown ns (ns ++ (up ++ e ∷ []) ∷ []) front up p parent;
              at = record { has = Has-last ns (up ++ e ∷ []); is = sym (id_in-last ns (up ++ e ∷ []) new) };
            })

        by : (vp : Node) (f : Entry) → IsOfBuiltIn (ns ++ (up ++ e ∷ []) ∷ []) f → Has ns (vp ++ f ∷ []) ⊎ ((up ++ e ∷ []) ≡ (vp ++ f ∷ []))
            → Contains (keys ++ (record { parent = p; entry = e }) ∷ []) (record { parent = parent_id (ns ++ (up ++ e ∷ []) ∷ []) vp; entry = f })
        by vp f small (inl h) = Contains-append_left keys ((record { parent = p; entry = e }) ∷ []) (record { parent = parent_id (ns ++ (up ++ e ∷ []) ∷ []) vp; entry = f }) (kept-all vp f h small)
        by vp f small (inr same) =
            let one = same_from_push up vp e f same in
            let id = parent.is ∙ sym (parent_id-grown ns (ns ++ (up ++ e ∷ []) ∷ []) front up parent.there) ∙ ap (parent_id (ns ++ (up ++ e ∷ []) ∷ [])) one.0 in
            let there : (record { parent = p; entry = e }) ≡ (record { parent = parent_id (ns ++ (up ++ e ∷ []) ∷ []) vp; entry = f }) = λ j. record { parent = id j; entry = one.1 j } in
            subst (Contains (keys ++ (record { parent = p; entry = e }) ∷ [])) there (Contains-push keys (record { parent = p; entry = e }))

-- ---- the steps of a stream

-- a node that is there is known by its key
pub known-step : (old : Stream) (keys : List DescribedNode) (s : Written) (up : Node) (e : Entry) (p : Option ℕ) (n id : ℕ) → IsStream old s → IsParent s.nodes up p
    → Interns old.described (record { parent = p; entry = e }) keys n → n < length old.ids.items → id ≡ get_or old.ids.items n 0
    → WritesTo (record old { described = keys }) (after s ((up ++ e ∷ []) ∷ [])) (up ++ e ∷ []) id
known-step old keys s up e p n id is parent interns within same =
    let key : DescribedNode = record { parent = p; entry = e } in
    let inside : n < length old.described = omega (arith, within, is.described.counted) in
    let kept = interned-known old.described keys key n interns inside in
    let of = subst (λ k. IsNodeOf s.nodes k (get_or old.ids.items n 0)) kept.1 (is.described.nodes n key inside) in
    let at = key-of s.nodes up e p (get_or old.ids.items n 0) parent of in
    rw (after-known s ((up ++ e ∷ []) ∷ []) (at.has, tt), same) (record {
      stream = record {
        text = is.text;
        next = is.next;
        front = is.front;
        closed = is.closed;
        described = subst (λ l. IsDescribed l old.ids.items s.nodes) (sym kept.0) is.described;
      };
      at = at;
    })

-- a node of a built-in attribute without a key isn't there
absent : (keys : List DescribedNode) (ids : List ℕ) (ns : List Node) (up : Node) (e : Entry) (p : Option ℕ) (a : ℕ) → IsDescribed keys ids ns → IsParent ns up p
    → KnowsAttribute ns e.attr a → a ≤ 10 → ¬ Contains keys (record { parent = p; entry = e }) → list_any (same_node (up ++ e ∷ [])) ns ≡ false
absent keys ids ns up e p a described parent knows small none = by (list_any (same_node (up ++ e ∷ [])) ns) (λ h. described.all up e h (subst (λ i. i ≤ 10) knows.at.is small))
  where
    by : (b : Bool) → (b ≡ true → Contains keys (record { parent = parent_id ns up; entry = e })) → b ≡ false
    by false h = refl
    by true h = absurd (none (subst (λ o. Contains keys (record { parent = o; entry = e })) (sym parent.is) (h refl)))

-- a node that is new is written
pub written-step : (old new : Stream) (s : Written) (up : Node) (e : Entry) (p : Option ℕ) (a id : ℕ) → IsStream old s → IsParent s.nodes up p → KnowsAttribute s.nodes e.attr a
    → list_any (same_node (up ++ e ∷ [])) s.nodes ≡ false → AddsLine old.lines new.lines p a e.value id
    → IsDescribed new.described new.ids.items (s.nodes ++ (up ++ e ∷ []) ∷ [])
    → WritesTo new (after s ((up ++ e ∷ []) ∷ [])) (up ++ e ∷ []) id
written-step old new s up e p a id is parent knows fresh adds described =
    let all : List Node = s.nodes ++ (up ++ e ∷ []) ∷ [] in
    let line = new-line s.nodes up e p a is.closed parent knows fresh in
    let place = adds.is ∙ is.next in
    rw (after-new s (up ++ e ∷ []) fresh) (record {
      stream = record {
        text = adds.text ∙ ap (λ t. t ++ node_line id a e.value p) is.text ∙ ap (λ i. s.text ++ node_line i a e.value p) place ∙ ap (λ l. s.text ++ l) (sym line);
        next = adds.next ∙ ap (λ n. n + 1) is.next ∙ sym (length_push s.nodes (up ++ e ∷ []));
        front = (is.front.0 ++ (up ++ e ∷ []) ∷ [], ap (λ l. l ++ (up ++ e ∷ []) ∷ []) is.front.1 ∙ append_assoc built_in is.front.0 ((up ++ e ∷ []) ∷ []));
        closed = new-closed s.nodes up e p a is.closed parent knows fresh;
        described = described;
      };
      at = record { has = Has-last s.nodes (up ++ e ∷ []); is = place ∙ sym (id_in-last s.nodes (up ++ e ∷ []) fresh) };
    })

pub described-step : (old new : Stream) (s : Written) (up : Node) (e : Entry) (p : Option ℕ) (a n id : ℕ) → IsStream old s → IsParent s.nodes up p → KnowsAttribute s.nodes e.attr a → a ≤ 10
    → Interns old.described (record { parent = p; entry = e }) new.described n → length old.ids.items ≤ n → AddsLine old.lines new.lines p a e.value id
    → new.ids.items ≡ old.ids.items ++ id ∷ [] → WritesTo new (after s ((up ++ e ∷ []) ∷ [])) (up ++ e ∷ []) id
described-step old new s up e p a n id is parent knows small interns past adds ids =
    let key : DescribedNode = record { parent = p; entry = e } in
    let kept = interned-new old.described new.described key n interns (omega (arith, past, is.described.counted)) in
    let fresh = absent old.described old.ids.items s.nodes up e p a is.described parent knows small kept.0 in
    let more = described-key s.nodes up e p a is.closed parent knows fresh old.described old.ids.items is.described in
    let place = adds.is ∙ is.next in
    written-step old new s up e p a id is parent knows fresh adds
    (rw (kept.1, ids, place) more)

pub plain-step : (old : Stream) (lines : Lines) (s : Written) (up : Node) (e : Entry) (p : Option ℕ) (a id : ℕ) → IsStream old s → IsParent s.nodes up p → KnowsAttribute s.nodes e.attr a
    → list_any (same_node (up ++ e ∷ [])) s.nodes ≡ false → 10 < a → AddsLine old.lines lines p a e.value id
    → WritesTo (record old { lines = lines }) (after s ((up ++ e ∷ []) ∷ [])) (up ++ e ∷ []) id
plain-step old lines s up e p a id is parent knows fresh large adds =
    written-step old (record old { lines = lines }) s up e p a id is parent knows fresh adds
    (described-plain s.nodes up e p a is.closed parent knows fresh old.described old.ids.items is.described large)
