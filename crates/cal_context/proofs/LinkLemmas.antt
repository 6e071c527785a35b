use Rattle.std.proofs.Common.{◌≡◌, ℕ, zero, suc, ◌<◌, ◌≤◌, List, [], ◌∷◌, ◌++◌, ◌⊎◌, inl, inr, length, get_or, slice_get, Some, Contains, refl, sym, ap, ◌∙◌, subst, arith, length-append}
use Rattle.std.proofs.lemmas.Bool.{cases_lt}
use Rattle.std.proofs.lemmas.List.{get_or_append_left, get_or_default, get_or_push, same_from_push}
use Rattle.std.proofs.lemmas.List.Sums.{fold-append}
use Rattle.std.proofs.lemmas.Option.{slice_get-get_or, slice_get_within, get_or_from_slice_get}
use Rattle.cal_value.specs.declared.attribute.Attribute.{Attribute}
use Rattle.cal_value.specs.declared.attribute.Entry.{Entry}
use Rattle.cal_value.specs.declared.variant.Variant.{Variant}
use Rattle.cal_context.specs.Lists.{AreApart, IsFront, Adds, Interns}
use Rattle.cal_context.specs.Tree.{Tree, Grows, IsContext, no_attribute, no_value, attribute_at, value_at, path_at}
use Rattle.cal_context.specs.Children.{IsChild, CanLink, IsLinked, AddsAttribute, AddsValue, AddsChild, AddsLinked}
use Rattle.cal_context.specs.Links.{linked_path, linked_paths, tree_of, IsWhole}
use Rattle.cal_context.specs.declared.numbers.AttributeNumber.{AttributeNumber}
use Rattle.cal_context.specs.declared.numbers.Link.{Link}
use Rattle.cal_context.specs.declared.numbers.NodeNumber.{NodeNumber}
use Rattle.cal_context.specs.declared.numbers.ValueNumber.{ValueNumber}
use Rattle.cal_context.proofs.CallerLemmas.{Grows-refl, Grows-trans, IsChild-Grows, IsLinked-Grows, path_at-Grows}
use Rattle.cal_context.proofs.ListLemmas.{IsFront-refl, IsFront-same, IsFront-Adds, AreApart-Adds, AreApart-push, Contains-number, slice_get-IsFront, get_or-IsFront, fold-alike}

-- the entry of a link
abbrev pub link_entry : Tree → Link → Entry
link_entry t l = record { attr = attribute_at t l.attribute; value = value_at t l.value }

-- the link that is read past the end of a list
abbrev pub no_link : Link
no_link = record { parent = record { 0 = 0 }; attribute = record { 0 = 0 }; value = record { 0 = 0 } }

-- two links of one parent, one attribute and one value are one
link_one : (x y : Link) → x.parent.0 ≡ y.parent.0 → x.attribute.0 ≡ y.attribute.0 → x.value.0 ≡ y.value.0 → x ≡ y
link_one x y p a v = λ j. record { parent = record { 0 = p j }; attribute = record { 0 = a j }; value = record { 0 = v j } }

-- ---- equal paths are one node

module _ {t : Tree} {ls : List Link} (w : IsWhole t ls) where
  -- the link of a node below the root
  pub link_at : (k : ℕ) → suc k < length t.paths → IsLinked t (get_or ls k no_link) (record { 0 = suc k })
  link_at k l = w.linked k (get_or ls k no_link) (slice_get-get_or ls k no_link (omega (arith, l, w.counted)))

  pub root_path : path_at t (record { 0 = 0 }) ≡ []
  root_path = get_or_from_slice_get t.paths 0 [] [] w.root

  -- a link whose node has a link's path is that link, where their parents are one node if their paths are equal
  same_link : (l m : Link) (n : NodeNumber) → CanLink t l → IsLinked t m n → path_at t n ≡ path_at t l.parent ++ link_entry t l ∷ []
      → (path_at t m.parent ≡ path_at t l.parent → m.parent.0 ≡ l.parent.0) → m ≡ l
  same_link l m n can is e one =
      let both = same_from_push (path_at t m.parent) (path_at t l.parent) (link_entry t m) (link_entry t l) (sym is.child.path ∙ e) in
      link_one m l (one both.0)
      (w.attributes m.attribute.0 l.attribute.0 no_attribute is.child.known can.attribute (ap (λ x. x.attr) both.1))
      (w.values m.value.0 l.value.0 no_value is.value can.value (ap (λ x. x.value) both.1))

  can_link : (l : Link) (n : NodeNumber) → IsLinked t l n → CanLink t l
  can_link l n is = record {
    parent = omega (arith, is.child.later, is.child.within);
    attribute = is.child.known;
    value = is.value;
  }

  no_end : (xs : List Entry) (x : Entry) → xs ++ x ∷ [] ≡ [] → ⊥
  no_end xs x e = let h : length (xs ++ x ∷ []) ≡ 0 = ap length e in omega (arith, h, length-append xs (x ∷ []))

  -- below any bound, two nodes of one path are one
  same_below : (bound i j : ℕ) → i < bound → i < length t.paths → j < length t.paths → path_at t (record { 0 = i }) ≡ path_at t (record { 0 = j }) → i ≡ j
  same_below zero i j b hi hj e = omega (arith, b)
  same_below (suc bound) zero zero b hi hj e = refl
  same_below (suc bound) zero (suc j) b hi hj e = absurd (no_end _ _ (sym (link_at j hj).child.path ∙ sym e ∙ root_path))
  same_below (suc bound) (suc i) zero b hi hj e = absurd (no_end _ _ (sym (link_at i hi).child.path ∙ e ∙ root_path))
  same_below (suc bound) (suc i) (suc j) b hi hj e =
      let one = link_at i hi in
      let other = link_at j hj in
      let l = get_or ls i no_link in
      let m = get_or ls j no_link in
      let up = same_below bound l.parent.0 m.parent.0
      (omega (arith, b, one.child.later)) (omega (arith, hi, one.child.later)) (omega (arith, hj, other.child.later)) in
      let same = same_link m l (record { 0 = suc i }) (can_link m (record { 0 = suc j }) other) one (e ∙ other.child.path) up in
      ap suc (w.links_apart i j no_link (omega (arith, hi, w.counted)) (omega (arith, hj, w.counted)) same)

  pub paths_apart : AreApart t.paths
  paths_apart i j d hi hj e =
      same_below (suc i) i j (omega arith) hi hj (get_or_default t.paths i [] d hi ∙ e ∙ get_or_default t.paths j d [] hj)

  pub whole-IsContext : IsContext t
  whole-IsContext = record { root = w.root; attributes = w.attributes; values = w.values; paths = paths_apart }

  -- where a link's path is there, so is the link
  pub Contains-link : (l : Link) → CanLink t l → (k : ℕ) → k < length t.paths → path_at t (record { 0 = k }) ≡ path_at t l.parent ++ link_entry t l ∷ [] → Contains ls l
  Contains-link l can zero h e = absurd (no_end _ _ (sym e ∙ root_path))
  Contains-link l can (suc k) h e =
      let is = link_at k h in
      let m = get_or ls k no_link in
      let same = same_link l m (record { 0 = suc k }) can is e
      (paths_apart m.parent.0 l.parent.0 [] (omega (arith, h, is.child.later)) can.parent) in
      let within : k < length ls = omega (arith, h, w.counted) in
      (k, within, get_or_default ls k l no_link within ∙ same)

-- ---- attributes and values are added

module _ {ats : List Attribute} {vs : List Variant} {ls : List Link} (w : IsWhole (tree_of ats vs ls) ls) where
  module _ {ats' : List Attribute} {vs' : List Variant} (f : IsFront ats ats') (g : IsFront vs vs') where
    -- the paths stay
    pub linked_paths-grown : linked_paths ats' vs' ls ≡ linked_paths ats vs ls
    linked_paths-grown = fold-alike (λ ps l. ps ++ linked_path ats' vs' ps l ∷ []) (λ ps l. ps ++ linked_path ats vs ps l ∷ []) ([] ∷ []) ls same
      where
        same : (k : ℕ) (l : Link) → slice_get ls k ≡ Some l → (ps : List (List Entry)) → ps ++ linked_path ats' vs' ps l ∷ [] ≡ ps ++ linked_path ats vs ps l ∷ []
        same k l e ps =
            let is = w.linked k l e in
            let a = get_or-IsFront ats ats' l.attribute.0 no_attribute f is.child.known in
            let v = get_or-IsFront vs vs' l.value.0 no_value g is.value in
            λ j. ps ++ (get_or ps l.parent.0 [] ++ record { attr = a j; value = v j } ∷ []) ∷ []

    pub grows_by_lists : Grows (tree_of ats vs ls) (tree_of ats' vs' ls)
    grows_by_lists = record { attributes = f; values = g; paths = IsFront-same _ _ linked_paths-grown }

    pub whole_by_lists : AreApart ats' → AreApart vs' → IsWhole (tree_of ats' vs' ls) ls
    whole_by_lists apart apart' = record {
      counted = ap length linked_paths-grown ∙ w.counted;
      root = ap (λ ps. slice_get ps 0) linked_paths-grown ∙ w.root;
      linked = λ k l e. IsLinked-Grows grows_by_lists l (record { 0 = suc k }) (w.linked k l e);
      attributes = apart;
      values = apart';
      links_apart = w.links_apart;
    }

  module _ {a : Attribute} {ats' : List Attribute} {n : ℕ} (added : Interns ats a ats' n) where
    pub grows_by_attribute : Grows (tree_of ats vs ls) (tree_of ats' vs ls)
    grows_by_attribute = grows_by_lists (IsFront-Adds ats a ats' added.adds) (IsFront-refl vs)

    pub whole_by_attribute : IsWhole (tree_of ats' vs ls) ls
    whole_by_attribute = whole_by_lists (IsFront-Adds ats a ats' added.adds) (IsFront-refl vs) (AreApart-Adds ats a ats' w.attributes added.adds) w.values

    pub adds_attribute : AddsAttribute (tree_of ats vs ls) a (tree_of ats' vs ls) (record { 0 = n })
    adds_attribute = record { attributes = added; values = refl; paths = linked_paths-grown (IsFront-Adds ats a ats' added.adds) (IsFront-refl vs) }

  module _ {v : Variant} {vs' : List Variant} {n : ℕ} (added : Interns vs v vs' n) where
    pub grows_by_value : Grows (tree_of ats vs ls) (tree_of ats vs' ls)
    grows_by_value = grows_by_lists (IsFront-refl ats) (IsFront-Adds vs v vs' added.adds)

    pub whole_by_value : IsWhole (tree_of ats vs' ls) ls
    whole_by_value = whole_by_lists (IsFront-refl ats) (IsFront-Adds vs v vs' added.adds) w.attributes (AreApart-Adds vs v vs' w.values added.adds)

    pub paths_by_value : (tree_of ats vs' ls).paths ≡ (tree_of ats vs ls).paths
    paths_by_value = linked_paths-grown (IsFront-refl ats) (IsFront-Adds vs v vs' added.adds)

    pub adds_value : AddsValue (tree_of ats vs ls) v (tree_of ats vs' ls) (record { 0 = n })
    adds_value = record { values = added; attributes = refl; paths = paths_by_value }

-- ---- a link is added

module _ {ats : List Attribute} {vs : List Variant} {ls : List Link} (w : IsWhole (tree_of ats vs ls) ls) (l : Link) (can : CanLink (tree_of ats vs ls) l) where
  -- the path of the link
  abbrev new_path : List Entry
  new_path = path_at (tree_of ats vs ls) l.parent ++ link_entry (tree_of ats vs ls) l ∷ []

  linked_paths-push : linked_paths ats vs (ls ++ l ∷ []) ≡ linked_paths ats vs ls ++ new_path ∷ []
  linked_paths-push = fold-append (λ ps l. ps ++ linked_path ats vs ps l ∷ []) ([] ∷ []) ls (l ∷ [])

  grows_by_push : Grows (tree_of ats vs ls) (tree_of ats vs (ls ++ l ∷ []))
  grows_by_push = record { attributes = IsFront-refl ats; values = IsFront-refl vs; paths = (new_path ∷ [], linked_paths-push) }

  pushed_link : IsLinked (tree_of ats vs (ls ++ l ∷ [])) l (record { 0 = suc (length ls) })
  pushed_link = record {
    child = record {
      later = omega (arith, can.parent, w.counted);
      within = omega (arith, w.counted, ap length linked_paths-push, length-append (linked_paths ats vs ls) (new_path ∷ []));
      known = can.attribute;
      path = ap (λ ps. get_or ps (suc (length ls)) []) linked_paths-push
          ∙ get_or_push (linked_paths ats vs ls) new_path [] (suc (length ls)) w.counted
          ∙ sym (ap (λ p. p ++ link_entry (tree_of ats vs ls) l ∷ []) (path_at-Grows grows_by_push l.parent can.parent));
    };
    value = can.value;
  }

  whole_by_push : ¬ Contains ls l → IsWhole (tree_of ats vs (ls ++ l ∷ [])) (ls ++ l ∷ [])
  whole_by_push new = record {
    counted = omega (arith, w.counted, ap length linked_paths-push, length-append (linked_paths ats vs ls) (new_path ∷ []), length-append ls (l ∷ []));
    root = slice_get-IsFront (linked_paths ats vs ls) _ 0 [] grows_by_push.paths w.root;
    linked = λ k m e. linked k m e (cases_lt k (length ls));
    attributes = w.attributes;
    values = w.values;
    links_apart = AreApart-push ls l w.links_apart new;
  }
    where
      linked : (k : ℕ) (m : Link) → slice_get (ls ++ l ∷ []) k ≡ Some m → ((k < length ls) ⊎ (length ls ≤ k)) → IsLinked (tree_of ats vs (ls ++ l ∷ [])) m (record { 0 = suc k })
      linked k m e (inl h) =
          let old : slice_get ls k ≡ Some m = slice_get-get_or ls k m h ∙ ap Some (sym (get_or_append_left ls (l ∷ []) m k h) ∙ get_or_from_slice_get (ls ++ l ∷ []) k m m e) in
          IsLinked-Grows grows_by_push m (record { 0 = suc k }) (w.linked k m old)
      linked k m e (inr h) =
          let last : length ls ≡ k = omega (arith, h, slice_get_within (ls ++ l ∷ []) k m e, length-append ls (l ∷ [])) in
          let same : l ≡ m = sym (get_or_push ls l m k last) ∙ get_or_from_slice_get (ls ++ l ∷ []) k m m e in
          subst (λ x. IsLinked (tree_of ats vs (ls ++ l ∷ [])) x (record { 0 = suc k })) same
          (subst (λ n. IsLinked (tree_of ats vs (ls ++ l ∷ [])) l (record { 0 = suc n })) last pushed_link)

  module _ {ls' : List Link} {n : ℕ} (added : Interns ls l ls' n) where
    whole_by_cases : Adds ls l ls' → IsWhole (tree_of ats vs ls') ls'
    whole_by_cases (inl h) = subst (λ k. IsWhole (tree_of ats vs k) k) (sym h.1) w
    whole_by_cases (inr h) = subst (λ k. IsWhole (tree_of ats vs k) k) (sym h.1) (whole_by_push h.0)

    pub whole_by_link : IsWhole (tree_of ats vs ls') ls'
    whole_by_link = whole_by_cases added.adds

    grows_by_cases : Adds ls l ls' → Grows (tree_of ats vs ls) (tree_of ats vs ls')
    grows_by_cases (inl h) = subst (λ k. Grows (tree_of ats vs ls) (tree_of ats vs k)) (sym h.1) (Grows-refl (tree_of ats vs ls))
    grows_by_cases (inr h) = subst (λ k. Grows (tree_of ats vs ls) (tree_of ats vs k)) (sym h.1) grows_by_push

    pub grows_by_link : Grows (tree_of ats vs ls) (tree_of ats vs ls')
    grows_by_link = grows_by_cases added.adds

    pub is_linked : IsLinked (tree_of ats vs ls') l (record { 0 = suc n })
    is_linked = whole_by_link.linked n l added.number

    linked_path_is : path_at (tree_of ats vs ls') (record { 0 = suc n }) ≡ new_path
    linked_path_is = is_linked.child.path ∙ ap (λ p. p ++ link_entry (tree_of ats vs ls) l ∷ []) (path_at-Grows grows_by_link l.parent can.parent)

    paths_by_cases : Adds ls l ls' → Adds (linked_paths ats vs ls) new_path (linked_paths ats vs ls')
    paths_by_cases (inl h) =
        let there = h.0 in
        let is = w.linked there.0 l (slice_get-get_or ls there.0 l there.1 ∙ ap Some there.2) in
        inl ((suc there.0, is.child.within, get_or_default (linked_paths ats vs ls) (suc there.0) new_path [] is.child.within ∙ is.child.path), ap (linked_paths ats vs) h.1)
    paths_by_cases (inr h) =
        inr (
          λ there. h.0 (Contains-link w l can there.0 there.1 (get_or_default (linked_paths ats vs ls) there.0 [] new_path there.1 ∙ there.2)),
          ap (linked_paths ats vs) h.1 ∙ linked_paths-push,
        )

    pub paths_by_link : Adds (linked_paths ats vs ls) (path_at (tree_of ats vs ls') (record { 0 = suc n })) (linked_paths ats vs ls')
    paths_by_link = subst (λ p. Adds (linked_paths ats vs ls) p (linked_paths ats vs ls')) (sym linked_path_is) (paths_by_cases added.adds)

-- an added item that is there adds nothing
Adds-same : {A : Type 0} (xs : List A) (x : A) (ys : List A) → Adds xs x ys → Contains xs x → ys ≡ xs
Adds-same xs x ys (inl h) there = h.1
Adds-same xs x ys (inr h) there = absurd (h.0 there)

-- the value of a number has it already
pub Interns-value : (t : Tree) (n : ValueNumber) → n.0 < length t.values → Interns t.values (value_at t n) t.values n.0
Interns-value t n l =
    let at = slice_get-get_or t.values n.0 no_value l in
    record { number = at; adds = inl (Contains-number t.values n.0 (value_at t n) at, refl) }

-- ---- a child is added, with its value

module _ {ats : List Attribute} {vs vs' : List Variant} {ls ls' : List Link} (w : IsWhole (tree_of ats vs ls) ls)
    (parent : NodeNumber) (attribute : AttributeNumber) (value : Variant) (n : ValueNumber) (k : ℕ)
    (v : Interns vs value vs' n.0) (i : Interns ls (record { parent = parent; attribute = attribute; value = n }) ls' k)
    (hp : parent.0 < length (linked_paths ats vs ls)) (ha : attribute.0 < length ats) where
  abbrev the_link : Link
  the_link = record { parent = parent; attribute = attribute; value = n }

  abbrev the_node : NodeNumber
  the_node = record { 0 = suc k }

  with_value : IsWhole (tree_of ats vs' ls) ls
  with_value = whole_by_value w v

  can : CanLink (tree_of ats vs' ls) the_link
  can = record {
    parent = omega (arith, hp, ap length (paths_by_value w v));
    attribute = ha;
    value = slice_get_within vs' n.0 value v.number;
  }

  value_is : value_at (tree_of ats vs' ls) n ≡ value
  value_is = get_or_from_slice_get vs' n.0 value no_value v.number

  pub whole_by_child : IsWhole (tree_of ats vs' ls') ls'
  whole_by_child = whole_by_link with_value the_link can i

  pub grows_by_child : Grows (tree_of ats vs ls) (tree_of ats vs' ls')
  grows_by_child = Grows-trans _ _ _ (grows_by_value w v) (grows_by_link with_value the_link can i)

  -- where the child is there, so is its value
  value_there : IsChild (tree_of ats vs ls) parent attribute value the_node → Contains vs value
  value_there h =
      let m = get_or ls k no_link in
      let is = link_at w k h.within in
      let both = same_from_push (path_at (tree_of ats vs ls) m.parent) (path_at (tree_of ats vs ls) parent)
      (link_entry (tree_of ats vs ls) m) (record { attr = attribute_at (tree_of ats vs ls) attribute; value = value }) (sym is.child.path ∙ h.path) in
      (m.value.0, is.value, get_or_default vs m.value.0 value no_value is.value ∙ ap (λ e. e.value) both.1)

  -- and so is its link
  link_there : IsChild (tree_of ats vs ls) parent attribute value the_node → Contains ls the_link
  link_there h =
      let g = IsChild-Grows (grows_by_value w v) parent attribute value the_node h in
      Contains-link with_value the_link can (suc k) g.within (g.path ∙ (λ j. path_at (tree_of ats vs' ls) parent ++ record { attr = attribute_at (tree_of ats vs' ls) attribute; value = sym value_is j } ∷ []))

  pub adds_child : AddsChild (tree_of ats vs ls) parent attribute value (tree_of ats vs' ls') the_node
  adds_child = record {
    child = subst (λ x. IsChild (tree_of ats vs' ls') parent attribute x the_node) value_is (is_linked with_value the_link can i).child;
    paths = subst (λ ps. Adds ps (path_at (tree_of ats vs' ls') the_node) (linked_paths ats vs' ls')) (paths_by_value w v) (paths_by_link with_value the_link can i);
    values = v.adds;
    attributes = refl;
    again = λ h. let one = Adds-same vs value vs' v.adds (value_there h) in
        let two = Adds-same ls the_link ls' i.adds (link_there h) in
        λ j. tree_of ats (one j) (two j);
  }

-- the same by a link, whose value is there
pub adds_linked : {ats : List Attribute} {vs : List Variant} {ls ls' : List Link} (w : IsWhole (tree_of ats vs ls) ls) (l : Link)
    → CanLink (tree_of ats vs ls) l → (n : ℕ) → Interns ls l ls' n → AddsLinked (tree_of ats vs ls) l (tree_of ats vs ls') (record { 0 = suc n })
adds_linked {ats} {vs} {ls} w l can n added =
    let t = tree_of ats vs ls in
    adds_child w l.parent l.attribute (value_at t l.value) l.value n (Interns-value t l.value can.value) added can.parent can.attribute

-- the link that is read for a node below the root
pub linked_at : {ats : List Attribute} {vs : List Variant} {ls : List Link} → IsWhole (tree_of ats vs ls) ls → (node : NodeNumber) (index : ℕ)
    → node.0 ≡ suc index → node.0 < length (linked_paths ats vs ls) → IsLinked (tree_of ats vs ls) (get_or ls index no_link) node
linked_at {ats} {vs} {ls} w node index e l =
    subst (λ n. IsLinked (tree_of ats vs ls) (get_or ls index no_link) (record { 0 = n })) (sym e) (link_at w index (omega (arith, e, l)))
