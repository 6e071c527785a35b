-- The last entry that is sought in a record by number, one node or immediate at a time.
use Rattle.std.proofs.Common.{◌≡◌, ℕ, zero, suc, ◌+◌, ◌-◌, ◌<◌, ◌≤◌, ◌⊎◌, inl, inr, arith, Bool, true, false, List, [], ◌∷◌, ◌++◌, length, take, map}
use Rattle.std.proofs.Common.{Option, None, Some, option_and_then, option_map, is_some, refl, sym, ◌∙◌, ap}
use Rattle.std.specs.Option.{IfSome}
use Rattle.std.proofs.Common.{slice_index_or, slice_get}
use Rattle.std.specs.List.{All, last_or}
use Rattle.std.specs.Prelude.{◌&&◌, not, ◌==◌}
use Rattle.std.proofs.lemmas.Bool.Decides.{nat_tests}
use Rattle.std.specs.Option.{option_or}
use Rattle.std.proofs.lemmas.Grind.{flat_map-append}
use Rattle.std.proofs.lemmas.List.{append-nil, map-append, take_more}
use Rattle.std.proofs.lemmas.Option.{slice_get-get_or, slice_get_within, get_or_from_slice_get}
use Rattle.cal_context.specs.Children.{IsLinked}
use Rattle.cal_context.specs.Snapshots.{entry_of}
use Rattle.cal_context.specs.Tree.{Tree, attribute_at, path_at, value_at, IsContext}
use Rattle.cal_context.specs.declared.numbers.AttributeNumber.{AttributeNumber}
use Rattle.cal_context.specs.declared.numbers.Link.{Link}
use Rattle.cal_context.specs.declared.numbers.NodeNumber.{NodeNumber}
use Rattle.cal_context.specs.declared.snapshot.Immediate.{Immediate}
use Rattle.cal_value.specs.Flat.{joined}
use Rattle.cal_value.specs.declared.attribute.Entry.{Entry}
use Rattle.cal_filter.specs.Known.{IsNearest, KnowsAll, named_at, sought}
use Rattle.cal_filter.specs.Sought.{Sought, last_sought, passes, seeks, value_sought}
use Rattle.cal_filter.specs.declared.seeker.Seeker.{Seeker}
use Rattle.cal_filter.proofs.Last.{last-end, last_not_empty, last_sought-append, other_end, sought_end}
use Rattle.cal_filter.proofs.Seeking.{root}
use Rattle.cal_filter.proofs.Zips.{get_or-inside}
use Rattle.std.proofs.lemmas.Bool.{cases_lt}

-- a list that has an item has a last one
last_there : (x : Entry) (xs : List Entry)
    → is_some (option_map (λ e. e.value) (last_or None (x ∷ xs))) ≡ true
last_there x [] = refl
last_there x (y ∷ ys) = last_there y ys

-- an immediate at a place
pub place_is_some : (imms : List Immediate) (o : Option ℕ) → IfSome o (λ i. i < length imms)
    → (f : Immediate → Entry) → is_some (option_map f (option_and_then (slice_get imms) o)) ≡ is_some o
place_is_some imms None h f = refl
place_is_some [] (Some i) h f = absurd (omega (arith, h))
place_is_some (x ∷ xs) (Some i) h f =
    ap (λ o. is_some (option_map f o)) (slice_get-get_or (x ∷ xs) i x h)

-- a node's own value is that of the last entry of its path
pub own_value_lem : (t : Tree) (l : Link) (n : NodeNumber) → IsLinked t l n
    → option_map (λ e. e.value) (last_or None (path_at t n)) ≡ Some (value_at t l.value)
own_value_lem t l n linked =
    ap (λ p. option_map (λ e. e.value) (last_or None p)) linked.child.path
    ∙ ap (option_map (λ e. e.value)) (last-end (path_at t l.parent) _)

module _ (t : Tree) (s : Sought) where
  module _ (imms : List Immediate) (i : ℕ) (x : Immediate) (short : i < length imms)
      (read : x ≡ slice_index_or imms i x) where
    one_more : map (entry_of t) (take (i + 1) imms) ≡ map (entry_of t) (take i imms) ++ entry_of t x ∷ []
    one_more =
        ap (map (entry_of t)) (take_more imms i x short)
        ∙ map-append (entry_of t) (take i imms) _
        ∙ ap (λ y. map (entry_of t) (take i imms) ++ entry_of t y ∷ []) (sym read)

  -- nothing is found where no immediate is sought
  pub immediates_none : (imms : List Immediate) → ((i : ℕ) (x : Immediate) → i < length imms → seeks s (entry_of t (slice_index_or imms i x)) ≡ false)
      → last_sought s (map (entry_of t) imms) ≡ None
  immediates_none [] none = refl
  immediates_none (x ∷ imms) none =
      rw (none 0 x (omega arith)) (immediates_none imms (λ i y short. none (suc i) y (omega arith)))

  -- the last one that is sought, and none behind it
  pub immediate_last : (imms : List Immediate) (i : ℕ) (x : Immediate) → i < length imms
      → seeks s (entry_of t (slice_index_or imms i x)) ≡ true
      → ((j : ℕ) (y : Immediate) → i < j → j < length imms
      → seeks s (entry_of t (slice_index_or imms j y)) ≡ false)
      → last_sought s (map (entry_of t) imms) ≡ Some (entry_of t (slice_index_or imms i x))
  immediate_last [] i x short is rest = absurd (omega (arith, short))
  immediate_last (z ∷ zs) zero x short is rest =
      last_sought-append s (entry_of t z ∷ []) (map (entry_of t) zs)
      ∙ ap (λ o. option_or o (last_sought s (entry_of t z ∷ [])))
      (immediates_none zs (λ j y l. rest (suc j) y (omega arith) (omega arith)))
      ∙ rw is refl
  immediate_last (z ∷ zs) (suc i) x short is rest =
      last_sought-append s (entry_of t z ∷ []) (map (entry_of t) zs)
      ∙ ap (λ o. option_or o (last_sought s (entry_of t z ∷ [])))
      (immediate_last zs i x (omega arith) is
      (λ j y l h. rest (suc j) y (omega arith) (omega arith)))

  module _ (imms : List Immediate) (place : ℕ) (imm : Immediate) (low : 0 < place)
      (high : place ≤ length imms) (read : imm ≡ slice_index_or imms (place - 1) imm)
      (rest : (i : ℕ) (x : Immediate) → place ≤ i → i < length imms
      → seeks s (entry_of t (slice_index_or imms i x)) ≡ false) where
    -- an immediate before those that aren't sought isn't either
    pub immediates_more : seeks s (entry_of t imm) ≡ false → (i : ℕ) (x : Immediate)
        → place - 1 ≤ i → i < length imms
        → seeks s (entry_of t (slice_index_or imms i x)) ≡ false
    immediates_more isnt i x least short = by (cases_lt i place)
      where
        by : (i < place) ⊎ (place ≤ i)
            → seeks s (entry_of t (slice_index_or imms i x)) ≡ false
        by (inr l) = rest i x l short
        by (inl l) =
            let e : i ≡ place - 1 = omega arith in
            ap (λ y. seeks s (entry_of t y)) (get_or-inside imms i x imm short
            ∙ ap (λ j. slice_index_or imms j imm) e ∙ sym read) ∙ isnt

    -- one that is sought is the last
    pub immediate_found : seeks s (entry_of t imm) ≡ true
        → last_sought s (map (entry_of t) imms) ≡ option_map (entry_of t) (slice_get imms (place - 1))
    immediate_found is =
        immediate_last imms (place - 1) imm (omega arith)
        (ap (λ y. seeks s (entry_of t y)) (sym read) ∙ is)
        (λ j y behind short. rest j y (omega arith) short)
        ∙ sym (ap (option_map (entry_of t)) (slice_get-get_or imms (place - 1) imm (omega arith)))

  -- the root's path is empty
  pub root_path : IsContext t → path_at t root ≡ []
  root_path context = get_or_from_slice_get t.paths 0 [] [] context.root

  pub root_within : IsContext t → 0 < length t.paths
  root_within context = slice_get_within t.paths 0 [] context.root

  -- nothing is sought on the paths of nodes whose nearest ones are the root
  pub nodes_none : IsContext t → (nodes : List NodeNumber) → ((i : ℕ) (n : NodeNumber)
      → i < length nodes → IsNearest t s (slice_index_or nodes i n) root)
      → last_sought s (joined (map (path_at t) nodes)) ≡ None
  nodes_none context [] near = refl
  nodes_none context (n ∷ nodes) near =
      last_sought-append s (path_at t n) (joined (map (path_at t) nodes))
      ∙ ap (λ o. option_or o (last_sought s (path_at t n)))
      (nodes_none context nodes (λ i m l. near (suc i) m (omega arith)))
      ∙ (near 0 n (omega arith)).last ∙ ap (last_or None) (root_path context)

  -- and no other's
  root_alone : IsContext t → (n : NodeNumber) → n.0 < length t.paths → path_at t n ≡ [] → n ≡ root
  root_alone context n within none =
      let same : n.0 ≡ 0 =
      context.paths n.0 0 [] within (root_within context) (none ∙ sym (root_path context)) in
      λ i. record { 0 = same i }

  module _ (context : IsContext t) (nodes : List NodeNumber) (i : ℕ) (n near last : NodeNumber)
      (short : i < length nodes) (read : n ≡ slice_index_or nodes i n) (nearest : IsNearest t s n near)
      (before : last_sought s (joined (map (path_at t) (take i nodes)))
      ≡ last_or None (path_at t last)) where
    joined_more : joined (map (path_at t) (take (i + 1) nodes))
        ≡ joined (map (path_at t) (take i nodes)) ++ path_at t n
    joined_more =
        ap (λ ns. joined (map (path_at t) ns)) (take_more nodes i n short)
        ∙ ap joined (map-append (path_at t) (take i nodes) _)
        ∙ flat_map-append (λ p. p) (map (path_at t) (take i nodes)) _
        ∙ ap (λ y. joined (map (path_at t) (take i nodes)) ++ (path_at t y ++ [])) (sym read)
        ∙ ap (λ p. joined (map (path_at t) (take i nodes)) ++ p) (append-nil (path_at t n))

    both : last_sought s (joined (map (path_at t) (take (i + 1) nodes)))
        ≡ option_or (last_or None (path_at t near)) (last_or None (path_at t last))
    both =
        ap (last_sought s) joined_more
        ∙ last_sought-append s (joined (map (path_at t) (take i nodes))) (path_at t n)
        ∙ ap (λ o. option_or o (last_sought s (joined (map (path_at t) (take i nodes))))) nearest.last
        ∙ ap (option_or (last_or None (path_at t near))) before

    -- nothing is sought on a node's path
    pub node_none : near ≡ root → last_sought s (joined (map (path_at t) (take (i + 1) nodes)))
        ≡ last_or None (path_at t last)
    node_none e =
        both ∙ ap (λ p. option_or (last_or None p) (last_or None (path_at t last)))
        (ap (path_at t) e ∙ root_path context)

    -- something is
    pub node_some : (near ≡ root → ⊥)
        → last_sought s (joined (map (path_at t) (take (i + 1) nodes))) ≡ last_or None (path_at t near)
    node_some not_root = both ∙ by (path_at t near) refl
      where
        by : (p : List Entry) → path_at t near ≡ p
            → option_or (last_or None (path_at t near)) (last_or None (path_at t last))
            ≡ last_or None (path_at t near)
        by [] e = absurd (not_root (root_alone context near nearest.other_within e))
        by (x ∷ xs) e = rw e (last_not_empty x xs (last_or None (path_at t last)))

  module _ (nodes : List NodeNumber) (imms : List Immediate) where
    -- the last of a record's entries is an immediate
    pub found_immediate : (imm : Immediate)
        → last_sought s (map (entry_of t) imms) ≡ Some (entry_of t imm)
        → value_sought s (joined (map (path_at t) nodes) ++ map (entry_of t) imms) ≡ Some imm.value
    found_immediate imm is =
        ap (option_map (λ e. e.value))
        (last_sought-append s (joined (map (path_at t) nodes))
        (map (entry_of t) imms)
        ∙ ap (λ o. option_or o (last_sought s (joined (map (path_at t) nodes)))) is)

    -- there is none
    pub found_nothing : last_sought s (map (entry_of t) imms) ≡ None
        → last_sought s (joined (map (path_at t) nodes)) ≡ None
        → value_sought s (joined (map (path_at t) nodes) ++ map (entry_of t) imms) ≡ None
    found_nothing none is =
        ap (option_map (λ e. e.value))
        (last_sought-append s (joined (map (path_at t) nodes))
        (map (entry_of t) imms)
        ∙ ap (λ o. option_or o (last_sought s (joined (map (path_at t) nodes)))) none ∙ is)

    -- something is sought on a node's path
    pub finds_node : IsContext t → (n : NodeNumber) → n.0 < length t.paths → (n ≡ root → ⊥)
        → last_sought s (joined (map (path_at t) nodes)) ≡ last_or None (path_at t n)
        → is_some (value_sought s (joined (map (path_at t) nodes) ++ map (entry_of t) imms)) ≡ true
    finds_node context n within not_root is =
        ap (λ o. is_some (option_map (λ e. e.value) o))
        (last_sought-append s (joined (map (path_at t) nodes)) (map (entry_of t) imms))
        ∙ by (last_sought s (map (entry_of t) imms)) (path_at t n) refl
      where
        by : (o : Option Entry) (p : List Entry) → path_at t n ≡ p
            → is_some (option_map (λ e. e.value)
            (option_or o (last_sought s (joined (map (path_at t) nodes))))) ≡ true
        by o [] e = absurd (not_root (root_alone context n within e))
        by (Some x) (y ∷ ys) e = refl
        by None (y ∷ ys) e =
            ap (λ o. is_some (option_map (λ e. e.value) o)) (is ∙ ap (last_or None) e)
            ∙ last_there y ys

    -- nothing is, so that some immediate is or none
    pub finds_immediate : IsContext t → (n : NodeNumber) → n ≡ root
        → last_sought s (joined (map (path_at t) nodes)) ≡ last_or None (path_at t n)
        → is_some (value_sought s (joined (map (path_at t) nodes) ++ map (entry_of t) imms))
        ≡ is_some (last_sought s (map (entry_of t) imms))
    finds_immediate context n at is =
        ap (λ o. is_some (option_map (λ e. e.value) o))
        (last_sought-append s (joined (map (path_at t) nodes)) (map (entry_of t) imms)
        ∙ ap (option_or (last_sought s (map (entry_of t) imms)))
        (is ∙ ap (last_or None) (ap (path_at t) at ∙ root_path context)))
        ∙ by (last_sought s (map (entry_of t) imms))
      where
        by : (o : Option Entry) → is_some (option_map (λ e. e.value) (option_or o None)) ≡ is_some o
        by None = refl
        by (Some x) = refl

    -- it is a node's own entry, or there is none
    pub found_node : (n : NodeNumber) → last_sought s (map (entry_of t) imms) ≡ None
        → last_sought s (joined (map (path_at t) nodes)) ≡ last_or None (path_at t n)
        → value_sought s (joined (map (path_at t) nodes) ++ map (entry_of t) imms)
        ≡ option_map (λ e. e.value) (last_or None (path_at t n))
    found_node n none is =
        ap (option_map (λ e. e.value))
        (last_sought-append s (joined (map (path_at t) nodes))
        (map (entry_of t) imms)
        ∙ ap (λ o. option_or o (last_sought s (joined (map (path_at t) nodes)))) none ∙ is)

-- no immediate is sought where no attribute has the name
pub unnamed_none : (t : Tree) (s : Seeker) → KnowsAll t s
    → ((a : AttributeNumber) → named_at s a ≡ false) → (imms : List Immediate)
    → All (λ imm. imm.attribute.0 < length t.attributes) imms
    → last_sought (sought s) (map (entry_of t) imms) ≡ None
unnamed_none t s k unnamed imms within =
    immediates_none t (sought s) imms
    (λ i x short.
    let a = (slice_index_or imms i x).attribute in
    let known = k.knows.attributes a (omega (arith, within i x short, k.attributes)) in
    ap (λ b. b && passes s.wanted (attribute_at t a).kind (slice_index_or imms i x).value)
    (sym known.named ∙ unnamed a))

-- `!=` tells whether a number is the root's
pub is_root : (n : NodeNumber) (b : Bool) → b ≡ not (n.0 == 0) → b ≡ false → n ≡ root
is_root n b is isnt = let e : n.0 ≡ 0 = grind (arith, nat_tests) in λ i. record { 0 = e i }

pub isnt_root : (n : NodeNumber) (b : Bool) → b ≡ not (n.0 == 0) → b ≡ true → n ≡ root → ⊥
isnt_root n b is ne same =
    let e : n.0 ≡ 0 = ap (λ (m : NodeNumber). m.0) same in grind (arith, nat_tests)
