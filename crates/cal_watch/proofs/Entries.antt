-- One condition, by the entries of a record.
use Rattle.std.proofs.Common.{◌≡◌, ℕ, ◌<◌, Bool, true, false, List, [], ◌∷◌, length}
use Rattle.std.proofs.Common.{map, take, get_or, refl, sym, ap, ◌∙◌, arith}
use Rattle.std.specs.Prelude.{◌||◌}
use Rattle.std.specs.List.{All, list_any}
use Rattle.std.proofs.Math.Bool.{or-false}
use Rattle.std.proofs.lemmas.List.{get_or-map, get_or-take, length-map, length-take-le}
use Rattle.std.proofs.lemmas.List.Elements.{All-tail}
use Rattle.std.proofs.lemmas.List.Folds.{list_any-append, list_any_at}
use Rattle.cal_context.specs.Children.{IsLinked}
use Rattle.cal_context.specs.Snapshots.{IsBelowRoot, IsIn, entry_of, meaning}
use Rattle.cal_context.specs.Tree.{Tree, attribute_at, path_at, value_at}
use Rattle.cal_context.specs.declared.numbers.Link.{Link}
use Rattle.cal_context.specs.declared.numbers.NodeNumber.{NodeNumber}
use Rattle.cal_context.specs.declared.snapshot.Immediate.{Immediate}
use Rattle.cal_context.specs.declared.snapshot.Snapshot.{Snapshot}
use Rattle.cal_filter.specs.Conditions.{where_holds}
use Rattle.cal_ql.specs.declared.query.Cond.{Cond}
use Rattle.cal_trigger.specs.Deciding.{speaks_of}
use Rattle.cal_trigger.proofs.Deciding.{one_holds}
use Rattle.cal_value.specs.Flat.{joined}
use Rattle.cal_value.specs.declared.attribute.Entry.{Entry}
use Rattle.cal_watch.specs.Asking.{holds_on, of_entry}

-- some entry of some path
joined_any : (test : Entry → Bool) (paths : List (List Entry))
    → list_any test (joined paths) ≡ list_any (list_any test) paths
joined_any test [] = refl
joined_any test (path ∷ paths) =
    list_any-append test path (joined paths)
    ∙ ap (λ b. list_any test path || b) (joined_any test paths)

any_mapped : {A B : Type 0} (test : B → Bool) (f : A → B) (xs : List A)
    → list_any test (map f xs) ≡ list_any (λ x. test (f x)) xs
any_mapped test f [] = refl
any_mapped test f (x ∷ xs) = ap (λ b. test (f x) || b) (any_mapped test f xs)

module _ (c : Cond) where
  -- what is kept of nodes says of which of them some entry of the path is spoken of
  pub kept_of_nodes : (t : Tree) (holding : List Bool) (nodes : List NodeNumber)
      → All (IsBelowRoot t) nodes → holding ≡ map (holds_on c) t.paths
      → list_any (λ n. get_or holding n.0 false) nodes
      ≡ list_any (λ n. holds_on c (path_at t n)) nodes
  kept_of_nodes t holding [] within is = refl
  kept_of_nodes t holding (n ∷ nodes) within is =
      let one : get_or holding n.0 false ≡ holds_on c (path_at t n) =
      ap (λ answers. get_or answers n.0 false) is
      ∙ get_or-map (holds_on c) t.paths n.0 [] false (within 0 n (omega arith)).within in
      let rest = kept_of_nodes t holding nodes (All-tail (IsBelowRoot t) n nodes within) is in
      λ i. one i || rest i

  -- an immediate is spoken of
  pub spoken_at : (t : Tree) (imms : List Immediate) (i : ℕ) (imm : Immediate) → i < length imms
      → imm ≡ get_or imms i imm → speaks_of c (entry_of t imm) ≡ true
      → true ≡ holds_on c (map (entry_of t) imms)
  spoken_at t imms i imm short is speaks =
      sym (list_any_at (speaks_of c) (map (entry_of t) imms) i (entry_of t imm)
      (omega (arith, short, length-map imms (entry_of t)))
      (ap (speaks_of c) (get_or-map (entry_of t) imms i imm (entry_of t imm) short)
      ∙ ap (λ j. speaks_of c (entry_of t j)) (sym is) ∙ speaks))

  -- a node below its parent
  module _ (t : Tree) (l : Link) (n : NodeNumber) (linked : IsLinked t l n) where
    abbrev own : Entry
    own = record { attr = attribute_at t l.attribute; value = value_at t l.value }

    below : holds_on c (path_at t n) ≡ (holds_on c (path_at t l.parent) || speaks_of c own)
    below =
        ap (holds_on c) linked.child.path
        ∙ list_any-append (speaks_of c) (path_at t l.parent) (own ∷ [])
        ∙ ap (λ b. holds_on c (path_at t l.parent) || b) (or-false (speaks_of c own))

    module _ (holding : List Bool) (kept : Bool) (is : kept ≡ get_or holding l.parent.0 false)
        (known : holding ≡ map (holds_on c) (take n.0 t.paths)) where
      above : holds_on c (path_at t l.parent) ≡ kept
      above =
          let short : l.parent.0 < length (take n.0 t.paths) =
          omega (
            arith,
            linked.child.later,
            linked.child.within,
            length-take-le n.0 t.paths (omega (arith, linked.child.within)),
          ) in
          sym (is ∙ ap (λ answers. get_or answers l.parent.0 false) known
          ∙ get_or-map (holds_on c) (take n.0 t.paths) l.parent.0 [] false short
          ∙ ap (holds_on c) (get_or-take n.0 t.paths l.parent.0 [] linked.child.later))

      -- where some entry of the parent's path is spoken of
      pub holds_above : kept ≡ true → true ≡ holds_on c (path_at t n)
      holds_above held = sym (below ∙ ap (λ b. b || speaks_of c own) (above ∙ held))

      -- where none is
      pub holds_here : kept ≡ false → (speaks : Bool) → speaks ≡ speaks_of c own
          → speaks ≡ holds_on c (path_at t n)
      holds_here none speaks says =
          says ∙ sym (below ∙ ap (λ b. b || speaks_of c own) (above ∙ none))

  module _ (plain : c.not ≡ false) where
    -- a record of one entry
    pub asked_alone : (e : Entry) → where_holds (c ∷ []) (of_entry e) ≡ speaks_of c e
    asked_alone e = sym (one_holds c plain (of_entry e)) ∙ or-false (speaks_of c e)

    -- the record of a snapshot
    pub asked_whole : (t : Tree) (s : Snapshot) → where_holds (c ∷ []) (meaning t s)
        ≡ (list_any (λ n. holds_on c (path_at t n)) s.nodes.items
        || holds_on c (map (entry_of t) s.imms.items))
    asked_whole t s =
        let test = speaks_of c in
        let imms = map (entry_of t) s.imms.items in
        sym (one_holds c plain (meaning t s))
        ∙ list_any-append test (joined (map (path_at t) s.nodes.items)) imms
        ∙ ap (λ b. b || list_any test imms)
        (joined_any test (map (path_at t) s.nodes.items)
        ∙ any_mapped (list_any test) (path_at t) s.nodes.items)

    module _ (t : Tree) (s : Snapshot) (within : IsIn t s) (holding : List Bool) (held : Bool)
        (known : holding ≡ map (holds_on c) t.paths)
        (is : held ≡ list_any (λ n. get_or holding n.0 false) s.nodes.items) where
      on_nodes : list_any (λ n. holds_on c (path_at t n)) s.nodes.items ≡ held
      on_nodes = sym (is ∙ kept_of_nodes t holding s.nodes.items within.nodes known)

      -- where it is spoken of some entry of a path
      pub asked_on_nodes : held ≡ true → true ≡ where_holds (c ∷ []) (meaning t s)
      asked_on_nodes holds =
          sym (asked_whole t s
          ∙ ap (λ b. b || holds_on c (map (entry_of t) s.imms.items)) (on_nodes ∙ holds))

      -- where it isn't
      pub asked_beside : held ≡ false → (beside : Bool)
          → beside ≡ holds_on c (map (entry_of t) s.imms.items)
          → beside ≡ where_holds (c ∷ []) (meaning t s)
      asked_beside none beside says =
          says ∙ sym (asked_whole t s
          ∙ ap (λ b. b || holds_on c (map (entry_of t) s.imms.items)) (on_nodes ∙ none))
