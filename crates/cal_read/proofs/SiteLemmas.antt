-- Where a node is to stand, and what has its id already.
use Rattle.std.proofs.Common.{◌≡◌, ℕ, ◌<◌, Bool, true, false, ◌==◌, ◌&&◌, List, ◌∷◌, length, nat_eq, nat_lt, not, Option, Some, None, refl, sym, ap, ◌∙◌, subst, arith, if◌then◌else◌}
use Rattle.std.specs.Prelude.{Ok, Err, is_some}
use Rattle.std.specs.Option.{option_eq}
use Rattle.std.specs.Ordering.{eq_by_cmp}
use Rattle.std.proofs.lemmas.Bool.Decides.{nat_tests}
use Rattle.cal_context.specs.Tree.{Tree, Grows, attribute_at}
use Rattle.cal_context.specs.declared.numbers.AttributeNumber.{AttributeNumber}
use Rattle.cal_line.specs.FirstFault.{◌>>=◌}
use Rattle.cal_value.specs.Order.{value_cmp}
use Rattle.cal_value.specs.declared.variant.Variant.{Variant}
use Rattle.cal_read.specs.Fields.{if_there}
use Rattle.cal_read.specs.Held.{held_at, IsAt, IsNumberOf, IsHeld, AreHeld}
use Rattle.cal_read.specs.NodeLines as lines
use Rattle.cal_read.specs.NodeLines.{known, as_attribute, misfit, steps_down, site_of, same_content, with_node}
use Rattle.cal_read.specs.Nodes.{Step, Node, Named, kind_below, attribute_of, node_at}
use Rattle.cal_read.specs.Sites.{IsSite}
use Rattle.cal_read.specs.declared.kind.StreamKind.TheVariants as kind
use Rattle.cal_read.specs.declared.node_texts.NodeIds.{NodeIds}
use Rattle.cal_read.specs.declared.nodes.Held.{Held}
use Rattle.cal_read.specs.declared.nodes.Nodes.{Nodes}
use Rattle.cal_read.specs.declared.nodes.Place.{Place}
use Rattle.cal_read.proofs.ColumnLemmas.{known_some, known_none, attribute_is, attribute_is_none}
use Rattle.cal_read.proofs.HeldLemmas.{if_held, if_none, AreHeld-Grows, AreHeld-insert}

-- a node that fits has room below it
room_below : (p q : Bool) → None ≡ (if p then Some kind.NoKind else (if q then None else Some kind.TooDeep)) → q ≡ true
room_below true q fits = cc
room_below false true fits = refl
room_below false false fits = cc

pub not_too_deep : (id depth : ℕ) (above : List Step) → depth ≡ length above → None ≡ misfit id above → depth < 1024
not_too_deep id depth above is fits =
    let room : nat_lt (length above) 1024 ≡ true = room_below (id == 8 && not (is_some (kind_below above))) (nat_lt (length above) 1024) fits in
    grind (arith, nat_tests)

-- the content of a node that is held
pub content : (t : Tree) (old : Held) (ids : NodeIds) (v : Variant) (n m : Node) → IsHeld t old n → m.own.attribute ≡ ids.attribute → m.own.entry.value ≡ v → m.parent ≡ ids.parent
    → same_content m n ≡ ((ids.attribute == old.attribute) && option_eq nat_eq ids.parent old.parent && eq_by_cmp value_cmp v n.own.entry.value)
content t old ids v n m is id value parent =
    λ j. (id j == sym is.attribute j) && option_eq nat_eq (parent j) (sym is.parent j) && eq_by_cmp value_cmp (value j) n.own.entry.value

module _ (t : Tree) (c : Nodes) (named : List Named) (are : AreHeld t c named) where
  pub parent_some : (id : ℕ) (h : Held) → Some h ≡ held_at c id → (p : Option Node) × (if_there (known named) (Some id) ≡ Ok p) × IsAt t h.place (steps_down p)
  parent_some id h is =
      let it = if_held t (held_at c id) (node_at named id) h (are id) (sym is) in
      (Some it.0, ap (λ r. r >>= (λ n. Ok (Some n))) (known_some named id it.0 it.1), it.2.at)

  pub known_held : (id : ℕ) (h : Held) → Some h ≡ held_at c id → (n : Node) × (known named id ≡ Ok n) × IsHeld t h n
  known_held id h is =
      let it = if_held t (held_at c id) (node_at named id) h (are id) (sym is) in
      (it.0, known_some named id it.0 it.1, it.2)

  module _ (ids : NodeIds) (h : Held) (is : Some h ≡ held_at c ids.attribute) where
    joins : (n : Node) → known named ids.attribute ≡ Ok n → site_of named ids
        ≡ (if_there (known named) ids.parent >>= (λ p. as_attribute n >>= (λ a. Ok (record { attribute = a; above = steps_down p }))))
    joins n e = ap (λ r. r >>= (λ m. if_there (known named) ids.parent >>= (λ p. as_attribute m >>= (λ a. Ok (record { attribute = a; above = steps_down p }))))) e

    pub site_found : (number : AttributeNumber) (above : Place) (p : Option Node) → h.number ≡ Some number → if_there (known named) ids.parent ≡ Ok p → IsAt t above (steps_down p)
        → (x : lines.Site) × (site_of named ids ≡ Ok x) × IsSite t (record { attribute = number; above = above }) x
    site_found number above p has there at =
        let it = known_held ids.attribute h is in
        let a = attribute_is t number (attribute_of it.0) (subst (λ o. IsNumberOf t o (attribute_of it.0)) has it.2.number) in (
          record { attribute = attribute_at t number; above = steps_down p },
          joins it.0 it.1 ∙ ap (λ r. r >>= (λ q. as_attribute it.0 >>= (λ b. Ok (record { attribute = b; above = steps_down q })))) there
              ∙ ap (λ r. r >>= (λ b. Ok (record { attribute = b; above = steps_down p }))) a.1,
          record { known = a.0; attribute = refl; above = at },
        )

  -- an id that is there already, with the same content
  pub put_same : (ids : NodeIds) (v : Variant) (old : Held) (n : Node) → Some old ≡ held_at c ids.id → n.own.attribute ≡ ids.attribute → n.own.entry.value ≡ v → n.parent ≡ ids.parent
      → ((m : Node) → IsHeld t old m → true ≡ same_content n m) → (x : List Named) × (with_node named ids.id n (node_at named ids.id) ≡ Ok x) × AreHeld t c x
  put_same ids v old n is id value parent same =
      let it = if_held t (held_at c ids.id) (node_at named ids.id) old (are ids.id) (sym is) in
      (named, ap (with_node named ids.id n) it.1 ∙ ap (λ b. if b then Ok named else Err kind.Redefined) (sym (same it.0 it.2)), are)

  -- an id that is new
  pub put_new : (u : Tree) (new : Nodes) (id : ℕ) (h : Held) (n : Node) → Grows t u → None ≡ held_at c id → IsHeld u h n
      → ((other : ℕ) → held_at new other ≡ (if id == other then Some h else held_at c other))
      → (x : List Named) × (with_node named id n (node_at named id) ≡ Ok x) × AreHeld u new x
  put_new u new id h n grows is held set = (
    record { id = id; node = n } ∷ named,
    ap (with_node named id n) (if_none t (held_at c id) (node_at named id) (are id) (sym is)),
    AreHeld-insert u c new named id h n (AreHeld-Grows grows c named are) held set,
  )
