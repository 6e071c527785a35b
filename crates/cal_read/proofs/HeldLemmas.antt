-- What is held of nodes, as a context grows and nodes are added.
use Rattle.std.proofs.Common.{◌≡◌, ℕ, ◌+◌, ◌<◌, Bool, true, false, List, [], ◌∷◌, ◌++◌, length, map, eqb, ◌==◌, Option, Some, None, refl, sym, ap, ◌∙◌, subst, arith, if◌then◌else◌}
use Rattle.std.specs.Prelude.{unwrap_or}
use Rattle.std.specs.Option.{option_and_then}
use Rattle.std.proofs.lemmas.List.{same_from_push, map-append, length-append}
use Rattle.std.proofs.lemmas.List.Sums.{fold-append}
use Rattle.std.proofs.lemmas.Option.{get_or_from_slice_get, slice_get_within}
use Rattle.cal_context.specs.Children.{IsLinked, AddsAttribute, AddsChild}
use Rattle.cal_context.specs.Tree.{Tree, Grows, no_attribute, attribute_at, value_at, path_at}
use Rattle.cal_context.specs.declared.numbers.AttributeNumber.{AttributeNumber}
use Rattle.cal_context.specs.declared.numbers.Link.{Link}
use Rattle.cal_context.specs.declared.numbers.NodeNumber.{NodeNumber}
use Rattle.cal_context.proofs.CallerLemmas.{attribute_at-Grows, path_at-Grows, within_attributes, within_paths}
use Rattle.cal_value.specs.declared.attribute.Attribute.{Attribute}
use Rattle.cal_value.specs.declared.variant.Variant.{Variant}
use Rattle.cal_read.specs.Held.{held_at, IsAt, IsNumberOf, IsHeld, IsHeldIf, AreHeld}
use Rattle.cal_read.specs.Nodes.{Step, Node, Named, steps_to, nearest, kind_in, props_in, text_in, kind_below, props_below, attribute_named, attribute_of, node_at}
use Rattle.cal_read.specs.Sites.{IsToBe}
use Rattle.cal_read.specs.declared.node_line.Site as sites
use Rattle.cal_read.specs.declared.node_texts.NodeIds.{NodeIds}
use Rattle.cal_read.specs.declared.nodes.Held.{Held}
use Rattle.cal_read.specs.declared.nodes.Nodes.{Nodes}
use Rattle.cal_read.specs.declared.nodes.Place.{Place}

-- ---- what is held of an id

pub if_held : (t : Tree) (o : Option Held) (p : Option Node) (h : Held) → IsHeldIf t o p → o ≡ Some h → (n : Node) × (p ≡ Some n) × IsHeld t h n
if_held t None p h is e = cc
if_held t (Some g) None h is e = absurd is
if_held t (Some g) (Some n) h is e = let same : g ≡ h = cc in (n, refl, subst (λ x. IsHeld t x n) same is)

pub if_none : (t : Tree) (o : Option Held) (p : Option Node) → IsHeldIf t o p → o ≡ None → p ≡ None
if_none t None None is e = refl
if_none t None (Some n) is e = absurd is
if_none t (Some g) p is e = cc

-- ---- the context grows

module _ {old new : Tree} (grows : Grows old new) where
  pub IsAt-Grows : (place : Place) (steps : List Step) → IsAt old place steps → IsAt new place steps
  IsAt-Grows place steps h = record {
    within = within_paths grows place.node.0 h.within;
    path = path_at-Grows grows place.node h.within ∙ h.path;
    depth = h.depth;
    kind = h.kind;
    props = h.props;
  }

  IsNumberOf-Grows : (o : Option AttributeNumber) (p : Option Attribute) → IsNumberOf old o p → IsNumberOf new o p
  IsNumberOf-Grows None None h = tt
  IsNumberOf-Grows None (Some a) h = h
  IsNumberOf-Grows (Some n) None h = h
  IsNumberOf-Grows (Some n) (Some a) h = (within_attributes grows n.0 h.0, attribute_at-Grows grows n h.0 ∙ h.1)

  pub IsHeld-Grows : (h : Held) (n : Node) → IsHeld old h n → IsHeld new h n
  IsHeld-Grows h n is = record {
    below = is.below;
    at = IsAt-Grows h.place (steps_to n) is.at;
    attribute = is.attribute;
    parent = is.parent;
    number = IsNumberOf-Grows h.number (attribute_of n) is.number;
  }

  IsHeldIf-Grows : (o : Option Held) (p : Option Node) → IsHeldIf old o p → IsHeldIf new o p
  IsHeldIf-Grows None None h = tt
  IsHeldIf-Grows None (Some n) h = h
  IsHeldIf-Grows (Some g) None h = h
  IsHeldIf-Grows (Some g) (Some n) h = IsHeld-Grows g n h

  pub AreHeld-Grows : (nodes : Nodes) (named : List Named) → AreHeld old nodes named → AreHeld new nodes named
  AreHeld-Grows nodes named h = λ id. IsHeldIf-Grows (held_at nodes id) (node_at named id) (h id)

-- ---- one more node

pub AreHeld-insert : (t : Tree) (old new : Nodes) (named : List Named) (id : ℕ) (h : Held) (n : Node) → AreHeld t old named → IsHeld t h n
    → ((other : ℕ) → held_at new other ≡ (if id == other then Some h else held_at old other)) → AreHeld t new (record { id = id; node = n } ∷ named)
AreHeld-insert t old new named id h n are is set = λ other. subst (λ o. IsHeldIf t o (if id == other then Some n else node_at named other)) (sym (set other)) (by (held_at old other) (node_at named other) (eqb id other) (are other))
  where
    by : (o : Option Held) (p : Option Node) (b : Bool) → IsHeldIf t o p → IsHeldIf t (if b then Some h else o) (if b then Some n else p)
    by o p true g = is
    by o p false g = g

-- ---- below one more step

kind_below-push : (above : List Step) (own : Step) → kind_below (above ++ own ∷ []) ≡ (if own.attribute == 9 then kind_in own.entry.value else kind_below above)
kind_below-push above own = ap (option_and_then kind_in) (fold-append (λ found s. if s.attribute == 9 then Some s.entry.value else found) None above (own ∷ [])) ∙ by (eqb own.attribute 9)
  where
    by : (b : Bool) → option_and_then kind_in (if b then Some own.entry.value else nearest 9 above) ≡ (if b then kind_in own.entry.value else kind_below above)
    by true = refl
    by false = refl

props_below-push : (above : List Step) (own : Step) → props_below (above ++ own ∷ []) ≡ (if own.attribute == 10 then unwrap_or (props_in own.entry.value) 0 else props_below above)
props_below-push above own = ap (λ o. unwrap_or (option_and_then props_in o) 0) (fold-append (λ found s. if s.attribute == 10 then Some s.entry.value else found) None above (own ∷ [])) ∙ by (eqb own.attribute 10)
  where
    by : (b : Bool) → unwrap_or (option_and_then props_in (if b then Some own.entry.value else nearest 10 above)) 0 ≡ (if b then unwrap_or (props_in own.entry.value) 0 else props_below above)
    by true = refl
    by false = refl

-- what is held of a new node
module _ (t child grown : Tree) (ids : NodeIds) (site : sites.Site) (v : Variant) (node : NodeNumber) (place : Place) (number : Option AttributeNumber)
    (adds : AddsChild t site.above.node site.attribute v child node) (first : Grows t child) (more : Grows child grown)
    (is : place.node ≡ node) (depth : place.depth ≡ site.above.depth + 1)
    (kind : place.kind ≡ (if ids.attribute == 9 then kind_in v else site.above.kind))
    (props : place.props ≡ (if ids.attribute == 10 then unwrap_or (props_in v) 0 else site.above.props))
    (has : IsNumberOf grown number (if ids.attribute == 8 then attribute_named (text_in v) site.above.kind site.above.props else None)) where
  pub IsHeld-new : (n : Node) → IsToBe t ids site v n → IsHeld grown (record { place = place; attribute = ids.attribute; parent = ids.parent; number = number }) n
  IsHeld-new n be = record {
    below = subst (λ m. 0 < m.0) (sym is) (omega (arith, adds.child.later));
    at = record {
      within = subst (λ m. m.0 < length grown.paths) (sym is) (within_paths more node.0 adds.child.within);
      path = path;
      depth = depth ∙ ap (λ d. d + 1) be.above.depth ∙ sym (length-append n.above (n.own ∷ []));
      kind = kind ∙ kinds ∙ sym (kind_below-push n.above n.own);
      props = props ∙ all_props ∙ sym (props_below-push n.above n.own);
    };
    attribute = sym be.id;
    parent = sym be.parent;
    number = subst (IsNumberOf grown number) named has;
  }
    where
      entry : record { attr = attribute_at child site.attribute; value = v } ≡ n.own.entry
      entry = λ j. record {
        attr = (ap (λ list. attribute_at (record { attributes = list; values = []; paths = [] }) site.attribute) adds.attributes ∙ sym be.attribute) j;
        value = sym be.value j;
      }

      above : path_at child site.above.node ≡ map (λ s. s.entry) n.above
      above = path_at-Grows first site.above.node be.above.within ∙ be.above.path

      path : path_at grown place.node ≡ map (λ s. s.entry) (steps_to n)
      path =
          ap (path_at grown) is ∙ path_at-Grows more node adds.child.within ∙ adds.child.path
          ∙ (λ j. above j ++ entry j ∷ []) ∙ sym (map-append (λ s. s.entry) n.above (n.own ∷ []))

      kinds : (if ids.attribute == 9 then kind_in v else site.above.kind) ≡ (if n.own.attribute == 9 then kind_in n.own.entry.value else kind_below n.above)
      kinds = λ j. if (sym be.id j) == 9 then kind_in (sym be.value j) else be.above.kind j

      all_props : (if ids.attribute == 10 then unwrap_or (props_in v) 0 else site.above.props) ≡ (if n.own.attribute == 10 then unwrap_or (props_in n.own.entry.value) 0 else props_below n.above)
      all_props = λ j. if (sym be.id j) == 10 then unwrap_or (props_in (sym be.value j)) 0 else be.above.props j

      named : (if ids.attribute == 8 then attribute_named (text_in v) site.above.kind site.above.props else None) ≡ attribute_of n
      named = λ j. if (sym be.id j) == 8 then attribute_named (text_in (sym be.value j)) (be.above.kind j) (be.above.props j) else None

-- ---- an attribute that was added

pub added_attribute : (old new : Tree) (a : Attribute) (n : AttributeNumber) → AddsAttribute old a new n → (n.0 < length new.attributes) × (attribute_at new n ≡ a)
added_attribute old new a n h =
    (slice_get_within new.attributes n.0 a h.attributes.number, get_or_from_slice_get new.attributes n.0 a no_attribute h.attributes.number)
