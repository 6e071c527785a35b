-- The last value of a slot ends the path of the slot's last node.
use Rattle.std.proofs.Common.{◌≡◌, ℕ, ◌+◌, ◌-◌, ◌<◌, ◌≤◌, Bool, if◌then◌else◌, List, [], ◌∷◌, ◌++◌, length, get_or, take, map, Some, None, slice_get, ap, sym, subst, ◌∙◌, arith}
use Rattle.std.specs.Prelude.{Option, option_map, false}
use Rattle.std.proofs.lemmas.List.{map-append, take_all, take_more}
use Rattle.std.proofs.lemmas.Option.{get_or_from_slice_get, slice_get-get_or, slice_get_within}
use Rattle.cal_board.proofs.StandingLemmas.{held_long, opened_in-Stands, parent_of}
use Rattle.cal_board.specs.Blackboard.{Blackboard, slot_number}
use Rattle.cal_board.specs.PathBoards.{entry_in, last_at, last_opened}
use Rattle.cal_board.specs.Slots.{front, last_value, opened_in}
use Rattle.cal_board.specs.Standing.{IsParent, OpenedStand, Stands}
use Rattle.cal_board.specs.declared.attr.AttrRef.{AttrRef}
use Rattle.cal_board.specs.declared.opened.Opened.{Opened}
use Rattle.cal_hand.specs.Nodes.{IsNodeFor, node_entry}
use Rattle.cal_once.specs.Views.{KnowsMore}
use Rattle.cal_once.specs.declared.view.View.{View}
use Rattle.cal_tree.proofs.Ways.{leads_later}
use Rattle.cal_tree.specs.Paths.{HasPath, NodeEntry}
use Rattle.cal_value.specs.declared.attribute.Attribute.{Attribute}
use Rattle.cal_value.specs.declared.variant.Variant.{Variant}
use Rattle.cal_words.specs.declared.node.NodeId.{NodeId}
use Rattle.cal_words.specs.declared.sort.NodeSort.{NodeSort}

-- open values are those before the last, and the last
pub front_and_last : (os : List (Opened Variant)) (o : Opened Variant) → last_opened os ≡ Some o
    → os ≡ front os ++ o ∷ []
front_and_last os o e =
    let l = slice_get_within os (length os - 1) o e in
    let whole : length os ≤ length os - 1 + 1 = omega arith in
    sym (take_all (length os - 1 + 1) os whole) ∙ take_more os (length os - 1) o l
    ∙ ap (λ (x : Opened Variant). front os ++ x ∷ [])
    (get_or_from_slice_get os (length os - 1) o o e)

module _ (P : NodeId → List (Opened Variant) → Type 0) (held : Blackboard NodeId)
    (b : Blackboard Variant) (stands : Stands P held b) (a : AttrRef)
    (reference : a.as_value ≡ false) where
  at_slot : OpenedStand P (opened_in (slot_number a) held.references)
      (opened_in (slot_number a) b.references)
  at_slot = opened_in-Stands P (slot_number a) held.references b.references stands.references

  -- the last value of the slot is that of the reference slots
  pub last_at-reference : last_at b a ≡ last_opened (opened_in (slot_number a) b.references)
  last_at-reference = ap (λ (t : Bool). if t then last_opened (opened_in (slot_number a) b.as_values)
      else last_opened (opened_in (slot_number a) b.references)) reference

  module _ (n : NodeId)
      (top : last_value (opened_in (slot_number a) held.references) ≡ Some n) where
    -- the slot's last node stands for all its values
    pub node_stands : P n (opened_in (slot_number a) b.references)
    node_stands = subst (λ (o : Option NodeId). IsParent P o (opened_in (slot_number a) b.references))
        top (parent_of P _ _ at_slot)

    some_opened : (hs : List (Opened NodeId)) → last_value hs ≡ Some n → 0 < length hs
    some_opened [] e = absurd (let no : None ≡ Some n = e in cc)
    some_opened (h ∷ hs) e = omega arith

    -- and the slot has a last value
    pub last_there : (d : Opened Variant) → last_at b a
        ≡ Some (get_or (opened_in (slot_number a) b.references)
        (length (opened_in (slot_number a) b.references) - 1) d)
    last_there d =
        let some = some_opened (opened_in (slot_number a) held.references) top in
        let long = held_long P _ _ at_slot in
        last_at-reference
        ∙ slice_get-get_or (opened_in (slot_number a) b.references)
        (length (opened_in (slot_number a) b.references) - 1) d (omega (arith, some, long))

  -- a slot without a node has no value
  pub none_there : last_value (opened_in (slot_number a) held.references) ≡ None
      → last_at b a ≡ None
  none_there none =
      let empty : opened_in (slot_number a) b.references ≡ [] =
      subst (λ (o : Option NodeId). IsParent P o (opened_in (slot_number a) b.references)) none
      (parent_of P _ _ at_slot) in
      last_at-reference ∙ ap last_opened empty

-- the path of open values, as a seat knows later
pub path_later : (slots : ℕ) (v w : View NodeSort) (n : NodeId) (path : List (Opened Variant))
    (o : Opened Variant) → KnowsMore v w → IsNodeFor slots v n (path ++ o ∷ [])
    → HasPath slots w (map node_entry path ++ node_entry o ∷ []) n.0
path_later slots v w n path o more is =
    subst (λ (p : List NodeEntry). HasPath slots w p n.0) (map-append node_entry path (o ∷ []))
    (leads_later slots v w 0 0 (map node_entry (path ++ o ∷ [])) n.0 more is.has_path)

-- the entry of what was read of a node
pub entry_read : (attrs : List Attribute) (o : Opened Variant) (attr : ℕ) (value : Variant)
    → node_entry o ≡ record { attr = attr; value = value }
    → entry_in attrs (record { attribute = attr; value = value }) ≡ entry_in attrs o
entry_read attrs o attr value e = ap (λ (n : NodeEntry). entry_in attrs
    (record { attribute = n.attr; value = n.value })) (sym e)
