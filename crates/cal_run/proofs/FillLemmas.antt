-- The last nodes of a board have the paths of the board that it stands for.
use Rattle.std.proofs.Common.{◌≡◌, suc, ◌-◌, ◌<◌, List, [], ◌∷◌, ◌++◌, length, get_or, map}
use Rattle.std.proofs.Common.{ap, subst, sym, refl, ◌∙◌, arith}
use Rattle.std.specs.Prelude.{Option, None, Some, flat_map}
use Rattle.std.specs.List.{All, AllZip}
use Rattle.std.specs.Option.{option_map, option_to_list}
use Rattle.std.proofs.lemmas.List.{map-append}
use Rattle.std.proofs.lemmas.List.Elements.{All-append, All-cons, All-nil}
use Rattle.std.proofs.lemmas.Option.{slice_get-get_or}
use Rattle.cal_board.proofs.StandingLemmas.{parent_of}
use Rattle.cal_board.specs.Blackboard.{Blackboard}
use Rattle.cal_board.specs.Contexts.{NodeStands, opened_entry}
use Rattle.cal_board.specs.PathBoards.{AreKnown, entries_of, entry_in}
use Rattle.cal_board.specs.Slots.{AreOrdered, last_value}
use Rattle.cal_board.specs.Standing.{IsParent, SlotStands, last_nodes}
use Rattle.cal_board.specs.declared.opened.Opened.{Opened}
use Rattle.cal_board.specs.declared.opened.Slot.{Slot}
use Rattle.cal_context.proofs.ListLemmas.{get_or-IsFront, map-alike}
use Rattle.cal_context.specs.Lists.{IsFront}
use Rattle.cal_context.specs.Snapshots.{IsBelowRoot}
use Rattle.cal_context.specs.Tree.{Tree, no_attribute, path_at}
use Rattle.cal_context.specs.declared.numbers.NodeNumber.{NodeNumber}
use Rattle.cal_run.specs.Adding.{MayAskFor}
use Rattle.cal_run.specs.Held.{Holds}
use Rattle.cal_run.specs.declared.moment.Moment.{Moment}
use Rattle.cal_run.specs.declared.operation.Operation.{Operation}
use Rattle.cal_script.specs.declared.script.Script.{Script}
use Rattle.cal_value.specs.declared.attribute.Attribute.{Attribute}
use Rattle.cal_value.specs.declared.variant.Variant.{Variant}

-- ---- what boards show

module _ (t : Tree) (attrs : List Attribute) (front : IsFront attrs t.attributes) where
  P : NodeNumber → List (Opened Variant) → Type 0
  P = NodeStands t

  -- the entries of open values
  pub entries-known : (os : List (Opened Variant)) → AreKnown attrs os
      → map (opened_entry t) os ≡ map (entry_in attrs) os
  entries-known os known = map-alike (opened_entry t) (entry_in attrs) os
      (λ k d l. let o = get_or os k d in λ j. record {
        attr = get_or-IsFront attrs t.attributes o.attribute no_attribute front (known k d l) j;
        value = o.value;
      })

  -- the last node of a slot has the open values as its path
  last_node-is : (hs : List (Opened NodeNumber)) → 0 < length hs
      → last_value hs ≡ Some (get_or hs (length hs - 1)
      (record { attribute = 0; value = record { 0 = 0 } })).value
  last_node-is hs l = ap (option_map (λ (o : Opened NodeNumber). o.value))
      (slice_get-get_or hs (length hs - 1) (record { attribute = 0; value = record { 0 = 0 } })
      (omega (arith, l)))

  pub slots-paths : (hs : List (Slot NodeNumber)) (ss : List (Slot Variant))
      → AllZip (SlotStands (NodeStands t)) hs ss
      → All (λ (s : Slot NodeNumber). 0 < length s.opened) hs
      → All (λ (s : Slot Variant). AreKnown attrs s.opened) ss
      → All (IsBelowRoot t) (flat_map
      (λ (s : Slot NodeNumber). option_to_list (last_value s.opened)) hs)
      × (map (path_at t) (flat_map (λ (s : Slot NodeNumber). option_to_list (last_value s.opened))
      hs) ≡ entries_of attrs ss)
  slots-paths [] [] zipped held known = (All-nil (IsBelowRoot t), refl)
  slots-paths [] (s ∷ ss) zipped held known = absurd zipped
  slots-paths (h ∷ hs) [] zipped held known = absurd zipped
  slots-paths (h ∷ hs) (s ∷ ss) zipped held known =
      let n : NodeNumber =
      (get_or h.opened (length h.opened - 1)
      (record { attribute = 0; value = record { 0 = 0 } })).value in
      let is : last_value h.opened ≡ Some n = last_node-is h.opened (held 0 h (omega arith)) in
      let stands : NodeStands t n s.opened = subst (λ o. IsParent (NodeStands t) o s.opened) is
      (parent_of (NodeStands t) h.opened s.opened zipped.0.opened) in
      let rest = slots-paths hs ss zipped.1 (λ i d l. held (suc i) d (omega (arith, l)))
      (λ i d l. known (suc i) d (omega (arith, l))) in
      let tail : List NodeNumber =
      flat_map (λ (s : Slot NodeNumber). option_to_list (last_value s.opened)) hs in
      let below : IsBelowRoot t n = record { below = stands.below; within = stands.within } in
      let path : path_at t n ≡ map (entry_in attrs) s.opened = stands.entries
      ∙ entries-known s.opened (known 0 s (omega arith)) in (
        subst (λ (o : Option NodeNumber). All (IsBelowRoot t) (option_to_list o ++ tail)) (sym is)
            (All-cons (IsBelowRoot t) n tail below rest.0),
        ap (λ (o : Option NodeNumber). map (path_at t) (option_to_list o ++ tail)) is
            ∙ (λ j. path j ∷ rest.1 j),
      )

module _ (t : Tree) (script : Script) (front : IsFront script.attributes t.attributes)
    (held : Blackboard NodeNumber)
    (b : Blackboard Variant) (is : Holds t script held b) where
  pub nodes-below : AreOrdered held.references → All (IsBelowRoot t) (last_nodes held)
  nodes-below ordered = (slots-paths t script.attributes front held.references b.references
      is.stands.references ordered.held is.known.references).0

  pub nodes-paths : AreOrdered held.references
      → map (path_at t) (last_nodes held) ≡ entries_of script.attributes b.references
  nodes-paths ordered = (slots-paths t script.attributes front held.references b.references
      is.stands.references ordered.held is.known.references).1

-- what two boards, one after another, put into a snapshot
module _ (t : Tree) (script : Script) (front : IsFront script.attributes t.attributes)
    (mine process : Blackboard NodeNumber)
    (b p : Blackboard Variant) (is : Holds t script mine b) (other : Holds t script process p) where
  module _ (ordered : AreOrdered mine.references) (also : AreOrdered process.references)
      (new : List NodeNumber) (both : new ≡ last_nodes mine ++ last_nodes process) where
    pub both-below : All (IsBelowRoot t) new
    both-below = subst (All (IsBelowRoot t)) (sym both)
        (All-append (IsBelowRoot t) (last_nodes mine) (last_nodes process)
        (nodes-below t script front mine b is ordered)
        (nodes-below t script front process p other also))

    pub both-paths : map (path_at t) new ≡ entries_of script.attributes b.references ++ entries_of
        script.attributes p.references
    both-paths = ap (map (path_at t)) both
        ∙ map-append (path_at t) (last_nodes mine) (last_nodes process)
        ∙ (λ j. nodes-paths t script front mine b is ordered j ++ nodes-paths t script front process
        p other also j)

-- any node of a context may be asked for
pub any-asked : (script : Script) (m : Moment NodeNumber) (op : Option Operation)
    → MayAskFor (λ (n : NodeNumber). Unit {0}) script m op
any-asked script m None = tt
any-asked script m (Some op) = λ end by n last. tt
