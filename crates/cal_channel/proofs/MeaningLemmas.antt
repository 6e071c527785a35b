-- What a draft holds means the snapshot that boards and services show.
use Rattle.std.proofs.Common.{◌≡◌, suc, ◌-◌, ◌<◌, List, [], ◌∷◌, ◌++◌, length, get_or, map}
use Rattle.std.proofs.Common.{ap, subst, sym, refl, ◌∙◌, arith}
use Rattle.std.specs.Prelude.{Option, Some, flat_map}
use Rattle.std.specs.List.{All, AllZip}
use Rattle.std.specs.Option.{option_map, option_to_list}
use Rattle.std.proofs.lemmas.List.{map-append}
use Rattle.std.proofs.lemmas.List.Elements.{All-cons, All-nil}
use Rattle.std.proofs.lemmas.Option.{slice_get-get_or}
use Rattle.cal_board.proofs.StandingLemmas.{AllZip-append, parent_of}
use Rattle.cal_board.specs.Blackboard.{Blackboard}
use Rattle.cal_board.specs.PathBoards.{AreKnown, entries_of}
use Rattle.cal_board.specs.Slots.{AreOrdered, last_value}
use Rattle.cal_board.specs.Standing.{IsParent, SlotStands, last_nodes}
use Rattle.cal_board.specs.declared.opened.Opened.{Opened}
use Rattle.cal_board.specs.declared.opened.Slot.{Slot}
use Rattle.cal_channel.specs.Channels.{HasSmallNumber, IsPathShown}
use Rattle.cal_channel.specs.Shown.{immediate_shown, numbered_entry, plain_entry, value_shown}
use Rattle.cal_channel.specs.declared.shown.ShownEntry.{ShownEntry}
use Rattle.cal_context.specs.declared.snapshot.Immediate.{Immediate}
use Rattle.cal_hand.specs.Nodes.{NodeAt}
use Rattle.cal_once.specs.declared.seat.RowSeat.{RowSeat}
use Rattle.cal_run.specs.Adding.{AreWithin, entry_by}
use Rattle.cal_run.specs.Held.{HoldsBy}
use Rattle.cal_script.specs.declared.script.Script.{Script}
use Rattle.cal_snap.specs.Numbered.{IsKnown, entry_of}
use Rattle.cal_snap.specs.declared.numbered.NumberedEntry.{NumberedEntry}
use Rattle.cal_table.specs.Snapshots.{HasNumberOf64}
use Rattle.cal_tree.specs.declared.tree.Tree.{Tree}
use Rattle.cal_value.specs.declared.attribute.Attribute.{Attribute}
use Rattle.cal_value.specs.declared.attribute.Entry.{Entry}
use Rattle.cal_value.specs.declared.variant.Variant.{Variant}
use Rattle.cal_words.specs.declared.node.NodeId.{NodeId}
use Rattle.cal_words.specs.declared.sort.NodeSort.{NodeSort}

-- ---- paths

module _ (attributes : List Attribute) (script : Script) (tree : Tree)
    (seat : RowSeat NodeSort) where
  P : NodeId → List (Opened Variant) → Type 0
  P = NodeAt tree seat

  ShowsPath : NodeId → List Entry → Type 0
  ShowsPath = IsPathShown attributes script tree seat

  -- the last node of a slot
  last_node-is : (hs : List (Opened NodeId)) → 0 < length hs
      → last_value hs ≡ Some (get_or hs (length hs - 1)
      (record { attribute = 0; value = record { 0 = 0 } })).value
  last_node-is hs l = ap (option_map (λ (o : Opened NodeId). o.value))
      (slice_get-get_or hs (length hs - 1) (record { attribute = 0; value = record { 0 = 0 } })
      (omega (arith, l)))

  slots-shown : (hs : List (Slot NodeId)) (ss : List (Slot Variant))
      → AllZip (SlotStands (NodeAt tree seat)) hs ss
      → All (λ (s : Slot NodeId). 0 < length s.opened) hs
      → All (λ (s : Slot Variant). AreKnown script.attributes s.opened) ss
      → AllZip (IsPathShown attributes script tree seat)
      (flat_map (λ (s : Slot NodeId). option_to_list (last_value s.opened)) hs)
      (entries_of script.attributes ss)
  slots-shown [] [] zipped held known = tt
  slots-shown [] (s ∷ ss) zipped held known = absurd zipped
  slots-shown (h ∷ hs) [] zipped held known = absurd zipped
  slots-shown (h ∷ hs) (s ∷ ss) zipped held known =
      let n : NodeId =
      (get_or h.opened (length h.opened - 1)
      (record { attribute = 0; value = record { 0 = 0 } })).value in
      let is : last_value h.opened ≡ Some n = last_node-is h.opened (held 0 h (omega arith)) in
      let stands : NodeAt tree seat n s.opened = subst
      (λ o. IsParent (NodeAt tree seat) o s.opened) is
      (parent_of (NodeAt tree seat) h.opened s.opened zipped.0.opened) in
      let rest = slots-shown hs ss zipped.1 (λ i d l. held (suc i) d (omega (arith, l)))
      (λ i d l. known (suc i) d (omega (arith, l))) in
      let tail : List NodeId =
      flat_map (λ (s : Slot NodeId). option_to_list (last_value s.opened)) hs in
      subst (λ (o : Option NodeId). AllZip (IsPathShown attributes script tree seat)
      (option_to_list o ++ tail) (entries_of script.attributes (s ∷ ss))) (sym is) (
        record {
          opened = s.opened;
          is_node = stands;
          known = known 0 s (omega arith);
          entries = refl;
        },
        rest,
      )

  -- the last nodes of a board stand for its paths
  pub board-shown : (held : Blackboard NodeId) (b : Blackboard Variant)
      → HoldsBy (NodeAt tree seat) script held b → AreOrdered held.references
      → AllZip (IsPathShown attributes script tree seat) (last_nodes held)
      (entries_of script.attributes b.references)
  board-shown held b is ordered = slots-shown held.references b.references is.stands.references
      ordered.held is.known.references

  -- and those of two boards, one behind the other
  pub boards-shown : (mine process : Blackboard NodeId) (b p : Blackboard Variant)
      → HoldsBy (NodeAt tree seat) script mine b → HoldsBy (NodeAt tree seat) script process p
      → AreOrdered mine.references → AreOrdered process.references
      → AllZip (IsPathShown attributes script tree seat) (last_nodes mine ++ last_nodes process)
      (entries_of script.attributes b.references ++ entries_of script.attributes p.references)
  boards-shown mine process b p is other ordered also =
      AllZip-append (IsPathShown attributes script tree seat) (last_nodes mine)
      (last_nodes process) (entries_of script.attributes b.references)
      (entries_of script.attributes p.references) (board-shown mine b is ordered)
      (board-shown process p other also)

-- ---- entries

module _ (attributes : List Attribute) (values : List Variant) where
  -- numbered entries mean what the immediates mean
  pub entries-alike : (es : List ShownEntry) → map (entry_of attributes)
      (map (numbered_entry values) es) ≡ map (entry_by attributes) (map (immediate_shown values) es)
  entries-alike [] = refl
  entries-alike (e ∷ es) = λ i. entry_by attributes (immediate_shown values e) ∷ entries-alike es i

  pub within-alike : (es : List ShownEntry)
      → AreWithin attributes (map (immediate_shown values) es)
      → All (IsKnown attributes) (map (numbered_entry values) es)
  within-alike [] within = All-nil (IsKnown attributes)
  within-alike (e ∷ es) within = All-cons (IsKnown attributes) (numbered_entry values e)
      (map (numbered_entry values) es) (within 0 (immediate_shown values e) (omega arith))
      (within-alike es (λ i d l. within (suc i) d (omega (arith, l))))

  small-each : (xs : List NumberedEntry) → All HasSmallNumber (map (entry_of attributes) xs)
      → All HasNumberOf64 xs
  small-each [] small = All-nil HasNumberOf64
  small-each (x ∷ xs) small = All-cons HasNumberOf64 x xs
      (small 0 (entry_of attributes x) (omega arith))
      (small-each xs (λ i d l. small (suc i) d (omega (arith, l))))

  -- entries have numbers as small as those that they mean
  pub small-alike : (xs : List NumberedEntry) (es : List Entry) → map (entry_of attributes) xs ≡ es
      → All HasSmallNumber es → All HasNumberOf64 xs
  small-alike xs es means small = small-each xs (subst (All HasSmallNumber) (sym means) small)

-- ---- adding

module _ (values : List Variant) where
  plain-means : (imms : List Immediate)
      → map (immediate_shown values) (map plain_entry imms) ≡ imms
  plain-means [] = refl
  plain-means (i ∷ imms) = λ j. i ∷ plain-means imms j

  -- immediates that were added with their values
  pub plain-added : (old new : List ShownEntry) (imms : List Immediate)
      → new ≡ old ++ map plain_entry imms
      → map (immediate_shown values) new ≡ map (immediate_shown values) old ++ imms
  plain-added old new imms added = ap (map (immediate_shown values)) added
      ∙ map-append (immediate_shown values) old (map plain_entry imms)
      ∙ ap (λ is. map (immediate_shown values) old ++ is) (plain-means imms)

  -- an entry that was added
  pub one-added : (old new : List ShownEntry) (e : ShownEntry) (v : Variant)
      → new ≡ old ++ e ∷ [] → value_shown values e.value ≡ v
      → map (immediate_shown values) new ≡ map (immediate_shown values) old
      ++ record { attribute = e.attribute; value = v } ∷ []
  one-added old new e v added is = ap (map (immediate_shown values)) added
      ∙ map-append (immediate_shown values) old (e ∷ [])
      ∙ ap (λ w. map (immediate_shown values) old
      ++ record { attribute = e.attribute; value = w } ∷ []) is
