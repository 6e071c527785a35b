-- A snapshot of a context means what the one of a trace meant that it was made of.
use Rattle.std.proofs.Common.{◌≡◌, suc, ◌<◌, List, [], ◌∷◌, length, get_or, map, Option, Some, refl}
use Rattle.std.proofs.Common.{sym, ap, ◌∙◌, subst, arith}
use Rattle.std.specs.List.{All, AllZip}
use Rattle.std.proofs.lemmas.List.Elements.{All-cons, All-nil}
use Rattle.cal_board.proofs.StandingLemmas.{AllZip-weaken}
use Rattle.cal_board.specs.Contexts.{opened_entry}
use Rattle.cal_board.specs.PathBoards.{AreKnown, entry_in}
use Rattle.cal_board.specs.declared.opened.Opened.{Opened}
use Rattle.cal_channel.specs.Channels.{IsPathShown, IsTraced}
use Rattle.cal_channel.specs.Shown.{immediate_shown, numbered_entry, value_shown}
use Rattle.cal_channel.specs.Traces.{ShownSnap}
use Rattle.cal_channel.specs.declared.shown.ShownEntry.{ShownEntry}
use Rattle.cal_context.proofs.ListLemmas.{IsFront-trans, get_or-IsFront, length-IsFront, map-alike}
use Rattle.cal_context.specs.Lists.{IsFront}
use Rattle.cal_context.specs.Snapshots.{IsBelowRoot, IsIn, entry_of, meaning}
use Rattle.cal_context.specs.Tree as contexts
use Rattle.cal_context.specs.Tree.{no_attribute, path_at}
use Rattle.cal_context.specs.declared.numbers.NodeNumber.{NodeNumber}
use Rattle.cal_context.specs.declared.snapshot.Immediate.{Immediate}
use Rattle.cal_context.specs.declared.snapshot.Snapshot.{Snapshot}
use Rattle.cal_nodes.proofs.Numbering.{node_later, stands_for}
use Rattle.cal_nodes.specs.Numbers.{AreNumbered, CanNumber, number_in}
use Rattle.cal_once.specs.Seats.{view}
use Rattle.cal_once.specs.Views.{KnowsMore}
use Rattle.cal_once.specs.declared.seat.RowSeat.{RowSeat}
use Rattle.cal_results.specs.Tracing.{AreNumbersOf, TraceMeans, SnapMeans}
use Rattle.cal_script.specs.declared.script.Script.{Script}
use Rattle.cal_snap.specs.Numbered as numbered
use Rattle.cal_tree.specs.Seats.{IsTreeSeat}
use Rattle.cal_tree.specs.declared.tree.Tree.{Tree}
use Rattle.cal_value.specs.declared.attribute.Attribute.{Attribute}
use Rattle.cal_value.specs.declared.attribute.Entry.{Entry}
use Rattle.cal_value.specs.declared.record.Rec.{Rec}
use Rattle.cal_value.specs.declared.variant.Variant.{Variant}
use Rattle.cal_words.specs.declared.node.NodeId.{NodeId}
use Rattle.cal_words.specs.declared.sort.NodeSort.{NodeSort}

-- ---- immediates, by attributes that are the first of a context

module _ (t : contexts.Tree) (attributes : List Attribute)
    (front : IsFront attributes t.attributes) (values : List Variant) where
  imms_mean : (es : List ShownEntry)
      → All (numbered.IsKnown attributes) (map (numbered_entry values) es)
      → map (entry_of t) (map (immediate_shown values) es)
      ≡ map (numbered.entry_of attributes) (map (numbered_entry values) es)
  imms_mean [] within = refl
  imms_mean (e ∷ es) within =
      let known : e.attribute.0 < length attributes = within 0 (numbered_entry values e)
      (omega arith) in
      let first = get_or-IsFront attributes t.attributes e.attribute.0 no_attribute front known in
      let rest = imms_mean es (λ k d l. within (suc k) d (omega (arith, l))) in
      λ j. record { attr = first j; value = value_shown values e.value } ∷ rest j

  imms_lie : (es : List ShownEntry)
      → All (numbered.IsKnown attributes) (map (numbered_entry values) es)
      → All (λ (i : Immediate). i.attribute.0 < length t.attributes)
      (map (immediate_shown values) es)
  imms_lie [] within = All-nil (λ (i : Immediate). i.attribute.0 < length t.attributes)
  imms_lie (e ∷ es) within =
      let known : e.attribute.0 < length attributes = within 0 (numbered_entry values e)
      (omega arith) in
      let long = length-IsFront attributes t.attributes front in
      All-cons (λ (i : Immediate). i.attribute.0 < length t.attributes) (immediate_shown values e)
      (map (immediate_shown values) es) (omega (arith, known, long))
      (imms_lie es (λ k d l. within (suc k) d (omega (arith, l))))

-- ---- nodes, where the script's attributes are the first of a context

module _ (attributes : List Attribute) (script : Script) (tree : Tree)
    (seat : RowSeat NodeSort) (t : contexts.Tree)
    (named : IsFront script.attributes t.attributes) where
  -- nodes that show paths can be put into the context
  pub can_number : (nodes : List NodeId) (paths : List (List Entry))
      → AllZip (IsPathShown attributes script tree seat) nodes paths
      → All (CanNumber tree seat t) nodes
  can_number [] paths h = All-nil (CanNumber tree seat t)
  can_number (m ∷ nodes) [] h = absurd h
  can_number (m ∷ nodes) (p ∷ paths) h =
      let long = length-IsFront script.attributes t.attributes named in
      let known = h.0.known in
      All-cons (CanNumber tree seat t) m nodes (record {
        path = h.0.opened;
        node_at = h.0.is_node;
        listed = λ k d l. omega (arith, known k d l, long);
      }) (can_number nodes paths h.1)

  -- open values are the same entries by the script and in the context
  opened_alike : (path : List (Opened Variant)) → AreKnown script.attributes path
      → map (opened_entry t) path ≡ map (entry_in script.attributes) path
  opened_alike path known = map-alike (opened_entry t) (entry_in script.attributes) path
      (λ k d l. let o = get_or path k d in
      let same = get_or-IsFront script.attributes t.attributes o.attribute no_attribute named
      (known k d l) in
      λ j. record { attr = same j; value = o.value })

  module _ (is : IsTreeSeat tree seat) (numbers : List (Option NodeNumber))
      (all : AreNumbered tree seat t numbers) where
    -- the number of a node has the path that the node shows
    path_means : (n : NodeNumber) (node : NodeId) (path : List Entry)
        → number_in numbers node ≡ Some n
        → IsPathShown attributes script tree seat node path → path_at t n ≡ path
    path_means n node path e h =
        (stands_for tree seat is t numbers node n h.opened all e h.is_node).entries
        ∙ opened_alike h.opened h.known ∙ h.entries

    paths_mean : (ns : List NodeNumber) (nodes : List NodeId) (paths : List (List Entry))
        → AreNumbersOf numbers ns nodes
        → AllZip (IsPathShown attributes script tree seat) nodes paths
        → map (path_at t) ns ≡ paths
    paths_mean [] [] [] a h = refl
    paths_mean [] [] (p ∷ paths) a h = absurd h
    paths_mean [] (m ∷ nodes) paths a h = absurd a
    paths_mean (n ∷ ns) [] paths a h = absurd a
    paths_mean (n ∷ ns) (m ∷ nodes) [] a h = absurd h
    paths_mean (n ∷ ns) (m ∷ nodes) (p ∷ paths) a h =
        let first = path_means n m p a.0 h.0 in
        let rest = paths_mean ns nodes paths a.1 h.1 in
        λ j. first j ∷ rest j

-- numbers of nodes are below the root
nodes_lie : (tree : Tree) (seat : RowSeat NodeSort) (t : contexts.Tree)
    (numbers : List (Option NodeNumber)) → AreNumbered tree seat t numbers
    → (ns : List NodeNumber) (nodes : List NodeId) → AreNumbersOf numbers ns nodes
    → All (IsBelowRoot t) ns
nodes_lie tree seat t numbers all [] nodes a = All-nil (IsBelowRoot t)
nodes_lie tree seat t numbers all (n ∷ ns) [] a = absurd a
nodes_lie tree seat t numbers all (n ∷ ns) (m ∷ nodes) a =
    let stands = (all.each m n a.0).stands in
    All-cons (IsBelowRoot t) n ns (record { below = stands.below; within = stands.within })
    (nodes_lie tree seat t numbers all ns nodes a.1)

-- ---- a snapshot

-- what a snapshot of a trace means it means still, while a seat learns
traced_later : (attributes : List Attribute) (script : Script) (tree : Tree)
    (was is : RowSeat NodeSort) → KnowsMore (view was) (view is) → (snap : ShownSnap) (rec : Rec)
    → IsTraced attributes script tree was snap rec → IsTraced attributes script tree is snap rec
traced_later attributes script tree was is learned snap rec h = record {
  paths = AllZip-weaken (IsPathShown attributes script tree was)
      (IsPathShown attributes script tree is)
      (λ node path shows. record {
        opened = shows.opened;
        is_node = node_later tree was is learned node shows.opened shows.is_node;
        known = shows.known;
        entries = shows.entries;
      }) snap.nodes rec.paths h.paths;
  within = h.within;
  imms = h.imms;
}

-- and while attributes of a context come behind others: so do all of a trace
pub records_later : (script : Script) (tree : Tree) (old new : contexts.Tree)
    → IsFront old.attributes new.attributes → (was is : RowSeat NodeSort)
    → KnowsMore (view was) (view is) → (snaps : List ShownSnap) (recs : List Rec)
    → TraceMeans old script tree was snaps recs → TraceMeans new script tree is snaps recs
records_later script tree old new more was is learned snaps recs m = record {
  attributes = m.attributes;
  front = IsFront-trans m.attributes old.attributes new.attributes m.front more;
  traced = AllZip-weaken (IsTraced m.attributes script tree was)
      (IsTraced m.attributes script tree is)
      (traced_later m.attributes script tree was is learned) snaps recs m.traced;
}

module _ (script : Script) (tree : Tree) (snap : ShownSnap) where
  -- and so does one
  pub record_later : (old new : contexts.Tree) → IsFront old.attributes new.attributes
      → (was is : RowSeat NodeSort) → KnowsMore (view was) (view is) → (rec : Rec)
      → SnapMeans old script tree was snap rec → SnapMeans new script tree is snap rec
  record_later old new more was is learned rec m = record {
    attributes = m.attributes;
    front = IsFront-trans m.attributes old.attributes new.attributes m.front more;
    traced = traced_later m.attributes script tree was is learned snap rec m.traced;
  }

  module _ (t : contexts.Tree) (seat : RowSeat NodeSort) (numbers : List (Option NodeNumber))
      (all : AreNumbered tree seat t numbers) (s : Snapshot)
      (given : AreNumbersOf numbers s.nodes.items snap.nodes)
      (shown : s.imms.items ≡ map (immediate_shown script.values) snap.entries) (rec : Rec)
      (m : SnapMeans t script tree seat snap rec) where
    pub snapshot_lies : IsIn t s
    snapshot_lies = record {
      nodes = nodes_lie tree seat t numbers all s.nodes.items snap.nodes given;
      imms = subst (All (λ (i : Immediate). i.attribute.0 < length t.attributes)) (sym shown)
          (imms_lie t m.attributes m.front script.values snap.entries m.traced.within);
    }

    pub snapshot_means : IsTreeSeat tree seat → IsFront script.attributes t.attributes
        → meaning t s ≡ rec
    snapshot_means is named =
        let paths = paths_mean m.attributes script tree seat t named is numbers all s.nodes.items
        snap.nodes rec.paths given m.traced.paths in
        let imms : map (entry_of t) s.imms.items ≡ rec.imms = ap (map (entry_of t)) shown
        ∙ imms_mean t m.attributes m.front script.values snap.entries m.traced.within
        ∙ m.traced.imms in
        λ j. record { paths = paths j; imms = imms j }
