-- Rows that mean keyed ones as a seat knows mean them in a context that has their nodes' numbers.
use Rattle.std.proofs.Common.{◌≡◌, List, [], ◌∷◌, length, get_or, map, Option}
use Rattle.std.proofs.Common.{sym, ◌∙◌, arith}
use Rattle.std.specs.List.{All, AllZip}
use Rattle.std.proofs.lemmas.List.Elements.{All-cons, All-head, All-nil, All-tail}
use Rattle.cal_agg.specs.declared.row.AggRow.{AggRow}
use Rattle.cal_board.specs.Contexts.{opened_entry}
use Rattle.cal_board.specs.PathBoards.{AreKnown, entry_in}
use Rattle.cal_board.specs.declared.opened.Opened.{Opened}
use Rattle.cal_channel.specs.Channels.{IsPathShown}
use Rattle.cal_context.proofs.ListLemmas.{get_or-IsFront, length-IsFront, map-alike}
use Rattle.cal_context.specs.Lists.{IsFront}
use Rattle.cal_context.specs.Tree as contexts
use Rattle.cal_context.specs.Tree.{no_attribute}
use Rattle.cal_context.specs.declared.numbers.NodeNumber.{NodeNumber}
use Rattle.cal_delivery.specs.KeyNodes.{CanNumberKey, IsKeyNumbered}
use Rattle.cal_groups.specs.ContextRows as context_rows
use Rattle.cal_groups.specs.ContextRows.{HasPath}
use Rattle.cal_nodes.proofs.Numbering.{node_later, stands_for}
use Rattle.cal_nodes.specs.Numbers.{AreNumbered, CanNumber, IsNumbered}
use Rattle.cal_once.specs.Seats.{view}
use Rattle.cal_once.specs.Views.{KnowsMore}
use Rattle.cal_once.specs.declared.seat.RowSeat.{RowSeat}
use Rattle.cal_profile.specs.TableRows.{KeyedRow}
use Rattle.cal_script.specs.declared.script.Script.{Script}
use Rattle.cal_snap.specs.Numbered.{IsKnown, entry_of}
use Rattle.cal_snap.specs.declared.numbered.NumberedEntry.{NumberedEntry}
use Rattle.cal_table.specs.Rows.{Row, rows_of}
use Rattle.cal_table.specs.declared.key.TableKey.{TableKey}
use Rattle.cal_table_rows.specs.Meanings.{RowMeans}
use Rattle.cal_tree.specs.Seats.{IsTreeSeat}
use Rattle.cal_tree.specs.declared.tree.Tree.{Tree}
use Rattle.cal_value.specs.declared.attribute.Attribute.{Attribute}
use Rattle.cal_value.specs.declared.attribute.Entry.{Entry}
use Rattle.cal_value.specs.declared.variant.Variant.{Variant}
use Rattle.cal_words.specs.declared.node.NodeId.{NodeId}
use Rattle.cal_words.specs.declared.sort.NodeSort.{NodeSort}

module _ (attributes : List Attribute) (script : Script) (tree : Tree) (was : RowSeat NodeSort)
    (t : contexts.Tree) (named : IsFront script.attributes t.attributes) where
  -- ---- nodes whose paths are shown can be numbered

  shown_can : (node : NodeId) (path : List Entry)
      → IsPathShown attributes script tree was node path → CanNumber tree was t node
  shown_can node path h =
      let long = length-IsFront script.attributes t.attributes named in
      let known = h.known in
      record {
        path = h.opened;
        node_at = h.is_node;
        listed = λ k d l. omega (arith, known k d l, long);
      }

  all_can : (nodes : List NodeId) (paths : List (List Entry))
      → AllZip (IsPathShown attributes script tree was) nodes paths
      → All (CanNumber tree was t) nodes
  all_can [] paths h = All-nil (CanNumber tree was t)
  all_can (node ∷ nodes) [] h = absurd h
  all_can (node ∷ nodes) (path ∷ paths) h = All-cons (CanNumber tree was t) node nodes
      (shown_can node path h.0) (all_can nodes paths h.1)

  -- so those of each key can
  pub keys_can : (keys : List TableKey) (helds : List AggRow) (keyed : List KeyedRow)
      → length keys ≡ length helds
      → AllZip (RowMeans attributes script tree was) (rows_of keys helds) keyed
      → All (CanNumberKey tree was t) keys
  keys_can [] helds keyed long h = All-nil (CanNumberKey tree was t)
  keys_can (key ∷ keys) [] keyed long h = absurd (omega (arith, long))
  keys_can (key ∷ keys) (held ∷ helds) [] long h = absurd h
  keys_can (key ∷ keys) (held ∷ helds) (row ∷ keyed) long h =
      All-cons (CanNumberKey tree was t) key keys
      (all_can key.refs row.key.paths h.0.key.paths)
      (keys_can keys helds keyed (omega (arith, long)) h.1)

  -- ---- with their numbers they have these paths

  -- open values are the same entries by the script and in the context
  opened_alike : (path : List (Opened Variant)) → AreKnown script.attributes path
      → map (opened_entry t) path ≡ map (entry_in script.attributes) path
  opened_alike path known = map-alike (opened_entry t) (entry_in script.attributes) path
      (λ k d l. let o = get_or path k d in
      let same = get_or-IsFront script.attributes t.attributes o.attribute no_attribute named
      (known k d l) in
      λ j. record { attr = same j; value = o.value })

  module _ (front : IsFront attributes t.attributes) (now : RowSeat NodeSort)
      (more : KnowsMore (view was) (view now)) (sound : IsTreeSeat tree now)
      (numbers : List (Option NodeNumber)) (all : AreNumbered tree now t numbers) where
    has_path : (node : NodeId) (path : List Entry) → IsNumbered numbers node
        → IsPathShown attributes script tree was node path → HasPath numbers t node path
    has_path node path n h =
        let stands = stands_for tree now sound t numbers node n.0 h.opened all n.1
        (node_later tree was now more node h.opened h.is_node) in
        record {
          number = n.0;
          numbered = n.1;
          below = record { below = stands.below; within = stands.within };
          path = stands.entries ∙ opened_alike h.opened h.known ∙ h.entries;
        }

    have_paths : (nodes : List NodeId) (paths : List (List Entry))
        → All (IsNumbered numbers) nodes
        → AllZip (IsPathShown attributes script tree was) nodes paths
        → AllZip (HasPath numbers t) nodes paths
    have_paths [] [] n h = tt
    have_paths [] (path ∷ paths) n h = absurd h
    have_paths (node ∷ nodes) [] n h = absurd h
    have_paths (node ∷ nodes) (path ∷ paths) n h = (
      has_path node path (All-head (IsNumbered numbers) node nodes n) h.0,
      have_paths nodes paths (All-tail (IsNumbered numbers) node nodes n) h.1,
    )

    -- entries are the same by the first attributes of the context and by all of them
    entries_alike : (es : List NumberedEntry) → All (IsKnown attributes) es
        → map (entry_of t.attributes) es ≡ map (entry_of attributes) es
    entries_alike es known = map-alike (entry_of t.attributes) (entry_of attributes) es
        (λ k d l. let e = get_or es k d in
        let same = get_or-IsFront attributes t.attributes e.attribute no_attribute front
        (known k d l) in
        λ j. record { attr = same j; value = e.value })

    row_means : (row : Row) (keyed : KeyedRow) → IsKeyNumbered numbers row.key
        → RowMeans attributes script tree was row keyed → context_rows.RowMeans numbers t row keyed
    row_means row keyed n h =
        let long = length-IsFront attributes t.attributes front in
        let known = h.key.within in
        record {
          paths = have_paths row.key.refs keyed.key.paths n h.key.paths;
          known = λ k d l. omega (arith, known k d l, long);
          imms = entries_alike row.key.imms h.key.within ∙ h.key.imms;
          held = sym h.held;
        }

    pub rows_mean : (keys : List TableKey) (helds : List AggRow) (keyed : List KeyedRow)
        → All (IsKeyNumbered numbers) keys
        → AllZip (RowMeans attributes script tree was) (rows_of keys helds) keyed
        → AllZip (context_rows.RowMeans numbers t) (rows_of keys helds) keyed
    rows_mean [] helds [] n h = tt
    rows_mean [] helds (row ∷ keyed) n h = absurd h
    rows_mean (key ∷ keys) [] [] n h = tt
    rows_mean (key ∷ keys) [] (row ∷ keyed) n h = absurd h
    rows_mean (key ∷ keys) (held ∷ helds) [] n h = absurd h
    rows_mean (key ∷ keys) (held ∷ helds) (row ∷ keyed) n h = (
      row_means (record { key = key; held = held }) row
          (All-head (IsKeyNumbered numbers) key keys n) h.0,
      rows_mean keys helds keyed (All-tail (IsKeyNumbered numbers) key keys n) h.1,
    )
