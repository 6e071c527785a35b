-- The keys of tables get their numbers, table by table.
use Rattle.std.proofs.Common.{◌≡◌, ℕ, ◌+◌, ◌<◌, List, [], ◌∷◌, ◌++◌, length, get_or, take, Option}
use Rattle.std.proofs.Common.{ap, sym, subst, ◌∙◌}
use Rattle.std.specs.List.{All}
use Rattle.std.proofs.lemmas.List.{take_more}
use Rattle.std.proofs.lemmas.List.Elements.{All-push, All-weaker}
use Rattle.cal_context.specs.Tree as contexts
use Rattle.cal_context.specs.Tree.{Grows}
use Rattle.cal_context.specs.declared.numbers.NodeNumber.{NodeNumber}
use Rattle.cal_delivery.specs.KeyNodes.{CanNumberKey, IsKeyNumbered, IsTableNumbered}
use Rattle.cal_nodes.proofs.Numbering.{can_later}
use Rattle.cal_nodes.specs.Numbers.{CanNumber, IsNumbered, KeepsNumbers}
use Rattle.cal_once.specs.Seats.{view}
use Rattle.cal_once.specs.Views.{KnowsMore}
use Rattle.cal_once.specs.declared.seat.RowSeat.{RowSeat}
use Rattle.cal_table.specs.Tables.{TableValue}
use Rattle.cal_table.specs.declared.key.TableKey.{TableKey}
use Rattle.cal_tree.specs.declared.tree.Tree.{Tree}
use Rattle.cal_words.specs.declared.node.NodeId.{NodeId}
use Rattle.cal_words.specs.declared.sort.NodeSort.{NodeSort}

-- nodes of keys can still be numbered when more is known, and the context has grown
pub keys_later : (tree : Tree) (was is : RowSeat NodeSort) → KnowsMore (view was) (view is)
    → (old new : contexts.Tree) → Grows old new → (keys : List TableKey)
    → All (CanNumberKey tree was old) keys → All (CanNumberKey tree is new) keys
keys_later tree was is more old new grows keys h = All-weaker (CanNumberKey tree was old)
    (CanNumberKey tree is new)
    (λ (key : TableKey) can. All-weaker (CanNumber tree was old) (CanNumber tree is new)
    (λ (node : NodeId) c. can_later tree was is more old new node grows c) key.refs can) keys h

module _ (old new : List (Option NodeNumber)) (keeps : KeepsNumbers old new) where
  -- a table whose keys have numbers has them still
  table_stays : (table : TableValue) → IsTableNumbered old table → IsTableNumbered new table
  table_stays table h = record {
    keys = h.keys;
    held = h.held;
    rows = h.rows;
    numbered = All-weaker (IsKeyNumbered old) (IsKeyNumbered new)
        (λ (key : TableKey) all. All-weaker (IsNumbered old) (IsNumbered new)
        (λ (node : NodeId) n. (n.0, keeps node n.0 n.1)) key.refs all) h.keys h.numbered;
  }

  -- the tables so far have theirs, and so has one more
  pub tables_more : (tables : List TableValue) (i : ℕ) (table : TableValue) → i < length tables
      → table ≡ get_or tables i table → All (IsTableNumbered old) (take i tables)
      → IsTableNumbered new table → All (IsTableNumbered new) (take (i + 1) tables)
  tables_more tables i table less is so_far this =
      let more : take (i + 1) tables ≡ take i tables ++ table ∷ [] = take_more tables i table less
      ∙ ap (λ (t : TableValue). take i tables ++ t ∷ []) (sym is) in
      subst (All (IsTableNumbered new)) (sym more)
      (All-push (IsTableNumbered new) (take i tables) table
      (All-weaker (IsTableNumbered old) (IsTableNumbered new) table_stays (take i tables) so_far)
      this)
