-- What is read of a node is the last of the open values for which it stands.
use Rattle.std.proofs.Common.{◌≡◌, ℕ, ◌-◌, List, [], ◌∷◌, ◌++◌, length, map, ap, subst, ◌∙◌}
use Rattle.std.proofs.Common.{arith, length-append}
use Rattle.std.specs.Prelude.{Some}
use Rattle.std.proofs.lemmas.List.{get_or_push, map-append}
use Rattle.std.proofs.lemmas.Option.{slice_get-get_or}
use Rattle.cal_board.specs.PathBoards.{last_opened}
use Rattle.cal_board.specs.declared.opened.Opened.{Opened}
use Rattle.cal_channel.specs.Closing.{IsOwnValue}
use Rattle.cal_hand.specs.Nodes.{node_entry}
use Rattle.cal_once.specs.declared.seat.RowSeat.{RowSeat}
use Rattle.cal_tree.proofs.Ways.{last_split}
use Rattle.cal_tree.specs.Paths.{NodeEntry}
use Rattle.cal_tree.specs.Seats.{IsPathOf}
use Rattle.cal_tree.specs.declared.tree.Tree.{Tree}
use Rattle.cal_value.specs.declared.variant.Variant.{Variant}
use Rattle.cal_words.specs.declared.node.NodeId.{NodeId}
use Rattle.cal_words.specs.declared.sort.NodeSort.{NodeSort}

-- the last of some open values
last_opened-push : (os : List (Opened Variant)) (o : Opened Variant)
    → last_opened (os ++ o ∷ []) ≡ Some o
last_opened-push os o =
    let l = length-append os (o ∷ []) in
    let at : length os ≡ length (os ++ o ∷ []) - 1 = omega (arith, l) in
    slice_get-get_or (os ++ o ∷ []) (length (os ++ o ∷ []) - 1) o (omega (arith, l))
    ∙ ap Some (get_or_push os o o (length (os ++ o ∷ []) - 1) at)

module _ (tree : Tree) (seat : RowSeat NodeSort) (node : NodeId) (attr : ℕ) (value : Variant) where
  pub own_value-read : ((path : List NodeEntry) (e : NodeEntry)
      → IsPathOf tree seat (path ++ e ∷ []) node.0
      → e ≡ record { attr = attr; value = value })
      → IsOwnValue tree seat node value
  own_value-read told [] is =
      let below = is.below in
      let root = is.has_path in
      absurd (omega (arith, below, root))
  own_value-read told (o ∷ os) is =
      let s = last_split o os in
      let way = subst (λ (p : List NodeEntry). IsPathOf tree seat p node.0)
      (ap (map node_entry) s.2 ∙ map-append node_entry s.0 (s.1 ∷ [])) is.has_path in
      record {
        last = s.1;
        is_last = ap last_opened s.2 ∙ last_opened-push s.0 s.1;
        is_value = ap (λ (e : NodeEntry). e.value) (told (map node_entry s.0) (node_entry s.1) way);
      }
