-- The words that a change may take in the shared tree.
use Rattle.std.proofs.Common.{◌≡◌, ℕ, ◌+◌, ◌≤◌, ◌∷◌, ◌++◌, [], Bool, true, false, if◌then◌else◌}
use Rattle.std.proofs.Common.{refl, ap, subst, arith, ⊎_elim}
use Rattle.cal_board.specs.Asking.{Does, Puts, PutsValue}
use Rattle.cal_board.specs.Blackboard.{Blackboard}
use Rattle.cal_board.specs.declared.attr.AttrRef.{AttrRef}
use Rattle.cal_board.specs.declared.reply.BoardReply as replies
use Rattle.cal_board.specs.declared.reply.BoardReply.TheVariants as reply
use Rattle.cal_hand.specs.Boards.{ByTable}
use Rattle.cal_hand.specs.Changes.{Operates, words_at_most}
use Rattle.cal_hand.specs.Nodes.{AddsNode, PublishedAtMost}
use Rattle.cal_hand.specs.declared.change.Change as changes
use Rattle.cal_hand.specs.declared.change.Change.TheVariants as change
use Rattle.cal_once.specs.Seats.{view}
use Rattle.cal_once.specs.declared.seat.RowSeat.{RowSeat}
use Rattle.cal_once.specs.declared.view.View.{View}
use Rattle.cal_tree.specs.declared.tree.Tree.{Tree}
use Rattle.cal_value.specs.declared.variant.Variant.{Variant}
use Rattle.cal_words.specs.declared.node.NodeId.{NodeId}
use Rattle.cal_words.specs.declared.op.OpCode as codes
use Rattle.cal_words.specs.declared.op.OpCode.TheVariants as code
use Rattle.cal_words.specs.declared.sort.NodeSort.{NodeSort}

-- what was published at most bounds the words in use
pub used-at-most : (v w : View NodeSort) (words : ℕ) → PublishedAtMost v w words
    → w.used ≤ v.used + words
used-at-most v w words most = ⊎_elim
    (λ (same : (w.published ≡ v.published) × (w.used ≡ v.used)). let e = same.1 in omega (arith, e))
    (λ (more : (w.published ≡ v.published ++ most.0 ∷ []) × (w.used ≡ v.used + words)).
    let e = more.1 in omega (arith, e)) most.1

module _ (tree : Tree) (was is : RowSeat NodeSort) (old new : Blackboard NodeId) (a : AttrRef) where
  -- a line of a value that stands for itself leaves the seat
  table-leaves : (c : codes.OpCode) (v : Variant) (r : replies.BoardReply) → a.as_value ≡ true
      → ByTable tree was is old new c a v r → is ≡ was
  table-leaves c v r as_value by = leaves r by.does
    where
      leaves : (r : replies.BoardReply) → Does (AddsNode v) was is old new c a v r → is ≡ was
      leaves reply.Done d =
          let p : PutsValue (AddsNode v) was is old new c a v =
          subst (λ b. Puts (AddsNode v) was is old new c a v b) as_value d in p.same
      leaves (reply.Mismatch top) d = d.maker
      leaves reply.NotOpen d = d.maker
      leaves (reply.TreeFull full) d = absurd d
      leaves reply.TooDeep d = d.maker
      leaves reply.SlotsFull d = d.maker

  leaves-seat : (did : changes.Change) (r : replies.BoardReply) → a.as_value ≡ true
      → Operates tree was is old new a did r → is ≡ was
  leaves-seat (change.Begin v) r as_value o = table-leaves code.Begin v.now r as_value o
  leaves-seat change.End r as_value o = o.2
  leaves-seat (change.Set v) r as_value o = table-leaves code.Set v.now r as_value o

  -- the words that a change may take
  pub used-by : (did : changes.Change)
      → PublishedAtMost (view was) (view is) (words_at_most did) → (r : replies.BoardReply)
      → Operates tree was is old new a did r
      → (view is).used ≤ (view was).used + (if a.as_value then 0 else words_at_most did)
  used-by did most r o = by a.as_value refl
    where
      by : (b : Bool) → a.as_value ≡ b
          → (view is).used ≤ (view was).used + (if b then 0 else words_at_most did)
      by true as_value =
          let same = ap (λ (s : RowSeat NodeSort). (view s).used)
          (leaves-seat did r as_value o) in
          omega (arith, same)
      by false as_value =
          used-at-most (view was) (view is) (words_at_most did) most
