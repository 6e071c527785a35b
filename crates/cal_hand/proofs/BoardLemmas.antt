-- What a hand does to a board, as it is seen without the hand.
use Rattle.std.proofs.Common.{◌≡◌, ◌≢◌, ◌⊎◌, ℕ, ◌+◌, ◌-◌, ◌<◌, ◌≤◌, Bool, true, false, if◌then◌else◌, List, [], length, map, refl, sym, ap, ◌∙◌, subst, arith}
use Rattle.std.specs.Prelude.{Option, Some, None, Result, Ok, Err, IfOk, OnErr, IsTrue}
use Rattle.std.proofs.lemmas.Bool.{true≢false}
use Rattle.std.proofs.lemmas.List.{length-take}
use Rattle.cal_board.proofs.LimitLemmas.{opened_in-short, room-done}
use Rattle.cal_board.proofs.StandingLemmas.{OpenedStand-front, Stands-grows, held_long, opened_in-Stands, parent_of}
use Rattle.cal_board.specs.Asking.{Does, IsRefused, LeavesAll, Puts, Refuses, parent_in}
use Rattle.cal_board.specs.Blackboard.{Blackboard, IsWithin, begin_reply, board_after, depth_at, is_top, reply_to, slot_number, top_at}
use Rattle.cal_board.specs.Slots.{front, last_value, opened_in}
use Rattle.cal_board.specs.Standing.{IsParent, OpenedStand, Stands, StandsThen, Steps}
use Rattle.cal_board.specs.declared.attr.AttrRef.{AttrRef}
use Rattle.cal_board.specs.declared.opened.Opened.{Opened}
use Rattle.cal_board.specs.declared.reply.BoardReply as replies
use Rattle.cal_board.specs.declared.reply.BoardReply.TheVariants as reply
use Rattle.cal_hand.proofs.RoomLemmas.{not-too-deep}
use Rattle.cal_hand.specs.Boards.{ByTable, Replies, TellsFull, TellsWhy}
use Rattle.cal_hand.specs.Hands.{AddsByHand, GrowsHand, RefusesChild, node-stays}
use Rattle.cal_hand.specs.Nodes.{AddsNode, IsNodeFor, IsPlain, NodeAt, node_entry, parent_number}
use Rattle.cal_hand.specs.declared.hand.Hand.{Hand}
use Rattle.cal_once.specs.Seats.{view}
use Rattle.cal_once.specs.Views.{IsLater}
use Rattle.cal_once.specs.declared.seat.RowSeat.{RowSeat}
use Rattle.cal_tree.specs.Children.{IsAnswer}
use Rattle.cal_tree.specs.Paths.{NodeEntry}
use Rattle.cal_tree.specs.Seats.{IsTreeSeat, plan_of, slots_of}
use Rattle.cal_tree.specs.declared.tree.Tree.{Tree}
use Rattle.cal_value.specs.declared.variant.Variant.{Variant}
use Rattle.cal_words.specs.declared.full.TreeFull.{TreeFull}
use Rattle.cal_words.specs.declared.full.TreeFull.TheVariants.{TooDeep}
use Rattle.cal_words.specs.declared.node.NodeId.{NodeId}
use Rattle.cal_words.specs.declared.op.OpCode as codes
use Rattle.cal_words.specs.declared.op.OpCode.TheVariants.{Begin, End, Set}
use Rattle.cal_words.specs.declared.sort.NodeSort.{NodeSort}

-- ---- the parent of what a line opens isn't deep

module _ (P : NodeId → List (Opened Variant) → Type 0) (old : Blackboard NodeId)
    (b : Blackboard Variant) (stands : Stands P old b) (within : IsWithin old) (a : AttrRef)
    (reference : a.as_value ≡ false) where
  -- a parent that stands for few values
  abbrev HasFew : Option NodeId → Type 0
  HasFew parent = (path : List (Opened Variant)) × IsParent P parent path × (length path < 128)

  at : OpenedStand P (opened_in (slot_number a) old.references)
      (opened_in (slot_number a) b.references)
  at = opened_in-Stands P (slot_number a) old.references b.references stands.references

  depth : depth_at old a ≡ length (opened_in (slot_number a) old.references)
  depth = ap (λ (t : Bool). if t then length (opened_in (slot_number a) old.as_values)
      else length (opened_in (slot_number a) old.references)) reference

  few_opened : begin_reply old a ≡ reply.Done
      → HasFew (last_value (opened_in (slot_number a) old.references))
  few_opened done =
      let few = (room-done (length old.references + length old.as_values) (depth_at old a) done).0 in
      let long = held_long P _ _ at in
      (opened_in (slot_number a) b.references, parent_of P _ _ at, omega (arith, few, long, depth))

  few_before : HasFew (last_value (front (opened_in (slot_number a) old.references)))
  few_before =
      let few = opened_in-short (slot_number a) old.references within.references in
      let long = held_long P _ _ at in
      let cut = length-take (length (opened_in (slot_number a) b.references) - 1)
      (opened_in (slot_number a) b.references) in (
        front (opened_in (slot_number a) b.references),
        parent_of P _ _ (OpenedStand-front P _ _ at),
        omega (arith, few, long, cut),
      )

  few_set : (t : Bool) → (if t then reply.Done else begin_reply old a) ≡ reply.Done
      → HasFew (if t then last_value (front (opened_in (slot_number a) old.references))
      else last_value (opened_in (slot_number a) old.references))
  few_set true done = few_before
  few_set false done = few_opened done

  pub few_above : (c : codes.OpCode) → reply_to old c a ≡ reply.Done → (path : List (Opened Variant))
      × IsParent P (parent_in old c a) path × (length path < 128)
  few_above Begin done = few_opened done
  few_above End done = ([], refl, omega arith)
  few_above Set done = few_set (is_top (top_at old a) a.number) done

-- ---- a board after a call by a hand

module _ (hand new : Hand) (grows : GrowsHand hand new) (old after : Blackboard NodeId)
    (c : codes.OpCode) (a : AttrRef) where
  steps_seen : (r : replies.BoardReply)
      → Steps (NodeAt hand.tree.now hand.seat.now) (NodeAt new.tree.now new.seat.now) old after c a
      hand.value.now r
      → Steps (NodeAt hand.tree.now hand.seat.now) (NodeAt hand.tree.now new.seat.now) old after c a
      hand.value.now r
  steps_seen r s = subst (λ (t : Tree). Steps (NodeAt hand.tree.now hand.seat.now)
      (NodeAt t new.seat.now) old after c a hand.value.now r) grows.tree s

  leaves_seen : LeavesAll AddsByHand hand new old after
      → LeavesAll (AddsNode hand.value.now) hand.seat.now new.seat.now old after
  leaves_seen l = record { board = l.board; maker = ap (λ (h : Hand). h.seat.now) l.maker }

  puts_seen : (t : Bool) → Puts AddsByHand hand new old after c a hand.value.now t
      → Puts (AddsNode hand.value.now) hand.seat.now new.seat.now old after c a hand.value.now t
  puts_seen true p = record { after = p.after; same = ap (λ (h : Hand). h.seat.now) p.same }
  puts_seen false p = record { node = p.node; after = p.after; added = p.added }

  does_seen : (r : replies.BoardReply) → Does AddsByHand hand new old after c a hand.value.now r
      → Does (AddsNode hand.value.now) hand.seat.now new.seat.now old after c a hand.value.now r
  does_seen reply.Done d = puts_seen a.as_value d
  does_seen (reply.Mismatch top) d = leaves_seen d
  does_seen reply.NotOpen d = leaves_seen d
  does_seen (reply.TreeFull full) d = d
  does_seen reply.TooDeep d = leaves_seen d
  does_seen reply.SlotsFull d = leaves_seen d

  by_table : (r : replies.BoardReply)
      → Steps (NodeAt hand.tree.now hand.seat.now) (NodeAt new.tree.now new.seat.now) old after c a
      hand.value.now r
      → Does AddsByHand hand new old after c a hand.value.now r
      → ByTable hand.tree.now hand.seat.now new.seat.now old after c a hand.value.now r
  by_table r s d = record { steps = steps_seen r s; does = does_seen r d }

  -- an answer is the table's
  pub answers_by_table : {E : Type 0} (result : Result replies.BoardReply E)
      → IfOk result (Steps (NodeAt hand.tree.now hand.seat.now) (NodeAt new.tree.now new.seat.now)
      old after c a hand.value.now)
      → IfOk result (Does AddsByHand hand new old after c a hand.value.now)
      → IfOk result (ByTable hand.tree.now hand.seat.now new.seat.now old after c a hand.value.now)
  answers_by_table (Ok r) s d = by_table r s d
  answers_by_table (Err e) s d = tt

  module _ (seat : IsTreeSeat hand.tree.now hand.seat.now) (b : Blackboard Variant)
      (stands : Stands (NodeAt hand.tree.now hand.seat.now) old b) (within : IsWithin old)
      (plain : IsTrue a.as_value → IsPlain hand.value.now) where
    -- the tree didn't refuse the child for its depth
    not_deep : a.as_value ≡ false → reply_to old c a ≡ reply.Done → (full : TreeFull)
        → IsAnswer (plan_of hand.tree.now) (parent_number (parent_in old c a))
        (record { attr = a.number; value = hand.value.now }) (view hand.seat.now)
        (view new.seat.now) (Err full)
        → full ≢ TooDeep
    not_deep reference accepted full answer e =
        let few = few_above (NodeAt hand.tree.now hand.seat.now) old b stands within a reference c
        accepted in
        let entry : NodeEntry = record { attr = a.number; value = hand.value.now } in
        not-too-deep hand new grows seat (parent_in old c a) entry few.0 few.1 few.2
        (subst (λ (f : TreeFull). IsAnswer (plan_of hand.tree.now) (parent_number (parent_in old c a))
        entry (view hand.seat.now) (view new.seat.now) (Err f)) e answer)

    tells : reply_to old c a ≡ reply.Done → after ≡ old → (t : Bool) → a.as_value ≡ t
        → Refuses (λ (h i : Hand) (parent : Option NodeId) (attribute : ℕ) (u : Unit {0}).
        RefusesChild h i parent attribute) (λ (h : Hand) (u : Unit {0}). IsPlain h.value.now)
        hand new old c a tt t
        → TellsWhy hand.tree.now hand.seat.now new.seat.now old after c a hand.value.now new.full
    tells accepted same true e refused = absurd (refused (plain e))
    tells accepted same false e refused =
        subst (TellsWhy hand.tree.now hand.seat.now new.seat.now old after c a hand.value.now)
        (sym refused.told) (record {
          accepted = accepted;
          reference = e;
          not_deep = not_deep e accepted refused.full refused.answer;
          child = refused.answer;
          board = same;
        })

    -- no answer comes only of a full tree
    pub tells_why : {A E : Type 0} (result : Result A E)
        → OnErr result (reply_to old c a ≡ reply.Done) → OnErr result (after ≡ old)
        → OnErr result (IsRefused (λ (h i : Hand) (parent : Option NodeId) (attribute : ℕ)
        (u : Unit {0}). RefusesChild h i parent attribute)
        (λ (h : Hand) (u : Unit {0}). IsPlain h.value.now) hand new old c a tt)
        → OnErr result (TellsWhy hand.tree.now hand.seat.now new.seat.now old after c a
        hand.value.now new.full)
    tells_why (Ok x) accepted same refused = tt
    tells_why (Err e) accepted same refused = tells accepted same a.as_value refl refused

-- the board stands for some board still, whatever the answer
pub holds_still : {E : Type 0} (hand new : Hand) (grows : GrowsHand hand new)
    (old after : Blackboard NodeId) (c : codes.OpCode) (a : AttrRef)
    (result : Result replies.BoardReply E)
    → ((b : Blackboard Variant) × Stands (NodeAt hand.tree.now hand.seat.now) old b)
    → IfOk result (Steps (NodeAt hand.tree.now hand.seat.now) (NodeAt new.tree.now new.seat.now)
    old after c a hand.value.now)
    → OnErr result (after ≡ old)
    → ((b : Blackboard Variant) × Stands (NodeAt hand.tree.now new.seat.now) after b)
holds_still hand new grows old after c a (Ok r) stands s same =
    let seen = steps_seen hand new grows old after c a r s in
    (board_after stands.0 c a hand.value.now hand.value.now, seen.stands stands.0 stands.1)
holds_still hand new grows old after c a (Err e) stands s same = (
  stands.0,
  subst (λ (h : Blackboard NodeId). Stands (NodeAt hand.tree.now new.seat.now) h stands.0)
      (sym same)
      (Stands-grows (NodeAt hand.tree.now hand.seat.now) (NodeAt hand.tree.now new.seat.now)
      (λ (n : NodeId) (path : List (Opened Variant))
      (is : IsNodeFor (slots_of hand.tree.now) (view hand.seat.now) n path).
      subst (λ (t : Tree). IsNodeFor (slots_of t) (view new.seat.now) n path) grows.tree
      (node-stays hand new n path grows is)) old stands.0 stands.1),
)

-- the table's answer is none of a full tree
pub replies_by_table : (tree : Tree) (was is : RowSeat NodeSort) (old new : Blackboard NodeId)
    (c : codes.OpCode) (a : AttrRef) (v : Variant) (r : replies.BoardReply)
    → ByTable tree was is old new c a v r → Replies tree was is old new c a v r
replies_by_table tree was is old new c a v reply.Done t = t
replies_by_table tree was is old new c a v (reply.Mismatch top) t = t
replies_by_table tree was is old new c a v reply.NotOpen t = t
replies_by_table tree was is old new c a v (reply.TreeFull full) t = absurd t.does
replies_by_table tree was is old new c a v reply.TooDeep t = t
replies_by_table tree was is old new c a v reply.SlotsFull t = t
