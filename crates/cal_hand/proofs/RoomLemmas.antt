-- A hand at a tree that has room for its value's node is never refused.
use Rattle.std.proofs.Common.{◌≡◌, ℕ, ◌+◌, ◌<◌, List, length, map, ap, refl, subst, arith}
use Rattle.std.specs.Prelude.{Bool, Err, IfOk, Ok, Option, Result, false, true}
use Rattle.std.proofs.lemmas.List.{length-map}
use Rattle.cal_board.specs.Asking.{Does, LeavesAll, Puts}
use Rattle.cal_board.specs.Blackboard.{Blackboard, most_values}
use Rattle.cal_board.specs.Standing.{IsParent}
use Rattle.cal_board.specs.declared.attr.AttrRef.{AttrRef}
use Rattle.cal_board.specs.declared.opened.Opened.{Opened}
use Rattle.cal_board.specs.declared.reply.BoardReply as replies
use Rattle.cal_board.specs.declared.reply.BoardReply.TheVariants as reply
use Rattle.cal_hand.proofs.HandLemmas.{parent_path}
use Rattle.cal_hand.specs.Hands.{AddsByHand, GrowsHand, RefusesChild}
use Rattle.cal_hand.specs.Nodes.{IsNodeFor, node_entry, parent_number}
use Rattle.cal_hand.specs.Rooms.{HasNodeRoom}
use Rattle.cal_hand.specs.declared.hand.Hand.{Hand}
use Rattle.cal_hand.specs.declared.roomy.RoomyHand.{RoomyHand}
use Rattle.cal_once.proofs.Seen.{was_seen_from}
use Rattle.cal_once.specs.Seats.{view}
use Rattle.cal_tree.proofs.Nodes.{depth_of_path}
use Rattle.cal_tree.proofs.Ways.{leads_later}
use Rattle.cal_tree.specs.Children.{IsAnswer}
use Rattle.cal_tree.specs.Paths.{HasPath, NodeEntry}
use Rattle.cal_tree.specs.Seats.{IsTreeSeat, plan_of, slots_of}
use Rattle.cal_tree.specs.declared.tree.Tree.{Tree}
use Rattle.cal_value.specs.declared.variant.Variant.{Variant}
use Rattle.cal_words.specs.Words.{node_length, node_words}
use Rattle.cal_words.specs.declared.full.TreeFull.{TreeFull}
use Rattle.cal_words.specs.declared.full.TreeFull.TheVariants as full
use Rattle.cal_words.specs.declared.node.NodeId.{NodeId}
use Rattle.cal_words.specs.declared.op.OpCode.{OpCode}

module _ (hand new : Hand) (grows : GrowsHand hand new)
    (seat : IsTreeSeat hand.tree.now hand.seat.now) (parent : Option NodeId) (entry : NodeEntry)
    (path : List (Opened Variant))
    (is : IsParent (IsNodeFor (slots_of hand.tree.now) (view hand.seat.now)) parent path)
    (few : length path < most_values) where
  sat : IsTreeSeat hand.tree.now new.seat.now
  sat = subst (λ (t : Tree). IsTreeSeat t new.seat.now) grows.tree (grows.seat seat)

  abbrev Refused : TreeFull → Type 0
  Refused refusal = IsAnswer (plan_of hand.tree.now) (parent_number parent) entry
      (view hand.seat.now) (view new.seat.now) (Err refusal)

  -- the parent of few values isn't too deep
  pub not-too-deep : Refused full.TooDeep → ⊥
  not-too-deep answer =
      let slots = slots_of hand.tree.now in
      let v = view hand.seat.now in
      let w = view new.seat.now in
      let way : HasPath slots w (map node_entry path) (parent_number parent) =
      leads_later slots v w 0 0 (map node_entry path) (parent_number parent) grows.later.3
      (parent_path slots v parent path is) in
      let long = depth_of_path (plan_of hand.tree.now) w sat.sound (map node_entry path)
      (parent_number parent) answer.depth answer.is_depth way in
      let most = answer.gives.0 in
      omega (arith, long, most, few, length-map path node_entry)

  module _ (room : HasNodeRoom hand.tree.now hand.seat.now entry.value) where
    pub never-refused : (refusal : TreeFull) → Refused refusal → ⊥
    never-refused full.TooDeep answer = not-too-deep answer
    never-refused full.RowsFull answer = room.slots new.seat.now sat (λ place less.
        let k = answer.gives.1.0 place less in
        was_seen_from (view new.seat.now).seen (place + 1) k.slot k.known)
    never-refused (full.ArenaFull used need) answer =
        let lacks = answer.gives.1 in
        let long : length (node_words (parent_number parent) (answer.depth + 1) entry.attr
        entry.value) ≡ node_length entry.value = refl in
        let words = room.words in
        omega (arith, lacks.used_is, lacks.need_is, lacks.too_long, long, words)

-- what a hand with room does to a board, its hand does
module _ (old new : RoomyHand) (was is : Blackboard NodeId) (c : OpCode) (a : AttrRef)
    (value : Variant) where
  abbrev AddsWithRoom : RoomyHand → RoomyHand → NodeId → Type 0
  AddsWithRoom r s n = AddsByHand r.hand s.hand n

  leaves : LeavesAll AddsWithRoom old new was is → LeavesAll AddsByHand old.hand new.hand was is
  leaves l = record { board = l.board; maker = ap (λ (r : RoomyHand). r.hand) l.maker }

  puts : (t : Bool) → Puts AddsWithRoom old new was is c a value t
      → Puts AddsByHand old.hand new.hand was is c a value t
  puts true p = record { after = p.after; same = ap (λ (r : RoomyHand). r.hand) p.same }
  puts false p = record { node = p.node; after = p.after; added = p.added }

  pub does : (r : replies.BoardReply) → Does AddsWithRoom old new was is c a value r
      → Does AddsByHand old.hand new.hand was is c a value r
  does reply.Done d = puts a.as_value d
  does (reply.Mismatch top) d = leaves d
  does reply.NotOpen d = leaves d
  does (reply.TreeFull refusal) d = d
  does reply.TooDeep d = leaves d
  does reply.SlotsFull d = leaves d

  pub does-if : {E : Type 0} (result : Result replies.BoardReply E)
      → IfOk result (Does AddsWithRoom old new was is c a value)
      → IfOk result (Does AddsByHand old.hand new.hand was is c a value)
  does-if (Ok r) d = does r d
  does-if (Err e) d = tt
