-- A run's tree has room for each node for which its seat has room.
use Rattle.std.proofs.Common.{◌≡◌, ℕ, zero, suc, ◌+◌, ◌<◌, ◌≤◌, ◌⊎◌, Bool, true, false}
use Rattle.std.proofs.Common.{if◌then◌else◌, List, length, refl, ap, subst, inl, inr}
use Rattle.std.proofs.Common.{⊎_elim, arith}
use Rattle.std.proofs.lemmas.Bool.{cases_lt}
use Rattle.cal_board.specs.declared.attr.AttrRef.{AttrRef}
use Rattle.cal_hand.specs.Changes.{words_at_most}
use Rattle.cal_hand.specs.Rooms.{HasNodeRoom, HasRoomToChange}
use Rattle.cal_hand.specs.declared.change.Change as changes
use Rattle.cal_hand.specs.declared.change.Change.TheVariants as change
use Rattle.cal_once.proofs.Seen.{seen_to_be}
use Rattle.cal_once.specs.Seats.{view}
use Rattle.cal_once.specs.Sound.{IsSound}
use Rattle.cal_once.specs.Views.{Knows, known_count, was_seen}
use Rattle.cal_once.specs.declared.seat.RowSeat.{RowSeat}
use Rattle.cal_once.specs.declared.view.View.{View}
use Rattle.cal_process.specs.declared.common.Common.{Common}
use Rattle.cal_process.proofs.Fours.{not-all-known}
use Rattle.cal_process.specs.Replicas.{IsCommon}
use Rattle.cal_process.specs.Rooms.{HasRoomFor}
use Rattle.cal_script.specs.Shapes.{tree_arena}
use Rattle.cal_tree.specs.Seats.{node_law, plan_of, slots_of}
use Rattle.cal_value.specs.declared.variant.Variant.{Variant}
use Rattle.cal_words.specs.declared.shape.Shape.{Shape}
use Rattle.cal_words.specs.declared.sort.NodeSort.{NodeSort}

-- ---- how many places a seat knows

abbrev KnowsFirst : View NodeSort → ℕ → Type 0
KnowsFirst v n = (place : ℕ) → place < n → Knows v place

-- fewer than the first n, or all of them
abbrev Count : View NodeSort → ℕ → Type 0
Count v n = (known_count v n < n) ⊎ ((known_count v n ≡ n) × KnowsFirst v n)

one-more : (v : View NodeSort) (n : ℕ) (b : Bool) → was_seen v.seen (n + 1) ≡ b → Count v n
    → (known_count v n + (if b then 1 else 0) < suc n)
    ⊎ ((known_count v n + (if b then 1 else 0) ≡ suc n) × KnowsFirst v (suc n))
one-more v n true is (inl few) = inl (omega (arith, few))
one-more v n false is (inl few) = inl (omega (arith, few))
one-more v n false is (inr all) = inl (omega (arith, all.0))
one-more v n true is (inr all) = inr (
  omega (arith, all.0),
  λ place less. ⊎_elim
      (λ (l : place < n). all.1 place l)
      (λ (l : n ≤ place).
      let same : n ≡ place = omega (arith, l, less) in subst (λ p. Knows v p) same is)
      (cases_lt place n),
)

count : (v : View NodeSort) (n : ℕ) → Count v n
count v zero = inr (refl, λ place less. absurd (omega (arith, less)))
count v (suc n) = one-more v n (was_seen v.seen (n + 1)) refl (count v n)

module _ (common : Common) (has : IsCommon common) where
  abbrev threads : ℕ
  threads = length common.script.now.threads

  abbrev words : ℕ
  words = tree_arena common.script.now

  -- a seat knows fewer nodes than there are slots
  pub known-fewer : (v : View NodeSort) → IsSound node_law (plan_of common.tree) v
      → known_count v (slots_of common.tree) < slots_of common.tree
  known-fewer v sound = ⊎_elim (λ few. few)
      (λ all. absurd (not-all-known (plan_of common.tree) v sound threads words has.shape_of_tree
      (λ place less. seen_to_be v.seen (place + 1) (all.1 place less))))
      (count v (slots_of common.tree))

  -- where a seat's arena has room for a value's node, the tree has
  pub node-room : (seat : RowSeat NodeSort) (value : Variant)
      → HasRoomFor common (view seat) value → HasNodeRoom common.tree seat value
  node-room seat value fits = record {
    words =
        let arena = ap (λ (s : Shape). s.arena) has.shape_of_tree in
        omega (arith, fits, arena);
    slots = λ other at all. not-all-known (plan_of common.tree) (view other) at.sound threads words
        has.shape_of_tree (λ place less. seen_to_be (view other).seen (place + 1) (all place less));
  }

  -- and has room for a change that makes such a node
  pub room-to-change : (seat : RowSeat NodeSort) (a : AttrRef) (did : changes.Change) (n : ℕ)
      → words_at_most did ≡ n
      → (a.as_value ≡ false → (view seat).used + n ≤ tree_arena common.script.now)
      → HasRoomToChange common.tree seat a did
  room-to-change seat a (change.Begin v) n is fits =
      λ reference. node-room seat v.now (let f = fits reference in omega (arith, f, is))
  room-to-change seat a change.End n is fits = tt
  room-to-change seat a (change.Set v) n is fits =
      λ reference. node-room seat v.now (let f = fits reference in omega (arith, f, is))
