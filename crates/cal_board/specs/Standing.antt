-- Which blackboard of values a board of nodes stands for.
use Rattle.std.specs.Prelude.{◌≡◌, ℕ, ◌+◌, ◌-◌, ◌<◌, List, [], length, map, take, flat_map}
use Rattle.std.specs.Prelude.{slice_get, slice_index_or, Option, Some, None}
use Rattle.std.specs.Prelude.{option_map, option_to_list}
use Rattle.std.specs.List.{AllZip}
use Rattle.cal_board.specs.Blackboard.{Blackboard, board_after, reply_to}
use Rattle.cal_board.specs.Slots.{last_value}
use Rattle.cal_board.specs.declared.attr.AttrRef.{AttrRef}
use Rattle.cal_board.specs.declared.opened.Opened.{Opened}
use Rattle.cal_board.specs.declared.opened.Slot.{Slot}
use Rattle.cal_board.specs.declared.reply.BoardReply.{BoardReply}
use Rattle.cal_context.specs.declared.snapshot.Immediate.{Immediate}
use Rattle.cal_value.specs.declared.variant.Variant.{Variant}
use Rattle.cal_words.specs.declared.op.OpCode.{OpCode}

module _ {N : Type 0} (is_node : N → List (Opened Variant) → Type 0) where
  -- the node below which these values are opened next; no value is opened below no node
  abbrev pub IsParent : Option N → List (Opened Variant) → Type 0
  IsParent None path = path ≡ []
  IsParent (Some n) path = is_node n path

  -- the nodes of a slot, under the attributes of its open values, each for the values up to its own
  pub record OpenedStand (held : List (Opened N)) (opened : List (Opened Variant)) : Type 0 where
    pub attributes : map (λ (o : Opened N). o.attribute) held
        ≡ map (λ (o : Opened Variant). o.attribute) opened
    pub nodes : (i : ℕ) (d : Opened N) → i < length held
        → is_node (slice_index_or held i d).value (take (i + 1) opened)

  pub record SlotStands (held : Slot N) (slot : Slot Variant) : Type 0 where
    pub number : held.number ≡ slot.number
    pub opened : OpenedStand held.opened slot.opened

  -- The same slots are there, and each node stands for the values up to its own; an as-value slot
  -- holds its values themselves.
  pub record Stands (held : Blackboard N) (b : Blackboard Variant) : Type 0 where
    pub references : AllZip SlotStands held.references b.references
    pub as_values : held.as_values ≡ b.as_values

-- a board of nodes stands for some board of values
abbrev pub StandsForSome : {N : Type 0} → (N → List (Opened Variant) → Type 0) → Blackboard N
    → Type 0
StandsForSome is_node held = (b : Blackboard Variant) × Stands is_node held b

-- what the board stood for before, changed so, it stands for now
abbrev pub StandsThen : {N : Type 0} → (was_node is_node : N → List (Opened Variant) → Type 0)
    → (old new : Blackboard N) → (Blackboard Variant → Blackboard Variant) → Type 0
StandsThen was_node is_node old new change =
    (b : Blackboard Variant) → Stands was_node old b → Stands is_node new (change b)

-- What a line does to a board of nodes: it replies as the table says, and what the board stood for
-- before, changed by the table, it stands for now.
pub record Steps {N : Type 0} (was_node is_node : N → List (Opened Variant) → Type 0)
    (old new : Blackboard N) (code : OpCode) (a : AttrRef) (v : Variant) (reply : BoardReply)
    : Type 0 where
  pub replies : reply ≡ reply_to old code a
  pub stands : StandsThen was_node is_node old new (λ b. board_after b code a v v)

-- the last node of each reference slot, in the order of the slots
abbrev pub last_nodes : {N : Type 0} → Blackboard N → List N
last_nodes {N} b = flat_map (λ (s : Slot N). option_to_list (last_value s.opened)) b.references

-- an open value as an immediate of a snapshot, under the number of its attribute
abbrev pub immediate_of : Opened Variant → Immediate
immediate_of o = record { attribute = record { 0 = o.attribute }; value = o.value }

-- the last value of each as-value slot, in the order of the slots
abbrev pub last_immediates : {N : Type 0} → Blackboard N → List Immediate
last_immediates b = flat_map (λ (s : Slot Variant).
    option_to_list (option_map immediate_of (slice_get s.opened (length s.opened - 1)))) b.as_values
