-- What `begin`, `end` and `set` do to a blackboard. Boards come from Caliper's data model; that
-- every slot is a stack, the rule of `set`, the replies and the limits are Giltmoth's.
use Rattle.std.specs.Prelude.{ℕ, ◌+◌, List, [], ◌∷◌, ◌++◌, length, Bool, true, false, ◌&&◌, ◌==◌}
use Rattle.std.specs.Prelude.{if◌then◌else◌, nat_le, nat_lt, Option, Some, None, All, filter, map}
use Rattle.std.specs.Prelude.{◌≤◌}
use Rattle.cal_board.specs.Slots.{front, last_attribute, opened_in, with_slot}
use Rattle.cal_board.specs.declared.attr.AttrRef.{AttrRef}
use Rattle.cal_board.specs.declared.opened.Opened.{Opened}
use Rattle.cal_board.specs.declared.opened.Slot.{Slot}
use Rattle.cal_board.specs.declared.reply.BoardReply as replies
use Rattle.cal_board.specs.declared.reply.BoardReply.TheVariants as reply
use Rattle.cal_value.specs.declared.variant.Variant.{Variant}
use Rattle.cal_words.specs.declared.op.OpCode as codes
use Rattle.cal_words.specs.declared.op.OpCode.TheVariants as code

-- A blackboard: the slots that hold values, in the order of their numbers, those of reference
-- attributes and those of as-value attributes. V is what stands for an open reference value: the
-- value itself, or a node.
pub record Blackboard (V : Type 0) : Type 0 where
  pub references : List (Slot V)
  pub as_values : List (Slot Variant)

-- the number of an attribute's slot: all nested attributes share the first
abbrev pub slot_number : AttrRef → ℕ
slot_number a = if a.nested then 0 else a.number + 1

-- the most values that one slot holds
abbrev pub most_values : ℕ
most_values = 128

-- whether a slot is left for a first value, and whether the slot has room for one more
abbrev pub room_reply : (slots depth : ℕ) → replies.BoardReply
room_reply slots depth = if depth == 0 && nat_le 64 slots then reply.SlotsFull
    else (if nat_le 128 depth then reply.TooDeep else reply.Done)

-- whether the last value has this attribute
abbrev pub end_reply : Option ℕ → ℕ → replies.BoardReply
end_reply None n = reply.NotOpen
end_reply (Some top) n = if top == n then reply.Done else reply.Mismatch top

abbrev pub is_top : Option ℕ → ℕ → Bool
is_top None n = false
is_top (Some top) n = top == n

-- a reply by the table of boards, which doesn't know of trees
abbrev pub IsTableReply : replies.BoardReply → Type 0
IsTableReply (reply.TreeFull full) = ⊥
IsTableReply _ = Unit {0}

module _ {V : Type 0} where
  -- no value is open
  abbrev pub nothing_open : Blackboard V
  nothing_open = record { references = []; as_values = [] }

  -- how many values are open in an attribute's slot
  abbrev pub depth_at : Blackboard V → AttrRef → ℕ
  depth_at b a = if a.as_value then length (opened_in (slot_number a) b.as_values)
      else length (opened_in (slot_number a) b.references)

  -- the attribute of the last value there
  abbrev pub top_at : Blackboard V → AttrRef → Option ℕ
  top_at b a = if a.as_value then last_attribute (opened_in (slot_number a) b.as_values)
      else last_attribute (opened_in (slot_number a) b.references)

  abbrev pub begin_reply : Blackboard V → AttrRef → replies.BoardReply
  begin_reply b a = room_reply (length b.references + length b.as_values) (depth_at b a)

  -- What a board replies. `set` is like `begin` unless the slot's last value has the attribute.
  abbrev pub reply_to : Blackboard V → codes.OpCode → AttrRef → replies.BoardReply
  reply_to b code.Begin a = begin_reply b a
  reply_to b code.End a = end_reply (top_at b a) a.number
  reply_to b code.Set a = if is_top (top_at b a) a.number then reply.Done else begin_reply b a

  -- The board with another list of values in an attribute's slot.
  abbrev pub with_values : Blackboard V → AttrRef → (List (Opened V) → List (Opened V))
      → (List (Opened Variant) → List (Opened Variant)) → Blackboard V
  with_values b a f g = if a.as_value
      then record {
        references = b.references;
        as_values = with_slot (slot_number a) (g (opened_in (slot_number a) b.as_values))
            b.as_values;
      }
      else record {
        references = with_slot (slot_number a) (f (opened_in (slot_number a) b.references))
            b.references;
        as_values = b.as_values;
      }

-- how many values stand in each slot of an attribute that isn't nested
abbrev pub own_depths : {A : Type 0} → List (Slot A) → List ℕ
own_depths {A} slots = map (λ (s : Slot A). length s.opened)
    (filter (λ (s : Slot A). nat_lt 0 s.number) slots)

module _ {V : Type 0} where
  -- How many values stand in the slot of the nested attributes, then in each other slot that holds
  -- values: those of reference attributes first.
  abbrev pub depths : Blackboard V → List ℕ
  depths b = length (opened_in 0 b.references) ∷ own_depths b.references ++ own_depths b.as_values

  -- no board has more slots or values than lines may open
  pub record IsWithin (b : Blackboard V) : Type 0 where
    pub slots : length b.references + length b.as_values ≤ 64
    pub references : All (λ (s : Slot V). length s.opened ≤ 128) b.references
    pub as_values : All (λ (s : Slot Variant). length s.opened ≤ 128) b.as_values

-- a value opened behind others, and a value in the place of the last one
abbrev pub opened_more : {A : Type 0} → ℕ → A → List (Opened A) → List (Opened A)
opened_more n v os = os ++ record { attribute = n; value = v } ∷ []

abbrev pub opened_instead : {A : Type 0} → ℕ → A → List (Opened A) → List (Opened A)
opened_instead n v os = front os ++ record { attribute = n; value = v } ∷ []

module _ {V : Type 0} where
  -- What an accepted line does; r stands for the value in a reference slot, v is the value.
  abbrev pub begun : Blackboard V → AttrRef → V → Variant → Blackboard V
  begun b a r v = with_values b a (opened_more a.number r) (opened_more a.number v)

  abbrev pub changed : Blackboard V → codes.OpCode → AttrRef → V → Variant → Blackboard V
  changed b code.Begin a r v = begun b a r v
  changed b code.End a r v = with_values b a front front
  changed b code.Set a r v = if is_top (top_at b a) a.number
      then with_values b a (opened_instead a.number r) (opened_instead a.number v)
      else begun b a r v

  abbrev pub if_done : replies.BoardReply → Blackboard V → Blackboard V → Blackboard V
  if_done reply.Done new old = new
  if_done (reply.Mismatch top) new old = old
  if_done reply.NotOpen new old = old
  if_done (reply.TreeFull full) new old = old
  if_done reply.TooDeep new old = old
  if_done reply.SlotsFull new old = old

  -- The board after a line. A refused line leaves it.
  abbrev pub board_after : Blackboard V → codes.OpCode → AttrRef → V → Variant → Blackboard V
  board_after b c a r v = if_done (reply_to b c a) (changed b c a r v) b

  -- the same of an `end`, which takes no value
  abbrev pub ended : Blackboard V → AttrRef → Blackboard V
  ended b a = if_done (reply_to b code.End a) (with_values b a front front) b
