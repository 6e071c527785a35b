-- What a line asks of whoever makes nodes for a board: one node at most, which it puts into a slot.
use Rattle.std.specs.Prelude.{◌≡◌, ℕ, Bool, true, false, Option, None, if◌then◌else◌}
use Rattle.cal_board.specs.Blackboard.{Blackboard, changed, is_top, slot_number, top_at}
use Rattle.cal_board.specs.Slots.{front, last_value, opened_in}
use Rattle.cal_board.specs.declared.attr.AttrRef.{AttrRef}
use Rattle.cal_board.specs.declared.reply.BoardReply as replies
use Rattle.cal_board.specs.declared.reply.BoardReply.TheVariants as reply
use Rattle.cal_value.specs.declared.variant.Variant.{Variant}
use Rattle.cal_words.specs.declared.op.OpCode as codes
use Rattle.cal_words.specs.declared.op.OpCode.TheVariants as code

-- The node below which a line opens its value: that of the slot's last value, or of the one before
-- it where the last is replaced.
abbrev pub parent_in : {N : Type 0} → Blackboard N → codes.OpCode → AttrRef → Option N
parent_in b code.Begin a = last_value (opened_in (slot_number a) b.references)
parent_in b code.End a = None
parent_in b code.Set a = if is_top (top_at b a) a.number
    then last_value (front (opened_in (slot_number a) b.references))
    else last_value (opened_in (slot_number a) b.references)

module _ {M N : Type 0} (adds : M → M → N → Type 0) (was is : M) (old new : Blackboard N) where
  -- a node stands for the value, and is all that the maker has more
  pub record PutsNode (c : codes.OpCode) (a : AttrRef) (v : Variant) : Type 0 where
    pub node : N
    pub after : new ≡ changed old c a node v
    pub added : adds was is node

  -- the value stands for itself, and the maker is as it was
  pub record PutsValue (c : codes.OpCode) (a : AttrRef) (v : Variant) : Type 0 where
    pub after : (n : N) → new ≡ changed old c a n v
    pub same : is ≡ was

  -- what an accepted line puts into a slot, by whether the attribute is as value
  abbrev pub Puts : codes.OpCode → AttrRef → Variant → Bool → Type 0
  Puts c a v true = PutsValue c a v
  Puts c a v false = PutsNode c a v

  -- a refused line changes nothing
  pub record LeavesAll : Type 0 where
    pub board : new ≡ old
    pub maker : is ≡ was

  -- What a line does, by its reply. Only a board over the shared tree says that it is full.
  abbrev pub Does : codes.OpCode → AttrRef → Variant → replies.BoardReply → Type 0
  Does c a v reply.Done = Puts c a v a.as_value
  Does c a v (reply.Mismatch top) = LeavesAll
  Does c a v reply.NotOpen = LeavesAll
  Does c a v (reply.TreeFull full) = ⊥
  Does c a v reply.TooDeep = LeavesAll
  Does c a v reply.SlotsFull = LeavesAll

-- Why there is no memory where the board has room: the maker refused the node, or a copy of a value
-- that isn't plain.
module _ {M N V : Type 0} (refuses : M → M → Option N → ℕ → V → Type 0)
    (is_plain : M → V → Type 0) (was is : M) (b : Blackboard N) (c : codes.OpCode) where
  abbrev pub Refuses : AttrRef → V → Bool → Type 0
  Refuses a value true = ¬ is_plain was value
  Refuses a value false = refuses was is (parent_in b c a) a.number value

  abbrev pub IsRefused : AttrRef → V → Type 0
  IsRefused a value = Refuses a value a.as_value
