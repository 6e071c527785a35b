-- What is added to the immediates of a snapshot by numbers.
use Rattle.std.specs.Prelude.{◌≡◌, ℕ, ◌<◌, List, ◌++◌, length, map, All, Option, Some, None}
use Rattle.std.specs.Prelude.{slice_get, true, false, if◌then◌else◌}
use Rattle.cal_context.specs.Tree.{no_value}
use Rattle.cal_context.specs.declared.snapshot.Immediate.{Immediate}
use Rattle.cal_board.specs.Blackboard.{Blackboard, slot_number}
use Rattle.cal_board.specs.PathBoards.{last_opened}
use Rattle.cal_board.specs.Slots.{last_value, opened_in}
use Rattle.cal_board.specs.declared.opened.Opened.{Opened}
use Rattle.cal_run.specs.Held.{Accepts, HasPlaces, Shows}
use Rattle.cal_run.specs.Numbers.{AreNamed, attribute_in}
use Rattle.cal_run.specs.Lines.{attr_ref, is_shared}
use Rattle.cal_run.specs.Snapshots.{Sight, is_end}
use Rattle.cal_run.specs.declared.moment.Moment.{Moment}
use Rattle.cal_run.specs.declared.numbers.Numbers.{Numbers}
use Rattle.cal_run.specs.declared.operation.Operation.{Operation}
use Rattle.cal_run.specs.declared.sink.EventValue as event_values
use Rattle.cal_run.specs.declared.sink.EventValue.TheVariants as event_value
use Rattle.cal_script.specs.declared.script.Script.{Script}
use Rattle.cal_value.specs.declared.attribute.Attribute.{Attribute}
use Rattle.cal_value.specs.declared.attribute.Entry.{Entry}
use Rattle.cal_value.specs.declared.variant.Variant.{Variant}

-- ---- what is added

-- the entry that an immediate means, by the attributes of its number
abbrev pub entry_by : List Attribute → Immediate → Entry
entry_by attributes i = record { attr = attribute_in attributes i.attribute; value = i.value }

-- the attribute of each immediate is one of these
abbrev pub AreWithin : List Attribute → List Immediate → Type 0
AreWithin attributes imms = All (λ (i : Immediate). i.attribute.0 < length attributes) imms

-- Immediates that mean these entries were added.
pub record AddsEntries (attributes : List Attribute) (old new : List Immediate) (more : List Entry)
    : Type 0 where
  pub within : AreWithin attributes old → AreWithin attributes new
  pub means : map (entry_by attributes) new ≡ map (entry_by attributes) old ++ more

-- the value that an event shows: one of a script's, by its place, or another one, or none, which is
-- shown as false
abbrev pub IsEventValue : List Variant → event_values.EventValue → Variant → Type 0
IsEventValue values (event_value.Opened place) v = slice_get values place ≡ Some v
IsEventValue values (event_value.Lent value) v = value.now ≡ v
IsEventValue values event_value.Absent v = no_value ≡ v

-- the last of open values, of which there are some, is shown
pub record IsLastShown (values : List Variant) (path : List (Opened Variant))
    (shown : event_values.EventValue) : Type 0 where
  pub last : Opened Variant
  pub is_last : last_opened path ≡ Some last
  pub value : IsEventValue values shown last.value

-- ---- what a moment shows

module _ {N : Type 0} (is_node : N → List (Opened Variant) → Type 0) (script : Script) where
  -- a moment shows something
  abbrev pub ShowsSome : Moment N → Type 0
  ShowsSome moment = (s : Sight) × Shows is_node script moment s

  -- Whatever the moment shows, the entries that are found in it were added, by whatever attributes
  -- the numbers are of.
  abbrev pub AddsShown : Numbers → Moment N → (old new : List Immediate) → (Sight → List Entry)
      → Type 0
  AddsShown numbers moment old new entries =
      (attributes : List Attribute) → AreNamed attributes script numbers
      → (s : Sight) → Shows is_node script moment s → AddsEntries attributes old new (entries s)

-- ---- what an operation asks for

-- the last node in the slot of an operation's attribute, if that is a reference attribute, may be
-- asked for
abbrev pub AsksForLast : {N : Type 0} → (N → Type 0) → Script → Blackboard N → Operation → Type 0
AsksForLast {N} is_asked script b op = (attr_ref script op.attr).as_value ≡ false
    → (n : N) → last_value (opened_in (slot_number (attr_ref script op.attr)) b.references) ≡ Some n
    → is_asked n

-- The node whose value an operation closes on a board, if it closes one, may be asked for.
abbrev pub AsksFor : {N : Type 0} → (N → Type 0) → Script → Blackboard N → Operation → Type 0
AsksFor is_asked script b op = is_end op.code ≡ true → AsksForLast is_asked script b op

-- the board of a moment on which an operation acts
abbrev pub board_in : {N : Type 0} → Script → Moment N → Operation → Blackboard N
board_in script moment op =
    if is_shared script op then moment.process.now else moment.board.now

-- of the operation, if there is one
abbrev pub MayAskFor : {N : Type 0} → (N → Type 0) → Script → Moment N → Option Operation → Type 0
MayAskFor is_asked script moment None = Unit {0}
MayAskFor is_asked script moment (Some op) =
    AsksFor is_asked script (board_in script moment op) op

-- ---- operations

-- the operation, if there is one, has its places
abbrev pub MayHavePlaces : Script → Option Operation → Type 0
MayHavePlaces script None = Unit {0}
MayHavePlaces script (Some op) = HasPlaces script op

-- a board accepts the operation, if there is one
abbrev pub MayAccept : {V : Type 0} → Script → Blackboard V → Option Operation → Type 0
MayAccept script b None = Unit {0}
MayAccept script b (Some op) = Accepts script b op
