-- What the snapshots of a run are made of.
use Rattle.std.specs.Prelude.{◌≡◌, ◌≢◌, ℕ, ◌<◌, ◌≤◌, ◌^◌, Bool, true, List, [], length, ◌⊎◌, filter}
use Rattle.std.specs.Prelude.{All, Contains, IfSome}
use Rattle.cal_board.specs.Blackboard.{slot_number}
use Rattle.cal_run.specs.Lines.{attr_ref, attribute_of}
use Rattle.cal_run.specs.Snapshots.{duration, event_of, inclusive_duration, probe_of}
use Rattle.cal_script.specs.Valid.{IsSaid}
use Rattle.cal_script.specs.declared.journal.Journal.{Journal}
use Rattle.cal_script.specs.declared.journal.LineNote.{LineNote}
use Rattle.cal_script.specs.declared.journal.ThreadNote.{ThreadNote}
use Rattle.cal_script.specs.declared.script.ProbeKind.{ProbeKind}
use Rattle.cal_script.specs.declared.script.Script.{Script}
use Rattle.cal_value.specs.Flat.{joined}
use Rattle.cal_value.specs.Props.{is_reference}
use Rattle.cal_value.specs.declared.attribute.Attribute.{Attribute}
use Rattle.cal_value.specs.declared.attribute.Entry.{Entry}
use Rattle.cal_value.specs.declared.record.Rec.{Rec}
use Rattle.cal_value.specs.declared.variant.Variant.{Variant}
use Rattle.cal_words.specs.declared.op.OpCode.{OpCode}

-- an attribute that services add
abbrev pub IsOfService : Attribute → Type 0
IsOfService a = (a ≡ duration) ⊎ ((a ≡ inclusive_duration) ⊎ ((p : ProbeKind) × (a ≡ probe_of p)))

module _ (script : Script) where
  -- an attribute that the script declares
  abbrev pub IsDeclared : Attribute → Type 0
  IsDeclared a = Contains script.attributes a

  -- one of the events of such an attribute
  pub record IsOfEvent (a : Attribute) : Type 0 where
    pub code : OpCode
    pub of : Attribute
    pub declared : IsDeclared of
    pub is : a ≡ event_of code of

  -- an attribute that an immediate may have
  abbrev pub IsShown : Attribute → Type 0
  IsShown a = IsDeclared a ⊎ (IsOfEvent a ⊎ IsOfService a)

  -- An entry of a path: its attribute is declared and a reference attribute, and a line may say its
  -- value.
  pub record IsPathEntry (e : Entry) : Type 0 where
    pub declared : IsDeclared e.attr
    pub reference : is_reference e.attr.props ≡ true
    pub said : IsSaid e.attr e.value

  -- An immediate: its value is as good as one that a line may say.
  pub record IsImmediate (e : Entry) : Type 0 where
    pub shown : IsShown e.attr
    pub said : IsSaid e.attr e.value

  -- A path has 1 to 128 entries.
  pub record IsSlotPath (path : List Entry) : Type 0 where
    pub some : path ≢ []
    pub short : length path ≤ 128
    pub entries : All IsPathEntry path

  -- a test of entries that only those of one slot pass
  abbrev pub IsOfSlot : (Entry → Bool) → ℕ → Type 0
  IsOfSlot test slot = (a : ℕ) (v : Variant) → a < length script.attributes
      → is_reference (attribute_of script a).props ≡ true
      → test (record { attr = attribute_of script a; value = v }) ≡ true
      → slot_number (attr_ref script a) ≡ slot

  -- The record of a snapshot. Of one slot there are two paths at most: the thread's and the
  -- process's.
  pub record IsSnapshot (r : Rec) : Type 0 where
    pub paths : All IsSlotPath r.paths
    pub imms : All IsImmediate r.imms
    pub few : (test : Entry → Bool) (slot : ℕ) → IsOfSlot test slot
        → length (filter test (joined r.paths)) ≤ 256

-- the readings of a journal's lines have 64 bits, as its type says
abbrev pub HasReadings : Journal → Type 0
HasReadings journal = All (λ (t : ThreadNote). All (λ (n : LineNote).
    IfSome n.reading (λ reading. reading < 2 ^ 64)) t.lines) journal.threads
