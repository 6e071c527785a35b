-- A script, and a journal behind it or none.
use Rattle.std.specs.Prelude.{◌≡◌, ◌≢◌, ◌&&◌, true, nat_eq, ℕ, ◌+◌, ◌-◌, ◌≤◌, Bool, List, [], ◌∷◌}
use Rattle.std.specs.Prelude.{length, Option, Some, None, Result, Ok, codes, take, drop}
use Rattle.std.specs.Prelude.{◌==◌}
use Rattle.std.specs.List.{position_or_len, starts_with}
use Rattle.cal_line.specs.FirstFault.{after_lines, IsFirstFault}
use Rattle.cal_script.specs.declared.kind.ScriptKind.{ScriptKind}
use Rattle.cal_script.specs.declared.script.Script.{Script}
use Rattle.cal_script.specs.declared.journal.JournalText.{JournalText}
use Rattle.cal_script.specs.Lines.{lines_of}
use Rattle.cal_script.specs.Reading as scripts
use Rattle.cal_script.specs.State as states
use Rattle.cal_journal.specs.declared.kind.JournalKind.{JournalKind}
use Rattle.cal_journal.specs.declared.kind.JournalKind.TheVariants.{Cut}
use Rattle.cal_journal.specs.declared.ends.BothEnd as ends
use Rattle.cal_journal.specs.declared.ends.BothEnd.TheVariants as end
use Rattle.cal_journal.specs.declared.kind.JournalKind.TheVariants as kinds
use Rattle.cal_journal.specs.declared.ends.LineFault as faults
use Rattle.cal_journal.specs.declared.ends.LineFault.TheVariants as fault
use Rattle.cal_journal.specs.Reading.{State, begin_at, journal_of, line_after}

-- A line whose first word is `journal`: these letters, and then a space or the line's end.
abbrev pub ends_word : List ℕ → Bool
ends_word [] = true
ends_word (byte ∷ bytes) = byte == 32

abbrev pub begins : List ℕ → Bool
begins line = starts_with nat_eq line (codes "journal") && ends_word (drop 7 line)

-- how many lines stand before the first of these, which begins the journal
abbrev pub script_length : List (List ℕ) → ℕ
script_length lines = position_or_len begins lines

abbrev pub script_lines : List (List ℕ) → List (List ℕ)
script_lines lines = take (script_length lines) lines

abbrev pub journal_lines : List (List ℕ) → List (List ℕ)
journal_lines lines = drop (script_length lines) lines

-- what the lines of the script say
abbrev pub script_said : List (List ℕ) → Result states.State ScriptKind
script_said lines = after_lines scripts.line_after states.no_lines (script_lines lines)

-- The lines say the script.
abbrev pub SaysScript : List (List ℕ) → Script → Type 0
SaysScript lines script =
    (state : states.State) × (script_said lines ≡ Ok state) × (script ≡ states.script_of state)

-- The lines behind so many of the input say this journal, or there are none.
abbrev pub SaysJournalBehind : ℕ → List (List ℕ) → Option JournalText → Type 0
SaysJournalBehind before lines None = lines ≡ []
SaysJournalBehind before lines (Some text) =
    (state : State) × (line : ℕ) × (after_lines line_after (begin_at before) lines ≡ Ok state)
    × (state.end ≡ Some line) × (text ≡ journal_of state line)

abbrev pub SaysJournal : List (List ℕ) → Option JournalText → Type 0
SaysJournal lines text = SaysJournalBehind (script_length lines) (journal_lines lines) text

-- The bytes mean the script and the journal, if there is one.
pub record MeansBoth (bytes : List ℕ) (both : Script × Option JournalText) : Type 0 where
  pub script : SaysScript (lines_of bytes) both.0
  pub journal : SaysJournal (lines_of bytes) both.1

-- A line of the script has a first fault.
abbrev pub HasScriptFault : List (List ℕ) → ℕ → ScriptKind → Type 0
HasScriptFault lines line kind =
    IsFirstFault scripts.line_after states.no_lines (script_lines lines) line kind

-- the script stands
abbrev pub StandsScript : List (List ℕ) → Type 0
StandsScript lines = (state : states.State) × (script_said lines ≡ Ok state)

-- The lines of a journal, behind so many of the input, have a first fault, or they begin and don't
-- end.
abbrev pub HasFaultBehind : ℕ → List (List ℕ) → ℕ → JournalKind → Type 0
HasFaultBehind before lines line Cut =
    (line ≡ before + length lines + 1)
    × (state : State) × (after_lines line_after (begin_at before) lines ≡ Ok state)
    × (state.end ≡ None) × (lines ≢ [])
HasFaultBehind before lines line kind =
    IsFirstFault line_after (begin_at before) lines (line - before) kind

abbrev pub HasJournalFault : List (List ℕ) → ℕ → JournalKind → Type 0
HasJournalFault lines line kind =
    HasFaultBehind (script_length lines) (journal_lines lines) line kind

-- What a refusal says of the bytes. A fault of the script goes before every fault of the journal.
abbrev pub IsRefusalOf : List ℕ → ends.BothEnd → Type 0
IsRefusalOf bytes (end.Script line kind) = HasScriptFault (lines_of bytes) line kind
IsRefusalOf bytes (end.Journal line kind) =
    StandsScript (lines_of bytes) × HasJournalFault (lines_of bytes) line kind
IsRefusalOf bytes end.OutOfMemory = Unit {0}

-- Where the script ends: its lines say it, and the rest has the others.
pub record IsFront (bytes : List ℕ) (script : Script) (line : ℕ) (rest : List ℕ) : Type 0 where
  pub place : script_length (lines_of bytes) ≡ line
  pub said : SaysScript (lines_of bytes) script
  pub left : journal_lines (lines_of bytes) ≡ lines_of rest
  pub room : line + length rest ≤ length bytes

-- What a refusal of a journal says of its lines.
abbrev pub IsJournalRefusal : ℕ → List (List ℕ) → ends.BothEnd → Type 0
IsJournalRefusal before lines (end.Script line kind) = ⊥
IsJournalRefusal before lines (end.Journal line kind) = HasFaultBehind before lines line kind
IsJournalRefusal before lines end.OutOfMemory = Unit {0}

-- the end at a line that has a fault
abbrev pub end_at : ℕ → faults.LineFault → ends.BothEnd
end_at line fault.Form = end.Journal line kinds.Form
end_at line fault.After = end.Journal line kinds.After
end_at line fault.OutOfMemory = end.OutOfMemory
