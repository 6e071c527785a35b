-- A journal that is read line by line.
use Rattle.std.proofs.Common.{◌≡◌, ◌≢◌, ℕ, suc, ◌+◌, ◌-◌, ◌<◌, ◌≤◌, true, false, eqb, inl, inr, List, [], ◌∷◌, length, refl, sym, ap, subst, ◌∙◌, arith}
use Rattle.std.specs.Prelude.{Ok, Err, Option, Some, None}
use Rattle.std.specs.Option.{option_map}
use Rattle.std.proofs.lemmas.Bool.{cases_Bool}
use Rattle.std.specs.List.{onto_first}
use Rattle.cal_line.specs.FirstFault.{after_lines, IsFirstFault}
use Rattle.cal_script.specs.declared.kind.ScriptKind.{ScriptKind}
use Rattle.cal_script.specs.declared.reader.Reader.{Reader}
use Rattle.cal_script.specs.Lines.{lines_of}
use Rattle.cal_script.specs.Reader as readers
use Rattle.cal_script.specs.Reading as scripts
use Rattle.cal_script.specs.State as states
use Rattle.cal_script.specs.Limits.{fits}
use Rattle.cal_script.proofs.Runs as script_runs
use Rattle.cal_journal.specs.declared.kind.JournalKind.{JournalKind}
use Rattle.cal_journal.specs.declared.kind.JournalKind.TheVariants as kind
use Rattle.cal_journal.specs.declared.ends.LineFault as faults
use Rattle.cal_journal.specs.declared.ends.LineFault.TheVariants as fault
use Rattle.cal_journal.specs.declared.pending.Pending.{Pending}
use Rattle.cal_journal.specs.Pending.{Gives, state_of}
use Rattle.cal_script.specs.declared.journal.JournalText.{JournalText}
use Rattle.cal_script.specs.declared.script.Script.{Script}
use Rattle.cal_journal.specs.declared.ends.BothEnd as ends
use Rattle.cal_journal.specs.declared.ends.BothEnd.TheVariants as end
use Rattle.cal_journal.specs.Reading.{State, begin_at, journal_of, line_after}
use Rattle.cal_journal.specs.Both.{HasFaultBehind, HasScriptFault, IsFront, IsJournalRefusal, IsRefusalOf, MeansBoth, SaysJournalBehind, begins, end_at, script_length}
use Rattle.cal_journal.proofs.Lines.{IsPart, part_on, part_falls, part_ends, fault_in_front}

-- So many lines are read, and the rest has the others.
pub record IsJournalRun (before : ℕ) (bytes : List ℕ) (pending : Pending) (rest : List ℕ) : Type 0 where
  pub le : before ≤ pending.line
  pub part : IsPart line_after (begin_at before) (lines_of bytes) (pending.line - before) (state_of pending) rest
  pub room : pending.line + length rest ≤ before + length bytes

module _ (before : ℕ) (bytes : List ℕ) (pending : Pending) (rest : List ℕ) (run : IsJournalRun before bytes pending rest) where
  pub run_on : (first after : List ℕ) (now : Pending) → lines_of rest ≡ first ∷ lines_of after → length after < length rest → now.line ≡ pending.line + 1
      → line_after (state_of pending) first ≡ Ok (state_of now) → IsJournalRun before bytes now after
  run_on first after now cut shorter counted says =
      let le = run.le in
      let room = run.room in
      let more : now.line - before ≡ (pending.line - before) + 1 = omega arith in
      record {
        le = omega arith;
        part = rw more (part_on line_after (begin_at before) (lines_of bytes) (pending.line - before) (state_of pending) rest run.part first after (state_of now) cut says);
        room = omega arith;
      }

  fault_at : (first after : List ℕ) (line : ℕ) (kind : JournalKind) → lines_of rest ≡ first ∷ lines_of after → line ≡ pending.line + 1
      → line_after (state_of pending) first ≡ Err kind → IsFirstFault line_after (begin_at before) (lines_of bytes) (line - before) kind
  fault_at first after line kind cut counted falls =
      let le = run.le in
      let more : line - before ≡ (pending.line - before) + 1 = omega arith in
      rw more (part_falls line_after (begin_at before) (lines_of bytes) (pending.line - before) (state_of pending) rest run.part first after kind cut falls)

  pub fault_told : (first after : List ℕ) (now : Pending) (told : faults.LineFault) → lines_of rest ≡ first ∷ lines_of after → now.line ≡ pending.line + 1
      → Gives {X = Unit {0}} (λ _. state_of now) (Err told) (line_after (state_of pending) first) → IsJournalRefusal before (lines_of bytes) (end_at now.line told)
  fault_told first after now fault.Form cut counted falls = fault_at first after now.line kind.Form cut counted falls
  fault_told first after now fault.After cut counted falls = fault_at first after now.line kind.After cut counted falls
  fault_told first after now fault.OutOfMemory cut counted falls = tt

  pub run_said : length rest ≡ 0 → after_lines line_after (begin_at before) (lines_of bytes) ≡ Ok (state_of pending)
  run_said none = (part_ends line_after (begin_at before) (lines_of bytes) (pending.line - before) (state_of pending) rest run.part none).0

  pub run_cut : length rest ≡ 0 → pending.end ≡ None → lines_of bytes ≢ [] → HasFaultBehind before (lines_of bytes) (pending.line + 1) kind.Cut
  run_cut none unended some =
      let ends = part_ends line_after (begin_at before) (lines_of bytes) (pending.line - before) (state_of pending) rest run.part none in
      let count = ends.1 in
      let le = run.le in
      (omega arith, state_of pending, ends.0, unended, some)

-- ---- the script in front of it

-- So many lines are read, none of which begins a journal.
pub record IsFrontRun (bytes : List ℕ) (line : ℕ) (reader : Reader) (rest : List ℕ) : Type 0 where
  pub run : script_runs.IsRun bytes line reader rest
  pub place : script_length (lines_of bytes) ≡ line + script_length (lines_of rest)

pub script_length-cons : (line : List ℕ) (lines : List (List ℕ)) → begins line ≡ false → script_length (line ∷ lines) ≡ suc (script_length lines)
script_length-cons line lines is = rw is (omega arith)

module _ (bytes : List ℕ) (line : ℕ) (reader : Reader) (rest : List ℕ) (run : IsFrontRun bytes line reader rest) where
  longer : (first after : List ℕ) → lines_of rest ≡ first ∷ lines_of after → begins first ≡ false → script_length (lines_of bytes) ≡ (line + 1) + script_length (lines_of after)
  longer first after cut script =
      let more : script_length (lines_of rest) ≡ suc (script_length (lines_of after)) = ap script_length cut ∙ script_length-cons first (lines_of after) script in
      let place = run.place in
      omega arith

  pub front_on : (first after : List ℕ) (now : Reader) → lines_of rest ≡ first ∷ lines_of after → length after < length rest → begins first ≡ false
      → scripts.line_after (readers.state_of reader) first ≡ Ok (readers.state_of now) → readers.IsReading now → fits (readers.state_of now) ≡ true → IsFrontRun bytes (line + 1) now after
  front_on first after now cut shorter script says kept fine = record {
    run = script_runs.run_on bytes line reader rest run.run first after now cut shorter says kept fine;
    place = longer first after cut script;
  }

  pub front_falls : (first after : List ℕ) (kind : ScriptKind) → lines_of rest ≡ first ∷ lines_of after → begins first ≡ false
      → scripts.line_after (readers.state_of reader) first ≡ Err kind → HasScriptFault (lines_of bytes) (line + 1) kind
  front_falls first after kind cut script falls =
      let place = longer first after cut script in
      fault_in_front scripts.line_after states.no_lines (lines_of bytes) (line + 1) (script_length (lines_of bytes)) kind (omega arith)
      (script_runs.run_falls bytes line reader rest run.run first after kind cut falls)

  pub front_ends : script_length (lines_of rest) ≡ 0 → IsFront bytes (states.script_of (readers.state_of reader)) line rest
  front_ends none =
      let place : script_length (lines_of bytes) ≡ line = (let at = run.place in omega arith) in
      let room = run.run.counted in
      record {
        place = place;
        said = (readers.state_of reader, rw place run.run.said, refl);
        left = rw place run.run.left;
        room = room;
      }

-- ---- the end of a journal

some_end : (state : State) (end : Option ℕ) (text : JournalText) → Some text ≡ option_map (journal_of state) end → (line : ℕ) × (end ≡ Some line) × (text ≡ journal_of state line)
some_end state None text is = absurd cc
some_end state (Some line) text is = (line, refl, cc)

no_end : (state : State) (end : Option ℕ) → None ≡ option_map (journal_of state) end → end ≡ None
no_end state None is = refl
no_end state (Some line) is = absurd cc

onto_some : (byte : ℕ) (lines : List (List ℕ)) → onto_first byte lines ≡ [] → ⊥
onto_some byte [] none = cc
onto_some byte (line ∷ lines) none = cc

some_line : (byte : ℕ) (bytes : List ℕ) → lines_of (byte ∷ bytes) ≡ [] → ⊥
some_line byte bytes none =
    elim (cases_Bool (eqb byte 10)) [
      | inl newline ↦ (let some : [] ∷ lines_of bytes ≡ [] = rw newline at none in cc)
      | inr other ↦ (let some : onto_first byte (lines_of bytes) ≡ [] = rw other at none in onto_some byte (lines_of bytes) some)
    ]

-- bytes have lines
pub has_lines : (bytes : List ℕ) → (length bytes ≡ 0 → ⊥) → lines_of bytes ≢ []
has_lines [] some is = some refl
has_lines (byte ∷ bytes) some is = some_line byte bytes is

pub said_journal : (before : ℕ) (bytes : List ℕ) (pending : Pending) (rest : List ℕ) → IsJournalRun before bytes pending rest → (text : JournalText) → length rest ≡ 0
    → Some text ≡ option_map (journal_of (state_of pending)) pending.end → SaysJournalBehind before (lines_of bytes) (Some text)
said_journal before bytes pending rest run text none is =
    let ends = some_end (state_of pending) pending.end text is in
    (state_of pending, ends.0, run_said before bytes pending rest run none, ends.1, ends.2)

pub cut_journal : (before : ℕ) (bytes : List ℕ) (pending : Pending) (rest : List ℕ) → IsJournalRun before bytes pending rest → length rest ≡ 0
    → None ≡ option_map (journal_of (state_of pending)) pending.end → (length bytes ≡ 0 → ⊥) → HasFaultBehind before (lines_of bytes) (pending.line + 1) kind.Cut
cut_journal before bytes pending rest run none is some =
    run_cut before bytes pending rest run none (no_end (state_of pending) pending.end is) (has_lines bytes some)

-- ---- both

pub said_at : (text : Option JournalText) (k m : ℕ) (ls ms : List (List ℕ)) → k ≡ m → ls ≡ ms → SaysJournalBehind m ms text → SaysJournalBehind k ls text
said_at text k m ls ms place left says =
    let at : SaysJournalBehind m ls text = (let P : List (List ℕ) → Type 0 = λ lines. SaysJournalBehind m lines text in subst P (sym left) says) in
    let P : ℕ → Type 0 = λ before. SaysJournalBehind before ls text in subst P (sym place) at

told_at : (line : ℕ) (kind : JournalKind) (k m : ℕ) (ls ms : List (List ℕ)) → k ≡ m → ls ≡ ms → HasFaultBehind m ms line kind → HasFaultBehind k ls line kind
told_at line kind k m ls ms place left told =
    let at : HasFaultBehind m ls line kind = (let P : List (List ℕ) → Type 0 = λ lines. HasFaultBehind m lines line kind in subst P (sym left) told) in
    let P : ℕ → Type 0 = λ before. HasFaultBehind before ls line kind in subst P (sym place) at

pub both_said : (bytes : List ℕ) (script : Script) (line : ℕ) (rest : List ℕ) (text : Option JournalText) → IsFront bytes script line rest
    → SaysJournalBehind line (lines_of rest) text → MeansBoth bytes (script, text)
both_said bytes script line rest text front says = record {
  script = front.said;
  journal = said_at text _ line _ (lines_of rest) front.place front.left says;
}

-- a refusal of the journal behind a script that stands
pub both_told : (bytes : List ℕ) (script : Script) (line : ℕ) (rest : List ℕ) (told : ends.BothEnd) → IsFront bytes script line rest
    → IsJournalRefusal line (lines_of rest) told → IsRefusalOf bytes told
both_told bytes script line rest (end.Script at kind) front told = absurd told
both_told bytes script line rest (end.Journal at kind) front told =
    ((front.said.0, front.said.1), told_at at kind _ line _ (lines_of rest) front.place front.left told)
both_told bytes script line rest end.OutOfMemory front told = tt
