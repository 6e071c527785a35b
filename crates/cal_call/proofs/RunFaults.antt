-- Bytes that mean a script, with a journal or none, mean one run, or have one first fault.
use Rattle.std.proofs.Common.{◌≡◌, ◌≢◌, ℕ, zero, suc, ◌+◌, ◌-◌, ◌<◌, ◌⊎◌, inl, inr, List, []}
use Rattle.std.proofs.Common.{length, refl, sym, ap, ◌∙◌, arith}
use Rattle.std.specs.Prelude.{Option, Some, None, Ok, Err}
use Rattle.cal_line.specs.FirstFault.{after_lines, IsFirstFault}
use Rattle.cal_line.proofs.FirstFaults.{falls_whole, one_first}
use Rattle.cal_journal.specs.Both.{HasFaultBehind, HasScriptFault, MeansBoth, SaysJournalBehind}
use Rattle.cal_journal.specs.Both.{SaysScript, StandsScript, journal_lines, script_length}
use Rattle.cal_journal.specs.Both.{script_lines}
use Rattle.cal_journal.specs.Reading.{State, begin_at, journal_of, line_after}
use Rattle.cal_journal.specs.declared.kind.JournalKind.{JournalKind}
use Rattle.cal_journal.specs.declared.kind.JournalKind.TheVariants as journal_kind
use Rattle.cal_lawful.specs.Broken.{IsFirstBroken, IsLawfulText}
use Rattle.cal_script.specs.Lines.{lines_of}
use Rattle.cal_script.specs.Reading as scripts
use Rattle.cal_script.specs.State as states
use Rattle.cal_script.specs.declared.journal.Journal.{Journal}
use Rattle.cal_script.specs.declared.journal.JournalText.{JournalText}
use Rattle.cal_script.specs.declared.kind.ScriptKind.{ScriptKind}
use Rattle.cal_script.specs.declared.script.Script.{Script}
use Rattle.cal_call.specs.Runs.{BreaksRule, IsRunFault, SaysRun, Uses}
use Rattle.cal_call.specs.declared.fault.InputKind.{InputKind}
use Rattle.cal_call.specs.declared.fault.InputKind.TheVariants as kind

-- ---- the script

one_script : (lines : List (List ℕ)) (a b : Script) → SaysScript lines a → SaysScript lines b
    → a ≡ b
one_script lines a b x y =
    let state : x.0 ≡ y.0 = cc (x.1, y.1) in x.2 ∙ ap states.script_of state ∙ sym y.2

script_falls : (lines : List (List ℕ)) (line : ℕ) (k : ScriptKind) → HasScriptFault lines line k
    → StandsScript lines → ⊥
script_falls lines line k faulty stands =
    let falls = falls_whole scripts.line_after states.no_lines (script_lines lines) line k faulty in
    absurd (cc (falls, stands.1))

stands : (lines : List (List ℕ)) (a : Script) → SaysScript lines a → StandsScript lines
stands lines a x = (x.0, x.1)

-- ---- the journal behind it

module _ (before : ℕ) (lines : List (List ℕ)) where
  -- no lines end no journal
  none_end : (state : State) (line : ℕ) → lines ≡ []
      → after_lines line_after (begin_at before) lines ≡ Ok state → state.end ≡ Some line → ⊥
  none_end state line none said ended =
      let begins : after_lines line_after (begin_at before) lines ≡ Ok (begin_at before) = rw none refl in
      let same : begin_at before ≡ state = cc (begins, said) in
      let unended : None ≡ state.end = ap (λ (s : State). s.end) same in
      absurd (cc (unended, ended))

  one_text : (a b : Option JournalText) → SaysJournalBehind before lines a
      → SaysJournalBehind before lines b → a ≡ b
  one_text None None x y = refl
  one_text None (Some b) x y = absurd (none_end y.0 y.1 x y.2 y.3)
  one_text (Some a) None x y = absurd (none_end x.0 x.1 y x.2 x.3)
  one_text (Some a) (Some b) x y =
      let state : x.0 ≡ y.0 = cc (x.2, y.2) in
      let ended : x.0.end ≡ y.0.end = ap (λ (s : State). s.end) state in
      let line : x.1 ≡ y.1 = cc (ended, x.3, y.3) in
      let text : journal_of x.0 x.1 ≡ journal_of y.0 y.1 = (λ i. journal_of (state i) (line i)) in
      ap (λ (t : JournalText). Some t) (x.4 ∙ text ∙ sym y.4)

  -- The lines don't end.
  record IsCut (line : ℕ) (k : JournalKind) : Type 0 where
    is : k ≡ journal_kind.Cut
    place : line ≡ before + length lines + 1
    state : State
    said : after_lines line_after (begin_at before) lines ≡ Ok state
    unended : state.end ≡ None
    some : lines ≢ []

  Falls : ℕ → JournalKind → Type 0
  Falls line k = IsFirstFault line_after (begin_at before) lines (line - before) k

  cut_or_falls : (line : ℕ) (k : JournalKind) → HasFaultBehind before lines line k
      → IsCut line k ⊎ Falls line k
  unfolding Falls
  cut_or_falls line journal_kind.Cut f = inl (record {
    is = refl;
    place = f.0;
    state = f.1;
    said = f.2;
    unended = f.3;
    some = f.4;
  })
  cut_or_falls line k f = inr f

  falls_all : (line : ℕ) (k : JournalKind) → Falls line k
      → after_lines line_after (begin_at before) lines ≡ Err k
  unfolding Falls
  falls_all line k f = falls_whole line_after (begin_at before) lines (line - before) k f

  -- a first fault is at a line
  at_a_line : (n : ℕ) (k : JournalKind) → IsFirstFault line_after (begin_at before) lines n k
      → 0 < n
  at_a_line zero k f = let stands = f.stands in let falls = f.falls in absurd (cc (stands, falls))
  at_a_line (suc n) k f = omega arith

  -- lines that say a journal, or none, have no fault
  text_cut : (line : ℕ) (k : JournalKind) (a : Option JournalText) → IsCut line k
      → SaysJournalBehind before lines a → ⊥
  text_cut line k None f x = f.some x
  text_cut line k (Some a) f x =
      let said = f.said in
      let state : f.state ≡ x.0 = cc (said, x.2) in
      let ended : f.state.end ≡ x.0.end = ap (λ (s : State). s.end) state in
      let unended = f.unended in
      absurd (cc (ended, unended, x.3))

  text_falls : (k : JournalKind) (a : Option JournalText)
      → after_lines line_after (begin_at before) lines ≡ Err k
      → SaysJournalBehind before lines a → ⊥
  text_falls k None f x =
      let begins : after_lines line_after (begin_at before) lines ≡ Ok (begin_at before) = rw x refl in
      absurd (cc (begins, f))
  text_falls k (Some a) f x = absurd (cc (f, x.2))

  pub fault_and_text : (line : ℕ) (k : JournalKind) (a : Option JournalText)
      → HasFaultBehind before lines line k → SaysJournalBehind before lines a → ⊥
  fault_and_text line k a f x = elim (cut_or_falls line k f) [
    | inl cut ↦ text_cut line k a cut x
    | inr falls ↦ text_falls k a (falls_all line k falls) x
  ]

  both_cut : (line other : ℕ) (k j : JournalKind) → IsCut line k → IsCut other j
      → (line ≡ other) × (k ≡ j)
  both_cut line other k j f g = (f.place ∙ sym g.place, f.is ∙ sym g.is)

  cut_falls : (line other : ℕ) (k j : JournalKind) → IsCut line k → Falls other j → ⊥
  cut_falls line other k j f g =
      let said = f.said in let falls = falls_all other j g in absurd (cc (said, falls))

  both_fall : (line other : ℕ) (k j : JournalKind) → Falls line k → Falls other j
      → (line ≡ other) × (k ≡ j)
  unfolding Falls
  both_fall line other k j f g =
      let one = one_first line_after (begin_at before) lines (line - before) (other - before) k j f g in
      let first = at_a_line (line - before) k f in
      let second = at_a_line (other - before) j g in
      (omega (arith, one.0, first, second), one.1)

  pub one_fault_behind : (line other : ℕ) (k j : JournalKind) → HasFaultBehind before lines line k
      → HasFaultBehind before lines other j → (line ≡ other) × (k ≡ j)
  one_fault_behind line other k j f g = elim (cut_or_falls line k f) [
    | inl cut ↦ elim (cut_or_falls other j g) [
      | inl also ↦ both_cut line other k j cut also
      | inr falls ↦ absurd (cut_falls line other k j cut falls)
    ]
    | inr falls ↦ elim (cut_or_falls other j g) [
      | inl cut ↦ absurd (cut_falls other line j k cut falls)
      | inr also ↦ both_fall line other k j falls also
    ]
  ]

-- ---- both

-- bytes mean one script, with one journal or none
pub one_both : (bytes : List ℕ) (a b : Script) (x y : Option JournalText) → MeansBoth bytes (a, x)
    → MeansBoth bytes (b, y) → (a ≡ b) × (x ≡ y)
one_both bytes a b x y m n = (
  one_script (lines_of bytes) a b m.script n.script,
  one_text (script_length (lines_of bytes)) (journal_lines (lines_of bytes)) x y m.journal n.journal,
)

-- What the law of broken rules says: no lawful journal breaks one first, and none breaks two.
pub record IsOneRule : Type 0 where
  pub lawful : (script : Script) (text : JournalText) (rule : JournalKind) (line : ℕ)
      → IsLawfulText script text → IsFirstBroken script text rule line → ⊥
  pub one : (script : Script) (text : JournalText) (rule other : JournalKind) (line place : ℕ)
      → IsFirstBroken script text rule line → IsFirstBroken script text other place
      → (rule ≡ other) × (line ≡ place)

uses_same : (script : Script) (a b : Option JournalText) (j k : Journal) → a ≡ b → Uses script a j
    → Uses script b k → j ≡ k
uses_same script None None j k is u v = u ∙ sym v
uses_same script (Some a) (Some b) j k is u v =
    let text : a ≡ b = cc is in u.1 ∙ ap (λ (t : JournalText). t.journal) text ∙ sym v.1
uses_same script None (Some b) j k is u v = absurd (cc is)
uses_same script (Some a) None j k is u v = absurd (cc is)

-- bytes say one run
pub one_run : (bytes : List ℕ) (a b : Script) (j k : Journal) → SaysRun bytes a j
    → SaysRun bytes b k
    → (a ≡ b) × (j ≡ k)
one_run bytes a b j k x y =
    let both = one_both bytes a b x.behind y.behind x.means y.means in
    let same : Uses a y.behind k = rw both.0 y.uses in
    (both.0, uses_same a x.behind y.behind j k both.1 x.uses same)

uses_broken : IsOneRule → (script : Script) (behind : Option JournalText) (text : JournalText)
    (journal : Journal) (rule : JournalKind) (line : ℕ) → behind ≡ Some text
    → Uses script behind journal → IsFirstBroken script text rule line → ⊥
uses_broken law script None text journal rule line is u broken = absurd (cc is)
uses_broken law script (Some other) text journal rule line is u broken =
    let same : other ≡ text = cc is in
    let lawful : IsLawfulText script text = rw (← same) u.0 in
    law.lawful script text rule line lawful broken

run_broken : IsOneRule → (bytes : List ℕ) (script : Script) (journal : Journal) (line : ℕ)
    (rule : JournalKind) → BreaksRule bytes line rule → SaysRun bytes script journal → ⊥
run_broken law bytes script journal line rule f x =
    let both = one_both bytes script f.script x.behind (Some f.text) x.means f.means in
    let broken : IsFirstBroken script f.text rule line = rw both.0 f.broken in
    uses_broken law script x.behind f.text journal rule line both.1 x.uses broken

-- bytes that say a run have no fault
pub fault_and_run : IsOneRule → (bytes : List ℕ) (script : Script) (journal : Journal) (line : ℕ)
    (k : InputKind) → IsRunFault bytes line k → SaysRun bytes script journal → ⊥
fault_and_run law bytes script journal line (kind.Script k) f x =
    script_falls (lines_of bytes) line k f (stands (lines_of bytes) script x.means.script)
fault_and_run law bytes script journal line (kind.Journal k) f x = elim f [
  | inl form ↦ fault_and_text (script_length (lines_of bytes)) (journal_lines (lines_of bytes)) line k
      x.behind form.1 x.means.journal
  | inr broken ↦ run_broken law bytes script journal line k broken x
]
fault_and_run law bytes script journal line (kind.Stream k) f x = f

form_and_rule : (bytes : List ℕ) (line other : ℕ) (k j : JournalKind)
    → HasFaultBehind (script_length (lines_of bytes)) (journal_lines (lines_of bytes)) line k
    → BreaksRule bytes other j → ⊥
form_and_rule bytes line other k j f g =
    fault_and_text (script_length (lines_of bytes)) (journal_lines (lines_of bytes)) line k
    (Some g.text) f g.means.journal

both_break : IsOneRule → (bytes : List ℕ) (line other : ℕ) (k j : JournalKind)
    → BreaksRule bytes line k → BreaksRule bytes other j → (line ≡ other) × (k ≡ j)
both_break law bytes line other k j f g =
    let both = one_both bytes f.script g.script (Some f.text) (Some g.text) f.means g.means in
    let text : f.text ≡ g.text = cc (both.1) in
    let same : IsFirstBroken f.script f.text j other = rw (both.0, text) g.broken in
    let one = law.one f.script f.text k j line other f.broken same in
    (one.1, one.0)

stands_broken : (bytes : List ℕ) (line : ℕ) (k : JournalKind) → BreaksRule bytes line k
    → StandsScript (lines_of bytes)
stands_broken bytes line k f = stands (lines_of bytes) f.script f.means.script

-- the script stands where the journal has a fault
journal_stands : (bytes : List ℕ) (line : ℕ) (k : JournalKind)
    → IsRunFault bytes line (kind.Journal k) → StandsScript (lines_of bytes)
journal_stands bytes line k f =
    elim f [ inl form ↦ form.0 | inr broken ↦ stands_broken bytes line k broken ]

one_journal_fault : IsOneRule → (bytes : List ℕ) (line other : ℕ) (k j : JournalKind)
    → IsRunFault bytes line (kind.Journal k) → IsRunFault bytes other (kind.Journal j)
    → (line ≡ other) × (k ≡ j)
one_journal_fault law bytes line other k j f g = elim f [
  | inl form ↦ elim g [
    | inl also ↦ one_fault_behind (script_length (lines_of bytes)) (journal_lines (lines_of bytes))
        line other k j form.1 also.1
    | inr broken ↦ absurd (form_and_rule bytes line other k j form.1 broken)
  ]
  | inr broken ↦ elim g [
    | inl form ↦ absurd (form_and_rule bytes other line j k form.1 broken)
    | inr also ↦ both_break law bytes line other k j broken also
  ]
]

-- the bytes of a run have one first fault
pub one_run_fault : IsOneRule → (bytes : List ℕ) (line other : ℕ) (a b : InputKind)
    → IsRunFault bytes line a → IsRunFault bytes other b → (line ≡ other) × (a ≡ b)
one_run_fault law bytes line other (kind.Script k) (kind.Script j) f g =
    let lines = script_lines (lines_of bytes) in
    let one = one_first scripts.line_after states.no_lines lines line other k j f g in
    (one.0, ap kind.Script one.1)
one_run_fault law bytes line other (kind.Journal k) (kind.Journal j) f g =
    let one = one_journal_fault law bytes line other k j f g in (one.0, ap kind.Journal one.1)
one_run_fault law bytes line other (kind.Script k) (kind.Journal j) f g =
    absurd (script_falls (lines_of bytes) line k f (journal_stands bytes other j g))
one_run_fault law bytes line other (kind.Journal k) (kind.Script j) f g =
    absurd (script_falls (lines_of bytes) other j g (journal_stands bytes line k f))
one_run_fault law bytes line other (kind.Stream k) b f g = absurd f
one_run_fault law bytes line other (kind.Script k) (kind.Stream j) f g = absurd g
one_run_fault law bytes line other (kind.Journal k) (kind.Stream j) f g = absurd g
