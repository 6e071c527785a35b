-- The rows of a journal: their shape, and what rules on rows say of the lines.
use Rattle.std.proofs.Common.{◌≡◌, ℕ, suc, ◌+◌, ◌-◌, List, [], ◌∷◌, ◌++◌, Bool, false, length, map}
use Rattle.std.proofs.Common.{ap, subst, sym, refl, ◌∙◌, arith}
use Rattle.std.specs.Prelude.{flat_map, zip, Some, slice_get, Result, Ok, Err, IfErr, IsErrAnd}
use Rattle.std.specs.List.{All, AllZip, enumerate_from}
use Rattle.std.proofs.lemmas.List.{map-append}
use Rattle.std.proofs.lemmas.List.Elements.{All-append, All-cons, All-nil}
use Rattle.cal_journal.specs.declared.kind.JournalKind.{JournalKind}
use Rattle.cal_journal.specs.declared.kind.JournalKind.TheVariants as kind
use Rattle.cal_run.proofs.LawLemmas.{all-back, all-front, all-rest, threads_in_order}
use Rattle.cal_lawful.specs.Broken.{AllKeep, BreaksAt, BreaksRule, HoldsRule, IsLawfulText, KeepsLine}
use Rattle.cal_lawful.specs.Broken.{KeepsRow, Row, all_rows, line_rows, row_line, rows_from, rules}
use Rattle.cal_lawful.specs.Broken.{starts_of, thread_rows, wanted_rows, written_from, written_rows}
use Rattle.cal_lawful.specs.Broken.{Noted, Start}
use Rattle.cal_lawful.specs.Checking.{EndsBy, HoldFirst, IsOfRows, IsRefusalOf}
use Rattle.cal_lawful.specs.declared.end.CoreEnd as ends
use Rattle.cal_lawful.specs.declared.end.CoreEnd.TheVariants as end
use Rattle.cal_run.specs.Lawful.{HasShape, NotedLine, noted_lines, noted_of}
use Rattle.cal_run.specs.Seeing.{CanBeRead}
use Rattle.cal_lawful.specs.declared.shape.RowName.{RowName}
use Rattle.cal_script.specs.declared.journal.Journal.{Journal}
use Rattle.cal_script.specs.declared.journal.JournalText.{JournalText}
use Rattle.cal_script.specs.declared.journal.LineNote.{LineNote}
use Rattle.cal_script.specs.declared.journal.ThreadNote.{ThreadNote}
use Rattle.cal_script.specs.declared.script.Line.{Line}
use Rattle.cal_script.specs.declared.script.Script.{Script}

-- ---- the shape

abbrev is_start : RowName → Bool
is_start r = r.start

map-start-written : (text : JournalText) (row : ℕ) (starts : List Bool)
    → map is_start (written_from text row starts) ≡ starts
map-start-written text row [] = refl
map-start-written text row (start ∷ starts) = ap (λ xs. start ∷ xs)
    (map-start-written text (row + 1) starts)

no-starts : (notes : List ThreadNote) (xs : List Bool) → starts_of notes ≡ false ∷ xs → ⊥
no-starts [] xs e = cc
no-starts (n ∷ ns) xs e = cc

no-rows : (t : ℕ) (threads : List (List Line)) (xs : List Bool)
    → false ∷ xs ≡ map is_start (rows_from t threads) → ⊥
no-rows t [] xs e = cc
no-rows t (ls ∷ threads) xs e = cc

lines-same : (t number u : ℕ) (xs : List LineNote) (ls : List Line) (notes : List ThreadNote)
    (threads : List (List Line))
    → map (λ _. false) xs ++ starts_of notes ≡ map is_start (line_rows t number ls) ++ map is_start
    (rows_from u threads)
    → (length xs ≡ length ls) × (starts_of notes ≡ map is_start (rows_from u threads))
lines-same t number u [] [] notes threads e = (refl, e)
lines-same t number u [] (l ∷ ls) notes threads e = absurd (no-starts notes _ e)
lines-same t number u (x ∷ xs) [] notes threads e = absurd (no-rows u threads _ e)
lines-same t number u (x ∷ xs) (l ∷ ls) notes threads e =
    let rest : (length xs ≡ length ls) × (starts_of notes ≡ map is_start (rows_from u threads)) =
    lines-same t (number + 1) u xs ls notes threads cc in
    (ap suc rest.0, rest.1)

-- rows of one shape are of threads of one shape
same-shape : (t : ℕ) (threads : List (List Line)) (notes : List ThreadNote)
    → starts_of notes ≡ map is_start (rows_from t threads)
    → AllZip (λ (thread : List Line) (note : ThreadNote). length note.lines ≡ length thread) threads
    notes
same-shape t [] [] e = tt
same-shape t [] (n ∷ ns) e = absurd cc
same-shape t (ls ∷ threads) [] e = absurd cc
same-shape t (ls ∷ threads) (n ∷ ns) e =
    let both = map-append is_start (line_rows t 1 ls) (rows_from (t + 1) threads) in
    let rest : map (λ _. false) n.lines ++ starts_of ns ≡ map is_start
    (line_rows t 1 ls ++ rows_from (t + 1) threads) = cc in
    let same : (length n.lines ≡ length ls) × (starts_of ns ≡ map is_start
    (rows_from (t + 1) threads)) =
    lines-same t 1 (t + 1) n.lines ls ns threads (rest ∙ both) in
    (same.0, same-shape (t + 1) threads ns same.1)

pub written-shape : (script : Script) (text : JournalText) → written_rows text ≡ wanted_rows script
    → HasShape script text.journal
written-shape script text same =
    same-shape 0 script.threads text.journal.threads
    (sym (map-start-written text 0 (starts_of text.journal.threads)) ∙ ap (map is_start) same)

-- ---- rules on rows, and on lines

module _ (script : Script) (journal : Journal) (Q : Row → Type 0) where
  all-lines : (ns : List NotedLine) → All Q (map Noted ns) → All (λ (n : NotedLine). Q (Noted n)) ns
  all-lines [] all = All-nil (λ (n : NotedLine). Q (Noted n))
  all-lines (n ∷ ns) all = All-cons (λ (n : NotedLine). Q (Noted n)) n ns
      (all 0 (Noted n) (omega arith)) (all-lines ns (all-rest Q (Noted n) (map Noted ns) all))

  pub all-noted : (k : ℕ) (ts : List (List Line × ThreadNote))
      → All Q (flat_map (thread_rows script journal) (enumerate_from k ts))
      → All (λ (n : NotedLine). Q (Noted n)) (flat_map (noted_of script journal.ops)
      (enumerate_from k ts))
  all-noted k [] all = All-nil (λ (n : NotedLine). Q (Noted n))
  all-noted k (t ∷ ts) all =
      let one : List NotedLine = noted_of script journal.ops (k, t) in
      let more : List Row = flat_map (thread_rows script journal) (enumerate_from (k + 1) ts) in
      All-append (λ (n : NotedLine). Q (Noted n)) one
      (flat_map (noted_of script journal.ops) (enumerate_from (k + 1) ts))
      (all-lines one (all-rest Q (Start t.1) (map Noted one)
      (all-front Q (Start t.1 ∷ map Noted one) more all)))
      (all-noted (k + 1) ts (all-back Q (Start t.1 ∷ map Noted one) more all))

  pub all-starts : (k : ℕ) (threads : List (List Line)) (notes : List ThreadNote)
      → AllZip (λ (thread : List Line) (note : ThreadNote). length note.lines ≡ length thread)
      threads notes
      → All Q (flat_map (thread_rows script journal) (enumerate_from k (zip threads notes)))
      → All (λ (note : ThreadNote). Q (Start note)) notes
  all-starts k [] [] shape all = All-nil (λ (note : ThreadNote). Q (Start note))
  all-starts k [] (n ∷ ns) shape all = absurd shape
  all-starts k (ls ∷ threads) [] shape all = absurd shape
  all-starts k (ls ∷ threads) (n ∷ ns) shape all =
      let one : List NotedLine = noted_of script journal.ops (k, (ls, n)) in
      let more : List Row = flat_map (thread_rows script journal)
      (enumerate_from (k + 1) (zip threads ns)) in
      All-cons (λ (note : ThreadNote). Q (Start note)) n ns (all 0 (Start n) (omega arith))
      (all-starts (k + 1) threads ns shape.1 (all-back Q (Start n ∷ map Noted one) more all))

-- what a rule on rows says of the lines
pub kept-lines : (script : Script) (journal : Journal) (rule : JournalKind)
    → AllKeep script journal rule (all_rows script journal)
    → All (KeepsLine script journal rule) (noted_lines script journal)
kept-lines script journal rule all =
    all-noted script journal (KeepsRow script journal rule) 0
    (zip script.threads journal.threads) all

-- where the rules on what lines have seen hold, a run can be read off the journal
pub seen-read : (script : Script) (text : JournalText) → HoldFirst script text 6
    → CanBeRead script text.journal
seen-read script text held =
    let journal = text.journal in
    let rises = kept-lines script journal kind.SeenFalls held.1.1.1.0 in
    let within = kept-lines script journal kind.SeenPast held.1.1.1.1.0 in
    let own = kept-lines script journal kind.SeenOwn held.1.1.1.1.1.0 in
    record {
      shape = written-shape script text held.0;
      order = threads_in_order script journal 0 (zip script.threads journal.threads)
          (λ k d l. (rises k d l, within k d l, own k d l));
    }

-- the rules together are the law
pub all-rules : (script : Script) (text : JournalText) → HoldFirst script text 9
    → IsLawfulText script text
all-rules script text held =
    let journal = text.journal in
    let shape = written-shape script text held.0 in
    record {
      rows = held.0;
      lawful = record {
        shape = shape;
        known = held.1.0;
        order = held.1.1.0;
        rises = kept-lines script journal kind.SeenFalls held.1.1.1.0;
        within = kept-lines script journal kind.SeenPast held.1.1.1.1.0;
        own = kept-lines script journal kind.SeenOwn held.1.1.1.1.1.0;
        fixed = kept-lines script journal kind.SeenFixed held.1.1.1.1.1.1.0;
        starts = all-starts script journal (KeepsRow script journal kind.Reading) 0 script.threads
            journal.threads shape held.1.1.1.1.1.1.1.0;
        read = kept-lines script journal kind.Reading held.1.1.1.1.1.1.1.0;
        answered = kept-lines script journal kind.Reply held.1.1.1.1.1.1.1.1.0;
      };
    }

-- ---- a rule on rows

module _ (script : Script) (text : JournalText) where
  -- it holds where all rows keep it
  pub rows-hold : (rule : JournalKind) → IsOfRows rule
      → AllKeep script text.journal rule (all_rows script text.journal)
      → HoldsRule script text rule
  rows-hold kind.Form of all = absurd of
  rows-hold kind.Cut of all = absurd of
  rows-hold kind.After of all = absurd of
  rows-hold kind.Shape of all = absurd of
  rows-hold kind.OpStranger of all = absurd of
  rows-hold kind.OpOrder of all = absurd of
  rows-hold kind.SeenFalls of all = all
  rows-hold kind.SeenPast of all = all
  rows-hold kind.SeenOwn of all = all
  rows-hold kind.SeenFixed of all = all
  rows-hold kind.Reading of all = all
  rows-hold kind.Reply of all = all

  -- and is broken where some row breaks it
  pub rows-broken : (rule : JournalKind) → IsOfRows rule → (row line : ℕ)
      → BreaksAt (AllKeep script text.journal rule) (all_rows script text.journal) row
      → line ≡ row_line text row
      → BreaksRule script text rule line
  rows-broken kind.Form of row line breaks is = absurd of
  rows-broken kind.Cut of row line breaks is = absurd of
  rows-broken kind.After of row line breaks is = absurd of
  rows-broken kind.Shape of row line breaks is = absurd of
  rows-broken kind.OpStranger of row line breaks is = absurd of
  rows-broken kind.OpOrder of row line breaks is = absurd of
  rows-broken kind.SeenFalls of row line breaks is = (row, breaks, is)
  rows-broken kind.SeenPast of row line breaks is = (row, breaks, is)
  rows-broken kind.SeenOwn of row line breaks is = (row, breaks, is)
  rows-broken kind.SeenFixed of row line breaks is = (row, breaks, is)
  rows-broken kind.Reading of row line breaks is = (row, breaks, is)
  rows-broken kind.Reply of row line breaks is = (row, breaks, is)

  -- a fault of a rule, where those before it hold
  pub ends-refusal : (rule : JournalKind) (place : ℕ) → slice_get rules place ≡ Some rule
      → HoldFirst script text place
      → (end : ends.CoreEnd) → EndsBy script text rule end → IsRefusalOf script text end
  ends-refusal rule place is before (end.JournalFault line told) broken = record {
    place = place;
    is = is ∙ ap (λ (k : JournalKind). Some k) (sym broken.0);
    before = before;
    here = subst (λ (k : JournalKind). BreaksRule script text k line) (sym broken.0) broken.1;
  }
  ends-refusal rule place is before end.OutOfMemory broken = tt

-- ---- an error that is handed on

pub handed-on : {T E : Type 0} (P : E → Type 0) (r : Result T E) (e : E) → IsErrAnd r (λ y. y ≡ e)
    → P e → IfErr r P
handed-on P (Ok x) e is holds = tt
handed-on P (Err y) e is holds = subst P (sym is) holds
