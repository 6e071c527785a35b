-- What the tests tell, row by row and thread by thread.
use Rattle.std.proofs.Common.{◌≡◌, ◌↔◌, ℕ, suc, ◌+◌, ◌<◌, ◌≤◌, List, [], ◌∷◌, ◌++◌, Bool, true}
use Rattle.std.proofs.Common.{length, get_or, take, drop, map, ap, subst, sym, ◌∙◌, arith}
use Rattle.std.proofs.Common.{append-nil, length-append}
use Rattle.std.specs.Prelude.{Option, Some, None, flat_map, sum_by, zip}
use Rattle.std.specs.List.{All, enumerate_from, list_any}
use Rattle.std.proofs.Math.Bool.{or-false}
use Rattle.std.proofs.Math.Seq.{drop-cons}
use Rattle.std.proofs.lemmas.List.{drop_all, take-append-le}
use Rattle.std.proofs.lemmas.List.Elements.{All-push}
use Rattle.std.proofs.lemmas.List.Folds.{list_any-append}
use Rattle.std.proofs.lemmas.List.Sums.{sum_by-cons}
use Rattle.std.proofs.lemmas.Slice.Zip.{length-zip}
use Rattle.cal_journal.specs.declared.kind.JournalKind.{JournalKind}
use Rattle.cal_journal.specs.declared.kind.JournalKind.TheVariants as kind
use Rattle.cal_lawful.proofs.BrokenLemmas.{tells-more}
use Rattle.cal_lawful.specs.Broken.{KeepsLine, KeepsRow, KeepsStart, Row, thread_rows}
use Rattle.cal_lawful.specs.Broken.{Noted, Start}
use Rattle.cal_lawful.specs.Checking.{AreMerged, FoundTell, SeenTell, Tells, TellsRule, merges}
use Rattle.cal_lawful.specs.Checking.{next_first}
use Rattle.cal_run.specs.Lawful.{NotedLine, noted_from}
use Rattle.cal_run.specs.Steps.{ThreadState}
use Rattle.cal_lawful.specs.declared.finding.FoundTests.{FoundTests}
use Rattle.cal_lawful.specs.declared.merged.Merged.{Merged}
use Rattle.cal_lawful.specs.declared.seen.SeenTests.{SeenTests}
use Rattle.cal_script.specs.declared.journal.Journal.{Journal}
use Rattle.cal_script.specs.declared.journal.LineNote.{LineNote}
use Rattle.cal_script.specs.declared.journal.Placed.{Placed}
use Rattle.cal_script.specs.declared.journal.ThreadNote.{ThreadNote}
use Rattle.cal_script.specs.declared.script.Line as lines
use Rattle.cal_script.specs.declared.script.Script.{Script}

-- ---- one row more

-- an item that keeps the rule
tells-kept : {A : Type 0} (P : A → Type 0) (first : Option ℕ) (xs : List A) (x : A) → P x
    → Tells P first xs → Tells P first (xs ++ x ∷ [])
tells-kept P (Some p) xs x keeps told =
    let within = told.within in
    let long = length-append xs (x ∷ []) in
    record {
      within = omega (arith, within, long);
      kept = subst (All P) (sym (take-append-le p xs (x ∷ []) (omega (arith, within)))) told.kept;
      broken = λ all. told.broken
          (subst (All P) (take-append-le (p + 1) xs (x ∷ []) (omega (arith, within))) all);
    }
tells-kept P None xs x keeps told = All-push P xs x told keeps

-- how many rows there are
one-more : (xs : List Row) (x : Row) (row now : ℕ) → row ≡ length xs → now ≡ row + 1
    → now ≡ length (xs ++ x ∷ [])
one-more xs x row now is more =
    let long = length-append xs (x ∷ []) in omega (arith, is, long, more)

-- a start marks nothing
merged-start : (front : List Row) (note : ThreadNote) (marks : List Bool) → AreMerged front marks
    → AreMerged (front ++ Start note ∷ []) marks
merged-start front note marks is = record {
  long = is.long;
  marked = λ thread channel.
      is.marked thread channel
      ∙ sym (or-false (list_any (merges thread channel) front))
      ∙ sym (list_any-append (merges thread channel) front (Start note ∷ []));
}

module _ (script : Script) (journal : Journal) where
  -- a row that a rule doesn't speak of
  tells-same : (rule : JournalKind) (old new : Option ℕ) (front : List Row) (x : Row)
      → KeepsRow script journal rule x → new ≡ old → TellsRule script journal rule old front
      → TellsRule script journal rule new (front ++ x ∷ [])
  tells-same rule old new front x keeps same told =
      subst (λ first. TellsRule script journal rule first (front ++ x ∷ [])) (sym same)
      (tells-kept (KeepsRow script journal rule) old front x keeps told)

  -- a row that was tested
  tells-next : (rule : JournalKind) (old new : Option ℕ) (front : List Row) (x : Row) (row : ℕ)
      (kept : Bool) → row ≡ length front → new ≡ next_first old row kept
      → (kept ≡ true ↔ KeepsRow script journal rule x) → TellsRule script journal rule old front
      → TellsRule script journal rule new (front ++ x ∷ [])
  tells-next rule old new front x row kept at next is told =
      subst (λ first. TellsRule script journal rule first (front ++ x ∷ [])) (sym next)
      (tells-more (KeepsRow script journal rule) old front x row kept at is told)

  -- one start more
  pub seen-start : (old new : SeenTests) (front : List Row) (note : ThreadNote)
      → new.row ≡ old.row + 1 → new.falls ≡ old.falls → new.past ≡ old.past → new.own ≡ old.own
      → new.merged ≡ old.merged → SeenTell script journal old front
      → SeenTell script journal new (front ++ Start note ∷ [])
  seen-start old new front note row falls past own merged told =
      let x : Row = Start note in
      record {
        row = one-more front x old.row new.row told.row row;
        falls = tells-same kind.SeenFalls old.falls new.falls front x tt falls told.falls;
        past = tells-same kind.SeenPast old.past new.past front x tt past told.past;
        own = tells-same kind.SeenOwn old.own new.own front x tt own told.own;
        merged = subst (λ (m : Merged). AreMerged (front ++ x ∷ []) m.marks.items) (sym merged)
            (merged-start front note old.merged.marks.items told.merged);
      }

  -- one line more
  pub seen-line : (old new : SeenTests) (front : List Row) (n : NotedLine) (a b c : Bool)
      → new.row ≡ old.row + 1
      → new.falls ≡ next_first old.falls old.row a
      → (a ≡ true ↔ KeepsLine script journal kind.SeenFalls n)
      → new.past ≡ next_first old.past old.row b
      → (b ≡ true ↔ KeepsLine script journal kind.SeenPast n)
      → new.own ≡ next_first old.own old.row c
      → (c ≡ true ↔ KeepsLine script journal kind.SeenOwn n)
      → AreMerged (front ++ Noted n ∷ []) new.merged.marks.items → SeenTell script journal old front
      → SeenTell script journal new (front ++ Noted n ∷ [])
  seen-line old new front n a b c row falls a-is past b-is own c-is merged told =
      let x : Row = Noted n in
      let at = told.row in
      record {
        row = one-more front x old.row new.row at row;
        falls = tells-next kind.SeenFalls old.falls new.falls front x old.row a at falls a-is
            told.falls;
        past = tells-next kind.SeenPast old.past new.past front x old.row b at past b-is told.past;
        own = tells-next kind.SeenOwn old.own new.own front x old.row c at own c-is told.own;
        merged = merged;
      }

  pub found-start : (old new : FoundTests) (front : List Row) (note : ThreadNote) (a : Bool)
      → new.row ≡ old.row + 1 → new.fixed ≡ old.fixed
      → new.reading ≡ next_first old.reading old.row a
      → (a ≡ true ↔ KeepsStart script journal kind.Reading note) → new.reply ≡ old.reply
      → FoundTell script journal old front → FoundTell script journal new (front ++ Start note ∷ [])
  found-start old new front note a row fixed reading a-is reply told =
      let x : Row = Start note in
      let at = told.row in
      record {
        row = one-more front x old.row new.row at row;
        fixed = tells-same kind.SeenFixed old.fixed new.fixed front x tt fixed told.fixed;
        reading = tells-next kind.Reading old.reading new.reading front x old.row a at reading a-is
            told.reading;
        reply = tells-same kind.Reply old.reply new.reply front x tt reply told.reply;
      }

  pub found-line : (old new : FoundTests) (front : List Row) (n : NotedLine) (a b c : Bool)
      → new.row ≡ old.row + 1
      → new.fixed ≡ next_first old.fixed old.row a
      → (a ≡ true ↔ KeepsLine script journal kind.SeenFixed n)
      → new.reading ≡ next_first old.reading old.row b
      → (b ≡ true ↔ KeepsLine script journal kind.Reading n)
      → new.reply ≡ next_first old.reply old.row c
      → (c ≡ true ↔ KeepsLine script journal kind.Reply n)
      → FoundTell script journal old front → FoundTell script journal new (front ++ Noted n ∷ [])
  found-line old new front n a b c row fixed a-is reading b-is reply c-is told =
      let x : Row = Noted n in
      let at = told.row in
      record {
        row = one-more front x old.row new.row at row;
        fixed = tells-next kind.SeenFixed old.fixed new.fixed front x old.row a at fixed a-is
            told.fixed;
        reading = tells-next kind.Reading old.reading new.reading front x old.row b at reading b-is
            told.reading;
        reply = tells-next kind.Reply old.reply new.reply front x old.row c at reply c-is
            told.reply;
      }

-- ---- what is left

-- the rest has fewer lines
pub room-drop : (threads : List (List lines.Line)) (t : ℕ) (ls : List lines.Line) (row most : ℕ)
    → t < length threads → ls ≡ get_or threads t ls
    → row + sum_by length (drop t threads) + length (drop t threads) ≤ most
    → row + 1 + length ls + sum_by length (drop (t + 1) threads) + length (drop (t + 1) threads)
    ≤ most
room-drop threads t ls row most below is room =
    let here : List lines.Line = get_or threads t ls in
    let cons : drop t threads ≡ here ∷ drop (suc t) threads = drop-cons threads t ls below in
    let more = sum_by-cons length here (drop (suc t) threads) in
    let same : length ls ≡ length here = ap length is in
    let sum : sum_by length (drop t threads) ≡ length here + sum_by length (drop (suc t) threads) =
    ap (sum_by length) cons ∙ more in
    let long : length (drop t threads) ≡ suc (length (drop (suc t) threads)) = ap length cons in
    subst (λ u. row + 1 + length ls + sum_by length (drop u threads) + length (drop u threads)
    ≤ most) (by t) (omega (arith, room, same, sum, long))
  where
    by : (n : ℕ) → suc n ≡ n + 1
    by n = omega arith

-- no line is left
pub noted-done : (script : Script) (history : List Placed) (thread number before : ℕ)
    (state : ThreadState) (ls : List lines.Line) (ns : List LineNote) (i : ℕ) (rows all : List Row)
    → length ls ≤ i
    → rows ++ map Noted (noted_from script history thread number before state (drop i (zip ls ns)))
    ≡ all → rows ≡ all
noted-done script history thread number before state ls ns i rows all past so_far =
    sym (append-nil rows)
    ∙ ap (λ xs. rows ++ map Noted (noted_from script history thread number before state xs))
    (sym (drop_all i (zip ls ns) (let long = length-zip ls ns in omega (arith, past, long))))
    ∙ so_far

-- no thread is left
pub rows-done : (script : Script) (journal : Journal) (ls : List (List lines.Line))
    (ns : List ThreadNote) (i : ℕ) (rows all : List Row) → length ls ≤ i
    → rows ++ flat_map (thread_rows script journal) (enumerate_from i (drop i (zip ls ns))) ≡ all
    → rows ≡ all
rows-done script journal ls ns i rows all past so_far =
    sym (append-nil rows)
    ∙ ap (λ ts. rows ++ flat_map (thread_rows script journal) (enumerate_from i ts))
    (sym (drop_all i (zip ls ns) (let long = length-zip ls ns in omega (arith, past, long))))
    ∙ so_far
