-- The lines of threads are listed one after another.
use Rattle.std.proofs.Common.{◌≡◌, ℕ, ◌+◌, ◌<◌, ◌≤◌, List, [], ◌∷◌, ◌++◌, length, get_or, drop}
use Rattle.std.proofs.Common.{ap, sym, ◌∙◌, append_assoc, append-nil, arith}
use Rattle.std.specs.Prelude.{flat_map, zip}
use Rattle.std.specs.List.{enumerate_from}
use Rattle.std.proofs.lemmas.List.{drop_all}
use Rattle.std.proofs.lemmas.Slice.Zip.{AllZip-long, length-zip}
use Rattle.cal_run.proofs.RunLemmas.{zip_drop, zip_next}
use Rattle.cal_run.specs.Lawful.{HasShape}
use Rattle.cal_script.specs.declared.journal.Journal.{Journal}
use Rattle.cal_script.specs.declared.journal.LineNote.{LineNote}
use Rattle.cal_script.specs.declared.journal.ThreadNote.{ThreadNote}
use Rattle.cal_script.specs.declared.script.Line.{Line}
use Rattle.cal_script.specs.declared.script.Script.{Script}
use Rattle.cal_world.specs.Turns.{turns_from, turns_of}
use Rattle.cal_world.specs.declared.turn.Turn.{Turn}

-- there are as many notes as threads
pub notes-long : (script : Script) (journal : Journal) → HasShape script journal
    → length journal.threads ≡ length script.threads
notes-long script journal shape =
    AllZip-long (λ (thread : List Line) (note : ThreadNote). length note.lines ≡ length thread)
    script.threads journal.threads shape

-- no pair is left
zip-past : {A B : Type 0} (xs : List A) (ys : List B) (i : ℕ) → length xs ≤ i
    → drop i (zip xs ys) ≡ []
zip-past xs ys i past = drop_all i (zip xs ys) (let long = length-zip xs ys in omega
    (arith, past, long))

module _ (thread number before : ℕ) (lines : List Line) (notes : List LineNote) (i : ℕ) where
  -- the lines so far and those that are left, with one line more
  pub turns-next : (l : Line) (n : LineNote) (had all : List Turn) → l ≡ get_or lines i l
      → n ≡ get_or notes i n → i < length lines → length notes ≡ length lines
      → had ++ turns_from thread number before (drop i (zip lines notes)) ≡ all
      → (had ++ record {
        thread = thread;
        number = number;
        line = l;
        note = n;
        before = before;
      } ∷ [])
      ++ turns_from thread (number + 1) n.seen (drop (i + 1) (zip lines notes)) ≡ all
  turns-next l n had all line-is note-is below long so_far =
      append_assoc had _ _
      ∙ ap (λ ls. had ++ turns_from thread number before ls)
      (sym (zip_next lines notes i l n line-is note-is below long))
      ∙ so_far

  pub turns-end : (had all : List Turn) → length lines ≤ i
      → had ++ turns_from thread number before (drop i (zip lines notes)) ≡ all
      → had ≡ all
  turns-end had all past so_far =
      sym (append-nil had)
      ∙ ap (λ ls. had ++ turns_from thread number before ls) (sym (zip-past lines notes i past))
      ∙ so_far

module _ (threads : List (List Line)) (notes : List ThreadNote) (t : ℕ) where
  -- the lines of the threads so far and of those that are left, with one thread more
  pub threads-next : (note : ThreadNote) (ls : List Line) (ns : List LineNote)
      (had all : List Turn) → t < length threads → length notes ≡ length threads
      → ls ≡ get_or threads t ls → ns ≡ (get_or notes t note).lines
      → had ++ flat_map turns_of (enumerate_from t (drop t (zip threads notes))) ≡ all
      → (had ++ turns_from t 1 0 (zip ls ns))
      ++ flat_map turns_of (enumerate_from (t + 1) (drop (t + 1) (zip threads notes))) ≡ all
  threads-next note ls ns had all below long ls-is ns-is so_far =
      let more : List Turn = flat_map turns_of
      (enumerate_from (t + 1) (drop (t + 1) (zip threads notes))) in
      append_assoc had (turns_from t 1 0 (zip ls ns)) more
      ∙ ap (λ (xs : List LineNote). had ++ (turns_from t 1 0 (zip ls xs) ++ more)) ns-is
      ∙ ap (λ (xs : List Line). had
      ++ (turns_from t 1 0 (zip xs (get_or notes t note).lines) ++ more)) ls-is
      ∙ ap (λ ts. had ++ flat_map turns_of (enumerate_from t ts))
      (sym (zip_drop threads notes t ls note below long))
      ∙ so_far

  pub threads-end : (had all : List Turn) → length threads ≤ t
      → had ++ flat_map turns_of (enumerate_from t (drop t (zip threads notes))) ≡ all
      → had ≡ all
  threads-end had all past so_far =
      sym (append-nil had)
      ∙ ap (λ ts. had ++ flat_map turns_of (enumerate_from t ts))
      (sym (zip-past threads notes t past))
      ∙ so_far
