-- A reader that goes on line by line.
use Rattle.std.proofs.Common.{◌≡◌, ℕ, ◌+◌, ◌-◌, ◌<◌, ◌≤◌, true, false, List, [], ◌∷◌, ◌++◌, length, take, drop, refl, sym, ap, ◌∙◌, add-one, arith}
use Rattle.std.specs.Prelude.{Result, Ok, Err}
use Rattle.std.specs.Str.{IsUtf8}
use Rattle.std.proofs.lemmas.Str.{is_utf8-from_IsUtf8}
use Rattle.std.proofs.lemmas.List.{take-append-drop, append-nil, nil_from_length}
use Rattle.cal_line.specs.FirstFault.{◌>>=◌, after_lines, IsFirstFault}
use Rattle.cal_line.proofs.FirstFaults.{take_next, after_lines-append}
use Rattle.cal_script.specs.declared.kind.ScriptKind.{ScriptKind}
use Rattle.cal_declarations.specs.declared.reader.Reader.{Reader}
use Rattle.cal_script.proofs.Runs.{is_utf8_not}
use Rattle.cal_script.specs.Lines.{lines_of, is_skipped}
use Rattle.cal_declarations.specs.Layout.{fits}
use Rattle.cal_declarations.specs.Reading.{Means, State, line_after, no_lines, text_after, threads_of}
use Rattle.cal_declarations.specs.Reader.{IsReading, state_of}

-- ---- one line

-- the test of UTF-8, by what a search for bad bytes found
pub ruleset texts = (is_utf8_not, is_utf8-from_IsUtf8)

-- a line that says something is read by its words
pub line_after_words : (state : State) (line : List ℕ) → IsUtf8 line → is_skipped line ≡ false → line_after state line ≡ text_after state line
unfolding line_after
line_after_words state line text says = rw (is_utf8-from_IsUtf8 line text, says) refl

-- ---- one line after another

one_line : (state : State) (found : Result State ScriptKind) → (found >>= (λ next. Ok next)) ≡ found
one_line state (Ok next) = refl
one_line state (Err kind) = refl

after_lines-push : (state : State) (lines : List (List ℕ)) (line : List ℕ) → after_lines line_after state (lines ++ line ∷ []) ≡ (after_lines line_after state lines >>= (λ next. line_after next line))
after_lines-push state lines line =
    after_lines-append line_after state lines (line ∷ [])
    ∙ ap (λ (f : State → Result State ScriptKind). after_lines line_after state lines >>= f) (λ i next. one_line next (line_after next line) i)

-- The lines before this one say what the reader has, and the rest has the others.
pub record IsRun (bytes : List ℕ) (line : ℕ) (reader : Reader) (rest : List ℕ) : Type 0 where
  pub said : after_lines line_after no_lines (take line (lines_of bytes)) ≡ Ok (state_of reader)
  pub left : drop line (lines_of bytes) ≡ lines_of rest
  pub kept : IsReading reader
  pub fits : fits (threads_of (state_of reader)) ≡ true
  pub counted : line + length rest ≤ length bytes

module _ (bytes : List ℕ) (line : ℕ) (reader : Reader) (rest : List ℕ) (run : IsRun bytes line reader rest) where
  next_said : (first after : List ℕ) → lines_of rest ≡ first ∷ lines_of after → after_lines line_after no_lines (take (line + 1) (lines_of bytes)) ≡ line_after (state_of reader) first
  next_said first after cut =
      let next = take_next line (lines_of bytes) first (lines_of after) (run.left ∙ cut) in
      rw (add-one, next.0) (after_lines-push no_lines (take line (lines_of bytes)) first ∙ ap (λ (o : Result State ScriptKind). o >>= (λ state. line_after state first)) run.said)

  pub run_on : (first after : List ℕ) (now : Reader) → lines_of rest ≡ first ∷ lines_of after → length after < length rest → line_after (state_of reader) first ≡ Ok (state_of now) → IsReading now → fits (threads_of (state_of now)) ≡ true → IsRun bytes (line + 1) now after
  run_on first after now cut shorter says kept fine = record {
    said = next_said first after cut ∙ says;
    left = rw add-one ((take_next line (lines_of bytes) first (lines_of after) (run.left ∙ cut)).1);
    kept = kept;
    fits = fine;
    counted = omega (arith, run.counted);
  }

  pub run_falls : (first after : List ℕ) (kind : ScriptKind) → lines_of rest ≡ first ∷ lines_of after → line_after (state_of reader) first ≡ Err kind → IsFirstFault line_after no_lines (lines_of bytes) (line + 1) kind
  run_falls first after kind cut falls =
      let back : (line + 1) - 1 ≡ line = omega arith in
      record {
        before = state_of reader;
        stands = rw back run.said;
        falls = next_said first after cut ∙ falls;
      }

  pub run_ends : length rest ≡ 0 → Means bytes (threads_of (state_of reader))
  run_ends none =
      let left : drop line (lines_of bytes) ≡ [] = run.left ∙ ap lines_of (nil_from_length rest none) in
      let all : take line (lines_of bytes) ≡ lines_of bytes = sym (append-nil (take line (lines_of bytes))) ∙ ap (λ (x : List (List ℕ)). take line (lines_of bytes) ++ x) (sym left) ∙ take-append-drop line (lines_of bytes) in
      let said : after_lines line_after no_lines (lines_of bytes) ≡ Ok (state_of reader) = sym (ap (after_lines line_after no_lines) all) ∙ run.said in
      (state_of reader, said, refl)
