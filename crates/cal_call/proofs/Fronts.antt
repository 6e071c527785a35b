-- The script in front of a journal is one that some bytes mean, so it can be run.
use Rattle.std.proofs.Common.{◌≡◌, ℕ, zero, suc, Bool, true, false, cond, eqb, List, [], ◌∷◌, take}
use Rattle.std.proofs.Common.{refl, ap, sym, ◌∙◌}
use Rattle.std.specs.Prelude.{Option}
use Rattle.std.specs.List.{onto_first}
use Rattle.cal_journal.specs.Both.{MeansBoth, script_length}
use Rattle.cal_script.specs.Lines.{lines_of}
use Rattle.cal_script.specs.Reading.{IsValidScript}
use Rattle.cal_script.specs.declared.journal.JournalText.{JournalText}
use Rattle.cal_script.specs.declared.script.Script.{Script}

-- some bytes have these lines
abbrev HasBytes : List (List ℕ) → Type 0
HasBytes lines = (front : List ℕ) × (lines_of front ≡ lines)

take-onto_first : (byte n : ℕ) (lines : List (List ℕ))
    → take (suc n) (onto_first byte lines) ≡ onto_first byte (take (suc n) lines)
take-onto_first byte zero [] = refl
take-onto_first byte (suc n) [] = refl
take-onto_first byte n (line ∷ lines) = refl

-- a byte in front of the bytes of some first lines
one_more : (byte n : ℕ) (ends : Bool) (lines : List (List ℕ)) → HasBytes (take n lines)
    → HasBytes (take (suc n) lines) → eqb byte 10 ≡ ends
    → HasBytes (take (suc n) (cond ends ([] ∷ lines) (onto_first byte lines)))
one_more byte n true lines few more is = (byte ∷ few.0, rw is (ap (λ ls. [] ∷ ls) few.1))
one_more byte n false lines few more is =
    (byte ∷ more.0, rw is (ap (onto_first byte) more.1 ∙ sym (take-onto_first byte n lines)))

-- the first lines of bytes are the lines of some bytes
front_lines : (n : ℕ) (bytes : List ℕ) → HasBytes (take n (lines_of bytes))
front_lines zero bytes = ([], refl)
front_lines (suc n) [] = ([], refl)
front_lines (suc n) (byte ∷ bytes) =
    one_more byte n (eqb byte 10) (lines_of bytes) (front_lines n bytes) (front_lines (suc n) bytes) refl

-- the script that bytes mean with a journal or none is valid
pub both_valid : (bytes : List ℕ) (both : Script × Option JournalText) → MeansBoth bytes both
    → IsValidScript both.0
both_valid bytes both means =
    let front = front_lines (script_length (lines_of bytes)) bytes in
    let said = means.script in
    (front.0, rw (front.1, said.1, said.2) refl)
