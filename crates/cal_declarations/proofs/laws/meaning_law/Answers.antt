use Rattle.std.proofs.Common.{◌≡◌, ℕ, List, refl, sym, ◌∙◌, ap}
use Rattle.std.specs.Prelude.{Ok, Err}
use Rattle.cal_line.specs.FirstFault.{after_lines}
use Rattle.cal_line.proofs.FirstFaults.{one_first, falls_whole, makes}
use Rattle.cal_script.specs.Lines.{lines_of}
use Rattle.cal_script.specs.declared.kind.ScriptKind.{ScriptKind}
use Rattle.cal_value.specs.declared.attribute.Attribute.{Attribute}
use Rattle.cal_declarations.specs.Reading.{Means, State, line_after, no_lines, threads_of}
use Rattle.cal_declarations.proofs.laws.meaning_law.Goals as goal

same_state : (a b : State) (bytes : List ℕ) → after_lines line_after no_lines (lines_of bytes) ≡ Ok a → after_lines line_after no_lines (lines_of bytes) ≡ Ok b → a ≡ b
same_state a b bytes first second = let same = sym first ∙ second in cc

no_fault_means : (bytes : List ℕ) (kind : ScriptKind) (threads : List (List Attribute)) → Means bytes threads → after_lines line_after no_lines (lines_of bytes) ≡ Err kind → ⊥
no_fault_means bytes kind threads means falls = let no : Err kind ≡ Ok means.0 = sym falls ∙ means.1 in cc

pub returns-clause-said : goal.returns-clause-said
returns-clause-said c = λ bytes. (
  λ threads line kind fault. no_fault_means bytes kind threads.0 threads.1 (falls_whole line_after no_lines (lines_of bytes) line kind fault),
  λ none. let made = makes line_after no_lines (lines_of bytes) none in (threads_of made.0, (made.0, made.1, refl)),
)

pub returns-clause-one_meaning : goal.returns-clause-one_meaning
returns-clause-one_meaning c = λ bytes threads other means too.
    means.2 ∙ ap threads_of (same_state means.0 too.0 bytes means.1 too.1) ∙ sym too.2

pub returns-clause-one_fault : goal.returns-clause-one_fault
returns-clause-one_fault c = λ bytes. one_first line_after no_lines (lines_of bytes)
