use Rattle.std.proofs.Common.{◌≡◌, ℕ, List, refl, sym, ◌∙◌}
use Rattle.std.specs.Prelude.{Ok, Err}
use Rattle.cal_line.specs.FirstFault.{after_lines}
use Rattle.cal_line.proofs.FirstFaults.{one_first, falls_whole, makes}
use Rattle.cal_script.specs.declared.script.Script.{Script}
use Rattle.cal_script.specs.declared.kind.ScriptKind.{ScriptKind}
use Rattle.cal_script.specs.Lines.{lines_of}
use Rattle.cal_script.specs.Reading.{Means, line_after}
use Rattle.cal_script.specs.State.{no_lines, script_of}
use Rattle.cal_script.proofs.laws.meaning_law.Goals as goal

no_fault_means : (bytes : List ℕ) (kind : ScriptKind) (script : Script) → Means bytes script → after_lines line_after no_lines (lines_of bytes) ≡ Err kind → ⊥
no_fault_means bytes kind script means falls = let no : Err kind ≡ Ok script = rw falls at means in cc

pub returns-clause-said : goal.returns-clause-said
returns-clause-said c = λ bytes. (
  λ script line kind fault. no_fault_means bytes kind script.0 script.1 (falls_whole line_after no_lines (lines_of bytes) line kind fault),
  λ none. let made = makes line_after no_lines (lines_of bytes) none in (script_of made.0, rw made.1 refl),
)

pub returns-clause-one_script : goal.returns-clause-one_script
returns-clause-one_script c = λ bytes script other means too. let same = sym means ∙ too in cc

pub returns-clause-one_fault : goal.returns-clause-one_fault
returns-clause-one_fault c = λ bytes. one_first line_after no_lines (lines_of bytes)
