-- Bytes that mean a script have no first fault, and others have one.
use Rattle.std.proofs.Common.{◌≡◌, ℕ, List, ap, Ok, Err}
use Rattle.cal_line.proofs.FirstFaults.{falls_whole, one_first}
use Rattle.cal_line.specs.FirstFault.{◌>>=◌, after_lines}
use Rattle.std.specs.Prelude.{Result}
use Rattle.cal_script.specs.Faults.{HasFault}
use Rattle.cal_script.specs.Lines.{lines_of}
use Rattle.cal_script.specs.Reading.{Means, line_after}
use Rattle.cal_script.specs.State.{State, no_lines, script_of}
use Rattle.cal_script.specs.declared.kind.ScriptKind.{ScriptKind}
use Rattle.cal_script.specs.declared.script.Script.{Script}
use Rattle.cal_call.specs.Runs.{IsScriptFault}
use Rattle.cal_call.specs.declared.fault.InputKind.{InputKind}
use Rattle.cal_call.specs.declared.fault.InputKind.TheVariants as kind

no_script : (made : Result State ScriptKind) (script : Script) (k : ScriptKind) → made ≡ Err k
    → (made >>= (λ state. Ok (script_of state))) ≡ Ok script → ⊥
no_script (Ok state) script k falls means = absurd cc
no_script (Err other) script k falls means = absurd cc

-- bytes that mean a script have no fault
pub fault_and_script : (bytes : List ℕ) (line : ℕ) (k : InputKind) (script : Script)
    → IsScriptFault bytes line k → Means bytes script → ⊥
fault_and_script bytes line (kind.Script k) script faulty means =
    no_script (after_lines line_after no_lines (lines_of bytes)) script k
    (falls_whole line_after no_lines (lines_of bytes) line k faulty) means
fault_and_script bytes line (kind.Journal k) script faulty means = faulty
fault_and_script bytes line (kind.Stream k) script faulty means = faulty

-- the bytes of a script have one first fault
pub one_script_fault : (bytes : List ℕ) (line other : ℕ) (a b : InputKind)
    → IsScriptFault bytes line a → IsScriptFault bytes other b → (line ≡ other) × (a ≡ b)
one_script_fault bytes line other (kind.Script k) (kind.Script j) f g =
    let one = one_first line_after no_lines (lines_of bytes) line other k j f g in
    (one.0, ap kind.Script one.1)
one_script_fault bytes line other (kind.Script k) (kind.Journal j) f g = absurd g
one_script_fault bytes line other (kind.Script k) (kind.Stream j) f g = absurd g
one_script_fault bytes line other (kind.Journal k) b f g = absurd f
one_script_fault bytes line other (kind.Stream k) b f g = absurd f
