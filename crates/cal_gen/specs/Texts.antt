-- Texts that are scripts.
use Rattle.std.specs.Prelude.{ℕ, List}
use Rattle.cal_script.specs.declared.script.Script.{Script}
use Rattle.cal_script.specs.Reading.{Means}

-- The bytes are the text of a valid script.
abbrev pub IsScriptText : List ℕ → Type 0
IsScriptText bytes = (script : Script) × Means bytes script
