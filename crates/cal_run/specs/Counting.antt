-- How the snapshots of a channel are counted: by the replies that stand in a lawful journal (private).
use Rattle.std.specs.Prelude.{ℕ, Bool, ◌&&◌, Some, count_by, zip, List}
use Rattle.cal_run.specs.Lines.{takes}
use Rattle.cal_run.specs.Steps.{is_accepted}
use Rattle.cal_script.specs.declared.journal.LineNote.{LineNote}
use Rattle.cal_script.specs.declared.journal.ThreadNote.{ThreadNote}
use Rattle.cal_script.specs.declared.script.Channel.{Channel}
use Rattle.cal_script.specs.declared.script.Line.{Line}
use Rattle.cal_script.specs.declared.script.Script.{Script}

module _ (script : Script) (channel : Channel) where
  -- a channel takes a snapshot on a line with this note
  abbrev pub is_noted_taken : Line × LineNote → Bool
  is_noted_taken l = is_accepted (Some l.1.reply) && takes script channel l.0

  -- on how many lines of a thread it does
  abbrev pub count_noted : List Line × ThreadNote → ℕ
  count_noted thread = count_by is_noted_taken (zip thread.0 thread.1.lines)
