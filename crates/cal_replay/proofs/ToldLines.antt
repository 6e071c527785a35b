-- What a channel has taken behind a worker's step, which told it the line.
use Rattle.std.proofs.Common.{◌≡◌, ◌+◌, List, [], ◌∷◌, ◌++◌, length, append_assoc}
use Rattle.std.proofs.Common.{sym, ap, ◌∙◌, subst}
use Rattle.std.specs.Prelude.{Some}
use Rattle.cal_channel.specs.Values.{ChannelValue}
use Rattle.cal_notes.specs.Running.{with_line}
use Rattle.cal_process.specs.declared.common.Common.{Common}
use Rattle.cal_replay.proofs.NotedLines.{lines-more}
use Rattle.cal_replay.proofs.ShownLines.{shown-later, shown-next-line}
use Rattle.cal_replay.specs.Channels.{HasShownLines}
use Rattle.cal_replay.specs.Showing.{IsShown}
use Rattle.cal_replay.specs.Steps.{RunsLine}
use Rattle.cal_replay.specs.Workers.{IsWorker, lines_done, script_of}
use Rattle.cal_replay.specs.declared.shared.Shared.{Shared}
use Rattle.cal_replay.specs.declared.showing.ShownLine.{ShownLine}
use Rattle.cal_replay.specs.declared.worker.Worker.{Worker}
use Rattle.cal_run.specs.Lines.{line_at}
use Rattle.cal_run.specs.Numbers.{AreNamed}
use Rattle.cal_run.specs.declared.numbers.Numbers.{Numbers}
use Rattle.cal_script.specs.declared.journal.LineNote.{LineNote}
use Rattle.cal_script.specs.declared.journal.ThreadNote.{ThreadNote}
use Rattle.cal_script.specs.declared.script.Channel.{Channel}
use Rattle.cal_script.specs.declared.script.Line.{Line}
use Rattle.cal_script.specs.declared.script.Script.{Script}
use Rattle.cal_table.specs.Tables.{TableValue}
use Rattle.cal_thread.specs.declared.thread.Thread.{Thread}
use Rattle.cal_value.specs.declared.attribute.Attribute.{Attribute}
use Rattle.cal_words.specs.declared.op.OpRec.{OpRec}

module _ (shared : Shared) (attributes : List Attribute) (numbers : Numbers) (at : Thread)
    (told : ShownLine) (old new : Worker) (l : Line) (note : LineNote) (h : List OpRec)
    (channel : Channel) (was is : ChannelValue) (given : List TableValue)
    (next : line_at (script_of shared) old.thread.number (length old.note.lines + 1) ≡ Some l)
    (noted : new.note ≡ with_line old.note note)
    (number : new.thread.number ≡ old.thread.number) (line_is : told.line ≡ l)
    (w : IsWorker shared old h) (r : RunsLine shared at told old new l note h)
    (named : AreNamed attributes (script_of shared) numbers)
    (shown : IsShown shared.common numbers at told channel was is)
    (before : HasShownLines shared.common attributes old.thread.tree h
    (lines_done (script_of shared) old) old.note channel was given) where
  abbrev common : Common
  common = shared.common

  abbrev script : Script
  script = script_of shared

  abbrev ls : List Line
  ls = lines_done script old

  abbrev seen : List OpRec
  seen = h ++ r.told_as.before ++ r.told_as.rest

  by-notes : HasShownLines common attributes new.thread.tree seen (ls ++ told.line ∷ [])
      (with_line old.note note) channel is given
  by-notes = shown-later common attributes at.tree new.thread.tree is given _ _ r.learns.1
      (shown-next-line common attributes numbers shared.real at old.thread.number h
      r.told_as.before r.told_as.rest ls old.note note told channel was is given w.noted.rules named
      r.told_as.as_noted shown
      (shown-later common attributes old.thread.tree at.tree was given _ _ r.learns.0 before))

  seen-is : seen ≡ h ++ r.ops
  seen-is = append_assoc h r.told_as.before r.told_as.rest
      ∙ ap (λ (ops : List OpRec). h ++ ops) (sym r.told_as.ops_are)

  lines-are : ls ++ told.line ∷ [] ≡ lines_done script new
  lines-are = ap (λ (x : Line). ls ++ x ∷ []) line_is
      ∙ sym (lines-more script old new l note next noted number)

  pub told-step : HasShownLines common attributes new.thread.tree (h ++ r.ops)
      (lines_done script new) new.note channel is given
  told-step =
      subst (λ (ops : List OpRec). HasShownLines common attributes new.thread.tree ops
      (lines_done script new) new.note channel is given) seen-is
      (subst (λ (ks : List Line). HasShownLines common attributes new.thread.tree seen ks new.note
      channel is given) lines-are
      (subst (λ (n : ThreadNote). HasShownLines common attributes new.thread.tree seen
      (ls ++ told.line ∷ []) n channel is given) (sym noted) by-notes))
