-- The schedule of a lawful journal is a whole run.
use Rattle.std.proofs.Common.{◌≡◌, ℕ, ◌+◌, ◌*◌, List, [], length, ap, subst, sym, ◌∙◌, arith}
use Rattle.std.specs.Prelude.{zip}
use Rattle.cal_run.proofs.LawLemmas.{lawful-read}
use Rattle.cal_run.specs.Lawful.{Lawful}
use Rattle.cal_script.specs.declared.journal.Journal.{Journal}
use Rattle.cal_script.specs.declared.script.Script.{Script}
use Rattle.cal_world.proofs.EventLemmas.{Run, lines-run, progress_of}
use Rattle.cal_world.proofs.HistoryLemmas.{HistoryRun, history-run}
use Rattle.cal_world.proofs.JournalLemmas.{all-turns, ends-are, has-row, lists-are}
use Rattle.cal_world.proofs.JournalLemmas.{no-row, starts-are}
use Rattle.cal_world.proofs.OrderLemmas.{LinesRun, all_of, by_key, counts_below}
use Rattle.cal_world.proofs.OrderLemmas.{keys-run, seen-by_key}
use Rattle.cal_world.specs.Progress.{IsWholeRun, at_end, at_start}
use Rattle.cal_world.specs.Schedule.{schedule_of}
use Rattle.cal_world.specs.Turns.{turns, turns_by_seen, turns_by_thread, turns_in_order}
use Rattle.cal_world.specs.declared.turn.Turn.{Turn}

module _ (script : Script) (journal : Journal) (lawful : Lawful script journal) where
  abbrev lists : List (List Turn)
  lists = turns_by_thread script journal

  abbrev last : ℕ
  last = (length journal.ops + 1) * 2

  order-is : turns_in_order script journal ≡ by_key script (all_of lists) 0 last
  order-is = ap (λ ts. turns_by_seen script ts 0 (length journal.ops + 1))
      (all-turns script journal lawful)
      ∙ seen-by_key script (all_of lists) 0 (length journal.ops + 1)

  lines : LinesRun script journal (counts_below script 0 lists)
      (turns_in_order script journal) (counts_below script last lists)
  lines = subst (λ xs. LinesRun script journal (counts_below script 0 lists) xs
      (counts_below script last lists)) (sym order-is)
      (subst (λ n. LinesRun script journal (counts_below script 0 lists)
      (by_key script (all_of lists) 0 last) (counts_below script n lists))
      (let e : 0 + last ≡ last = omega arith in e)
      (keys-run script journal lists (lists-are script journal lawful) 0 last))

  history : HistoryRun script journal [] (turns_in_order script journal) journal.ops
  history = history-run script journal journal.ops (turns script journal)
      (no-row script journal lawful) (has-row script journal lawful) 0 (length journal.ops + 1)
      (omega arith)

  start-is : progress_of script journal [] (counts_below script 0 lists) ≡ at_start script journal
  start-is = ap (λ ts. record { history = []; threads = ts })
      (starts-are script journal 0 (zip script.threads journal.threads)
      (lawful-read script journal lawful).order)

  end-is : progress_of script journal journal.ops (counts_below script last lists)
      ≡ at_end script journal
  end-is = ap (λ ts. record { history = journal.ops; threads = ts })
      (ends-are script journal 0 (zip script.threads journal.threads)
      (lawful-read script journal lawful).order)

  run : Run script journal (at_start script journal) (schedule_of script journal)
      (at_end script journal)
  run = subst (λ p. Run script journal p (schedule_of script journal) (at_end script journal))
      start-is
      (subst (λ q. Run script journal (progress_of script journal [] (counts_below script 0 lists))
      (schedule_of script journal) q)
      ((λ j. progress_of script journal (history.ends j) (lines.ends j)) ∙ end-is)
      (lines-run script journal [] (counts_below script 0 lists)
      (turns_in_order script journal) lines.follow history.finds))

  pub whole-run : IsWholeRun script journal (schedule_of script journal)
  whole-run = record { next = run.next; ends = run.ends }
