use Rattle.std.proofs.Common.{◌≡◌, ◌++◌, drop, take}
use Rattle.std.specs.List.{All}
use Rattle.cal_journal.specs.Printing.{threads_text}
use Rattle.cal_journal.specs.ReadBack.{HoldsThread}
use Rattle.cal_journal.proofs.printing.push_threads.Given as goal

-- what is printed so far, and what is to come, is the whole
abbrev pub invariant-loop-note : goal.invariant-loop-note
invariant-loop-note l = record {
  thread : l.thread ≡ l.note-index;
  text : l.out ++ threads_text l.thread (drop l.note-index l.threads)
      ≡ l.fn.out ++ threads_text 0 l.threads;
  held : All HoldsThread (take l.note-index l.threads);
}
