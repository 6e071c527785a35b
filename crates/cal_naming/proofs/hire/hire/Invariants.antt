use Rattle.std.proofs.Common.{◌≡◌, All, length, take}
use Rattle.cal_naming.specs.Workers.{AreNumbered, IsFirst, IsReady, lines_of}
use Rattle.cal_naming.proofs.hire.hire.Given as goal

-- those of the threads so far are hired
abbrev pub invariant-loop-lines : goal.invariant-loop-lines
invariant-loop-lines l = record {
  first : IsFirst l.names l.first l.lines-index;
  many : length l.workers.items ≡ l.lines-index;
  lines : lines_of l.workers.items ≡ take l.lines-index l.threads;
  ready : All (IsReady l.names) l.workers.items;
  numbers : AreNumbered l.workers.items;
}
