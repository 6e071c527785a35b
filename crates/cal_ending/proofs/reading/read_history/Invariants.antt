use Rattle.std.proofs.Common.{◌≡◌, ◌-◌, List, length}
use Rattle.cal_once.specs.Seats.{view}
use Rattle.cal_plog.specs.History.{HasSeen}
use Rattle.cal_plog.specs.Seats.{IsLogSeat, slots_of}
use Rattle.cal_process.specs.Operations.{history_of}
use Rattle.cal_process.specs.Takings.{OnlyLearns}
use Rattle.cal_words.specs.declared.op.OpRec.{OpRec}
use Rattle.cal_ending.proofs.reading.read_history.Given as goal

-- the history so far was read
abbrev pub invariant-loop-op : goal.invariant-loop-op
invariant-loop-op l = record {
  seat : IsLogSeat l.common.log l.log;
  learns : OnlyLearns (view l.fn.log) (view l.log);
  looks : (view l.log).looks ≡ (view l.fn.log).looks;
  read : (ops : List OpRec) × (l.history ≡ history_of ops)
      × HasSeen (slots_of l.common.log) (view l.log) ops × (length ops ≡ l.place);
}

abbrev pub decreases-loop-op : goal.decreases-loop-op
decreases-loop-op l = slots_of l.common.log - l.place
