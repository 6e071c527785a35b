use Rattle.std.proofs.Common.{[], subst, sym}
use Rattle.cal_ql.specs.Valid.{IsValidQuery}
use Rattle.cal_engine.specs.Gates.{IsGate}
use Rattle.cal_engine.specs.Tallies.{IsTally}
use Rattle.cal_engine.proofs.Tallying.{no_rows}
use Rattle.cal_engine.proofs.snapshot_fold.SnapshotFold.with_gate.Goals as goal

pub returns-clause-none : goal.returns-clause-none
returns-clause-none c = λ t ready.
    let same = sym c.in_ok-copy.ensures in
    record {
      valid = subst IsValidQuery same c.requires;
      gate = subst (λ q. IsGate t q c.args.gate) same ready;
      holds = record {
        groups = λ is. subst (λ q. IsTally t q [] c.in_ok-tally.tally) same (c.in_ok-tally.ensures t);
        rows = λ isnt. no_rows t c.new-2.result c.new-2.ensures;
      };
    }
