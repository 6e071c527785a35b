use Rattle.std.proofs.Common.{All, List}
use Rattle.std.proofs.lemmas.Option.{slice_get-get_or}
use Rattle.cal_keeping.specs.Hands.{IsAtBooks, account_in}
use Rattle.cal_keeping.specs.Runners.{IsHiredRunner}
use Rattle.cal_keeping.specs.declared.book_hand.BookHand.{BookHand}
use Rattle.cal_keeping.specs.declared.runner.Runner.{Runner}
use Rattle.std.specs.Prelude.{slice_index_or}
use Rattle.cal_start.specs.Hired.{AreHired}
use Rattle.cal_start.specs.declared.run.Run.{Run}

-- each of those that are hired may be started
pub all-hired : {P : Type 0} (run : Run) (runners : List (Runner P BookHand))
    → AreHired run runners → All (IsHiredRunner account_in IsAtBooks run.shared) runners
all-hired run runners hired k d below =
    (hired.each k (slice_index_or runners k d) (slice_get-get_or runners k d below)).hired
