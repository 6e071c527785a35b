use Rattle.std.proofs.Common.{Bool, List, subst, sym}
use Rattle.cal_ran.specs.Told.{AreToldAll}
use Rattle.cal_script.specs.declared.journal.ThreadNote.{ThreadNote}
use Rattle.cal_live_run.proofs.whole.run_by.Goals as goal

-- the journal has the notes that were collected, and the clock of the run
pub returns-clause-told : goal.returns-clause-told
returns-clause-told g c =
    let journal = c.in_ok-ended.ended.journal in
    let was = c.args.clocks.now.items in
    let is = c.run_all.new.clocks.items in
    subst (λ (b : Bool). AreToldAll g.K.Clock.given b journal.threads was is)
    (sym c.in_ok-ended.ensures.real)
    (subst (λ (notes : List ThreadNote).
    AreToldAll g.K.Clock.given c.args.run.shared.real notes was is)
    (sym c.in_ok-ended.ensures.noted) c.in_ok-collected.ensures.told)
