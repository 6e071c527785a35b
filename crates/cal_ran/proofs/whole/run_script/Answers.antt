use Rattle.std.proofs.Common.{◌≤◌, Bool, List, length, subst, sym}
use Rattle.cal_ran.specs.Ended.{IsEnded}
use Rattle.cal_ran.specs.Told.{AreToldAll}
use Rattle.cal_script.specs.Reading.{IsValidScript}
use Rattle.cal_script.specs.declared.journal.ThreadNote.{ThreadNote}
use Rattle.cal_script.specs.declared.script.Script.{Script}
use Rattle.cal_ran.proofs.whole.run_script.Goals as goal

pub new-requires : goal.new-requires
new-requires g c = c.valid_script_law.ensures c.args.script.now c.requires.script

pub run_all-requires-clause-clocks : goal.run_all-requires-clause-clocks
run_all-requires-clause-clocks g c κs within =
    subst (λ (s : Script). length s.threads ≤ length c.args.clocks.now.items)
    (sym c.in_ok-run.ensures.run.script_is) c.requires.clocks

pub end_run-requires-clause-valid : goal.end_run-requires-clause-valid
end_run-requires-clause-valid g c =
    subst IsValidScript (sym c.in_ok-run.ensures.run.script_is) c.requires.script

pub returns-clause-ended : goal.returns-clause-ended
returns-clause-ended g c =
    subst (λ (s : Script). IsEnded s c.in_ok-ended.ended) c.in_ok-run.ensures.run.script_is
    c.in_ok-ended.ensures.ended

-- the journal has the notes that were handed over, and the clock of the run
pub returns-clause-told : goal.returns-clause-told
returns-clause-told g c =
    let journal = c.in_ok-ended.ended.journal in
    let was = c.args.clocks.now.items in
    let is = c.run_all.new.clocks.items in
    subst (λ (b : Bool). AreToldAll g.K.Clock.given b journal.threads was is)
    (sym c.in_ok-ended.ensures.real)
    (subst (λ (notes : List ThreadNote).
    AreToldAll g.K.Clock.given c.in_ok-run.run'.shared.real notes was is)
    (sym c.in_ok-ended.ensures.noted) c.in_ok-handed.ensures.told)
