use Rattle.std.proofs.Common.{List, subst, sym, arith}
use Rattle.cal_ran.proofs.DoneRuns.{all-hired, are-done, told-all}
use Rattle.cal_ran.specs.Told.{AreToldAll}
use Rattle.cal_script.specs.declared.journal.ThreadNote.{ThreadNote}
use Rattle.cal_ran.proofs.running.run_all.Goals as goal

pub run_threads-requires-clause-hired : goal.run_threads-requires-clause-hired
run_threads-requires-clause-hired g c κs within =
    all-hired c.args.run.now c.in_ok-runners.runners.items c.in_ok-runners.ensures.hired

pub run_threads-requires-clause-clocks : goal.run_threads-requires-clause-clocks
run_threads-requires-clause-clocks g c =
    let many = c.in_ok-runners.ensures.hired.many in
    let enough = c.requires.clocks in
    omega (arith, many, enough)

pub returns-clause-handed : goal.returns-clause-handed
returns-clause-handed g c = record {
  from = c.in_ok-done.done.items;
  done = are-done c.args.run.now c.in_ok-runners.runners.items c.in_ok-runners.ensures.hired
      g.K.Clock.given c.in_ok-done.done.items c.args.clocks.now.items
      c.run_threads.new.clocks.items c.in_ok-done.ensures.ran c.requires.clocks;
  parts = c.in_ok-handed.ensures;
}

-- what is noted of the threads is handed over
pub returns-clause-told : goal.returns-clause-told
returns-clause-told g c = subst
    (λ (notes : List ThreadNote). AreToldAll g.K.Clock.given c.args.run.now.shared.real notes
    c.args.clocks.now.items c.run_threads.new.clocks.items)
    (sym c.in_ok-handed.ensures.notes)
    (told-all c.args.run.now c.in_ok-runners.runners.items c.in_ok-runners.ensures.hired
    g.K.Clock.given c.in_ok-done.done.items c.args.clocks.now.items
    c.run_threads.new.clocks.items c.in_ok-done.ensures.ran c.requires.clocks)
