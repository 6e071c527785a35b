use Rattle.std.proofs.Common.{List, ◌∷◌, [], ◌++◌, ◌∙◌, ap, arith, get_or, refl, reverse, set}
use Rattle.std.specs.Global.{Vec}
use Rattle.std.specs.Vec.{with_item}
use Rattle.std.proofs.lemmas.Option.{slice_get_within}
use Rattle.std.proofs.lemmas.Result.{on_ok_weaker}
use Rattle.cal_rowset.specs.declared.cell.Cell.{Cell}
use Rattle.cal_rowset.specs.declared.step.Step.{Step}
use Rattle.cal_rowset.proofs.Filling.{Holds-added, Shows-added}
use Rattle.cal_rowset.proofs.Trails.{GoesBack-holds, IsTrail-added, filling}
use Rattle.cal_rowset.proofs.cells.Cells.add.Goals as goal

pub returns-then-place-len-clause-trail : goal.returns-then-place-len-clause-trail
returns-then-place-len-clause-trail c =
    λ entries e trail at is.
    absurd (omega (arith, c.if-place-len.true, c.len.ensures, slice_get_within c.args.self.now.names c.args.place e.attr.name at, (GoesBack-holds c.args.self.now.names (reverse c.args.self.now.steps.items) (filling c.args.self.now.cells.items c.args.self.now.used.items entries) trail).counted))

pub returns-clause-added : goal.returns-clause-added
returns-clause-added c =
    let noted = c.in_ok-note_use.ensures in
    on_ok_weaker c.push-2.result
    (λ pushed entries e holds at is.
    let read = c.index_mut.ensures.value ∙ ap (λ (cells : List Cell). get_or cells c.args.place c.index_mut.result.now) noted.cells in
    let shows = Shows-added _ _ _ entries holds c.args.place e at c.index_mut.result.now c.push-2.new.self read (λ vs old. rw is (pushed vs old)) in
    rw (noted.names, noted.cells, noted.used) (Holds-added _ _ _ entries holds c.args.place e c.push-2.new.self at shows _ refl))
    c.push-2.ensures

pub returns-clause-trail : goal.returns-clause-trail
returns-clause-trail c =
    let noted = c.in_ok-note_use.ensures in
    on_ok_weaker c.push-2.result
    (λ pushed entries e trail at is.
    IsTrail-added c.args.self.now
    (record { alloc = c.note_use.new.self.alloc; names = c.note_use.new.self.names; cells = with_item c.note_use.new.self.cells c.args.place c.push-2.new.self; used = c.note_use.new.self.used; steps = c.push.new.self })
    entries e c.args.place trail at c.step_at-step.result c.index.result.now c.index_mut.result.now c.push-2.new.self
    c.index.ensures c.step_at-step.ensures.step c.step_at-step.ensures.text
    (c.index_mut.ensures.value ∙ ap (λ (cells : List Cell). get_or cells c.args.place c.index_mut.result.now) noted.cells)
    (λ vs old. rw is (pushed vs old))
    noted.names (ap (λ (cells : List Cell). set cells c.args.place c.push-2.new.self) noted.cells) noted.used
    (c.in_ok-push.ensures.items ∙ ap (λ (steps : Vec Step). steps.items ++ c.step_at-step.result ∷ []) noted.steps))
    c.push-2.ensures
