use Rattle.std.proofs.Common.{ℕ, List, ap, subst, sym, ◌∙◌}
use Rattle.std.proofs.Common.{◌∷◌, map, take}
use Rattle.std.proofs.lemmas.List.{take_all}
use Rattle.cal_rowset.specs.declared.rowset.Column.{Column}
use Rattle.cal_tabfmt.specs.Grid.{shapes}
use Rattle.cal_tabfmt.specs.declared.shape.Shape.{Shape}
use Rattle.cal_treefmt.specs.Plans.{IsWithin, shown}
use Rattle.cal_treefmt.specs.Tree.{line_texts, rights}
use Rattle.cal_treefmt.specs.declared.lines.Line.{Line}
use Rattle.cal_treefmt.proofs.Writing.{lines-measured}
use Rattle.cal_treefmt.proofs.measured.widen_each.Goals as goal

pub show-requires-clause-within : goal.show-requires-clause-within
show-requires-clause-within g c = subst (IsWithin c.args.context.now) (sym c.line_at.ensures) (c.requires.within c.loop-place.place c.line_at.result.now c.loop-place-test.true)

pub loop-place-preserved : goal.loop-place-preserved
loop-place-preserved g c =
    let kept = c.loop-place.invariant in
    let rows = (g.A.Answer.answer c.args.answer.now).rows.rows in
    let t = c.args.context.now in
    let texts : List Column → Line → List (List ℕ) = λ columns line. line_texts columns (shown t rows line) in
    record {
      made = λ columns head is_for headed.
          ◌∙◌ {A = List Shape} (c.in_ok-widen.ensures columns (shown t rows c.line_at.result.now)
          (head ∷ map (texts columns) (take c.loop-place.place c.args.lines.now)) (c.in_ok-show.ensures.shows columns (kept.stays columns is_for)) (kept.made columns head is_for headed))
          (ap (λ (all : List (List (List ℕ))). shapes all 0 (rights columns))
          (lines-measured (texts columns) head c.args.lines.now c.loop-place.place c.line_at.result.now c.loop-place-test.true c.line_at.ensures));
      stays = λ columns is_for.
          let shows = c.in_ok-show.ensures.shows columns (kept.stays columns is_for) in
          record { cells = shows.beside.cells; empty = shows.empty };
      ready = c.in_ok-show.ensures.ready;
    }

pub returns : goal.returns
returns g c = λ columns head is_for headed.
    let rows = (g.A.Answer.answer c.args.answer.now).rows.rows in
    let texts : Line → List (List ℕ) = λ line. line_texts columns (shown c.args.context.now rows line) in
    c.loop-place.invariant.made columns head is_for headed
    ∙ ap (λ (lines : List Line). shapes (head ∷ map texts lines) 0 (rights columns)) (take_all c.loop-place.place c.args.lines.now c.loop-place-test.false)
