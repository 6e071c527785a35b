use Rattle.std.proofs.Common.{ℕ, List, subst, sym}
use Rattle.std.proofs.Common.{◌++◌, ap, ◌∙◌}
use Rattle.std.specs.List.{flat_map}
use Rattle.std.proofs.lemmas.List.{take_all}
use Rattle.cal_rowset.specs.declared.rowset.Column.{Column}
use Rattle.cal_tabfmt.specs.Grid.{grid_line}
use Rattle.cal_treefmt.specs.Plans.{IsWithin, shown}
use Rattle.cal_treefmt.specs.Tree.{line_texts}
use Rattle.cal_treefmt.specs.declared.lines.Line.{Line}
use Rattle.cal_treefmt.proofs.Writing.{written-more}
use Rattle.cal_treefmt.proofs.tree.write_each.Goals as goal

pub show-requires-clause-within : goal.show-requires-clause-within
show-requires-clause-within g c = subst (IsWithin c.args.context.now) (sym c.line_at.ensures) (c.requires.within c.loop-place.place c.line_at.result.now c.loop-place-test.true)

pub loop-place-preserved : goal.loop-place-preserved
loop-place-preserved g c =
    let kept = c.loop-place.invariant in
    let rows = (g.A.Answer.answer c.args.answer.now).rows.rows in
    let t = c.args.context.now in
    let written : List Column → Line → List ℕ = λ columns line. grid_line c.args.shapes.now (line_texts columns (shown t rows line)) in
    record {
      out = λ columns is_for counted.
          written-more (written columns) c.args.lines.now c.loop-place.place c.line_at.result.now c.args.out.now c.loop-place.out _ c.loop-place-test.true c.line_at.ensures
          (kept.out columns is_for counted)
          (c.in_ok-write_line.ensures columns (shown t rows c.line_at.result.now) (c.in_ok-show.ensures.shows columns (kept.stays columns is_for)) counted);
      stays = λ columns is_for.
          let shows = c.in_ok-show.ensures.shows columns (kept.stays columns is_for) in
          record { cells = shows.beside.cells; empty = shows.empty };
      ready = c.in_ok-show.ensures.ready;
    }

pub returns : goal.returns
returns g c = λ columns is_for counted.
    let rows = (g.A.Answer.answer c.args.answer.now).rows.rows in
    let written : Line → List ℕ = λ line. grid_line c.args.shapes.now (line_texts columns (shown c.args.context.now rows line)) in
    c.loop-place.invariant.out columns is_for counted
    ∙ ap (λ (lines : List Line). c.args.out.now ++ flat_map written lines) (take_all c.loop-place.place c.args.lines.now c.loop-place-test.false)
