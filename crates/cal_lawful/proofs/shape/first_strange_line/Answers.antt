use Rattle.std.proofs.Common.{◌≡◌, ◌∙◌, ap, arith, false, length, refl, sym, true}
use Rattle.cal_lawful.proofs.BrokenLemmas.{all-wanted, missing-rows, more-wanted, strange-row}
use Rattle.cal_script.specs.declared.journal.RowMark.{RowMark}
use Rattle.cal_lawful.proofs.shape.first_strange_line.Goals as goal

pub returns-then-not-is_wanted-clause-some : goal.returns-then-not-is_wanted-clause-some
returns-then-not-is_wanted-clause-some c =
    strange-row c.args.script.now c.args.text.now c.args.starts.now c.args.wanted.now
    c.requires.starts c.requires.wanted
    c.loop-row.row c.mark_at.result.line false c.loop-row-test.true c.loop-row.invariant
    (λ is. let no : false ≡ true = sym c.if-not-is_wanted.true ∙ c.is_wanted.ensures.1 is in cc)
    (ap (λ (m : RowMark). m.line) c.mark_at.ensures)

pub returns-then-starts-wanted-clause-some : goal.returns-then-starts-wanted-clause-some
returns-then-starts-wanted-clause-some c =
    let whole : c.loop-row.row ≡ length c.args.starts.now = omega arith in
    missing-rows c.args.script.now c.args.text.now c.args.starts.now c.args.wanted.now
    c.requires.starts c.requires.wanted
    c.loop-row.row c.args.text.now.marks.end whole c.loop-row.invariant c.if-starts-wanted.true refl

pub returns-clause-none : goal.returns-clause-none
returns-clause-none c =
    let whole : c.loop-row.row ≡ length c.args.starts.now = omega arith in
    all-wanted c.args.script.now c.args.text.now c.args.starts.now c.args.wanted.now
    c.requires.starts c.requires.wanted
    c.loop-row.row whole c.loop-row.invariant c.if-starts-wanted.false

pub loop-row-preserved : goal.loop-row-preserved
loop-row-preserved c =
    more-wanted c.args.script.now c.args.text.now c.args.starts.now c.args.wanted.now
    c.requires.starts c.requires.wanted
    c.loop-row.row false c.loop-row-test.true c.loop-row.invariant
    (c.is_wanted.ensures.0 c.if-not-is_wanted.false)
