use Rattle.std.proofs.Common.{Option, ℕ, ap, refl, subst}
use Rattle.cal_lawful.proofs.RowLemmas.{rows-broken, rows-hold}
use Rattle.cal_lawful.specs.Broken.{all_rows}
use Rattle.cal_lawful.specs.Checking.{TellsRule}
use Rattle.cal_script.specs.declared.journal.RowMark.{RowMark}
use Rattle.cal_lawful.proofs.lawful.check_row.Goals as goal

pub returns-in-None-clause-held : goal.returns-in-None-clause-held
returns-in-None-clause-held c =
    let script = c.args.script.now in
    let journal = c.args.text.now.journal in
    rows-hold script c.args.text.now c.args.kind c.requires.rows
    (subst (λ (first : Option ℕ). TellsRule script journal c.args.kind first
    (all_rows script journal)) c.in-None.is c.requires.told)

pub returns-in-Some-clause-broken : goal.returns-in-Some-clause-broken
returns-in-Some-clause-broken c =
    let script = c.args.script.now in
    let journal = c.args.text.now.journal in (
      refl,
      rows-broken script c.args.text.now c.args.kind c.requires.rows c.in-Some.row _
          (subst (λ (first : Option ℕ). TellsRule script journal c.args.kind first
          (all_rows script journal)) c.in-Some.is c.requires.told)
          (ap (λ (m : RowMark). m.line) c.mark_at.ensures),
    )
