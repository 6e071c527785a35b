use Rattle.std.proofs.Common.{refl, sym, ap, subst, ◌∙◌}
use Rattle.std.specs.Prelude.{Ok}
use Rattle.cal_call.proofs.FewGenerated.{IsFew, asked_few}
use Rattle.cal_call.proofs.commands.carry_out.Goals as goal
use Rattle.cal_call.proofs.commands.carry_out.Goals.{in-Ok-Query, in-Ok-Gen, in-Err}

-- the sizes that words ask for are within the limits
pub write_generated-requires-clause-threads : goal.write_generated-requires-clause-threads
write_generated-requires-clause-threads g c lifetimes outlive =
    (subst IsFew (sym c.read_words.ensures ∙ c.in-Ok-Gen.is ∙ ap Ok c.in-Ok-Gen.field-0-is)
    (asked_few c.args.words.now)).0

pub write_generated-requires-clause-lines : goal.write_generated-requires-clause-lines
write_generated-requires-clause-lines g c lifetimes outlive =
    (subst IsFew (sym c.read_words.ensures ∙ c.in-Ok-Gen.is ∙ ap Ok c.in-Ok-Gen.field-0-is)
    (asked_few c.args.words.now)).1

-- each command's answer, with no journal
pub returns-clause-answers : goal.returns-clause-answers
returns-clause-answers g c =
    let empty = c.without_journal.ensures in
    let asked = c.read_words.ensures in
    rw (empty.journal, empty.fault) (elim c.match-read_words.branch [
      | in-Ok-Query w ↦
          rw (
            w.input-is,
            w.output-is,
            w.fault-is,
            w.err-fault.ensures.value,
            ← asked,
            w.in-Ok-Query.is,
            w.in-Ok-Query.field-0-is,
          ) w.query.ensures.answers
      | in-Ok-Gen w ↦
          rw (
            w.input-is,
            w.output-is,
            w.fault-is,
            w.err-fault-in-Ok-Gen.ensures.value,
            ← asked,
            w.in-Ok-Gen.is,
            w.in-Ok-Gen.field-0-is,
          ) w.write_generated.ensures.answers
      | in-Err w ↦ rw (w.fault-is, ← asked, w.in-Err.is) refl
    ])
