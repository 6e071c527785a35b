use Rattle.std.proofs.Common.{refl}
use Rattle.cal_journal.specs.declared.kind.JournalKind.TheVariants as kind
use Rattle.cal_lawful.proofs.RowLemmas.{all-rules, ends-refusal, handed-on, seen-read}
use Rattle.cal_lawful.specs.Checking.{IsRefusalOf}
use Rattle.cal_lawful.proofs.lawful.check_found.Goals as goal

pub test_found-requires-clause-read : goal.test_found-requires-clause-read
test_found-requires-clause-read c = seen-read c.args.script.now c.args.text.now c.requires.held

pub returns-in_err-check_row-clause-fault : goal.returns-in_err-check_row-clause-fault
returns-in_err-check_row-clause-fault c =
    handed-on (IsRefusalOf c.args.script.now c.args.text.now)
    c.from_residual-in_err-check_row.result _
    c.from_residual-in_err-check_row.ensures.1
    (ends-refusal c.args.script.now c.args.text.now kind.SeenFixed 6 refl c.requires.held
    c.in_err-check_row.field-0.0 c.in_err-check_row.ensures.broken)

pub returns-in_err-check_row-2-clause-fault : goal.returns-in_err-check_row-2-clause-fault
returns-in_err-check_row-2-clause-fault c =
    let h = c.requires.held in
    handed-on (IsRefusalOf c.args.script.now c.args.text.now)
    c.from_residual-in_err-check_row-2.result _
    c.from_residual-in_err-check_row-2.ensures.1
    (ends-refusal c.args.script.now c.args.text.now kind.Reading 7 refl (
      h.0,
      (
        h.1.0,
        (
          h.1.1.0,
          (
            h.1.1.1.0,
            (
              h.1.1.1.1.0,
              (h.1.1.1.1.1.0, (c.in_ok-check_row.ensures.held, tt)),
            ),
          ),
        ),
      ),
    )
    c.in_err-check_row-2.field-0.0 c.in_err-check_row-2.ensures.broken)

pub returns-in_err-check_row-3-clause-fault : goal.returns-in_err-check_row-3-clause-fault
returns-in_err-check_row-3-clause-fault c =
    let h = c.requires.held in
    handed-on (IsRefusalOf c.args.script.now c.args.text.now)
    c.from_residual-in_err-check_row-3.result _
    c.from_residual-in_err-check_row-3.ensures.1
    (ends-refusal c.args.script.now c.args.text.now kind.Reply 8 refl (
      h.0,
      (
        h.1.0,
        (
          h.1.1.0,
          (
            h.1.1.1.0,
            (
              h.1.1.1.1.0,
              (h.1.1.1.1.1.0, (c.in_ok-check_row.ensures.held, (c.in_ok-check_row-2.ensures.held, tt))),
            ),
          ),
        ),
      ),
    )
    c.in_err-check_row-3.field-0.0 c.in_err-check_row-3.ensures.broken)

pub returns-clause-lawful : goal.returns-clause-lawful
returns-clause-lawful c =
    let h = c.requires.held in
    all-rules c.args.script.now c.args.text.now (
      h.0,
      (
        h.1.0,
        (
          h.1.1.0,
          (
            h.1.1.1.0,
            (
              h.1.1.1.1.0,
              (
                h.1.1.1.1.1.0,
                (
                  c.in_ok-check_row.ensures.held,
                  (c.in_ok-check_row-2.ensures.held, (c.in_ok-check_row-3.ensures.held, tt)),
                ),
              ),
            ),
          ),
        ),
      ),
    )
