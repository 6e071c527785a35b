use Rattle.std.proofs.Common.{[], ap, ◌∙◌, subst, sym}
use Rattle.std.proofs.lemmas.Result.{IfOk-weaker}
use Rattle.cal_ran.specs.Ended.{IsEnded}
use Rattle.cal_records.specs.Records.{globals_of, run_rows}
use Rattle.cal_script.specs.declared.script.Script.{Script}
use Rattle.cal_write.specs.WriterGrows.{HasTaken-stays}
use Rattle.cal_write.specs.Writer.{HasTaken}
use Rattle.cal_replayed.proofs.replaying.write_rows.Goals as goal

pub take_rows-requires : goal.take_rows-requires
take_rows-requires c = record {
  ended = subst (λ (s : Script). IsEnded s c.args.ended.now) (sym c.requires.ended.script_is)
      c.requires.ended;
}

pub returns-clause-taken : goal.returns-clause-taken
returns-clause-taken c =
    let rows = run_rows c.args.script.now c.args.ended.now.journal in
    IfOk-weaker c.put_globals.result _ _
    (λ globals means.
    HasTaken-stays c.take_rows.new.taker c.take_rows.new.self.context c.put_globals.new.context
    rows (subst (λ (s : Script). HasTaken c.take_rows.new.taker c.take_rows.new.self.context
    (run_rows s c.args.ended.now.journal)) c.requires.ended.script_is
    (c.in_ok-take_rows.ensures.taken [] c.requires.none)) c.put_globals.ensures.grows)
    c.put_globals.ensures.means

pub returns-clause-globals : goal.returns-clause-globals
returns-clause-globals c =
    IfOk-weaker c.put_globals.result _ _
    (λ globals means. record {
      within = means.within;
      means = means.means ∙ ap globals_of c.as_slice.ensures;
    })
    c.put_globals.ensures.means
