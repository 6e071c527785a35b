use Rattle.std.proofs.Common.{◌≡◌, ◌-◌, ◌∷◌, [], ◌++◌, false, List, ap, sym, ◌∙◌, rules}
use Rattle.std.proofs.lemmas.Result.{on_ok_weaker}
use Rattle.cal_board.specs.Readings.{last_reading}
use Rattle.cal_run.proofs.AddingLemmas.{inclusive-closed}
use Rattle.cal_run.specs.Lines.{is_shared}
use Rattle.cal_run.specs.Snapshots.{inclusive_duration, numbered}
use Rattle.cal_steps.proofs.snapshot.add_inclusive.Goals as goal
use Rattle.cal_steps.specs.Sights.{sight_of}
use Rattle.cal_value.specs.declared.attribute.Entry.{Entry}
use Rattle.cal_words.specs.declared.op.OpCode.TheVariants as code

pub returns-in_ok-numbered : goal.returns-in_ok-numbered
returns-in_ok-numbered c =
    let script = c.args.script.now in
    let op = c.args.op in
    let s = sight_of c.args.sight.now in
    let end : op.code ≡ code.End = search rules in
    let own : is_shared script op ≡ false = cc in
    on_ok_weaker c.push.result (λ added. added
    ∙ ap (λ (e : Entry). c.args.out.now ++ e ∷ []) (c.in_ok-numbered.ensures
    ∙ ap (numbered inclusive_duration) (c.saturating_sub-inclusive.ensures
    ∙ (λ j. s.reading - (c.last-opened.ensures
    ∙ (λ k. last_reading s.readings (c.attr_ref.ensures k))) j)))
    ∙ ap (λ (es : List Entry). c.args.out.now ++ es) (sym (inclusive-closed script s op end own)))
    c.push.ensures.ok
