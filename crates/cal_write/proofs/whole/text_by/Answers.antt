use Rattle.std.proofs.Common.{◌≡◌}
use Rattle.std.proofs.lemmas.Result.{IfOk-weaker}
use Rattle.cal_write.specs.CanonicalText.{canonical_text}
use Rattle.cal_write.proofs.WholeLemmas.{whole-text}
use Rattle.cal_write.proofs.whole.text_by.Goals as goal

pub finish-requires : goal.finish-requires
finish-requires c = c.in_ok-take_all.ensures.globals.within

pub returns : goal.returns
returns c =
    IfOk-weaker c.finish.result _ (λ text. text ≡ canonical_text c.args.records.now)
    (λ text ends. whole-text c.take_all.new.context c.take_all.new.writer c.args.records.now c.take_all.new.snapshot text
    c.in_ok-take_all.ensures.rows c.in_ok-take_all.ensures.globals ends)
    c.finish.ensures.text
