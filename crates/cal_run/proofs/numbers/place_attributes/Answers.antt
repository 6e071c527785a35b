use Rattle.cal_context.proofs.CallerLemmas.{Grows-trans}
use Rattle.cal_run.proofs.NumberLemmas.{placed_more}
use Rattle.cal_run.proofs.numbers.place_attributes.Goals as goal

pub loop-attribute-preserved : goal.loop-attribute-preserved
loop-attribute-preserved c =
    let old = c.loop-attribute.invariant in
    record {
      placed = placed_more c.loop-attribute.context c.attribute.new.self
          c.in_ok-attribute.field-0
          c.attribute-item.result
          c.args.attributes.now c.loop-attribute.attribute-index c.requires.declared old.placed
          c.in_ok-attribute.ensures.added
          c.attribute-item.is c.loop-attribute-test.true;
      grows = Grows-trans _ _ _ old.grows c.attribute.ensures.grows;
    }
