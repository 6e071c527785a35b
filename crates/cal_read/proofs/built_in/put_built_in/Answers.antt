use Rattle.std.proofs.Common.{◌++◌, map, reverse, subst}
use Rattle.std.proofs.lemmas.List.{take_all}
use Rattle.std.proofs.lemmas.Option.{slice_get-get_or}
use Rattle.cal_context.proofs.CallerLemmas.{Grows-trans}
use Rattle.cal_read.specs.BuiltIn.{every_built_in, named_built_in}
use Rattle.cal_read.specs.Held.{AreHeld}
use Rattle.cal_read.proofs.BuiltInLemmas.{put_attribute}
use Rattle.cal_read.proofs.built_in.put_built_in.Goals as goal

pub returns-in_err-insert-clause-grows : goal.returns-in_err-insert-clause-grows
returns-in_err-insert-clause-grows c = Grows-trans _ _ _ c.loop-attribute.invariant.grows c.held_built_in.ensures.grows

pub loop-attribute-preserved : goal.loop-attribute-preserved
loop-attribute-preserved c = record {
  grows = Grows-trans _ _ _ c.loop-attribute.invariant.grows c.held_built_in.ensures.grows;
  held = λ named are. put_attribute c.loop-attribute.context c.held_built_in.new.context c.held_built_in.ensures.grows c.loop-attribute.nodes c.insert.new.self c.loop-attribute.attribute-index
      c.id.result c.in_ok-held.held _ named (slice_get-get_or every_built_in c.loop-attribute.attribute-index _ c.loop-attribute-test.true) c.id.ensures (c.loop-attribute.invariant.held named are)
      c.in_ok-held.ensures.held c.in_ok-insert.ensures;
}

pub returns-clause-held : goal.returns-clause-held
returns-clause-held c = λ named are.
    subst (λ l. AreHeld c.loop-attribute.context c.loop-attribute.nodes (reverse (map named_built_in l) ++ named))
    (take_all c.loop-attribute.attribute-index every_built_in c.loop-attribute-test.false) (c.loop-attribute.invariant.held named are)
