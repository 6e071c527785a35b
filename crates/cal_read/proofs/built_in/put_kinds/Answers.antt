use Rattle.std.proofs.lemmas.Option.{slice_get-get_or}
use Rattle.cal_context.proofs.CallerLemmas.{Grows-trans}
use Rattle.cal_value.specs.Kinds.{every_kind}
use Rattle.cal_read.proofs.BuiltInLemmas.{put_kind}
use Rattle.cal_read.proofs.built_in.put_kinds.Goals as goal

pub returns-in_err-insert-clause-grows : goal.returns-in_err-insert-clause-grows
returns-in_err-insert-clause-grows c = Grows-trans _ _ _ c.loop-kind.invariant.grows c.held_kind.ensures.grows

pub loop-kind-preserved : goal.loop-kind-preserved
loop-kind-preserved c = record {
  grows = Grows-trans _ _ _ c.loop-kind.invariant.grows c.held_kind.ensures.grows;
  held = put_kind c.loop-kind.context c.held_kind.new.context c.held_kind.ensures.grows c.loop-kind.nodes c.insert.new.self c.loop-kind.kind-index c.node.result c.in_ok-held.held
      _ (slice_get-get_or every_kind c.loop-kind.kind-index _ c.loop-kind-test.true) c.node.ensures c.loop-kind.invariant.held c.in_ok-held.ensures.held c.in_ok-insert.ensures;
}
