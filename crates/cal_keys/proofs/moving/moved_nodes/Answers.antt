use Rattle.std.proofs.Common.{◌<◌, length}
use Rattle.std.proofs.lemmas.List.Elements.{All-weaker}
use Rattle.cal_context.specs.Snapshots.{IsBelowRoot}
use Rattle.cal_context.proofs.CallerLemmas.{Grows-refl, Grows-trans}
use Rattle.cal_keys.proofs.MovedNumbers.{nodes_none}
use Rattle.cal_keys.proofs.moving.moved_nodes.Goals as goal

pub move_nodes-requires : goal.move_nodes-requires
move_nodes-requires c =
    let t = c.args.from.now in
    All-weaker (IsBelowRoot t) (λ n. n.0 < length t.paths) (λ n b. b.within) _
    (c.are_below_root.ensures c.if-not-are_below_root.false)

pub loop-number-init : goal.loop-number-init
loop-number-init c = record {
  grows = Grows-refl c.args.to.now;
  moved = nodes_none c.args.from.now c.args.to.now _ c.in_ok-moved.moved.items c.in_ok-moved.ensures;
}

pub loop-number-preserved : goal.loop-number-preserved
loop-number-preserved c = record {
  grows = Grows-trans c.args.to.now c.loop-number.to c.move_nodes.new.to c.loop-number.invariant.grows c.in_ok-move_nodes.ensures.grows;
  moved = c.in_ok-move_nodes.ensures.moved c.loop-number.invariant.moved;
}
