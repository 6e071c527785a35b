use Rattle.std.proofs.Common.{◌∙◌, arith}
use Rattle.std.proofs.lemmas.List.Elements.{All-push}
use Rattle.cal_filter.specs.Known.{Knows}
use Rattle.cal_filter.proofs.ReadyLemmas.{sought_next}
use Rattle.cal_filter.proofs.operands.seekers_of.Goals as goal

pub loop-name-preserved : goal.loop-name-preserved
loop-name-preserved c = record {
  same = sought_next c.args.op c.args.names.now c.loop-name.name-index c.name-item.result
      c.loop-name.seekers.items c.push.new.self.items c.new-seeker.result c.loop-name.invariant.same
      (omega arith) c.name-item.is c.in_ok-push.ensures.items
      (c.new-seeker.ensures.sought
      ∙ (λ i. record { name = c.in_ok-copy.ensures i; wanted = c.of_op.ensures i }));
  knows = λ t.
      rw c.in_ok-push.ensures.items
      (All-push (Knows t) c.loop-name.seekers.items c.new-seeker.result
      (c.loop-name.invariant.knows t) (c.new-seeker.ensures.knows t));
}
