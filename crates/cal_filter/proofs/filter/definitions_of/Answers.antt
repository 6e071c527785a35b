use Rattle.std.proofs.Common.{arith, get_or, take}
use Rattle.cal_context.proofs.CallerLemmas.{Grows-trans}
use Rattle.std.proofs.lemmas.List.Elements.{All-push}
use Rattle.cal_filter.specs.Latest.{AreNamed}
use Rattle.cal_filter.specs.Ready.{IsDefinition}
use Rattle.cal_filter.proofs.Growing.{definition-Grows}
use Rattle.cal_filter.proofs.NamedLemmas.{named_front}
use Rattle.cal_filter.proofs.Zips.{zip_more, zip_weaker}
use Rattle.cal_filter.proofs.filter.definitions_of.Goals as goal

pub loop-definition-preserved : goal.loop-definition-preserved
loop-definition-preserved c =
    let grown = c.in_ok-made.ensures.grows in
    record {
      grows = Grows-trans c.args.context.now c.loop-definition.context c.new.new.context
          c.loop-definition.invariant.grows grown;
      ready = zip_more (IsDefinition c.new.new.context) c.args.lets.now
          c.loop-definition.definitions.items c.push.new.self.items
          c.loop-definition.definition-index c.definition-item.result c.in_ok-made.made
          (zip_weaker (IsDefinition c.loop-definition.context) (IsDefinition c.new.new.context)
          (definition-Grows grown) (take c.loop-definition.definition-index c.args.lets.now)
          c.loop-definition.definitions.items c.loop-definition.invariant.ready)
          (omega arith) c.definition-item.is c.in_ok-push.ensures.items c.in_ok-made.ensures.ready;
      named = rw c.in_ok-push.ensures.items
          (All-push (AreNamed c.new.new.names.keys) c.loop-definition.definitions.items c.in_ok-made.made
          (λ i d short. named_front c.loop-definition.names.keys c.new.new.names.keys
          c.in_ok-made.ensures.front (get_or c.loop-definition.definitions.items i d)
          (c.loop-definition.invariant.named i d short))
          c.in_ok-made.ensures.named);
    }

pub returns-in_err-made-clause-grows : goal.returns-in_err-made-clause-grows
returns-in_err-made-clause-grows c =
    Grows-trans c.args.context.now c.loop-definition.context c.new.new.context
    c.loop-definition.invariant.grows c.in_err-made.ensures.grows

pub returns-in_err-push-clause-grows : goal.returns-in_err-push-clause-grows
returns-in_err-push-clause-grows c =
    Grows-trans c.args.context.now c.loop-definition.context c.new.new.context
    c.loop-definition.invariant.grows c.in_ok-made.ensures.grows
