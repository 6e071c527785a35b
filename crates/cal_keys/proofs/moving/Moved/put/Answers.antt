use Rattle.cal_context.proofs.CallerLemmas.{Grows-trans}
use Rattle.cal_keys.proofs.MovedNumbers.{attributes-Grows}
use Rattle.cal_keys.proofs.moving.Moved.put.Goals as goal

pub returns-clause-moved : goal.returns-clause-moved
returns-clause-moved c = record {
  attributes = attributes-Grows c.args.self.now.from c.moved_attributes.new.to c.moved_nodes.new.to
      c.in_ok-self.field-0.items c.in_ok-self-2.ensures.grows
      c.in_ok-self.ensures.moved;
  nodes = c.in_ok-self-2.ensures.moved;
}

pub returns-clause-grows : goal.returns-clause-grows
returns-clause-grows c =
    Grows-trans _ _ _ c.in_ok-self.ensures.grows c.in_ok-self-2.ensures.grows
