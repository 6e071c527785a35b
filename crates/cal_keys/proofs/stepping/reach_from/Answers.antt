use Rattle.std.proofs.Common.{List, ◌++◌, subst}
use Rattle.std.proofs.lemmas.List.{take_all}
use Rattle.cal_context.proofs.CallerLemmas.{Grows-refl, Grows-trans}
use Rattle.cal_value.specs.declared.attribute.Entry.{Entry}
use Rattle.cal_keys.specs.Leading.{Leads}
use Rattle.cal_keys.proofs.Reaching.{leads-begin, leads-more}
use Rattle.cal_keys.proofs.stepping.reach_from.Goals as goal

pub loop-entry-init : goal.loop-entry-init
loop-entry-init c = record {
  grows = Grows-refl c.args.context.now;
  leads = λ before h. leads-begin c.args.context.now before c.args.from h;
}

pub loop-entry-preserved : goal.loop-entry-preserved
loop-entry-preserved c = record {
  grows = Grows-trans c.args.context.now c.loop-entry.context c.step.new.context c.loop-entry.invariant.grows c.in_ok-node.ensures.grows;
  leads = λ before h. leads-more c.loop-entry.context c.step.new.context before c.args.path.now c.loop-entry.entry-index c.entry-item.result c.loop-entry.node c.in_ok-node.node
      c.loop-entry-test.true c.entry-item.is (c.loop-entry.invariant.leads before h) c.in_ok-node.ensures.step;
}

pub returns-clause-leads : goal.returns-clause-leads
returns-clause-leads c = λ before h.
    subst (λ (l : List Entry). Leads c.loop-entry.context (before ++ l) c.loop-entry.node)
    (take_all c.loop-entry.entry-index c.args.path.now c.loop-entry-test.false) (c.loop-entry.invariant.leads before h)
