use Rattle.std.proofs.Common.{sym, ◌∙◌, arith, subst}
use Rattle.cal_filter.specs.Latest.{IsLatest}
use Rattle.cal_filter.proofs.definition.Definition.append.Goals as goal

pub returns-clause-follows : goal.returns-clause-follows
returns-clause-follows c = record {
  latest = λ h.
      subst (IsLatest c.args.context.now c.note.new.self) (sym c.in_ok-push.ensures.items)
      (c.note.ensures.follows c.args.context.now c.args.snapshot.now.imms.items
      (c.len.ensures ∙ c.args.snapshot.now.imms.ok.0) (omega arith) h);
  names = c.note.ensures.names;
}
