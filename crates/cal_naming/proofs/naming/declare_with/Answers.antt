use Rattle.std.proofs.Common.{List, sym, subst}
use Rattle.std.specs.Prelude.{IfSome}
use Rattle.cal_names.specs.Kept.{plan_of}
use Rattle.cal_names.specs.declared.declare.Declared.{Declared}
use Rattle.cal_naming.specs.Settled.{IsSettled}
use Rattle.cal_once.specs.Seats.{view}
use Rattle.cal_naming.proofs.naming.declare_with.Goals as goal

pub tell-requires : goal.tell-requires
tell-requires g c = record {
  plan = plan_of c.args.names.now;
  v = view c.answer_all.new.first;
  settled = subst (λ (own : List (List Declared)).
      IsSettled (plan_of c.args.names.now) (view c.answer_all.new.first)
      c.args.threads.now own) (sym c.as_slice.ensures.value)
      (subst (λ some. IfSome some (λ own. IsSettled (plan_of c.args.names.now)
      (view c.answer_all.new.first) c.args.threads.now own.items)) c.in-Some.is
      c.in_ok-some.ensures.settled);
  slots_are = sym c.requires.slots;
}
