use Rattle.std.proofs.Common.{subst, sym}
use Rattle.cal_keys.specs.Sieves.{IsReadySieve, KnowsAttributes}
use Rattle.cal_keys.proofs.sieve.Sieve.catch_up.Goals as goal

pub returns-then-is_none-clause-ready : goal.returns-then-is_none-clause-ready
returns-then-is_none-clause-ready c = λ names h.
    let t = c.args.context.now in
    let known = c.in_ok-catch_up.ensures names h.takers in
    let none = c.is_none.ensures names t c.if-is_none.true known.are in
    subst (λ ns. IsReadySieve t c.args.own.now ns c.know_nothing.new.self) (sym none)
    (c.know_nothing.ensures
    (subst (λ ns. KnowsAttributes t c.args.own.now ns (record { takers = c.catch_up.new.self; shares = c.args.self.now.shares })) none
    (record { is = record { takers = known.are; shares = h.shares }; attributes = known.all })))
