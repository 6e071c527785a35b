use Rattle.std.proofs.Common.{◌≡◌, arith, ap, length, subst, sym, ◌∙◌}
use Rattle.cal_keys.specs.Keys.{names_in}
use Rattle.cal_keys.specs.Takers.{AreTakers}
use Rattle.cal_keys.proofs.sieve.Sieve.of.Goals as goal
use Rattle.cal_keys.proofs.sieve.Sieve.of.Goals.{in-Some+in_ok-takers-in-Some, in-None+in_ok-takers-in-None}

pub returns : goal.returns
returns c = λ t own. record {
  takers = elim c.match-names.branch [
    | in-Some+in_ok-takers-in-Some w ↦
        subst (λ x. AreTakers t (names_in c.args.names.now) x) (sym w.takers-is)
        (subst (λ ns. AreTakers t ns w.in_ok-takers-in-Some.takers) (w.as_slice.ensures ∙ sym (ap names_in w.in-Some.is)) (w.in_ok-takers-in-Some.ensures t))
    | in-None+in_ok-takers-in-None w ↦
        subst (λ x. AreTakers t (names_in c.args.names.now) x) (sym w.takers-is)
        (subst (λ ns. AreTakers t ns w.in_ok-takers-in-None.takers) (sym (ap names_in w.in-None.is)) (w.in_ok-takers-in-None.ensures t))
  ];
  shares = λ n l. let none : length c.new.result ≡ 0 = ap length c.new.ensures in absurd (omega (arith, l, none));
}
