use Rattle.std.proofs.Common.{map, subst, sym, ap, ◌∙◌}
use Rattle.cal_context.specs.Tree.{path_at}
use Rattle.cal_keys.specs.Keys.{nth_key}
use Rattle.cal_keys.specs.Moves.{IsMovedKey}
use Rattle.cal_keys.specs.Leading.{Leads}
use Rattle.cal_engine.proofs.joining.moved_key.Goals as goal

pub returns : goal.returns
returns c = λ t u are.
    let imms = c.in-Some.imms in
    subst (IsMovedKey t u (nth_key c.args.keys.now c.args.number)) (sym c.of.ensures) (record {
      paths = c.in_ok-paths.ensures t u are ∙ ap (map (path_at t)) c.paths.ensures;
      imms = subst (λ n. Leads u (path_at t n) imms) c.imms.ensures (are c.imms.result imms (c.number_in.ensures imms c.in-Some.is));
    })
