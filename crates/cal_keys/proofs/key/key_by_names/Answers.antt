use Rattle.cal_context.proofs.CallerLemmas.{Grows-trans}
use Rattle.cal_keys.proofs.KeyLemmas.{key_of_snapshot}
use Rattle.cal_keys.proofs.key.key_by_names.Goals as goal

pub returns-clause-key : goal.returns-clause-key
returns-clause-key c = λ names h.
    key_of_snapshot c.args.context.now c.key_paths.new.own c.key_imms.new.own c.args.snapshot.now names
    c.deref.result.now c.deref-2.result.now c.in_ok-paths.paths.items
    (record { paths = c.from_vec.result; imms = c.in_ok-imms.imms })
    c.deref.ensures.value c.deref-2.ensures.value c.in_ok-imms.ensures.grows
    (c.in_ok-paths.ensures.paths c.args.context.now names h (rw c.deref.ensures.value c.requires.nodes))
    (c.in_ok-imms.ensures.leads c.args.own.now names h)
    c.from_vec.ensures

pub returns-clause-grows : goal.returns-clause-grows
returns-clause-grows c =
    Grows-trans c.args.own.now c.key_paths.new.own c.key_imms.new.own c.in_ok-paths.ensures.grows c.in_ok-imms.ensures.grows
