use Rattle.std.proofs.Common.{◌<◌, filter, length, map, sym, subst, ap, ◌∙◌}
use Rattle.std.specs.List.{All}
use Rattle.std.proofs.lemmas.List.Elements.{All-filter}
use Rattle.cal_context.specs.Snapshots.{IsBelowRoot, entry_of}
use Rattle.cal_context.specs.Tree.{path_at}
use Rattle.cal_context.specs.declared.snapshot.Immediate.{Immediate}
use Rattle.cal_engine.specs.Looked.{is_looked}
use Rattle.cal_engine.proofs.Looking.{looked_imms}
use Rattle.cal_engine.proofs.gate.Gate.copy_looked.Goals as goal

pub returns-clause-within : goal.returns-clause-within
returns-clause-within c =
    let t = c.args.context.now in
    let p = λ (imm : Immediate). is_looked c.catch_up.new.self imm.attribute in
    let within = λ (imm : Immediate). imm.attribute.0 < length t.attributes in
    record {
      nodes = subst (All (IsBelowRoot t)) (sym (c.in_ok-put_nodes.ensures ∙ c.deref.ensures.value))
          c.requires.nodes;
      imms = subst (All within)
          (sym (c.in_ok-put_looked.ensures.same ∙ ap (filter p) c.deref-2.ensures.value))
          (All-filter p within c.args.snapshot.now.imms.items c.requires.imms);
    }

pub returns-clause-stays : goal.returns-clause-stays
returns-clause-stays c = λ h. record {
  filter = h.filter;
  small = h.small;
  looked = (c.in_ok-catch_up.ensures h.looked).is;
}

pub returns-clause-looked : goal.returns-clause-looked
returns-clause-looked c = λ h.
    let t = c.args.context.now in
    let p = λ (imm : Immediate). is_looked c.catch_up.new.self imm.attribute in
    let imms = c.in_ok-put_looked.ensures.same ∙ ap (filter p) c.deref-2.ensures.value in
    λ i. record {
      paths = map (path_at t) ((c.in_ok-put_nodes.ensures ∙ c.deref.ensures.value) i);
      imms = (ap (map (entry_of t)) imms
          ∙ looked_imms c.args.query.now t c.catch_up.new.self (c.in_ok-catch_up.ensures h.looked)
          c.args.snapshot.now.imms.items c.requires.imms) i;
    }
