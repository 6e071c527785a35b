use Rattle.std.proofs.Common.{true, false, sym, ap, ◌∙◌}
use Rattle.cal_keys.specs.Takers.{lower_place}
use Rattle.cal_keys.proofs.TakerLemmas.{taker_in_paths}
use Rattle.cal_keys.proofs.takers.Takers.taker_of.Goals as goal

pub returns-then-is_of_hierarchy : goal.returns-then-is_of_hierarchy
returns-then-is_of_hierarchy c = λ names h. record {
  in_paths =
      c.lower-in_paths.ensures
      ∙ ap (lower_place c.args.self.now.path) (c.named-beside.ensures names h)
      ∙ sym (taker_in_paths names c.args.attribute.now c.args.self.now.path h.path true (sym c.is_of_hierarchy.ensures ∙ c.if-is_of_hierarchy.true));
  beside = c.named-beside.ensures names h;
}

pub returns-else-is_of_hierarchy : goal.returns-else-is_of_hierarchy
returns-else-is_of_hierarchy c = λ names h. record {
  in_paths =
      c.named-beside.ensures names h
      ∙ sym (taker_in_paths names c.args.attribute.now c.args.self.now.path h.path false (sym c.is_of_hierarchy.ensures ∙ c.if-is_of_hierarchy.false));
  beside = c.named-beside.ensures names h;
}
