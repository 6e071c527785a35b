use Rattle.std.proofs.Common.{◌∙◌, arith}
use Rattle.cal_keys.proofs.TakerLemmas.{path_placed}
use Rattle.cal_keys.proofs.takers.Takers.of.Goals as goal

pub returns : goal.returns
returns c = λ t. record {
  places = record {
    placed = c.in_ok-places.ensures;
    path = c.copied-path.ensures ∙ c.get.ensures.value ∙ path_placed c.args.names.now c.in_ok-places.places c.in_ok-path.path c.in_ok-path.ensures c.in_ok-places.ensures;
  };
  known = λ a l. absurd (omega (arith, l));
}
