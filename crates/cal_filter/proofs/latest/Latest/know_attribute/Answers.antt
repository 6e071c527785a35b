use Rattle.std.proofs.Common.{[], ◌∷◌, ◌+◌, ◌∙◌, ap, length, position, refl}
use Rattle.std.proofs.lemmas.List.{length-append}
use Rattle.cal_value.specs.declared.attribute.Attribute.{Attribute}
use Rattle.cal_filter.specs.declared.latest.Latest.{Latest}
use Rattle.std.specs.Ordering.{eq_by_cmp}
use Rattle.cal_value.specs.Texts.{text_cmp}
use Rattle.cal_filter.proofs.LatestLemmas.{names_more}
use Rattle.cal_filter.proofs.latest.Latest.know_attribute.Goals as goal

pub returns-clause-knows : goal.returns-clause-knows
returns-clause-knows c = λ k.
    let old = c.args.self.now in
    let new : Latest = record {
      names = old.names;
      named = c.push.new.self;
      places = old.places;
      number_places = old.number_places;
    } in
    names_more c.args.context.now old new refl c.args.attribute.0 c.get_index_of.result
    c.in_ok-push.ensures c.requires.next c.requires.within
    (c.get_index_of.ensures.index
    ∙ ap (λ (a : Attribute). position (eq_by_cmp text_cmp a.name) old.names.keys)
    c.attribute_at.ensures) k

pub returns-clause-counted : goal.returns-clause-counted
returns-clause-counted c =
    ap length c.in_ok-push.ensures
    ∙ length-append c.args.self.now.named (c.get_index_of.result ∷ [])
