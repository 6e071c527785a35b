-- What a filter keeps stays right while the context grows.
use Rattle.std.proofs.Common.{sym, ◌∙◌, ap, None, position}
use Rattle.std.specs.List.{last_or}
use Rattle.std.specs.Ordering.{eq_by_cmp}
use Rattle.cal_context.specs.Tree.{Tree, Grows}
use Rattle.cal_context.proofs.CallerLemmas.{path_at-Grows, attribute_at-Grows}
use Rattle.cal_context.proofs.CallerLemmas.{within_paths, within_attributes}
use Rattle.cal_ql.specs.declared.query.Cond.{Cond}
use Rattle.cal_ql.specs.declared.query.Let.{Let}
use Rattle.cal_ql.specs.declared.query.Query.{Query}
use Rattle.cal_value.specs.Texts.{text_cmp}
use Rattle.cal_filter.specs.Known.{Knows, nearest_at, sought}
use Rattle.cal_filter.specs.Latest.{KnowsNames}
use Rattle.cal_filter.specs.Ready.{IsCondition, IsDefinition, IsFilter}
use Rattle.cal_filter.specs.Results.{number_for}
use Rattle.cal_filter.specs.Sought.{last_sought}
use Rattle.cal_filter.specs.declared.condition.Condition.{Condition}
use Rattle.cal_filter.specs.declared.definition.Definition.{Definition}
use Rattle.cal_filter.specs.declared.filter.Filter.{Filter}
use Rattle.cal_filter.specs.declared.latest.Latest.{Latest}
use Rattle.cal_filter.specs.declared.seeker.Seeker.{Seeker}
use Rattle.cal_filter.proofs.Zips.{zip_weaker}

module _ {old new : Tree} (grows : Grows old new) where
  pub knows-Grows : (s : Seeker) → Knows old s → Knows new s
  knows-Grows s k = record {
    attributes = λ a h. let known = k.attributes a h in
        record {
          within = within_attributes grows a.0 known.within;
          named = known.named
              ∙ ap (λ b. eq_by_cmp text_cmp b.name s.name)
              (sym (attribute_at-Grows grows a known.within));
        };
    nodes = λ n h. let near = k.nodes n h in
        record {
          within = within_paths grows n.0 near.within;
          other_within = within_paths grows (nearest_at s n).0 near.other_within;
          last = ap (last_sought (sought s)) (path_at-Grows grows n near.within) ∙ near.last
              ∙ ap (last_or None) (sym (path_at-Grows grows (nearest_at s n) near.other_within));
        };
  }

  pub definition-Grows : (l : Let) (d : Definition) → IsDefinition old l d → IsDefinition new l d
  definition-Grows l d h = record {
    defined = record {
      op = h.defined.op;
      n = h.defined.n;
      names = h.defined.names;
      attributes = λ k. let numbered = h.defined.attributes k in
          record {
            within = within_attributes grows (number_for d.attributes k).0 numbered.within;
            is = attribute_at-Grows grows (number_for d.attributes k) numbered.within
                ∙ numbered.is;
          };
    };
    knows = λ i d e. knows-Grows _ (h.knows i d e);
  }

  condition-Grows : (c : Cond) (d : Condition) → IsCondition old c d → IsCondition new c d
  condition-Grows c d h = record { asked = h.asked; knows = knows-Grows d.seeker h.knows }

  names-Grows : (l : Latest) → KnowsNames old l → KnowsNames new l
  names-Grows l k = record {
    apart = k.apart;
    attributes = λ a h. let known = k.attributes a h in
        record {
          within = within_attributes grows a.0 known.within;
          number = known.number
              ∙ ap (λ b. position (eq_by_cmp text_cmp b.name) l.names.keys)
              (sym (attribute_at-Grows grows a known.within));
        };
  }

  pub filter-Grows : (q : Query) (f : Filter) → IsFilter old q f → IsFilter new q f
  filter-Grows q f h = record {
    lets = zip_weaker (IsDefinition old) (IsDefinition new) definition-Grows q.lets
        f.definitions.items h.lets;
    named = h.named;
    latest = names-Grows f.latest h.latest;
    conds = zip_weaker (IsCondition old) (IsCondition new) condition-Grows q.conds
        f.conditions.items h.conds;
    known = record { lets = h.known.lets; conds = h.known.conds };
  }
