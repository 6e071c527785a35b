-- Open values stand in a context for good.
use Rattle.std.proofs.Common.{◌≡◌, ◌<◌, List, [], ◌∷◌, ◌++◌, length, get_or, map, sym, ◌∙◌}
use Rattle.std.specs.List.{All}
use Rattle.cal_context.proofs.CallerLemmas.{attribute_at-Grows, path_at-Grows}
use Rattle.cal_context.proofs.CallerLemmas.{within_attributes, within_paths}
use Rattle.cal_context.proofs.ListLemmas.{map-alike}
use Rattle.cal_context.specs.Tree.{Tree, Grows}
use Rattle.cal_context.specs.declared.numbers.NodeNumber.{NodeNumber}
use Rattle.cal_board.specs.Contexts.{NodeStands, opened_entry}
use Rattle.cal_board.specs.declared.opened.Opened.{Opened}
use Rattle.cal_value.specs.declared.variant.Variant.{Variant}

module _ {old new : Tree} (grows : Grows old new) where
  pub entries-Grows : (path : List (Opened Variant))
      → All (λ (o : Opened Variant). o.attribute < length old.attributes) path
      → map (opened_entry new) path ≡ map (opened_entry old) path
  entries-Grows path known = map-alike (opened_entry new) (opened_entry old) path
      (λ k d l. let o = get_or path k d in λ j. record {
        attr = attribute_at-Grows grows (record { 0 = o.attribute }) (known k d l) j;
        value = o.value;
      })

  pub NodeStands-Grows : (n : NodeNumber) (path : List (Opened Variant)) → NodeStands old n path
      → NodeStands new n path
  NodeStands-Grows n path is = record {
    below = is.below;
    within = within_paths grows n.0 is.within;
    known = λ k d l. within_attributes grows _ (is.known k d l);
    entries = path_at-Grows grows n is.within ∙ is.entries ∙ sym (entries-Grows path is.known);
  }
