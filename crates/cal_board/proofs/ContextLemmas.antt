-- A child in a context stands for the open values up to its own.
use Rattle.std.proofs.Common.{◌≡◌, ◌<◌, List, [], ◌∷◌, ◌++◌, length, map, Option, Some, None, ap, subst, sym, ◌∙◌, arith}
use Rattle.std.specs.List.{All}
use Rattle.std.proofs.lemmas.List.{map-append}
use Rattle.std.proofs.lemmas.List.Elements.{All-nil, All-push}
use Rattle.cal_context.proofs.CallerLemmas.{path_at-Grows, root_path, root_within, within_attributes}
use Rattle.cal_context.specs.Children.{IsChild}
use Rattle.cal_context.specs.Tree.{Tree, Grows, IsContext, path_at}
use Rattle.cal_context.specs.declared.numbers.AttributeNumber.{AttributeNumber}
use Rattle.cal_context.specs.declared.numbers.NodeNumber.{NodeNumber}
use Rattle.cal_board.specs.ContextGrowth.{entries-Grows}
use Rattle.cal_board.specs.Contexts.{NodeStands, opened_entry}
use Rattle.cal_board.specs.Standing.{IsParent}
use Rattle.cal_board.specs.declared.opened.Opened.{Opened}
use Rattle.cal_value.specs.declared.variant.Variant.{Variant}

-- the number of the node below which a value is opened: the root's where there is none
abbrev pub IsAtParent : Option NodeNumber → NodeNumber → Type 0
IsAtParent None p = p ≡ record { 0 = 0 }
IsAtParent (Some n) p = p ≡ n

record Below (t : Tree) (p : NodeNumber) (path : List (Opened Variant)) : Type 0 where
  pub within : p.0 < length t.paths
  pub known : All (λ (o : Opened Variant). o.attribute < length t.attributes) path
  pub entries : path_at t p ≡ map (opened_entry t) path

module _ {old new : Tree} (is : IsContext old) (grows : Grows old new) where
  below_node : (n : NodeNumber) (path : List (Opened Variant)) → NodeStands old n path → Below old n path
  below_node n path s = record { within = s.within; known = s.known; entries = s.entries }

  below_root : Below old (record { 0 = 0 }) []
  below_root = record { within = root_within is; known = All-nil _; entries = root_path is }

  below : (opt : Option NodeNumber) (p : NodeNumber) (path : List (Opened Variant)) → IsAtParent opt p
      → IsParent (NodeStands old) opt path → Below old p path
  below None p path e s = subst (λ q. Below old q path) (sym e) (subst (Below old (record { 0 = 0 })) (sym s) below_root)
  below (Some n) p path e s = subst (λ q. Below old q path) (sym e) (below_node n path s)

  pub child_stands : (opt : Option NodeNumber) (p : NodeNumber) (a : AttributeNumber) (v : Variant) (n : NodeNumber)
      (path : List (Opened Variant)) → IsAtParent opt p → IsChild new p a v n → IsParent (NodeStands old) opt path
      → NodeStands new n (path ++ record { attribute = a.0; value = v } ∷ [])
  child_stands opt p a v n path e child s =
      let b = below opt p path e s in
      let o : Opened Variant = record { attribute = a.0; value = v } in
      record {
        below = omega (arith, child.later);
        within = child.within;
        known = All-push (λ (o : Opened Variant). o.attribute < length new.attributes) path o (λ k d l. within_attributes grows _ (b.known k d l)) child.known;
        entries = child.path
            ∙ ap (λ es. es ++ opened_entry new o ∷ []) (path_at-Grows grows p b.within ∙ b.entries ∙ sym (entries-Grows grows path b.known))
            ∙ sym (map-append (opened_entry new) path (o ∷ []));
      }
