use Rattle.std.proofs.Common.{rules, ◌≡◌, [], ◌∷◌, ◌++◌, filter, map, not, reverse, sym, ap, ◌∙◌, arith}
use Rattle.cal_context.specs.Tree.{path_at}
use Rattle.cal_profile.specs.Groups.{is_result}
use Rattle.cal_records.proofs.Ranking.{filtered-up, map-reversed}
use Rattle.cal_records.specs.Ranks.{key_entry}
use Rattle.cal_records.proofs.group_keys.keys_of.Goals as goal

pub loop-link-preserved : goal.loop-link-preserved
loop-link-preserved c = let linked = c.in-Some.ensures.linked in record {
  within = omega (arith, linked.child.later, linked.child.within);
  found = filtered-up (λ e. not (is_result c.args.aggs.now e)) _
      (path_at c.args.room.now c.loop-link.node) (path_at c.args.room.now c.in-Some.link.parent) _
      (map key_entry c.loop-link.keys.items) (map key_entry c.push_unless.new.keys.items)
      (linked.child.path
      ∙ ap (λ e. path_at c.args.room.now c.in-Some.link.parent ++ e ∷ []) (sym c.key_of.ensures))
      c.loop-link.invariant.found c.in_ok-push_unless.ensures;
}

pub returns : goal.returns
returns c =
    let none : path_at c.args.room.now c.loop-link.node ≡ [] = search rules in
    ap (map key_entry) c.reverse.ensures.items
    ∙ map-reversed key_entry c.loop-link.keys.items
    ∙ sym (c.loop-link.invariant.found
    ∙ ap (λ path. filter (λ e. not (is_result c.args.aggs.now e)) path
    ++ reverse (map key_entry c.loop-link.keys.items)) none)
