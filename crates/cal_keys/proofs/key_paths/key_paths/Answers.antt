use Rattle.std.proofs.Common.{rules, ◌∙◌, ℕ, List, true, ap, length, map, subst, sym}
use Rattle.std.specs.List.Sorted.{IsNonDecreasingBy}
use Rattle.cal_context.specs.Tree.{path_at}
use Rattle.cal_value.specs.Flat.{joined}
use Rattle.cal_value.specs.declared.attribute.Entry.{Entry}
use Rattle.cal_keys.specs.Shares.{Say}
use Rattle.cal_keys.specs.Takers.{taken_at}
use Rattle.cal_keys.specs.declared.share.Share.{Share}
use Rattle.cal_keys.proofs.ImmLemmas.{shares_sorted}
use Rattle.cal_keys.proofs.SieveLemmas.{paths_are, paths_of_one}
use Rattle.cal_keys.proofs.key_paths.key_paths.Goals as goal

pub returns-in-len1-clause-paths : goal.returns-in-len1-clause-paths
returns-in-len1-clause-paths c = λ t names ready below.
    paths_of_one t c.args.own.now c.has_each_once.ensures names c.args.sieve.now c.args.nodes.now c.in_ok-paths.paths.items c.in-len1.len_at_least c.in-len1.len_below
    (c.in_ok-paths.ensures ∙ ap (map (λ (s : Share). s.node)) c.shares.ensures) ready below

pub returns-clause-paths : goal.returns-clause-paths
returns-clause-paths c = λ t names ready below.
    let es = joined (map (path_at t) c.args.nodes.now) in
    let takes : ℕ → List Entry = λ place. taken_at true names place es in
    let after = c.sort_by_key.new.self.items in
    let sorted = shares_sorted c.args.own.now (length names) takes c.in_ok-all.all.items after (c.in_ok-all.ensures t names ready below)
    c.sort_by_key.ensures.permutation c.in_ok-sort_by_key.ensures.sorted c.sort_by_key.ensures.stable (λ a r q k. search rules) in
    paths_are c.join_shares.new.own c.has_each_once-2.ensures names es c.in_ok-joined.joined.items c.in_ok-paths-2.paths.items
    (c.in_ok-paths-2.ensures ∙ ap (map (λ (s : Share). s.node)) c.deref-2.ensures.value)
    (c.in_ok-joined.ensures.shares (length names) takes
    (subst (IsNonDecreasingBy (λ (s : Share). s.place)) (sym c.deref.ensures.value) sorted.1)
    (subst (Say c.args.own.now (length names) takes) (sym c.deref.ensures.value) sorted.0))
