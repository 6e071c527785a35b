use Rattle.std.proofs.Common.{◌+◌, ℕ, ◌++◌, List, true, ap, get_or, length, map, take, ◌∙◌}
use Rattle.cal_context.specs.Tree.{path_at}
use Rattle.cal_context.specs.declared.numbers.NodeNumber.{NodeNumber}
use Rattle.cal_context.proofs.CallerLemmas.{Grows-refl}
use Rattle.cal_value.specs.Flat.{joined}
use Rattle.cal_value.specs.declared.attribute.Entry.{Entry}
use Rattle.cal_keys.specs.Sieves.{shares_at}
use Rattle.cal_keys.specs.Takers.{taken_at}
use Rattle.cal_keys.proofs.ShareLemmas.{same_read, say_more}
use Rattle.cal_keys.proofs.SieveLemmas.{shares_of, taken_next}
use Rattle.cal_keys.proofs.key_paths.all_shares.Goals as goal

pub loop-node-preserved : goal.loop-node-preserved
loop-node-preserved c =
    let own = c.args.own.now in
    let nodes = c.args.nodes.now in
    let at = c.loop-node.node-index in
    let root : NodeNumber = record { 0 = 0 } in
    let n : NodeNumber = get_or nodes at root in
    record {
      say = λ t names ready below.
          let so_far : ℕ → List Entry = λ place. taken_at true names place (joined (map (path_at t) (take at nodes))) in
          let here : ℕ → List Entry = λ place. taken_at true names place (path_at t n) in
          say_more own c.has_each_once.ensures (length names) so_far here (λ place. taken_at true names place (joined (map (path_at t) (take (at + 1) nodes))))
          c.loop-node.all.items (shares_at c.args.sieve.now n) c.extend_from_slice.new.self.items
          (c.in_ok-extend_from_slice.ensures.items ∙ ap (λ xs. c.loop-node.all.items ++ xs) c.shares.ensures)
          (λ p. taken_next t names nodes at n p c.loop-node-test.true (same_read nodes at root n c.loop-node-test.true))
          (c.loop-node.invariant.say t names ready below)
          (shares_of t own own (Grows-refl own) names c.args.sieve.now n ready (below at root c.loop-node-test.true));
    }
