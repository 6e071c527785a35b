use Rattle.std.proofs.Common.{◌+◌, ℕ, length, ap, ◌∙◌, arith}
use Rattle.std.proofs.lemmas.List.{length_push}
use Rattle.cal_once.specs.declared.view.View.{View}
use Rattle.cal_words.specs.declared.sort.NodeSort.{NodeSort}
use Rattle.cal_words.specs.declared.sort.OpSort.{OpSort}
use Rattle.cal_thread.proofs.thread.Thread.hire.Goals as goal

pub split-own_tree-requires-clause-some_left : goal.split-own_tree-requires-clause-some_left
split-own_tree-requires-clause-some_left c =
    let others = c.requires.hired.tree_others in
    let left = c.requires.nodes in
    omega (arith, others, left)

pub split-own_log-requires-clause-some_left : goal.split-own_log-requires-clause-some_left
split-own_log-requires-clause-some_left c =
    let others = c.requires.hired.log_others in
    let left = c.requires.history in
    omega (arith, others, left)

pub new-requires-clause-number : goal.new-requires-clause-number
new-requires-clause-number c =
    ap (λ (v : View OpSort). v.number) c.split-own_log.ensures.new.same
    ∙ ap (λ (n : ℕ). n + 1) c.requires.hired.log_others

pub new-requires-clause-at_nodes : goal.new-requires-clause-at_nodes
new-requires-clause-at_nodes c =
    ap (λ (v : View NodeSort). v.number) c.split-own_tree.ensures.new.same
    ∙ ap (λ (n : ℕ). n + 1) c.requires.hired.tree_others

pub new-requires-clause-no_nodes : goal.new-requires-clause-no_nodes
new-requires-clause-no_nodes c =
    ap (λ (v : View NodeSort). v.used) c.split-own_tree.ensures.new.same

pub new-requires-clause-fresh : goal.new-requires-clause-fresh
new-requires-clause-fresh c =
    ap (λ (v : View OpSort). v.published) c.split-own_log.ensures.new.same

pub new-requires-clause-unused : goal.new-requires-clause-unused
new-requires-clause-unused c =
    ap (λ (v : View OpSort). v.used) c.split-own_log.ensures.new.same

pub returns-clause-hired : goal.returns-clause-hired
returns-clause-hired c =
    let h = c.requires.hired in
    record {
      at_tree = c.split-own_tree.ensures.seats.0;
      first_tree = ap (λ (v : View NodeSort). v.number) c.split-own_tree.ensures.first.same
          ∙ h.first_tree;
      tree_others = ap (λ (v : View NodeSort). length v.others)
          c.split-own_tree.ensures.first.same ∙ length_push _ _
          ∙ ap (λ (n : ℕ). n + 1) h.tree_others;
      at_log = c.split-own_log.ensures.seats.0;
      first_log = ap (λ (v : View OpSort). v.number) c.split-own_log.ensures.first.same
          ∙ h.first_log;
      log_others = ap (λ (v : View OpSort). length v.others)
          c.split-own_log.ensures.first.same ∙ length_push _ _
          ∙ ap (λ (n : ℕ). n + 1) h.log_others;
    }

pub returns-clause-thread : goal.returns-clause-thread
returns-clause-thread c = c.new.ensures.thread c.args.common.now
    c.split-own_tree.ensures.seats.1 c.split-own_log.ensures.seats.1
