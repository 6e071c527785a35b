use Rattle.std.proofs.Common.{◌≡◌, ◌+◌, ◌-◌, ◌<◌, ℕ, length, subst, sym, ◌∙◌, ⊎_elim, arith}
use Rattle.cal_once.specs.Seats.{view}
use Rattle.cal_once.proofs.Learning.{begins_later}
use Rattle.cal_tree.specs.Paths.{HasPath}
use Rattle.cal_tree.specs.Seats.{plan_of, slots_of}
use Rattle.cal_tree.proofs.Nodes.{HasWords, has_words, words_of_child}
use Rattle.cal_tree.proofs.Ways.{leads_last}
use Rattle.cal_tree.proofs.tree.Tree.up.Goals as goal
use Rattle.cal_tree.proofs.tree.Tree.up.Goals.{After-front}

-- what the node's first words tell
told : (c : After-front) → HasWords (slots_of c.args.self.now) (view c.front.new.seat) c.front.new.words
told c =
    let below = c.requires.below in
    let from = c.from.ensures in
    let within : c.from.result - 1 < slots_of c.args.self.now = ⊎_elim (λ root. absurd (omega arith)) (λ t. let is = t.1 in let less = t.2 in omega arith) c.requires.known in
    has_words (plan_of c.args.self.now) (view c.front.new.seat) c.front.ensures.sound (c.from.result - 1) c.front.new.words within c.front.ensures.same c.front.ensures.front

pub reach-requires-clause-parent : goal.reach-requires-clause-parent
reach-requires-clause-parent c = (told (goal.at.reach-requires-clause-parent c).After-front).parent

pub overflow_cast-result : goal.overflow_cast-result
overflow_cast-result c = let h = (told (goal.at.overflow_cast-result c).After-front).small.0 in omega arith

pub overflow_cast-result-2 : goal.overflow_cast-result-2
overflow_cast-result-2 c = let h = (told (goal.at.overflow_cast-result-2 c).After-front).small.1 in omega arith

pub overflow_cast-result-3 : goal.overflow_cast-result-3
overflow_cast-result-3 c = let h = (told (goal.at.overflow_cast-result-3 c).After-front).small.2 in omega arith

pub returns-clause-path : goal.returns-clause-path
returns-clause-path c path e l =
    let v = view c.reach.new.seat in
    let r = leads_last (slots_of c.args.self.now) v 0 0 path e c.args.node.0 l in
    let below = c.requires.below in
    let from = c.from.ensures in
    let front = begins_later (view c.front.new.seat) v (c.from.result - 1) c.front.new.words c.reach.ensures.learns.more c.front.ensures.front in
    let words = words_of_child (plan_of c.args.self.now) v c.reach.ensures.seat.sound (c.from.result - 1) c.front.new.words r.0 (0 + length path + 1) e c.args.node.0 c.front.ensures.same front (omega arith) r.2 in
    (subst (λ (n : ℕ). HasPath (slots_of c.args.self.now) v path n) (sym words.0) r.1, words.2, words.1 ∙ (omega arith))
