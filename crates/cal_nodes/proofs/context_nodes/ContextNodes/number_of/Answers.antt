use Rattle.std.proofs.Common.{◌≡◌, ◌<◌, List, Option, Some, IfOk, length, sym, ap, ◌∙◌, subst}
use Rattle.std.proofs.lemmas.Result.{IfOk-weaker}
use Rattle.cal_board.specs.Contexts.{NodeStands}
use Rattle.cal_context.proofs.CallerLemmas.{Grows-refl}
use Rattle.cal_context.specs.declared.numbers.NodeNumber.{NodeNumber}
use Rattle.cal_nodes.proofs.Climbing.{way_from}
use Rattle.cal_nodes.proofs.Descending.{number_of_node, way_can}
use Rattle.cal_nodes.proofs.Numbering.{known_node, node_later, numbered_later, place_within}
use Rattle.cal_nodes.proofs.Numbering.{stands_for}
use Rattle.cal_nodes.specs.Numbers.{AreNumbered, number_in}
use Rattle.cal_nodes.specs.Ways.{HasNumber, IsPut, IsWay}
use Rattle.cal_nodes.proofs.context_nodes.ContextNodes.number_of.Goals as goal
use Rattle.cal_nodes.proofs.context_nodes.ContextNodes.number_of.Goals.{After-descend, In_ok-start}

pub number_at-requires : goal.number_at-requires
number_at-requires c =
    let same : c.args.self.now ≡ c.deref.result.now = cc in
    subst (λ (l : List (Option NodeNumber)). c.args.node.0 < length l) same
    (place_within c.args.tree.now c.args.seat.now c.args.node.0 (length c.args.self.now)
    (known_node c.args.tree.now c.args.seat.now c.args.node c.requires.node.path
    c.requires.node.node_at) c.requires.numbered.long)

pub returns-in-Some-clause-stands : goal.returns-in-Some-clause-stands
returns-in-Some-clause-stands c path at =
    let same : c.args.self.now ≡ c.deref.result.now = cc in
    let number : number_in c.args.self.now c.args.node ≡ Some c.in-Some.number =
    ap (λ (l : List (Option NodeNumber)). number_in l c.args.node) same
    ∙ sym c.number_at.ensures ∙ c.in-Some.is in
    stands_for c.args.tree.now c.args.seat.now c.requires.seat c.args.context.now c.args.self.now
    c.args.node c.in-Some.number path c.requires.numbered number at

pub returns-in_err-start-clause-numbered : goal.returns-in_err-start-clause-numbered
returns-in_err-start-clause-numbered c =
    let same : c.args.self.now ≡ c.self.inside.numbers.items = cc in
    let tree = c.args.tree.now in
    let t = c.args.context.now in
    subst (λ (ns : List (Option NodeNumber)). AreNumbered tree c.climb.new.seat t ns) same
    (numbered_later tree c.args.seat.now c.climb.new.seat c.climb.ensures.learns.more t t
    c.args.self.now (Grows-refl t) c.requires.numbered)

-- the way down to the node
way_of : (c : In_ok-start) → IsWay c.args.tree.now c.climb.new.seat c.args.context.now
    c.self.inside.numbers.items c.in_ok-start.start c.climb.new.self.steps.items
    c.requires.node.path
way_of c =
    let viewed : c.args.self.now ≡ c.self.inside.numbers.items = cc in
    let same : c.self.inside.numbers.items ≡ c.deref-2.result.now = cc in
    let numbered = subst (λ (ns : List (Option NodeNumber)). AreNumbered c.args.tree.now
    c.args.seat.now c.args.context.now ns) viewed c.requires.numbered in
    way_from c.args.tree.now c.args.seat.now c.climb.new.seat c.climb.ensures.learns.more
    c.args.context.now c.self.inside.numbers.items c.deref-2.result.now same numbered
    c.args.node c.requires.node.path c.requires.node.node_at c.in_ok-start.start
    c.climb.new.self.steps.items c.in_ok-start.ensures.way

way_after : (c : After-descend) → IsWay c.args.tree.now c.climb.new.seat c.args.context.now
    c.self.inside.numbers.items c.in_ok-start.start c.climb.new.self.steps.items
    c.requires.node.path
way_after c =
    let viewed : c.args.self.now ≡ c.self.inside.numbers.items = cc in
    let same : c.self.inside.numbers.items ≡ c.deref-2.result.now = cc in
    let numbered = subst (λ (ns : List (Option NodeNumber)). AreNumbered c.args.tree.now
    c.args.seat.now c.args.context.now ns) viewed c.requires.numbered in
    way_from c.args.tree.now c.args.seat.now c.climb.new.seat c.climb.ensures.learns.more
    c.args.context.now c.self.inside.numbers.items c.deref-2.result.now same numbered
    c.args.node c.requires.node.path c.requires.node.node_at c.in_ok-start.start
    c.climb.new.self.steps.items c.in_ok-start.ensures.way

pub descend-requires : goal.descend-requires
descend-requires c = way_can c.args.tree.now c.climb.new.seat c.args.context.now
    c.self.inside.numbers.items c.in_ok-start.start c.climb.new.self.steps.items
    c.requires.node.path c.has_each_once.ensures
    (way_of (goal.at.descend-requires c).In_ok-start) c.requires.node.listed

put_of : (c : After-descend) → IsPut c.args.tree.now c.climb.new.seat c.descend.new.context
    c.descend.new.numbers.items c.args.context.now c.self.inside.numbers.items c.requires.node.path
    c.descend.result
put_of c = c.descend.ensures.put c.args.tree.now c.climb.new.seat c.requires.node.path (way_after c)

pub returns-clause-numbered : goal.returns-clause-numbered
returns-clause-numbered c = (put_of (goal.at.returns-clause-numbered c).After-descend).numbered

pub returns-clause-keeps : goal.returns-clause-keeps
returns-clause-keeps c node n is =
    let same : c.args.self.now ≡ c.self.inside.numbers.items = cc in
    (put_of (goal.at.returns-clause-keeps c).After-descend).keeps node n
    (subst (λ (ns : List (Option NodeNumber)). number_in ns node ≡ Some n) same is)

number_now : (c : After-descend)
    → IfOk c.descend.result (λ (n : NodeNumber). number_in c.descend.new.numbers.items
    c.args.node ≡ Some n)
number_now c =
    let tree = c.args.tree.now in
    let is = c.climb.new.seat in
    let path = c.requires.node.path in
    let numbers = c.descend.new.numbers.items in
    let at = node_later tree c.args.seat.now is c.climb.ensures.learns.more c.args.node path
    c.requires.node.node_at in
    IfOk-weaker c.descend.result (λ (n : NodeNumber). HasNumber tree is numbers path n)
    (λ (n : NodeNumber). number_in numbers c.args.node ≡ Some n)
    (λ (n : NodeNumber) (h : HasNumber tree is numbers path n). number_of_node tree is
    c.climb.ensures.seat numbers c.args.node path n at h) (put_of c).number

pub returns-clause-number : goal.returns-clause-number
returns-clause-number c = number_now (goal.at.returns-clause-number c).After-descend

pub returns-clause-stands : goal.returns-clause-stands
returns-clause-stands c path at =
    let tree = c.args.tree.now in
    let is = c.climb.new.seat in
    let numbers = c.descend.new.numbers.items in
    let put = put_of (goal.at.returns-clause-stands c).After-descend in
    IfOk-weaker c.descend.result (λ (n : NodeNumber). number_in numbers c.args.node ≡ Some n)
    (λ (n : NodeNumber). NodeStands c.descend.new.context n path)
    (λ (n : NodeNumber) (e : number_in numbers c.args.node ≡ Some n). stands_for tree is
    c.climb.ensures.seat c.descend.new.context numbers c.args.node n path put.numbered e at)
    (number_now (goal.at.returns-clause-stands c).After-descend)

pub returns-clause-only : goal.returns-clause-only
returns-clause-only c n late within =
    let path = c.requires.node.path in
    let put = put_of (goal.at.returns-clause-only c).After-descend in
    let more = put.only n late within in
    record {
      path = path;
      node_at = node_later c.args.tree.now c.args.seat.now c.climb.new.seat
          c.climb.ensures.learns.more c.args.node path c.requires.node.node_at;
      front = more.0;
      begins = more.1;
      stands = more.2;
    }
