use Rattle.std.proofs.Common.{◌≡◌, ◌≢◌, ◌+◌, ◌-◌, ◌⊎◌, ◌<◌, Bool, true, false, ℕ, inl, inr, ⊎_elim, arith, subst}
use Rattle.cal_words.specs.declared.sort.NodeSort.{NodeSort}
use Rattle.cal_once.specs.declared.view.View.{View}
use Rattle.cal_once.specs.declared.view.Plan.{Plan}
use Rattle.cal_once.specs.Puts.{Sees}
use Rattle.cal_once.specs.Seats.{view}
use Rattle.cal_once.specs.Views.{IsParent, Knows, Learns}
use Rattle.cal_tree.specs.Seats.{plan_of, slots_of}
use Rattle.cal_tree.proofs.tree.Tree.reach.Goals as goal

-- a look at a known node's parent is never false
meets : (plan : Plan NodeSort) (place : ℕ) (v w : View NodeSort) (found : Bool) → IsParent v plan.shape.slots place → Sees plan place v w found → Knows w place × Learns v w
meets plan place v w true is s = s
meets plan place v w false is s = absurd (s.0.no_parent is)

-- the place of the parent
parent_place : (slots parent : ℕ) (v : View NodeSort) → parent ≢ 0 → (parent ≡ 0) ⊎ ((place : ℕ) × (parent ≡ place + 1) × (place < slots) × IsParent v slots place) → (parent ≡ parent - 1 + 1) × (parent - 1 < slots) × IsParent v slots (parent - 1)
parent_place slots parent v some = ⊎_elim (λ none. absurd (some none))
    (λ t. let is = t.1 in let less = t.2 in let same : t.0 ≡ parent - 1 = omega arith in (omega arith, omega arith, subst (λ (p : ℕ). IsParent v slots p) same t.3))

pub look-known-requires-clause-place : goal.look-known-requires-clause-place
look-known-requires-clause-place c = (parent_place (slots_of c.args.self.now) c.args.parent (view c.args.seat.now) c.if-parent-eq0.false c.requires.parent).1

pub returns-clause-known : goal.returns-clause-known
returns-clause-known c =
    let p = parent_place (slots_of c.args.self.now) c.args.parent (view c.args.seat.now) c.if-parent-eq0.false c.requires.parent in
    inr (c.args.parent - 1, p.0, p.1, (meets (plan_of c.args.self.now) (c.args.parent - 1) (view c.args.seat.now) (view c.look-known.new.seat) c.look-known.result p.2 c.look-known.ensures.sees).0)

pub returns-clause-learns : goal.returns-clause-learns
returns-clause-learns c =
    let p = parent_place (slots_of c.args.self.now) c.args.parent (view c.args.seat.now) c.if-parent-eq0.false c.requires.parent in
    (meets (plan_of c.args.self.now) (c.args.parent - 1) (view c.args.seat.now) (view c.look-known.new.seat) c.look-known.result p.2 c.look-known.ensures.sees).1
