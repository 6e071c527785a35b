use Rattle.std.proofs.Common.{◌≡◌, ◌+◌, ◌<◌, ◌++◌, [], ◌∷◌, ℕ, zero, suc, List, length, get_or, ap, sym, ◌∙◌, subst, arith, All}
use Rattle.std.proofs.lemmas.List.Elements.{All-append}
use Rattle.cal_value.specs.WellFormed.{IsPath}
use Rattle.cal_value.specs.declared.attribute.Entry.{Entry}
use Rattle.cal_words.specs.declared.node.NodeId.{NodeId}
use Rattle.cal_once.specs.Seats.{view}
use Rattle.cal_once.specs.Views.{KnowsMore}
use Rattle.cal_once.proofs.Learning.{learns_then}
use Rattle.cal_tree.specs.Paths.{NodeEntry, HasPath, entries_of}
use Rattle.cal_tree.specs.Seats.{CanSpell, plan_of, slots_of}
use Rattle.cal_tree.proofs.Walks.{paths_more, spell_later}
use Rattle.cal_tree.proofs.tree.Tree.expand.Goals as goal
use Rattle.cal_tree.proofs.tree.Tree.expand.Goals.{In-loop-node}

-- each node can be spelled still
spells : (c : In-loop-node) → (k : ℕ) → k < length c.args.snap.now.refs → CanSpell c.args.self.now c.loop-node.seat c.args.attrs.now (get_or c.args.snap.now.refs k (record { 0 = 0 })).0
spells c k less = spell_later c.args.self.now c.args.seat.now c.loop-node.seat c.args.attrs.now (get_or c.args.snap.now.refs k (record { 0 = 0 })).0 c.loop-node.invariant.learns.more (c.requires.known k (record { 0 = 0 }) less)

-- the node of this turn is one of the snapshot's
here : (c : In-loop-node) → c.loop-node.node-index < length c.args.snap.now.refs
here c = let test = c.loop-node-test.true in omega (arith, ap (λ (l : List NodeId). length l) c.as_slice-node-items.ensures)

pub path-requires-clause-known : goal.path-requires-clause-known
path-requires-clause-known c = subst (λ (l : List NodeId). CanSpell c.args.self.now c.loop-node.seat c.args.attrs.now (get_or l c.loop-node.node-index (record { 0 = 0 })).0) (sym c.as_slice-node-items.ensures)
    (spells (goal.at.path-requires-clause-known c).In-loop-node c.loop-node.node-index (here (goal.at.path-requires-clause-known c).In-loop-node))

pub loop-node-preserved : goal.loop-node-preserved
loop-node-preserved c =
    let inv = c.loop-node.invariant in
    let v = view c.loop-node.seat in
    let w = view c.path.new.seat in
    let n = c.loop-node.node-index in
    let attrs = c.args.attrs.now in
    let refs = c.args.snap.now.refs in
    let slots = slots_of c.args.self.now in
    let paths = c.loop-node.paths.items in
    let entries = c.in_ok-path.field-0 in
    let inside = here (goal.at.loop-node-preserved c).In-loop-node in
    let pushed : c.push.new.self.items ≡ paths ++ entries ∷ [] = c.in_ok-push.ensures.items in
    let more : KnowsMore v w = c.path.ensures.learns.more in
    let this : (path : List NodeEntry) → HasPath slots w path (get_or refs n (record { 0 = 0 })).0 → entries ≡ entries_of attrs path =
    λ path l. c.in_ok-path.ensures.path path (subst (λ (l : List NodeId). HasPath slots w path (get_or l n (record { 0 = 0 })).0) (sym c.as_slice-node-items.ensures) l) in
    let all = paths_more (plan_of c.args.self.now) v w c.path.ensures.seat.sound more attrs refs n paths entries inv.count inside
    (λ k less. let s = spells (goal.at.loop-node-preserved c).In-loop-node k (omega arith) in (s.path, s.known)) inv.paths this in
    record {
      seat = c.path.ensures.seat;
      learns = learns_then (view c.args.seat.now) v w inv.learns c.path.ensures.learns;
      count = grind (arith, ap (λ (l : List (List Entry)). length l) pushed, inv.count);
      paths = λ k path less l. ap (λ (ps : List (List Entry)). get_or ps k []) pushed ∙ all k path less l;
      are_paths = subst (λ (ps : List (List Entry)). All IsPath ps) (sym pushed) (All-append IsPath paths (entries ∷ []) inv.are_paths (one entries c.in_ok-path.ensures.is_path));
    }
  where
    one : (entries : List Entry) → IsPath entries → All IsPath (entries ∷ [])
    one entries is zero d l = is
    one entries is (suc k) d l = absurd (omega arith)
