-- What the words of a node tell a seat that has read some of them.
use Rattle.std.proofs.Common.{◌≡◌, ◌≢◌, ◌⊎◌, ℕ, zero, suc, ◌+◌, ◌^◌, ◌<◌, ◌≤◌, Bool, true, false, List, [], ◌∷◌, ◌++◌, length, get_or, sym, refl, ap, ◌∙◌, subst, inl, inr, ⊎_elim, arith, length-append}
use Rattle.cal_words.specs.declared.sort.NodeSort.{NodeSort}
use Rattle.cal_words.specs.Records.{IsNode}
use Rattle.cal_words.specs.Words.{node_words}
use Rattle.cal_once.specs.declared.answer.Put.TheVariants.{Placed}
use Rattle.cal_once.specs.declared.view.View.{View}
use Rattle.cal_once.specs.declared.view.Plan.{Plan}
use Rattle.cal_once.specs.Layout.{start_in}
use Rattle.cal_once.specs.Views.{Saw, Begins, Holds, IsParent, KnowsMore}
use Rattle.cal_once.specs.Sound.{IsSound}
use Rattle.cal_once.specs.Puts.{Ask, Answers, IsPlaced}
use Rattle.cal_tree.specs.Paths.{NodeEntry, HasPath, IsChild, IsDepthOf}
use Rattle.cal_tree.specs.Seats.{node_law}
use Rattle.cal_tree.proofs.Ways.{last_split, leads_last}

pub depth_later : (slots : ℕ) (v w : View NodeSort) (node depth : ℕ) → KnowsMore v w → IsDepthOf slots v node depth → IsDepthOf slots w node depth
depth_later slots v w node depth more = ⊎_elim inl (λ t. let w = t.3 in inr (t.0, t.1, t.2, (w.0, more (t.0 + 1) w.0 w.1, more (start_in w.0 + 1) depth w.2)))

-- a record was placed, freshly or not
pub placed_of : {S : Type 0} (ask : Ask S) (v w : View S) (place : ℕ) (fresh : Bool) → Answers ask v w (Placed place fresh) → IsPlaced ask w place
placed_of ask v w place true a = a.0
placed_of ask v w place false a = a.0

-- what the first words of a node tell
pub record HasWords (slots : ℕ) (v : View NodeSort) (front : List ℕ) : Type 0 where
  pub small : (get_or front 0 0 < 2 ^ 32) × (get_or front 1 0 ≤ 128) × (get_or front 2 0 < 2 ^ 32)
  pub parent : (get_or front 0 0 ≡ 0) ⊎ ((place : ℕ) × (get_or front 0 0 ≡ place + 1) × (place < slots) × IsParent v slots place)

-- some word of a node, and the node's first three words
word_is : (words : List ℕ) (node : IsNode words) → (4 ≤ length words) × (get_or words 0 0 ≡ node.parent) × (get_or words 1 0 ≡ node.depth) × (get_or words 2 0 ≡ node.attr)
word_is words node =
    let e = node.spelled in
    (omega (arith, ap (λ (ws : List ℕ). length ws) e), ap (λ (ws : List ℕ). get_or ws 0 0) e, ap (λ (ws : List ℕ). get_or ws 1 0) e, ap (λ (ws : List ℕ). get_or ws 2 0) e)

module _ (plan : Plan NodeSort) (v : View NodeSort) (sound : IsSound node_law plan v) where
  -- one word of a known record
  pub same_word : (place : ℕ) (a b : ℕ) (i x y : ℕ) → Saw v.seen (place + 1) a → Saw v.seen (place + 1) b → Saw v.seen (start_in a + i) x → Saw v.seen (start_in b + i) y → x ≡ y
  same_word place a b i x y ka kb xa yb =
      let same = sound.one_word (place + 1) a b ka kb in
      sound.one_word (start_in b + i) x y (subst (λ (s : ℕ). Saw v.seen (start_in s + i) x) same xa) yb

  pub has_words : (place : ℕ) (front : List ℕ) → place < plan.shape.slots → length front ≡ 3 → Begins v place front → HasWords plan.shape.slots v front
  has_words place front h long b =
      let there = sound.there place b.slot h b.known in
      let node : IsNode there.words = there.lawful.is_record in
      let w = word_is there.words node in
      let four = w.0 in
      let small = node.small in
      let word : (i : ℕ) → i < 3 → get_or there.words i 0 ≡ get_or front i 0 = λ i l. there.seen i (get_or front i 0) (omega arith) (b.each i (omega arith)) in
      let zeroth = sym (word 0 (omega arith)) ∙ w.1 in
      let first = sym (word 1 (omega arith)) ∙ w.2 in
      let second = sym (word 2 (omega arith)) ∙ w.3 in
      let start : start_in b.slot + 0 ≡ start_in b.slot = omega arith in
      let parent_word : Saw v.seen (start_in b.slot) (get_or front 0 0) = subst (λ (i : ℕ). Saw v.seen i (get_or front 0 0)) start (b.each 0 (omega arith)) in
      record {
        small = (subst (λ (n : ℕ). n < 2 ^ 32) (sym zeroth) small.0, subst (λ (n : ℕ). n ≤ 128) (sym first) small.1, subst (λ (n : ℕ). n < 2 ^ 32) (sym second) small.2);
        parent = ⊎_elim (λ t. inl t.0)
            (λ t. inr (t.0, t.1, t.2, (place, b.slot, h, b.known, subst (λ (n : ℕ). Saw v.seen (start_in b.slot) n) t.1 parent_word)))
            (sound.below place b.slot (get_or front 0 0) (get_or front 1 0) h b.known parent_word (b.each 1 (omega arith)));
      }

  -- the first words of a child are its parent's, depth's and attribute's
  pub words_of_child : (place : ℕ) (front : List ℕ) (parent depth : ℕ) (e : NodeEntry) (node : ℕ) → length front ≡ 3 → Begins v place front → node ≡ place + 1 → IsChild plan.shape.slots v parent depth e node → (get_or front 0 0 ≡ parent) × (get_or front 1 0 ≡ depth) × (get_or front 2 0 ≡ e.attr)
  words_of_child place front parent depth e node long b is c =
      let words : List ℕ = node_words parent depth e.attr e.value in
      let node_is = c.node_is in
      let same : c.place ≡ place = omega arith in
      let holds : Holds v place words = subst (λ (p : ℕ). Holds v p words) same c.holds in
      let word : (i : ℕ) → i < 3 → get_or front i 0 ≡ get_or words i 0 = λ i l. same_word place b.slot holds.slot i (get_or front i 0) (get_or words i 0) b.known holds.known (b.each i (omega arith)) (holds.each i (omega arith)) in
      (word 0 (omega arith), word 1 (omega arith), word 2 (omega arith))

  -- a node's depth is the length of its path
  pub depth_of_path : (path : List NodeEntry) (node depth : ℕ) → IsDepthOf plan.shape.slots v node depth → HasPath plan.shape.slots v path node → depth ≡ length path
  depth_of_path [] node depth is l = ⊎_elim (λ t. t.1) (λ t. let a = t.1 in absurd (omega (arith, l))) is
  depth_of_path (e ∷ es) node depth is l =
      let s = last_split e es in
      let r = leads_last plan.shape.slots v 0 0 s.0 s.1 node (subst (λ (p : List NodeEntry). HasPath plan.shape.slots v p node) s.2 l) in
      let c = r.2 in
      let node_is = c.node_is in
      let long : 0 + length s.0 + 1 ≡ length (e ∷ es) = omega (arith, ap length s.2, length-append s.0 (s.1 ∷ [])) in
      ⊎_elim (λ t. let a = t.0 in absurd (omega arith))
      (λ t.
      let at = t.1 in
      let w = t.3 in
      let same : c.place ≡ t.0 = omega arith in
      let words : List ℕ = node_words r.0 (0 + length s.0 + 1) s.1.attr s.1.value in
      let holds : Holds v t.0 words = subst (λ (p : ℕ). Holds v p words) same c.holds in
      same_word t.0 w.0 holds.slot 1 depth (0 + length s.0 + 1) w.1 holds.known w.2 (holds.each 1 (omega arith)) ∙ long) is

  -- a child's parent is the root, or a node that has a child
  pub parent_of_child : (parent depth : ℕ) (e : NodeEntry) (node : ℕ) → IsChild plan.shape.slots v parent depth e node
      → (parent ≡ 0) ⊎ ((place : ℕ) × (parent ≡ place + 1) × (place < plan.shape.slots) × IsParent v plan.shape.slots place)
  parent_of_child parent depth e node c =
      let h = c.holds in
      let start : start_in h.slot + 0 ≡ start_in h.slot = omega arith in
      let first : Saw v.seen (start_in h.slot) parent = subst (λ (i : ℕ). Saw v.seen i parent) start (h.each 0 (omega arith)) in
      ⊎_elim (λ t. inl t.0)
      (λ t. inr (t.0, t.1, t.2, (c.place, h.slot, c.within, h.known, subst (λ (n : ℕ). Saw v.seen (start_in h.slot) n) t.1 first)))
      (sound.below c.place h.slot parent depth c.within h.known first (h.each 1 (omega arith)))
