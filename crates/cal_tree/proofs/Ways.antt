-- Ways from node to node, and what they share.
use Rattle.std.proofs.Common.{◌≡◌, ◌≢◌, ℕ, zero, suc, ◌+◌, ◌<◌, List, [], ◌∷◌, ◌++◌, length, get_or, sym, refl, ap, ◌∙◌, subst, inl, inr, ⊎_elim, arith, length-append}
use Rattle.cal_value.specs.declared.variant.Variant.{Variant}
use Rattle.cal_words.specs.declared.sort.NodeSort.{NodeSort}
use Rattle.cal_words.specs.Words.{node_words, value_words}
use Rattle.cal_words.specs.Records.{IsValue}
use Rattle.cal_words.proofs.Decoded.{equal_words}
use Rattle.cal_once.specs.declared.view.View.{View}
use Rattle.cal_once.specs.declared.view.Plan.{Plan}
use Rattle.cal_once.specs.Views.{Holds, KnowsMore}
use Rattle.cal_once.specs.Sound.{IsSound}
use Rattle.cal_once.proofs.Learning.{holds_later}
use Rattle.cal_tree.specs.Paths.{NodeEntry, IsChild, Leads, HasPath}
use Rattle.cal_tree.specs.Seats.{node_law}

-- a list that isn't empty has a last element
pub last_split : {A : Type 0} (x : A) (xs : List A) → (front : List A) × (last : A) × (x ∷ xs ≡ front ++ last ∷ [])
last_split x [] = ([], x, refl)
last_split x (y ∷ xs) = let r = last_split y xs in (x ∷ r.0, r.1, (λ i. x ∷ r.2 i))

pub child_later : (slots : ℕ) (v w : View NodeSort) (parent depth : ℕ) (e : NodeEntry) (node : ℕ) → KnowsMore v w → IsChild slots v parent depth e node → IsChild slots w parent depth e node
child_later slots v w parent depth e node more c = record {
  place = c.place;
  node_is = c.node_is;
  within = c.within;
  is_value = c.is_value;
  holds = holds_later v w c.place (node_words parent depth e.attr e.value) more c.holds;
}

pub leads_later : (slots : ℕ) (v w : View NodeSort) (start depth : ℕ) (es : List NodeEntry) (node : ℕ) → KnowsMore v w → Leads slots v start depth es node → Leads slots w start depth es node
leads_later slots v w start depth [] node more l = l
leads_later slots v w start depth (e ∷ es) node more (next, c, l) = (next, child_later slots v w start (depth + 1) e next more c, leads_later slots v w next (depth + 1) es node more l)

-- one step more
pub leads_more : (slots : ℕ) (v : View NodeSort) (start depth : ℕ) (es : List NodeEntry) (e : NodeEntry) (middle node : ℕ) → Leads slots v start depth es middle → IsChild slots v middle (depth + length es + 1) e node → Leads slots v start depth (es ++ e ∷ []) node
leads_more slots v start depth [] e middle node l c =
    let at : depth + 0 + 1 ≡ depth + 1 = omega arith in
    (node, subst (λ (d : ℕ). IsChild slots v start d e node) at (subst (λ (m : ℕ). IsChild slots v m (depth + 0 + 1) e node) l c), refl)
leads_more slots v start depth (x ∷ es) e middle node (next, first, l) c =
    let at : depth + length (x ∷ es) + 1 ≡ depth + 1 + length es + 1 = omega arith in
    (next, first, leads_more slots v next (depth + 1) es e middle node l (subst (λ (d : ℕ). IsChild slots v middle d e node) at c))

-- the last step
pub leads_last : (slots : ℕ) (v : View NodeSort) (start depth : ℕ) (es : List NodeEntry) (e : NodeEntry) (node : ℕ) → Leads slots v start depth (es ++ e ∷ []) node → (middle : ℕ) × Leads slots v start depth es middle × IsChild slots v middle (depth + length es + 1) e node
leads_last slots v start depth [] e node (next, c, l) =
    let at : depth + 1 ≡ depth + 0 + 1 = omega arith in
    (start, refl, subst (λ (d : ℕ). IsChild slots v start d e node) at (subst (λ (n : ℕ). IsChild slots v start (depth + 1) e n) (sym l) c))
leads_last slots v start depth (x ∷ es) e node (next, first, l) =
    let r = leads_last slots v next (depth + 1) es e node l in
    let at : depth + 1 + length es + 1 ≡ depth + length (x ∷ es) + 1 = omega arith in
    (r.0, (next, first, r.1), subst (λ (d : ℕ). IsChild slots v r.0 d e node) at r.2)

module _ (plan : Plan NodeSort) (v : View NodeSort) (sound : IsSound node_law plan v) where
  -- a node has one parent, depth and entry
  pub one_parent : (p q d e : ℕ) (a b : NodeEntry) (node : ℕ) → IsChild plan.shape.slots v p d a node → IsChild plan.shape.slots v q e b node → (p ≡ q) × (d ≡ e) × (a ≡ b)
  one_parent p q d e a b node x y =
      let xn = x.node_is in
      let yn = y.node_is in
      let same : x.place ≡ y.place = omega arith in
      let words = sound.one_record y.place (node_words p d a.attr a.value) (node_words q e b.attr b.value) y.within (subst (λ (n : ℕ). Holds v n (node_words p d a.attr a.value)) same x.holds) y.holds in
      let r = equal_words p q d e a.attr b.attr a.value b.value x.is_value y.is_value words in
      (r.0, r.1, (λ i. record { attr = r.2 i; value = r.3 i }))

  -- one entry leads to one child
  pub one_child : (parent depth : ℕ) (e : NodeEntry) (m n : ℕ) → IsChild plan.shape.slots v parent depth e m → IsChild plan.shape.slots v parent depth e n → m ≡ n
  one_child parent depth e m n x y =
      let same = sound.one_place x.place y.place (node_words parent depth e.attr e.value) x.within y.within x.holds y.holds in
      let xn = x.node_is in
      let yn = y.node_is in
      omega arith

  pub one_end : (start depth : ℕ) (es : List NodeEntry) (m n : ℕ) → Leads plan.shape.slots v start depth es m → Leads plan.shape.slots v start depth es n → m ≡ n
  one_end start depth [] m n l k = l ∙ sym k
  one_end start depth (e ∷ es) m n (next, c, l) (other, d, k) =
      let same = one_child start (depth + 1) e next other c d in
      one_end other (depth + 1) es m n (subst (λ (i : ℕ). Leads plan.shape.slots v i (depth + 1) es m) same l) k

  -- a node below the root has a path that isn't empty
  root_alone : (e : NodeEntry) (es : List NodeEntry) → HasPath plan.shape.slots v (e ∷ es) 0 → ⊥
  root_alone e es l =
      let r = last_split e es in
      let s = leads_last plan.shape.slots v 0 0 r.0 r.1 0 (subst (λ (p : List NodeEntry). HasPath plan.shape.slots v p 0) r.2 l) in
      let z = s.2.node_is in absurd (omega arith)

  one_path_of : (k : ℕ) (p q : List NodeEntry) (node : ℕ) → length p ≡ k → HasPath plan.shape.slots v p node → HasPath plan.shape.slots v q node → p ≡ q
  one_path_of k [] [] node long l m = refl
  one_path_of k [] (f ∷ q) node long l m = absurd (root_alone f q (subst (λ (n : ℕ). HasPath plan.shape.slots v (f ∷ q) n) l m))
  one_path_of k (e ∷ p) [] node long l m = absurd (root_alone e p (subst (λ (n : ℕ). HasPath plan.shape.slots v (e ∷ p) n) m l))
  one_path_of zero (e ∷ p) (f ∷ q) node long l m = absurd (omega arith)
  one_path_of (suc k) (e ∷ p) (f ∷ q) node long l m =
      let a = last_split e p in
      let b = last_split f q in
      let x = leads_last plan.shape.slots v 0 0 a.0 a.1 node (subst (λ (es : List NodeEntry). HasPath plan.shape.slots v es node) a.2 l) in
      let y = leads_last plan.shape.slots v 0 0 b.0 b.1 node (subst (λ (es : List NodeEntry). HasPath plan.shape.slots v es node) b.2 m) in
      let same = one_parent x.0 y.0 (0 + length a.0 + 1) (0 + length b.0 + 1) a.1 b.1 node x.2 y.2 in
      let shorter : length a.0 ≡ k = omega (arith, ap length a.2, length-append a.0 (a.1 ∷ [])) in
      let rest = one_path_of k a.0 b.0 y.0 shorter (subst (λ (n : ℕ). HasPath plan.shape.slots v a.0 n) same.0 x.1) y.1 in
      a.2 ∙ (λ i. rest i ++ same.2 i ∷ []) ∙ sym b.2

  pub one_path : (p q : List NodeEntry) (node : ℕ) → HasPath plan.shape.slots v p node → HasPath plan.shape.slots v q node → p ≡ q
  one_path p q node l m = one_path_of (length p) p q node refl l m
