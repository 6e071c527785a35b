-- A group lies below another where its way begins with the other's.
use Rattle.std.proofs.Common.{◌≡◌, List, [], ◌∷◌, ◌++◌, ◌⊎◌, inl, inr, length, take, refl, sym, ap, ◌∙◌, arith, append_assoc}
use Rattle.std.specs.Bool.{Decides}
use Rattle.std.proofs.lemmas.Bool.Decides.{Decides-and, Decides-like, same_from_decides}
use Rattle.cal_context.specs.Lists.{IsFront}
use Rattle.cal_rowset.specs.Hierarchy as whole
use Rattle.cal_value.specs.ExactOrder.{exact_decides, lists_decides, lists_exact}
use Rattle.cal_value.specs.OrderLaws.{entry_exact}
use Rattle.cal_value.specs.declared.attribute.Entry.{Entry}
use Rattle.cal_value.specs.declared.record.Rec.{Rec}
use Rattle.cal_engine.specs.Rows.{is_below}
use Rattle.cal_keys.specs.Trails.{begins, beside, mark, trail}

module _ {A : Type 0} where
  split_equal : (xs us ys vs : List A) → length xs ≡ length us → xs ++ ys ≡ us ++ vs → (xs ≡ us) × (ys ≡ vs)
  split_equal [] [] ys vs l e = (refl, e)
  split_equal [] (u ∷ us) ys vs l e = absurd (omega (arith, l))
  split_equal (x ∷ xs) [] ys vs l e = absurd (omega (arith, l))
  split_equal (x ∷ xs) (u ∷ us) ys vs l e =
      let tails : xs ++ ys ≡ us ++ vs = cc in
      let rest = split_equal xs us ys vs (omega (arith, l)) tails in
      let first : x ≡ u = cc in
      ((λ i. first i ∷ rest.0 i), rest.1)

  front_of : (xs ys : List A) → take (length xs) (xs ++ ys) ≡ xs
  front_of [] ys = refl
  front_of (x ∷ xs) ys = ap (λ zs. x ∷ zs) (front_of xs ys)

  front_from_take : (xs ys : List A) → xs ≡ take (length xs) ys → IsFront xs ys
  front_from_take [] ys e = (ys, refl)
  front_from_take (x ∷ xs) [] e = cc
  front_from_take (x ∷ xs) (y ∷ ys) e =
      let tails : xs ≡ take (length xs) ys = cc in
      let rest = front_from_take xs ys tails in
      let first : y ≡ x = cc in
      (rest.0, (λ i. first i ∷ rest.1 i))

  -- what begins a list with one item more is that list, or begins the list without it
  pub front_push : (xs ys : List A) (y : A) → IsFront xs (ys ++ y ∷ []) → (xs ≡ ys ++ y ∷ []) ⊎ IsFront xs ys
  front_push [] ys y f = inr (ys, refl)
  front_push (x ∷ []) [] y f = let e = f.1 in let first : x ≡ y = cc in inl (λ i. first i ∷ [])
  front_push (x ∷ w ∷ xs) [] y f = let e = f.1 in cc
  front_push (x ∷ xs) (z ∷ ys) y f =
      let e = f.1 in
      let first : z ≡ x = cc in
      let tails : ys ++ y ∷ [] ≡ xs ++ f.0 = cc in
      by first (front_push xs ys y (f.0, tails))
    where
      by : z ≡ x → (xs ≡ ys ++ y ∷ []) ⊎ IsFront xs ys → (x ∷ xs ≡ (z ∷ ys) ++ y ∷ []) ⊎ IsFront (x ∷ xs) (z ∷ ys)
      by first (inl h) = inl (λ i. sym first i ∷ h i)
      by first (inr h) = inr (h.0, (λ i. first i ∷ h.1 i))

pub begins_decides : (front path : List Entry) → Decides (begins front path) (IsFront front path)
begins_decides front path =
    let d = lists_decides entry_exact front (take (length front) path) in (
      (λ h. front_from_take front path (d.0 h)),
      (λ f. d.1 (sym (ap (take (length front)) f.1 ∙ front_of front f.0))),
    )

-- what it means that a group lies below another
record LiesBelow (other group : Rec) : Type 0 where
  hierarchies : IsFront (whole.hierarchy other) (whole.hierarchy group)
  besides : beside group ≡ beside other
  immediates : group.imms ≡ other.imms

below_decides : (other group : Rec) → Decides (is_below other group) (LiesBelow other group)
below_decides other group =
    let a = begins_decides (whole.hierarchy other) (whole.hierarchy group) in
    let b = exact_decides (lists_exact entry_exact) (beside group) (beside other) in
    let c = exact_decides (lists_exact entry_exact) group.imms other.imms in
    Decides-like (is_below other group)
    (λ h. record { hierarchies = h.0.0; besides = h.0.1; immediates = h.1 })
    (λ h. ((h.hierarchies, h.besides), h.immediates))
    (Decides-and _ _ (Decides-and _ _ a b) c)

lies_from_front : (other group : Rec) → IsFront (trail other) (trail group) → LiesBelow other group
lies_from_front other group f =
    let e = f.1 in
    let bg = beside group in let bo = beside other in
    let hg = whole.hierarchy group in let ho = whole.hierarchy other in
    let first : mark (length bg) ≡ mark (length bo) = cc in
    let second : mark (length group.imms) ≡ mark (length other.imms) = cc in
    let tails : bg ++ (group.imms ++ hg) ≡ (bo ++ (other.imms ++ ho)) ++ f.0 = cc in
    let first_value = ap (λ m. m.value) first in
    let second_value = ap (λ m. m.value) second in
    let long : length bg ≡ length bo = cc in
    let long_imms : length group.imms ≡ length other.imms = cc in
    let one = split_equal bg bo (group.imms ++ hg) ((other.imms ++ ho) ++ f.0) long
    (tails ∙ append_assoc bo (other.imms ++ ho) f.0) in
    let two = split_equal group.imms other.imms hg (ho ++ f.0) long_imms (one.1 ∙ append_assoc other.imms ho f.0) in
    record { hierarchies = (f.0, two.1); besides = one.0; immediates = two.0 }

front_from_lies : (other group : Rec) → LiesBelow other group → IsFront (trail other) (trail group)
front_from_lies other group h =
    let bo = beside other in
    let ho = whole.hierarchy other in (
      h.hierarchies.0,
      (λ i. mark (length (h.besides i)) ∷ mark (length (h.immediates i)) ∷ (h.besides i ++ (h.immediates i ++ h.hierarchies.1 i)))
          ∙ ap (λ es. mark (length bo) ∷ mark (length other.imms) ∷ es)
          (ap (λ es. bo ++ es) (sym (append_assoc other.imms ho h.hierarchies.0))
          ∙ sym (append_assoc bo (other.imms ++ ho) h.hierarchies.0)),
    )

trail_decides : (other group : Rec) → Decides (begins (trail other) (trail group)) (LiesBelow other group)
trail_decides other group =
    Decides-like (begins (trail other) (trail group)) (lies_from_front other group) (front_from_lies other group)
    (begins_decides (trail other) (trail group))

pub begins-trail : (other group : Rec) → begins (trail other) (trail group) ≡ is_below other group
begins-trail other group = same_from_decides _ _ (trail_decides other group) (below_decides other group)

-- whether a path begins with another doesn't hang on what stands before both
front_behind : (front one other : List Entry) → IsFront one other → IsFront (front ++ one) (front ++ other)
front_behind front one other f = (f.0, ap (λ es. front ++ es) f.1 ∙ sym (append_assoc front one f.0))

front_without : (front one other : List Entry) → IsFront (front ++ one) (front ++ other) → IsFront one other
front_without front one other f =
    (f.0, (split_equal front front other (one ++ f.0) refl (f.1 ∙ append_assoc front one f.0)).1)

pub begins-behind : (front one other : List Entry) → begins (front ++ one) (front ++ other) ≡ begins one other
begins-behind front one other =
    same_from_decides _ _
    (Decides-like (begins (front ++ one) (front ++ other)) (front_without front one other) (front_behind front one other)
    (begins_decides (front ++ one) (front ++ other)))
    (begins_decides one other)
