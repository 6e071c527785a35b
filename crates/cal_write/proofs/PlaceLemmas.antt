use Rattle.std.proofs.Common.{◌≡◌, ℕ, ◌+◌, ◌<◌, Bool, true, false, cond, not, ◌||◌, ◌⊎◌, inl, inr, List, [], ◌∷◌, ◌++◌, length, get_or, Option, Some, refl, sym, ap, ◌∙◌, true≢false, arith, fold, if◌then◌else◌}
use Rattle.std.specs.Bool.{Decides}
use Rattle.std.specs.List.{list_any, position_or_len}
use Rattle.std.proofs.lemmas.List.Folds.{list_any-append}
use Rattle.std.proofs.lemmas.List.Sums.{passes_at_first}
use Rattle.cal_value.specs.ExactOrder.{exact_decides}
use Rattle.cal_value.specs.OrderLaws.{path_exact}
use Rattle.cal_value.specs.declared.attribute.Attribute.{Attribute}
use Rattle.cal_value.specs.declared.attribute.Entry.{Entry}
use Rattle.cal_context.specs.Lists.{IsFront}
use Rattle.cal_context.proofs.ListLemmas.{IsFront-refl, IsFront-trans}
use Rattle.cal_write.specs.Nodes.{Node, same_node, with_node, node_of_attribute, needed_by_attribute}
use Rattle.cal_write.specs.CanonicalText.{id_in, parent_id}
use Rattle.cal_write.specs.Places.{Has, HasAll, IsThere, IsAt, IsParent, KnowsAttribute}

pub same_decides : (m n : Node) → Decides (same_node m n) (m ≡ n)
same_decides m n = exact_decides path_exact m n

-- ---- a test's first place

module _ {X : Type 0} (p : X → Bool) where
  -- more elements leave the first place
  position-append : (xs ys : List X) → list_any p xs ≡ true → position_or_len p (xs ++ ys) ≡ position_or_len p xs
  position-append [] ys h = absurd (true≢false (sym h))
  position-append (x ∷ xs) ys h = by (p x) h (position-append xs ys)
    where
      by : (b : Bool) → (b || list_any p xs) ≡ true
          → (list_any p xs ≡ true → position_or_len p (xs ++ ys) ≡ position_or_len p xs)
          → cond (not b) (1 + position_or_len p (xs ++ ys)) 0 ≡ cond (not b) (1 + position_or_len p xs) 0
      by true l more = refl
      by false l more = ap (λ n. 1 + n) (more l)

  -- where some element passes, there is a place
  position-any : (xs : List X) → list_any p xs ≡ true → position_or_len p xs < length xs
  position-any [] h = absurd (true≢false (sym h))
  position-any (x ∷ xs) h = by (p x) h (position-any xs)
    where
      by : (b : Bool) → (b || list_any p xs) ≡ true → (list_any p xs ≡ true → position_or_len p xs < length xs)
          → cond (not b) (1 + position_or_len p xs) 0 < length (x ∷ xs)
      by true e more = omega arith
      by false e more = omega (arith, more e)

  -- an element that passes, put behind others that don't, stands there
  position-push : (xs : List X) (y : X) → list_any p xs ≡ false → p y ≡ true → position_or_len p (xs ++ y ∷ []) ≡ length xs
  position-push [] y h passes = rw passes refl
  position-push (x ∷ xs) y h passes = by (p x) h (λ e. position-push xs y e passes)
    where
      by : (b : Bool) → (b || list_any p xs) ≡ false → (list_any p xs ≡ false → position_or_len p (xs ++ y ∷ []) ≡ length xs)
          → cond (not b) (1 + position_or_len p (xs ++ y ∷ [])) 0 ≡ length (x ∷ xs)
      by true e more = absurd (true≢false e)
      by false e more = omega (arith, more e)

-- ---- nodes and their ids

pub id_within : (ns : List Node) (n : Node) → Has ns n → id_in ns n < length ns
id_within ns n h = position-any (same_node n) ns h

-- a node that is there is the one at its place
pub node_at_id : (ns : List Node) (n d : Node) → Has ns n → get_or ns (id_in ns n) d ≡ n
node_at_id ns n d h =
    sym ((same_decides n (get_or ns (id_in ns n) d)).0 (passes_at_first (same_node n) ns d (id_within ns n h)))

pub node_one : (ns : List Node) (m n : Node) → Has ns m → Has ns n → id_in ns m ≡ id_in ns n → m ≡ n
node_one ns m n g h e = sym (node_at_id ns m [] g) ∙ ap (λ i. get_or ns i []) e ∙ node_at_id ns n [] h

some_one : {x y : ℕ} → Some x ≡ Some y → x ≡ y
some_one e = cc

-- an id is that of one parent
pub parent_one : (ns : List Node) (m n : Node) → IsThere ns m → IsThere ns n → parent_id ns m ≡ parent_id ns n → m ≡ n
parent_one ns [] [] g h e = refl
parent_one ns [] (x ∷ n) g h e = cc
parent_one ns (x ∷ m) [] g h e = cc
parent_one ns (x ∷ m) (y ∷ n) g h e = node_one ns (x ∷ m) (y ∷ n) g h (some_one e)

-- a node that isn't the root and is there can have others below it
pub at-parent : (ns : List Node) (n : Node) (id : ℕ) → (n ≡ [] → ⊥) → IsAt ns n id → IsParent ns n (Some id)
at-parent ns [] id some at = absurd (some refl)
at-parent ns (e ∷ n) id some at = record { there = at.has; is = ap Some at.is }

pub push-some : (up : Node) (e : Entry) → up ++ e ∷ [] ≡ [] → ⊥
push-some [] e h = cc
push-some (d ∷ up) e h = cc

-- ---- as more nodes come

pub with_node-front : (ns : List Node) (n : Node) → IsFront ns (with_node ns n)
with_node-front ns n = by (list_any (same_node n) ns)
  where
    by : (b : Bool) → IsFront ns (if b then ns else ns ++ n ∷ [])
    by true = IsFront-refl ns
    by false = (n ∷ [], refl)

pub fold-front : (ns needed : List Node) → IsFront ns (fold with_node ns needed)
fold-front ns [] = IsFront-refl ns
fold-front ns (n ∷ needed) =
    IsFront-trans ns (with_node ns n) (fold with_node (with_node ns n) needed) (with_node-front ns n) (fold-front (with_node ns n) needed)

module _ (old new : List Node) (g : IsFront old new) where
  pub Has-grown : (n : Node) → Has old n → Has new n
  Has-grown n h = ap (list_any (same_node n)) g.1 ∙ list_any-append (same_node n) old g.0 ∙ ap (λ b. b || list_any (same_node n) g.0) h

  pub id_in-grown : (n : Node) → Has old n → id_in new n ≡ id_in old n
  id_in-grown n h = ap (position_or_len (same_node n)) g.1 ∙ position-append (same_node n) old g.0 h

  pub HasAll-grown : (needed : List Node) → HasAll old needed → HasAll new needed
  HasAll-grown [] h = tt
  HasAll-grown (n ∷ needed) h = (Has-grown n h.0, HasAll-grown needed h.1)

  pub IsThere-grown : (n : Node) → IsThere old n → IsThere new n
  IsThere-grown [] h = tt
  IsThere-grown (e ∷ n) h = Has-grown (e ∷ n) h

  pub parent_id-grown : (n : Node) → IsThere old n → parent_id new n ≡ parent_id old n
  parent_id-grown [] h = refl
  parent_id-grown (e ∷ n) h = ap Some (id_in-grown (e ∷ n) h)

  pub IsAt-grown : (n : Node) (id : ℕ) → IsAt old n id → IsAt new n id
  IsAt-grown n id at = record { has = Has-grown n at.has; is = at.is ∙ sym (id_in-grown n at.has) }

  pub IsParent-grown : (n : Node) (id : Option ℕ) → IsParent old n id → IsParent new n id
  IsParent-grown n id at = record { there = IsThere-grown n at.there; is = at.is ∙ sym (parent_id-grown n at.there) }

  pub KnowsAttribute-grown : (a : Attribute) (id : ℕ) → KnowsAttribute old a id → KnowsAttribute new a id
  KnowsAttribute-grown a id k =
      record { at = IsAt-grown (node_of_attribute a) id k.at; needed = HasAll-grown (needed_by_attribute a) k.needed }

-- ---- one more node, and many

pub Has-last : (ns : List Node) (n : Node) → Has (ns ++ n ∷ []) n
Has-last ns n =
    list_any-append (same_node n) ns (n ∷ []) ∙ by (list_any (same_node n) ns) (same_node n n) ((same_decides n n).1 refl)
  where
    by : (a b : Bool) → b ≡ true → (a || (b || false)) ≡ true
    by true b h = refl
    by false true h = refl
    by false false h = h

pub id_in-last : (ns : List Node) (n : Node) → list_any (same_node n) ns ≡ false → id_in (ns ++ n ∷ []) n ≡ length ns
id_in-last ns n new = position-push (same_node n) ns n new ((same_decides n n).1 refl)

-- a node that is there after one more was, or is that one
pub Has-push_cases : (ns : List Node) (m n : Node) → Has (ns ++ m ∷ []) n → Has ns n ⊎ (m ≡ n)
Has-push_cases ns m n h =
    by (list_any (same_node n) ns) (same_node n m) (λ e. sym ((same_decides n m).0 e)) (sym (list_any-append (same_node n) ns (m ∷ [])) ∙ h)
  where
    by : (a b : Bool) → (b ≡ true → m ≡ n) → (a || (b || false)) ≡ true → (a ≡ true) ⊎ (m ≡ n)
    by true b same e = inl refl
    by false true same e = inr (same refl)
    by false false same e = absurd (true≢false (sym e))

pub Has-with_node : (ns : List Node) (n : Node) → Has (with_node ns n) n
Has-with_node ns n = by (list_any (same_node n) ns) (λ e. e)
  where
    by : (b : Bool) → (b ≡ true → Has ns n) → Has (if b then ns else ns ++ n ∷ []) n
    by true known = known refl
    by false known = Has-last ns n

-- what was needed is there
pub HasAll-fold : (ns needed : List Node) → HasAll (fold with_node ns needed) needed
HasAll-fold ns [] = tt
HasAll-fold ns (n ∷ needed) =
    (Has-grown (with_node ns n) (fold with_node (with_node ns n) needed) (fold-front (with_node ns n) needed) n (Has-with_node ns n), HasAll-fold (with_node ns n) needed)

-- what is there was there, or was needed
pub Has-fold_cases : (ns needed : List Node) (x : Node) → Has (fold with_node ns needed) x → Has ns x ⊎ Has needed x
Has-fold_cases ns [] x h = inl h
Has-fold_cases ns (n ∷ needed) x h = by (list_any (same_node n) ns) (Has-fold_cases (with_node ns n) needed x h)
  where
    last : Has ns x ⊎ (n ≡ x) → Has ns x ⊎ Has (n ∷ needed) x
    last (inl g) = inl g
    last (inr e) = inr (ap (λ b. b || list_any (same_node x) needed) ((same_decides x n).1 (sym e)))

    more : (b : Bool) → list_any (same_node x) needed ≡ true → (b || list_any (same_node x) needed) ≡ true
    more true g = refl
    more false g = g

    by : (b : Bool) → Has (if b then ns else ns ++ n ∷ []) x ⊎ Has needed x → Has ns x ⊎ Has (n ∷ needed) x
    by b (inr g) = inr (more (same_node x n) g)
    by true (inl g) = inl g
    by false (inl g) = last (Has-push_cases ns n x g)

pub HasAll-append : (ns xs ys : List Node) → HasAll ns xs → HasAll ns ys → HasAll ns (xs ++ ys)
HasAll-append ns [] ys g h = h
HasAll-append ns (x ∷ xs) ys g h = (g.0, HasAll-append ns xs ys g.1 h)

pub HasAll-left : (ns xs ys : List Node) → HasAll ns (xs ++ ys) → HasAll ns xs
HasAll-left ns [] ys h = tt
HasAll-left ns (x ∷ xs) ys h = (h.0, HasAll-left ns xs ys h.1)

pub HasAll-right : (ns xs ys : List Node) → HasAll ns (xs ++ ys) → HasAll ns ys
HasAll-right ns [] ys h = h
HasAll-right ns (x ∷ xs) ys h = HasAll-right ns xs ys h.1
