-- The shares of the names of GROUP BY in a path.
use Rattle.std.proofs.Common.{◌≡◌, ℕ, zero, suc, ◌+◌, ◌-◌, ◌<◌, ◌≤◌, Bool, true, false, true≢false, List, [], ◌∷◌, ◌++◌, ◌⊎◌, inl, inr}
use Rattle.std.proofs.Common.{length, filter, map, take, drop, get_or, refl, sym, ap, subst, ◌∙◌, arith, append-nil, append_assoc, if◌then◌else◌}
use Rattle.std.specs.Prelude.{nat_lt, ◌==◌, replicate, slice_range}
use Rattle.std.specs.List.{All}
use Rattle.std.proofs.lemmas.Bool.{cases_lt}
use Rattle.std.proofs.lemmas.Bool.Decides.{Decides-eqb, nat_tests}
use Rattle.std.proofs.lemmas.List.{drop-append-le, get_or-append_right, get_or-drop, get_or_append_left, length-append, length-drop, length-map, length-replicate, map-append, replicate-append-replicate, take-append-le, take_more}
use Rattle.std.specs.List.Sorted.{IsPermutation}
use Rattle.std.proofs.lemmas.List.Sorted.{All-permutation}
use Rattle.std.proofs.lemmas.List.Elements.{All-cons, All-nil, All-tail, filter-append}
use Rattle.cal_context.specs.Lists.{IsFront}
use Rattle.cal_context.specs.Snapshots.{IsBelowRoot}
use Rattle.cal_context.specs.Tree.{Grows, IsContext, Tree, path_at}
use Rattle.cal_context.specs.declared.numbers.NodeNumber.{NodeNumber}
use Rattle.cal_context.proofs.CallerLemmas.{path_at-Grows}
use Rattle.cal_value.specs.declared.attribute.Entry.{Entry}
use Rattle.cal_keys.specs.Groups.{has_entries}
use Rattle.cal_keys.specs.Keys.{ArePaths}
use Rattle.cal_keys.specs.Shares.{AreShares, IsShareIn, IsSpanIn, Rise, is_above, is_below, node_for, spanned, with_nones, with_path, with_share, Say, said}
use Rattle.cal_keys.specs.Leading.{Leads}
use Rattle.cal_keys.specs.declared.share.Share.{Share}
use Rattle.cal_keys.specs.declared.share_lists.Span.{Span}
use Rattle.cal_keys.proofs.Reaching.{Leads-Grows, leads-below, leads-none, leads-root}
use Rattle.cal_keys.proofs.TakerLemmas.{at_places}

-- ---- tests

pub lt_is : (p q : ℕ) → nat_lt p q ≡ true → p < q
lt_is p q e = by (cases_lt p q)
  where
    by : (p < q) ⊎ (q ≤ p) → p < q
    by (inl l) = l
    by (inr l) = let isnt : nat_lt p q ≡ false = grind (arith, nat_tests, l) in absurd (true≢false (sym e ∙ isnt))

pub lt_isnt : (p q : ℕ) → nat_lt p q ≡ false → q ≤ p
lt_isnt p q e = by (cases_lt p q)
  where
    by : (p < q) ⊎ (q ≤ p) → q ≤ p
    by (inl l) = let is : nat_lt p q ≡ true = grind (arith, nat_tests, l) in absurd (true≢false (sym is ∙ e))
    by (inr l) = l

pub lt_so : (p q : ℕ) → p < q → nat_lt p q ≡ true
lt_so p q l = grind (arith, nat_tests, l)

pub lt_not : (p q : ℕ) → q ≤ p → nat_lt p q ≡ false
lt_not p q l = grind (arith, nat_tests, l)

pub eqb_is : (p q : ℕ) → (p == q) ≡ true → p ≡ q
eqb_is p q e = (Decides-eqb p q).0 e

pub eqb_so : (p q : ℕ) → p ≡ q → (p == q) ≡ true
eqb_so p q e = (Decides-eqb p q).1 e

pub eqb_not : (p q : ℕ) → (p ≡ q → ⊥) → (p == q) ≡ false
eqb_not p q other = by (p == q) refl
  where
    by : (b : Bool) → (p == q) ≡ b → (p == q) ≡ false
    by true e = absurd (other (eqb_is p q e))
    by false e = e

pub eqb_isnt : (p q : ℕ) → (p == q) ≡ false → p ≡ q → ⊥
eqb_isnt p q e same = true≢false (sym (eqb_so p q same) ∙ e)

-- ---- rising places

pub Rise-weaker : (low from to : ℕ) (xs : List Share) → low ≤ from → Rise from to xs → Rise low to xs
Rise-weaker low from to [] less h = tt
Rise-weaker low from to (x ∷ xs) less h = (omega (arith, less, h.0), h.1, h.2, h.3)

Rise-filter : (p : Share → Bool) (from to : ℕ) (xs : List Share) → Rise from to xs → Rise from to (filter p xs)
Rise-filter p from to [] h = tt
Rise-filter p from to (x ∷ xs) h = by (p x) refl (Rise-filter p (x.place + 1) to xs h.3)
  where
    by : (b : Bool) → p x ≡ b → Rise (x.place + 1) to (filter p xs) → Rise from to (filter p (x ∷ xs))
    by true e rest = rw e (h.0, h.1, h.2, rest)
    by false e rest = rw e (Rise-weaker from (x.place + 1) to (filter p xs) (omega (arith, h.0)) rest)

Rise-above : (q from to : ℕ) (xs : List Share) → Rise from to xs → Rise (q + 1) to (filter (is_above q) xs)
Rise-above q from to [] h = tt
Rise-above q from to (x ∷ xs) h = by (nat_lt q x.place) refl (Rise-above q (x.place + 1) to xs h.3)
  where
    by : (b : Bool) → nat_lt q x.place ≡ b → Rise (q + 1) to (filter (is_above q) xs) → Rise (q + 1) to (filter (is_above q) (x ∷ xs))
    by true e rest =
        let more : q + 1 ≤ x.place = omega (arith, lt_is q x.place e) in
        rw e (more, h.1, h.2, Rise-filter (is_above q) (x.place + 1) to xs h.3)
    by false e rest = rw e rest

none_below : (q from to : ℕ) (xs : List Share) → q ≤ from → Rise from to xs → filter (is_below q) xs ≡ []
none_below q from to [] less h = refl
none_below q from to (x ∷ xs) less h =
    let isnt : nat_lt x.place q ≡ false = lt_not x.place q (omega (arith, less, h.0)) in
    rw isnt (none_below q (x.place + 1) to xs (omega (arith, less, h.0)) h.3)

-- a share goes behind those below it
with_low : (s x : Share) (xs : List Share) → nat_lt x.place s.place ≡ true → with_share s (x ∷ xs) ≡ x ∷ with_share s xs
with_low s x xs e =
    let isnt : nat_lt s.place x.place ≡ false = lt_not s.place x.place (omega (arith, lt_is x.place s.place e)) in
    rw (e, isnt) refl

with_high : (s x : Share) (xs : List Share) (from to : ℕ) → Rise from to (x ∷ xs) → nat_lt x.place s.place ≡ false
    → with_share s (x ∷ xs) ≡ s ∷ filter (is_above s.place) (x ∷ xs)
with_high s x xs from to h e =
    let none : filter (is_below s.place) (x ∷ xs) ≡ [] =
    rw e (none_below s.place (x.place + 1) to xs (omega (arith, lt_isnt x.place s.place e)) h.3) in
    ap (λ ys. ys ++ s ∷ filter (is_above s.place) (x ∷ xs)) none

Rise-with : (s : Share) (from to : ℕ) (xs : List Share) → from ≤ s.place → s.place < to → 0 < s.node.0 → Rise from to xs → Rise from to (with_share s xs)
Rise-with s from to [] low high below h = (low, high, below, tt)
Rise-with s from to (x ∷ xs) low high below h = by (nat_lt x.place s.place) refl (λ less. Rise-with s (x.place + 1) to xs less high below h.3)
  where
    by : (b : Bool) → nat_lt x.place s.place ≡ b → (x.place + 1 ≤ s.place → Rise (x.place + 1) to (with_share s xs)) → Rise from to (with_share s (x ∷ xs))
    by true e rest =
        subst (Rise from to) (sym (with_low s x xs e)) (h.0, h.1, h.2, rest (omega (arith, lt_is x.place s.place e)))
    by false e rest =
        subst (Rise from to) (sym (with_high s x xs from to h e)) (low, high, below, Rise-above s.place from to (x ∷ xs) h)

node_above : (q p from to : ℕ) (xs : List Share) → q ≤ from → (q ≡ p → ⊥) → Rise from to xs → node_for (filter (is_above q) xs) p ≡ node_for xs p
node_above q p from to [] less other h = refl
node_above q p from to (x ∷ xs) less other h =
    by (nat_lt q x.place) refl (node_above q p (x.place + 1) to xs (omega (arith, less, h.0)) other h.3)
  where
    by : (b : Bool) → nat_lt q x.place ≡ b → node_for (filter (is_above q) xs) p ≡ node_for xs p
        → node_for (filter (is_above q) (x ∷ xs)) p ≡ node_for (x ∷ xs) p
    by true e rest = rw e (ap (λ n. if x.place == p then x.node else n) rest)
    by false e rest =
        let same : x.place ≡ q = omega (arith, lt_isnt q x.place e, less, h.0) in
        let isnt : (x.place == p) ≡ false = eqb_not x.place p (λ at. other (sym same ∙ at)) in
        rw e (rest ∙ sym (ap (λ b. if b then x.node else node_for xs p) isnt))

pub node_with : (s : Share) (p from to : ℕ) (xs : List Share) → Rise from to xs
    → node_for (with_share s xs) p ≡ (if s.place == p then s.node else node_for xs p)
node_with s p from to [] h = refl
node_with s p from to (x ∷ xs) h = by (nat_lt x.place s.place) refl (s.place == p) refl (node_with s p (x.place + 1) to xs h.3)
  where
    by : (b : Bool) → nat_lt x.place s.place ≡ b → (d : Bool) → (s.place == p) ≡ d
        → node_for (with_share s xs) p ≡ (if s.place == p then s.node else node_for xs p)
        → node_for (with_share s (x ∷ xs)) p ≡ (if s.place == p then s.node else node_for (x ∷ xs) p)
    by true e true at rest =
        let other : (x.place == p) ≡ false = eqb_not x.place p (λ same. omega (arith, same, eqb_is s.place p at, lt_is x.place s.place e)) in
        ap (λ ys. node_for ys p) (with_low s x xs e)
        ∙ ap (λ b. if b then x.node else node_for (with_share s xs) p) other
        ∙ rest ∙ ap (λ b. if b then s.node else node_for xs p) at ∙ sym (ap (λ b. if b then s.node else node_for (x ∷ xs) p) at)
    by true e false at rest =
        ap (λ ys. node_for ys p) (with_low s x xs e)
        ∙ ap (λ n. if x.place == p then x.node else n) (rest ∙ ap (λ b. if b then s.node else node_for xs p) at)
        ∙ sym (ap (λ b. if b then s.node else node_for (x ∷ xs) p) at)
    by false e true at rest =
        ap (λ ys. node_for ys p) (with_high s x xs from to h e)
        ∙ ap (λ b. if b then s.node else node_for (filter (is_above s.place) (x ∷ xs)) p) at
        ∙ sym (ap (λ b. if b then s.node else node_for (x ∷ xs) p) at)
    by false e false at rest =
        let high : Rise x.place to (x ∷ xs) = (omega arith, h.1, h.2, h.3) in
        ap (λ ys. node_for ys p) (with_high s x xs from to h e)
        ∙ ap (λ b. if b then s.node else node_for (filter (is_above s.place) (x ∷ xs)) p) at
        ∙ node_above s.place p x.place to (x ∷ xs) (lt_isnt x.place s.place e) (eqb_isnt s.place p at) high
        ∙ sym (ap (λ b. if b then s.node else node_for (x ∷ xs) p) at)

-- one share more, or another in its place
pub shares_with : (own new : Tree) (count : ℕ) (f g : ℕ → List Entry) (xs : List Share) (s : Share) → Grows own new → s.place < count → 0 < s.node.0
    → Leads new (g s.place) s.node → ((p : ℕ) → (s.place == p) ≡ false → g p ≡ f p) → AreShares own count f xs → AreShares new count g (with_share s xs)
shares_with own new count f g xs s grows high below leads others h = record {
  rise = Rise-with s 0 count xs (omega arith) high below h.rise;
  lead = λ p. subst (Leads new (g p)) (sym (node_with s p 0 count xs h.rise)) (by p (s.place == p) refl);
}
  where
    by : (p : ℕ) (b : Bool) → (s.place == p) ≡ b → Leads new (g p) (if s.place == p then s.node else node_for xs p)
    by p true e = rw e (subst (λ n. Leads new (g n) s.node) (eqb_is s.place p e) leads)
    by p false e = rw e (subst (λ es. Leads new es (node_for xs p)) (sym (others p e)) (Leads-Grows grows (f p) (node_for xs p) (h.lead p)))

pub AreShares-Grows : {own new : Tree} → Grows own new → (count : ℕ) (f : ℕ → List Entry) (xs : List Share) → AreShares own count f xs → AreShares new count f xs
AreShares-Grows grows count f xs h = record { rise = h.rise; lead = λ p. Leads-Grows grows (f p) (node_for xs p) (h.lead p) }

pub AreShares-agree : (own : Tree) (count : ℕ) (f g : ℕ → List Entry) (xs : List Share) → ((p : ℕ) → f p ≡ g p) → AreShares own count f xs → AreShares own count g xs
AreShares-agree own count f g xs same h = record { rise = h.rise; lead = λ p. subst (λ es. Leads own es (node_for xs p)) (same p) (h.lead p) }

pub no_shares : (own : Tree) → IsContext own → (count : ℕ) (f : ℕ → List Entry) → ((p : ℕ) → f p ≡ []) → AreShares own count f []
no_shares own context count f none = record { rise = tt; lead = λ p. subst (λ es. Leads own es (record { 0 = 0 })) (sym (none p)) (leads-none own context) }

-- ---- the paths of shares

absent : (p from to : ℕ) (xs : List Share) → p < from → Rise from to xs → node_for xs p ≡ record { 0 = 0 }
absent p from to [] low h = refl
absent p from to (x ∷ xs) low h =
    let isnt : (x.place == p) ≡ false = eqb_not x.place p (λ e. omega (arith, e, low, h.0)) in
    rw isnt (absent p (x.place + 1) to xs (omega (arith, low, h.0)) h.3)

module _ (own : Tree) (context : IsContext own) (f : ℕ → List Entry) where
  abbrev Lead : ℕ → List Share → Type 0
  Lead from xs = (p : ℕ) → from ≤ p → Leads own (f p) (node_for xs p)

  Lead-tail : (from : ℕ) (x : Share) (xs : List Share) → from ≤ x.place → Lead from (x ∷ xs) → Lead (x.place + 1) xs
  Lead-tail from x xs low h p l =
      let isnt : (x.place == p) ≡ false = eqb_not x.place p (λ e. omega (arith, e, l)) in
      subst (Leads own (f p)) (ap (λ b. if b then x.node else node_for xs p) isnt) (h p (omega (arith, l, low)))

  Lead-head : (from : ℕ) (x : Share) (xs : List Share) → from ≤ x.place → Lead from (x ∷ xs) → Leads own (f x.place) x.node
  Lead-head from x xs low h =
      subst (Leads own (f x.place)) (ap (λ b. if b then x.node else node_for xs x.place) (eqb_so x.place x.place refl)) (h x.place low)

  members : (from to : ℕ) (xs : List Share) → Rise from to xs → Lead from xs → All (IsShareIn own to) xs
  members from to [] rise h = All-nil (IsShareIn own to)
  members from to (x ∷ xs) rise h =
      All-cons (IsShareIn own to) x xs
      (record { place = rise.1; below = rise.2; within = (Lead-head from x xs rise.0 h).within })
      (members (x.place + 1) to xs rise.3 (Lead-tail from x xs rise.0 h))

  filled : (es : List Entry) (n : NodeNumber) → 0 < n.0 → Leads own es n → has_entries es ≡ true
  filled [] n below h = absurd (leads-below own context n (λ e. omega (arith, e, below)) h)
  filled (e ∷ es) n below h = refl

  emptied : (from count : ℕ) → f from ≡ [] → filter has_entries (at_places f from (suc count)) ≡ filter has_entries (at_places f (from + 1) count)
  emptied from count none = ap (λ es. filter has_entries (es ∷ at_places f (from + 1) count)) none

  shares_are : (from count to : ℕ) (xs : List Share) → from + count ≡ to → Rise from to xs → Lead from xs
      → map (λ (s : Share). path_at own s.node) xs ≡ filter has_entries (at_places f from count)
  shares_are from zero to [] end rise h = refl
  shares_are from zero to (x ∷ xs) end rise h = absurd (omega (arith, end, rise.0, rise.1))
  shares_are from (suc count) to [] end rise h =
      shares_are (from + 1) count to [] (omega (arith, end)) tt (λ p l. h p (omega (arith, l)))
      ∙ sym (emptied from count (leads-root own context (f from) (record { 0 = 0 }) refl (h from (omega arith))))
  shares_are from (suc count) to (x ∷ xs) end rise h =
      by (x.place == from) refl
      (λ e. shares_are (from + 1) count to xs (omega (arith, end)) (subst (λ n. Rise (n + 1) to xs) e rise.3)
      (subst (λ n. Lead (n + 1) xs) e (Lead-tail from x xs rise.0 h)))
      (λ l. shares_are (from + 1) count to (x ∷ xs) (omega (arith, end)) (l, rise.1, rise.2, rise.3) (λ p m. h p (omega (arith, m))))
    where
      by : (b : Bool) → (x.place == from) ≡ b
          → (x.place ≡ from → map (λ (s : Share). path_at own s.node) xs ≡ filter has_entries (at_places f (from + 1) count))
          → (from + 1 ≤ x.place → map (λ (s : Share). path_at own s.node) (x ∷ xs) ≡ filter has_entries (at_places f (from + 1) count))
          → map (λ (s : Share). path_at own s.node) (x ∷ xs) ≡ filter has_entries (at_places f from (suc count))
      by true e here later =
          let at = eqb_is x.place from e in
          let leads : Leads own (f from) x.node = subst (λ n. Leads own (f n) x.node) at (Lead-head from x xs rise.0 h) in
          (λ i. leads.is i ∷ here at i)
          ∙ sym (ap (λ b. if b then f from ∷ filter has_entries (at_places f (from + 1) count) else filter has_entries (at_places f (from + 1) count))
          (filled (f from) x.node rise.2 leads))
      by false e here later =
          let other = eqb_isnt x.place from e in
          let more : from + 1 ≤ x.place = above (cases_lt from x.place) in
          let none : node_for (x ∷ xs) from ≡ record { 0 = 0 } =
          ap (λ b. if b then x.node else node_for xs from) e ∙ absent from (x.place + 1) to xs (omega (arith, more)) rise.3 in
          later more
          ∙ sym (emptied from count (leads-root own context (f from) (node_for (x ∷ xs) from) (ap (λ (n : NodeNumber). n.0) none) (h from (omega arith))))
        where
          above : (from < x.place) ⊎ (x.place ≤ from) → from + 1 ≤ x.place
          above (inl l) = omega (arith, l)
          above (inr l) = absurd (eqb_isnt x.place from e (omega (arith, l, rise.0)))

-- the nodes of shares have the paths that the names take
pub nodes_are : (own : Tree) → IsContext own → (f : ℕ → List Entry) (count : ℕ) (xs : List Share) (nodes : List NodeNumber)
    → nodes ≡ map (λ (s : Share). s.node) xs → AreShares own count f xs → ArePaths own nodes (filter has_entries (at_places f 0 count))
nodes_are own context f count xs nodes is h = record {
  within = subst (All (IsBelowRoot own)) (sym is) (below xs (members own context f 0 count xs h.rise (λ p l. h.lead p)));
  are = ap (map (path_at own)) is ∙ twice xs ∙ shares_are own context f 0 count count xs (omega arith) h.rise (λ p l. h.lead p);
}
  where
    twice : (xs : List Share) → map (path_at own) (map (λ (s : Share). s.node) xs) ≡ map (λ (s : Share). path_at own s.node) xs
    twice [] = refl
    twice (x ∷ xs) = ap (λ ps. path_at own x.node ∷ ps) (twice xs)

    below : (xs : List Share) → All (IsShareIn own count) xs → All (IsBelowRoot own) (map (λ (s : Share). s.node) xs)
    below [] all = All-nil (IsBelowRoot own)
    below (x ∷ xs) all =
        let first : IsShareIn own count x = all 0 x (omega arith) in
        All-cons (IsBelowRoot own) x.node (map (λ (s : Share). s.node) xs)
        (record { below = first.below; within = first.within }) (below xs (All-tail (IsShareIn own count) x xs all))

pub members_of : (own : Tree) → IsContext own → (f : ℕ → List Entry) (count : ℕ) (xs : List Share) → AreShares own count f xs → All (IsShareIn own count) xs
members_of own context f count xs h = members own context f 0 count xs h.rise (λ p l. h.lead p)

-- ---- shares joined

said_absent : (own : Tree) (p from to : ℕ) (xs : List Share) → p < from → Rise from to xs → said own xs p ≡ []
said_absent own p from to [] low h = refl
said_absent own p from to (x ∷ xs) low h =
    let isnt : (x.place == p) ≡ false = eqb_not x.place p (λ e. omega (arith, e, low, h.0)) in
    rw isnt (said_absent own p (x.place + 1) to xs (omega (arith, low, h.0)) h.3)

said_node : (own : Tree) → IsContext own → (p from to : ℕ) (xs : List Share) → Rise from to xs → said own xs p ≡ path_at own (node_for xs p)
said_node own context p from to [] h = sym (leads-none own context).is
said_node own context p from to (x ∷ xs) h = by (x.place == p) refl (said_node own context p (x.place + 1) to xs h.3)
  where
    by : (b : Bool) → (x.place == p) ≡ b → said own xs p ≡ path_at own (node_for xs p) → said own (x ∷ xs) p ≡ path_at own (node_for (x ∷ xs) p)
    by true e rest =
        let none : said own xs p ≡ [] = said_absent own p (x.place + 1) to xs (omega (arith, eqb_is x.place p e)) h.3 in
        rw e (ap (λ es. path_at own x.node ++ es) none ∙ append-nil (path_at own x.node))
    by false e rest = rw e rest

said_more : (own : Tree) (xs : List Share) (x : Share) (p : ℕ) → said own (xs ++ x ∷ []) p ≡ said own xs p ++ (if x.place == p then path_at own x.node else [])
said_more own [] x p = append-nil (if x.place == p then path_at own x.node else [])
said_more own (y ∷ xs) x p =
    ap (λ es. (if y.place == p then path_at own y.node else []) ++ es) (said_more own xs x p)
    ∙ sym (append_assoc (if y.place == p then path_at own y.node else []) (said own xs p) (if x.place == p then path_at own x.node else []))

abbrev pub with_said : Tree → (ℕ → List Entry) → List Share → ℕ → List Entry
with_said own f xs p = f p ++ said own xs p

pub said_next : (own mid : Tree) (f : ℕ → List Entry) (xs : List Share) (i : ℕ) (x : Share) → Grows own mid → i < length xs
    → x ≡ get_or xs i x → x.node.0 < length own.paths
    → (p : ℕ) → with_path mid x (with_said own f (take i xs)) p ≡ with_said own f (take (i + 1) xs) p
said_next own mid f xs i x grows short read within p =
    by (x.place == p) refl
    ∙ ap (λ es. f p ++ es) (sym (said_more own (take i xs) x p))
    ∙ ap (λ ys. with_said own f ys p) (sym (take_more xs i x short ∙ ap (λ y. take i xs ++ y ∷ []) (sym read)))
  where
    by : (b : Bool) → (x.place == p) ≡ b → with_path mid x (with_said own f (take i xs)) p
        ≡ f p ++ (said own (take i xs) p ++ (if x.place == p then path_at own x.node else []))
    by true e =
        rw e (ap (λ es. with_said own f (take i xs) p ++ es) (path_at-Grows grows x.node within)
        ∙ append_assoc (f p) (said own (take i xs) p) (path_at own x.node))
    by false e = rw e (ap (λ es. f p ++ es) (sym (append-nil (said own (take i xs) p))))

-- ---- ranges of lists

module _ {A : Type 0} where
  pub range_next : (xs : List A) (from at : ℕ) (d : A) → from ≤ at → at < length xs → slice_range xs from (at + 1) ≡ slice_range xs from at ++ get_or xs at d ∷ []
  range_next xs from at d low short =
      let long = length-drop from xs in
      let step : at + 1 - from ≡ (at - from) + 1 = omega (arith, low) in
      let place : from + (at - from) ≡ at = omega (arith, low) in
      ap (λ n. take n (drop from xs)) step
      ∙ take_more (drop from xs) (at - from) d (omega (arith, long, low, short))
      ∙ ap (λ y. take (at - from) (drop from xs) ++ y ∷ []) (get_or-drop from xs (at - from) d ∙ ap (λ n. get_or xs n d) place)

  pub range_front : (xs more : List A) (from to : ℕ) → to ≤ length xs → slice_range (xs ++ more) from to ≡ slice_range xs from to
  range_front xs more from to short = by (cases_lt to from)
    where
      by : (to < from) ⊎ (from ≤ to) → slice_range (xs ++ more) from to ≡ slice_range xs from to
      by (inl l) =
          let none : to - from ≡ 0 = omega (arith, l) in
          ap (λ n. take n (drop from (xs ++ more))) none ∙ sym (ap (λ n. take n (drop from xs)) none)
      by (inr l) =
          let long = length-drop from xs in
          ap (take (to - from)) (drop-append-le from xs more (omega (arith, l, short)))
          ∙ take-append-le (to - from) (drop from xs) more (omega (arith, long, short))

  pub range_none : (xs : List A) (from to : ℕ) → to ≤ from → slice_range xs from to ≡ []
  range_none xs from to less = let none : to - from ≡ 0 = omega (arith, less) in ap (λ n. take n (drop from xs)) none

  -- one item more of a filtered range, and what was read
  pub added_next : (p : A → Bool) (old list now : List A) (from at : ℕ) (x : A) → from ≤ at → at < length old → x ≡ get_or old at x → p x ≡ true
      → list ≡ old ++ filter p (slice_range old from at) → now ≡ list ++ x ∷ []
      → now ≡ old ++ filter p (slice_range old from (at + 1))
  added_next p old list now from at x low short read is before more =
      more ∙ ap (λ ys. ys ++ x ∷ []) before ∙ append_assoc old (filter p (slice_range old from at)) (x ∷ [])
      ∙ ap (λ ys. old ++ ys) (sym (ap (filter p) (range_next old from at x low short ∙ ap (λ y. slice_range old from at ++ y ∷ []) (sym read))
      ∙ filter-append p (slice_range old from at) (x ∷ [])
      ∙ ap (λ b. filter p (slice_range old from at) ++ (if b then x ∷ [] else [])) is))

  pub added_not : (p : A → Bool) (old list : List A) (from at : ℕ) (x : A) → from ≤ at → at < length old → x ≡ get_or old at x → p x ≡ false
      → list ≡ old ++ filter p (slice_range old from at)
      → list ≡ old ++ filter p (slice_range old from (at + 1))
  added_not p old list from at x low short read isnt before =
      before
      ∙ ap (λ ys. old ++ ys) (sym (ap (filter p) (range_next old from at x low short ∙ ap (λ y. slice_range old from at ++ y ∷ []) (sym read))
      ∙ filter-append p (slice_range old from at) (x ∷ [])
      ∙ ap (λ b. filter p (slice_range old from at) ++ (if b then x ∷ [] else [])) isnt
      ∙ append-nil (filter p (slice_range old from at))))

  pub read_front : (old list more : List A) (at : ℕ) (d : A) → list ≡ old ++ more → at < length old → get_or list at d ≡ get_or old at d
  read_front old list more at d is short = ap (λ xs. get_or xs at d) is ∙ get_or_append_left old more d at short

  pub range_end : (xs : List A) (from at to : ℕ) → at - from ≡ to - from → slice_range xs from at ≡ slice_range xs from to
  range_end xs from at to e = ap (λ n. take n (drop from xs)) e

-- ---- lists in one block

module _ {A : Type 0} (blank : A) where
  -- so many items: these, and then blank ones
  abbrev padded : List A → ℕ → List A
  padded items count = items ++ replicate (count - length items) blank

  length-padded : (items : List A) (count : ℕ) → length items ≤ count → length (padded items count) ≡ count
  length-padded items count within =
      let whole = length-append items (replicate (count - length items) blank) in
      let rest = length-replicate (count - length items) blank in
      omega (arith, within, whole, rest)

  blanks_read : (n i : ℕ) → get_or (replicate n blank) i blank ≡ blank
  blanks_read zero i = refl
  blanks_read (suc n) zero = refl
  blanks_read (suc n) (suc i) = blanks_read n i

  none_read : (items : List A) (i : ℕ) → length items ≤ i → get_or items i blank ≡ blank
  none_read [] i long = refl
  none_read (n ∷ items) zero long = absurd (omega (arith, long))
  none_read (n ∷ items) (suc i) long = none_read items i (omega (arith, long))

  -- what is read is blank behind the list
  read-padded : (items : List A) (count i : ℕ) → get_or (padded items count) i blank ≡ get_or items i blank
  read-padded items count i = by (cases_lt i (length items))
    where
      by : (i < length items) ⊎ (length items ≤ i) → get_or (padded items count) i blank ≡ get_or items i blank
      by (inl short) = get_or_append_left items (replicate (count - length items) blank) blank i short
      by (inr long) =
          get_or-append_right items (replicate (count - length items) blank) (length items) i blank refl long
          ∙ blanks_read (count - length items) (i - length items)
          ∙ sym (none_read items i long)

  -- one blank more
  padded-blank : (items : List A) (count : ℕ) → length items ≤ count
      → padded items (count + 1) ≡ padded items count ++ blank ∷ []
  padded-blank items count within =
      let more : count + 1 - length items ≡ count - length items + 1 = omega (arith, within) in
      ap (λ n. items ++ replicate n blank) more
      ∙ ap (λ rs. items ++ rs) (sym (replicate-append-replicate (count - length items) 1 blank))
      ∙ sym (append_assoc items (replicate (count - length items) blank) (blank ∷ []))

  -- blanks up to more, and none up to fewer
  padded-more : (items : List A) (one other : ℕ) → length items ≤ one → one ≤ other
      → padded (padded items one) other ≡ padded items other
  padded-more items one other within more =
      let long = length-padded items one within in
      let counted : (one - length items) + (other - one) ≡ other - length items = omega (arith, within, more) in
      ap (λ n. padded items one ++ replicate (other - n) blank) long
      ∙ append_assoc items (replicate (one - length items) blank) (replicate (other - one) blank)
      ∙ ap (λ rs. items ++ rs) (replicate-append-replicate (one - length items) (other - one) blank)
      ∙ ap (λ n. items ++ replicate n blank) counted

  padded-less : (items : List A) (one other : ℕ) → length items ≤ one → other ≤ one
      → padded (padded items one) other ≡ padded items one
  padded-less items one other within less =
      let long = length-padded items one within in
      let none : other - length (padded items one) ≡ 0 = omega (arith, long, less) in
      ap (λ n. padded items one ++ replicate n blank) none ∙ append-nil (padded items one)

  -- no blank behind a list that is as long
  padded-all : (items : List A) (count : ℕ) → length items ≡ count → padded items count ≡ items
  padded-all items count e =
      let none : count - length items ≡ 0 = omega (arith, e) in
      ap (λ n. items ++ replicate n blank) none ∙ append-nil items

pub length-with_nones : (lists : List (List Share)) (count : ℕ) → length lists ≤ count → length (with_nones lists count) ≡ count
length-with_nones lists count within = length-padded [] lists count within

pub read-with_nones : (lists : List (List Share)) (count i : ℕ) → get_or (with_nones lists count) i [] ≡ get_or lists i []
read-with_nones lists count i = read-padded [] lists count i

pub with_nones-more : (lists : List (List Share)) (one other : ℕ) → length lists ≤ one → one ≤ other
    → with_nones (with_nones lists one) other ≡ with_nones lists other
with_nones-more lists one other within more = padded-more [] lists one other within more

pub with_nones-next : (lists : List (List Share)) (count : ℕ) → length lists ≤ count → with_nones lists (count + 1) ≡ with_nones lists count ++ [] ∷ []
with_nones-next lists count within = padded-blank [] lists count within

abbrev pub no_span : Span
no_span = record { from = 0; to = 0 }

map-blank : (shares : List Share) (n : ℕ) → map (spanned shares) (replicate n no_span) ≡ replicate n []
map-blank shares zero = refl
map-blank shares (suc n) = ap (λ xs. [] ∷ xs) (map-blank shares n)

-- an empty span needn't be added
pub spans_end : (shares : List Share) (spans : List Span) (count : ℕ) (span : Span) → length spans ≤ count → spanned shares span ≡ []
    → with_nones (map (spanned shares) spans) (count + 1) ≡ with_nones (map (spanned shares) spans) count ++ spanned shares span ∷ []
spans_end shares spans count span within none =
    with_nones-next (map (spanned shares) spans) count (omega (arith, within, length-map spans (spanned shares)))
    ∙ ap (λ x. with_nones (map (spanned shares) spans) count ++ x ∷ []) (sym none)

pub padded_spans : (shares : List Share) (spans now : List Span) (count : ℕ) (span : Span) → length spans ≤ count
    → now ≡ (spans ++ replicate (count - length spans) no_span) ++ span ∷ []
    → with_nones (map (spanned shares) now) (count + 1) ≡ with_nones (map (spanned shares) spans) count ++ spanned shares span ∷ []
padded_spans shares spans now count span within is =
    let lists = map (spanned shares) spans in
    let counted = length-map spans (spanned shares) in
    let mapped : map (spanned shares) now ≡ with_nones lists count ++ spanned shares span ∷ [] =
    ap (map (spanned shares)) is ∙ map-append (spanned shares) (spans ++ replicate (count - length spans) no_span) (span ∷ [])
    ∙ ap (λ xs. xs ++ spanned shares span ∷ []) (map-append (spanned shares) spans (replicate (count - length spans) no_span)
    ∙ ap (λ xs. lists ++ xs) (map-blank shares (count - length spans) ∙ ap (λ n. replicate (count - n) []) (sym counted))) in
    let whole = length-append (with_nones lists count) (spanned shares span ∷ []) in
    let long = length-with_nones lists count (omega (arith, within, counted)) in
    let all : length (map (spanned shares) now) ≡ count + 1 = ap length mapped ∙ omega (arith, whole, long) in
    padded-all [] (map (spanned shares) now) (count + 1) all ∙ mapped

All-append : {A : Type 0} (P : A → Type 0) (xs ys : List A) → All P xs → All P ys → All P (xs ++ ys)
All-append P [] ys a b = b
All-append P (x ∷ xs) ys a b = All-cons P x (xs ++ ys) (a 0 x (omega arith)) (All-append P xs ys (All-tail P x xs a) b)

All-blank : {A : Type 0} (P : A → Type 0) (x : A) → P x → (n : ℕ) → All P (replicate n x)
All-blank P x h zero = All-nil P
All-blank P x h (suc n) = All-cons P x (replicate n x) h (All-blank P x h n)

pub spans_padded : (shares : List Share) (spans : List Span) (n : ℕ) → All (IsSpanIn shares) spans → All (IsSpanIn shares) (spans ++ replicate n no_span)
spans_padded shares spans n h = All-append (IsSpanIn shares) spans (replicate n no_span) h (All-blank (IsSpanIn shares) no_span (record { rise = omega arith; within = omega arith }) n)

-- spans stay where the shares behind them grow
pub spans_grow : (shares more : List Share) (spans : List Span) → All (IsSpanIn shares) spans
    → map (spanned (shares ++ more)) spans ≡ map (spanned shares) spans
spans_grow shares more [] h = refl
spans_grow shares more (s ∷ spans) h =
    let first : IsSpanIn shares s = h 0 s (omega arith) in
    λ i. range_front shares more s.from s.to first.within i ∷ spans_grow shares more spans (All-tail (IsSpanIn shares) s spans h) i

pub read_span : (shares : List Share) (spans : List Span) (count i : ℕ)
    → get_or (with_nones (map (spanned shares) spans) count) i [] ≡ spanned shares (get_or spans i no_span)
read_span shares spans count i = read-with_nones (map (spanned shares) spans) count i ∙ by spans i
  where
    by : (spans : List Span) (i : ℕ) → get_or (map (spanned shares) spans) i [] ≡ spanned shares (get_or spans i no_span)
    by [] i = refl
    by (s ∷ spans) zero = refl
    by (s ∷ spans) (suc i) = by spans i

pub span_in : (shares : List Share) (spans : List Span) (i : ℕ) → All (IsSpanIn shares) spans → IsSpanIn shares (get_or spans i no_span)
span_in shares [] i h = record { rise = omega arith; within = omega arith }
span_in shares (s ∷ spans) zero h = h 0 s (omega arith)
span_in shares (s ∷ spans) (suc i) h = span_in shares spans i (All-tail (IsSpanIn shares) s spans h)

pub spans_pushed : (shares : List Share) (spans now : List Span) (n : ℕ) (span : Span) → All (IsSpanIn shares) spans → IsSpanIn shares span
    → now ≡ (spans ++ replicate n no_span) ++ span ∷ [] → All (IsSpanIn shares) now
spans_pushed shares spans now n span all h is =
    subst (All (IsSpanIn shares)) (sym is)
    (All-append (IsSpanIn shares) (spans ++ replicate n no_span) (span ∷ []) (spans_padded shares spans n all) (All-cons (IsSpanIn shares) span [] h (All-nil (IsSpanIn shares))))

-- a list more in one block
pub pushed_with : (shares now : List Share) (spans : List Span) (count : ℕ) (made span : Span) (like : ℕ) (share : Share) (view : List (List Share))
    → All (IsSpanIn shares) spans → IsFront shares now → span ≡ get_or spans like no_span → with_nones (map (spanned shares) spans) count ≡ view
    → spanned now made ≡ with_share share (spanned shares span)
    → with_nones (map (spanned now) spans) count ++ spanned now made ∷ [] ≡ view ++ with_share share (get_or view like []) ∷ []
pushed_with shares now spans count made span like share view all front at view_is made_is =
    let lists = ap (λ xs. map (spanned xs) spans) front.1 ∙ spans_grow shares front.0 spans all in
    let read : spanned shares span ≡ get_or view like [] = ap (spanned shares) at ∙ sym (read_span shares spans count like) ∙ ap (λ xs. get_or xs like []) view_is in
    (λ i. (ap (λ xs. with_nones xs count) lists ∙ view_is) i ++ (made_is ∙ ap (with_share share) read) i ∷ [])

-- ---- one share joined

pub same_read : {A : Type 0} (xs : List A) (i : ℕ) (d e : A) → i < length xs → get_or xs i d ≡ get_or xs i e
same_read [] i d e l = absurd (omega (arith, l))
same_read (x ∷ xs) zero d e l = refl
same_read (x ∷ xs) (suc i) d e l = same_read xs i d e (omega (arith, l))

no_front : (xs ys : List Entry) → xs ++ ys ≡ [] → ys ≡ []
no_front [] ys e = e
no_front (x ∷ xs) ys e = cc

pub shares_join : (own new : Tree) → IsContext own → IsContext new → (count : ℕ) (takes : ℕ → List Entry) (xs : List Share) (share made : Share) → made.place ≡ share.place
    → Grows own new → IsShareIn own count share → Leads new (takes share.place ++ path_at own share.node) made.node → AreShares own count takes xs
    → AreShares new count (with_path own share takes) (with_share made xs)
shares_join own new context later count takes xs share made at grows one leads h =
    shares_with own new count takes (with_path own share takes) xs made grows (subst (λ n. n < count) (sym at) one.place) (below made.node.0 refl)
    (subst (λ n. Leads new (with_path own share takes n) made.node) (sym at) (subst (λ es. Leads new es made.node) (sym here) leads))
    (λ p isnt. ap (λ b. if b then takes p ++ path_at own share.node else takes p) (ap (λ n. n == p) (sym at) ∙ isnt)) h
  where
    here : with_path own share takes share.place ≡ takes share.place ++ path_at own share.node
    here = ap (λ b. if b then takes share.place ++ path_at own share.node else takes share.place) (eqb_so share.place share.place refl)

    below : (m : ℕ) → made.node.0 ≡ m → 0 < made.node.0
    below zero e =
        let none = no_front (takes share.place) (path_at own share.node) (leads-root new later (takes share.place ++ path_at own share.node) made.node e leads) in
        absurd (leads-below own context share.node (λ f. omega (arith, f, one.below)) (record { within = one.within; is = none }))
    below (suc m) e = omega (arith, e)

-- ---- the last share of rising ones

Rise-front : (from to : ℕ) (xs : List Share) (x : Share) → Rise from to (xs ++ x ∷ []) → Rise from x.place xs
Rise-front from to [] x h = tt
Rise-front from to (y ∷ xs) x h = (h.0, omega (arith, ahead (y.place + 1) xs h.3), h.2, Rise-front (y.place + 1) to xs x h.3)
  where
    ahead : (n : ℕ) (ys : List Share) → Rise n to (ys ++ x ∷ []) → n ≤ x.place
    ahead n [] k = k.0
    ahead n (z ∷ ys) k = let l = ahead (z.place + 1) ys k.3 in omega (arith, k.0, l)

Rise-end : (from to : ℕ) (xs : List Share) (x : Share) → Rise from to (xs ++ x ∷ []) → x.place < to
Rise-end from to [] x h = h.1
Rise-end from to (y ∷ xs) x h = Rise-end (y.place + 1) to xs x h.3

all_below : (q from : ℕ) (xs : List Share) → Rise from q xs → filter (is_below q) xs ≡ xs
all_below q from [] h = refl
all_below q from (x ∷ xs) h = rw (lt_so x.place q h.1) (ap (λ ys. x ∷ ys) (all_below q (x.place + 1) xs h.3))

none_above : (q from : ℕ) (xs : List Share) → Rise from (q + 1) xs → filter (is_above q) xs ≡ []
none_above q from [] h = refl
none_above q from (x ∷ xs) h = rw (lt_not q x.place (omega (arith, h.1))) (none_above q (x.place + 1) xs h.3)

none_at : (q from : ℕ) (xs : List Share) → Rise from q xs → node_for xs q ≡ record { 0 = 0 }
none_at q from [] h = refl
none_at q from (x ∷ xs) h = rw (eqb_not x.place q (λ e. omega (arith, e, h.1))) (none_at q (x.place + 1) xs h.3)

node_end : (q from : ℕ) (xs : List Share) (x : Share) → Rise from q xs → x.place ≡ q → node_for (xs ++ x ∷ []) q ≡ x.node
node_end q from [] x h at = ap (λ b. if b then x.node else record { 0 = 0 }) (eqb_so x.place q at)
node_end q from (y ∷ xs) x h at = rw (eqb_not y.place q (λ e. omega (arith, e, h.1))) (node_end q (y.place + 1) xs x h.3 at)

Rise-at : (from to : ℕ) (q : ℕ) (xs : List Share) → Rise from to xs → to ≤ q → Rise from q xs
Rise-at from to q [] h l = tt
Rise-at from to q (x ∷ xs) h l = (h.0, omega (arith, h.1, l), h.2, Rise-at (x.place + 1) to q xs h.3 l)

-- the last share is that at a place, or none is
pub last_at : (q : ℕ) (old xs : List Share) (x : Share) → old ≡ xs ++ x ∷ [] → x.place ≡ q → Rise 0 (q + 1) old
    → (x.node ≡ node_for old q) × (xs ≡ filter (is_below q) old)
last_at q old xs x is at h =
    let rise = subst (Rise 0 (q + 1)) is h in
    let front = subst (λ n. Rise 0 n xs) at (Rise-front 0 (q + 1) xs x rise) in
    let isnt : nat_lt x.place q ≡ false = lt_not x.place q (omega (arith, at)) in (
      sym (ap (λ ys. node_for ys q) is ∙ node_end q 0 xs x front at),
      sym (ap (filter (is_below q)) is ∙ filter-append (is_below q) xs (x ∷ [])
          ∙ (λ i. all_below q 0 xs front i ++ (if isnt i then x ∷ [] else [])) ∙ append-nil xs),
    )

pub last_before : (q : ℕ) (old xs : List Share) (x : Share) → old ≡ xs ++ x ∷ [] → (x.place ≡ q → ⊥) → Rise 0 (q + 1) old
    → (record { 0 = 0 } ≡ node_for old q) × (old ≡ filter (is_below q) old)
last_before q old xs x is other h =
    let rise = subst (Rise 0 (q + 1)) is h in
    let front = Rise-front 0 (q + 1) xs x rise in
    let low : x.place < q = lower (cases_lt x.place q) (Rise-end 0 (q + 1) xs x rise) in
    let whole : Rise 0 q old = subst (Rise 0 q) (sym is) (closed 0 xs (Rise-at 0 x.place q xs front (omega (arith, low))) rise low) in
    (sym (none_at q 0 old whole), sym (all_below q 0 old whole))
  where
    lower : (x.place < q) ⊎ (q ≤ x.place) → x.place < q + 1 → x.place < q
    lower (inl l) m = l
    lower (inr l) m = absurd (other (omega (arith, l, m)))

    closed : (from : ℕ) (ys : List Share) → Rise from q ys → Rise from (q + 1) (ys ++ x ∷ []) → x.place < q → Rise from q (ys ++ x ∷ [])
    closed from [] a k l = (k.0, l, k.2, tt)
    closed from (y ∷ ys) a k l = (k.0, a.1, k.2, closed (y.place + 1) ys a.3 k.3 l)

pub put_last : (q : ℕ) (old rest now : List Share) (made : Share) → made.place ≡ q → Rise 0 (q + 1) old → rest ≡ filter (is_below q) old → now ≡ rest ++ made ∷ []
    → now ≡ with_share made old
put_last q old rest now made at h rest_is is =
    is
    ∙ ap (λ xs. xs ++ made ∷ []) (rest_is ∙ ap (λ n. filter (is_below n) old) (sym at))
    ∙ ap (λ xs. filter (is_below made.place) old ++ made ∷ xs) (sym (ap (λ n. filter (is_above n) old) at ∙ none_above q 0 old h))

-- ---- shares of several nodes

pub said_append : (own : Tree) (xs ys : List Share) (p : ℕ) → said own (xs ++ ys) p ≡ said own xs p ++ said own ys p
said_append own [] ys p = refl
said_append own (x ∷ xs) ys p =
    ap (λ es. (if x.place == p then path_at own x.node else []) ++ es) (said_append own xs ys p)
    ∙ sym (append_assoc (if x.place == p then path_at own x.node else []) (said own xs p) (said own ys p))

pub say_more : (own : Tree) → IsContext own → (count : ℕ) (f g h : ℕ → List Entry) (xs ys now : List Share) → now ≡ xs ++ ys → ((p : ℕ) → f p ++ g p ≡ h p)
    → Say own count f xs → AreShares own count g ys → Say own count h now
say_more own context count f g h xs ys now is both one other = record {
  within = subst (All (IsShareIn own count)) (sym is) (All-append (IsShareIn own count) xs ys one.within (members_of own context g count ys other));
  say = λ p. ap (λ zs. said own zs p) is ∙ said_append own xs ys p
      ∙ (λ i. one.say p i ++ (said_node own context p 0 count ys other.rise ∙ (other.lead p).is) i) ∙ both p;
}

said_filter : (own : Tree) (xs : List Share) (p : ℕ) → said own xs p ≡ said own (filter (λ (s : Share). s.place == p) xs) p
said_filter own [] p = refl
said_filter own (x ∷ xs) p = by (x.place == p) refl (said_filter own xs p)
  where
    by : (b : Bool) → (x.place == p) ≡ b → said own xs p ≡ said own (filter (λ (s : Share). s.place == p) xs) p
        → said own (x ∷ xs) p ≡ said own (filter (λ (s : Share). s.place == p) (x ∷ xs)) p
    by true e rest =
        ap (λ es. (if x.place == p then path_at own x.node else []) ++ es) rest
        ∙ sym (ap (λ b. said own (if b then x ∷ filter (λ (s : Share). s.place == p) xs else filter (λ (s : Share). s.place == p) xs) p) e)
    by false e rest = rw e rest

-- a stable sort leaves what shares say
pub say_sorted : (own : Tree) (count : ℕ) (takes : ℕ → List Entry) (xs ys : List Share) → IsPermutation xs ys
    → ((p : ℕ) → filter (λ (s : Share). s.place == p) ys ≡ filter (λ (s : Share). s.place == p) xs) → Say own count takes xs → Say own count takes ys
say_sorted own count takes xs ys shuffled same h = record {
  within = All-permutation (IsShareIn own count) xs ys shuffled h.within;
  say = λ p. said_filter own ys p ∙ ap (λ zs. said own zs p) (same p) ∙ sym (said_filter own xs p) ∙ h.say p;
}
