-- One more record in a fold of groups.
use Rattle.std.proofs.Common.{◌≡◌, ℕ, zero, suc, ◌<◌, Bool, true, false, ◌||◌, List, [], ◌∷◌, ◌++◌, inl, inr, length, filter, map, slice_get, Some, refl, sym, ap, subst, ◌∙◌, arith, true≢false, Contains, Result, Ok, Err}
use Rattle.std.specs.Prelude.{slice_set, slice_index_or, max, ◌+◌, OnOk, is_err}
use Rattle.std.specs.Cmp.{IsEquivalence}
use Rattle.std.specs.List.{list_any}
use Rattle.std.proofs.lemmas.List.{length-append, length-map, map-append}
use Rattle.std.proofs.lemmas.Map.Views.{Contains-from_any}
use Rattle.std.proofs.lemmas.List.Elements.{filter-append}
use Rattle.cal_value.specs.ExactOrder.{exact_equiv, exact_tells}
use Rattle.cal_value.specs.OrderLaws.{group_exact}
use Rattle.cal_value.specs.declared.record.Rec.{Rec}
use Rattle.cal_context.specs.Lists.{Interns}
use Rattle.cal_ql.specs.declared.query.Query.{Query}
use Rattle.cal_keys.specs.FirstSeen.{firsts}
use Rattle.cal_keys.specs.Groups.{is_group, group_of, groups_of, records_of}
use Rattle.cal_parts.specs.Parts.{Gathered, merged_parts, parts_over}
use Rattle.cal_engine.specs.Folding.{Grouped, Gathers, groups_over}
use Rattle.cal_parts.specs.PartLists.{put_parts}
use Rattle.cal_engine.proofs.Firsts.{firsts-Adds, list_any-firsts}
use Rattle.cal_parts.proofs.Merging.{parts_over-append}
use Rattle.cal_engine.proofs.Places.{IsPlaced, placed, map-slice_set, map-push, number_within, truncated}

pub group_laws : IsEquivalence is_group
group_laws = exact_equiv group_exact

pub group_same : (x y : Rec) → is_group x y ≡ true → x ≡ y
group_same = exact_tells group_exact

-- what is put at a place of the list, or at its end
pub put_parts_set : (parts : List (List Gathered)) (n : ℕ) (d fresh : List Gathered) → n < length parts
    → slice_set parts n (merged_parts (slice_index_or parts n d) fresh) ≡ put_parts parts n fresh
put_parts_set [] n d fresh l = absurd (omega arith)
put_parts_set (p ∷ ps) zero d fresh l = refl
put_parts_set (p ∷ ps) (suc n) d fresh l = ap (λ xs. p ∷ xs) (put_parts_set ps n d fresh (omega arith))

pub put_parts_end : (parts : List (List Gathered)) (n : ℕ) (fresh : List Gathered) → n ≡ length parts
    → parts ++ fresh ∷ [] ≡ put_parts parts n fresh
put_parts_end [] n fresh e = refl
put_parts_end (p ∷ ps) zero fresh e = absurd (omega arith)
put_parts_end (p ∷ ps) (suc n) fresh e = ap (λ xs. p ∷ xs) (put_parts_end ps n fresh (omega arith))

-- what goes to a group of no record at the end goes as if there were none yet
pub put_parts_none : (parts : List (List Gathered)) (n : ℕ) (none fresh : List Gathered) → n ≡ length parts
    → merged_parts none fresh ≡ fresh → put_parts (parts ++ none ∷ []) n fresh ≡ put_parts parts n fresh
put_parts_none [] zero none fresh e same = ap (λ x. x ∷ []) same
put_parts_none [] (suc n) none fresh e same = absurd (omega (arith, e))
put_parts_none (p ∷ ps) zero none fresh e same = absurd (omega (arith, e))
put_parts_none (p ∷ ps) (suc n) none fresh e same = ap (λ xs. p ∷ xs) (put_parts_none ps n none fresh (omega (arith, e)) same)

pub map_read : {A B : Type 0} (f : A → B) (xs : List A) (n : ℕ) (x : A) (d : B) → slice_get xs n ≡ Some x → slice_index_or (map f xs) n d ≡ f x
map_read f [] n x d e = cc
map_read f (y ∷ ys) zero x d e = let is : y ≡ x = cc in ap f is
map_read f (y ∷ ys) (suc n) x d e = map_read f ys n x d e

first_false : (a b : Bool) → (a || b) ≡ false → (a ≡ false) × (b ≡ false)
first_false true b e = absurd (true≢false e)
first_false false b e = (refl, e)

module _ (q : Query) (rs : List Rec) (r : Rec) where
  abbrev before : Rec → List Gathered
  before g = parts_over q.aggs (records_of q.group g rs)

  abbrev after : Rec → List Gathered
  after g = parts_over q.aggs (records_of q.group g (rs ++ r ∷ []))

  -- the record's group gets it at the end
  own_records : records_of q.group (group_of q.group r) (rs ++ r ∷ []) ≡ records_of q.group (group_of q.group r) rs ++ r ∷ []
  own_records =
      filter-append (λ s. is_group (group_of q.group s) (group_of q.group r)) rs (r ∷ [])
      ∙ ap (λ b. records_of q.group (group_of q.group r) rs ++ (filter (λ _. b) (r ∷ []))) (group_laws.refl (group_of q.group r))

  own : after (group_of q.group r) ≡ merged_parts (before (group_of q.group r)) (parts_over q.aggs (r ∷ []))
  own = ap (parts_over q.aggs) own_records ∙ parts_over-append q.aggs (records_of q.group (group_of q.group r) rs) (r ∷ [])

  -- and each other group stays
  other_records : (g : Rec) → (g ≡ group_of q.group r → ⊥) → records_of q.group g (rs ++ r ∷ []) ≡ records_of q.group g rs
  other_records g ne = by (is_group (group_of q.group r) g) refl
    where
      by : (b : Bool) → is_group (group_of q.group r) g ≡ b → records_of q.group g (rs ++ r ∷ []) ≡ records_of q.group g rs
      by true e = absurd (ne (sym (group_same (group_of q.group r) g e)))
      by false e =
          filter-append (λ s. is_group (group_of q.group s) g) rs (r ∷ [])
          ∙ ap (λ b. records_of q.group g rs ++ (filter (λ _. b) (r ∷ []))) e
          ∙ nothing (records_of q.group g rs)
        where
          nothing : (xs : List Rec) → xs ++ [] ≡ xs
          nothing [] = refl
          nothing (x ∷ xs) = ap (λ ys. x ∷ ys) (nothing xs)

  other : (g : Rec) → (g ≡ group_of q.group r → ⊥) → after g ≡ before g
  other g ne = ap (parts_over q.aggs) (other_records g ne)

  -- a group that has no record yet
  none_yet : (Contains (groups_of q.group rs) (group_of q.group r) → ⊥) → parts_over q.aggs (r ∷ []) ≡ after (group_of q.group r)
  none_yet absent =
      ap (parts_over q.aggs) (sym (own_records ∙ ap (λ xs. xs ++ r ∷ []) (no_record rs unseen)))
    where
      unseen : list_any (is_group (group_of q.group r)) (map (group_of q.group) rs) ≡ false
      unseen = by (list_any (is_group (group_of q.group r)) (map (group_of q.group) rs)) refl
        where
          by : (b : Bool) → list_any (is_group (group_of q.group r)) (map (group_of q.group) rs) ≡ b
              → list_any (is_group (group_of q.group r)) (map (group_of q.group) rs) ≡ false
          by true e = absurd (absent (Contains-from_any group_same (group_of q.group r) (groups_of q.group rs)
              (list_any-firsts group_laws group_same (group_of q.group r) (map (group_of q.group) rs) ∙ e)))
          by false e = e

      no_record : (ss : List Rec) → list_any (is_group (group_of q.group r)) (map (group_of q.group) ss) ≡ false
          → records_of q.group (group_of q.group r) ss ≡ []
      no_record [] e = refl
      no_record (s ∷ ss) e =
          let first = first_false (is_group (group_of q.group r) (group_of q.group s)) (list_any (is_group (group_of q.group r)) (map (group_of q.group) ss)) e in
          let turned : is_group (group_of q.group s) (group_of q.group r) ≡ false = group_laws.symm (group_of q.group s) (group_of q.group r) ∙ first.0 in
          rw turned (no_record ss first.1)

  -- So gathering it gives the groups of the longer list.
  pub groups_over-Gathers : (old new : Grouped) → old ≡ groups_over q rs
      → Gathers old (group_of q.group r) (parts_over q.aggs (r ∷ [])) new
      → new ≡ groups_over q (rs ++ r ∷ [])
  groups_over-Gathers old new is h = λ i. record { keys = keys i; parts = parts i }
    where
      g : Rec
      g = group_of q.group r

      keys_was : old.keys ≡ groups_of q.group rs
      keys_was = ap (λ o. o.keys) is

      keys : new.keys ≡ groups_of q.group (rs ++ r ∷ [])
      keys =
          firsts-Adds group_laws group_same (map (group_of q.group) rs) (group_of q.group r) old.keys new.keys keys_was h.keys.adds
          ∙ ap (firsts is_group) (sym (map-append (group_of q.group) rs (r ∷ [])))

      parts_was : old.parts ≡ map (before) old.keys
      parts_was = ap (λ o. o.parts) is ∙ ap (map (before)) (sym keys_was)

      long : length old.parts ≡ length old.keys
      long = ap length parts_was ∙ simp length-map

      at : IsPlaced old.keys (group_of q.group r) new.keys h.number → new.parts ≡ map (after) new.keys
      at (inl p) =
          h.parts
          ∙ sym (put_parts_set old.parts h.number [] (parts_over q.aggs (r ∷ [])) (omega (arith, long, p.0)))
          ∙ ap (λ ps. slice_set ps h.number (merged_parts (slice_index_or ps h.number []) (parts_over q.aggs (r ∷ [])))) parts_was
          ∙ map-slice_set (before) (after) old.keys h.number (group_of q.group r)
          (merged_parts (slice_index_or (map (before) old.keys) h.number []) (parts_over q.aggs (r ∷ [])))
          h.apart there (ap (λ ps. merged_parts ps (parts_over q.aggs (r ∷ []))) (read there) ∙ sym own) other
          ∙ ap (map (after)) (sym p.1)
        where
          there : slice_get old.keys h.number ≡ Some (group_of q.group r)
          there = subst (λ ks. slice_get ks h.number ≡ Some (group_of q.group r)) p.1 h.keys.number

          read : slice_get old.keys h.number ≡ Some (group_of q.group r)
              → slice_index_or (map (before) old.keys) h.number [] ≡ before (group_of q.group r)
          read e = map_read (before) old.keys h.number (group_of q.group r) [] e
      at (inr p) =
          h.parts
          ∙ sym (put_parts_end old.parts h.number (parts_over q.aggs (r ∷ [])) (p.0 ∙ sym long))
          ∙ ap (λ ps. ps ++ parts_over q.aggs (r ∷ []) ∷ []) parts_was
          ∙ map-push (before) (after) old.keys (group_of q.group r) (parts_over q.aggs (r ∷ []))
          p.2 (none_yet (λ there. p.2 (subst (λ ks. Contains ks (group_of q.group r)) (sym keys_was) there))) other
          ∙ ap (map (after)) (sym p.1)

      parts : new.parts ≡ map (after) (groups_of q.group (rs ++ r ∷ []))
      parts = at (placed old.keys (group_of q.group r) new.keys h.number h.keys) ∙ ap (map (after)) keys

-- a group that is added gets a place
pub put_long : {A : Type 0} (old : List A) (x : A) (new : List A) (n : ℕ) (parts now : List (List Gathered)) (fresh : List Gathered)
    → Interns old x new n → length parts ≡ length old → now ≡ put_parts parts n fresh → length now ≡ length new
put_long {A} old x new n parts now fresh h long is = by (placed old x new n h)
  where
    within : (ps : List (List Gathered)) (m : ℕ) → m < length ps → length (put_parts ps m fresh) ≡ length ps
    within [] m l = absurd (omega arith)
    within (p ∷ ps) zero l = refl
    within (p ∷ ps) (suc m) l = ap suc (within ps m (omega arith))

    behind : (ps : List (List Gathered)) (m : ℕ) → m ≡ length ps → length (put_parts ps m fresh) ≡ suc (length ps)
    behind [] m e = refl
    behind (p ∷ ps) zero e = absurd (omega (arith, e))
    behind (p ∷ ps) (suc m) e = ap suc (behind ps m (omega (arith, e)))

    by : IsPlaced old x new n → length now ≡ length new
    by (inl p) = ap length is ∙ within parts n (omega (arith, p.0, long)) ∙ long ∙ sym (ap length p.1)
    by (inr p) =
        ap length is ∙ behind parts n (p.0 ∙ sym long) ∙ ap suc long
        ∙ sym (ap length p.1 ∙ length-push old x)
      where
        length-push : (xs : List A) (y : A) → length (xs ++ y ∷ []) ≡ suc (length xs)
        length-push [] y = refl
        length-push (z ∷ zs) y = ap suc (length-push zs y)

-- what holds where a call succeeds
pub when_ok : {T E : Type 0} (P : Type 0) (r : Result T E) → is_err r ≡ false → OnOk r P → P
when_ok P (Ok v) e h = h
when_ok P (Err x) e h = absurd (true≢false e)

-- what `put` and `gather` rest on
pub ruleset of_putting = (put_parts_set, put_parts_end)

pub ruleset of_gathering = (number_within, truncated, put_long)
