-- The groups of two lists, merged, are the groups of their concatenation.
use Rattle.std.proofs.Common.{◌≡◌, ℕ, zero, suc, ◌+◌, ◌<◌, Bool, true, false, not, ◌||◌, List, [], ◌∷◌, ◌++◌, inl, inr, if◌then◌else◌, length, filter, fold, map, take, get_or, slice_get, Some, refl, sym, ap, subst, ◌∙◌, arith, true≢false, append_assoc, Contains}
use Rattle.std.specs.Prelude.{slice_set, slice_index_or}
use Rattle.std.specs.List.{AllByRecursion, flat_map, list_any}
use Rattle.std.proofs.lemmas.Grind.{flat_map-append, fold-append}
use Rattle.std.proofs.lemmas.List.{length-map, map-append, take_more}
use Rattle.std.proofs.lemmas.List.Elements.{filter-append}
use Rattle.std.proofs.lemmas.Map.Views.{Contains-from_any}
use Rattle.indexmap.specs.IndexSet.{insert_key}
use Rattle.cal_ql.specs.declared.query.Query.{Query}
use Rattle.cal_value.specs.declared.record.Rec.{Rec}
use Rattle.cal_keys.specs.FirstSeen.{firsts}
use Rattle.cal_engine.specs.Folding.{Gathers, Grouped, groups_over}
use Rattle.cal_keys.specs.Groups.{group_of, groups_of, is_group, records_of}
use Rattle.cal_parts.specs.Parts.{Gathered, merged_parts, parts_over}
use Rattle.cal_engine.proofs.Firsts.{firsts-Adds, firsts-push, list_any-firsts}
use Rattle.cal_engine.proofs.Gathering.{group_laws, group_same, map_read, put_parts_end, put_parts_set}
use Rattle.cal_parts.proofs.Merging.{parts_over-append}
use Rattle.cal_engine.proofs.Partitions.{AreOnce, AreOnce-firsts}
use Rattle.cal_engine.proofs.Places.{IsPlaced, map-push, map-slice_set, placed}

nothing : {A : Type 0} (xs : List A) → xs ++ [] ≡ xs
nothing [] = refl
nothing (x ∷ xs) = ap (λ ys. x ∷ ys) (nothing xs)

-- ---- names of groups that were seen add nothing

abbrev seen_key : List Rec → Rec → List Rec
seen_key keys key = insert_key is_group keys key

abbrev seen : List Rec → List Rec → List Rec
seen keys more = fold seen_key keys more

seen_next : (done : List Rec) (key : Rec) → seen_key (firsts is_group done) key ≡ firsts is_group (done ++ key ∷ [])
seen_next done key =
    ap (λ b. if b then firsts is_group done else firsts is_group done ++ key ∷ []) (list_any-firsts group_laws group_same key done)
    ∙ sym (firsts-push group_laws group_same done key)

-- what is seen first of a concatenation
seen_all : (done more : List Rec) → seen (firsts is_group done) more ≡ firsts is_group (done ++ more)
seen_all done [] = ap (firsts is_group) (sym (nothing done))
seen_all done (key ∷ keys) =
    ap (λ ks. seen ks keys) (seen_next done key)
    ∙ seen_all (done ++ key ∷ []) keys
    ∙ ap (firsts is_group) (append_assoc done (key ∷ []) keys)

list_any-append : (key : Rec) (xs ys : List Rec) → list_any (is_group key) (xs ++ ys) ≡ (list_any (is_group key) xs || list_any (is_group key) ys)
list_any-append key [] ys = refl
list_any-append key (x ∷ xs) ys = by (is_group key x) (list_any-append key xs ys)
  where
    by : (b : Bool) → list_any (is_group key) (xs ++ ys) ≡ (list_any (is_group key) xs || list_any (is_group key) ys)
        → (b || list_any (is_group key) (xs ++ ys)) ≡ ((b || list_any (is_group key) xs) || list_any (is_group key) ys)
    by true h = refl
    by false h = h

-- a key that is there stays there
still_there : (key other : Rec) (keys : List Rec) → list_any (is_group key) keys ≡ true → list_any (is_group key) (seen_key keys other) ≡ true
still_there key other keys h = by (list_any (is_group other) keys)
  where
    by : (b : Bool) → list_any (is_group key) (if b then keys else keys ++ other ∷ []) ≡ true
    by true = h
    by false = list_any-append key keys (other ∷ []) ∙ ap (λ b. b || list_any (is_group key) (other ∷ [])) h

now_there : (key : Rec) (keys : List Rec) → list_any (is_group key) (seen_key keys key) ≡ true
now_there key keys = by (list_any (is_group key) keys) refl
  where
    or_true : (a b : Bool) → b ≡ true → (a || b) ≡ true
    or_true true b h = refl
    or_true false b h = h

    last : list_any (is_group key) (key ∷ []) ≡ true
    last = rw (group_laws.refl key) refl

    by : (b : Bool) → list_any (is_group key) keys ≡ b → list_any (is_group key) (if b then keys else keys ++ key ∷ []) ≡ true
    by true h = h
    by false h = list_any-append key keys (key ∷ []) ∙ or_true (list_any (is_group key) keys) (list_any (is_group key) (key ∷ [])) last

-- leaving one out that is there already
seen_without : (key : Rec) (keys more : List Rec) → list_any (is_group key) keys ≡ true
    → seen keys (filter (λ other. not (is_group other key)) more) ≡ seen keys more
seen_without key keys [] h = refl
seen_without key keys (other ∷ more) h = by (is_group other key) refl (seen_without key keys more h) (seen_without key (seen_key keys other) more (still_there key other keys h))
  where
    by : (b : Bool) → is_group other key ≡ b
        → seen keys (filter (λ other. not (is_group other key)) more) ≡ seen keys more
        → seen (seen_key keys other) (filter (λ other. not (is_group other key)) more) ≡ seen (seen_key keys other) more
        → seen keys (filter (λ other. not (is_group other key)) (other ∷ more)) ≡ seen keys (other ∷ more)
    by true e rest next =
        let same = group_same other key e in
        let there : list_any (is_group other) keys ≡ true = ap (λ k. list_any (is_group k) keys) same ∙ h in
        let stays : seen_key keys other ≡ keys = ap (λ b. if b then keys else keys ++ other ∷ []) there in
        rw e (rest ∙ ap (λ ks. seen ks more) (sym stays))
    by false e rest next = rw e next

-- so keys may be seen once beforehand
seen_firsts : (keys more : List Rec) → seen keys (firsts is_group more) ≡ seen keys more
seen_firsts keys [] = refl
seen_firsts keys (key ∷ more) =
    seen_without key (seen_key keys key) (firsts is_group more) (now_there key keys)
    ∙ seen_firsts (seen_key keys key) more

module _ (q : Query) where
  -- the records of the same group
  abbrev pub AreOf : Rec → List Rec → Type 0
  AreOf key rs = AllByRecursion (λ r. group_of q.group r ≡ key) rs

  seen_same : (key : Rec) (keys : List Rec) (rs : List Rec) → AreOf key rs → list_any (is_group key) keys ≡ true
      → seen keys (map (group_of q.group) rs) ≡ keys
  seen_same key keys [] all h = refl
  seen_same key keys (r ∷ rs) all h =
      let there : list_any (is_group (group_of q.group r)) keys ≡ true = ap (λ k. list_any (is_group k) keys) all.0 ∙ h in
      ap (λ ks. seen ks (map (group_of q.group) rs)) (ap (λ b. if b then keys else keys ++ group_of q.group r ∷ []) there)
      ∙ seen_same key keys rs all.1 h

  -- the records of one group are one key more
  seen_group : (key : Rec) (keys : List Rec) (r : Rec) (rs : List Rec) → AreOf key (r ∷ rs)
      → seen keys (map (group_of q.group) (r ∷ rs)) ≡ seen_key keys key
  seen_group key keys r rs all =
      ap (λ k. seen (seen_key keys k) (map (group_of q.group) rs)) all.0
      ∙ seen_same key (seen_key keys key) rs all.1 (now_there key keys)

  all_of : (key : Rec) (rs : List Rec) → AreOf key rs → records_of q.group key rs ≡ rs
  all_of key [] all = refl
  all_of key (r ∷ rs) all =
      let own : is_group (group_of q.group r) key ≡ true = ap (λ k. is_group k key) all.0 ∙ group_laws.refl key in
      rw own (ap (λ ss. r ∷ ss) (all_of key rs all.1))

  none_of : (key other : Rec) (rs : List Rec) → (other ≡ key → ⊥) → AreOf key rs → records_of q.group other rs ≡ []
  none_of key other [] ne all = refl
  none_of key other (r ∷ rs) ne all = by (is_group (group_of q.group r) other) refl (none_of key other rs ne all.1)
    where
      by : (b : Bool) → is_group (group_of q.group r) other ≡ b → records_of q.group other rs ≡ [] → records_of q.group other (r ∷ rs) ≡ []
      by true e rest = absurd (ne (sym (group_same (group_of q.group r) other e) ∙ all.0))
      by false e rest = rw e rest

  pub are_of : (key : Rec) (rs : List Rec) → AreOf key (records_of q.group key rs)
  are_of key [] = tt
  are_of key (r ∷ rs) = by (is_group (group_of q.group r) key) refl (are_of key rs)
    where
      by : (b : Bool) → is_group (group_of q.group r) key ≡ b → AreOf key (records_of q.group key rs) → AreOf key (records_of q.group key (r ∷ rs))
      by true e rest = rw e (group_same (group_of q.group r) key e, rest)
      by false e rest = rw e rest

  -- ---- the records of one group more

  no_record : (key : Rec) (ss : List Rec) → list_any (is_group key) (map (group_of q.group) ss) ≡ false → records_of q.group key ss ≡ []
  no_record key [] e = refl
  no_record key (s ∷ ss) e =
      let both = both_false (is_group key (group_of q.group s)) (list_any (is_group key) (map (group_of q.group) ss)) e in
      let turned : is_group (group_of q.group s) key ≡ false = group_laws.symm (group_of q.group s) key ∙ both.0 in
      rw turned (no_record key ss both.1)
    where
      both_false : (a b : Bool) → (a || b) ≡ false → (a ≡ false) × (b ≡ false)
      both_false true b e = absurd (true≢false e)
      both_false false b e = (refl, e)

  module _ (rs : List Rec) (key r : Rec) (more : List Rec) (all : AreOf key (r ∷ more)) where
    abbrev before : Rec → List Gathered
    before g = parts_over q.aggs (records_of q.group g rs)

    abbrev after : Rec → List Gathered
    after g = parts_over q.aggs (records_of q.group g (rs ++ r ∷ more))

    own_records : records_of q.group key (rs ++ r ∷ more) ≡ records_of q.group key rs ++ r ∷ more
    own_records =
        filter-append (λ s. is_group (group_of q.group s) key) rs (r ∷ more)
        ∙ ap (λ ss. records_of q.group key rs ++ ss) (all_of key (r ∷ more) all)

    own : after key ≡ merged_parts (before key) (parts_over q.aggs (r ∷ more))
    own = ap (parts_over q.aggs) own_records ∙ parts_over-append q.aggs (records_of q.group key rs) (r ∷ more)

    other : (g : Rec) → (g ≡ key → ⊥) → after g ≡ before g
    other g ne = ap (parts_over q.aggs) (
        filter-append (λ s. is_group (group_of q.group s) g) rs (r ∷ more)
        ∙ ap (λ ss. records_of q.group g rs ++ ss) (none_of key g (r ∷ more) ne all)
        ∙ nothing (records_of q.group g rs))

    none_yet : (Contains (groups_of q.group rs) key → ⊥) → parts_over q.aggs (r ∷ more) ≡ after key
    none_yet absent = ap (parts_over q.aggs) (sym (own_records ∙ ap (λ xs. xs ++ r ∷ more) (no_record key rs unseen)))
      where
        unseen : list_any (is_group key) (map (group_of q.group) rs) ≡ false
        unseen = by (list_any (is_group key) (map (group_of q.group) rs)) refl
          where
            by : (b : Bool) → list_any (is_group key) (map (group_of q.group) rs) ≡ b → list_any (is_group key) (map (group_of q.group) rs) ≡ false
            by true e = absurd (absent (Contains-from_any group_same key (groups_of q.group rs)
                (list_any-firsts group_laws group_same key (map (group_of q.group) rs) ∙ e)))
            by false e = e

    -- Gathering what is kept of them gives the groups of the longer list.
    pub gathers_more : (old new : Grouped) → old ≡ groups_over q rs → Gathers old key (parts_over q.aggs (r ∷ more)) new
        → new ≡ groups_over q (rs ++ r ∷ more)
    gathers_more old new is h = λ i. record { keys = keys i; parts = parts i }
      where
        keys_was : old.keys ≡ groups_of q.group rs
        keys_was = ap (λ o. o.keys) is

        keys : new.keys ≡ groups_of q.group (rs ++ r ∷ more)
        keys =
            firsts-Adds group_laws group_same (map (group_of q.group) rs) key old.keys new.keys keys_was h.keys.adds
            ∙ sym (seen_next (map (group_of q.group) rs) key)
            ∙ sym (seen_group key (groups_of q.group rs) r more all)
            ∙ seen_all (map (group_of q.group) rs) (map (group_of q.group) (r ∷ more))
            ∙ ap (firsts is_group) (sym (map-append (group_of q.group) rs (r ∷ more)))

        parts_was : old.parts ≡ map before old.keys
        parts_was = ap (λ o. o.parts) is ∙ ap (map before) (sym keys_was)

        long : length old.parts ≡ length old.keys
        long = ap length parts_was ∙ simp length-map

        at : IsPlaced old.keys key new.keys h.number → new.parts ≡ map after new.keys
        at (inl p) =
            h.parts
            ∙ sym (put_parts_set old.parts h.number [] (parts_over q.aggs (r ∷ more)) (omega (arith, long, p.0)))
            ∙ ap (λ ps. slice_set ps h.number (merged_parts (slice_index_or ps h.number []) (parts_over q.aggs (r ∷ more)))) parts_was
            ∙ map-slice_set before after old.keys h.number key
            (merged_parts (slice_index_or (map before old.keys) h.number []) (parts_over q.aggs (r ∷ more)))
            h.apart there (ap (λ ps. merged_parts ps (parts_over q.aggs (r ∷ more))) (map_read before old.keys h.number key [] there) ∙ sym own) other
            ∙ ap (map after) (sym p.1)
          where
            there : slice_get old.keys h.number ≡ Some key
            there = subst (λ ks. slice_get ks h.number ≡ Some key) p.1 h.keys.number
        at (inr p) =
            h.parts
            ∙ sym (put_parts_end old.parts h.number (parts_over q.aggs (r ∷ more)) (p.0 ∙ sym long))
            ∙ ap (λ ps. ps ++ parts_over q.aggs (r ∷ more) ∷ []) parts_was
            ∙ map-push before after old.keys key (parts_over q.aggs (r ∷ more))
            p.2 (none_yet (λ there. p.2 (subst (λ ks. Contains ks key) (sym keys_was) there))) other
            ∙ ap (map after) (sym p.1)

        parts : new.parts ≡ map after (groups_of q.group (rs ++ r ∷ more))
        parts = at (placed old.keys key new.keys h.number h.keys) ∙ ap (map after) keys

  -- ---- the records of a list, group by group

  module _ (ss : List Rec) where
    abbrev pub regrouped : List Rec → List Rec
    regrouped keys = flat_map (λ key. records_of q.group key ss) keys

    -- a group that was seen has a record
    pub record HasRecords (key : Rec) : Type 0 where
      pub first : Rec
      pub rest : List Rec
      pub are : records_of q.group key ss ≡ first ∷ rest

    found_record : (key : Rec) (rs : List Rec) → list_any (is_group key) (map (group_of q.group) rs) ≡ true
        → (first : Rec) × ((rest : List Rec) × (records_of q.group key rs ≡ first ∷ rest))
    found_record key [] h = absurd (true≢false (sym h))
    found_record key (r ∷ rs) h = by (is_group (group_of q.group r) key) refl (found_record key rs)
      where
        by : (b : Bool) → is_group (group_of q.group r) key ≡ b
            → (list_any (is_group key) (map (group_of q.group) rs) ≡ true → (first : Rec) × ((rest : List Rec) × (records_of q.group key rs ≡ first ∷ rest)))
            → (first : Rec) × ((rest : List Rec) × (records_of q.group key (r ∷ rs) ≡ first ∷ rest))
        by true e later = (r, (records_of q.group key rs, rw e refl))
        by false e later =
            let other : is_group key (group_of q.group r) ≡ false = group_laws.symm key (group_of q.group r) ∙ e in
            let found = later (sym (ap (λ b. b || list_any (is_group key) (map (group_of q.group) rs)) other) ∙ h) in
            (found.0, (found.1.0, ap (λ b. if b then r ∷ records_of q.group key rs else records_of q.group key rs) e ∙ found.1.1))

    pub has_records : (key : Rec) → list_any (is_group key) (map (group_of q.group) ss) ≡ true → HasRecords key
    has_records key h = let found = found_record key ss h in record { first = found.0; rest = found.1.0; are = found.1.1 }

    -- each group that was seen first was seen
    pub keys_seen : (xs : List Rec) → AllByRecursion (λ key. list_any (is_group key) xs ≡ true) (firsts is_group xs)
    keys_seen [] = tt
    keys_seen (x ∷ xs) = (
      ap (λ b. b || list_any (is_group x) xs) (group_laws.refl x),
      more (firsts is_group xs) (keys_seen xs),
    )
      where
        or_true : (a b : Bool) → b ≡ true → (a || b) ≡ true
        or_true true b h = refl
        or_true false b h = h

        more : (ys : List Rec) → AllByRecursion (λ key. list_any (is_group key) xs ≡ true) ys
            → AllByRecursion (λ key. list_any (is_group key) (x ∷ xs) ≡ true) (filter (λ other. not (is_group other x)) ys)
        more [] all = tt
        more (y ∷ ys) all = by (is_group y x) refl (more ys all.1)
          where
            by : (b : Bool) → is_group y x ≡ b
                → AllByRecursion (λ key. list_any (is_group key) (x ∷ xs) ≡ true) (filter (λ other. not (is_group other x)) ys)
                → AllByRecursion (λ key. list_any (is_group key) (x ∷ xs) ≡ true) (filter (λ other. not (is_group other x)) (y ∷ ys))
            by true e rest = rw e rest
            by false e rest = rw e (or_true (is_group y x) (list_any (is_group y) xs) all.0, rest)

    -- their keys, in turn, are the groups
    regrouped_keys : (keys gs : List Rec) → AllByRecursion (λ key. list_any (is_group key) (map (group_of q.group) ss) ≡ true) gs
        → seen keys (map (group_of q.group) (regrouped gs)) ≡ seen keys gs
    regrouped_keys keys [] all = refl
    regrouped_keys keys (g ∷ gs) all =
        ap (seen keys) (map-append (group_of q.group) (records_of q.group g ss) (regrouped gs))
        ∙ fold-append seen_key keys (map (group_of q.group) (records_of q.group g ss)) (map (group_of q.group) (regrouped gs))
        ∙ ap (λ ks. seen ks (map (group_of q.group) (regrouped gs))) one
        ∙ regrouped_keys (seen_key keys g) gs all.1
      where
        has : HasRecords g
        has = has_records g all.0

        one : seen keys (map (group_of q.group) (records_of q.group g ss)) ≡ seen_key keys g
        one =
            ap (λ rs. seen keys (map (group_of q.group) rs)) has.are
            ∙ seen_group g keys has.first has.rest (subst (AreOf g) has.are (are_of g ss))

    -- and the records of each are those of the list
    regrouped_records : (key : Rec) (gs : List Rec) → AreOnce is_group gs
        → records_of q.group key (regrouped gs) ≡ (if list_any (is_group key) gs then records_of q.group key ss else [])
    regrouped_records key [] once = refl
    regrouped_records key (g ∷ gs) once =
        filter-append (λ s. is_group (group_of q.group s) key) (records_of q.group g ss) (regrouped gs)
        ∙ ap (λ rs. records_of q.group key (records_of q.group g ss) ++ rs) (regrouped_records key gs once.1)
        ∙ by (is_group key g) refl
      where
        by : (b : Bool) → is_group key g ≡ b
            → records_of q.group key (records_of q.group g ss) ++ (if list_any (is_group key) gs then records_of q.group key ss else [])
            ≡ (if is_group key g || list_any (is_group key) gs then records_of q.group key ss else [])
        by true e =
            let same : key ≡ g = group_same key g e in
            let absent : list_any (is_group key) gs ≡ false = ap (λ k. list_any (is_group k) gs) same ∙ once.0 in
            ap (λ b. records_of q.group key (records_of q.group g ss) ++ (if b then records_of q.group key ss else [])) absent
            ∙ nothing (records_of q.group key (records_of q.group g ss))
            ∙ ap (λ k. records_of q.group key (records_of q.group k ss)) (sym same)
            ∙ all_of key (records_of q.group key ss) (are_of key ss)
            ∙ sym (ap (λ b. if b || list_any (is_group key) gs then records_of q.group key ss else []) e)
        by false e =
            let apart = λ (s : key ≡ g). true≢false (sym (ap (λ k. is_group k g) s ∙ group_laws.refl g) ∙ e) in
            ap (λ rs. rs ++ (if list_any (is_group key) gs then records_of q.group key ss else [])) (none_of g key (records_of q.group g ss) apart (are_of g ss))
            ∙ sym (ap (λ b. if b || list_any (is_group key) gs then records_of q.group key ss else []) e)

    regrouped_own : (key : Rec) → records_of q.group key (regrouped (groups_of q.group ss)) ≡ records_of q.group key ss
    regrouped_own key =
        regrouped_records key (groups_of q.group ss) (AreOnce-firsts group_laws group_same (map (group_of q.group) ss))
        ∙ by (list_any (is_group key) (groups_of q.group ss)) refl
      where
        by : (b : Bool) → list_any (is_group key) (groups_of q.group ss) ≡ b
            → (if list_any (is_group key) (groups_of q.group ss) then records_of q.group key ss else []) ≡ records_of q.group key ss
        by true e = rw e refl
        by false e = rw e (sym (no_record key ss (sym (list_any-firsts group_laws group_same key (map (group_of q.group) ss)) ∙ e)))

    -- So the groups of the list are those of its records group by group.
    pub groups_over-regrouped : (rs : List Rec) → groups_over q (rs ++ regrouped (groups_of q.group ss)) ≡ groups_over q (rs ++ ss)
    groups_over-regrouped rs = λ i. record { keys = keys i; parts = parts i }
      where
        keys : groups_of q.group (rs ++ regrouped (groups_of q.group ss)) ≡ groups_of q.group (rs ++ ss)
        keys =
            ap (firsts is_group) (map-append (group_of q.group) rs (regrouped (groups_of q.group ss)))
            ∙ sym (seen_all (map (group_of q.group) rs) (map (group_of q.group) (regrouped (groups_of q.group ss))))
            ∙ regrouped_keys (groups_of q.group rs) (groups_of q.group ss) (keys_seen (map (group_of q.group) ss))
            ∙ seen_firsts (groups_of q.group rs) (map (group_of q.group) ss)
            ∙ seen_all (map (group_of q.group) rs) (map (group_of q.group) ss)
            ∙ ap (firsts is_group) (sym (map-append (group_of q.group) rs ss))

        own : (key : Rec) → records_of q.group key (rs ++ regrouped (groups_of q.group ss)) ≡ records_of q.group key (rs ++ ss)
        own key =
            filter-append (λ s. is_group (group_of q.group s) key) rs (regrouped (groups_of q.group ss))
            ∙ ap (λ xs. records_of q.group key rs ++ xs) (regrouped_own key)
            ∙ sym (filter-append (λ s. is_group (group_of q.group s) key) rs ss)

        map_alike : {A B : Type 0} (f g : A → B) → ((x : A) → f x ≡ g x) → (xs : List A) → map f xs ≡ map g xs
        map_alike f g same [] = refl
        map_alike f g same (x ∷ xs) = λ i. same x i ∷ map_alike f g same xs i

        parts : map (λ key. parts_over q.aggs (records_of q.group key (rs ++ regrouped (groups_of q.group ss)))) (groups_of q.group (rs ++ regrouped (groups_of q.group ss)))
            ≡ map (λ key. parts_over q.aggs (records_of q.group key (rs ++ ss))) (groups_of q.group (rs ++ ss))
        parts =
            map_alike (λ key. parts_over q.aggs (records_of q.group key (rs ++ regrouped (groups_of q.group ss)))) (λ key. parts_over q.aggs (records_of q.group key (rs ++ ss)))
            (λ key. ap (parts_over q.aggs) (own key)) (groups_of q.group (rs ++ regrouped (groups_of q.group ss)))
            ∙ ap (map (λ key. parts_over q.aggs (records_of q.group key (rs ++ ss)))) keys

    -- one group's records more
    pub regrouped_more : (rs : List Rec) (n : ℕ) (key : Rec) (parts : List Gathered) (old new : Grouped)
        → n < length (groups_of q.group ss) → key ≡ get_or (groups_of q.group ss) n key
        → parts ≡ parts_over q.aggs (records_of q.group key ss)
        → old ≡ groups_over q (rs ++ regrouped (take n (groups_of q.group ss)))
        → Gathers old key parts new
        → new ≡ groups_over q (rs ++ regrouped (take (n + 1) (groups_of q.group ss)))
    regrouped_more rs n key parts old new l e is old_is gathers =
        gathers_more (rs ++ regrouped (take n (groups_of q.group ss))) key has.first has.rest (subst (AreOf key) has.are (are_of key ss)) old new old_is
        (subst (λ ps. Gathers old key ps new) (is ∙ ap (parts_over q.aggs) has.are) gathers)
        ∙ ap (groups_over q) (
        append_assoc rs (regrouped (take n (groups_of q.group ss))) (has.first ∷ has.rest)
        ∙ ap (λ xs. rs ++ xs) (ap (λ xs. regrouped (take n (groups_of q.group ss)) ++ xs) (sym has.are) ∙ sym more))
      where
        seen_so : list_any (is_group key) (map (group_of q.group) ss) ≡ true
        seen_so = at (groups_of q.group ss) n l e (keys_seen (map (group_of q.group) ss))
          where
            at : (gs : List Rec) (m : ℕ) → m < length gs → key ≡ get_or gs m key
                → AllByRecursion (λ key. list_any (is_group key) (map (group_of q.group) ss) ≡ true) gs
                → list_any (is_group key) (map (group_of q.group) ss) ≡ true
            at [] m k f all = absurd (omega arith)
            at (g ∷ gs) zero k f all = subst (λ g. list_any (is_group g) (map (group_of q.group) ss) ≡ true) (sym f) all.0
            at (g ∷ gs) (suc m) k f all = at gs m (omega arith) f all.1

        has : HasRecords key
        has = has_records key seen_so

        more : regrouped (take (n + 1) (groups_of q.group ss)) ≡ regrouped (take n (groups_of q.group ss)) ++ records_of q.group key ss
        more =
            ap regrouped (take_more (groups_of q.group ss) n key l ∙ ap (λ g. take n (groups_of q.group ss) ++ g ∷ []) (sym e))
            ∙ flat_map-append (λ key. records_of q.group key ss) (take n (groups_of q.group ss)) (key ∷ [])
            ∙ ap (λ xs. regrouped (take n (groups_of q.group ss)) ++ xs) (nothing (records_of q.group key ss))
