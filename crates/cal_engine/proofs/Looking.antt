-- What a query makes of a record hangs on those immediates alone that it looks at.
use Rattle.std.proofs.Common.{◌≡◌, ℕ, ◌+◌, ◌<◌, ◌≤◌, ℤ, pos, Bool, true, false, ◌||◌, ◌&&◌, not, List, [], ◌∷◌, ◌++◌, ◌⊎◌, inl, inr, length, filter, map, Option, None, Some, option_map, option_and_then, slice_get, get_or, refl, sym, ap, subst, ◌∙◌, arith, true≢false, if◌then◌else◌}
use Rattle.std.specs.Prelude.{codes, unwrap_or}
use Rattle.std.specs.List.{All, cons_option, filter_map, last_or, list_all, list_any}
use Rattle.std.specs.Ordering.{eq_by_cmp}
use Rattle.std.proofs.lemmas.Bool.{cases_lt}
use Rattle.std.proofs.lemmas.List.{get_or_append_left, get_or_push, length-append, map-append}
use Rattle.std.proofs.lemmas.List.Elements.{All-tail, filter-append}
use Rattle.cal_agg.specs.declared.num.Num.TheVariants.{Whole}
use Rattle.cal_context.specs.Snapshots.{entry_of}
use Rattle.cal_context.specs.Tree.{Tree, attribute_at}
use Rattle.cal_context.specs.declared.numbers.AttributeNumber.{AttributeNumber}
use Rattle.cal_context.specs.declared.snapshot.Immediate.{Immediate}
use Rattle.cal_filter.specs.Conditions.{cond_holds, test_holds, where_holds}
use Rattle.cal_filter.specs.Filtered.{IsFiltered}
use Rattle.cal_filter.specs.Kept.{result_entry, with_let, with_lets, with_result}
use Rattle.cal_filter.specs.Lets.{let_value, limited, operation, value_by}
use Rattle.cal_filter.specs.Named.{entries_named, is_named, last_entry, last_number}
use Rattle.cal_filter.specs.Numbers.{number_in, value_of_number}
use Rattle.cal_ql.specs.declared.names.KernelName as kernels
use Rattle.cal_ql.specs.declared.names.KernelName.TheVariants as kernel
use Rattle.cal_ql.specs.declared.names.Op as ops
use Rattle.cal_ql.specs.declared.names.Op.TheVariants as op
use Rattle.cal_ql.specs.declared.query.Agg.{Agg}
use Rattle.cal_ql.specs.declared.query.Cond.{Cond}
use Rattle.cal_ql.specs.declared.query.Let.{Let}
use Rattle.cal_ql.specs.declared.query.Query.{Query}
use Rattle.cal_rowset.specs.Cells.{is_path}
use Rattle.cal_rowset.specs.NumberedRows.{NumberedRow}
use Rattle.cal_value.specs.ExactOrder.{exact_equiv, text_exact}
use Rattle.cal_value.specs.Flat.{joined}
use Rattle.cal_value.specs.Texts.{text_cmp}
use Rattle.cal_value.specs.declared.attribute.Attribute.{Attribute}
use Rattle.cal_value.specs.declared.attribute.Entry.{Entry}
use Rattle.cal_value.specs.declared.record.Rec.{Rec}
use Rattle.cal_value.specs.declared.variant.Variant.{Variant}
use Rattle.cal_engine.specs.Folding.{groups_over}
use Rattle.cal_keys.specs.FirstSeen.{firsts}
use Rattle.cal_keys.specs.Groups.{group_of, groups_of, is_group, records_of, taken, takes}
use Rattle.cal_parts.specs.Kernels.{contributing, contributions_by, number_sought, weight}
use Rattle.cal_keys.specs.Keys.{names_in}
use Rattle.cal_engine.specs.Looked.{has_name, has_some_name, in_conds, in_lets, in_readings, is_looked, looked_at, looks_at, speaks_of, IsLooked, IsLookedAt, LooksAll}
use Rattle.cal_parts.specs.Parts.{merged_parts, part_over, parts_over}
use Rattle.cal_parts.specs.Readings.{reading_of}
use Rattle.cal_engine.specs.Rows.{is_aggregated}
use Rattle.cal_engine.specs.Tallies.{Holds}
use Rattle.cal_engine.specs.declared.looked.Looked.{Looked}
use Rattle.cal_engine.specs.declared.tally.Tally.{Tally}
use Rattle.cal_parts.proofs.Merging.{parts_over-append}
use Rattle.cal_parts.proofs.SameTexts.{same_texts}

or_first : (b c : Bool) → b ≡ true → (b || c) ≡ true
or_first true c e = refl
or_first false c e = absurd (true≢false (sym e))

or_second : (b c : Bool) → c ≡ true → (b || c) ≡ true
or_second true c e = refl
or_second false c e = e

module _ {A : Type 0} (p q : A → Bool) where
  -- one filter behind another that lets all of its items pass
  twice_next : (x : A) (xs : List A) → filter p (filter q xs) ≡ filter p xs → (p x ≡ true → q x ≡ true)
      → (b : Bool) → q x ≡ b → (c : Bool) → p x ≡ c
      → filter p (filter q (x ∷ xs)) ≡ filter p (x ∷ xs)
  twice_next x xs rest h true is true wants = rw (is, wants) (ap (λ ys. x ∷ ys) rest)
  twice_next x xs rest h true is false wants = rw (is, wants) rest
  twice_next x xs rest h false is true wants = absurd (true≢false (sym (h wants) ∙ is))
  twice_next x xs rest h false is false wants = rw (is, wants) rest

  pub filter_twice : ((x : A) → p x ≡ true → q x ≡ true) → (xs : List A)
      → filter p (filter q xs) ≡ filter p xs
  filter_twice h [] = refl
  filter_twice h (x ∷ xs) = twice_next x xs (filter_twice h xs) (h x) (q x) refl (p x) refl

  -- two filters in either order
  turned_next : (x : A) (xs : List A) → filter p (filter q xs) ≡ filter q (filter p xs)
      → (b : Bool) → q x ≡ b → (c : Bool) → p x ≡ c
      → filter p (filter q (x ∷ xs)) ≡ filter q (filter p (x ∷ xs))
  turned_next x xs rest true is true wants = rw (is, wants, is) (ap (λ ys. x ∷ ys) rest)
  turned_next x xs rest true is false wants = rw (is, wants) rest
  turned_next x xs rest false is true wants = rw (is, wants, is) rest
  turned_next x xs rest false is false wants = rw (is, wants) rest

  pub filter_turned : (xs : List A) → filter p (filter q xs) ≡ filter q (filter p xs)
  filter_turned [] = refl
  filter_turned (x ∷ xs) = turned_next x xs (filter_turned xs) (q x) refl (p x) refl

module _ {A : Type 0} (p : A → Bool) where
  -- a filter that lets all pass
  pub filter_whole : ((x : A) → p x ≡ true) → (xs : List A) → filter p xs ≡ xs
  filter_whole h [] = refl
  filter_whole h (x ∷ xs) = rw (h x) (ap (λ ys. x ∷ ys) (filter_whole h xs))

-- a text is the same as itself
same_text : (name : List ℕ) → eq_by_cmp text_cmp name name ≡ true
same_text name = (exact_equiv text_exact).refl name

module _ (q : Query) where
  -- a query looks at all that passes a test
  abbrev Sees : (Attribute → Bool) → Type 0
  Sees test = (a : Attribute) → test a ≡ true → looks_at q a ≡ true

  abbrev seen : Entry → Bool
  seen e = looks_at q e.attr

  sees_spoken : Sees (speaks_of q)
  sees_spoken a e = or_second (not (is_aggregated q)) (speaks_of q a) e

  sees_lets : Sees (in_lets q.lets)
  sees_lets a e = sees_spoken a
      (or_first (in_lets q.lets a || in_conds q.conds a) _ (or_first (in_lets q.lets a) _ e))

  sees_conds : Sees (in_conds q.conds)
  sees_conds a e = sees_spoken a
      (or_first (in_lets q.lets a || in_conds q.conds a) _ (or_second (in_lets q.lets a) _ e))

  sees_group : Sees (has_some_name (names_in q.group))
  sees_group a e = sees_spoken a
      (or_second (in_lets q.lets a || in_conds q.conds a) _
      (or_first (has_some_name (names_in q.group) a) _ e))

  sees_readings : Sees (in_readings (map reading_of q.aggs))
  sees_readings a e = sees_spoken a
      (or_second (in_lets q.lets a || in_conds q.conds a) _
      (or_second (has_some_name (names_in q.group) a) _ e))

  module _ (r : Rec) where
    -- the entries of a name
    pub named_same : (name : List ℕ) → Sees (has_name name)
        → entries_named name (looked_at q r) ≡ entries_named name r
    named_same name sees =
        filter-append (is_named name) (joined r.paths) (filter seen r.imms)
        ∙ ap (λ es. filter (is_named name) (joined r.paths) ++ es)
        (filter_twice (is_named name) seen (λ e is. sees e.attr is) r.imms)
        ∙ sym (filter-append (is_named name) (joined r.paths) r.imms)

    number_same : (name : List ℕ) → Sees (has_name name)
        → last_number name (looked_at q r) ≡ last_number name r
    number_same name sees =
        ap (λ es. last_or None (filter_map (λ (e : Entry). number_in e.value) es)) (named_same name sees)

    entry_same : (name : List ℕ) → Sees (has_name name)
        → last_entry name (looked_at q r) ≡ last_entry name r
    entry_same name sees = ap (last_or None) (named_same name sees)

    first_name : (name : List ℕ) (names : List (List ℕ)) → Sees (has_some_name (name ∷ names))
        → Sees (has_name name)
    first_name name names sees a e = sees a (or_first (has_name name a) _ e)

    other_names : (name : List ℕ) (names : List (List ℕ)) → Sees (has_some_name (name ∷ names))
        → Sees (has_some_name names)
    other_names name names sees a e = sees a (or_second (has_name name a) _ e)

    numbers_same : (names : List (List ℕ)) → Sees (has_some_name names)
        → map (λ name. last_number name (looked_at q r)) names ≡ map (λ name. last_number name r) names
    numbers_same [] sees = refl
    numbers_same (name ∷ names) sees = λ i.
        number_same name (first_name name names sees) i
        ∷ numbers_same names (other_names name names sees) i

    there_same : (names : List (List ℕ)) → Sees (has_some_name names)
        → filter_map (λ name. last_number name (looked_at q r)) names
        ≡ filter_map (λ name. last_number name r) names
    there_same [] sees = refl
    there_same (name ∷ names) sees = λ i.
        cons_option (number_same name (first_name name names sees) i)
        (there_same names (other_names name names sees) i)

    entries_same : (names : List (List ℕ)) → Sees (has_some_name names)
        → filter_map (λ name. last_entry name (looked_at q r)) names
        ≡ filter_map (λ name. last_entry name r) names
    entries_same [] sees = refl
    entries_same (name ∷ names) sees = λ i.
        cons_option (entry_same name (first_name name names sees) i)
        (entries_same names (other_names name names sees) i)

    -- so the value of a definition
    by_numbers : (o : ops.Op) (n : ℤ) (names : List (List ℕ)) → Sees (has_some_name names)
        → option_map value_of_number (option_and_then limited
        (operation o n (map (λ name. last_number name (looked_at q r)) names)))
        ≡ option_map value_of_number (option_and_then limited
        (operation o n (map (λ name. last_number name r) names)))
    by_numbers o n names sees =
        ap (λ ns. option_map value_of_number (option_and_then limited (operation o n ns)))
        (numbers_same names sees)

    value_same : (o : ops.Op) (n : ℤ) (names : List (List ℕ)) → Sees (has_some_name names)
        → value_by o n names (looked_at q r) ≡ value_by o n names r
    value_same op.First n names sees =
        ap (λ es. option_map (λ (e : Entry). e.value) (slice_get es 0)) (entries_same names sees)
    value_same op.Truncate n names sees = by_numbers op.Truncate n names sees
    value_same op.Scale n names sees = by_numbers op.Scale n names sees
    value_same op.Ratio n names sees = by_numbers op.Ratio n names sees
    value_same op.Sum n names sees = by_numbers op.Sum n names sees

    -- what a definition adds is looked at
    result_same : (name : List ℕ) → Sees (has_name name) → (v : Option Variant)
        → with_result (looked_at q r) name v ≡ looked_at q (with_result r name v)
    result_same name sees None = refl
    result_same name sees (Some v) = λ i. record {
      paths = r.paths;
      imms = sym (filter-append seen r.imms (result_entry name v ∷ [])
          ∙ ap (λ b. filter seen r.imms ++ (if b then result_entry name v ∷ [] else []))
          (sees (result_entry name v).attr (same_text name))) i;
    }

    -- a condition
    cond_same : (c : Cond) → Sees (has_name c.name) → cond_holds c (looked_at q r) ≡ cond_holds c r
    cond_same c sees =
        ap (λ es. if c.not then not (list_any (test_holds c.test) es) else list_any (test_holds c.test) es)
        (named_same c.name sees)

    conds_same : (cs : List Cond) → Sees (in_conds cs)
        → list_all (λ c. cond_holds c (looked_at q r)) cs ≡ list_all (λ c. cond_holds c r) cs
    conds_same [] sees = refl
    conds_same (c ∷ cs) sees = λ i.
        cond_same c (λ a e. sees a (or_first (has_name c.name a) _ e)) i
        && conds_same cs (λ a e. sees a (or_second (has_name c.name a) _ e)) i

    pub where_same : where_holds q.conds (looked_at q r) ≡ where_holds q.conds r
    where_same = conds_same q.conds sees_conds

  let_same : (l : Let) → Sees (has_name l.name) → Sees (has_some_name l.args) → (r : Rec)
      → with_let (looked_at q r) l ≡ looked_at q (with_let r l)
  let_same l name args r =
      ap (with_result (looked_at q r) l.name) (value_same r l.op l.n l.args args)
      ∙ result_same r l.name name (let_value l r)

  lets_same : (ls : List Let) → Sees (in_lets ls) → (r : Rec)
      → with_lets ls (looked_at q r) ≡ looked_at q (with_lets ls r)
  lets_same [] sees r = refl
  lets_same (l ∷ ls) sees r =
      ap (with_lets ls) (let_same l
      (λ a e. sees a (or_first (has_name l.name a || has_some_name l.args a) _
      (or_first (has_name l.name a) _ e)))
      (λ a e. sees a (or_first (has_name l.name a || has_some_name l.args a) _
      (or_second (has_name l.name a) _ e))) r)
      ∙ lets_same ls (λ a e. sees a (or_second (has_name l.name a || has_some_name l.args a) _ e))
      (with_let r l)

  -- LET and WHERE
  pub filtered_same : (r full : Rec) (keeps : Bool) → IsFiltered q (looked_at q r) full keeps
      → IsFiltered q r (with_lets q.lets r) keeps
  filtered_same r full keeps h = record {
    lets = refl;
    kept = h.kept ∙ ap (where_holds q.conds) (h.lets ∙ lets_same q.lets sees_lets r)
        ∙ where_same (with_lets q.lets r);
  }

  pub full_same : (r full : Rec) (keeps : Bool) → IsFiltered q (looked_at q r) full keeps
      → full ≡ looked_at q (with_lets q.lets r)
  full_same r full keeps h = h.lets ∙ lets_same q.lets sees_lets r

  -- the group of a record
  takes_named : (name : List ℕ) (b : Bool) → is_path name ≡ b → (e : Entry) → takes false name e ≡ true
      → has_name name e.attr ≡ true
  takes_named name true is e h = absurd (true≢false (sym (rw is at h)))
  takes_named name false is e h = sym (same_texts e.attr.name name) ∙ (rw is at h)

  taken_same : (names : List (List ℕ)) → Sees (has_some_name names) → (es : List Entry)
      → taken false names (filter seen es) ≡ taken false names es
  taken_same [] sees es = refl
  taken_same (name ∷ names) sees es = λ i.
      filter_twice (takes false name) seen
      (λ e h. sees e.attr (or_first (has_name name e.attr) _ (takes_named name (is_path name) refl e h)))
      es i
      ∷ (ap (taken false names) (filter_turned (λ e. not (takes false name e)) seen es)
      ∙ taken_same names (λ a e. sees a (or_second (has_name name a) _ e))
      (filter (λ e. not (takes false name e)) es)) i

  group_by_same : (names : Option (List (List ℕ))) → Sees (has_some_name (names_in names)) → (r : Rec)
      → group_of names (looked_at q r) ≡ group_of names r
  group_by_same None sees r = refl
  group_by_same (Some names) sees r = λ i. record {
    paths = (group_of (Some names) r).paths;
    imms = joined (taken_same names sees r.imms i);
  }

  pub group_same : (r : Rec) → group_of q.group (looked_at q r) ≡ group_of q.group r
  group_same r = group_by_same q.group sees_group r

  -- what a record contributes
  weight_same : (r : Rec) → Sees (has_name (codes "count")) → weight (looked_at q r) ≡ weight r
  weight_same r sees =
      ap (λ es. unwrap_or (last_or None
      (filter_map (λ (e : Entry). number_sought true e.value) es)) (Whole (pos 1)))
      (named_same r (codes "count") sees)

  contributed_same : (k : kernels.KernelName) (names : List (List ℕ)) (r : Rec)
      → Sees (has_name (codes "count")) → Sees (has_some_name names)
      → contributions_by k names (looked_at q r) ≡ contributions_by k names r
  contributed_same kernel.Count names r count sees = ap (λ w. w ∷ []) (weight_same r count)
  contributed_same kernel.Sum names r count sees = there_same r names sees
  contributed_same kernel.Min names r count sees = there_same r names sees
  contributed_same kernel.Max names r count sees = there_same r names sees
  contributed_same kernel.Avg names r count sees = there_same r names sees
  contributed_same kernel.Percent names r count sees = there_same r names sees
  contributed_same kernel.Inclusive names r count sees = there_same r names sees

  abbrev in_names : List Agg → Attribute → Bool
  in_names aggs a = list_any (λ reading. has_some_name reading.names a) (map reading_of aggs)

  parts_same_by : (aggs : List Agg) (r : Rec) → Sees (has_name (codes "count")) → Sees (in_names aggs)
      → parts_over aggs (looked_at q r ∷ []) ≡ parts_over aggs (r ∷ [])
  parts_same_by [] r count sees = refl
  parts_same_by (agg ∷ aggs) r count sees = λ i.
      part_over agg.kernel
      (contributed_same agg.kernel (contributing agg.kernel agg.attr) r count
      (λ a e. sees a (or_first (has_some_name (contributing agg.kernel agg.attr) a) _ e)) i ++ [])
      ∷ parts_same_by aggs r count
      (λ a e. sees a (or_second (has_some_name (contributing agg.kernel agg.attr) a) _ e)) i

  pub parts_same : (r : Rec) → parts_over q.aggs (looked_at q r ∷ []) ≡ parts_over q.aggs (r ∷ [])
  parts_same r =
      parts_same_by q.aggs r
      (λ a e. sees_readings a (or_second (in_names q.aggs a) _ (same_texts a.name (codes "count") ∙ e)))
      (λ a e. sees_readings a (or_first (in_names q.aggs a) _ e))

  -- so the groups of records with one more
  module _ (ks : List Rec) (r : Rec) where
    last_same : (g : Rec) (b : Bool) → is_group (group_of q.group r) g ≡ b
        → parts_over q.aggs (records_of q.group g (looked_at q r ∷ []))
        ≡ parts_over q.aggs (records_of q.group g (r ∷ []))
    last_same g b is = by b is (ap (λ x. is_group x g) (group_same r) ∙ is)
      where
        by : (b : Bool) → is_group (group_of q.group r) g ≡ b
            → is_group (group_of q.group (looked_at q r)) g ≡ b
            → parts_over q.aggs (records_of q.group g (looked_at q r ∷ []))
            ≡ parts_over q.aggs (records_of q.group g (r ∷ []))
        by true one other = rw (other, one) (parts_same r)
        by false one other = rw (other, one) refl

    records_same : (g : Rec) → parts_over q.aggs (records_of q.group g (ks ++ looked_at q r ∷ []))
        ≡ parts_over q.aggs (records_of q.group g (ks ++ r ∷ []))
    records_same g =
        let p = λ (s : Rec). is_group (group_of q.group s) g in
        ap (parts_over q.aggs) (filter-append p ks (looked_at q r ∷ []))
        ∙ parts_over-append q.aggs (filter p ks) (filter p (looked_at q r ∷ []))
        ∙ ap (merged_parts (parts_over q.aggs (filter p ks)))
        (last_same g (is_group (group_of q.group r) g) refl)
        ∙ sym (parts_over-append q.aggs (filter p ks) (filter p (r ∷ [])))
        ∙ sym (ap (parts_over q.aggs) (filter-append p ks (r ∷ [])))

    keys_same : groups_of q.group (ks ++ looked_at q r ∷ []) ≡ groups_of q.group (ks ++ r ∷ [])
    keys_same =
        ap (firsts is_group) (map-append (group_of q.group) ks (looked_at q r ∷ [])
        ∙ ap (λ g. map (group_of q.group) ks ++ g ∷ []) (group_same r)
        ∙ sym (map-append (group_of q.group) ks (r ∷ [])))

    pub groups_same : groups_over q (ks ++ looked_at q r ∷ []) ≡ groups_over q (ks ++ r ∷ [])
    groups_same = λ i. record {
      keys = keys_same i;
      parts = map (λ g. records_same g i) (keys_same i);
    }

    -- and what a fold holds of them
    pub holds_same : (t : Tree) (y : Tally) (rows : List NumberedRow)
        → Holds t q (ks ++ looked_at q r ∷ []) y rows → Holds t q (ks ++ r ∷ []) y rows
    holds_same t y rows h = record {
      groups = λ is. let old = h.groups is in record {
        counters = old.counters;
        sieve = old.sieve;
        keys = old.keys;
        groups = old.groups ∙ groups_same;
        known = old.known;
      };
      rows = λ isnt. (subst (λ x. Holds t q (ks ++ x ∷ []) y rows) (whole isnt) h).rows isnt;
    }
      where
        whole : is_aggregated q ≡ false → looked_at q r ≡ r
        whole isnt = λ i. record {
          paths = r.paths;
          imms = filter_whole seen
              (λ e. or_first (not (is_aggregated q)) (speaks_of q e.attr) (ap not isnt)) r.imms i;
        }

  -- ---- what is kept beside numbers of attributes

  -- the immediates that are looked at
  looked_next : (t : Tree) (k : Looked) (x : Immediate) (imms : List Immediate)
      → map (entry_of t) (filter (λ imm. is_looked k imm.attribute) imms)
      ≡ filter seen (map (entry_of t) imms) → (b : Bool) → is_looked k x.attribute ≡ b
      → seen (entry_of t x) ≡ b
      → map (entry_of t) (filter (λ imm. is_looked k imm.attribute) (x ∷ imms))
      ≡ filter seen (map (entry_of t) (x ∷ imms))
  looked_next t k x imms rest true is sees = rw (is, sees) (ap (λ es. entry_of t x ∷ es) rest)
  looked_next t k x imms rest false is sees = rw (is, sees) rest

  pub looked_imms : (t : Tree) (k : Looked) → LooksAll t q k → (imms : List Immediate)
      → All (λ imm. imm.attribute.0 < length t.attributes) imms
      → map (entry_of t) (filter (λ imm. is_looked k imm.attribute) imms)
      ≡ filter seen (map (entry_of t) imms)
  looked_imms t k h [] within = refl
  looked_imms t k h (x ∷ imms) within =
      let here = h.is.attributes x.attribute (omega (arith, within 0 x (omega arith), h.attributes)) in
      looked_next t k x imms
      (looked_imms t k h imms
      (All-tail (λ (imm : Immediate). imm.attribute.0 < length t.attributes) x imms within))
      (is_looked k x.attribute) refl (sym here.is)

  -- one attribute more
  pub looked_more : (t : Tree) (k k' : Looked) (a : AttributeNumber) (b : Bool)
      → k'.names ≡ k.names → k'.attributes ≡ k.attributes ++ b ∷ []
      → a.0 ≡ length k.attributes → a.0 < length t.attributes
      → b ≡ looks_at q (attribute_at t a) → IsLooked t q k → IsLooked t q k'
  looked_more t k k' a b same more next within is h = record {
    names = ap (λ ns. ns.keys) same ∙ h.names;
    attributes = λ x l. by x (cases_lt x.0 (length k.attributes)) l;
  }
    where
      by : (x : AttributeNumber) → ((x.0 < length k.attributes) ⊎ (length k.attributes ≤ x.0))
          → x.0 < length k'.attributes → IsLookedAt t q k' x
      by x (inl short) l =
          let old = h.attributes x short in
          record {
            within = old.within;
            is = ap (λ xs. get_or xs x.0 false) more
                ∙ get_or_append_left k.attributes (b ∷ []) false x.0 short ∙ old.is;
          }
      by x (inr long) l =
          let counted : length k'.attributes ≡ length k.attributes + 1 =
          ap length more ∙ length-append k.attributes (b ∷ []) in
          let e : x.0 ≡ length k.attributes = omega arith in
          let at : x ≡ a = λ i. record { 0 = (e ∙ sym next) i } in
          record {
            within = omega arith;
            is = ap (λ xs. get_or xs x.0 false) more
                ∙ ap (λ i. get_or (k.attributes ++ b ∷ []) i false) e
                ∙ get_or_push k.attributes b false (length k.attributes) refl ∙ is
                ∙ ap (λ y. looks_at q (attribute_at t y)) (sym at);
          }
