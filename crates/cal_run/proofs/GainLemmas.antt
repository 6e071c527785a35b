-- What a context's attributes gain, call by call.
use Rattle.std.proofs.Common.{◌≡◌, ◌⊎◌, ℕ, ◌+◌, ◌<◌, List, [], ◌∷◌, ◌++◌, take, get_or, sym, subst}
use Rattle.std.proofs.Common.{length, refl, arith, inl, inr, ⊎_elim}
use Rattle.std.specs.List.{Contains, flat_map}
use Rattle.std.proofs.lemmas.List.{take_more}
use Rattle.std.proofs.lemmas.List.Concat.{flat_map-append}
use Rattle.std.proofs.lemmas.List.Elements.{Contains-append_left, Contains-append_right}
use Rattle.std.proofs.lemmas.List.Elements.{Contains-push_cases}
use Rattle.cal_context.proofs.CallerLemmas.{Grows-trans}
use Rattle.cal_context.specs.Children.{AddsAttribute}
use Rattle.cal_context.specs.Lists.{Adds}
use Rattle.cal_context.specs.Tree.{Grows, Tree}
use Rattle.cal_context.specs.declared.numbers.AttributeNumber.{AttributeNumber}
use Rattle.cal_run.specs.RunAttributes.{AreOfRun, GainsOnly, added_attributes, events_of}
use Rattle.cal_run.specs.RunAttributes.{run_attributes}
use Rattle.cal_run.specs.Snapshots.{duration, inclusive_duration, probe_of}
use Rattle.cal_script.specs.declared.script.ProbeKind.TheVariants as probe
use Rattle.cal_script.specs.declared.script.Script.{Script}
use Rattle.cal_value.specs.declared.attribute.Attribute.{Attribute}

here : {A : Type 0} (x : A) (xs : List A) → Contains (x ∷ xs) x
here x xs = (0, omega arith, refl)

-- whatever one item has is that item
only : {A : Type 0} (x a : A) → Contains (x ∷ []) a → x ≡ a
only x a is = ⊎_elim (λ none. absurd (omega (arith, none.1))) (λ same. same)
    (Contains-push_cases [] x a is)

-- one attribute
pub gains-added : (old new : Tree) (n : AttributeNumber) (x : Attribute)
    → AddsAttribute old x new n → GainsOnly old.attributes new.attributes (x ∷ [])
gains-added old new n x added = record { gains = by added.attributes.adds }
  where
    by : Adds old.attributes x new.attributes → (a : Attribute) → Contains new.attributes a
        → Contains old.attributes a ⊎ Contains (x ∷ []) a
    by (inl same) a there = inl (subst (λ (xs : List Attribute). Contains xs a) same.1 there)
    by (inr more) a there = ⊎_elim (λ before. inl before)
        (λ is. inr (subst (Contains (x ∷ [])) is (here x [])))
        (Contains-push_cases old.attributes x a
        (subst (λ (xs : List Attribute). Contains xs a) more.1 there))

-- none
pub gains-none : (old new : List Attribute) → new ≡ old → GainsOnly old new []
gains-none old new same = record {
  gains = λ a there. inl (subst (λ (xs : List Attribute). Contains xs a) same there);
}

-- one call behind another
pub gains-both : (old mid new xs ys : List Attribute) → GainsOnly old mid xs
    → GainsOnly mid new ys → GainsOnly old new (xs ++ ys)
gains-both old mid new xs ys first second = record {
  gains = λ a there. ⊎_elim (λ before. ⊎_elim (λ was. inl was)
      (λ is. inr (Contains-append_left xs ys a is)) (first.gains a before))
      (λ is. inr (Contains-append_right xs ys a is)) (second.gains a there);
}

-- the events of one attribute more
pub gains-more : (old mid new xs : List Attribute) (x : Attribute) (i : ℕ) → x ≡ get_or xs i x
    → i < length xs → GainsOnly old mid (flat_map events_of (take i xs))
    → GainsOnly mid new (events_of x) → GainsOnly old new (flat_map events_of (take (i + 1) xs))
gains-more old mid new xs x i at below first second =
    subst (λ (ys : List Attribute). GainsOnly old new (flat_map events_of ys))
    (sym (take_more xs i x below))
    (subst (GainsOnly old new)
    (sym (flat_map-append events_of (take i xs) (get_or xs i x ∷ [])))
    (gains-both old mid new (flat_map events_of (take i xs))
    (events_of (get_or xs i x)) first
    (subst (λ (y : Attribute). GainsOnly mid new (events_of y)) at second)))

-- six calls
pub grows-six : (t0 t1 t2 t3 t4 t5 t6 : Tree) → Grows t0 t1 → Grows t1 t2 → Grows t2 t3
    → Grows t3 t4 → Grows t4 t5 → Grows t5 t6 → Grows t0 t6
grows-six t0 t1 t2 t3 t4 t5 t6 g1 g2 g3 g4 g5 g6 =
    Grows-trans t0 t3 t6 (Grows-trans t0 t1 t3 g1 (Grows-trans t1 t2 t3 g2 g3))
    (Grows-trans t3 t4 t6 g4 (Grows-trans t4 t5 t6 g5 g6))

-- all that a run has: the events of its attributes, the times, and the probes
module _ (script : Script) where
  abbrev pub events : List Attribute
  events = flat_map events_of script.attributes

  -- a service's attribute is the run's
  service : (x a : Attribute) → Contains (added_attributes script.attributes) x
      → Contains (x ∷ []) a → Contains (run_attributes script) a
  service x a one is = Contains-append_right script.attributes
      (added_attributes script.attributes) a
      (subst (Contains (added_attributes script.attributes)) (only x a is) one)

  of-events : (a : Attribute) → Contains events a → Contains (run_attributes script) a
  of-events a is = Contains-append_right script.attributes
      (added_attributes script.attributes) a (Contains-append_right
      (duration ∷ inclusive_duration ∷ probe_of probe.Depth ∷ probe_of probe.Count ∷ []) events a
      is)

  pub gains-run : (t1 t2 t3 t4 t5 t6 : List Attribute) → t1 ≡ script.attributes
      → GainsOnly t1 t2 events → GainsOnly t2 t3 (duration ∷ [])
      → GainsOnly t3 t4 (inclusive_duration ∷ []) → GainsOnly t4 t5 (probe_of probe.Depth ∷ [])
      → GainsOnly t5 t6 (probe_of probe.Count ∷ []) → AreOfRun script t6
  gains-run t1 t2 t3 t4 t5 t6 same g2 g3 g4 g5 g6 = at6
    where
      at1 : AreOfRun script t1
      at1 a there = Contains-append_left script.attributes (added_attributes script.attributes) a
          (subst (λ (xs : List Attribute). Contains xs a) same there)

      at2 : AreOfRun script t2
      at2 a there = ⊎_elim (at1 a) (of-events a) (g2.gains a there)

      at3 : AreOfRun script t3
      at3 a there = ⊎_elim (at2 a) (service duration a (0, omega arith, refl)) (g3.gains a there)

      at4 : AreOfRun script t4
      at4 a there = ⊎_elim (at3 a) (service inclusive_duration a (1, omega arith, refl))
          (g4.gains a there)

      at5 : AreOfRun script t5
      at5 a there = ⊎_elim (at4 a) (service (probe_of probe.Depth) a (2, omega arith, refl))
          (g5.gains a there)

      at6 : AreOfRun script t6
      at6 a there = ⊎_elim (at5 a) (service (probe_of probe.Count) a (3, omega arith, refl))
          (g6.gains a there)
