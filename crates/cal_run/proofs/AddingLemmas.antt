-- What is added to the immediates of a snapshot means what boards and services say.
use Rattle.std.proofs.Common.{◌≡◌, ℕ, suc, ◌+◌, ◌-◌, ◌<◌, List, [], ◌∷◌, ◌++◌, length, get_or, map}
use Rattle.std.proofs.Common.{take, ap, subst, sym, refl, ◌∙◌, append-nil, arith, false, ◌&&◌}
use Rattle.std.proofs.Common.{if◌then◌else◌}
use Rattle.std.specs.Prelude.{Option, Some, None, slice_get, flat_map, not}
use Rattle.std.specs.List.{All, AllZip}
use Rattle.std.specs.Option.{option_map, option_to_list}
use Rattle.std.proofs.lemmas.List.{map-append, append_assoc, take_more}
use Rattle.std.proofs.lemmas.List.Elements.{All-append, All-cons, All-nil}
use Rattle.std.proofs.lemmas.Slice.Zip.{AllZip-long}
use Rattle.cal_board.specs.Blackboard.{Blackboard}
use Rattle.cal_board.specs.PathBoards.{AreKnown, entry_in, last_entries}
use Rattle.cal_board.specs.Readings.{last_reading}
use Rattle.cal_board.specs.Standing.{immediate_of, last_immediates}
use Rattle.cal_board.specs.declared.opened.Opened.{Opened}
use Rattle.cal_board.specs.declared.opened.Slot.{Slot}
use Rattle.cal_context.proofs.ListLemmas.{get_or-IsFront, length-IsFront}
use Rattle.cal_context.specs.Lists.{IsFront}
use Rattle.cal_context.specs.Tree.{no_attribute}
use Rattle.cal_context.specs.declared.numbers.AttributeNumber.{AttributeNumber}
use Rattle.cal_context.specs.declared.snapshot.Immediate.{Immediate}
use Rattle.cal_run.specs.Adding.{AddsEntries, AreWithin, entry_by}
use Rattle.cal_run.specs.Held.{HoldsBy}
use Rattle.cal_run.specs.Lines.{attr_ref, attribute_of, is_shared}
use Rattle.cal_run.specs.Numbers.{AreNamed, EventsStand, IsNumber, probe_number}
use Rattle.cal_run.specs.Snapshots.{Sight, inclusive_duration, inclusive_entries, is_end}
use Rattle.cal_run.specs.Snapshots.{numbered, probe_of}
use Rattle.cal_run.specs.declared.numbers.EventNumbers.{EventNumbers}
use Rattle.cal_run.specs.declared.numbers.Numbers.{Numbers}
use Rattle.cal_run.specs.declared.operation.Operation.{Operation}
use Rattle.cal_run.proofs.HeldLemmas.{slice_get-All}
use Rattle.cal_run.proofs.NumberLemmas.{all_zip-at}
use Rattle.cal_script.specs.declared.script.ProbeKind as probes
use Rattle.cal_script.specs.declared.script.ProbeKind.TheVariants as probe
use Rattle.cal_script.specs.declared.script.Script.{Script}
use Rattle.cal_value.specs.declared.attribute.Attribute.{Attribute}
use Rattle.cal_value.specs.declared.attribute.Entry.{Entry}
use Rattle.cal_value.specs.declared.variant.Variant.{Variant}
use Rattle.cal_value.specs.declared.variant.Variant.TheVariants as variant
use Rattle.cal_words.specs.declared.op.OpCode.TheVariants as code

-- ---- adding

module _ (attributes : List Attribute) where
  pub adds-none : (xs : List Immediate) → AddsEntries attributes xs xs []
  adds-none xs = record {
    within = λ is. is;
    means = sym (append-nil (map (entry_by attributes) xs));
  }

  pub adds-both : (xs ys zs : List Immediate) (es fs : List Entry) → AddsEntries attributes xs ys es
      → AddsEntries attributes ys zs fs
      → AddsEntries attributes xs zs (es ++ fs)
  adds-both xs ys zs es fs one other = record {
    within = λ is. other.within (one.within is);
    means = other.means ∙ ap (λ us. us ++ fs) one.means
        ∙ append_assoc (map (entry_by attributes) xs) es fs;
  }

  -- immediates put at the end
  pub adds-more : (xs more ys : List Immediate) (es : List Entry) → ys ≡ xs ++ more
      → AreWithin attributes more
      → map (entry_by attributes) more ≡ es → AddsEntries attributes xs ys es
  adds-more xs more ys es e within means = record {
    within = λ is. subst (AreWithin attributes) (sym e)
        (All-append (λ (i : Immediate). i.attribute.0 < length attributes) xs more is within);
    means = ap (map (entry_by attributes)) e ∙ map-append (entry_by attributes) xs more
        ∙ ap (λ us. map (entry_by attributes) xs ++ us) means;
  }

  -- a value under an attribute's number
  pub adds-one : (xs ys : List Immediate) (n : AttributeNumber) (a : Attribute) (v : Variant)
      → IsNumber attributes n a → ys ≡ xs ++ record { attribute = n; value = v } ∷ []
      → AddsEntries attributes xs ys (record { attr = a; value = v } ∷ [])
  adds-one xs ys n a v is added =
      adds-more xs (record { attribute = n; value = v } ∷ []) ys
      (record { attr = a; value = v } ∷ []) added
      (All-cons (λ (i : Immediate). i.attribute.0 < length attributes)
      (record { attribute = n; value = v }) [] is.within
      (All-nil (λ (i : Immediate). i.attribute.0 < length attributes)))
      (λ j. record { attr = is.is j; value = v } ∷ [])

  -- a number of a service
  pub adds-number : (xs ys : List Immediate) (n : AttributeNumber) (a : Attribute) (v w : ℕ)
      → IsNumber attributes n a → v ≡ w
      → ys ≡ xs ++ record { attribute = n; value = variant.Uint v } ∷ []
      → AddsEntries attributes xs ys (numbered a w ∷ [])
  adds-number xs ys n a v w is same added =
      subst (λ (m : ℕ). AddsEntries attributes xs ys (numbered a m ∷ [])) same
      (adds-one xs ys n a (variant.Uint v) is added)

  -- what the next item of a list gives
  pub adds-next : {A : Type 0} (f : A
      → Entry) (items : List A) (i : ℕ) (d : A) (xs ys zs : List Immediate) → i < length items
      → AddsEntries attributes xs ys (map f (take i items))
      → AddsEntries attributes ys zs (f (get_or items i d) ∷ [])
      → AddsEntries attributes xs zs (map f (take (i + 1) items))
  adds-next f items i d xs ys zs below so_far next =
      subst (AddsEntries attributes xs zs)
      (sym (ap (map f) (take_more items i d below)
      ∙ map-append f (take i items) (get_or items i d ∷ [])))
      (adds-both xs ys zs _ _ so_far next)

-- what an end of a thread's own value shows
pub inclusive-closed : (script : Script) (s : Sight) (op : Operation) → op.code ≡ code.End
    → is_shared script op ≡ false
    → inclusive_entries script s (Some op) ≡ numbered inclusive_duration
    (s.reading - last_reading s.readings (attr_ref script op.attr)) ∷ []
inclusive-closed script s op end own = λ j. if is_end (end j) && not (own j)
    then numbered inclusive_duration
    (s.reading - last_reading s.readings (attr_ref script op.attr)) ∷ [] else []

-- ---- the numbers of events

module _ (attributes : List Attribute) (script : Script) (ns : Numbers)
    (named : AreNamed attributes script ns) where
  -- each attribute has its events
  pub events-long : (i : ℕ) → i < length script.attributes → i < length ns.events.items
  events-long i below =
      let long = AllZip-long (EventsStand attributes) ns.events.items script.attributes
      named.events in
      omega (arith, below, long)

  pub events-at : (i : ℕ) (e : EventNumbers) → i < length script.attributes
      → e ≡ get_or ns.events.items i e → EventsStand attributes e (attribute_of script i)
  events-at i e below is =
      subst (λ n. EventsStand attributes n (attribute_of script i)) (sym is)
      (all_zip-at (EventsStand attributes) ns.events.items script.attributes i e no_attribute
      named.events (events-long i below))

  -- and each probe its attribute
  pub probe-numbered : (n : AttributeNumber) (p : probes.ProbeKind) → n ≡ probe_number ns p
      → IsNumber attributes n (probe_of p)
  probe-numbered n probe.Depth is = subst (λ m. IsNumber attributes m (probe_of probe.Depth))
      (sym is) named.depth
  probe-numbered n probe.Count is = subst (λ m. IsNumber attributes m (probe_of probe.Count))
      (sym is) named.count

-- ---- the last values of as-value slots

module _ (attributes attrs : List Attribute) (front : IsFront attrs attributes) where
  abbrev ShowsLasts : Option (Opened Variant) → List Immediate → List Entry → Type 0
  ShowsLasts o tail rest =
      AreWithin attributes (option_to_list (option_map immediate_of o) ++ tail)
      × (map (entry_by attributes) (option_to_list (option_map immediate_of o) ++ tail)
      ≡ option_to_list (option_map (entry_in attrs) o) ++ rest)

  slot-values : (os : List (Opened Variant)) (o : Option (Opened Variant)) (i : ℕ)
      (tail : List Immediate) (rest : List Entry)
      → AreKnown attrs os → slice_get os i ≡ o
      → AreWithin attributes tail × (map (entry_by attributes) tail ≡ rest)
      → ShowsLasts o tail rest
  slot-values os None i tail rest known is done = done
  slot-values os (Some o) i tail rest known is done =
      let l : o.attribute < length attrs =
      slice_get-All (λ (o : Opened Variant). o.attribute < length attrs) os i o known is in
      let longer = length-IsFront attrs attributes front in
      let m : o.attribute < length attributes = omega (arith, l, longer) in
      let same = get_or-IsFront attrs attributes o.attribute no_attribute front l in (
        All-cons (λ (i : Immediate). i.attribute.0 < length attributes) (immediate_of o) tail m
            done.0,
        (λ j. record { attr = same j; value = o.value } ∷ done.1 j),
      )

  slots-values : (ss : List (Slot Variant))
      → All (λ (s : Slot Variant). AreKnown attrs s.opened) ss
      → AreWithin attributes
      (flat_map (λ (s : Slot Variant). option_to_list
      (option_map immediate_of (slice_get s.opened (length s.opened - 1)))) ss)
      × (map (entry_by attributes) (flat_map
      (λ (s : Slot Variant). option_to_list
      (option_map immediate_of (slice_get s.opened (length s.opened - 1)))) ss)
      ≡ last_entries attrs ss)
  slots-values [] known = (All-nil (λ (i : Immediate). i.attribute.0 < length attributes), refl)
  slots-values (s ∷ ss) known =
      slot-values s.opened (slice_get s.opened (length s.opened - 1)) (length s.opened - 1)
      (flat_map (λ (s : Slot Variant). option_to_list
      (option_map immediate_of (slice_get s.opened (length s.opened - 1)))) ss)
      (last_entries attrs ss) (known 0 s (omega arith)) refl
      (slots-values ss (λ i d l. known (suc i) d (omega (arith, l))))

-- a board's last values were added
pub adds-lasts : {N : Type 0} (is_node : N → List (Opened Variant) → Type 0)
    (attributes : List Attribute) (script : Script) → IsFront script.attributes attributes
    → (held : Blackboard N) (b : Blackboard Variant) → HoldsBy is_node script held b
    → (old new : List Immediate) → new ≡ old ++ last_immediates held
    → AddsEntries attributes old new (last_entries script.attributes b.as_values)
adds-lasts is_node attributes script front held b is old new added =
    let lasts = slots-values attributes script.attributes front held.as_values
    (subst (λ ss. All (λ (s : Slot Variant). AreKnown script.attributes s.opened) ss)
    (sym is.stands.as_values) is.known.as_values) in
    adds-more attributes old (last_immediates held) new _ added lasts.0
    (lasts.1 ∙ ap (last_entries script.attributes) is.stands.as_values)
