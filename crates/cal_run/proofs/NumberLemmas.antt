-- Numbers stay what they are while the context grows, and one more is added to a list.
use Rattle.std.proofs.Common.{◌≡◌, ℕ, suc, zero, ◌+◌, ◌<◌, List, [], ◌∷◌, ◌++◌, length, get_or}
use Rattle.std.proofs.Common.{take, sym, ap, subst, ◌∙◌, inl, inr, arith}
use Rattle.std.specs.List.{AllZip, Contains}
use Rattle.std.proofs.lemmas.List.{get_or-take, length-take-le, map-append, take_more}
use Rattle.std.proofs.lemmas.List.Elements.{All-push}
use Rattle.std.proofs.lemmas.Slice.Zip.{AllZip-long}
use Rattle.std.proofs.lemmas.Option.{get_or_from_slice_get, slice_get_within}
use Rattle.cal_board.proofs.StandingLemmas.{AllZip-append, AllZip-weaken}
use Rattle.cal_context.proofs.ListLemmas.{IsFront-trans, map-alike}
use Rattle.cal_context.proofs.CallerLemmas.{attribute_at-Grows, value_at-Grows, within_attributes}
use Rattle.cal_context.proofs.CallerLemmas.{within_values}
use Rattle.cal_context.specs.Children.{AddsAttribute, AddsValue}
use Rattle.cal_context.specs.Lists.{Adds}
use Rattle.cal_context.specs.Tree.{Tree, Grows, no_attribute, no_value, value_at}
use Rattle.cal_context.specs.declared.numbers.AttributeNumber.{AttributeNumber}
use Rattle.cal_context.specs.declared.numbers.ValueNumber.{ValueNumber}
use Rattle.cal_run.specs.Lines.{attribute_of}
use Rattle.cal_run.specs.Numbers.{AreNamed, AreNumbered, EventsStand, IsNumber, ValuesStand}
use Rattle.cal_run.specs.declared.numbers.EventNumbers.{EventNumbers}
use Rattle.cal_run.specs.declared.numbers.Numbers.{Numbers}
use Rattle.cal_script.specs.Valid.{AreDeclared}
use Rattle.cal_script.specs.declared.script.Script.{Script}
use Rattle.cal_value.specs.declared.attribute.Attribute.{Attribute}
use Rattle.cal_value.specs.declared.variant.Variant.{Variant}

-- what was added has its number
pub IsNumber-added : (old new : Tree) (n : AttributeNumber) (a : Attribute)
    → AddsAttribute old a new n → IsNumber new.attributes n a
IsNumber-added old new n a added = record {
  within = slice_get_within new.attributes n.0 a added.attributes.number;
  is = get_or_from_slice_get new.attributes n.0 a no_attribute added.attributes.number;
}

module _ {old new : Tree} (grows : Grows old new) where
  pub IsNumber-Grows : (n : AttributeNumber) (a : Attribute) → IsNumber old.attributes n a
      → IsNumber new.attributes n a
  IsNumber-Grows n a is = record {
    within = within_attributes grows n.0 is.within;
    is = attribute_at-Grows grows n is.within ∙ is.is;
  }

  pub EventsStand-Grows : (ns : EventNumbers) (a : Attribute) → EventsStand old.attributes ns a
      → EventsStand new.attributes ns a
  EventsStand-Grows ns a is = record {
    begin = IsNumber-Grows ns.begin _ is.begin;
    end = IsNumber-Grows ns.end _ is.end;
    set = IsNumber-Grows ns.set _ is.set;
  }

  pub ValuesStand-Grows : (ns : List ValueNumber) (xs : List Variant) → ValuesStand old ns xs
      → ValuesStand new ns xs
  ValuesStand-Grows ns xs is = record {
    values = map-alike (value_at new) (value_at old) ns
        (λ k d l. value_at-Grows grows (get_or ns k d) (is.within k d l)) ∙ is.values;
    within = λ k d l. within_values grows _ (is.within k d l);
  }

  pub AreNamed-Grows : (script : Script) (ns : Numbers) → AreNamed old.attributes script ns
      → AreNamed new.attributes script ns
  AreNamed-Grows script ns is = record {
    front = IsFront-trans script.attributes old.attributes new.attributes is.front
        grows.attributes;
    events = AllZip-weaken (EventsStand old.attributes) (EventsStand new.attributes)
        EventsStand-Grows ns.events.items script.attributes is.events;
    duration = IsNumber-Grows ns.duration _ is.duration;
    inclusive = IsNumber-Grows ns.inclusive _ is.inclusive;
    depth = IsNumber-Grows ns.depth _ is.depth;
    count = IsNumber-Grows ns.count _ is.count;
  }

  pub AreNumbered-Grows : (script : Script) (ns : Numbers) → AreNumbered old script ns
      → AreNumbered new script ns
  AreNumbered-Grows script ns is = record {
    named = AreNamed-Grows script ns is.named;
    values = ValuesStand-Grows ns.values.items script.values is.values;
  }

  -- one value more
  pub values_more : (ns : List ValueNumber) (n : ValueNumber) (v : Variant) (xs : List Variant)
      (i : ℕ)
      → ValuesStand old ns (take i xs) → AddsValue old v new n → v ≡ get_or xs i v → i < length xs
      → ValuesStand new (ns ++ n ∷ []) (take (i + 1) xs)
  values_more ns n v xs i is added at below =
      let still = ValuesStand-Grows ns (take i xs) is in
      let next : value_at new n ≡ get_or xs i v =
      get_or_from_slice_get new.values n.0 v no_value added.values.number ∙ at in
      record {
        values = map-append (value_at new) ns (n ∷ []) ∙ (λ j. still.values j ++ next j ∷ [])
            ∙ sym (take_more xs i v below);
        within = All-push (λ (m : ValueNumber). m.0 < length new.values) ns n still.within
            (slice_get_within new.values n.0 v added.values.number);
      }

  -- the events of one attribute more
  pub events_more : (ns : List EventNumbers) (n : EventNumbers) (a : Attribute)
      (xs : List Attribute) (i : ℕ)
      → AllZip (EventsStand old.attributes) ns (take i xs) → EventsStand new.attributes n a
      → a ≡ get_or xs i a → i < length xs
      → AllZip (EventsStand new.attributes) (ns ++ n ∷ []) (take (i + 1) xs)
  events_more ns n a xs i is made at below =
      let was = EventsStand old.attributes in
      let now = EventsStand new.attributes in
      subst (AllZip now (ns ++ n ∷ [])) (sym (take_more xs i a below))
      (AllZip-append now ns (n ∷ []) (take i xs) (get_or xs i a ∷ [])
      (AllZip-weaken was now EventsStand-Grows ns (take i xs) is)
      (subst (now n) at made, tt))

-- One attribute more of some whose names are apart has its place as its number.
pub placed_more : (old new : Tree) (n : AttributeNumber) (a : Attribute) (xs : List Attribute)
    (i : ℕ)
    → AreDeclared xs → old.attributes ≡ take i xs → AddsAttribute old a new n → a ≡ get_or xs i a
    → i < length xs
    → new.attributes ≡ take (i + 1) xs
placed_more old new n a xs i declared is added at below = by added.attributes.adds
  where
    apart : Contains old.attributes a → ⊥
    apart there =
        let long : length old.attributes ≡ i = ap length is ∙ length-take-le i xs (omega arith) in
        let before : there.0 < i = omega (arith, there.1, long) in
        let found : get_or xs there.0 a ≡ a =
        sym (get_or-take i xs there.0 a before) ∙ ap (λ ys. get_or ys there.0 a) (sym is) ∙ there.2 in
        declared.apart there.0 i a before below (ap (λ (b : Attribute). b.name) (found ∙ at))

    by : Adds old.attributes a new.attributes → new.attributes ≡ take (i + 1) xs
    by (inl same) = absurd (apart same.0)
    by (inr more) = more.1 ∙ (λ j. is j ++ at j ∷ []) ∙ sym (take_more xs i a below)

-- what holds of two lists place by place holds at a place
module _ {A B : Type 0} where
  pub all_zip-at : (R : A → B → Type 0) (xs : List A) (ys : List B) (i : ℕ) (d : A) (e : B)
      → AllZip R xs ys
      → i < length xs → R (get_or xs i d) (get_or ys i e)
  all_zip-at R [] ys i d e z l = absurd (omega (arith, l))
  all_zip-at R (x ∷ xs) [] i d e z l = absurd z
  all_zip-at R (x ∷ xs) (y ∷ ys) zero d e z l = z.0
  all_zip-at R (x ∷ xs) (y ∷ ys) (suc i) d e z l = all_zip-at R xs ys i d e z.1 (omega (arith, l))
