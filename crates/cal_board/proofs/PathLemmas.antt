-- A board of plain values stands for itself, and for no other board.
use Rattle.std.proofs.Common.{◌≡◌, ℕ, ◌+◌, ◌-◌, ◌<◌, List, [], ◌∷◌, ◌++◌, length, get_or, take, map, Some, slice_get, ap, sym, refl, ◌∙◌, arith}
use Rattle.std.specs.List.{AllZip}
use Rattle.std.specs.Option.{option_map}
use Rattle.std.proofs.lemmas.List.{ext_get_or, get_or_push, length-append, nil_from_length, take_more}
use Rattle.std.proofs.lemmas.Option.{slice_get-get_or, slice_get-map}
use Rattle.cal_board.proofs.StandingLemmas.{held_long}
use Rattle.cal_board.specs.Blackboard.{Blackboard}
use Rattle.cal_board.specs.PathBoards.{IsLastValue}
use Rattle.cal_board.specs.Slots.{last_value}
use Rattle.cal_board.specs.Standing.{OpenedStand, SlotStands, Stands}
use Rattle.cal_board.specs.declared.opened.Opened.{Opened}
use Rattle.cal_board.specs.declared.opened.Slot.{Slot}
use Rattle.cal_value.specs.declared.variant.Variant.{Variant}

pub last_value-push : (os : List (Opened Variant)) (o : Opened Variant) → last_value (os ++ o ∷ []) ≡ Some o.value
last_value-push os o =
    let n : length (os ++ o ∷ []) - 1 ≡ length os = omega (arith, length-append os (o ∷ [])) in
    let l : length os < length (os ++ o ∷ []) = omega (arith, length-append os (o ∷ [])) in
    ap (option_map (λ (o : Opened Variant). o.value))
    (ap (slice_get (os ++ o ∷ [])) n ∙ slice_get-get_or (os ++ o ∷ []) (length os) o l ∙ ap Some (get_or_push os o o (length os) refl))

-- the last value up to a place is the one at the place
last_value-upto : (os : List (Opened Variant)) (i : ℕ) (d : Opened Variant) → i < length os
    → last_value (take (i + 1) os) ≡ Some (get_or os i d).value
last_value-upto os i d l = ap last_value (take_more os i d l) ∙ last_value-push (take i os) (get_or os i d)

slots_stand : (ss : List (Slot Variant)) → AllZip (SlotStands IsLastValue) ss ss
slots_stand [] = tt
slots_stand (s ∷ ss) = (
  record {
    number = refl;
    opened = record { attributes = refl; nodes = last_value-upto s.opened };
  },
  slots_stand ss,
)

pub plain_stands : (b : Blackboard Variant) → Stands IsLastValue b b
plain_stands b = record { references = slots_stand b.references; as_values = refl }

same_opened : (hs os : List (Opened Variant)) → OpenedStand IsLastValue hs os → hs ≡ os
same_opened [] os is = sym (nil_from_length os (let k = held_long IsLastValue [] os is in omega (arith, k)))
same_opened (h ∷ hs) os is = ext_get_or h (h ∷ hs) os long
    (λ i l. λ j. record { attribute = attribute i l j; value = value i l j })
  where
    long : length (h ∷ hs) ≡ length os
    long = held_long IsLastValue (h ∷ hs) os is

    attribute : (i : ℕ) → i < length (h ∷ hs) → (get_or (h ∷ hs) i h).attribute ≡ (get_or os i h).attribute
    attribute i l =
        let m : i < length os = omega (arith, l, long) in
        let one = slice_get-map (λ (o : Opened Variant). o.attribute) (h ∷ hs) i ∙ ap (option_map (λ (o : Opened Variant). o.attribute)) (slice_get-get_or (h ∷ hs) i h l) in
        let other = slice_get-map (λ (o : Opened Variant). o.attribute) os i ∙ ap (option_map (λ (o : Opened Variant). o.attribute)) (slice_get-get_or os i h m) in
        let both : Some (get_or (h ∷ hs) i h).attribute ≡ Some (get_or os i h).attribute = sym one ∙ ap (λ (ns : List ℕ). slice_get ns i) is.attributes ∙ other in
        cc

    value : (i : ℕ) → i < length (h ∷ hs) → (get_or (h ∷ hs) i h).value ≡ (get_or os i h).value
    value i l =
        let m : i < length os = omega (arith, l, long) in
        let both : Some (get_or (h ∷ hs) i h).value ≡ Some (get_or os i h).value = sym (is.nodes i h l) ∙ last_value-upto os i h m in
        cc

same_slots : (hs ss : List (Slot Variant)) → AllZip (SlotStands IsLastValue) hs ss → hs ≡ ss
same_slots [] [] z = refl
same_slots [] (s ∷ ss) z = absurd z
same_slots (h ∷ hs) [] z = absurd z
same_slots (h ∷ hs) (s ∷ ss) z =
    let opened = same_opened h.opened s.opened z.0.opened in
    let rest = same_slots hs ss z.1 in
    λ j. record { number = z.0.number j; opened = opened j } ∷ rest j

pub same_board : (held b : Blackboard Variant) → Stands IsLastValue held b → held ≡ b
same_board held b is =
    let slots = same_slots held.references b.references is.references in
    λ j. record { references = slots j; as_values = is.as_values j }
