-- What runners have at the place of a channel: seats, channels and tables.
use Rattle.std.proofs.Common.{◌≡◌, ℕ, zero, suc, List, [], ◌∷◌, length, map}
use Rattle.std.proofs.Common.{refl, ap, sym, ◌∙◌}
use Rattle.std.specs.Prelude.{Option, Some, option_map, slice_get}
use Rattle.std.specs.List.{All, cons_option}
use Rattle.std.specs.declared.vec.Vec.{Vec}
use Rattle.std.proofs.lemmas.List.{length-map}
use Rattle.std.proofs.lemmas.List.Elements.{All-cons, All-nil}
use Rattle.std.proofs.lemmas.Option.{slice_get-map}
use Rattle.cal_channel.specs.Places.{at_place, lists_of}
use Rattle.cal_channel.specs.Values.{ChannelValue}
use Rattle.cal_handover.specs.Places.{emptied, tables_at, tables_of}
use Rattle.cal_keeping.specs.declared.book_hand.BookHand.{BookHand}
use Rattle.cal_keeping.specs.declared.runner.Runner.{Runner}
use Rattle.cal_replay.specs.Flushing.{SeatOf}

-- as many threads have channels as before, once the tables were taken out
pub length-left : {Z : Type 0} (new was : List (Vec ChannelValue Z))
    → lists_of new ≡ map (map emptied) (lists_of was) → length new ≡ length was
length-left {Z} new was left =
    sym (length-map new (λ (list : Vec ChannelValue Z). list.items)) ∙ ap length left
    ∙ length-map (lists_of was) (map emptied)
    ∙ length-map was (λ (list : Vec ChannelValue Z). list.items)

-- a fact of the list that each of some has
pub all-lists : {X A Z : Type 0} (f : X → Vec A Z) (Q : List A → Type 0) (xs : List X)
    → ((k : ℕ) (x : X) → slice_get xs k ≡ Some x → Q (f x).items) → All Q (lists_of (map f xs))
all-lists f Q [] each = All-nil Q
all-lists f Q (x ∷ xs) each = All-cons Q (f x).items (lists_of (map f xs)) (each zero x refl)
    (all-lists f Q xs (λ k y at. each (suc k) y at))

-- the seats of runners, each list by places
abbrev pub seats_of : {P : Type 0} → List (Runner P BookHand) → List (List SeatOf)
seats_of {P} runners = lists_of (map (λ (r : Runner P BookHand). r.channels.hand.seats) runners)

-- the seats at a place begin with the first one's
pub seats-cons : {P : Type 0} (place : ℕ) (r : Runner P BookHand)
    (runners : List (Runner P BookHand)) (seat : SeatOf)
    → slice_get r.channels.hand.seats.items place ≡ Some seat
    → at_place place (seats_of (r ∷ runners)) ≡ seat ∷ at_place place (seats_of runners)
seats-cons place r runners seat at =
    ap (λ (o : Option SeatOf). cons_option o (at_place place (seats_of runners))) at

module _ {P H : Type 0} where
  -- the channels of runners, each list by places
  abbrev pub channels_of : List (Runner P H) → List (List ChannelValue)
  channels_of runners = lists_of (map (λ (r : Runner P H). r.channels.channels) runners)

  -- and as they are left once their tables were taken out
  abbrev pub left_of : List (Runner P H) → List (List ChannelValue)
  left_of runners = map (map emptied) (channels_of runners)

  module _ (place : ℕ) (r : Runner P H) (runners : List (Runner P H)) (c : ChannelValue)
      (at : slice_get r.channels.channels.items place ≡ Some c) where
    -- the tables at the place begin with the first one's, if it has one
    pub tables-cons : tables_at place (channels_of (r ∷ runners))
        ≡ cons_option c.table (tables_at place (channels_of runners))
    tables-cons = ap (λ (o : Option ChannelValue).
        tables_of (cons_option o (at_place place (channels_of runners)))) at

    -- and what is left of the channels there with what is left of the first one's
    pub left-cons : at_place place (left_of (r ∷ runners))
        ≡ emptied c ∷ at_place place (left_of runners)
    left-cons = ap (λ (o : Option ChannelValue).
        cons_option o (at_place place (left_of runners)))
        (slice_get-map emptied r.channels.channels.items place ∙ ap (option_map emptied) at)
