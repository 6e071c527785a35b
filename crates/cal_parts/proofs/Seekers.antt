-- What is sought for kernels, one more at a time.
use Rattle.std.proofs.Common.{◌≡◌, ℕ, zero, suc, ◌+◌, ◌<◌, List, [], ◌∷◌, ◌++◌, map, take, length, get_or, refl, sym, ◌∙◌, ap, subst}
use Rattle.std.proofs.Common.{Option, None, Some, option_and_then, option_map, slice_get}
use Rattle.std.specs.List.{All, AllZip}
use Rattle.std.proofs.lemmas.List.{map-append, take_more}
use Rattle.std.proofs.lemmas.List.Elements.{All-push}
use Rattle.std.proofs.lemmas.Option.{slice_get-map, slice_get-get_or}
use Rattle.cal_agg.specs.declared.num.Num.{Num}
use Rattle.cal_context.specs.Tree.{Tree}
use Rattle.cal_filter.specs.Known.{Knows, KnowsAll, sought}
use Rattle.cal_filter.specs.Replaced.{CatchesUp}
use Rattle.cal_filter.specs.Sought.{Sought, number_of, number_sought}
use Rattle.cal_filter.specs.declared.seeker.Seeker.{Seeker}
use Rattle.cal_filter.proofs.ReadyLemmas.{all_know, same_sought}
use Rattle.cal_filter.proofs.Zips.{zip_weaker}
use Rattle.cal_value.specs.declared.attribute.Entry.{Entry}
use Rattle.cal_parts.specs.Counters.{AreCounters, AreReadyCounters, CountsFor, SeekMore, number_at}
use Rattle.cal_parts.specs.declared.counter.Counter.{Counter}
use Rattle.cal_parts.specs.declared.counters.Counters.{Counters}
use Rattle.cal_parts.specs.declared.reading.Reading.{Reading}

-- what is sought at a place
pub sought_at : (seekers : List Seeker) (place : ℕ) (s : Seeker) → place < length seekers → s ≡ get_or seekers place s
    → slice_get (map sought seekers) place ≡ Some (sought s)
sought_at seekers place s short read =
    slice_get-map sought seekers place
    ∙ ap (option_map sought) (slice_get-get_or seekers place s short)
    ∙ ap (λ x. Some (sought x)) (sym read)

stays_put : (old : List Seeker) (new : Seeker) (place : ℕ) (s : Sought) → slice_get (map sought old) place ≡ Some s
    → slice_get (map sought (old ++ new ∷ [])) place ≡ Some s
stays_put [] new place s h = cc
stays_put (o ∷ old) new zero s h = h
stays_put (o ∷ old) new (suc place) s h = stays_put old new place s h

-- the last one stands behind all others
pub put_at : (old : List Seeker) (new : Seeker) → slice_get (map sought (old ++ new ∷ [])) (length old) ≡ Some (sought new)
put_at [] new = refl
put_at (o ∷ old) new = put_at old new

-- ---- more is sought

pub more_pushed : (old now : List Seeker) (new : Seeker) → now ≡ old ++ new ∷ [] → ((t : Tree) → Knows t new) → SeekMore old now
more_pushed old now new is knows = record {
  places = λ place s h. subst (λ ss. slice_get (map sought ss) place ≡ Some s) (sym is) (stays_put old new place s h);
  knows = λ t all. subst (All (Knows t)) (sym is) (All-push (Knows t) old new all (knows t));
}

pub more_same : (seekers : List Seeker) → SeekMore seekers seekers
more_same seekers = record { places = λ place s h. h; knows = λ t all. all }

pub more_then : (old mid new : List Seeker) → SeekMore old mid → SeekMore mid new → SeekMore old new
more_then old mid new h g = record {
  places = λ place s is. g.places place s (h.places place s is);
  knows = λ t all. g.knows t (h.knows t all);
}

pub places_stay : (old new : List Seeker) → SeekMore old new → (places : List ℕ) (seeks : List Sought)
    → map (slice_get (map sought old)) places ≡ map Some seeks → map (slice_get (map sought new)) places ≡ map Some seeks
places_stay old new more [] seeks h = h
places_stay old new more (p ∷ places) [] h = cc
places_stay old new more (p ∷ places) (s ∷ seeks) h =
    let first : slice_get (map sought old) p ≡ Some s = cc in
    let rest : map (slice_get (map sought old)) places ≡ map Some seeks = cc in
    λ i. more.places p s first i ∷ places_stay old new more places seeks rest i

-- one place more
pub places_next : (old new : List Seeker) (names : List (List ℕ)) (i : ℕ) (name : List ℕ) (places now : List ℕ) (place : ℕ)
    → SeekMore old new → i < length names → name ≡ get_or names i name → now ≡ places ++ place ∷ []
    → slice_get (map sought new) place ≡ Some (number_of name)
    → map (slice_get (map sought old)) places ≡ map Some (map number_of (take i names))
    → map (slice_get (map sought new)) now ≡ map Some (map number_of (take (i + 1) names))
places_next old new names i name places now place more short read is here before =
    ap (map (slice_get (map sought new))) is
    ∙ map-append (slice_get (map sought new)) places (place ∷ [])
    ∙ (λ j. places_stay old new more places (map number_of (take i names)) before j ++ here j ∷ [])
    ∙ sym (ap (λ ns. map Some (map number_of ns)) (take_more names i name short ∙ ap (λ n. take i names ++ n ∷ []) (sym read))
    ∙ ap (map Some) (map-append number_of (take i names) (name ∷ []))
    ∙ map-append Some (map number_of (take i names)) (number_of name ∷ []))

pub counts_stay : (old new : List Seeker) → SeekMore old new → (rs : List Reading) (cs : List Counter)
    → AllZip (CountsFor (map sought old)) rs cs → AllZip (CountsFor (map sought new)) rs cs
counts_stay old new more rs cs h =
    zip_weaker (CountsFor (map sought old)) (CountsFor (map sought new))
    (λ r c k. record { kernel = k.kernel; places = places_stay old new more c.places.items _ k.places }) rs cs h

-- ---- counters that catch up

pub counters_catch_up : (t : Tree) (rs : List Reading) (old new : Counters) → new.counters ≡ old.counters
    → AllZip (CatchesUp t) old.seekers.items new.seekers.items → AreCounters t rs old → AreReadyCounters t rs new
counters_catch_up t rs old new same zip h = record {
  counts = subst (λ cs. AllZip (CountsFor (map sought new.seekers.items)) rs cs.items) (sym same)
      (subst (λ ss. AllZip (CountsFor ss) rs old.counters.items) (sym (same_sought t old.seekers.items new.seekers.items zip)) h.counts);
  knows = all_know t old.seekers.items new.seekers.items zip h.knows;
}

-- ---- what a seeker at a place finds

pub found_at : (t : Tree) (seekers : List Seeker) (place : ℕ) (s : Seeker) (es : List Entry) (number : Option Num)
    → place < length seekers → s ≡ get_or seekers place s → All (KnowsAll t) seekers
    → (KnowsAll t s → number ≡ number_sought (sought s) es) → number ≡ number_at (map sought seekers) es place
found_at t seekers place s es number short read knows finds =
    finds (subst (KnowsAll t) (sym read) (knows place s short))
    ∙ sym (ap (option_and_then (λ w. number_sought w es)) (sought_at seekers place s short read))

pub nothing_at : (seekers : List Seeker) (place : ℕ) (es : List Entry) → slice_get seekers place ≡ None
    → None ≡ number_at (map sought seekers) es place
nothing_at seekers place es at =
    sym (ap (option_and_then (λ w. number_sought w es)) (slice_get-map sought seekers place ∙ ap (option_map sought) at))
