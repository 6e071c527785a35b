-- What the first seats know once they took in a thread's.
use Rattle.std.proofs.Common.{◌≡◌, ◌≢◌, ℕ, suc, zero, ◌+◌, ◌-◌, ◌<◌, List, [], ◌∷◌}
use Rattle.std.proofs.Common.{length, refl, sym, ap, ◌∙◌, arith}
use Rattle.std.specs.Prelude.{All, IsTrue, Option, Some, None, slice_get, slice_index_or}
use Rattle.cal_ending.specs.Joining.{AreInOrder, IsJoined}
use Rattle.cal_once.proofs.Seen.{Saw_left, Saw_right, length-joined}
use Rattle.cal_once.specs.Seats.{view}
use Rattle.cal_once.specs.Views.{AllJoined, KnowsMore, Learns, joined, joined_with, none_away}
use Rattle.cal_once.specs.declared.seat.RowSeat.{RowSeat}
use Rattle.cal_once.specs.declared.view.View.{View}
use Rattle.cal_process.specs.declared.common.Common.{Common}
use Rattle.cal_thread.specs.Hiring.{HasHired}
use Rattle.cal_thread.specs.declared.thread.Thread.{Thread}
use Rattle.cal_words.specs.declared.sort.NodeSort.{NodeSort}
use Rattle.cal_words.specs.declared.sort.OpSort.{OpSort}

-- ---- lists of published places

-- a list that was joined, and those that stay
was-here : (os : List (Option (List ℕ))) (k : ℕ) (places : List ℕ) → k < length os
    → slice_get (joined_with os k places) k ≡ Some (Some places)
was-here [] k places l = absurd (omega (arith, l))
was-here (o ∷ os) zero places l = refl
was-here (o ∷ os) (suc k) places l = was-here os k places (omega (arith, l))

was-there : (os : List (Option (List ℕ))) (k j : ℕ) (places : List ℕ) → k ≢ j
    → slice_get (joined_with os k places) j ≡ slice_get os j
was-there [] k j places other = refl
was-there (o ∷ os) zero zero places other = absurd (other refl)
was-there (o ∷ os) zero (suc j) places other = refl
was-there (o ∷ os) (suc k) zero places other = refl
was-there (o ∷ os) (suc k) (suc j) places other =
    was-there os k j places (λ e. other (ap suc e))

-- ---- one seat more

module _ {S : Type 0} (v w new : View S) (learns : Learns (joined v w) new) where
  pub number-same : new.number ≡ v.number
  number-same = ap (λ (x : View S). x.number) learns.same

  pub others-long : length new.others ≡ length v.others
  others-long = ap (λ (x : View S). length x.others) learns.same
      ∙ length-joined v.others (w.number - 1) w.published

  pub others-are : new.others ≡ joined_with v.others (w.number - 1) w.published
  others-are = ap (λ (x : View S). x.others) learns.same

  pub knows-first : KnowsMore v new
  knows-first i x saw = learns.more i x (Saw_left v.seen w.seen i x saw)

  pub knows-other : KnowsMore w new
  knows-other i x saw = learns.more i x (Saw_right v.seen w.seen i x saw)

  module _ (k : ℕ) (number : w.number ≡ k + 1) where
    place : w.number - 1 ≡ k
    place = omega (arith, number)

    others-there : new.others ≡ joined_with v.others k w.published
    others-there = others-are ∙ ap (λ (n : ℕ). joined_with v.others n w.published) place

    -- the seat's list is there, and those of others stay
    pub list-here : k < length v.others → slice_get new.others k ≡ Some (Some w.published)
    list-here within = ap (λ (os : List (Option (List ℕ))). slice_get os k) others-there
        ∙ was-here v.others k w.published within

    pub list-there : (j : ℕ) (places : List ℕ) → j ≢ k → slice_get v.others j ≡ Some (Some places)
        → slice_get new.others j ≡ Some (Some places)
    list-there j places other is =
        ap (λ (os : List (Option (List ℕ))). slice_get os j) others-there
        ∙ was-there v.others k j w.published (λ e. other (sym e)) ∙ is

-- what was known before a join of one who knows it now
pub knows-then : {S : Type 0} → (u v w : View S) → KnowsMore u v → KnowsMore v w → KnowsMore u w
knows-then u v w a b i x saw = b i x (a i x saw)

-- ---- a thread's seats

module _ (tree new_tree : RowSeat NodeSort) (log new_log : RowSeat OpSort) (t : Thread)
    (nodes : Learns (joined (view tree) (view t.tree)) (view new_tree))
    (history : Learns (joined (view log) (view t.process.log)) (view new_log))
    (at_nodes : (view t.tree).number ≡ t.number + 1)
    (number : (view t.process.log).number ≡ t.number + 1) where
  -- the thread's are joined
  pub here-joined : t.number < length (view tree).others → t.number < length (view log).others
      → IsJoined new_tree new_log t
  here-joined in_tree within = record {
    placed = list-here (view log) (view t.process.log) (view new_log) history t.number number
        within;
    made = list-here (view tree) (view t.tree) (view new_tree) nodes t.number at_nodes in_tree;
    history = knows-other (view log) (view t.process.log) (view new_log) history;
    nodes = knows-other (view tree) (view t.tree) (view new_tree) nodes;
  }

  -- and those of others stay joined
  pub there-joined : (u : Thread) → u.number ≢ t.number → IsJoined tree log u
      → IsJoined new_tree new_log u
  there-joined u other is = record {
    placed = list-there (view log) (view t.process.log) (view new_log) history t.number number
        u.number (view u.process.log).published other is.placed;
    made = list-there (view tree) (view t.tree) (view new_tree) nodes t.number at_nodes u.number
        (view u.tree).published other is.made;
    history = knows-then (view u.process.log) (view log) (view new_log) is.history
        (knows-first (view log) (view t.process.log) (view new_log) history);
    nodes = knows-then (view u.tree) (view tree) (view new_tree) is.nodes
        (knows-first (view tree) (view t.tree) (view new_tree) nodes);
  }

-- ---- all seats

-- the list at a place was joined
abbrev pub WasJoined : List (Option (List ℕ)) → ℕ → Type 0
WasJoined os k = (places : List ℕ) × (slice_get os k ≡ Some (Some places))

-- where each was joined, none is away
all-joined : (os : List (Option (List ℕ))) → ((k : ℕ) → k < length os → WasJoined os k)
    → IsTrue (none_away os)
all-joined [] each = refl
all-joined (None ∷ os) each = absurd (away (each 0 (omega arith)))
  where
    away : WasJoined (None ∷ os) 0 → ⊥
    away (places, is) = absurd cc
all-joined (Some places ∷ os) each = all-joined os (λ k l. each (suc k) (omega (arith, l)))

-- each list was joined where each thread's was
each-joined : (os : List (Option (List ℕ))) (places : Thread → List ℕ) (ts : List Thread)
    → AreInOrder ts → All (λ (t : Thread). slice_get os t.number ≡ Some (Some (places t))) ts
    → length os ≡ length ts → (k : ℕ) → k < length os → WasJoined os k
each-joined os places [] order all long k l = absurd (omega (arith, l, long))
each-joined os places (t ∷ ts) order all long k l =
    let m : k < length (t ∷ ts) = omega (arith, l, long) in (
      places (slice_index_or (t ∷ ts) k t),
      ap (λ (n : ℕ). slice_get os n) (sym (order k t m)) ∙ all k t m,
    )

module _ (common : Common) (tree : RowSeat NodeSort) (log : RowSeat OpSort) (ts : List Thread)
    (hired : HasHired common tree log (length ts)) (order : AreInOrder ts)
    (all : All (IsJoined tree log) ts) where
  pub tree-joined : AllJoined (view tree)
  tree-joined = (
    hired.first_tree,
    all-joined (view tree).others
        (each-joined (view tree).others (λ (t : Thread). (view t.tree).published) ts order
        (λ k d l. (all k d l).made) hired.tree_others),
  )

  pub log-joined : AllJoined (view log)
  log-joined = (
    hired.first_log,
    all-joined (view log).others
        (each-joined (view log).others (λ (t : Thread). (view t.process.log).published) ts order
        (λ k d l. (all k d l).placed) hired.log_others),
  )
