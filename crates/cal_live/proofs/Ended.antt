-- All runners with their clocks have run and ended their senders, as their shifts say.
use Rattle.std.proofs.Common.{◌≡◌, ℕ, ◌+◌, List, ◌++◌, true, length, drop}
use Rattle.std.proofs.Common.{sym, ap, ◌∙◌, subst}
use Rattle.std.specs.Prelude.{All, Option, Some, slice_get, slice_index_or}
use Rattle.std.proofs.lemmas.List.{drop_at, length-append, length-map}
use Rattle.std.proofs.lemmas.Option.{get_or_from_slice_get, slice_get_within}
use Rattle.cal_book.proofs.Lists.{at_longer, at_map, at_mapped}
use Rattle.cal_crew.specs.Shifts.{clocks_of, runners_of}
use Rattle.cal_crew.specs.declared.shift.Shift.{Shift}
use Rattle.cal_keeping.specs.declared.runner.Runner.{Runner}
use Rattle.cal_live.specs.Ran.{HasRunAndEnded, HaveRunAndEnded, HaveShiftedAndEnded}
use Rattle.cal_live.specs.declared.sending.SenderHand.{SenderHand}
use Rattle.cal_replay.specs.declared.shared.Shared.{Shared}
use Rattle.cal_table.specs.declared.shape.TableShape.{TableShape}

-- a runner whose parts are collected, and a shift of it
abbrev Of : (P Q S : Type 0) → Type 0
Of P Q S = Runner P (SenderHand Q S)

abbrev ShiftOf : (P Q S K : Type 0) → Type 0
ShiftOf P Q S K = Shift P (SenderHand Q S) K

module _ {K P Q S : Type 0} (shapes : List TableShape) (shared : Shared)
    (given : K → Option (List ℕ)) where
  -- a runner has run and ended, with its clock, by the names that a caller has for them
  abbrev Ran : (old new : Of P Q S) → (was is : K) → Type 0
  Ran old new was is = HasRunAndEnded shapes shared given old new was is

  moved : (a b : Of P Q S) (c d : K) (had has : Of P Q S) (before behind : K)
      → a ≡ had → b ≡ has → c ≡ before → d ≡ behind → Ran a b c d
      → Ran had has before behind
  moved a b c d had has before behind ea eb ec ed ran =
      subst (λ (k : K). Ran had has before k) ed
      (subst (λ (k : K). Ran had has k d) ec
      (subst (λ (r : Of P Q S). Ran had r c d) eb
      (subst (λ (r : Of P Q S). Ran r b c d) ea ran)))

  module _ (old new : List (ShiftOf P Q S K)) (left was is : List K)
      (many : length new ≡ length old)
      (ran : HaveShiftedAndEnded shapes shared given old new)
      (all : All (λ (s : ShiftOf P Q S K). s.ran ≡ true) new)
      (before_is : clocks_of old ++ left ≡ was) (behind_is : is ≡ clocks_of new ++ left) where
    -- the shift at a place has run
    at-place : (place : ℕ) (o n : ShiftOf P Q S K) → slice_get old place ≡ Some o
        → slice_get new place ≡ Some n
        → Ran o.runner n.runner o.clock n.clock
    at-place place o n old_at new_at =
        let within = slice_get_within old place o old_at in
        let too = slice_get_within new place n new_at in
        let is_old : slice_index_or old place o ≡ o = get_or_from_slice_get old place o o old_at in
        let is_new : slice_index_or new place o ≡ n = get_or_from_slice_get new place n o new_at in
        subst (λ (s : ShiftOf P Q S K). Ran s.runner n.runner s.clock n.clock) is_old
        (subst (λ (s : ShiftOf P Q S K). Ran (slice_index_or old place o).runner s.runner
        (slice_index_or old place o).clock s.clock) is_new
        ((ran place o within).whole (all place o too)))

    -- a clock of the shifts stands at its place among all
    clock-at : (shifts : List (ShiftOf P Q S K)) (place : ℕ) (s : ShiftOf P Q S K)
        → slice_get shifts place ≡ Some s
        → slice_get (clocks_of shifts ++ left) place ≡ Some s.clock
    clock-at shifts place s at = at_longer (clocks_of shifts) left place s.clock
        (at_mapped (λ (x : ShiftOf P Q S K). x.clock) shifts place s at)

    each-ran : (place : ℕ) (had has : Of P Q S) (before behind : K)
        → slice_get (runners_of old) place ≡ Some had
        → slice_get (runners_of new) place ≡ Some has
        → slice_get was place ≡ Some before → slice_get is place ≡ Some behind
        → Ran had has before behind
    each-ran place had has before behind had_at has_at before_at behind_at =
        let o = at_map (λ (s : ShiftOf P Q S K). s.runner) old place had had_at in
        let n = at_map (λ (s : ShiftOf P Q S K). s.runner) new place has has_at in
        let first : o.0.clock ≡ before =
        let e = subst (λ (cs : List K). slice_get cs place ≡ Some o.0.clock) before_is
        (clock-at old place o.0 o.1) in cc in
        let second : n.0.clock ≡ behind =
        let e = subst (λ (cs : List K). slice_get cs place ≡ Some n.0.clock) (sym behind_is)
        (clock-at new place n.0 n.1) in cc in
        moved o.0.runner n.0.runner o.0.clock n.0.clock had has before behind o.2 n.2 first second
        (at-place place o.0 n.0 o.1 n.1)

    long : (shifts : List (ShiftOf P Q S K)) → length (clocks_of shifts) ≡ length shifts
    long shifts = length-map shifts (λ (s : ShiftOf P Q S K). s.clock)

    -- and so have all, by the names that a caller has for them
    pub have-ended : (runners done : List (Of P Q S)) → runners_of old ≡ runners
        → done ≡ runners_of new → HaveRunAndEnded shapes shared given runners done was is
    have-ended runners done runners_is done_is =
        let count : length runners ≡ length old =
        sym (ap length runners_is) ∙ length-map old (λ (s : ShiftOf P Q S K). s.runner) in
        record {
          many = ap length done_is ∙ length-map new (λ (s : ShiftOf P Q S K). s.runner) ∙ many
              ∙ sym count;
          clocks = ap length behind_is ∙ length-append (clocks_of new) left
              ∙ ap (λ (n : ℕ). n + length left) (long new ∙ many ∙ sym (long old))
              ∙ sym (length-append (clocks_of old) left) ∙ ap length before_is;
          each = λ place had has before behind had_at has_at before_at behind_at.
              each-ran place had has before behind
              (subst (λ (rs : List (Of P Q S)). slice_get rs place ≡ Some had) (sym runners_is)
              had_at)
              (subst (λ (rs : List (Of P Q S)). slice_get rs place ≡ Some has) done_is has_at)
              before_at behind_at;
          others = ap (drop (length runners)) behind_is
              ∙ drop_at (clocks_of new) left (length runners) (long new ∙ many ∙ sym count)
              ∙ sym (drop_at (clocks_of old) left (length runners) (long old ∙ sym count))
              ∙ ap (drop (length runners)) before_is;
        }
