-- The numbers that a snapshot shows of boards that a script's lines make are of 64 bits.
use Rattle.std.proofs.Common.{◌≡◌, ℕ, suc, ◌-◌, ◌<◌, ◌≤◌, ◌^◌, Bool, true, false, ◌&&◌}
use Rattle.std.proofs.Common.{if◌then◌else◌, List, [], ◌∷◌, ◌++◌, length, refl, ap, subst}
use Rattle.std.proofs.Common.{get_or, arith, ℤ, pos, negsuc}
use Rattle.std.specs.Prelude.{Option, Some, None, not, unwrap_or, unsigned_abs}
use Rattle.std.specs.List.{All}
use Rattle.std.specs.Option.{ForSome, option_map, option_to_list}
use Rattle.std.proofs.lemmas.Bool.{leb-true}
use Rattle.std.proofs.lemmas.List.Elements.{All-append, All-cons, All-map, All-nil}
use Rattle.std.proofs.lemmas.List.Sums.{sum_by-le}
use Rattle.cal_agg.specs.RowLimits.{IsOf64}
use Rattle.cal_agg.specs.declared.num.Num.{Num}
use Rattle.cal_board.specs.Blackboard.{Blackboard, depths, slot_number}
use Rattle.cal_board.specs.PathBoards.{entry_in, last_entries, last_opened}
use Rattle.cal_board.specs.Readings.{last_reading}
use Rattle.cal_board.specs.Slots.{opened_in}
use Rattle.cal_board.specs.declared.opened.Opened.{Opened}
use Rattle.cal_board.specs.declared.opened.Slot.{Slot}
use Rattle.cal_channel.specs.Channels.{HasSmallNumber}
use Rattle.cal_context.specs.Tree.{no_value}
use Rattle.cal_filter.specs.Numbers.{number_in}
use Rattle.cal_run.proofs.FitLemmas.{FitsBoard, IsFitted, IsFittedSlot, IsGood, MayBeGood}
use Rattle.cal_run.proofs.FitLemmas.{SaysValue, opened-fitted}
use Rattle.cal_run.proofs.HeldLemmas.{slice_get-All}
use Rattle.cal_run.proofs.ServiceLemmas.{depths-asked}
use Rattle.cal_run.specs.Lines.{attr_ref, attribute_of, is_shared, value_of}
use Rattle.cal_run.specs.Snapshots.{Sight, board_of, closed_on, duration, event_entries, event_of}
use Rattle.cal_run.specs.Snapshots.{inclusive_duration, inclusive_entries, is_end, numbered}
use Rattle.cal_run.specs.Snapshots.{probe_entries, probe_of, probe_value, snapshot_of}
use Rattle.cal_run.specs.Snapshots.{time_entries, value_entries, value_on}
use Rattle.cal_run.specs.declared.operation.Operation.{Operation}
use Rattle.cal_script.specs.Parts.{is_allowed, is_short_number}
use Rattle.cal_script.specs.Valid.{IsSaid}
use Rattle.cal_script.specs.declared.script.Channel.{Channel}
use Rattle.cal_script.specs.declared.script.ProbeKind as probes
use Rattle.cal_script.specs.declared.script.ProbeKind.TheVariants as probe
use Rattle.cal_script.specs.declared.script.Script.{Script}
use Rattle.cal_value.specs.Reading.{IsInRange}
use Rattle.cal_value.specs.declared.attribute.Attribute.{Attribute}
use Rattle.cal_value.specs.declared.variant.Variant as variants
use Rattle.cal_value.specs.declared.variant.Variant.TheVariants as variant
use Rattle.cal_words.specs.declared.op.OpCode as codes
use Rattle.cal_words.specs.declared.op.OpCode.TheVariants as code

-- ---- values

abbrev IsSmallValue : variants.Variant → Type 0
IsSmallValue v = ForSome (number_in v) IsOf64

short-small : (z : ℤ) → is_short_number z ≡ true → unsigned_abs z ≤ 2 ^ 64
short-small (pos n) short = let l = leb-true n 9223372036854775807 short in omega (arith, l)
short-small (negsuc n) short = let l = leb-true n 9223372036854775807 short in omega (arith, l)

-- the number itself
the-number : (n x : Num) → IsOf64 n → Some n ≡ Some x → IsOf64 x
the-number n x small is = subst IsOf64 (ap (λ o. unwrap_or o n) is) small

small-value : (v : variants.Variant) → is_allowed v ≡ true → IsInRange v → IsSmallValue v
small-value (variant.Int z) short range x is = the-number _ x (short-small z short) is
small-value (variant.Fixed z) short range x is = the-number _ x (short-small z short) is
small-value (variant.Uint n) short range x is =
    let l : n < 2 ^ 64 = range in the-number _ x (omega (arith, l)) is
small-value (variant.Text t) short range x is = absurd cc
small-value (variant.Bool b) short range x is = absurd cc
small-value (variant.Addr a) short range x is = absurd cc
small-value (variant.Kind k) short range x is = absurd cc
small-value (variant.Real t) short range x is = absurd cc
small-value (variant.Usr t) short range x is = absurd cc
small-value (variant.Ptr t) short range x is = absurd cc

small-uint : (n : ℕ) → n < 2 ^ 64 → IsSmallValue (variant.Uint n)
small-uint n l = small-value (variant.Uint n) refl l

small-false : IsSmallValue no_value
small-false = small-value no_value refl tt

-- a number that is made of others
small-numbered : (a : Attribute) (n : ℕ) → n < 2 ^ 64 → HasSmallNumber (numbered a n)
small-numbered a n l = small-uint n l

module _ (script : Script) where
  small-said : (a : Attribute) (v : variants.Variant) → IsSaid a v → IsSmallValue v
  small-said a v said = small-value v said.allowed said.range

  -- the last of open values
  small-last : (as_value : Bool) (number : ℕ) (os : List (Opened variants.Variant))
      → All (IsFitted script as_value number) os → (o : Option (Opened variants.Variant))
      → last_opened os ≡ o → IsSmallValue
      (unwrap_or (option_map (λ (o : Opened variants.Variant). o.value) o) no_value)
  small-last as_value number os fitted None is = small-false
  small-last as_value number os fitted (Some o) is =
      let fits = slice_get-All (IsFitted script as_value number) os (length os - 1) o fitted is in
      small-said (attribute_of script o.attribute) o.value fits.said

  module _ (b : Blackboard variants.Variant) (fits : FitsBoard script b) where
    small-closed : (op : Operation) → IsSmallValue (closed_on script b op)
    small-closed op = by (attr_ref script op.attr).as_value
      where
        n : ℕ
        n = slot_number (attr_ref script op.attr)

        by : (t : Bool) → IsSmallValue (unwrap_or
            (option_map (λ (o : Opened variants.Variant). o.value)
            (if t then last_opened (opened_in n b.as_values)
            else last_opened (opened_in n b.references))) no_value)
        by true = small-last true n (opened_in n b.as_values)
            (opened-fitted script true n b.as_values fits.as_values.each) _ refl
        by false = small-last false n (opened_in n b.references)
            (opened-fitted script false n b.references fits.references.each) _ refl

    small-event : (op : Operation) → IsGood script op
        → IsSmallValue (value_on script b op.code op)
    small-event op good = by op.code good.said
      where
        by : (c : codes.OpCode) → SaysValue script c op.attr (value_of script op)
            → IsSmallValue (value_on script b c op)
        by code.Begin said = small-said (attribute_of script op.attr) (value_of script op) said
        by code.Set said = small-said (attribute_of script op.attr) (value_of script op) said
        by code.End said = small-closed op

  -- the last values of as-value slots
  small-lasts : (slots : List (Slot variants.Variant)) → All (IsFittedSlot script true) slots
      → All HasSmallNumber (last_entries script.attributes slots)
  small-lasts [] fitted = All-nil HasSmallNumber
  small-lasts (s ∷ slots) fitted = All-append HasSmallNumber
      (option_to_list (option_map (entry_in script.attributes) (last_opened s.opened)))
      (last_entries script.attributes slots) (by (last_opened s.opened) refl)
      (small-lasts slots (λ i d l. fitted (suc i) d (omega (arith, l))))
    where
      by : (o : Option (Opened variants.Variant)) → last_opened s.opened ≡ o
          → All HasSmallNumber (option_to_list (option_map (entry_in script.attributes) o))
      by None is = All-nil HasSmallNumber
      by (Some o) is =
          let fits = slice_get-All (IsFitted script true s.number) s.opened
          (length s.opened - 1) o (fitted 0 s (omega arith)) is in
          All-cons HasSmallNumber (entry_in script.attributes o) []
          (small-said (attribute_of script o.attribute) o.value fits.said)
          (All-nil HasSmallNumber)

  -- ---- a snapshot

  module _ (s : Sight) (mine : FitsBoard script s.mine) (process : FitsBoard script s.process)
      (reading : s.reading < 2 ^ 64) where
    less : (m : ℕ) → s.reading - m < 2 ^ 64
    less m = omega (arith, reading)

    board-fits : (op : Operation) → FitsBoard script (board_of script s op)
    board-fits op = by (is_shared script op)
      where
        by : (t : Bool) → FitsBoard script (if t then s.process else s.mine)
        by true = process
        by false = mine

    events : (op : Option Operation) → MayBeGood script op
        → All HasSmallNumber (event_entries script s op)
    events None good = All-nil HasSmallNumber
    events (Some op) good = All-cons HasSmallNumber (record {
      attr = event_of op.code (attribute_of script op.attr);
      value = value_on script (board_of script s op) op.code op;
    }) [] (small-event (board_of script s op) (board-fits op) op good) (All-nil HasSmallNumber)

    inclusives : (op : Option Operation) → All HasSmallNumber (inclusive_entries script s op)
    inclusives None = All-nil HasSmallNumber
    inclusives (Some op) = by (is_end op.code && not (is_shared script op))
      where
        since : ℕ
        since = s.reading - last_reading s.readings (attr_ref script op.attr)

        by : (t : Bool) → All HasSmallNumber
            (if t then numbered inclusive_duration since ∷ [] else [])
        by true = All-cons HasSmallNumber (numbered inclusive_duration since) []
            (small-numbered inclusive_duration since
            (less (last_reading s.readings (attr_ref script op.attr)))) (All-nil HasSmallNumber)
        by false = All-nil HasSmallNumber

    times : (timer : Bool) (op : Option Operation)
        → All HasSmallNumber (time_entries script s timer op)
    times false op = All-nil HasSmallNumber
    times true op = All-cons HasSmallNumber (numbered duration (s.reading - s.previous))
        (inclusive_entries script s op)
        (small-numbered duration (s.reading - s.previous) (less s.previous)) (inclusives op)

    answer-small : (p : probes.ProbeKind) → probe_value p (depths s.mine) < 2 ^ 64
    answer-small probe.Depth =
        let asked = depths-asked s.mine mine.within in
        omega (arith, asked.each 0 0 asked.some)
    answer-small probe.Count =
        let asked = depths-asked s.mine mine.within in
        omega (arith, sum_by-le (λ (n : ℕ). n) 128 (depths s.mine) asked.each, asked.few)

    answers : (kinds : List probes.ProbeKind) → All HasSmallNumber (probe_entries script s kinds)
    answers kinds = All-map HasSmallNumber
        (λ (p : probes.ProbeKind). numbered (probe_of p) (probe_value p (depths s.mine))) kinds
        (λ i d l. small-numbered (probe_of (get_or kinds i d))
        (probe_value (get_or kinds i d) (depths s.mine)) (answer-small (get_or kinds i d)))

    pub small-snapshot : (channel : Channel) (op : Option Operation) → MayBeGood script op
        → All HasSmallNumber (snapshot_of script s channel op).imms
    unfolding snapshot_of
    small-snapshot channel op good =
        let es = event_entries script s op in
        let ts = time_entries script s channel.timer op in
        let ps = probe_entries script s channel.probes in
        All-append HasSmallNumber (es ++ ts ++ ps) (value_entries script s)
        (All-append HasSmallNumber (es ++ ts) ps
        (All-append HasSmallNumber es ts (events op good) (times channel.timer op))
        (answers channel.probes))
        (All-append HasSmallNumber (last_entries script.attributes s.mine.as_values)
        (last_entries script.attributes s.process.as_values)
        (small-lasts s.mine.as_values mine.as_values.each)
        (small-lasts s.process.as_values process.as_values.each))
