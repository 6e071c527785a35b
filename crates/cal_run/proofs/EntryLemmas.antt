-- What the snapshots of a run show: entries that read back, and of one slot only a few.
use Rattle.std.proofs.Common.{◌≡◌, ◌≢◌, ◌⊎◌, inl, inr, ℕ, suc, ◌+◌, ◌*◌, ◌-◌, ◌<◌, ◌≤◌, ◌^◌, Bool}
use Rattle.std.proofs.Common.{true, false, ◌==◌, ◌&&◌, if◌then◌else◌, List, [], ◌∷◌, ◌++◌, length}
use Rattle.std.proofs.Common.{get_or, map, filter, sum, refl, sym, ap, subst, ◌∙◌, arith}
use Rattle.std.specs.Prelude.{Option, Some, None, IfSome, flat_map, not, slice_get, unwrap_or, zip}
use Rattle.std.specs.Prelude.{sum_by}
use Rattle.std.specs.List.{All, Contains}
use Rattle.std.specs.Option.{option_map, option_to_list}
use Rattle.std.proofs.lemmas.Bool.{eqb-true, eqb-false, false_from_ne_true}
use Rattle.std.proofs.lemmas.Grind.{flat_map-append}
use Rattle.std.proofs.lemmas.List.{get_or_default, length-append, length-map}
use Rattle.std.proofs.lemmas.List.Elements.{All-append, All-cons, All-map, All-nil, filter-append}
use Rattle.std.proofs.lemmas.List.Sums.{count_by-le-length, length-filter, sum_by-cons, sum_by-le}
use Rattle.std.proofs.lemmas.Slice.Zip.{length-zip}
use Rattle.cal_board.specs.Blackboard.{Blackboard, depths, end_reply, reply_to, slot_number, top_at}
use Rattle.cal_board.specs.PathBoards.{entries_of, entry_in, last_at, last_entries, last_opened}
use Rattle.cal_board.specs.Readings.{last_reading}
use Rattle.cal_board.specs.Slots.{AreOrdered, last_attribute, opened_in}
use Rattle.cal_board.specs.declared.attr.AttrRef.{AttrRef}
use Rattle.cal_board.specs.declared.opened.Opened.{Opened}
use Rattle.cal_board.specs.declared.opened.Slot.{Slot}
use Rattle.cal_board.specs.declared.reply.BoardReply.TheVariants as reply
use Rattle.cal_context.specs.Tree.{no_attribute, no_value}
use Rattle.cal_run.specs.Adding.{MayAccept}
use Rattle.cal_run.specs.Entries.{HasReadings, IsDeclared, IsImmediate, IsOfEvent, IsOfSlot}
use Rattle.cal_run.specs.Entries.{IsPathEntry, IsShown, IsSlotPath, IsSnapshot}
use Rattle.cal_run.specs.Held.{Accepts}
use Rattle.cal_run.specs.History.{board_placed}
use Rattle.cal_run.specs.Lines.{attr_ref, attribute_of, clock_after, is_process_line, is_shared}
use Rattle.cal_run.specs.Lines.{is_such, operation_of, takes, value_of}
use Rattle.cal_run.specs.Runs.{snapshots, taken_by_thread, taken_from}
use Rattle.cal_run.specs.Snapshots.{Sight, board_of, closed_on, duration, duration_entries}
use Rattle.cal_run.specs.Snapshots.{event_entries, event_of, inclusive_duration, inclusive_entries}
use Rattle.cal_run.specs.Snapshots.{is_end, numbered, probe_entries, probe_of, probe_value}
use Rattle.cal_run.specs.Snapshots.{snapshot_of, time_entries, value_entries, value_on}
use Rattle.cal_run.specs.Steps.{ThreadState, acted_on, at_start, found_reply, is_accepted}
use Rattle.cal_run.specs.Steps.{previous_after, reading_of, readings_changed, seen_before}
use Rattle.cal_run.specs.Steps.{sight_after, state_after, taken_in}
use Rattle.cal_run.specs.declared.operation.Operation.{Operation}
use Rattle.cal_run.proofs.AcceptedLemmas.{accepted-line}
use Rattle.cal_run.proofs.FitLemmas.{AreFitted, FitsBoard, IsFitted, IsFittedSlot, IsGood, MayBeGood}
use Rattle.cal_run.proofs.FitLemmas.{SaysValue, line-good, nothing-fits, opened-fitted, placed-fits}
use Rattle.cal_run.proofs.FitLemmas.{process-fits}
use Rattle.cal_run.proofs.HeldLemmas.{slice_get-All}
use Rattle.cal_run.proofs.ServiceLemmas.{depths-asked}
use Rattle.cal_script.specs.Valid.{IsPlaced, IsRunnable, IsSaid}
use Rattle.cal_script.specs.declared.journal.Journal.{Journal}
use Rattle.cal_script.specs.declared.journal.LineNote.{LineNote}
use Rattle.cal_script.specs.declared.journal.Placed.{Placed}
use Rattle.cal_script.specs.declared.journal.ThreadNote.{ThreadNote}
use Rattle.cal_script.specs.declared.script.Channel.{Channel}
use Rattle.cal_script.specs.declared.script.Line.{Line}
use Rattle.cal_script.specs.declared.script.ProbeKind as probes
use Rattle.cal_script.specs.declared.script.ProbeKind.TheVariants as probe
use Rattle.cal_script.specs.declared.script.Script.{Script}
use Rattle.cal_value.specs.Flat.{joined}
use Rattle.cal_value.specs.Props.{is_reference}
use Rattle.cal_value.specs.declared.attribute.Attribute.{Attribute}
use Rattle.cal_value.specs.declared.attribute.Entry.{Entry}
use Rattle.cal_value.specs.declared.kind.Kind.TheVariants as kind
use Rattle.cal_value.specs.declared.record.Rec.{Rec}
use Rattle.cal_value.specs.declared.variant.Variant.{Variant}
use Rattle.cal_words.specs.declared.op.OpCode as codes
use Rattle.cal_words.specs.declared.op.OpCode.TheVariants as code

-- a test that no item passes
filter-none : {A : Type 0} (test : A → Bool) (xs : List A) → All (λ x. test x ≡ false) xs
    → filter test xs ≡ []
filter-none test [] none = refl
filter-none test (x ∷ xs) none =
    ap (λ t. if t then x ∷ filter test xs else filter test xs) (none 0 x (omega arith))
    ∙ filter-none test xs (λ i d l. none (suc i) d (omega (arith, l)))

pub filter-few : {A : Type 0} (test : A → Bool) (xs : List A) → length (filter test xs) ≤ length xs
filter-few test xs = omega (arith, length-filter test xs, count_by-le-length test xs)

module _ (script : Script) where
  -- ---- paths

  -- an attribute of a number is one of the script's
  pub number-declared : (a : ℕ) → a < length script.attributes
      → IsDeclared script (attribute_of script a)
  number-declared a below = (
    a,
    below,
    get_or_default script.attributes a (attribute_of script a) no_attribute below,
  )

  abbrev entry : Opened Variant → Entry
  entry = entry_in script.attributes

  path-entry : (number : ℕ) (o : Opened Variant) → IsFitted script false number o
      → IsPathEntry script (entry o)
  path-entry number o fitted = record {
    declared = number-declared o.attribute fitted.known;
    reference = ap not fitted.kind;
    said = fitted.said;
  }

  slot-path : (s : Slot Variant) → 0 < length s.opened → length s.opened ≤ 128
      → IsFittedSlot script false s → IsSlotPath script (map entry s.opened)
  slot-path s held short fitted = record {
    some = λ none. omega (arith, ap length none, length-map s.opened entry, held);
    short = omega (arith, length-map s.opened entry, short);
    entries = All-map (IsPathEntry script) entry s.opened
        (λ i d l. path-entry s.number (get_or s.opened i d) (fitted i d l));
  }

  paths-are : (slots : List (Slot Variant)) → AreFitted script false slots
      → All (λ (s : Slot Variant). length s.opened ≤ 128) slots
      → All (IsSlotPath script) (entries_of script.attributes slots)
  paths-are slots fitted short = All-map (IsSlotPath script)
      (λ (s : Slot Variant). map entry s.opened) slots
      (λ i d l. slot-path (get_or slots i d) (fitted.ordered.held i d l) (short i d l)
      (fitted.each i d l))

  -- ---- of one slot

  module _ (test : Entry → Bool) (slot : ℕ) (of : IsOfSlot script test slot) where
    passes-not : (number : ℕ) → number ≢ slot → (o : Opened Variant)
        → IsFitted script false number o → test (entry o) ≡ false
    passes-not number other o fitted = false_from_ne_true (test (entry o)) (λ passed.
        other (sym fitted.slot ∙ of o.attribute o.value fitted.known (ap not fitted.kind) passed))

    no-slot : (s : Slot Variant) → s.number ≢ slot → IsFittedSlot script false s
        → filter test (map entry s.opened) ≡ []
    no-slot s other fitted = filter-none test (map entry s.opened)
        (All-map (λ e. test e ≡ false) entry s.opened
        (λ i d l. passes-not s.number other (get_or s.opened i d) (fitted i d l)))

    no-slots : (slots : List (Slot Variant)) → All (λ (s : Slot Variant). s.number ≢ slot) slots
        → All (IsFittedSlot script false) slots
        → length (filter test (joined (entries_of script.attributes slots))) ≡ 0
    no-slots [] other fitted = refl
    no-slots (s ∷ slots) other fitted =
        let rest = no-slots slots (λ i d l. other (suc i) d (omega (arith, l)))
        (λ i d l. fitted (suc i) d (omega (arith, l))) in
        ap length (filter-append test (map entry s.opened)
        (joined (entries_of script.attributes slots))
        ∙ ap (λ es. es ++ filter test (joined (entries_of script.attributes slots)))
        (no-slot s (other 0 s (omega arith)) (fitted 0 s (omega arith)))) ∙ rest

    -- each slot stands once
    few-slots : (slots : List (Slot Variant))
        → ((i j : ℕ) (d : Slot Variant) → i < j → j < length slots
        → (get_or slots i d).number < (get_or slots j d).number)
        → All (IsFittedSlot script false) slots
        → All (λ (s : Slot Variant). length s.opened ≤ 128) slots
        → length (filter test (joined (entries_of script.attributes slots))) ≤ 128
    few-slots [] ordered fitted short = omega arith
    few-slots (s ∷ slots) ordered fitted short =
        by (s.number == slot) refl
        (few-slots slots (λ i j d l m. ordered (suc i) (suc j) d (omega (arith, l))
        (omega (arith, m))) rest_fitted (λ i d l. short (suc i) d (omega (arith, l))))
      where
        rest_fitted : All (IsFittedSlot script false) slots
        rest_fitted = λ i d l. fitted (suc i) d (omega (arith, l))

        rest : List Entry
        rest = joined (entries_of script.attributes slots)

        both : length (filter test (map entry s.opened ++ rest))
            ≡ length (filter test (map entry s.opened)) + length (filter test rest)
        both = ap length (filter-append test (map entry s.opened) rest)
            ∙ length-append (filter test (map entry s.opened)) (filter test rest)

        by : (t : Bool) → (s.number == slot) ≡ t → length (filter test rest) ≤ 128
            → length (filter test (map entry s.opened ++ rest)) ≤ 128
        by true here few =
            let same : s.number ≡ slot = eqb-true s.number slot here in
            let none = no-slots slots (λ i d l. λ (equal : (get_or slots i d).number ≡ slot).
            let more = ordered 0 (suc i) d (omega arith) (omega (arith, l)) in
            omega (arith, more, equal, same)) rest_fitted in
            omega (
              arith,
              both,
              none,
              filter-few test (map entry s.opened),
              length-map s.opened entry,
              short 0 s (omega arith),
            )
        by false other few =
            let none = ap length (no-slot s (λ equal. eqb-false s.number slot other equal)
            (fitted 0 s (omega arith))) in
            omega (arith, both, none, few)

  -- ---- immediates

  number-immediate : (a : Attribute) → IsShown script a → a.kind ≡ kind.Uint → (n : ℕ) → n < 2 ^ 64
      → IsImmediate script (numbered a n)
  number-immediate a shown is n small = record {
    shown = shown;
    said = record { kind = sym is; allowed = refl; range = small; proper = tt };
  }

  -- the value that an accepted end closes
  ended-last : (o : Option (Opened Variant)) (n : ℕ)
      → end_reply (option_map (λ (o : Opened Variant). o.attribute) o) n ≡ reply.Done
      → (last : Opened Variant) × (o ≡ Some last) × (last.attribute ≡ n)
  ended-last None n done = absurd cc
  ended-last (Some o) n done = by (o.attribute == n) refl done
    where
      by : (t : Bool) → (o.attribute == n) ≡ t
          → (if t then reply.Done else reply.Mismatch o.attribute) ≡ reply.Done
          → (last : Opened Variant) × (Some o ≡ Some last) × (last.attribute ≡ n)
      by true is done = (o, refl, eqb-true o.attribute n is)
      by false is done = absurd cc

  module _ (b : Blackboard Variant) (fits : FitsBoard script b) where
    -- the last value in an attribute's slot
    last-fitted : (a : AttrRef) (last : Opened Variant) → last_at b a ≡ Some last
        → IsFitted script a.as_value (slot_number a) last
    last-fitted a last = by a.as_value
      where
        n : ℕ
        n = slot_number a

        by : (t : Bool) → (if t then last_opened (opened_in n b.as_values)
            else last_opened (opened_in n b.references)) ≡ Some last
            → IsFitted script t n last
        by true is = slice_get-All (IsFitted script true n) (opened_in n b.as_values)
            (length (opened_in n b.as_values) - 1) last
            (opened-fitted script true n b.as_values fits.as_values.each) is
        by false is = slice_get-All (IsFitted script false n) (opened_in n b.references)
            (length (opened_in n b.references) - 1) last
            (opened-fitted script false n b.references fits.references.each) is

    top-last : (a : AttrRef) → top_at b a
        ≡ option_map (λ (o : Opened Variant). o.attribute) (last_at b a)
    top-last a = by a.as_value
      where
        n : ℕ
        n = slot_number a

        by : (t : Bool) → (if t then last_attribute (opened_in n b.as_values)
            else last_attribute (opened_in n b.references))
            ≡ option_map (λ (o : Opened Variant). o.attribute)
            (if t then last_opened (opened_in n b.as_values)
            else last_opened (opened_in n b.references))
        by true = refl
        by false = refl

    -- what an accepted end closes may be said of the attribute
    closed-said : (attr : ℕ)
        → reply_to b code.End (attr_ref script attr) ≡ reply.Done
        → IsSaid (attribute_of script attr) (unwrap_or
        (option_map (λ (o : Opened Variant). o.value) (last_at b (attr_ref script attr))) no_value)
    closed-said attr done =
        let a = attr_ref script attr in
        let last = ended-last (last_at b a) attr
        (ap (λ top. end_reply top attr) (sym (top-last a)) ∙ done) in
        let fitted = last-fitted a last.0 last.1 in
        subst (λ (v : Variant). IsSaid (attribute_of script attr) v)
        (sym (ap (λ o. unwrap_or (option_map (λ (o : Opened Variant). o.value) o) no_value) last.1))
        (subst (λ n. IsSaid (attribute_of script n) last.0.value) last.2 fitted.said)

    -- the value of an event
    shown-said : (op : Operation) → IsGood script op → Accepts script b op
        → IsSaid (attribute_of script op.attr) (value_on script b op.code op)
    shown-said op good accepted = by op.code good.said accepted
      where
        by : (c : codes.OpCode) → SaysValue script c op.attr (value_of script op)
            → reply_to b c (attr_ref script op.attr) ≡ reply.Done
            → IsSaid (attribute_of script op.attr) (value_on script b c op)
        by code.Begin said done = said
        by code.Set said done = said
        by code.End said done = closed-said op.attr done

    -- the last values of as-value slots
    lasts-are : (slots : List (Slot Variant)) → All (IsFittedSlot script true) slots
        → All (IsImmediate script) (last_entries script.attributes slots)
    lasts-are [] fitted = All-nil (IsImmediate script)
    lasts-are (s ∷ slots) fitted =
        All-append (IsImmediate script)
        (option_to_list (option_map entry (last_opened s.opened)))
        (last_entries script.attributes slots)
        (by (last_opened s.opened) refl)
        (lasts-are slots (λ i d l. fitted (suc i) d (omega (arith, l))))
      where
        by : (o : Option (Opened Variant)) → last_opened s.opened ≡ o
            → All (IsImmediate script) (option_to_list (option_map entry o))
        by None is = All-nil (IsImmediate script)
        by (Some o) is =
            let fits = slice_get-All (IsFitted script true s.number) s.opened
            (length s.opened - 1) o (fitted 0 s (omega arith)) is in
            All-cons (IsImmediate script) (entry o) []
            (record { shown = inl (number-declared o.attribute fits.known); said = fits.said })
            (All-nil (IsImmediate script))

  -- ---- the parts of a snapshot

  -- a snapshot that sees such boards, and a reading of 64 bits
  record IsGoodSight (s : Sight) : Type 0 where
    mine : FitsBoard script s.mine
    process : FitsBoard script s.process
    reading : s.reading < 2 ^ 64

  less : (n m : ℕ) → n < 2 ^ 64 → n - m < 2 ^ 64
  less n m small = omega (arith, small)

  module _ (s : Sight) (good : IsGoodSight s) where
    board-fits : (op : Operation) → FitsBoard script (board_of script s op)
    board-fits op = by (is_shared script op)
      where
        by : (t : Bool) → FitsBoard script (if t then s.process else s.mine)
        by true = good.process
        by false = good.mine

    -- the operation, if there is one, is accepted by the board that it acts on
    abbrev IsAccepted : Option Operation → Type 0
    IsAccepted op = MayAccept script (if is_such (is_shared script) op then s.process else s.mine) op

    event-are : (op : Option Operation) → MayBeGood script op → IsAccepted op
        → All (IsImmediate script) (event_entries script s op)
    event-are None fine accepted = All-nil (IsImmediate script)
    event-are (Some op) fine accepted =
        let a = attribute_of script op.attr in
        let said = shown-said (board_of script s op) (board-fits op) op fine accepted in
        All-cons (IsImmediate script) (record {
          attr = event_of op.code a;
          value = value_on script (board_of script s op) op.code op;
        }) [] (record {
          shown = inr (inl (record {
            code = op.code;
            of = a;
            declared = number-declared op.attr fine.known;
            is = refl;
          }));
          said = record {
            kind = said.kind;
            allowed = said.allowed;
            range = said.range;
            proper = said.proper;
          };
        }) (All-nil (IsImmediate script))

    inclusive-are : (op : Option Operation)
        → All (IsImmediate script) (inclusive_entries script s op)
    inclusive-are None = All-nil (IsImmediate script)
    inclusive-are (Some op) = by (is_end op.code && not (is_shared script op))
      where
        since : ℕ
        since = s.reading - last_reading s.readings (attr_ref script op.attr)

        by : (t : Bool) → All (IsImmediate script)
            (if t then numbered inclusive_duration since ∷ [] else [])
        by true = All-cons (IsImmediate script) (numbered inclusive_duration since) []
            (number-immediate inclusive_duration (inr (inr (inr (inl refl)))) refl since
            (less s.reading (last_reading s.readings (attr_ref script op.attr)) good.reading))
            (All-nil (IsImmediate script))
        by false = All-nil (IsImmediate script)

    times-are : (timer : Bool) (op : Option Operation)
        → All (IsImmediate script) (time_entries script s timer op)
    times-are false op = All-nil (IsImmediate script)
    times-are true op =
        let since = s.reading - s.previous in
        All-cons (IsImmediate script) (numbered duration since) (inclusive_entries script s op)
        (number-immediate duration (inr (inr (inl refl))) refl since
        (less s.reading s.previous good.reading)) (inclusive-are op)

    answer-small : (p : probes.ProbeKind) → probe_value p (depths s.mine) < 2 ^ 64
    answer-small probe.Depth =
        let asked = depths-asked s.mine good.mine.within in
        omega (arith, asked.each 0 0 asked.some)
    answer-small probe.Count =
        let asked = depths-asked s.mine good.mine.within in
        omega (arith, sum_by-le (λ (n : ℕ). n) 128 (depths s.mine) asked.each, asked.few)

    probes-are : (kinds : List probes.ProbeKind)
        → All (IsImmediate script) (probe_entries script s kinds)
    probes-are kinds = All-map (IsImmediate script)
        (λ (p : probes.ProbeKind). numbered (probe_of p) (probe_value p (depths s.mine))) kinds
        (λ i d l. let p = get_or kinds i d in
        number-immediate (probe_of p) (inr (inr (inr (inr (p, refl))))) (uint-probe p)
        (probe_value p (depths s.mine)) (answer-small p))
      where
        uint-probe : (p : probes.ProbeKind) → (probe_of p).kind ≡ kind.Uint
        uint-probe probe.Depth = refl
        uint-probe probe.Count = refl

    values-are : All (IsImmediate script) (value_entries script s)
    values-are = All-append (IsImmediate script)
        (last_entries script.attributes s.mine.as_values)
        (last_entries script.attributes s.process.as_values)
        (lasts-are s.mine good.mine s.mine.as_values good.mine.as_values.each)
        (lasts-are s.process good.process s.process.as_values good.process.as_values.each)

    snapshot-is : (channel : Channel) (op : Option Operation) → MayBeGood script op → IsAccepted op
        → IsSnapshot script (snapshot_of script s channel op)
    unfolding snapshot_of
    snapshot-is channel op fine accepted =
        let mine = entries_of script.attributes s.mine.references in
        let process = entries_of script.attributes s.process.references in
        let events = event_entries script s op in
        let times = time_entries script s channel.timer op in
        let answers = probe_entries script s channel.probes in
        record {
          paths = All-append (IsSlotPath script) mine process
              (paths-are s.mine.references good.mine.references good.mine.within.references)
              (paths-are s.process.references good.process.references
              good.process.within.references);
          imms = All-append (IsImmediate script) (events ++ times ++ answers)
              (value_entries script s)
              (All-append (IsImmediate script) (events ++ times) answers
              (All-append (IsImmediate script) events times (event-are op fine accepted)
              (times-are channel.timer op)) (probes-are channel.probes)) values-are;
          few = λ test slot of.
              let one = few-slots test slot of s.mine.references
              good.mine.references.ordered.ordered good.mine.references.each
              good.mine.within.references in
              let other = few-slots test slot of s.process.references
              good.process.references.ordered.ordered good.process.references.each
              good.process.within.references in
              let both = ap (λ es. length (filter test es))
              (flat_map-append (λ (path : List Entry). path) mine process)
              ∙ ap length (filter-append test (joined mine) (joined process))
              ∙ length-append (filter test (joined mine)) (filter test (joined process)) in
              omega (arith, both, one, other);
        }

  -- ---- lines

  -- a line has its places, and its reading has 64 bits
  abbrev IsLine : Line × LineNote → Type 0
  IsLine l = IsPlaced script.attributes script.channels script.values l.0
      × IfSome l.1.reading (λ reading. reading < 2 ^ 64)

  reading-small : (reading : Option ℕ) → IfSome reading (λ n. n < 2 ^ 64)
      → unwrap_or reading 0 < 2 ^ 64
  reading-small None small = omega arith
  reading-small (Some n) small = small

  first-true : (a b : Bool) → (a && b) ≡ true → a ≡ true
  first-true true b is = refl
  first-true false b is = absurd cc

  module _ (runnable : IsRunnable script) (history : List Placed) where
    module _ (l : Line) (note : LineNote) (is : IsLine (l, note)) (state : ThreadState)
        (fits : FitsBoard script state.board) where
      pub state-fits : FitsBoard script (state_after script history l note state).board
      state-fits = by (is_accepted (found_reply script history l note state)
          && not (is_process_line script l))
        where
          by : (t : Bool) → FitsBoard script (if t then record {
            board = board_placed script state.board (operation_of l);
            readings = readings_changed script state.readings note (operation_of l);
            clock = clock_after state.clock l;
          } else state).board
          by true = placed-fits script state.board fits (operation_of l) (line-good script l is.0)
          by false = fits

      taken-are : (channel : Channel) (previous : ℕ)
          → All (IsSnapshot script) (taken_in script history l note state channel previous)
      taken-are channel previous = by (is_accepted (found_reply script history l note state)
          && takes script channel l) refl
        where
          sight : Sight
          sight = sight_after script history l note state previous

          good : IsGoodSight sight
          good = record {
            mine = fits;
            process = process-fits script runnable history (seen_before script history l note);
            reading = reading-small note.reading is.1;
          }

          by : (t : Bool)
              → (is_accepted (found_reply script history l note state) && takes script channel l) ≡ t
              → All (IsSnapshot script)
              (if t then snapshot_of script sight channel (operation_of l) ∷ [] else [])
          by true taken = All-cons (IsSnapshot script)
              (snapshot_of script sight channel (operation_of l)) []
              (snapshot-is sight good channel (operation_of l) (line-good script l is.0)
              (accepted-line script (acted_on script history l note state) l
              (first-true (is_accepted (found_reply script history l note state))
              (takes script channel l) taken)))
              (All-nil (IsSnapshot script))
          by false taken = All-nil (IsSnapshot script)

    from-are : (channel : Channel) (ls : List (Line × LineNote)) → All IsLine ls
        → (state : ThreadState) (previous : ℕ) → FitsBoard script state.board
        → All (IsSnapshot script) (taken_from script history channel state previous ls)
    from-are channel [] lines state previous fits = All-nil (IsSnapshot script)
    from-are channel (l ∷ ls) lines state previous fits =
        let is = lines 0 l (omega arith) in
        All-append (IsSnapshot script) (taken_in script history l.0 l.1 state channel previous)
        (taken_from script history channel (state_after script history l.0 l.1 state)
        (previous_after script history l.0 l.1 state channel previous) ls)
        (taken-are l.0 l.1 is state fits channel previous)
        (from-are channel ls (λ i d m. lines (suc i) d (omega (arith, m)))
        (state_after script history l.0 l.1 state)
        (previous_after script history l.0 l.1 state channel previous)
        (state-fits l.0 l.1 is state fits))

  lines-are : (ls : List Line) (notes : List LineNote)
      → All (IsPlaced script.attributes script.channels script.values) ls
      → All (λ (n : LineNote). IfSome n.reading (λ reading. reading < 2 ^ 64)) notes
      → All IsLine (zip ls notes)
  lines-are [] notes placed short = All-nil IsLine
  lines-are (l ∷ ls) [] placed short = All-nil IsLine
  lines-are (l ∷ ls) (n ∷ notes) placed short =
      All-cons IsLine (l, n) (zip ls notes) (placed 0 l (omega arith), short 0 n (omega arith))
      (lines-are ls notes (λ i d m. placed (suc i) d (omega (arith, m)))
      (λ i d m. short (suc i) d (omega (arith, m))))

  -- ---- threads

  threads-are : IsRunnable script → (history : List Placed) (channel : Channel)
      (threads : List (List Line)) (notes : List ThreadNote)
      → All (All (IsPlaced script.attributes script.channels script.values)) threads
      → All (λ (t : ThreadNote). All (λ (n : LineNote).
      IfSome n.reading (λ reading. reading < 2 ^ 64)) t.lines) notes
      → All (IsSnapshot script) (flat_map (taken_by_thread script history channel)
      (zip threads notes))
  threads-are runnable history channel [] notes placed short = All-nil (IsSnapshot script)
  threads-are runnable history channel (t ∷ threads) [] placed short = All-nil (IsSnapshot script)
  threads-are runnable history channel (t ∷ threads) (n ∷ notes) placed short =
      All-append (IsSnapshot script) (taken_by_thread script history channel (t, n))
      (flat_map (taken_by_thread script history channel) (zip threads notes))
      (from-are runnable history channel (zip t n.lines)
      (lines-are t n.lines (placed 0 t (omega arith)) (short 0 n (omega arith)))
      at_start (unwrap_or n.start 0) (nothing-fits script))
      (threads-are runnable history channel threads notes
      (λ i d m. placed (suc i) d (omega (arith, m))) (λ i d m. short (suc i) d (omega (arith, m))))

  -- ---- how many they are

  module _ (history : List Placed) (channel : Channel) where
    one-taken : (l : Line) (note : LineNote) (state : ThreadState) (previous : ℕ)
        → length (taken_in script history l note state channel previous) ≤ 1
    one-taken l note state previous = by (is_accepted (found_reply script history l note state)
        && takes script channel l)
      where
        by : (t : Bool) → length (if t
            then snapshot_of script (sight_after script history l note state previous) channel
            (operation_of l) ∷ [] else []) ≤ 1
        by true = omega arith
        by false = omega arith

    from-few : (ls : List (Line × LineNote)) (state : ThreadState) (previous : ℕ)
        → length (taken_from script history channel state previous ls) ≤ length ls
    from-few [] state previous = omega arith
    from-few (l ∷ ls) state previous =
        let one = one-taken l.0 l.1 state previous in
        let state2 = state_after script history l.0 l.1 state in
        let previous2 = previous_after script history l.0 l.1 state channel previous in
        let rest = from-few ls state2 previous2 in
        omega (
          arith,
          one,
          rest,
          length-append (taken_in script history l.0 l.1 state channel previous)
              (taken_from script history channel state2 previous2 ls),
        )

    threads-few : (threads : List (List Line)) (notes : List ThreadNote)
        → length (flat_map (taken_by_thread script history channel) (zip threads notes))
        ≤ sum_by length threads
    threads-few [] notes = omega arith
    threads-few (t ∷ threads) [] = omega arith
    threads-few (t ∷ threads) (n ∷ notes) =
        let one = from-few (zip t n.lines) at_start (unwrap_or n.start 0) in
        let rest = threads-few threads notes in
        omega (
          arith,
          one,
          rest,
          length-zip t n.lines,
          sum_by-cons length t threads,
          length-append (taken_by_thread script history channel (t, n))
              (flat_map (taken_by_thread script history channel) (zip threads notes)),
        )

-- the snapshots of a run, and how many they are
pub snapshots-are : (script : Script) (journal : Journal) → IsRunnable script → HasReadings journal
    → (channel : Channel) → All (IsSnapshot script) (snapshots script journal channel)
snapshots-are script journal runnable readings channel =
    threads-are script runnable journal.ops channel script.threads journal.threads runnable.places
    readings

pub snapshots-few : (script : Script) (journal : Journal) → IsRunnable script
    → (channel : Channel) → length (snapshots script journal channel) ≤ 1048576
snapshots-few script journal runnable channel =
    omega (
      arith,
      threads-few script journal.ops channel script.threads journal.threads,
      runnable.few_lines,
    )
