-- What the snapshots of a run have: entries of its attributes, with values of their kinds.
use Rattle.std.proofs.Common.{◌≡◌, ℕ, zero, suc, ◌<◌, ◌≤◌, ◌^◌, ℤ, pos, negsuc, Bool, true, false}
use Rattle.std.proofs.Common.{not, ◌&&◌, List, [], ◌∷◌, ◌++◌, length, map, refl, sym, ap, subst}
use Rattle.std.proofs.Common.{◌∙◌, ◌-◌, arith, inl, inr, Option, None, Some, Contains}
use Rattle.std.specs.Prelude.{codes, flat_map, if◌then◌else◌, option_map, option_to_list, unwrap_or}
use Rattle.std.specs.Prelude.{◌⊎◌, unsigned_abs}
use Rattle.std.specs.List.{AllByRecursion}
use Rattle.std.proofs.lemmas.Bool.{leb-true}
use Rattle.std.proofs.lemmas.Grind.{flat_map-append}
use Rattle.std.proofs.lemmas.List.{get_or_default}
use Rattle.std.proofs.lemmas.List.Elements.{Contains-append_left, Contains-append_right}
use Rattle.cal_board.specs.Blackboard.{Blackboard, reply_to, slot_number}
use Rattle.cal_board.specs.PathBoards.{entries_of, entry_in, last_at, last_entries, last_opened}
use Rattle.cal_board.specs.Readings.{last_reading}
use Rattle.cal_board.specs.Slots.{opened_in}
use Rattle.cal_board.specs.declared.attr.AttrRef.{AttrRef}
use Rattle.cal_board.specs.declared.opened.Opened.{Opened}
use Rattle.cal_board.specs.declared.opened.Slot.{Slot}
use Rattle.cal_board.specs.declared.reply.BoardReply.TheVariants as reply
use Rattle.cal_context.specs.Tree.{no_attribute, no_value}
use Rattle.cal_profile.proofs.Lists.{Contains-cases, Contains-nil}
use Rattle.cal_run.specs.Lines.{attr_ref, attribute_of, is_shared}
use Rattle.cal_run.specs.Snapshots.{Sight, board_of, closed_on, duration, event_entries, event_of}
use Rattle.cal_run.specs.Snapshots.{inclusive_duration, inclusive_entries, is_end, numbered}
use Rattle.cal_run.specs.Snapshots.{probe_entries, probe_of, snapshot_of, time_entries}
use Rattle.cal_run.specs.Snapshots.{value_entries, value_on}
use Rattle.cal_run.specs.declared.operation.Operation.{Operation}
use Rattle.cal_script.specs.Parts.{is_allowed}
use Rattle.cal_script.specs.declared.script.Channel.{Channel}
use Rattle.cal_script.specs.declared.script.ProbeKind as probes
use Rattle.cal_script.specs.declared.script.ProbeKind.TheVariants as probe
use Rattle.cal_script.specs.declared.script.Script.{Script}
use Rattle.cal_run.specs.RunAttributes.{added_attributes, events_of, run_attributes}
use Rattle.cal_traces.proofs.Boards.{AreSlots, all-append, last_all, nothing_closed, opened_all}
use Rattle.cal_traces.proofs.Boards.{top_closed}
use Rattle.cal_traces.proofs.Openings.{AreOpen, Fits, IsReference, IsValue, MayOperate, Operates}
use Rattle.cal_value.specs.Flat.{joined}
use Rattle.cal_value.specs.Props.{is_as_value, is_reference}
use Rattle.cal_value.specs.Values.{kind_of}
use Rattle.cal_value.specs.declared.attribute.Attribute.{Attribute}
use Rattle.cal_value.specs.declared.attribute.Entry.{Entry}
use Rattle.cal_value.specs.declared.kind.Kind.TheVariants as kind
use Rattle.cal_value.specs.declared.record.Rec.{Rec}
use Rattle.cal_value.specs.declared.variant.Variant as variants
use Rattle.cal_value.specs.declared.variant.Variant.TheVariants as variant
use Rattle.cal_words.specs.declared.op.OpCode as codes
use Rattle.cal_words.specs.declared.op.OpCode.TheVariants as code

-- a whole number, or a decimal in nano-units, of 64 bits; nothing is asked of another value
abbrev pub IsShort : variants.Variant → Type 0
IsShort (variant.Int n) = unsigned_abs n ≤ 2 ^ 63
IsShort (variant.Fixed n) = unsigned_abs n ≤ 2 ^ 63
IsShort _ = Unit {0}

allowed_short : (v : variants.Variant) → is_allowed v ≡ true → IsShort v
allowed_short (variant.Fixed (pos n)) is =
    let small = leb-true n 9223372036854775807 is in omega arith
allowed_short (variant.Fixed (negsuc n)) is =
    let small = leb-true n 9223372036854775807 is in omega arith
allowed_short (variant.Int (pos n)) is =
    let small = leb-true n 9223372036854775807 is in omega arith
allowed_short (variant.Int (negsuc n)) is =
    let small = leb-true n 9223372036854775807 is in omega arith
allowed_short (variant.Uint n) is = tt
allowed_short (variant.Text t) is = tt
allowed_short (variant.Bool b) is = tt
allowed_short (variant.Addr a) is = tt
allowed_short (variant.Kind k) is = tt
allowed_short (variant.Real t) is = tt
allowed_short (variant.Usr t) is = tt
allowed_short (variant.Ptr t) is = tt

module _ (script : Script) where
  abbrev all : List Attribute
  all = run_attributes script

  -- an entry of an attribute of the run, with a value of its kind
  pub record IsOf (e : Entry) : Type 0 where
    pub there : Contains all e.attr
    pub kind : kind_of e.value ≡ e.attr.kind
    pub short : IsShort e.value

  pub record InPath (e : Entry) : Type 0 where
    pub of : IsOf e
    pub reference : is_reference e.attr.props ≡ true

  pub record Immediate (e : Entry) : Type 0 where
    pub of : IsOf e
    pub value : is_as_value e.attr.props ≡ true

  pub record IsShot (r : Rec) : Type 0 where
    pub paths : AllByRecursion InPath (joined r.paths)
    pub imms : AllByRecursion Immediate r.imms

  -- ---- attributes that are there

  declared : (a : ℕ) → a < length script.attributes
      → Contains script.attributes (attribute_of script a)
  declared a within =
      (a, within, get_or_default script.attributes a (attribute_of script a) no_attribute within)

  own_there : (a : ℕ) → a < length script.attributes → Contains all (attribute_of script a)
  own_there a within = Contains-append_left script.attributes (added_attributes script.attributes)
      (attribute_of script a) (declared a within)

  added_there : (a : Attribute) → Contains (added_attributes script.attributes) a → Contains all a
  added_there a there =
      Contains-append_right script.attributes (added_attributes script.attributes) a there

  events_there : (attributes : List Attribute) (c : codes.OpCode) (a : Attribute)
      → Contains attributes a → Contains (flat_map events_of attributes) (event_of c a)
  events_there [] c a there = absurd (Contains-nil a there)
  events_there (first ∷ attributes) c a there =
      by (Contains-cases a first attributes there) (events_there attributes c a)
    where
      own : (c : codes.OpCode) → Contains (events_of a) (event_of c a)
      own code.Begin = (0, omega arith, refl)
      own code.End = (1, omega arith, refl)
      own code.Set = (2, omega arith, refl)

      by : (first ≡ a) ⊎ Contains attributes a
          → (Contains attributes a → Contains (flat_map events_of attributes) (event_of c a))
          → Contains (flat_map events_of (first ∷ attributes)) (event_of c a)
      by (inl is) more = subst
          (λ (x : Attribute).
          Contains (events_of x ++ flat_map events_of attributes) (event_of c a))
          (sym is)
          (Contains-append_left (events_of a) (flat_map events_of attributes) (event_of c a)
          (own c))
      by (inr behind) more = Contains-append_right (events_of first)
          (flat_map events_of attributes) (event_of c a) (more behind)

  event_there : (c : codes.OpCode) (a : ℕ) → a < length script.attributes
      → Contains all (event_of c (attribute_of script a))
  event_there c a within =
      let event = event_of c (attribute_of script a) in
      added_there event (Contains-append_right four (flat_map events_of script.attributes) event
      (events_there script.attributes c (attribute_of script a) (declared a within)))
    where
      four : List Attribute
      four = duration ∷ inclusive_duration ∷ probe_of probe.Depth ∷ probe_of probe.Count ∷ []

  -- ---- the entries of boards

  slot_in_path : (os : List (Opened variants.Variant)) → AllByRecursion (IsReference script) os
      → AllByRecursion InPath (map (entry_in script.attributes) os)
  slot_in_path [] held = tt
  slot_in_path (o ∷ os) held = (
    record {
      of = record {
        there = own_there o.attribute held.0.within;
        kind = held.0.fits.kind;
        short = allowed_short o.value held.0.fits.allowed;
      };
      reference = held.0.reference;
    },
    slot_in_path os held.1,
  )

  slots_in_path : (slots : List (Slot variants.Variant)) → AreSlots (IsReference script) slots
      → AllByRecursion InPath (joined (entries_of script.attributes slots))
  slots_in_path [] held = tt
  slots_in_path (s ∷ slots) held = all-append InPath (map (entry_in script.attributes) s.opened)
      (joined (entries_of script.attributes slots)) (slot_in_path s.opened held.0)
      (slots_in_path slots held.1)

  last_immediates : (slots : List (Slot variants.Variant)) → AreSlots (IsValue script) slots
      → AllByRecursion Immediate (last_entries script.attributes slots)
  last_immediates [] held = tt
  last_immediates (s ∷ slots) held = all-append Immediate
      (option_to_list (option_map (entry_in script.attributes) (last_opened s.opened)))
      (last_entries script.attributes slots)
      (by (last_opened s.opened) (λ o is. last_all (IsValue script) s.opened o held.0 is))
      (last_immediates slots held.1)
    where
      by : (found : Option (Opened variants.Variant))
          → ((o : Opened variants.Variant) → found ≡ Some o → IsValue script o)
          → AllByRecursion Immediate
          (option_to_list (option_map (entry_in script.attributes) found))
      by None value = tt
      by (Some o) value =
          let is = value o refl in (
            record {
              of = record {
                there = own_there o.attribute is.within;
                kind = is.fits.kind;
                short = allowed_short o.value is.fits.allowed;
              };
              value = is.value;
            },
            tt,
          )

  -- ---- the value of an event

  last_fits : (b : Blackboard variants.Variant) → AreOpen script b → (a : AttrRef)
      → (o : Opened variants.Variant) → last_at b a ≡ Some o
      → Fits (attribute_of script o.attribute) o.value
  last_fits b on a o is = by a.as_value is
    where
      by : (v : Bool)
          → (if v then last_opened (opened_in (slot_number a) b.as_values)
          else last_opened (opened_in (slot_number a) b.references)) ≡ Some o
          → Fits (attribute_of script o.attribute) o.value
      by true is = (last_all (IsValue script) (opened_in (slot_number a) b.as_values) o
          (opened_all (IsValue script) (slot_number a) b.as_values on.as_values) is).fits
      by false is = (last_all (IsReference script) (opened_in (slot_number a) b.references) o
          (opened_all (IsReference script) (slot_number a) b.references on.references) is).fits

  closed_fits : (b : Blackboard variants.Variant) → AreOpen script b → (op : Operation)
      → reply_to b code.End (attr_ref script op.attr) ≡ reply.Done
      → Fits (attribute_of script op.attr) (closed_on script b op)
  closed_fits b on op done = by (last_at b (attr_ref script op.attr)) refl
    where
      by : (found : Option (Opened variants.Variant))
          → last_at b (attr_ref script op.attr) ≡ found
          → Fits (attribute_of script op.attr) (closed_on script b op)
      by None is = absurd (nothing_closed b (attr_ref script op.attr) done is)
      by (Some o) is = subst (Fits (attribute_of script op.attr)) (sym (ap (λ found. unwrap_or
          (option_map (λ (o : Opened variants.Variant). o.value) found) no_value) is))
          (subst (λ (a : ℕ). Fits (attribute_of script a) o.value)
          (top_closed b (attr_ref script op.attr) o done is)
          (last_fits b on (attr_ref script op.attr) o is))

  value_fits : (b : Blackboard variants.Variant) → AreOpen script b → (op : Operation)
      → Operates script op → (c : codes.OpCode) → op.code ≡ c
      → reply_to b c (attr_ref script op.attr) ≡ reply.Done
      → Fits (attribute_of script op.attr) (value_on script b c op)
  value_fits b on op operates code.Begin is done = operates.fits (ap is_end is)
  value_fits b on op operates code.Set is done = operates.fits (ap is_end is)
  value_fits b on op operates code.End is done = closed_fits b on op done

  -- ---- the parts of a snapshot

  module _ (sight : Sight) (mine : AreOpen script sight.mine)
      (process : AreOpen script sight.process) where
    -- an operation that its board accepts
    abbrev pub Accepted : Option Operation → Type 0
    Accepted None = Unit {0}
    Accepted (Some op) =
        reply_to (board_of script sight op) op.code (attr_ref script op.attr) ≡ reply.Done

    board_open : (op : Operation) → AreOpen script (board_of script sight op)
    board_open op = by (is_shared script op)
      where
        by : (b : Bool) → AreOpen script (if b then sight.process else sight.mine)
        by true = process
        by false = mine

    events : (op : Option Operation) → MayOperate script op → Accepted op
        → AllByRecursion Immediate (event_entries script sight op)
    events None operates done = tt
    events (Some op) operates done =
        let fits = value_fits (board_of script sight op) (board_open op) op operates op.code refl
        done in (
          record {
            of = record {
              there = event_there op.code op.attr operates.within;
              kind = fits.kind;
              short = allowed_short _ fits.allowed;
            };
            value = refl;
          },
          tt,
        )

    -- a number that a service adds
    numbered_of : (a : Attribute) (n : ℕ) → Contains all a → kind.Uint ≡ a.kind
        → is_as_value a.props ≡ true → Immediate (numbered a n)
    numbered_of a n there kind value = record {
      of = record { there = there; kind = kind; short = tt };
      value = value;
    }

    inclusive : (op : Option Operation)
        → AllByRecursion Immediate (inclusive_entries script sight op)
    inclusive None = tt
    inclusive (Some op) = by (is_end op.code && not (is_shared script op))
      where
        entry : Entry
        entry = numbered inclusive_duration
            (sight.reading - last_reading sight.readings (attr_ref script op.attr))

        by : (b : Bool) → AllByRecursion Immediate (if b then entry ∷ [] else [])
        by true = (
          numbered_of inclusive_duration _
              (added_there inclusive_duration (1, omega arith, refl)) refl refl,
          tt,
        )
        by false = tt

    times : (timer : Bool) (op : Option Operation)
        → AllByRecursion Immediate (time_entries script sight timer op)
    times true op = (
      numbered_of duration _ (added_there duration (0, omega arith, refl)) refl refl,
      inclusive op,
    )
    times false op = tt

    probed : (kinds : List probes.ProbeKind)
        → AllByRecursion Immediate (probe_entries script sight kinds)
    probed [] = tt
    probed (probe.Depth ∷ kinds) = (
      numbered_of (probe_of probe.Depth) _
          (added_there (probe_of probe.Depth) (2, omega arith, refl)) refl refl,
      probed kinds,
    )
    probed (probe.Count ∷ kinds) = (
      numbered_of (probe_of probe.Count) _
          (added_there (probe_of probe.Count) (3, omega arith, refl)) refl refl,
      probed kinds,
    )

    values : AllByRecursion Immediate (value_entries script sight)
    values = all-append Immediate (last_entries script.attributes sight.mine.as_values)
        (last_entries script.attributes sight.process.as_values)
        (last_immediates sight.mine.as_values mine.as_values)
        (last_immediates sight.process.as_values process.as_values)

    in_paths : AllByRecursion InPath (joined (entries_of script.attributes sight.mine.references
        ++ entries_of script.attributes sight.process.references))
    in_paths = subst (AllByRecursion InPath)
        (sym (flat_map-append (λ (path : List Entry). path)
        (entries_of script.attributes sight.mine.references)
        (entries_of script.attributes sight.process.references)))
        (all-append InPath (joined (entries_of script.attributes sight.mine.references))
        (joined (entries_of script.attributes sight.process.references))
        (slots_in_path sight.mine.references mine.references)
        (slots_in_path sight.process.references process.references))

    pub snapshot_shot : (channel : Channel) (op : Option Operation) → MayOperate script op
        → Accepted op → IsShot (snapshot_of script sight channel op)
    unfolding snapshot_of
    snapshot_shot channel op operates done = record {
      paths = in_paths;
      imms = all-append Immediate _ (value_entries script sight)
          (all-append Immediate _ (probe_entries script sight channel.probes)
          (all-append Immediate (event_entries script sight op)
          (time_entries script sight channel.timer op)
          (events op operates done) (times channel.timer op))
          (probed channel.probes))
          values;
    }
