-- What the boards of a run hold: open values that lines may say, each in the slot of its attribute.
use Rattle.std.proofs.Common.{◌≡◌, ◌⊎◌, inl, inr, ℕ, suc, ◌+◌, ◌-◌, ◌<◌, ◌≤◌, Bool, true, false, ◌==◌}
use Rattle.std.proofs.Common.{if◌then◌else◌, List, [], ◌∷◌, ◌++◌, length, filter, fold, take, refl}
use Rattle.std.proofs.Common.{sym, ap, subst, ◌∙◌, arith}
use Rattle.std.specs.Prelude.{Option, Some, None, nat_lt, option_and_then, slice_get}
use Rattle.std.specs.List.{All}
use Rattle.std.proofs.lemmas.Bool.{eqb-true}
use Rattle.std.proofs.lemmas.List.{length-append, length-take-le}
use Rattle.std.proofs.lemmas.List.Elements.{All-append, All-cons, All-filter, All-nil, All-push}
use Rattle.std.proofs.lemmas.List.Elements.{All-take}
use Rattle.std.proofs.lemmas.Option.{get_or_from_slice_get, slice_get_within}
use Rattle.cal_board.proofs.LimitLemmas.{opened_in-short, room-done, within-as_values}
use Rattle.cal_board.proofs.LimitLemmas.{within-references}
use Rattle.cal_board.proofs.SlotLemmas.{AreOrdered-with_slot}
use Rattle.cal_board.specs.Blackboard.{Blackboard, IsWithin, board_after, begin_reply, changed}
use Rattle.cal_board.specs.Blackboard.{depth_at, if_done, is_top, nothing_open, opened_instead}
use Rattle.cal_board.specs.Blackboard.{opened_more}
use Rattle.cal_board.specs.Blackboard.{reply_to, slot_number, top_at, with_values}
use Rattle.cal_board.specs.Slots.{AreOrdered, front, last_attribute, opened_in, slot_of}
use Rattle.cal_board.specs.Slots.{with_slot}
use Rattle.cal_board.specs.declared.attr.AttrRef.{AttrRef}
use Rattle.cal_board.specs.declared.opened.Opened.{Opened}
use Rattle.cal_board.specs.declared.opened.Slot.{Slot}
use Rattle.cal_board.specs.declared.reply.BoardReply as replies
use Rattle.cal_board.specs.declared.reply.BoardReply.TheVariants as reply
use Rattle.cal_context.specs.Tree.{no_attribute, no_value}
use Rattle.cal_run.specs.History.{board_placed, board_with, placed_operation, process_board}
use Rattle.cal_run.specs.Lines.{attr_ref, attribute_of, line_at, operation_of, value_of}
use Rattle.cal_run.specs.declared.operation.Operation.{Operation}
use Rattle.cal_run.proofs.HeldLemmas.{line_at-placed}
use Rattle.cal_script.specs.Valid.{IsOpening, IsPlaced, IsRunnable, IsSaid}
use Rattle.cal_script.specs.declared.journal.Placed.{Placed}
use Rattle.cal_script.specs.declared.script.Line as lines
use Rattle.cal_script.specs.declared.script.Line.TheVariants as line
use Rattle.cal_script.specs.declared.script.Script.{Script}
use Rattle.cal_value.specs.declared.attribute.Attribute.{Attribute}
use Rattle.cal_value.specs.declared.variant.Variant.{Variant}
use Rattle.cal_words.specs.declared.op.OpCode as codes
use Rattle.cal_words.specs.declared.op.OpCode.TheVariants as code

module _ (script : Script) where
  -- ---- slots

  -- an open value of a slot, among as-value slots or reference slots
  pub record IsFitted (as_value : Bool) (number : ℕ) (o : Opened Variant) : Type 0 where
    pub known : o.attribute < length script.attributes
    pub said : IsSaid (attribute_of script o.attribute) o.value
    pub kind : (attr_ref script o.attribute).as_value ≡ as_value
    pub slot : slot_number (attr_ref script o.attribute) ≡ number

  abbrev pub IsFittedSlot : Bool → Slot Variant → Type 0
  IsFittedSlot as_value s = All (IsFitted as_value s.number) s.opened

  pub record AreFitted (as_value : Bool) (slots : List (Slot Variant)) : Type 0 where
    pub ordered : AreOrdered slots
    pub each : All (IsFittedSlot as_value) slots

  pub opened-fitted : (as_value : Bool) (number : ℕ) (slots : List (Slot Variant))
      → All (IsFittedSlot as_value) slots → All (IsFitted as_value number) (opened_in number slots)
  opened-fitted as_value number [] each = All-nil (IsFitted as_value number)
  opened-fitted as_value number (s ∷ slots) each = by (s.number == number) refl
      (opened-fitted as_value number slots (λ i d l. each (suc i) d (omega (arith, l))))
    where
      by : (t : Bool) → (s.number == number) ≡ t
          → All (IsFitted as_value number) (opened_in number slots)
          → All (IsFitted as_value number) (if t then s.opened else opened_in number slots)
      by true same rest = subst (λ n. All (IsFitted as_value n) s.opened)
          (eqb-true s.number number same) (each 0 s (omega arith))
      by false other rest = rest

  slot_of-fitted : (as_value : Bool) (number : ℕ) (os : List (Opened Variant))
      → All (IsFitted as_value number) os → All (IsFittedSlot as_value) (slot_of number os)
  slot_of-fitted as_value number [] each = All-nil (IsFittedSlot as_value)
  slot_of-fitted as_value number (o ∷ os) each =
      All-cons (IsFittedSlot as_value) (record { number = number; opened = o ∷ os }) [] each
      (All-nil (IsFittedSlot as_value))

  with_slot-fitted : (as_value : Bool) (number : ℕ) (os : List (Opened Variant))
      (slots : List (Slot Variant)) → AreFitted as_value slots → All (IsFitted as_value number) os
      → AreFitted as_value (with_slot number os slots)
  with_slot-fitted as_value number os slots is each =
      let Fit : Slot Variant → Type 0 = IsFittedSlot as_value in
      let low : List (Slot Variant) = filter (λ (s : Slot Variant). nat_lt s.number number) slots in
      let high : List (Slot Variant) = filter (λ (s : Slot Variant). nat_lt number s.number) slots in
      record {
        ordered = AreOrdered-with_slot slots number os is.ordered;
        each = All-append Fit (low ++ slot_of number os) high
            (All-append Fit low (slot_of number os)
            (All-filter (λ (s : Slot Variant). nat_lt s.number number) Fit slots is.each)
            (slot_of-fitted as_value number os each))
            (All-filter (λ (s : Slot Variant). nat_lt number s.number) Fit slots is.each);
      }

  -- ---- boards

  pub record FitsBoard (b : Blackboard Variant) : Type 0 where
    pub within : IsWithin b
    pub references : AreFitted false b.references
    pub as_values : AreFitted true b.as_values

  none-fitted : (as_value : Bool) → AreFitted as_value []
  none-fitted as_value = record {
    ordered = record {
      ordered = λ i j d l m. absurd (omega (arith, m));
      held = All-nil (λ (s : Slot Variant). 0 < length s.opened);
    };
    each = All-nil (IsFittedSlot as_value);
  }

  pub nothing-fits : FitsBoard nothing_open
  nothing-fits = record {
    within = record {
      slots = omega arith;
      references = All-nil (λ (s : Slot Variant). length s.opened ≤ 128);
      as_values = All-nil (λ (s : Slot Variant). length s.opened ≤ 128);
    };
    references = none-fitted false;
    as_values = none-fitted true;
  }

  -- the values of the slot of an attribute
  abbrev opened_at : Blackboard Variant → AttrRef → List (Opened Variant)
  opened_at b a = if a.as_value then opened_in (slot_number a) b.as_values
      else opened_in (slot_number a) b.references

  depth-is : (b : Blackboard Variant) (a : AttrRef) → length (opened_at b a) ≡ depth_at b a
  depth-is b a = by a.as_value
    where
      by : (t : Bool) → length (if t then opened_in (slot_number a) b.as_values
          else opened_in (slot_number a) b.references)
          ≡ (if t then length (opened_in (slot_number a) b.as_values)
          else length (opened_in (slot_number a) b.references))
      by true = refl
      by false = refl

  pub at-fitted : (b : Blackboard Variant) → FitsBoard b → (a : AttrRef)
      → All (IsFitted a.as_value (slot_number a)) (opened_at b a)
  at-fitted b fits a = by a.as_value
    where
      by : (t : Bool) → All (IsFitted t (slot_number a))
          (if t then opened_in (slot_number a) b.as_values
          else opened_in (slot_number a) b.references)
      by true = opened-fitted true (slot_number a) b.as_values fits.as_values.each
      by false = opened-fitted false (slot_number a) b.references fits.references.each

  at-short : (b : Blackboard Variant) → FitsBoard b → (a : AttrRef) → length (opened_at b a) ≤ 128
  at-short b fits a = by a.as_value
    where
      by : (t : Bool) → length (if t then opened_in (slot_number a) b.as_values
          else opened_in (slot_number a) b.references) ≤ 128
      by true = opened_in-short (slot_number a) b.as_values fits.within.as_values
      by false = opened_in-short (slot_number a) b.references fits.within.references

  -- other values in the slot of an attribute: where there was none, there is room for one
  values-fit : (b : Blackboard Variant) → FitsBoard b → (a : AttrRef)
      (f : List (Opened Variant) → List (Opened Variant)) → length (f (opened_at b a)) ≤ 128
      → (length (opened_at b a) ≡ 0 → (length b.references + length b.as_values < 64)
      ⊎ (length (f (opened_at b a)) ≡ 0))
      → All (IsFitted a.as_value (slot_number a)) (f (opened_at b a))
      → FitsBoard (with_values b a f f)
  values-fit b fits a f = by a.as_value
    where
      n : ℕ
      n = slot_number a

      by : (t : Bool)
          → length (f (if t then opened_in n b.as_values else opened_in n b.references)) ≤ 128
          → (length (if t then opened_in n b.as_values else opened_in n b.references) ≡ 0
          → (length b.references + length b.as_values < 64)
          ⊎ (length (f (if t then opened_in n b.as_values else opened_in n b.references)) ≡ 0))
          → All (IsFitted t n) (f (if t then opened_in n b.as_values else opened_in n b.references))
          → FitsBoard (if t then record {
            references = b.references;
            as_values = with_slot n (f (opened_in n b.as_values)) b.as_values;
          } else record {
            references = with_slot n (f (opened_in n b.references)) b.references;
            as_values = b.as_values;
          })
      by true few room each = record {
        within = within-as_values b fits.within n (f (opened_in n b.as_values)) _ refl few room;
        references = fits.references;
        as_values = with_slot-fitted true n (f (opened_in n b.as_values)) b.as_values fits.as_values
            each;
      }
      by false few room each = record {
        within = within-references b fits.within n (f (opened_in n b.references)) _ refl few room;
        references = with_slot-fitted false n (f (opened_in n b.references)) b.references
            fits.references each;
        as_values = fits.as_values;
      }

  held-top : (os : List (Opened Variant)) (number : ℕ) → is_top (last_attribute os) number ≡ true
      → length os ≡ 0 → ⊥
  held-top [] number top none = absurd cc
  held-top (o ∷ os) number top none = omega (arith, none)

  -- a slot with a last value isn't empty
  top-held : (b : Blackboard Variant) (a : AttrRef) → is_top (top_at b a) a.number ≡ true
      → length (opened_at b a) ≡ 0 → ⊥
  top-held b a = by a.as_value
    where
      n : ℕ
      n = slot_number a

      by : (t : Bool) → is_top (if t then last_attribute (opened_in n b.as_values)
          else last_attribute (opened_in n b.references)) a.number ≡ true
          → length (if t then opened_in n b.as_values else opened_in n b.references) ≡ 0 → ⊥
      by true = held-top (opened_in n b.as_values) a.number
      by false = held-top (opened_in n b.references) a.number

  -- ---- a line

  -- the value that is opened may be said of the attribute
  abbrev pub SaysValue : codes.OpCode → (attr : ℕ) → Variant → Type 0
  SaysValue code.Begin attr v = IsSaid (attribute_of script attr) v
  SaysValue code.Set attr v = IsSaid (attribute_of script attr) v
  SaysValue code.End attr v = Unit {0}

  module _ (b : Blackboard Variant) (fits : FitsBoard b) (attr : ℕ)
      (known : attr < length script.attributes) (v : Variant) where
    abbrev a : AttrRef
    a = attr_ref script attr

    one-fitted : IsSaid (attribute_of script attr) v
        → IsFitted a.as_value (slot_number a) (record { attribute = a.number; value = v })
    one-fitted said = record { known = known; said = said; kind = refl; slot = refl }

    more-fit : IsSaid (attribute_of script attr) v → begin_reply b a ≡ reply.Done
        → FitsBoard (with_values b a (opened_more a.number v) (opened_more a.number v))
    more-fit said done =
        let room = room-done (length b.references + length b.as_values) (depth_at b a) done in
        let long = depth-is b a in
        values-fit b fits a (opened_more a.number v)
        (omega (
          arith,
          room.0,
          long,
          length-append (opened_at b a) (record { attribute = a.number; value = v } ∷ []),
        ))
        (λ none. inl (room.1 (sym long ∙ none)))
        (All-push (IsFitted a.as_value (slot_number a)) (opened_at b a)
        (record { attribute = a.number; value = v }) (at-fitted b fits a) (one-fitted said))

    front-short : length (front (opened_at b a)) ≤ length (opened_at b a) - 1
    front-short = let e = length-take-le (length (opened_at b a) - 1) (opened_at b a) (omega arith) in
        omega (arith, e)

    front-fit : FitsBoard (with_values b a front front)
    front-fit = values-fit b fits a front (omega (arith, front-short, at-short b fits a))
        (λ none. inr (omega (arith, front-short, none)))
        (All-take (IsFitted a.as_value (slot_number a)) (length (opened_at b a) - 1) (opened_at b a)
        (at-fitted b fits a))

    instead-short : (n m : ℕ) → n ≤ m - 1 → m ≤ 128 → n + 1 ≤ 128
    instead-short n m less few = omega (arith, less, few)

    instead-fit : IsSaid (attribute_of script attr) v → is_top (top_at b a) a.number ≡ true
        → FitsBoard (with_values b a (opened_instead a.number v) (opened_instead a.number v))
    instead-fit said top = values-fit b fits a (opened_instead a.number v)
        (let e = length-append (front (opened_at b a))
        (record { attribute = a.number; value = v } ∷ []) in
        let few = instead-short (length (front (opened_at b a))) (length (opened_at b a)) front-short
        (at-short b fits a) in
        omega (arith, e, few))
        (λ none. absurd (top-held b a top none))
        (All-push (IsFitted a.as_value (slot_number a)) (front (opened_at b a))
        (record { attribute = a.number; value = v })
        (All-take (IsFitted a.as_value (slot_number a)) (length (opened_at b a) - 1) (opened_at b a)
        (at-fitted b fits a)) (one-fitted said))

    set-fit : (t : Bool) → is_top (top_at b a) a.number ≡ t → IsSaid (attribute_of script attr) v
        → (if t then reply.Done else begin_reply b a) ≡ reply.Done
        → FitsBoard (if t then with_values b a (opened_instead a.number v) (opened_instead a.number v)
        else with_values b a (opened_more a.number v) (opened_more a.number v))
    set-fit true top said done = instead-fit said top
    set-fit false top said done = more-fit said done

    changed-fits : (c : codes.OpCode) → SaysValue c attr v → reply_to b c a ≡ reply.Done
        → FitsBoard (changed b c a v v)
    changed-fits code.Begin said done = more-fit said done
    changed-fits code.Set said done = set-fit (is_top (top_at b a) a.number) refl said done
    changed-fits code.End said done = front-fit

    -- a board keeps fitting
    pub after-fits : (c : codes.OpCode) → SaysValue c attr v → FitsBoard (board_after b c a v v)
    after-fits c said = by (reply_to b c a) refl
      where
        by : (r : replies.BoardReply) → reply_to b c a ≡ r
            → FitsBoard (if_done r (changed b c a v v) b)
        by reply.Done done = changed-fits c said done
        by (reply.Mismatch top) is = fits
        by reply.NotOpen is = fits
        by reply.TooDeep is = fits
        by reply.SlotsFull is = fits
        by (reply.TreeFull full) is = fits

  -- ---- operations

  -- the attribute of an operation is one of the script's, and its value may be said of it
  pub record IsGood (op : Operation) : Type 0 where
    pub known : op.attr < length script.attributes
    pub said : SaysValue op.code op.attr (value_of script op)

  -- if there is one
  abbrev pub MayBeGood : Option Operation → Type 0
  MayBeGood None = Unit {0}
  MayBeGood (Some op) = IsGood op

  opening-said : (attr value : ℕ) → IsOpening script.attributes script.values attr value
      → (c : codes.OpCode) → (attr < length script.attributes)
      × IsSaid (attribute_of script attr)
      (value_of script (record { code = c; attr = attr; value = value }))
  opening-said attr value is c = (
    slice_get_within script.attributes attr is.attribute is.declared,
    subst (λ (a : Attribute). IsSaid a
        (value_of script (record { code = c; attr = attr; value = value })))
        (sym (get_or_from_slice_get script.attributes attr is.attribute no_attribute is.declared))
        (subst (λ (v : Variant). IsSaid is.attribute v)
        (sym (get_or_from_slice_get script.values value is.opened no_value is.kept)) is.said),
  )

  pub line-good : (l : lines.Line) → IsPlaced script.attributes script.channels script.values l
      → MayBeGood (operation_of l)
  line-good (line.Begin attr value) is = let both = opening-said attr value is code.Begin in
      record { known = both.0; said = both.1 }
  line-good (line.Set attr value) is = let both = opening-said attr value is code.Set in
      record { known = both.0; said = both.1 }
  line-good (line.End attr) is = record { known = is; said = tt }
  line-good line.Snapshot is = tt
  line-good (line.Flush c) is = tt
  line-good (line.Tick n) is = tt

  pub placed-fits : (b : Blackboard Variant) → FitsBoard b → (op : Option Operation)
      → MayBeGood op → FitsBoard (board_placed script b op)
  placed-fits b fits None good = fits
  placed-fits b fits (Some op) good =
      after-fits b fits op.attr good.known (value_of script op) op.code good.said

  -- ---- the history

  found-good : (found : Option lines.Line)
      → ((l : lines.Line) → found ≡ Some l
      → IsPlaced script.attributes script.channels script.values l)
      → MayBeGood (option_and_then operation_of found)
  found-good None placed = tt
  found-good (Some l) placed = line-good l (placed l refl)

  pub placed-good : IsRunnable script → (p : Placed) → MayBeGood (placed_operation script p)
  placed-good runnable p = found-good (line_at script p.thread p.line)
      (λ l is. line_at-placed script p.thread p.line l runnable is)

  folded-fits : IsRunnable script → (ps : List Placed) (b : Blackboard Variant) → FitsBoard b
      → FitsBoard (fold (λ b p. board_placed script b (placed_operation script p)) b ps)
  folded-fits runnable [] b fits = fits
  folded-fits runnable (p ∷ ps) b fits =
      folded-fits runnable ps (board_placed script b (placed_operation script p))
      (placed-fits b fits (placed_operation script p) (placed-good runnable p))

  pub process-fits : IsRunnable script → (history : List Placed) (count : ℕ)
      → FitsBoard (process_board script history count)
  process-fits runnable history count =
      folded-fits runnable (take count history) nothing_open nothing-fits
