-- The value that an accepted `end` closes is there.
use Rattle.std.proofs.Common.{◌≡◌, ℕ, suc, ◌-◌, ◌<◌, Bool, true, false, List, [], ◌∷◌, length}
use Rattle.std.proofs.Common.{subst, refl, arith, if◌then◌else◌, ◌==◌}
use Rattle.std.specs.Prelude.{Option, Some, None, option_map, slice_get}
use Rattle.std.specs.List.{All}
use Rattle.std.proofs.lemmas.List.Elements.{All-nil}
use Rattle.std.proofs.lemmas.Option.{get_or_from_slice_get, slice_get_within}
use Rattle.cal_board.specs.Blackboard.{Blackboard, end_reply, reply_to, slot_number}
use Rattle.cal_board.specs.PathBoards.{AreKnown, last_at, last_opened}
use Rattle.cal_board.specs.Slots.{last_attribute, opened_in}
use Rattle.cal_board.specs.declared.attr.AttrRef.{AttrRef}
use Rattle.cal_board.specs.declared.opened.Opened.{Opened}
use Rattle.cal_board.specs.declared.opened.Slot.{Slot}
use Rattle.cal_board.specs.declared.reply.BoardReply.TheVariants as reply
use Rattle.cal_run.specs.Held.{IsKnown}
use Rattle.cal_script.specs.declared.script.Script.{Script}
use Rattle.cal_value.specs.declared.attribute.Attribute.{Attribute}
use Rattle.cal_value.specs.declared.variant.Variant.{Variant}
use Rattle.cal_words.specs.declared.op.OpCode.TheVariants as code

module _ (attrs : List Attribute) where
  abbrev Known : Opened Variant → Type 0
  Known o = o.attribute < length attrs

  known-in : (n : ℕ) (ss : List (Slot Variant))
      → All (λ (s : Slot Variant). AreKnown attrs s.opened) ss → AreKnown attrs (opened_in n ss)
  known-in n [] all = All-nil Known
  known-in n (s ∷ ss) all =
      by (s.number == n) (known-in n ss (λ k d below. all (suc k) d (omega (arith, below))))
    where
      by : (b : Bool) → AreKnown attrs (opened_in n ss)
          → AreKnown attrs (if b then s.opened else opened_in n ss)
      by true rest = all 0 s (omega arith)
      by false rest = rest

  -- the last of open values, where one of this attribute is closed
  last-closed : (os : List (Opened Variant)) (m : ℕ) → AreKnown attrs os
      → end_reply (last_attribute os) m ≡ reply.Done
      → (o : Opened Variant) × (last_opened os ≡ Some o) × (o.attribute < length attrs)
  last-closed os m known = by (slice_get os (length os - 1)) refl
    where
      by : (l : Option (Opened Variant)) → slice_get os (length os - 1) ≡ l
          → end_reply (option_map (λ (o : Opened Variant). o.attribute) l) m ≡ reply.Done
          → (o : Opened Variant) × (last_opened os ≡ Some o) × (o.attribute < length attrs)
      by None e done = absurd (let no : reply.NotOpen ≡ reply.Done = done in cc)
      by (Some o) e done = (
        o,
        e,
        subst Known (get_or_from_slice_get os (length os - 1) o o e)
            (known (length os - 1) o (slice_get_within os (length os - 1) o e)),
      )

pub closes-some : (script : Script) (b : Blackboard Variant) (a : AttrRef) → IsKnown script b
    → reply_to b code.End a ≡ reply.Done
    → (o : Opened Variant) × (last_at b a ≡ Some o) × (o.attribute < length script.attributes)
closes-some script b a known = by a.as_value
  where
    by : (v : Bool)
        → end_reply (if v then last_attribute (opened_in (slot_number a) b.as_values)
        else last_attribute (opened_in (slot_number a) b.references)) a.number ≡ reply.Done
        → (o : Opened Variant)
        × ((if v then last_opened (opened_in (slot_number a) b.as_values)
        else last_opened (opened_in (slot_number a) b.references)) ≡ Some o)
        × (o.attribute < length script.attributes)
    by true done = last-closed script.attributes (opened_in (slot_number a) b.as_values) a.number
        (known-in script.attributes (slot_number a) b.as_values known.as_values) done
    by false done = last-closed script.attributes (opened_in (slot_number a) b.references) a.number
        (known-in script.attributes (slot_number a) b.references known.references) done
