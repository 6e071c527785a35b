-- What a line asks of a maker, by the parts of its body.
use Rattle.std.proofs.Common.{◌≡◌, ◌≢◌, ℕ, Bool, true, false, if◌then◌else◌, ap, refl, subst, sym}
use Rattle.std.specs.Prelude.{Option}
use Rattle.cal_board.specs.Asking.{Does, IsRefused, LeavesAll, Puts, Refuses}
use Rattle.cal_board.specs.Blackboard.{Blackboard, IsTableReply, begun, changed, is_top, opened_instead, slot_number, top_at, with_values}
use Rattle.cal_board.specs.Slots.{front, last_value, opened_in}
use Rattle.cal_board.specs.declared.attr.AttrRef.{AttrRef}
use Rattle.cal_board.specs.declared.reply.BoardReply as replies
use Rattle.cal_board.specs.declared.reply.BoardReply.TheVariants.{Done, Mismatch, NotOpen, TooDeep, SlotsFull, TreeFull}
use Rattle.cal_value.specs.declared.variant.Variant.{Variant}
use Rattle.cal_words.specs.declared.op.OpCode as codes
use Rattle.cal_words.specs.declared.op.OpCode.TheVariants.{Begin, Set}

module _ {M N : Type 0} (adds : M → M → N → Type 0) (was is : M) (old new : Blackboard N)
    (a : AttrRef) (v : Variant) where
  -- a refusal by the table leaves all
  pub does_refused : (c : codes.OpCode) (r : replies.BoardReply) → r ≢ Done → IsTableReply r
      → LeavesAll adds was is old new → Does adds was is old new c a v r
  does_refused c Done ne table leaves = absurd (ne refl)
  does_refused c (Mismatch top) ne table leaves = leaves
  does_refused c NotOpen ne table leaves = leaves
  does_refused c (TreeFull full) ne table leaves = absurd table
  does_refused c TooDeep ne table leaves = leaves
  does_refused c SlotsFull ne table leaves = leaves

  module _ (e : is_top (top_at old a) a.number ≡ false) where
    -- a `set` that opens does what a `begin` does
    same_change : (n : N) → changed old Begin a n v ≡ changed old Set a n v
    same_change n = sym (ap (λ (t : Bool). if t
        then with_values old a (opened_instead a.number n) (opened_instead a.number v)
        else begun old a n v) e)

    puts_begun : (t : Bool) → Puts adds was is old new Begin a v t → Puts adds was is old new Set a v t
    puts_begun true p = record {
      after = λ n. subst (λ (b : Blackboard N). new ≡ b) (same_change n) (p.after n);
      same = p.same;
    }
    puts_begun false p = record {
      node = p.node;
      after = subst (λ (b : Blackboard N). new ≡ b) (same_change p.node) p.after;
      added = p.added;
    }

    pub does_begun : (r : replies.BoardReply) → Does adds was is old new Begin a v r
        → Does adds was is old new Set a v r
    does_begun Done d = puts_begun a.as_value d
    does_begun (Mismatch top) d = d
    does_begun NotOpen d = d
    does_begun (TreeFull full) d = d
    does_begun TooDeep d = d
    does_begun SlotsFull d = d

module _ {M N V : Type 0} (refuses : M → M → Option N → ℕ → V → Type 0) (is_plain : M → V → Type 0)
    (was is : M) (b : Blackboard N) (a : AttrRef) (value : V)
    (e : is_top (top_at b a) a.number ≡ false) where
  -- and is refused as it is
  refuses_begun : (t : Bool) → Refuses refuses is_plain was is b Begin a value t
      → Refuses refuses is_plain was is b Set a value t
  refuses_begun true r = r
  refuses_begun false r = subst (λ (o : Option N). refuses was is o a.number value)
      (sym (ap (λ (t : Bool). if t
      then last_value (front (opened_in (slot_number a) b.references))
      else last_value (opened_in (slot_number a) b.references)) e)) r

  pub refused_begun : IsRefused refuses is_plain was is b Begin a value
      → IsRefused refuses is_plain was is b Set a value
  refused_begun r = refuses_begun a.as_value r
