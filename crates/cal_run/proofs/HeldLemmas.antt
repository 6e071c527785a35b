-- A board that is kept by nodes, while the context grows and while operations change it.
use Rattle.std.proofs.Common.{◌≡◌, ℕ, suc, zero, ◌+◌, ◌-◌, ◌<◌, ◌==◌, List, [], ◌∷◌, ◌++◌, Bool}
use Rattle.std.proofs.Common.{true, false, if◌then◌else◌, nat_lt, length, get_or, filter, ap, subst}
use Rattle.std.proofs.Common.{sym, refl, ◌∙◌, arith}
use Rattle.std.specs.Prelude.{Option, Some, None, slice_get, slice_index_or, option_and_then}
use Rattle.std.specs.Prelude.{unwrap_or}
use Rattle.std.specs.List.{All}
use Rattle.std.proofs.lemmas.List.{get_or-map, length-map}
use Rattle.std.proofs.lemmas.List.Sums.{fold_more}
use Rattle.std.proofs.lemmas.List.Elements.{All-append, All-cons, All-filter, All-nil, All-push}
use Rattle.std.proofs.lemmas.List.Elements.{All-take}
use Rattle.std.proofs.lemmas.Option.{get_or_from_slice_get, slice_get_within, unwrap_or-slice_get}
use Rattle.cal_board.proofs.LimitLemmas.{either_list}
use Rattle.cal_board.proofs.StandingLemmas.{Stands-grows, ended-Stands}
use Rattle.cal_board.specs.Blackboard.{Blackboard, board_after, changed, ended, if_done, is_top}
use Rattle.cal_board.specs.Blackboard.{nothing_open, opened_instead, opened_more, reply_to}
use Rattle.cal_board.specs.Blackboard.{slot_number, top_at, with_values}
use Rattle.cal_board.specs.ContextGrowth.{NodeStands-Grows}
use Rattle.cal_board.specs.Contexts.{NodeStands}
use Rattle.cal_board.specs.PathBoards.{AreKnown}
use Rattle.cal_board.specs.Slots.{front, opened_in, slot_of, with_slot}
use Rattle.cal_board.specs.Standing.{Stands, StandsThen}
use Rattle.cal_board.specs.declared.attr.AttrRef.{AttrRef}
use Rattle.cal_board.specs.declared.opened.Opened.{Opened}
use Rattle.cal_board.specs.declared.opened.Slot.{Slot}
use Rattle.cal_board.specs.declared.reply.BoardReply as replies
use Rattle.cal_board.specs.declared.reply.BoardReply.TheVariants.{Done, Mismatch, NotOpen, TooDeep}
use Rattle.cal_board.specs.declared.reply.BoardReply.TheVariants.{SlotsFull, TreeFull}
use Rattle.cal_context.proofs.ListLemmas.{length-IsFront}
use Rattle.cal_context.specs.Tree.{Tree, Grows, value_at, no_value}
use Rattle.cal_context.specs.declared.numbers.NodeNumber.{NodeNumber}
use Rattle.cal_context.specs.declared.numbers.ValueNumber.{ValueNumber}
use Rattle.cal_run.specs.Held.{HasPlaces, Holds, HoldsThen, IsKnown, IsOpened}
use Rattle.cal_run.specs.History.{board_placed, board_with, placed_operation, process_board}
use Rattle.cal_run.specs.Lines.{attr_ref, line_at, operation_of, value_of}
use Rattle.cal_run.specs.Numbers.{AreNumbered}
use Rattle.cal_run.specs.declared.numbers.Numbers.{Numbers}
use Rattle.cal_run.specs.declared.operation.Operation.{Operation}
use Rattle.cal_script.specs.declared.journal.Placed.{Placed}
use Rattle.cal_script.specs.declared.script.Line as lines
use Rattle.cal_script.specs.declared.script.Line.TheVariants as line
use Rattle.cal_script.specs.declared.script.Script.{Script}
use Rattle.cal_script.specs.Valid.{IsPlaced, IsRunnable}
use Rattle.cal_value.specs.declared.attribute.Attribute.{Attribute}
use Rattle.cal_value.specs.declared.variant.Variant.{Variant}
use Rattle.cal_words.specs.declared.op.OpCode as codes
use Rattle.cal_words.specs.declared.op.OpCode.TheVariants as code

-- what is read past the end of a list
pub read-past : {A : Type 0} (xs : List A) (i : ℕ) (d : A) → None ≡ slice_get xs i
    → slice_index_or xs i d ≡ d
read-past xs i d e = sym (unwrap_or-slice_get xs i d) ∙ ap (λ o. unwrap_or o d) (sym e)

-- ---- growth

pub Holds-Grows : {old new : Tree} → Grows old new
    → (script : Script) (held : Blackboard NodeNumber) (b : Blackboard Variant)
    → Holds old script held b → Holds new script held b
Holds-Grows {old} {new} grows script held b is = record {
  stands = Stands-grows (NodeStands old) (NodeStands new)
      (λ n path s. NodeStands-Grows grows n path s) held b is.stands;
  known = is.known;
}

-- ---- known attributes

module _ (attrs : List Attribute) where
  abbrev AreAll : List (Slot Variant) → Type 0
  AreAll slots = All (λ (s : Slot Variant). AreKnown attrs s.opened) slots

  nothing-known : AreKnown attrs []
  nothing-known = All-nil (λ (o : Opened Variant). o.attribute < length attrs)

  opened_in-known : (k : ℕ) (slots : List (Slot Variant)) → AreAll slots
      → AreKnown attrs (opened_in k slots)
  opened_in-known k [] known = nothing-known
  opened_in-known k (s ∷ ss) known =
      either_list (λ (os : List (Opened Variant)). AreKnown attrs os) (s.number == k) s.opened
      (opened_in k ss)
      (known 0 s (omega arith)) (opened_in-known k ss (λ i d l. known (suc i) d (omega (arith, l))))

  slot_of-known : (k : ℕ) (os : List (Opened Variant)) → AreKnown attrs os → AreAll (slot_of k os)
  slot_of-known k [] known = All-nil (λ (s : Slot Variant). AreKnown attrs s.opened)
  slot_of-known k (o ∷ os) known =
      All-cons (λ (s : Slot Variant). AreKnown attrs s.opened)
      (record { number = k; opened = o ∷ os }) [] known
      (All-nil (λ (s : Slot Variant). AreKnown attrs s.opened))

  with_slot-known : (k : ℕ) (os : List (Opened Variant)) (slots : List (Slot Variant))
      → AreAll slots → AreKnown attrs os
      → AreAll (with_slot k os slots)
  with_slot-known k os slots known is =
      let Known : Slot Variant → Type 0 = λ s. AreKnown attrs s.opened in
      let low : List (Slot Variant) = filter (λ (s : Slot Variant). nat_lt s.number k) slots in
      let high : List (Slot Variant) = filter (λ (s : Slot Variant). nat_lt k s.number) slots in
      All-append Known (low ++ slot_of k os) high
      (All-append Known low (slot_of k os)
      (All-filter (λ (s : Slot Variant). nat_lt s.number k) Known slots known)
      (slot_of-known k os is))
      (All-filter (λ (s : Slot Variant). nat_lt k s.number) Known slots known)

module _ (script : Script) (b : Blackboard Variant) (is : IsKnown script b) where
  known-with_values : (a : AttrRef) (f g : List (Opened Variant) → List (Opened Variant))
      → ((os : List (Opened Variant)) → AreKnown script.attributes os
      → AreKnown script.attributes (f os))
      → ((os : List (Opened Variant)) → AreKnown script.attributes os
      → AreKnown script.attributes (g os))
      → IsKnown script (with_values b a f g)
  known-with_values a f g keeps_f keeps_g = by a.as_value
    where
      k : ℕ
      k = slot_number a

      by : (t : Bool) → IsKnown script
          (if t then record {
            references = b.references;
            as_values = with_slot k
                (g (opened_in k b.as_values)) b.as_values;
          }
          else record {
            references = with_slot k (f (opened_in k b.references)) b.references;
            as_values = b.as_values;
          })
      by true = record {
        references = is.references;
        as_values = with_slot-known script.attributes k (g (opened_in k b.as_values)) b.as_values
            is.as_values
            (keeps_g (opened_in k b.as_values)
            (opened_in-known script.attributes k b.as_values is.as_values));
      }
      by false = record {
        references = with_slot-known script.attributes k (f (opened_in k b.references)) b.references
            is.references
            (keeps_f (opened_in k b.references)
            (opened_in-known script.attributes k b.references is.references));
        as_values = is.as_values;
      }

  module _ (a : AttrRef) (within : a.number < length script.attributes) (v : Variant) where
    front-known : (os : List (Opened Variant)) → AreKnown script.attributes os
        → AreKnown script.attributes (front os)
    front-known os known = All-take (λ (o : Opened Variant). o.attribute < length script.attributes)
        (length os - 1) os known

    more-known : (os : List (Opened Variant)) → AreKnown script.attributes os
        → AreKnown script.attributes (opened_more a.number v os)
    more-known os known = All-push (λ (o : Opened Variant). o.attribute < length script.attributes)
        os (record { attribute = a.number; value = v }) known within

    instead-known : (os : List (Opened Variant)) → AreKnown script.attributes os
        → AreKnown script.attributes (opened_instead a.number v os)
    instead-known os known = All-push
        (λ (o : Opened Variant). o.attribute < length script.attributes) (front os)
        (record { attribute = a.number; value = v }) (front-known os known) within

    changed-known : (c : codes.OpCode) → IsKnown script (changed b c a v v)
    changed-known code.Begin =
        known-with_values a (opened_more a.number v) (opened_more a.number v) more-known more-known
    changed-known code.End = known-with_values a front front front-known front-known
    changed-known code.Set = by (is_top (top_at b a) a.number)
      where
        by : (t : Bool)
            → IsKnown script (if t then with_values b a (opened_instead a.number v)
            (opened_instead a.number v)
            else with_values b a (opened_more a.number v) (opened_more a.number v))
        by true = known-with_values a (opened_instead a.number v) (opened_instead a.number v)
            instead-known instead-known
        by false = known-with_values a (opened_more a.number v) (opened_more a.number v) more-known
            more-known

    pub after-known : (c : codes.OpCode) → IsKnown script (board_after b c a v v)
    after-known c = by (reply_to b c a)
      where
        by : (r : replies.BoardReply) → IsKnown script (if_done r (changed b c a v v) b)
        by Done = changed-known c
        by (Mismatch t) = is
        by NotOpen = is
        by (TreeFull full) = is
        by TooDeep = is
        by SlotsFull = is

-- ---- an operation's places

pub slice_get-All : {A : Type 0} (P : A → Type 0) (xs : List A) (i : ℕ) (x : A) → All P xs
    → slice_get xs i ≡ Some x → P x
slice_get-All P xs i x all is =
    subst P (get_or_from_slice_get xs i x x is) (all i x (slice_get_within xs i x is))

same_some : {A : Type 0} (x y : A) → Some x ≡ Some y → x ≡ y
same_some x y e = cc

-- those of a line that has its own
pub placed-HasPlaces : (script : Script) (l : lines.Line) (op : Operation)
    → IsPlaced script.attributes script.channels script.values l → operation_of l ≡ Some op
    → HasPlaces script op
placed-HasPlaces script (line.Begin a v) op is e = subst (HasPlaces script) (same_some _ _ e)
    (record {
      attr = slice_get_within script.attributes a is.attribute is.declared;
      value = slice_get_within script.values v is.opened is.kept;
    })
placed-HasPlaces script (line.Set a v) op is e = subst (HasPlaces script) (same_some _ _ e)
    (record {
      attr = slice_get_within script.attributes a is.attribute is.declared;
      value = slice_get_within script.values v is.opened is.kept;
    })
placed-HasPlaces script (line.End a) op is e =
    subst (HasPlaces script) (same_some _ _ e) (record { attr = is; value = tt })
placed-HasPlaces script line.Snapshot op is e = absurd cc
placed-HasPlaces script (line.Flush c) op is e = absurd cc
placed-HasPlaces script (line.Tick n) op is e = absurd cc

abbrev IsRight : Script → lines.Line → Type 0
IsRight script l = IsPlaced script.attributes script.channels script.values l

-- the lines of each thread have their places
thread-placed : (P : lines.Line → Type 0) (threads : List (List lines.Line)) (i : ℕ)
    → All (All P) threads → All P (slice_index_or threads i [])
thread-placed P [] i all = All-nil P
thread-placed P (t ∷ ts) zero all = all 0 t (omega arith)
thread-placed P (t ∷ ts) (suc i) all =
    thread-placed P ts i (λ k d m. all (suc k) d (omega (arith, m)))

unless-none : {A : Type 0} (b : Bool) (o : Option A) (x : A) → (if b then None else o) ≡ Some x
    → o ≡ Some x
unless-none true o x is = absurd cc
unless-none false o x is = is

numbered-placed : (P : lines.Line → Type 0) (thread : List lines.Line) (n : ℕ) (l : lines.Line)
    → All P thread
    → (if n == 0 then None else slice_get thread (n - 1)) ≡ Some l → P l
numbered-placed P thread n l all is =
    slice_get-All P thread (n - 1) l all (unless-none (n == 0) (slice_get thread (n - 1)) l is)

pub line_at-placed : (script : Script) (thread number : ℕ) (l : lines.Line) → IsRunnable script
    → line_at script thread number ≡ Some l
    → IsPlaced script.attributes script.channels script.values l
line_at-placed script thread number l runnable is =
    numbered-placed (IsRight script) (slice_index_or script.threads thread []) number l
    (thread-placed (IsRight script) script.threads thread runnable.places) is

-- those of what is placed in a history
operation-places : (script : Script) (found : Option lines.Line) (op : Operation)
    → ((l : lines.Line) → found ≡ Some l → IsRight script l)
    → option_and_then operation_of found ≡ Some op → HasPlaces script op
operation-places script None op right e = absurd cc
operation-places script (Some l) op right e = placed-HasPlaces script l op (right l refl) e

pub history-HasPlaces : (script : Script) (p : Placed) (op : Operation) → IsRunnable script
    → placed_operation script p ≡ Some op → HasPlaces script op
history-HasPlaces script p op runnable e =
    operation-places script (line_at script p.thread p.line) op
    (λ l is. line_at-placed script p.thread p.line l runnable is) e

-- ---- the value of an operation

module _ (t : Tree) (script : Script) (ns : Numbers) (is : AreNumbered t script ns) where
  pub values-long : length ns.values.items ≡ length script.values
  values-long = sym (length-map ns.values.items (value_at t)) ∙ ap length is.values.values

  pub value-within : (i : ℕ) (n : ValueNumber) → i < length ns.values.items
      → n ≡ get_or ns.values.items i n → n.0 < length t.values
  value-within i n l e = subst (λ (m : ValueNumber). m.0 < length t.values) (sym e)
      (is.values.within i n l)

  pub value-is : (op : Operation) (n : ValueNumber) → op.value < length ns.values.items
      → n ≡ get_or ns.values.items op.value n → value_at t n ≡ value_of script op
  value-is op n l e = ap (value_at t) e
      ∙ sym (get_or-map (value_at t) ns.values.items op.value n no_value l)
      ∙ ap (λ vs. get_or vs op.value no_value) is.values.values

  pub attributes-within : (a : ℕ) → a < length script.attributes → a < length t.attributes
  attributes-within a l = omega
      (arith, l, length-IsFront script.attributes t.attributes is.named.front)

-- ---- an operation

-- what a board stood for, changed by an operation, it stands for after the board's own call
pub operated : (was is : Tree) (script : Script) (held new : Blackboard NodeNumber) (op : Operation)
    (c : codes.OpCode) (a : AttrRef)
    (v : Variant) → op.code ≡ c → a ≡ attr_ref script op.attr → v ≡ value_of script op
    → op.attr < length script.attributes
    → StandsThen (NodeStands was) (NodeStands is) held new (λ b. board_after b c a v v)
    → HoldsThen was is script held new (λ b. board_with script b op)
operated was is script held new op c a v ec ea ev l after b holds =
    let same : board_after b c a v v ≡ board_with script b op =
    λ j. board_after b (sym ec j) (ea j) (ev j) (ev j) in
    record {
      stands = subst (λ (after : Blackboard Variant). Stands (NodeStands is) new after) same
          (after b holds.stands);
      known = after-known script b holds.known (attr_ref script op.attr) l (value_of script op)
          op.code;
    }

pub ended-operated : (t : Tree) (script : Script) (held new : Blackboard NodeNumber)
    (op : Operation) (a : AttrRef) → op.code ≡ code.End
    → a ≡ attr_ref script op.attr → op.attr < length script.attributes → new ≡ ended held a
    → HoldsThen t t script held new (λ b. board_with script b op)
ended-operated t script held new op a ec ea l after =
    operated t t script held new op code.End a (value_of script op) ec ea refl l
    (λ (b : Blackboard Variant) (is : Stands (NodeStands t) held b).
    subst (λ (h : Blackboard NodeNumber). Stands (NodeStands t) h
    (board_after b code.End a (value_of script op) (value_of script op)))
    (sym after) (ended-Stands (NodeStands t) held b a (value_of script op) is))

-- the value of an opening operation is the one of its number
pub opening-value : (t : Tree) (script : Script) (ns : Numbers) → AreNumbered t script ns
    → (op : Operation) (c : codes.OpCode)
    → op.code ≡ c → HasPlaces script op
    → (IsOpened script c op.value → op.value < length script.values) → (n : ValueNumber)
    → n ≡ get_or ns.values.items op.value n → value_at t n ≡ value_of script op
opening-value t script ns is op c e places opens n at =
    let below = opens (subst (λ (c : codes.OpCode). IsOpened script c op.value) e places.value) in
    let long = values-long t script ns is in
    value-is t script ns is op n (omega (arith, below, long)) at

-- the process's board after one operation more
pub board-more : (script : Script) (history : List Placed) (place : ℕ) (p : Placed)
    → p ≡ get_or history place p → place < length history
    → board_placed script (process_board script history place) (placed_operation script p)
    ≡ process_board script history (place + 1)
board-more script history place p at below =
    ap (λ (p : Placed). board_placed script (process_board script history place)
    (placed_operation script p)) at
    ∙ sym (fold_more (λ (b : Blackboard Variant) (p : Placed). board_placed script b
    (placed_operation script p)) nothing_open history place p below)

pub process_board-more : (t : Tree) (script : Script) (history : List Placed) (place : ℕ)
    (p : Placed) (held : Blackboard NodeNumber)
    → p ≡ get_or history place p → place < length history
    → Holds t script held (board_placed script (process_board script history place)
    (placed_operation script p))
    → Holds t script held (process_board script history (place + 1))
process_board-more t script history place p held at below is =
    subst (Holds t script held) (board-more script history place p at below) is
