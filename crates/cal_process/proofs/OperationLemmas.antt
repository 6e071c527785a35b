-- What an operation does to a board over the shared tree.
use Rattle.std.proofs.Common.{◌≡◌, ℕ, ◌<◌, ◌^◌, length, refl, sym}
use Rattle.std.proofs.Common.{subst, arith}
use Rattle.std.specs.Prelude.{Option, Some, None, slice_get, slice_index_or, option_and_then, true}
use Rattle.std.proofs.lemmas.Bool.{leb-true}
use Rattle.std.proofs.lemmas.List.Elements.{All-nil}
use Rattle.std.proofs.lemmas.Option.{get_or_from_slice_get}
use Rattle.cal_board.specs.Blackboard.{Blackboard, nothing_open}
use Rattle.cal_board.specs.PathBoards.{AreKnown}
use Rattle.cal_board.specs.Standing.{Stands, StandsThen}
use Rattle.cal_board.specs.declared.opened.Slot.{Slot}
use Rattle.cal_context.specs.Tree.{no_value}
use Rattle.cal_hand.proofs.HandLemmas.{board_later}
use Rattle.cal_hand.specs.Changes.{changed_board}
use Rattle.cal_hand.specs.Nodes.{NodeAt}
use Rattle.cal_hand.specs.declared.change.Change.{Change}
use Rattle.cal_once.specs.Seats.{view}
use Rattle.cal_once.specs.Views.{KnowsMore}
use Rattle.cal_once.specs.declared.seat.RowSeat.{RowSeat}
use Rattle.cal_process.specs.Boards.{Held, HeldThen}
use Rattle.cal_process.specs.Operations.{IsOpOf, IsShort, MayDo, operation_in}
use Rattle.cal_process.specs.declared.common.Common.{Common}
use Rattle.cal_run.proofs.HeldLemmas.{after-known, line_at-placed, placed-HasPlaces}
use Rattle.cal_run.specs.History.{board_with}
use Rattle.cal_run.specs.Lines.{attr_ref, line_at, operation_of, value_of}
use Rattle.cal_run.specs.declared.operation.Operation.{Operation}
use Rattle.cal_script.specs.Parts.{is_allowed}
use Rattle.cal_script.specs.Valid.{IsOpening, IsPlaced, IsRunnable}
use Rattle.cal_script.specs.declared.script.Line as lines
use Rattle.cal_script.specs.declared.script.Line.TheVariants as line
use Rattle.cal_script.specs.declared.script.Script.{Script}
use Rattle.cal_tree.specs.Seats.{slots_of}
use Rattle.cal_value.specs.declared.variant.Variant as variants
use Rattle.cal_value.specs.declared.variant.Variant.TheVariants as variant
use Rattle.cal_words.specs.Words.{text_length}
use Rattle.cal_words.specs.declared.node.NodeId.{NodeId}
use Rattle.cal_words.specs.declared.op.OpRec.{OpRec}
use Rattle.cal_words.specs.declared.sort.NodeSort.{NodeSort}

-- the value that an operation opens stands at its place
pub value_there : (script : Script) (op : Operation) (v : variants.Variant)
    → slice_get script.values op.value ≡ Some v → v ≡ value_of script op
value_there script op v is = sym (get_or_from_slice_get script.values op.value v no_value is)

-- ---- what an operation may do

-- a value that a script may have has a short text
allowed-short : (v : variants.Variant) → is_allowed v ≡ true → text_length v < 2 ^ 32
allowed-short (variant.Int n) is = omega arith
allowed-short (variant.Fixed n) is = omega arith
allowed-short (variant.Uint n) is = omega arith
allowed-short (variant.Text t) is = let le = leb-true (length t) 4096 is in omega (arith, le)
allowed-short (variant.Real t) is = let le = leb-true (length t) 4096 is in omega (arith, le)
allowed-short (variant.Bool b) is = omega arith
allowed-short (variant.Addr a) is = omega arith
allowed-short (variant.Kind k) is = omega arith
allowed-short (variant.Usr t) is = absurd cc
allowed-short (variant.Ptr t) is = absurd cc

opened-short : (script : Script) (a v : ℕ) → IsOpening script.attributes script.values a v
    → text_length (slice_index_or script.values v no_value) < 2 ^ 32
opened-short script a v is =
    subst (λ (x : variants.Variant). text_length x < 2 ^ 32)
    (sym (get_or_from_slice_get script.values v is.opened no_value is.kept))
    (allowed-short is.opened is.said.allowed)

same_some : {A : Type 0} (x y : A) → Some x ≡ Some y → x ≡ y
same_some x y e = cc

-- a line that has its places opens a short text
placed-short : (script : Script) (l : lines.Line) (op : Operation)
    → IsPlaced script.attributes script.channels script.values l → operation_of l ≡ Some op
    → IsShort op.code (value_of script op)
placed-short script (line.Begin a v) op is e =
    subst (λ (o : Operation). IsShort o.code (value_of script o)) (same_some _ _ e)
    (opened-short script a v is)
placed-short script (line.Set a v) op is e =
    subst (λ (o : Operation). IsShort o.code (value_of script o)) (same_some _ _ e)
    (opened-short script a v is)
placed-short script (line.End a) op is e =
    subst (λ (o : Operation). IsShort o.code (value_of script o)) (same_some _ _ e) tt
placed-short script line.Snapshot op is e = absurd cc
placed-short script (line.Flush c) op is e = absurd cc
placed-short script (line.Tick n) op is e = absurd cc

-- so its operation may be done
pub placed-may : (script : Script) (l : lines.Line) (op : Operation)
    → IsPlaced script.attributes script.channels script.values l → operation_of l ≡ Some op
    → MayDo script op
placed-may script l op is e = record {
  places = placed-HasPlaces script l op is e;
  short = placed-short script l op is e;
}

found-may : (script : Script) (found : Option lines.Line) (op : Operation)
    → ((l : lines.Line) → found ≡ Some l
    → IsPlaced script.attributes script.channels script.values l)
    → option_and_then operation_of found ≡ Some op → MayDo script op
found-may script None op right e = absurd cc
found-may script (Some l) op right e = placed-may script l op (right l refl) e

-- and so may an operation of the history
pub op-may : (script : Script) (op : OpRec) → IsRunnable script → IsOpOf script op
    → MayDo script (operation_in op)
op-may script op runnable is = found-may script (line_at script op.thread op.line)
    (operation_in op) (λ l e. line_at-placed script op.thread op.line l runnable e) is.does

-- ---- boards

module _ (common : Common) where
  -- an empty board of nodes stands for the empty board
  pub nothing-held : (seat : RowSeat NodeSort) → Held common seat nothing_open nothing_open
  nothing-held seat =
      let known = All-nil (λ (s : Slot variants.Variant).
      AreKnown common.script.now.attributes s.opened) in
      record {
        stands = record { references = tt; as_values = refl };
        known = record { references = known; as_values = known };
      }

  -- what a board stood for as a seat knew, it stands for as the seat knows later
  pub Held-later : (was is : RowSeat NodeSort) → KnowsMore (view was) (view is)
      → (held : Blackboard NodeId) (b : Blackboard variants.Variant) → Held common was held b
      → Held common is held b
  Held-later was is more held b h = record {
    stands = board_later (slots_of common.tree) (view was) (view is) held b more h.stands;
    known = h.known;
  }

  -- a change of a board of nodes is the operation's
  pub Held-changed : (was is : RowSeat NodeSort) (old new : Blackboard NodeId) (op : Operation)
      (change : Change) → op.attr < length common.script.now.attributes
      → ((b : Blackboard variants.Variant) → changed_board b (attr_ref common.script.now op.attr)
      change ≡ board_with common.script.now b op)
      → StandsThen (NodeAt common.tree was) (NodeAt common.tree is) old new
      (λ b. changed_board b (attr_ref common.script.now op.attr) change)
      → HeldThen common was is old new (λ b. board_with common.script.now b op)
  Held-changed was is old new op change within same changed b h = record {
    stands = subst (λ (c : Blackboard variants.Variant). Stands (NodeAt common.tree is) new c)
        (same b) (changed b h.stands);
    known = after-known common.script.now b h.known (attr_ref common.script.now op.attr) within
        (value_of common.script.now op) op.code;
  }
