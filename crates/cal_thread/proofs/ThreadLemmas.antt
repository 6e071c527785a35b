-- What a thread keeps while its seats learn, and how the plain meaning of a line is found by what
-- the thread has seen.
use Rattle.std.proofs.Common.{◌≡◌, ℕ, ◌+◌, ◌-◌, ◌<◌, ◌≤◌, ◌⊎◌, List, [], ◌∷◌, ◌++◌, length, cond}
use Rattle.std.proofs.Common.{Bool, true, false, if◌then◌else◌, inl, inr, refl, ap, ◌∙◌, subst}
use Rattle.std.proofs.Common.{arith}
use Rattle.std.specs.Prelude.{Option, Some, not, ◌&&◌}
use Rattle.std.specs.List.{list_any}
use Rattle.std.proofs.lemmas.Bool.{cases_lt, ne_eqb}
use Rattle.std.proofs.lemmas.List.{length-map}
use Rattle.cal_board.specs.Blackboard.{Blackboard}
use Rattle.cal_once.proofs.Seen.{times-append}
use Rattle.cal_once.specs.Layout.{times}
use Rattle.cal_once.specs.Seats.{view}
use Rattle.cal_once.specs.Views.{KnowsMore}
use Rattle.cal_once.specs.declared.seat.RowSeat.{RowSeat}
use Rattle.cal_once.specs.declared.view.View.{View}
use Rattle.cal_plog.proofs.Reading.{has_op_later, knows_below_later}
use Rattle.cal_plog.specs.History.{OwnBefore}
use Rattle.cal_process.proofs.OperationLemmas.{Held-later}
use Rattle.cal_process.specs.Operations.{history_of, placed_as}
use Rattle.cal_process.proofs.Uses.{uses-later}
use Rattle.cal_process.specs.Replicas.{HasTaken}
use Rattle.cal_process.specs.Takings.{MayTake}
use Rattle.cal_process.specs.declared.common.Common.{Common}
use Rattle.cal_process.specs.declared.replica.Replica.{Replica}
use Rattle.cal_run.proofs.FrontLemmas.{process_board-front}
use Rattle.cal_run.specs.History.{process_board}
use Rattle.cal_run.specs.Lines.{clock_after, is_process_line, operation_of, takes}
use Rattle.cal_run.specs.Steps.{ThreadState, changed, found_reply, is_accepted, looks}
use Rattle.cal_run.specs.Steps.{process_seen, reply_to_line, state_after}
use Rattle.cal_run.specs.declared.operation.Operation.{Operation}
use Rattle.cal_script.specs.declared.script.Channel.{Channel}
use Rattle.cal_script.specs.declared.journal.LineNote.{LineNote}
use Rattle.cal_script.specs.declared.journal.Placed.{Placed}
use Rattle.cal_script.specs.declared.journal.Reply.{Reply}
use Rattle.cal_script.specs.declared.script.Line as lines
use Rattle.cal_script.specs.declared.script.Line.TheVariants as line
use Rattle.cal_script.specs.declared.script.Script.{Script}
use Rattle.cal_thread.specs.Threads.{IsThread}
use Rattle.cal_thread.specs.declared.thread.Thread.{Thread}
use Rattle.cal_tree.specs.Seats.{IsTreeSeat}
use Rattle.cal_value.specs.declared.variant.Variant.{Variant}
use Rattle.cal_words.specs.declared.op.OpRec.{OpRec}
use Rattle.cal_words.specs.declared.sort.NodeSort.{NodeSort}
use Rattle.cal_words.specs.declared.sort.OpSort.{OpSort}

-- ---- seats that learn

-- what was taken in stands while the tree's seat learns
pub taken-later : (common : Common) (was is : RowSeat NodeSort) (p : Replica) (h : List OpRec)
    → IsTreeSeat common.tree is → KnowsMore (view was) (view is) → HasTaken common was p h
    → HasTaken common is p h
taken-later common was is p h at more t = record {
  at_tree = at;
  at_log = t.at_log;
  read = t.read;
  long = t.long;
  words = t.words;
  held = Held-later common was is more p.board
      (process_board common.script.now (history_of h) p.seen) t.held;
}

-- what a seat appended, later
pub own-later : (slots : ℕ) (v w : View OpSort) (n : ℕ) → KnowsMore v w
    → w.published ≡ v.published → OwnBefore slots v n → OwnBefore slots w n
own-later slots v w n more same own p some =
    let o = own p (subst (λ (ps : List ℕ). 0 < times p ps) same some) in
    record {
      op = o.op;
      has_op = has_op_later slots v w p o.op more o.has_op;
      earlier = o.earlier;
      below = knows_below_later slots v w p more o.below;
    }

-- one published place more, behind all that was seen
pub below-more : (ps : List ℕ) (place p seen : ℕ) → ((q : ℕ) → 0 < times q ps → q < seen)
    → seen ≤ place → 0 < times p (ps ++ place ∷ []) → p < place + 1
below-more ps place p seen below behind is = by (cases_lt p (place + 1))
  where
    by : (p < place + 1) ⊎ (place + 1 ≤ p) → p < place + 1
    by (inl less) = less
    by (inr more) =
        let sum = times-append p ps (place ∷ []) in
        let none : times p (place ∷ []) ≡ 0 =
        ap (λ (b : Bool). cond b 1 0 + 0) (ne_eqb place p (λ e. omega (arith, e, more))) in
        let less = below p (omega (arith, is, sum, none)) in
        absurd (omega (arith, less, behind, more))

-- a thread between two lines may take in operations
pub may-take : (common : Common) (t : Thread) (done : ℕ) (h : List OpRec) (state : ThreadState)
    → IsThread common t done h state → MayTake common t.tree t.process h
may-take common t done h state w = record {
  taken = w.has.taken;
  thread = t.number;
  done = done;
  uses = w.uses;
}

-- ---- a line that is its thread's own

and-true : (b : Bool) → (b && true) ≡ b
and-true true = refl
and-true false = refl

-- it is answered by what the thread's board replies
module _ (script : Script) (history : List Placed) (l : lines.Line) (note : LineNote)
    (state : ThreadState) (own : is_process_line script l ≡ false) (o : Option Reply)
    (is : reply_to_line script state.board l ≡ o) where
  pub own-found : found_reply script history l note state ≡ o
  own-found = ap (λ (t : Bool). reply_to_line script
      (if t then process_seen script history l note else state.board) l) own ∙ is

  pub own-looks : looks script history l note state
      ≡ list_any (λ (c : Channel). is_accepted o && takes script c l) script.channels
  own-looks =
      ap (λ (f : Option Reply). list_any (λ (c : Channel). is_accepted f && takes script c l)
      script.channels && not (is_process_line script l)) own-found
      ∙ ap (λ (t : Bool). list_any (λ (c : Channel). is_accepted o && takes script c l)
      script.channels && not t) own
      ∙ and-true (list_any (λ (c : Channel). is_accepted o && takes script c l) script.channels)

-- the clock stands where a line does something to a board
pub clock-stands : (l : lines.Line) (op : Operation) (clock : ℕ) → Some op ≡ operation_of l
    → clock ≡ clock_after clock l
clock-stands (line.Begin a v) op clock e = refl
clock-stands (line.End a) op clock e = refl
clock-stands (line.Set a v) op clock e = refl
clock-stands line.Snapshot op clock e = absurd cc
clock-stands (line.Flush c) op clock e = absurd cc
clock-stands (line.Tick n) op clock e = absurd cc

-- ---- a process line

-- it is answered by the process's board before its place, whatever stands behind that
pub shared-found : (script : Script) (h : List OpRec) (more : List Placed) (l : lines.Line)
    (note : LineNote) (state : ThreadState) (seen : ℕ) → is_process_line script l ≡ true
    → length h ≡ seen → note.seen ≡ seen + 1
    → found_reply script (history_of h ++ more) l note state
    ≡ reply_to_line script (process_board script (history_of h) seen) l
shared-found script h more l note state seen shared long is =
    let whole : List Placed = history_of h ++ more in
    let mapped = length-map h placed_as in
    let back : note.seen - 1 ≡ seen = omega (arith, is) in
    ap (λ (t : Bool). reply_to_line script
    (if t then process_board script whole (if t then note.seen - 1 else note.seen)
    else state.board) l) shared
    ∙ ap (λ (n : ℕ). reply_to_line script (process_board script whole n) l) back
    ∙ ap (λ (b : Blackboard Variant). reply_to_line script b l)
    (process_board-front script (history_of h) more seen (omega (arith, mapped, long)))

-- ---- behind a line

and-false : (b : Bool) → (b && false) ≡ false
and-false true = refl
and-false false = refl

module _ (script : Script) (history : List Placed) (l : lines.Line) (note : LineNote)
    (state : ThreadState) where
  -- a process line leaves its thread's state
  pub shared-after : is_process_line script l ≡ true
      → state_after script history l note state ≡ state
  shared-after shared =
      let accepted : Bool = is_accepted (found_reply script history l note state) in
      let new : ThreadState = changed script history l note state in
      ap (λ (t : Bool). if accepted && not t then new else state) shared
      ∙ ap (λ (t : Bool). if t then new else state) (and-false accepted)

  -- another one changes it where it is accepted
  pub own-after : is_process_line script l ≡ false → state_after script history l note state
      ≡ (if is_accepted (found_reply script history l note state)
      then changed script history l note state else state)
  own-after own =
      let accepted : Bool = is_accepted (found_reply script history l note state) in
      let new : ThreadState = changed script history l note state in
      ap (λ (t : Bool). if accepted && not t then new else state) own
      ∙ ap (λ (t : Bool). if t then new else state) (and-true accepted)

-- what a seat appended before a line was appended before a later one
pub line-done : (common : Common) (t : Thread) (done : ℕ) (h : List OpRec) (state : ThreadState)
    → IsThread common t done h state → IsThread common t (done + 1) h state
line-done common t done h state w = record {
  has = w.has;
  own = λ place some.
      let o = w.own place some in
      let less = o.earlier in
      record {
        op = o.op;
        has_op = o.has_op;
        earlier = omega (arith, less);
        below = o.below;
      };
  below = w.below;
  uses = uses-later common (view t.tree) h t.number done w.uses;
}
