-- What the threads of a run take: one snapshot a line at most, and each has entries of the run.
use Rattle.std.proofs.Common.{◌≡◌, ℕ, ◌+◌, ◌-◌, ◌≤◌, Bool, true, false, not, ◌&&◌, List, [], ◌∷◌}
use Rattle.std.proofs.Common.{◌++◌, length, refl, sym, ap, subst, ◌∙◌, arith, Option, None, Some}
use Rattle.std.specs.Prelude.{flat_map, if◌then◌else◌, sum_by, unwrap_or, zip, All}
use Rattle.std.specs.List.{AllByRecursion}
use Rattle.std.proofs.lemmas.Bool.{and_parts}
use Rattle.std.proofs.lemmas.List.{length-append}
use Rattle.std.proofs.lemmas.List.Elements.{All-weaker, recursion_from_All}
use Rattle.std.proofs.lemmas.List.Sums.{sum_by-cons}
use Rattle.cal_board.specs.Blackboard.{Blackboard, reply_to}
use Rattle.cal_board.specs.declared.reply.BoardReply as boards
use Rattle.cal_board.specs.declared.reply.BoardReply.TheVariants as board
use Rattle.cal_run.specs.Lines.{attr_ref, is_process_line, is_shared, is_such, operation_of}
use Rattle.cal_run.specs.Lines.{takes}
use Rattle.cal_run.specs.Runs.{snapshots, taken_by_thread, taken_from}
use Rattle.cal_run.specs.Snapshots.{snapshot_of}
use Rattle.cal_run.specs.Steps.{ThreadState, acted_on, as_reply, at_start, found_reply, is_accepted}
use Rattle.cal_run.specs.Steps.{changed, is_taken_by, previous_after, process_seen, reply_to_line}
use Rattle.cal_run.specs.Steps.{seen_before, sight_after, state_after, taken_in}
use Rattle.cal_run.specs.declared.operation.Operation.{Operation}
use Rattle.cal_script.specs.Valid.{IsPlaced, IsRunnable}
use Rattle.cal_script.specs.declared.journal.Journal.{Journal}
use Rattle.cal_script.specs.declared.journal.LineNote.{LineNote}
use Rattle.cal_script.specs.declared.journal.Placed.{Placed}
use Rattle.cal_script.specs.declared.journal.ThreadNote.{ThreadNote}
use Rattle.cal_script.specs.declared.script.Channel.{Channel}
use Rattle.cal_script.specs.declared.script.Line as lines
use Rattle.cal_script.specs.declared.script.Line.TheVariants as line
use Rattle.cal_script.specs.declared.script.Script.{Script}
use Rattle.cal_traces.proofs.Boards.{all-append, nothing_on}
use Rattle.cal_traces.proofs.Openings.{AreOpen, IsReference, IsValue, line_operates, placed_open}
use Rattle.cal_traces.proofs.Openings.{process_open}
use Rattle.cal_traces.proofs.Shots.{Accepted, IsShot, snapshot_shot}
use Rattle.cal_value.specs.declared.record.Rec.{Rec}
use Rattle.cal_value.specs.declared.variant.Variant.{Variant}
use Rattle.cal_words.specs.declared.op.OpCode.TheVariants as code

-- ---- an accepted line is accepted by the board that it acts on

done_reply : (r : boards.BoardReply) → is_accepted (Some (as_reply r)) ≡ true → r ≡ board.Done
done_reply board.Done h = refl
done_reply (board.Mismatch top) h = absurd cc
done_reply board.NotOpen h = absurd cc
done_reply (board.TreeFull full) h = absurd cc
done_reply board.TooDeep h = absurd cc
done_reply board.SlotsFull h = absurd cc

module _ (script : Script) where
  abbrev IsDone : Blackboard Variant → Option Operation → Type 0
  IsDone b None = Unit {0}
  IsDone b (Some op) = reply_to b op.code (attr_ref script op.attr) ≡ board.Done

  line_done : (b : Blackboard Variant) (l : lines.Line)
      → is_accepted (reply_to_line script b l) ≡ true → IsDone b (operation_of l)
  line_done b (line.Begin a v) h = done_reply (reply_to b code.Begin (attr_ref script a)) h
  line_done b (line.End a) h = done_reply (reply_to b code.End (attr_ref script a)) h
  line_done b (line.Set a v) h = done_reply (reply_to b code.Set (attr_ref script a)) h
  line_done b line.Snapshot h = tt
  line_done b (line.Flush c) h = tt
  line_done b (line.Tick n) h = tt

  module _ (runnable : IsRunnable script) (history : List Placed) where
    abbrev IsRight : lines.Line × LineNote → Type 0
    IsRight l = IsPlaced script.attributes script.channels script.values l.0

    -- what a thread's board has
    abbrev IsGood : ThreadState → Type 0
    IsGood state = AreOpen script state.board

    state_good : (l : lines.Line × LineNote) (state : ThreadState) → IsRight l → IsGood state
        → IsGood (state_after script history l.0 l.1 state)
    state_good l state right good =
        by (is_accepted (found_reply script history l.0 l.1 state)
        && not (is_process_line script l.0))
      where
        by : (b : Bool) → IsGood (if b then changed script history l.0 l.1 state else state)
        by true =
            placed_open script state.board good (operation_of l.0) (line_operates script l.0 right)
        by false = good

    -- What a line takes is a snapshot of the run, and one at most.
    record IsTaken (rs : List Rec) (most : ℕ) : Type 0 where
      shots : AllByRecursion (IsShot script) rs
      few : length rs ≤ most

    line_taken : (channel : Channel) (previous : ℕ) (l : lines.Line × LineNote)
        (state : ThreadState) → IsRight l → IsGood state
        → IsTaken (taken_in script history l.0 l.1 state channel previous) 1
    line_taken channel previous l state right good =
        by (is_taken_by script history l.0 l.1 state channel) refl
      where
        process : AreOpen script (process_seen script history l.0 l.1)
        process = process_open script runnable history (seen_before script history l.0 l.1)

        on_board : (found : Option Operation)
            → IsDone (if is_such (is_shared script) found
            then process_seen script history l.0 l.1 else state.board) found
            → Accepted script (sight_after script history l.0 l.1 state previous) good process found
        on_board None done = tt
        on_board (Some op) done = done

        by : (b : Bool) → is_taken_by script history l.0 l.1 state channel ≡ b
            → IsTaken (if b then snapshot_of script
            (sight_after script history l.0 l.1 state previous) channel (operation_of l.0) ∷ []
            else []) 1
        by true is = record {
          shots = (
            snapshot_shot script (sight_after script history l.0 l.1 state previous) good process
                channel (operation_of l.0) (line_operates script l.0 right)
                (on_board (operation_of l.0)
                (line_done (acted_on script history l.0 l.1 state) l.0
                (and_parts (is_accepted (found_reply script history l.0 l.1 state))
                (takes script channel l.0) is).0)),
            tt,
          );
          few = omega arith;
        }
        by false is = record { shots = tt; few = omega arith }

    lines_taken : (channel : Channel) (ls : List (lines.Line × LineNote)) (state : ThreadState)
        (previous : ℕ) → AllByRecursion IsRight ls → IsGood state
        → IsTaken (taken_from script history channel state previous ls) (length ls)
    lines_taken channel [] state previous right good = record { shots = tt; few = omega arith }
    lines_taken channel (l ∷ ls) state previous right good =
        let first = line_taken channel previous l state right.0 good in
        let next = state_after script history l.0 l.1 state in
        let reading = previous_after script history l.0 l.1 state channel previous in
        let rest = lines_taken channel ls next reading right.1 (state_good l state right.0 good) in
        let one = taken_in script history l.0 l.1 state channel previous in
        let others = taken_from script history channel next reading ls in
        record {
          shots = all-append (IsShot script) one others first.shots rest.shots;
          few = omega (arith, length-append one others, first.few, rest.few);
        }

    noted_right : (ls : List lines.Line) (notes : List LineNote)
        → AllByRecursion (IsPlaced script.attributes script.channels script.values) ls
        → AllByRecursion IsRight (zip ls notes)
    noted_right [] notes right = tt
    noted_right (l ∷ ls) [] right = tt
    noted_right (l ∷ ls) (note ∷ notes) right = (right.0, noted_right ls notes right.1)

    zip_short : {A B : Type 0} (xs : List A) (ys : List B) → length (zip xs ys) ≤ length xs
    zip_short [] ys = omega arith
    zip_short (x ∷ xs) [] = omega arith
    zip_short (x ∷ xs) (y ∷ ys) = omega (arith, zip_short xs ys)

    thread_taken : (channel : Channel) (ls : List lines.Line) (note : ThreadNote)
        → AllByRecursion (IsPlaced script.attributes script.channels script.values) ls
        → IsTaken (taken_by_thread script history channel (ls, note)) (length ls)
    thread_taken channel ls note right =
        let taken = lines_taken channel (zip ls note.lines) at_start (unwrap_or note.start 0)
        (noted_right ls note.lines right)
        (nothing_on (IsReference script) (IsValue script)) in
        record {
          shots = taken.shots;
          few = omega (arith, taken.few, zip_short ls note.lines);
        }

    threads_taken : (channel : Channel) (threads : List (List lines.Line))
        (notes : List ThreadNote)
        → AllByRecursion
        (AllByRecursion (IsPlaced script.attributes script.channels script.values)) threads
        → IsTaken (flat_map (taken_by_thread script history channel) (zip threads notes))
        (sum_by length threads)
    threads_taken channel [] notes right = record { shots = tt; few = omega arith }
    threads_taken channel (ls ∷ threads) [] right = record { shots = tt; few = omega arith }
    threads_taken channel (ls ∷ threads) (note ∷ notes) right =
        let first = thread_taken channel ls note right.0 in
        let rest = threads_taken channel threads notes right.1 in
        let one = taken_by_thread script history channel (ls, note) in
        let others = flat_map (taken_by_thread script history channel) (zip threads notes) in
        record {
          shots = all-append (IsShot script) one others first.shots rest.shots;
          few = omega (
            arith,
            length-append one others,
            sum_by-cons length ls threads,
            first.few,
            rest.few,
          );
        }

-- ---- the snapshots of a channel

-- of which there are few, and each is of the run
pub record AreShots (script : Script) (rs : List Rec) : Type 0 where
  pub shots : AllByRecursion (IsShot script) rs
  pub few : length rs ≤ 1048576

pub snapshots_shots : (script : Script) → IsRunnable script → (journal : Journal)
    (channel : Channel) → AreShots script (snapshots script journal channel)
snapshots_shots script runnable journal channel =
    let taken = threads_taken script runnable journal.ops channel script.threads journal.threads
    (recursion_from_All (AllByRecursion IsPlacedHere) script.threads
    (All-weaker (All IsPlacedHere) (AllByRecursion IsPlacedHere)
    (λ ls all. recursion_from_All IsPlacedHere ls all) script.threads runnable.places)) in
    record { shots = taken.shots; few = omega (arith, taken.few, runnable.few_lines) }
  where
    IsPlacedHere : lines.Line → Type 0
    IsPlacedHere = IsPlaced script.attributes script.channels script.values
