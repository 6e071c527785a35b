-- A front of the history serves as the whole, as far as a line has seen: by what a thread knows of
-- the history, each part of a line's meaning is found.
use Rattle.std.proofs.Common.{◌≡◌, ℕ, suc, ◌+◌, ◌-◌, ◌<◌, ◌≤◌, Bool, true, false, ◌&&◌}
use Rattle.std.proofs.Common.{if◌then◌else◌, List, [], ◌∷◌, ◌++◌, length, All, fold, refl, ap, ◌∙◌}
use Rattle.std.proofs.Common.{subst, arith}
use Rattle.std.specs.Prelude.{Option, not}
use Rattle.std.specs.List.{list_any}
use Rattle.std.proofs.lemmas.List.{get_or_push, length-append, take-append-le}
use Rattle.std.proofs.lemmas.List.Sums.{fold_more}
use Rattle.cal_board.specs.Blackboard.{Blackboard, nothing_open}
use Rattle.cal_run.specs.History.{board_placed, placed_operation, process_board}
use Rattle.cal_run.specs.Lawful.{NotedLine, noted_from}
use Rattle.cal_run.specs.Lines.{is_process_line, operation_of, takes}
use Rattle.cal_run.specs.Runs.{state_after_lines, taken_from}
use Rattle.cal_run.specs.Seeing.{HaveSeen}
use Rattle.cal_run.specs.Snapshots.{Sight, snapshot_of}
use Rattle.cal_run.specs.Steps.{ThreadState, changed, found_reply, is_accepted, is_read, looks}
use Rattle.cal_run.specs.Steps.{previous_after, process_seen, reading_of, reply_to_line}
use Rattle.cal_run.specs.Steps.{seen_before, state_after, taken_in}
use Rattle.cal_script.specs.declared.journal.LineNote.{LineNote}
use Rattle.cal_script.specs.declared.journal.Placed.{Placed}
use Rattle.cal_script.specs.declared.journal.Reply.{Reply}
use Rattle.cal_script.specs.declared.script.Channel.{Channel}
use Rattle.cal_script.specs.declared.script.Line.{Line}
use Rattle.cal_script.specs.declared.script.Script.{Script}
use Rattle.cal_value.specs.declared.record.Rec.{Rec}
use Rattle.cal_value.specs.declared.variant.Variant.{Variant}

module _ (script : Script) (a b : List Placed) where
  -- the process's board after a front of the history
  pub process_board-front : (count : ℕ) → count ≤ length a
      → process_board script (a ++ b) count ≡ process_board script a count
  process_board-front count within = ap (fold (λ (c : Blackboard Variant) (p : Placed).
      board_placed script c (placed_operation script p)) nothing_open)
      (take-append-le count a b within)

  module _ (l : Line) (note : LineNote) (inside : note.seen ≤ length a) where
    before-within : seen_before script a l note ≤ length a
    before-within = by (is_process_line script l)
      where
        by : (t : Bool) → (if t then note.seen - 1 else note.seen) ≤ length a
        by true = omega (arith, inside)
        by false = inside

    -- and as a line sees it
    pub process_seen-front : process_seen script (a ++ b) l note ≡ process_seen script a l note
    process_seen-front = process_board-front (seen_before script a l note) before-within

    module _ (state : ThreadState) where
      -- the reply, by the process's board
      abbrev reply_by : Blackboard Variant → Option Reply
      reply_by c = reply_to_line script (if is_process_line script l then c else state.board) l

      pub found_reply-front : found_reply script (a ++ b) l note state
          ≡ found_reply script a l note state
      found_reply-front = ap reply_by process_seen-front

      pub looks-front : looks script (a ++ b) l note state ≡ looks script a l note state
      looks-front = ap (λ c. list_any (λ channel. is_accepted (reply_by c) && takes script channel l)
          script.channels && not (is_process_line script l)) process_seen-front

      pub is_read-front : is_read script (a ++ b) l note state ≡ is_read script a l note state
      is_read-front = ap (λ c. list_any (λ channel. channel.timer
          && (is_accepted (reply_by c) && takes script channel l)) script.channels)
          process_seen-front

      pub state_after-front : state_after script (a ++ b) l note state
          ≡ state_after script a l note state
      state_after-front = ap (λ c. if is_accepted (reply_by c) && not (is_process_line script l)
          then changed script a l note state else state) process_seen-front

      module _ (channel : Channel) (previous : ℕ) where
        -- what a snapshot sees, by the process's board
        abbrev sight_by : Blackboard Variant → Sight
        sight_by c = record {
          mine = state.board;
          process = c;
          readings = state.readings;
          reading = reading_of note;
          previous = previous;
        }

        pub taken_in-front : taken_in script (a ++ b) l note state channel previous
            ≡ taken_in script a l note state channel previous
        taken_in-front = ap (λ c. if is_accepted (reply_by c) && takes script channel l
            then snapshot_of script (sight_by c) channel (operation_of l) ∷ [] else [])
            process_seen-front

        pub previous_after-front : previous_after script (a ++ b) l note state channel previous
            ≡ previous_after script a l note state channel previous
        previous_after-front = ap (λ c. if channel.timer
            && (is_accepted (reply_by c) && takes script channel l)
            then reading_of note else previous) process_seen-front

  -- ---- and of lines one after another

  pub noted_from-front : (thread number before : ℕ) (state : ThreadState)
      (ls : List (Line × LineNote)) → HaveSeen (length a) ls
      → noted_from script (a ++ b) thread number before state ls
      ≡ noted_from script a thread number before state ls
  noted_from-front thread number before state [] seen = refl
  noted_from-front thread number before state (l ∷ ls) seen =
      let noted : NotedLine = record {
        thread = thread;
        number = number;
        line = l.0;
        note = l.1;
        before = before;
        state = state;
      } in
      ap (λ rest. noted ∷ rest)
      (ap (λ s. noted_from script (a ++ b) thread (number + 1) l.1.seen s ls)
      (state_after-front l.0 l.1 (seen 0 l (omega arith)) state)
      ∙ noted_from-front thread (number + 1) l.1.seen (state_after script a l.0 l.1 state) ls
      (λ i d m. seen (suc i) d (omega (arith, m))))

  pub state_after_lines-front : (state : ThreadState) (ls : List (Line × LineNote))
      → HaveSeen (length a) ls
      → state_after_lines script (a ++ b) state ls ≡ state_after_lines script a state ls
  state_after_lines-front state [] seen = refl
  state_after_lines-front state (l ∷ ls) seen =
      ap (λ s. state_after_lines script (a ++ b) s ls)
      (state_after-front l.0 l.1 (seen 0 l (omega arith)) state)
      ∙ state_after_lines-front (state_after script a l.0 l.1 state) ls
      (λ i d m. seen (suc i) d (omega (arith, m)))

  pub taken_from-front : (channel : Channel) (state : ThreadState) (previous : ℕ)
      (ls : List (Line × LineNote)) → HaveSeen (length a) ls
      → taken_from script (a ++ b) channel state previous ls
      ≡ taken_from script a channel state previous ls
  taken_from-front channel state previous [] seen = refl
  taken_from-front channel state previous (l ∷ ls) seen =
      let inside = seen 0 l (omega arith) in
      let one = taken_in-front l.0 l.1 inside state channel previous in
      let next = state_after-front l.0 l.1 inside state in
      let last = previous_after-front l.0 l.1 inside state channel previous in
      let rest = taken_from-front channel (state_after script a l.0 l.1 state)
      (previous_after script a l.0 l.1 state channel previous) ls
      (λ i d m. seen (suc i) d (omega (arith, m))) in
      (λ j. one j ++ taken_from script (a ++ b) channel (next j) (last j) ls)
      ∙ ap (λ rs. taken_in script a l.0 l.1 state channel previous ++ rs) rest

-- the process's board behind one operation more
pub process_board-push : (script : Script) (history : List Placed) (p : Placed)
    → process_board script (history ++ p ∷ []) (length history + 1)
    ≡ board_placed script (process_board script history (length history))
    (placed_operation script p)
process_board-push script history p =
    let f : Blackboard Variant → Placed → Blackboard Variant =
    λ c p. board_placed script c (placed_operation script p) in
    let below : length history < length (history ++ p ∷ []) =
    omega (arith, length-append history (p ∷ [])) in
    fold_more f nothing_open (history ++ p ∷ []) (length history) p below
    ∙ ap (λ q. f (process_board script (history ++ p ∷ []) (length history)) q)
    (get_or_push history p p (length history) refl)
    ∙ ap (λ c. f c p) (process_board-front script history (p ∷ []) (length history) (omega arith))
