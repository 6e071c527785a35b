-- What a channel has taken: before the first line, with a line more, a part less, and a seat that
-- has learned.
use Rattle.std.proofs.Common.{◌≡◌, ℕ, Bool, List, [], ◌∷◌, ◌++◌, sym, ap, ◌∙◌, subst}
use Rattle.std.proofs.Common.{append_assoc, arith, if◌then◌else◌, refl}
use Rattle.std.specs.Prelude.{Option, Some, ◌&&◌, unwrap_or}
use Rattle.std.proofs.lemmas.List.{append-nil, length-map, map-append}
use Rattle.std.proofs.lemmas.Slice.Zip.{all_zipped_more}
use Rattle.cal_board.proofs.StandingLemmas.{AllZip-weaken}
use Rattle.cal_board.specs.Blackboard.{Blackboard}
use Rattle.cal_channel.proofs.LawLemmas.{counts-later, nothing-taken, part-counts, part-left}
use Rattle.cal_channel.proofs.LawLemmas.{started-taken, taken-later}
use Rattle.cal_channel.specs.Channels.{Counts, HasTaken}
use Rattle.cal_channel.specs.Values.{ChannelValue, new_channel, started_at, with_table}
use Rattle.cal_notes.proofs.Taken.{previous-next, taken-next}
use Rattle.cal_notes.specs.Notes.{KeepsRules}
use Rattle.cal_notes.specs.Running.{previous_behind, state_behind, with_line}
use Rattle.cal_once.specs.Seats.{view}
use Rattle.cal_once.specs.Views.{KnowsMore}
use Rattle.cal_once.specs.declared.seat.RowSeat.{RowSeat}
use Rattle.cal_process.specs.Operations.{history_of, placed_as}
use Rattle.cal_process.specs.declared.common.Common.{Common}
use Rattle.cal_replay.specs.Channels.{HasShown, HasShownLines, IsShownAs, joined}
use Rattle.cal_replay.specs.Showing.{IsShown, sight_by, taken_of}
use Rattle.cal_replay.specs.declared.showing.ShownLine.{ShownLine}
use Rattle.cal_run.proofs.FrontLemmas.{process_board-front}
use Rattle.cal_run.specs.History.{process_board}
use Rattle.cal_run.specs.Lines.{operation_of, takes}
use Rattle.cal_run.specs.Numbers.{AreNamed}
use Rattle.cal_run.specs.Runs.{taken_by_thread}
use Rattle.cal_run.specs.Snapshots.{snapshot_of}
use Rattle.cal_run.specs.Steps.{ThreadState, previous_after, taken_in}
use Rattle.cal_run.specs.declared.numbers.Numbers.{Numbers}
use Rattle.cal_script.specs.declared.journal.LineNote.{LineNote}
use Rattle.cal_script.specs.declared.journal.Placed.{Placed}
use Rattle.cal_script.specs.declared.journal.ThreadNote.{ThreadNote}
use Rattle.cal_script.specs.declared.script.Channel.{Channel}
use Rattle.cal_script.specs.declared.script.Line.{Line}
use Rattle.cal_script.specs.declared.script.Script.{Script}
use Rattle.cal_table.specs.Tables.{TableValue, empty_table}
use Rattle.cal_table.specs.declared.shape.TableShape.{TableShape}
use Rattle.cal_thread.specs.declared.thread.Thread.{Thread}
use Rattle.cal_value.specs.declared.attribute.Attribute.{Attribute}
use Rattle.cal_value.specs.declared.record.Rec.{Rec}
use Rattle.cal_value.specs.declared.variant.Variant.{Variant}
use Rattle.cal_words.specs.declared.op.OpRec.{OpRec}
use Rattle.cal_words.specs.declared.sort.NodeSort.{NodeSort}

-- one part more
joined-more : (parts : List (List Rec)) (part : List Rec)
    → joined (parts ++ part ∷ []) ≡ joined parts ++ part
joined-more [] part = append-nil part
joined-more (p ∷ ps) part =
    ap (λ (rest : List Rec). p ++ rest) (joined-more ps part)
    ∙ sym (append_assoc p (joined ps) part)

module _ (common : Common) (attributes : List Attribute) where
  -- before the first line
  pub shown-at-start : (seat : RowSeat NodeSort) (note : ThreadNote) (channel : Channel)
      (has_trace : Bool) (shape : Option TableShape)
      → HasShownLines common attributes seat [] [] note channel
      (started_at (new_channel has_trace shape) (unwrap_or note.start 0)) []
  shown-at-start seat note channel has_trace shape = record {
    flushed = [];
    unflushed = [];
    whole = refl;
    parts = tt;
    taken = started-taken attributes common.script.now common.tree seat
        (new_channel has_trace shape) (unwrap_or note.start 0) [] []
        (nothing-taken attributes common.script.now common.tree seat has_trace shape);
    previous = refl;
  }

  -- a part that was merged
  pub shown-merged : (seat : RowSeat NodeSort) (c : ChannelValue) (part : TableValue)
      (given : List TableValue) (all : List Rec) (last : ℕ) → c.table ≡ Some part
      → HasShown common attributes seat c given all last
      → HasShown common attributes seat (with_table c (empty_table part.shape))
      (given ++ part ∷ []) all last
  shown-merged seat c part given all last is h = record {
    flushed = h.flushed ++ h.unflushed ∷ [];
    unflushed = [];
    whole = append-nil (joined (h.flushed ++ h.unflushed ∷ []))
        ∙ joined-more h.flushed h.unflushed ∙ h.whole;
    parts = all_zipped_more (Counts attributes common.script.now common.tree seat) given h.flushed
        part h.unflushed h.parts (part-counts attributes common.script.now common.tree seat c part
        all h.unflushed is h.taken);
    taken = part-left attributes common.script.now common.tree seat c part.shape all h.unflushed
        h.taken;
    previous = h.previous;
  }

  -- a seat that has learned
  pub shown-later : (was is : RowSeat NodeSort) (c : ChannelValue) (given : List TableValue)
      (all : List Rec) (last : ℕ) → KnowsMore (view was) (view is)
      → HasShown common attributes was c given all last
      → HasShown common attributes is c given all last
  shown-later was is c given all last more h = record {
    flushed = h.flushed;
    unflushed = h.unflushed;
    whole = h.whole;
    parts = AllZip-weaken (Counts attributes common.script.now common.tree was)
        (Counts attributes common.script.now common.tree is)
        (λ table recs. counts-later attributes common.script.now common.tree was is more recs table)
        given h.flushed h.parts;
    taken = taken-later attributes common.script.now common.tree was is more c all h.unflushed
        h.taken;
    previous = h.previous;
  }

  -- a line more
  module _ (numbers : Numbers) (real : Bool) (thread : Thread) (number : ℕ)
      (h ops rest : List OpRec)
      (ls : List Line) (note : ThreadNote) (n : LineNote) (shown : ShownLine) (channel : Channel)
      (was is : ChannelValue) (given : List TableValue)
      (keeps : KeepsRules common.script.now real (history_of h) number ls note)
      (named : AreNamed attributes common.script.now numbers)
      (as_noted : IsShownAs common thread shown (h ++ ops) rest n
      (state_behind common.script.now (history_of h) ls note))
      (s : IsShown common numbers thread shown channel was is)
      (before : HasShownLines common attributes thread.tree h ls note channel was given) where
    abbrev script : Script
    script = common.script.now

    abbrev hist : List Placed
    hist = history_of (h ++ ops ++ rest)

    abbrev state : ThreadState
    state = state_behind script (history_of h) ls note

    abbrev all : List Rec
    all = taken_by_thread script (history_of h) channel (ls, note)

    abbrev last : ℕ
    last = previous_behind script (history_of h) channel ls note

    abbrev more : List Rec
    more = taken_of common numbers thread shown channel
        (sight_by common numbers thread shown (h ++ ops) state was.previous)

    hist-is : hist ≡ history_of h ++ history_of (ops ++ rest)
    hist-is = ap history_of (append_assoc h ops rest) ∙ map-append placed_as h (ops ++ rest)

    -- what the process has behind what was seen, whatever stands behind that
    board-is : process_board script (history_of (h ++ ops)) thread.process.seen
        ≡ process_board script hist thread.process.seen
    board-is =
        let mapped = length-map (h ++ ops) placed_as in
        let long = as_noted.has.taken.long in
        sym (process_board-front script (history_of (h ++ ops)) (history_of rest)
        thread.process.seen (omega (arith, mapped, long)))
        ∙ ap (λ (ps : List Placed). process_board script ps thread.process.seen)
        (sym (map-append placed_as (h ++ ops) rest))

    more-is : more ≡ taken_in script hist shown.line n state channel last
    more-is = ap (λ (b : Blackboard Variant). if shown.accepted && takes script channel shown.line
        then snapshot_of script (record {
          mine = state.board;
          process = b;
          readings = state.readings;
          reading = shown.reading;
          previous = was.previous;
        }) channel (operation_of shown.line) ∷ []
        else []) board-is
        ∙ (λ i. if as_noted.accepted i && takes script channel shown.line
        then snapshot_of script (record {
          mine = state.board;
          process = process_board script hist (as_noted.seen i);
          readings = state.readings;
          reading = as_noted.reading i;
          previous = before.previous i;
        }) channel (operation_of shown.line) ∷ []
        else [])

    all-is : all ++ more
        ≡ taken_by_thread script hist channel (ls ++ shown.line ∷ [], with_line note n)
    all-is = ap (λ (ms : List Rec). all ++ ms) more-is
        ∙ ap (λ (ps : List Placed). all ++ taken_in script ps shown.line n state channel last)
        hist-is
        ∙ sym (taken-next script real (history_of h) (history_of (ops ++ rest)) number ls note
        channel keeps shown.line n)
        ∙ ap (λ (ps : List Placed). taken_by_thread script ps channel
        (ls ++ shown.line ∷ [], with_line note n)) (sym hist-is)

    last-is : is.previous
        ≡ previous_behind script hist channel (ls ++ shown.line ∷ []) (with_line note n)
    last-is = s.previous
        ∙ (λ i. if channel.timer && (as_noted.accepted i && takes script channel shown.line)
        then as_noted.reading i else before.previous i)
        ∙ ap (λ (ps : List Placed). previous_after script ps shown.line n state channel last)
        hist-is
        ∙ sym (previous-next script real (history_of h) (history_of (ops ++ rest)) number ls note
        channel keeps shown.line n)
        ∙ ap (λ (ps : List Placed). previous_behind script ps channel (ls ++ shown.line ∷ [])
        (with_line note n)) (sym hist-is)

    pub shown-next-line : HasShownLines common attributes thread.tree (h ++ ops ++ rest)
        (ls ++ shown.line ∷ []) (with_line note n) channel is given
    shown-next-line = record {
      flushed = before.flushed;
      unflushed = before.unflushed ++ more;
      whole = sym (append_assoc (joined before.flushed) before.unflushed more)
          ∙ ap (λ (xs : List Rec). xs ++ more) before.whole ∙ all-is;
      parts = before.parts;
      taken = subst (λ (xs : List Rec). HasTaken attributes script common.tree thread.tree is xs
          (before.unflushed ++ more)) all-is
          (s.takes attributes (h ++ ops) state named as_noted.has all before.unflushed
          before.taken);
      previous = last-is;
    }
