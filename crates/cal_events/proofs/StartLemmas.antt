-- The world before the first event, and what worlds between events keep of the journal.
use Rattle.std.proofs.Common.{◌≡◌, ℕ, suc, ◌+◌, ◌-◌, ◌<◌, List, [], ◌∷◌, length, map, take, get_or}
use Rattle.std.proofs.Common.{ap, subst, sym, refl, ◌∙◌, arith, Contains}
use Rattle.std.specs.Prelude.{None, zip}
use Rattle.std.specs.List.{All, enumerate_from}
use Rattle.std.specs.Ordering.{eq_by_cmp}
use Rattle.std.proofs.lemmas.List.{get_or-map, length-map}
use Rattle.std.proofs.lemmas.List.Elements.{All-map, All-nil}
use Rattle.std.proofs.lemmas.Map.Keys.{IsDistinct-from_apart}
use Rattle.std.proofs.lemmas.Option.{slice_get_within}
use Rattle.cal_events.proofs.BoardLemmas.{HasSlot, board-paths}
use Rattle.cal_events.proofs.ChannelLemmas.{HasChannels, HasTaken}
use Rattle.cal_events.proofs.NextLemmas.{next-of}
use Rattle.cal_events.proofs.NodeLemmas.{HasNodes, paths_next}
use Rattle.cal_events.proofs.PositionLemmas.{first_count}
use Rattle.cal_events.proofs.ThreadLemmas.{HasNoted, done, still-seen}
use Rattle.cal_events.proofs.WorldLemmas.{IsWorld, world-all}
use Rattle.cal_events.specs.Effects.{world_behind}
use Rattle.cal_events.specs.Keeping.{HasPaths, KeepsJournal, KeepsLines, note_of, seen_from}
use Rattle.cal_events.specs.Worlds.{Part, ThreadWorld, World, given_by, no_thread, nothing_held}
use Rattle.cal_events.specs.Worlds.{thread_at_start, thread_in, world_at_start}
use Rattle.cal_run.specs.History.{process_board}
use Rattle.cal_run.specs.Lawful.{Lawful}
use Rattle.cal_run.specs.Paths.{held_paths}
use Rattle.cal_run.specs.Steps.{ThreadState}
use Rattle.cal_script.specs.declared.journal.Journal.{Journal}
use Rattle.cal_script.specs.declared.journal.ThreadNote.{ThreadNote}
use Rattle.cal_script.specs.declared.script.Channel.{Channel}
use Rattle.cal_script.specs.declared.script.Line.{Line}
use Rattle.cal_script.specs.declared.script.Script.{Script}
use Rattle.cal_value.specs.Order.{path_cmp}
use Rattle.cal_world.proofs.TurnLemmas.{notes-long}
use Rattle.cal_world.specs.Progress.{AreNext, Reached, at_start, behind, reached_by}
use Rattle.cal_world.specs.Turns.{turns_by_thread, turns_of}
use Rattle.cal_world.specs.declared.event.Event as events
use Rattle.cal_world.specs.declared.turn.Turn.{Turn}

turns-long : (k : ℕ) (ls : List (List Line)) (ns : List ThreadNote) → length ns ≡ length ls
    → length (map turns_of (enumerate_from k (zip ls ns))) ≡ length ls
turns-long k [] ns long = refl
turns-long k (l ∷ ls) [] long = absurd (omega (arith, long))
turns-long k (l ∷ ls) (n ∷ ns) long = ap suc (turns-long (k + 1) ls ns (omega (arith, long)))

module _ (script : Script) (journal : Journal) (lawful : Lawful script journal) where
  abbrev start : World
  start = world_at_start script journal

  -- as many lists of lines as threads
  pub lists-long : length (turns_by_thread script journal) ≡ length script.threads
  lists-long = turns-long 0 script.threads journal.threads (notes-long script journal lawful.shape)

  reached-start : (t : ℕ) → t < length script.threads → reached_by start.progress t ≡ behind 0
  reached-start t inside =
      get_or-map (λ (ts : List Turn). behind 0) (turns_by_thread script journal) t [] (behind 0)
      (let long = lists-long in omega (arith, long, inside))

  thread-start : (t : ℕ) → t < length script.threads
      → thread_in start t ≡ thread_at_start script (note_of script journal t)
  thread-start t inside =
      get_or-map (thread_at_start script) journal.threads t (record { start = None; lines = [] })
      no_thread (let many = notes-long script journal lawful.shape in omega (arith, many, inside))

  noted-start : (t : ℕ)
      → HasNoted script journal [] t (behind 0) (thread_at_start script (note_of script journal t))
  noted-start t = record {
    notes = refl;
    state = refl;
    within = omega arith;
    rested = λ none. refl;
    moved = λ x there less.
        sym (still-seen script journal lawful t 0 x (next-of script journal lawful t 0 x there)
        less);
  }

  channels-start : (t : ℕ) → HasChannels script journal start.books t 0
      (thread_at_start script (note_of script journal t))
  channels-start t = record {
    long = length-map script.channels
        (λ (c : Channel). nothing_held (note_of script journal t).start);
    each = λ c channel is.
        let below = slice_get_within script.channels c channel is in
        let none : get_or start.books c [] ≡ [] =
        get_or-map (λ (b : Channel). []) script.channels c channel [] below in
        subst (HasTaken script journal channel t [] (given_by t (get_or start.books c [])))
        (sym (get_or-map (λ (b : Channel). nothing_held (note_of script journal t).start)
        script.channels c channel (nothing_held None) below))
        (subst (λ (book : List Part). HasTaken script journal channel t [] (given_by t book)
        (nothing_held (note_of script journal t).start)) (sym none)
        (record { previous = refl; trace = refl; booked = refl }));
  }

  nodes-start : (t : ℕ) → HasNodes script journal lawful [] t (behind 0)
  nodes-start t = record {
    lines = record { board = All-nil (HasSlot script []); held = All-nil (Contains []) };
    walked = record { board = All-nil (HasSlot script []); held = All-nil (Contains []) };
    made = λ x there. subst (λ (m : ℕ). HasPaths []
        (take m (paths_next script journal lawful t 0 x)))
        (let none : 0 ≡ 0 - first_count script journal x = omega arith in none)
        (All-nil (Contains []));
  }

  world-start : IsWorld script journal lawful start
  world-start = record {
    history = (journal.ops, refl);
    reached_long = length-map (turns_by_thread script journal) (λ (ts : List Turn). behind 0)
        ∙ lists-long;
    threads_long = length-map journal.threads (thread_at_start script)
        ∙ notes-long script journal lawful.shape;
    books_long = length-map script.channels (λ (c : Channel). []);
    noted = λ t inside.
        subst (λ (z : Reached × ThreadWorld). HasNoted script journal [] t z.0 z.1)
        (sym (λ j. (reached-start t inside j, thread-start t inside j))) (noted-start t);
    channels = λ t inside.
        subst (λ (z : Reached × ThreadWorld).
        HasChannels script journal start.books t z.0.lines z.1)
        (sym (λ j. (reached-start t inside j, thread-start t inside j))) (channels-start t);
    nodes = λ t inside.
        subst (HasNodes script journal lawful [] t) (sym (reached-start t inside)) (nodes-start t);
    books = All-map (λ book. All (λ (p : Part). p.thread < length script.threads) book)
        (λ (c : Channel). []) script.channels
        (λ k d below. All-nil (λ (p : Part). p.thread < length script.threads));
    held = All-nil (Contains (held_paths script journal));
    apart = IsDistinct-from_apart (eq_by_cmp path_cmp) []
        (λ i j d less below. absurd (omega (arith, below)));
  }

  pub world-events : (es : List events.Event) → AreNext script journal (at_start script journal) es
      → IsWorld script journal lawful (world_behind script journal start es)
  world-events es next = world-all script journal lawful start world-start es next

  -- ---- what is kept

  keeps-lines : (w : World) → IsWorld script journal lawful w → (t : ℕ) → t < length script.threads
      → KeepsLines script journal w t (done script journal t (reached_by w.progress t).lines)
  keeps-lines w is t inside =
      let has = is.noted t inside in
      let taken = is.channels t inside in
      let made = is.nodes t inside in
      record {
        notes = has.notes;
        state = has.state;
        traces = λ c channel at. (taken.each c channel at).trace;
        booked = λ c channel at. (taken.each c channel at).booked;
        mine = board-paths script w.paths (thread_in w t).state.board
            (subst (λ (s : ThreadState). All (HasSlot script w.paths) s.board.references)
            (sym has.state) made.lines.board);
        process = board-paths script w.paths
            (process_board script journal.ops (seen_from 0 (done script journal t
            (reached_by w.progress t).lines))) made.walked.board;
      }

  pub keeps-journal : (w : World) → IsWorld script journal lawful w → KeepsJournal script journal w
  keeps-journal w is = record {
    history = is.history;
    threads = keeps-lines w is;
    books = is.books;
    apart = is.apart;
  }

  pub any-world : (es : List events.Event) → AreNext script journal (at_start script journal) es
      → KeepsJournal script journal (world_behind script journal start es)
  any-world es next = keeps-journal (world_behind script journal start es) (world-events es next)
