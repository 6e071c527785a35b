-- Each event leaves a world that keeps the journal.
use Rattle.std.proofs.Common.{◌≡◌, ◌≢◌, ℕ, suc, zero, ◌+◌, ◌-◌, ◌<◌, ◌≤◌, Bool, true, false, List}
use Rattle.std.proofs.Common.{[], ◌∷◌, ◌++◌, length, get_or, set, ap, subst, sym, refl, ◌∙◌, arith}
use Rattle.std.proofs.Common.{if◌then◌else◌, Contains, ◌⊎◌, inl, inr}
use Rattle.std.specs.Prelude.{Option, Some, None, slice_get}
use Rattle.std.specs.List.{All, IsDistinct}
use Rattle.std.specs.Ordering.{eq_by_cmp}
use Rattle.std.proofs.lemmas.List.{get_or-set_other, get_or-set_same, length-set, length_push}
use Rattle.std.proofs.lemmas.List.{take_all}
use Rattle.std.proofs.lemmas.Option.{slice_get-get_or, slice_get_within}
use Rattle.cal_context.specs.Lists.{IsFront}
use Rattle.cal_events.proofs.BoardLemmas.{Path}
use Rattle.cal_events.proofs.ChannelLemmas.{HasChannels, books-long, channels-ended}
use Rattle.cal_events.proofs.ChannelLemmas.{channels-handed, channels-other, parts-of}
use Rattle.cal_events.proofs.HeldLemmas.{line-held}
use Rattle.cal_events.proofs.NextLemmas.{IsNextLine, next-of}
use Rattle.cal_events.proofs.NodeLemmas.{HasNodes, Within, nodes-ended, nodes-first, nodes-made}
use Rattle.cal_events.proofs.NodeLemmas.{nodes-within, paths_next, with-apart, with-held}
use Rattle.cal_events.proofs.NodeLemmas.{with-within, world-paths}
use Rattle.cal_events.proofs.PositionLemmas.{end-at, first-at, first_count, line_nodes, node-at}
use Rattle.cal_events.proofs.PositionLemmas.{paths-count}
use Rattle.cal_events.proofs.SightLemmas.{ended-is, ended_as}
use Rattle.cal_events.proofs.ThreadLemmas.{HasNoted, noted-ended, noted-grown, noted-handed}
use Rattle.cal_events.proofs.ThreadLemmas.{noted-node, noted-seen, state_behind}
use Rattle.cal_events.specs.Effects.{books_with, handed_over, line_ended, merged_of, next_path}
use Rattle.cal_events.specs.Effects.{world_after, world_behind, world_by, world_if}
use Rattle.cal_events.specs.Keeping.{HasPaths}
use Rattle.cal_events.specs.Nodes.{node_paths, with_path}
use Rattle.cal_events.specs.Worlds.{Part, ThreadWorld, World, no_thread, thread_in}
use Rattle.cal_run.specs.Lawful.{Lawful}
use Rattle.cal_run.specs.Lines.{is_process_line}
use Rattle.cal_run.specs.Paths.{held_paths}
use Rattle.cal_script.specs.declared.journal.Journal.{Journal}
use Rattle.cal_script.specs.declared.journal.Placed.{Placed}
use Rattle.cal_script.specs.declared.script.Script.{Script}
use Rattle.cal_value.specs.Order.{path_cmp}
use Rattle.cal_world.proofs.FrontLemmas.{history-front}
use Rattle.cal_world.specs.Events.{events_of, first_events, is_looking}
use Rattle.cal_world.specs.Progress.{AreNext, IsNext, Progress, Reached, behind, progress_after}
use Rattle.cal_world.specs.Progress.{progress_behind, reached_by, thread_of, turn_behind}
use Rattle.cal_world.specs.declared.event.Event as events
use Rattle.cal_world.specs.declared.event.Event.TheVariants as event
use Rattle.cal_world.specs.declared.turn.Turn.{Turn}

same-or : (a b : ℕ) → (a ≡ b) ⊎ (a ≢ b)
same-or a b = grind arith

module _ (script : Script) (journal : Journal) (lawful : Lawful script journal) where
  abbrev count : ℕ
  count = length script.threads

  abbrev AreParts : List (List Part) → Type 0
  AreParts books = All (λ book. All (λ (p : Part). p.thread < count) book) books

  -- what stands between any two events
  pub record IsWorld (w : World) : Type 0 where
    pub history : IsFront w.progress.history journal.ops
    pub reached_long : length w.progress.threads ≡ count
    pub threads_long : length w.threads ≡ count
    pub books_long : length w.books ≡ length script.channels
    pub noted : (t : ℕ) → t < count
        → HasNoted script journal w.progress.history t (reached_by w.progress t) (thread_in w t)
    pub channels : (t : ℕ) → t < count
        → HasChannels script journal w.books t (reached_by w.progress t).lines (thread_in w t)
    pub nodes : (t : ℕ) → t < count
        → HasNodes script journal lawful w.paths t (reached_by w.progress t)
    pub books : AreParts w.books
    pub held : HasPaths (held_paths script journal) w.paths
    pub apart : IsDistinct (eq_by_cmp path_cmp) w.paths

  -- ---- one thread moves on

  -- what an event of a thread leaves
  pub record Moves (w : World) (t : ℕ) (r : Reached) (v : ThreadWorld) (history : List Placed)
      (paths : List Path) (books : List (List Part)) : Type 0 where
    pub front : IsFront history journal.ops
    pub longer : length w.progress.history ≤ length history
    pub more : Within w.paths paths
    pub books_long : length books ≡ length script.channels
    pub noted : HasNoted script journal history t r v
    pub channels : HasChannels script journal books t r.lines v
    pub others : (u n : ℕ) (z : ThreadWorld) → t ≢ u → HasChannels script journal w.books u n z
        → HasChannels script journal books u n z
    pub nodes : HasNodes script journal lawful paths t r
    pub parts : AreParts books
    pub held : HasPaths (held_paths script journal) paths
    pub apart : IsDistinct (eq_by_cmp path_cmp) paths

  module _ (w : World) (is : IsWorld w) (t : ℕ) (inside : t < count) (r : Reached)
      (v : ThreadWorld) (history : List Placed) (paths : List Path) (books : List (List Part))
      (moves : Moves w t r v history paths books) where
    abbrev moved : World
    moved = record {
      progress = record { history = history; threads = set w.progress.threads t r };
      paths = paths;
      threads = set w.threads t v;
      books = books;
    }

    reached-same : reached_by moved.progress t ≡ r
    reached-same = get_or-set_same w.progress.threads t r (behind 0)
        (let long = is.reached_long in omega (arith, long, inside))

    thread-same : thread_in moved t ≡ v
    thread-same = get_or-set_same w.threads t v no_thread
        (let long = is.threads_long in omega (arith, long, inside))

    reached-other : (u : ℕ) → u ≢ t → reached_by moved.progress u ≡ reached_by w.progress u
    reached-other u other = get_or-set_other w.progress.threads t u r (behind 0) other

    thread-other : (u : ℕ) → u ≢ t → thread_in moved u ≡ thread_in w u
    thread-other u other = get_or-set_other w.threads t u v no_thread other

    noted-all : (u : ℕ) → u < count → HasNoted script journal history u
        (reached_by moved.progress u) (thread_in moved u)
    noted-all u below = by (same-or u t)
      where
        by : ((u ≡ t) ⊎ (u ≢ t)) → HasNoted script journal history u
            (reached_by moved.progress u) (thread_in moved u)
        by (inl same) = subst (λ k. HasNoted script journal history k
            (reached_by moved.progress k) (thread_in moved k)) (sym same)
            (subst (λ (z : Reached × ThreadWorld). HasNoted script journal history t z.0 z.1)
            (sym (λ j. (reached-same j, thread-same j))) moves.noted)
        by (inr other) =
            subst (λ (z : Reached × ThreadWorld). HasNoted script journal history u z.0 z.1)
            (sym (λ j. (reached-other u other j, thread-other u other j)))
            (noted-grown script journal w.progress.history history u (reached_by w.progress u)
            (thread_in w u) moves.longer (is.noted u below))

    channels-all : (u : ℕ) → u < count → HasChannels script journal books u
        (reached_by moved.progress u).lines (thread_in moved u)
    channels-all u below = by (same-or u t)
      where
        by : ((u ≡ t) ⊎ (u ≢ t)) → HasChannels script journal books u
            (reached_by moved.progress u).lines (thread_in moved u)
        by (inl same) = subst (λ k. HasChannels script journal books k
            (reached_by moved.progress k).lines (thread_in moved k)) (sym same)
            (subst (λ (z : Reached × ThreadWorld). HasChannels script journal books t z.0.lines z.1)
            (sym (λ j. (reached-same j, thread-same j))) moves.channels)
        by (inr other) =
            subst (λ (z : Reached × ThreadWorld). HasChannels script journal books u z.0.lines z.1)
            (sym (λ j. (reached-other u other j, thread-other u other j)))
            (moves.others u (reached_by w.progress u).lines (thread_in w u)
            (λ e. other (sym e)) (is.channels u below))

    nodes-all : (u : ℕ) → u < count
        → HasNodes script journal lawful paths u (reached_by moved.progress u)
    nodes-all u below = by (same-or u t)
      where
        by : ((u ≡ t) ⊎ (u ≢ t))
            → HasNodes script journal lawful paths u (reached_by moved.progress u)
        by (inl same) = subst (λ k. HasNodes script journal lawful paths k
            (reached_by moved.progress k)) (sym same)
            (subst (HasNodes script journal lawful paths t) (sym reached-same) moves.nodes)
        by (inr other) = subst (HasNodes script journal lawful paths u)
            (sym (reached-other u other))
            (nodes-within script journal lawful w.paths paths moves.more u
            (reached_by w.progress u) (is.nodes u below))

    pub world-moved : IsWorld moved
    world-moved = record {
      history = moves.front;
      reached_long = length-set w.progress.threads t r ∙ is.reached_long;
      threads_long = length-set w.threads t v ∙ is.threads_long;
      books_long = moves.books_long;
      noted = noted-all;
      channels = channels-all;
      nodes = nodes-all;
      books = moves.parts;
      held = moves.held;
      apart = moves.apart;
    }

  -- ---- each event

  -- a first event is alone, and tells what kind of line it is of
  place-first : (x : Turn) (k t l : ℕ) (b c : Bool)
      → slice_get (if b then event.Place x.thread x.number ∷ []
      else (if c then event.Look x.thread x.number ∷ [] else [])) k ≡ Some (event.Place t l)
      → (b ≡ true) × (k + 1 ≤ length (if b then event.Place x.thread x.number ∷ []
      else (if c then event.Look x.thread x.number ∷ [] else [])))
  place-first x k t l true c is = (
    refl,
    (let less = slice_get_within (event.Place x.thread x.number ∷ []) k
        (event.Place t l) is in omega (arith, less)),
  )
  place-first x zero t l false true is =
      absurd (let no : Some (event.Look x.thread x.number) ≡ Some (event.Place t l) = is in cc)
  place-first x (suc k) t l false true is =
      absurd (let no : None ≡ Some (event.Place t l) = is in cc)
  place-first x k t l false false is =
      absurd (let no : None ≡ Some (event.Place t l) = is in cc)

  module _ (w : World) (is : IsWorld w) where
    -- the thread of an event, its line, and where the event stands there
    pub record AtEvent (t : ℕ) (x : Turn) (e : events.Event) : Type 0 where
      pub inside : t < count
      pub there : turn_behind script journal t (reached_by w.progress t).lines ≡ Some x
      pub line : IsNextLine script journal lawful t (reached_by w.progress t).lines x
      pub event : slice_get (events_of script journal x) (reached_by w.progress t).events ≡ Some e
      pub front : IsFront (progress_after w.progress e).history journal.ops

    at-event : (e : events.Event) (next : IsNext script journal w.progress e)
        → AtEvent (thread_of e) next.turn e
    at-event e next = record {
      inside = (let less = next.within in let long = is.reached_long in omega (arith, less, long));
      there = next.line;
      line = next-of script journal lawful (thread_of e)
          (reached_by w.progress (thread_of e)).lines next.turn next.line;
      event = next.event;
      front = history-front script journal lawful w.progress (e ∷ []) (next, tt) is.history;
    }

    module _ (t : ℕ) (x : Turn) where
      abbrev n : ℕ
      n = (reached_by w.progress t).lines

      abbrev k : ℕ
      k = (reached_by w.progress t).events

      node-moves : AtEvent t x (event.Node t)
          → Moves w t (record { lines = n; events = k + 1 }) (thread_in w t) w.progress.history
          (with_path w.paths (next_path script journal w x t)) w.books
      node-moves at =
          let noted = is.noted t at.inside in
          let place = node-at script journal x k (event.Node t) at.event refl in
          let seen = noted.moved x at.there place.0 in
          let less = noted.within in
          let same : node_paths script journal w.progress.history x (thread_in w t).state
          ≡ paths_next script journal lawful t n x =
          ap (node_paths script journal w.progress.history x) noted.state
          ∙ world-paths script journal lawful w.progress.history is.history x
          (state_behind script journal t n) at.line.rule (omega (arith, seen, less)) in
          let next : next_path script journal w x t
          ≡ slice_get (paths_next script journal lawful t n x) (k - first_count script journal x) =
          ap (λ (ps : List Path). slice_get ps (k - first_count script journal x)) same in
          record {
            front = is.history;
            longer = omega arith;
            more = with-within w.paths (next_path script journal w x t);
            books_long = is.books_long;
            noted = noted-node script journal w.progress.history t n k (thread_in w t) x at.there
                place.0 noted;
            channels = is.channels t at.inside;
            others = λ u m z other has. has;
            nodes = nodes-made script journal lawful w.paths t n k x
                (next_path script journal w x t) at.there place.0 next (is.nodes t at.inside);
            parts = is.books;
            held = with-held (held_paths script journal) w.paths (next_path script journal w x t)
                is.held (λ q found. let i = k - first_count script journal x in
                let ps : List Path = paths_next script journal lawful t n x in
                let found_there : slice_get ps i ≡ Some q = sym next ∙ found in
                let below : i < length ps = slice_get_within ps i q found_there in
                let this : get_or ps i q ≡ q = (let e : Some (get_or ps i q) ≡ Some q =
                sym (slice_get-get_or ps i q below) ∙ found_there in cc) in
                subst (Contains (held_paths script journal)) this
                (line-held script journal lawful t n x at.inside at.line i q below));
            apart = with-apart w.paths (next_path script journal w x t) is.apart;
          }

      -- a first event, behind which the thread has seen so much
      seen-moves : (e : events.Event) (history : List Placed) → AtEvent t x e
          → IsFront history journal.ops → length history ≡ x.note.seen
          → length w.progress.history ≤ length history → k + 1 ≤ first_count script journal x
          → Moves w t (record { lines = n; events = k + 1 })
          (record (thread_in w t) { seen = length history }) history w.paths w.books
      seen-moves e history at front seen longer early = record {
        front = front;
        longer = longer;
        more = λ p there. there;
        books_long = is.books_long;
        noted = noted-seen script journal w.progress.history history t n k (length history)
            (thread_in w t) x at.there seen (omega arith) (is.noted t at.inside);
        channels = (let has = is.channels t at.inside in
            record { long = has.long; each = has.each });
        others = λ u m z other has. has;
        nodes = nodes-first script journal lawful w.paths t n k x at.there early
            (is.nodes t at.inside);
        parts = is.books;
        held = is.held;
        apart = is.apart;
      }

      place-moves : (l : ℕ) → AtEvent t x (event.Place t l)
          → length w.progress.history ≡ x.note.seen - 1
          → Moves w t (record { lines = n; events = k + 1 })
          (record (thread_in w t) {
            seen = length (w.progress.history
                ++ record { thread = t; line = l } ∷ []);
          })
          (w.progress.history ++ record { thread = t; line = l } ∷ []) w.paths w.books
      place-moves l at finds =
          let first = place-first x k t l (is_process_line script x.line)
          (is_looking script x.line x.note)
          (first-at script journal x k (event.Place t l) at.event refl) in
          let some = (at.line.rule.own first.0).some in
          let long = length_push w.progress.history (record { thread = t; line = l }) in
          seen-moves (event.Place t l) (w.progress.history ++ record { thread = t; line = l } ∷ [])
          at at.front (omega (arith, some, long, finds)) (omega (arith, long)) first.1

      look-moves : (l : ℕ) → AtEvent t x (event.Look t l)
          → length w.progress.history ≡ x.note.seen
          → Moves w t (record { lines = n; events = k + 1 })
          (record (thread_in w t) { seen = length w.progress.history }) w.progress.history
          w.paths w.books
      look-moves l at finds =
          let early = slice_get_within (first_events script x) k (event.Look t l)
          (first-at script journal x k (event.Look t l) at.event refl) in
          seen-moves (event.Look t l) w.progress.history at is.history finds (omega arith)
          (omega (arith, early))

      -- ---- the end of a line

      module _ (e : events.Event) (at : AtEvent t x e) (late : first_count script journal x ≤ k)
          (all : k - first_count script journal x ≡ length (line_nodes script journal x)) where
        abbrev ended : ThreadWorld
        ended = line_ended script w.progress.history x (thread_in w t)

        seen-so : (thread_in w t).seen ≡ x.note.seen
        seen-so = (is.noted t at.inside).moved x at.there late

        ended-so : ended ≡ ended_as script journal.ops x x.note (state_behind script journal t n)
            (thread_in w t)
        ended-so = ended-is script journal lawful w.progress.history is.history x
            (state_behind script journal t n) at.line.rule (thread_in w t) seen-so
            (is.noted t at.inside).state
            (let less = (is.noted t at.inside).within in let seen = seen-so in
            omega (arith, less, seen))

        ended-noted : HasNoted script journal w.progress.history t (behind (n + 1)) ended
        ended-noted = subst (HasNoted script journal w.progress.history t (behind (n + 1)))
            (sym ended-so)
            (noted-ended script journal lawful w.progress.history t n k (thread_in w t) x at.line
            seen-so (is.noted t at.inside) (λ m y there. next-of script journal lawful t m y there))

        ended-channels : HasChannels script journal w.books t (n + 1) ended
        ended-channels = subst (HasChannels script journal w.books t (n + 1)) (sym ended-so)
            (channels-ended script journal lawful t n x at.line w.books (thread_in w t)
            (is.channels t at.inside))

        ended-nodes : HasNodes script journal lawful w.paths t (behind (n + 1))
        ended-nodes =
            let few = paths-count script journal x (state_behind script journal t n) in
            let has = is.nodes t at.inside in
            nodes-ended script journal lawful w.paths t n x at.line
            (subst (HasPaths w.paths)
            (take_all (k - first_count script journal x) (paths_next script journal lawful t n x)
            (omega (arith, few, all)))
            (has.made x at.there)) k has

        end-moves : (o : Option ℕ) → Moves w t (behind (n + 1)) (handed_over o ended)
            w.progress.history w.paths (books_with o t ended w.books)
        end-moves o = record {
          front = is.history;
          longer = omega arith;
          more = λ p there. there;
          books_long = books-long script journal w.books is.books_long t ended o ∙ is.books_long;
          noted = noted-handed script journal w.progress.history t (behind (n + 1)) ended o
              ended-noted;
          channels = channels-handed script journal w.books is.books_long t ended o (n + 1)
              ended-channels;
          others = λ u m z other has.
              channels-other script journal w.books is.books_long t ended o u m z other has;
          nodes = ended-nodes;
          parts = parts-of script journal w.books is.books_long t ended count o at.inside is.books;
          held = is.held;
          apart = is.apart;
        }

    by-event : (e : events.Event) (next : IsNext script journal w.progress e)
        → IsWorld (world_by script journal w next.turn e)
    by-event (event.Node t) next =
        let at = at-event (event.Node t) next in
        world-moved w is t at.inside _ _ _ _ _ (node-moves t next.turn at)
    by-event (event.Place t l) next =
        let at = at-event (event.Place t l) next in
        world-moved w is t at.inside _ _ _ _ _ (place-moves t next.turn l at next.finds)
    by-event (event.Look t l) next =
        let at = at-event (event.Look t l) next in
        world-moved w is t at.inside _ _ _ _ _ (look-moves t next.turn l at next.finds)
    by-event (event.Flush t l) next =
        let at = at-event (event.Flush t l) next in
        let place = end-at script journal next.turn (reached_by w.progress t).events
        (event.Flush t l) next.event refl in
        world-moved w is t at.inside _ _ _ _ _ (end-moves t next.turn (event.Flush t l) at place.0
        place.1 (merged_of next.turn.line next.turn.note.reply))
    by-event (event.Own t l) next =
        let at = at-event (event.Own t l) next in
        let place = end-at script journal next.turn (reached_by w.progress t).events
        (event.Own t l) next.event refl in
        world-moved w is t at.inside _ _ _ _ _
        (end-moves t next.turn (event.Own t l) at place.0 place.1 None)

    pub world-next : (e : events.Event) → IsNext script journal w.progress e
        → IsWorld (world_after script journal w e)
    world-next e next =
        subst (λ (o : Option Turn). IsWorld (world_if script journal w e o)) (sym next.line)
        (by-event e next)

  -- ---- events one after another

  -- the world comes as far as its progress
  pub progress-after : (w : World) (e : events.Event) → IsNext script journal w.progress e
      → (world_after script journal w e).progress ≡ progress_after w.progress e
  progress-after w e next =
      ap (λ (o : Option Turn). (world_if script journal w e o).progress) next.line

  pub progress-behind : (w : World) (es : List events.Event) → AreNext script journal w.progress es
      → (world_behind script journal w es).progress ≡ progress_behind w.progress es
  progress-behind w [] next = refl
  progress-behind w (e ∷ es) next =
      let same = progress-after w e next.0 in
      progress-behind (world_after script journal w e) es
      (subst (λ (p : Progress). AreNext script journal p es) (sym same) next.1)
      ∙ ap (λ (p : Progress). progress_behind p es) same

  pub world-all : (w : World) → IsWorld w → (es : List events.Event)
      → AreNext script journal w.progress es → IsWorld (world_behind script journal w es)
  world-all w is [] next = is
  world-all w is (e ∷ es) next =
      world-all (world_after script journal w e) (world-next w is e next.0) es
      (subst (λ (p : Progress). AreNext script journal p es)
      (sym (progress-after w e next.0)) next.1)
