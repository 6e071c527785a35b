-- What a thread has seen and noted between two events.
use Rattle.std.proofs.Common.{◌≡◌, ℕ, ◌+◌, ◌≤◌, Bool, true, false, List, [], ◌∷◌, ◌++◌, length, map}
use Rattle.std.proofs.Common.{take, ap, subst, sym, refl, ◌∙◌, arith, if◌then◌else◌}
use Rattle.std.specs.Prelude.{Option, Some, None}
use Rattle.std.proofs.lemmas.List.{map-append}
use Rattle.cal_events.proofs.NextLemmas.{IsNextLine}
use Rattle.cal_events.proofs.SightLemmas.{ended_as}
use Rattle.cal_events.proofs.WalkLemmas.{state-push}
use Rattle.cal_events.specs.Effects.{handed_over}
use Rattle.cal_events.specs.Keeping.{note_of, noted, seen_from}
use Rattle.cal_events.specs.Worlds.{ThreadWorld}
use Rattle.cal_run.specs.Lawful.{Lawful}
use Rattle.cal_run.specs.Lines.{is_process_line}
use Rattle.cal_run.specs.Runs.{state_after_lines}
use Rattle.cal_run.specs.Steps.{ThreadState, at_start}
use Rattle.cal_script.specs.declared.journal.Journal.{Journal}
use Rattle.cal_script.specs.declared.journal.LineNote.{LineNote}
use Rattle.cal_script.specs.declared.journal.Placed.{Placed}
use Rattle.cal_script.specs.declared.script.Line.{Line}
use Rattle.cal_script.specs.declared.script.Script.{Script}
use Rattle.cal_world.specs.Events.{first_events, is_looking}
use Rattle.cal_world.specs.Progress.{Reached, behind, turn_behind}
use Rattle.cal_world.specs.declared.event.Event.TheVariants as event
use Rattle.cal_world.specs.declared.turn.Turn.{Turn}

pub seen-push : (before : ℕ) (ls : List (Line × LineNote)) (l : Line × LineNote)
    → seen_from before (ls ++ l ∷ []) ≡ l.1.seen
seen-push before [] l = refl
seen-push before (k ∷ ls) l = seen-push k.1.seen ls l

-- one line comes next
pub one-turn : (o : Option Turn) (x y : Turn) → o ≡ Some x → o ≡ Some y → x ≡ y
one-turn o x y a b = (let same : Some x ≡ Some y = sym a ∙ b in cc)

module _ (script : Script) (journal : Journal) where
  -- the first lines of a thread, and its state behind them
  abbrev pub done : (t n : ℕ) → List (Line × LineNote)
  done t n = take n (noted script journal t)

  abbrev pub state_behind : (t n : ℕ) → ThreadState
  state_behind t n = state_after_lines script journal.ops at_start (done t n)

  -- A thread has noted the lines done. Between two lines it has seen what the last one had, and
  -- behind a line's first event what that line has.
  pub record HasNoted (h : List Placed) (t : ℕ) (r : Reached) (w : ThreadWorld) : Type 0 where
    pub notes : w.note
        ≡ record {
          start = (note_of script journal t).start;
          lines = map (λ l. l.1) (done t r.lines);
        }
    pub state : w.state ≡ state_behind t r.lines
    pub within : w.seen ≤ length h
    pub rested : r.events ≡ 0 → w.seen ≡ seen_from 0 (done t r.lines)
    pub moved : (x : Turn) → turn_behind script journal t r.lines ≡ Some x
        → length (first_events script x) ≤ r.events → w.seen ≡ x.note.seen

  -- the history grows
  pub noted-grown : (h g : List Placed) (t : ℕ) (r : Reached) (w : ThreadWorld)
      → length h ≤ length g → HasNoted h t r w → HasNoted g t r w
  noted-grown h g t r w more has = record {
    notes = has.notes;
    state = has.state;
    within = (let less = has.within in omega (arith, less, more));
    rested = has.rested;
    moved = has.moved;
  }

  -- a node is made
  pub noted-node : (h : List Placed) (t n k : ℕ) (w : ThreadWorld) (x : Turn)
      → turn_behind script journal t n ≡ Some x → length (first_events script x) ≤ k
      → HasNoted h t (record { lines = n; events = k }) w
      → HasNoted h t (record { lines = n; events = k + 1 }) w
  noted-node h t n k w x is late has = record {
    notes = has.notes;
    state = has.state;
    within = has.within;
    rested = λ none. absurd (omega (arith, none));
    moved = λ y there more. has.moved y there
        (subst (λ (z : Turn). length (first_events script z) ≤ k)
        (one-turn (turn_behind script journal t n) x y is there) late);
  }

  -- the history is seen
  pub noted-seen : (h g : List Placed) (t n k s : ℕ) (w : ThreadWorld) (x : Turn)
      → turn_behind script journal t n ≡ Some x → s ≡ x.note.seen → s ≤ length g
      → HasNoted h t (record { lines = n; events = k }) w
      → HasNoted g t (record { lines = n; events = k + 1 }) (record w { seen = s })
  noted-seen h g t n k s w x is seen inside has = record {
    notes = has.notes;
    state = has.state;
    within = inside;
    rested = λ none. absurd (omega (arith, none));
    moved = λ y there more. seen
        ∙ ap (λ (z : Turn). z.note.seen) (one-turn (turn_behind script journal t n) x y is there);
  }

  -- what is handed over changes nothing of it
  pub noted-handed : (h : List Placed) (t : ℕ) (r : Reached) (w : ThreadWorld) (o : Option ℕ)
      → HasNoted h t r w → HasNoted h t r (handed_over o w)
  noted-handed h t r w None has = has
  noted-handed h t r w (Some c) has = record {
    notes = has.notes;
    state = has.state;
    within = has.within;
    rested = has.rested;
    moved = has.moved;
  }

  module _ (lawful : Lawful script journal) where
    -- a line without a first event sees nothing new
    pub still-seen : (t n : ℕ) (y : Turn) → IsNextLine script journal lawful t n y
        → length (first_events script y) ≤ 0 → y.note.seen ≡ seen_from 0 (done t n)
    still-seen t n y line none =
        by (is_process_line script y.line) (is_looking script y.line y.note) refl refl none
      where
        by : (b c : Bool) → is_process_line script y.line ≡ b → is_looking script y.line y.note ≡ c
            → length (if b then event.Place y.thread y.number ∷ []
            else (if c then event.Look y.thread y.number ∷ [] else [])) ≤ 0
            → y.note.seen ≡ seen_from 0 (done t n)
        by true c eb ec less = absurd (omega (arith, less))
        by false true eb ec less = absurd (omega (arith, less))
        by false false eb ec less =
            line.rule.fixed eb (sym line.rule.looking ∙ ec) ∙ line.before_is

    -- a line ends
    pub noted-ended : (h : List Placed) (t n k : ℕ) (w : ThreadWorld) (x : Turn)
        → IsNextLine script journal lawful t n x → w.seen ≡ x.note.seen
        → HasNoted h t (record { lines = n; events = k }) w
        → ((m : ℕ) (y : Turn) → turn_behind script journal t m ≡ Some y
        → IsNextLine script journal lawful t m y)
        → HasNoted h t (behind (n + 1))
        (ended_as script journal.ops x x.note (state_behind t n) w)
    noted-ended h t n k w x line seen has others =
        let next : done t (n + 1) ≡ done t n ++ (x.line, x.note) ∷ [] = line.next in
        let last : seen_from 0 (done t (n + 1)) ≡ x.note.seen =
        ap (seen_from 0) next ∙ seen-push 0 (done t n) (x.line, x.note) in
        record {
          notes = (λ j. record {
            start = (has.notes j).start;
            lines = (has.notes j).lines ++ x.note ∷ [];
          })
              ∙ ap (λ (ns : List LineNote). record {
                start = (note_of script journal t).start;
                lines = ns;
              })
              (sym (ap (map (λ (l : Line × LineNote). l.1)) next
              ∙ map-append (λ (l : Line × LineNote). l.1) (done t n) ((x.line, x.note) ∷ [])));
          state = sym (ap (state_after_lines script journal.ops at_start) next
              ∙ state-push script journal.ops at_start (done t n) (x.line, x.note));
          within = (let less = has.within in omega (arith, less, seen));
          rested = λ none. sym last;
          moved = λ y there less. sym (still-seen t (n + 1) y (others (n + 1) y there) less ∙ last);
        }
