-- In whatever order events come, each the next of its thread, the history is the first of the
-- journal's.
use Rattle.std.proofs.Common.{◌≡◌, ℕ, suc, zero, Bool, true, false, List, [], ◌∷◌, ◌++◌}
use Rattle.std.proofs.Common.{length}
use Rattle.std.proofs.Common.{ap, subst, sym, refl, ◌∙◌, if◌then◌else◌}
use Rattle.std.specs.Prelude.{Option, Some, None, option_and_then, slice_get, slice_range}
use Rattle.cal_context.specs.Lists.{IsFront}
use Rattle.cal_run.specs.Lawful.{Lawful}
use Rattle.cal_run.specs.Lines.{is_process_line}
use Rattle.cal_script.specs.declared.journal.Journal.{Journal}
use Rattle.cal_script.specs.declared.script.Line as lines
use Rattle.cal_script.specs.declared.script.Line.TheVariants as line
use Rattle.cal_script.specs.declared.script.Script.{Script}
use Rattle.cal_world.proofs.EventLemmas.{AreNodes, nodes-if, nodes-of}
use Rattle.cal_world.proofs.JournalLemmas.{are-placed}
use Rattle.cal_world.proofs.PlaceLemmas.{HasPlace, own-at, placed-at}
use Rattle.cal_world.specs.Events.{end_event, events_of, first_events, is_looking, needs_node}
use Rattle.cal_world.specs.Events.{seen_before}
use Rattle.cal_world.specs.Progress.{AreNext, IsNext, Progress, at_start, progress_after}
use Rattle.cal_world.specs.Progress.{progress_behind, turn_behind}
use Rattle.cal_world.specs.Turns.{turns_by_thread}
use Rattle.cal_world.specs.declared.event.Event as events
use Rattle.cal_world.specs.declared.event.Event.TheVariants as event
use Rattle.cal_world.specs.declared.turn.Turn.{Turn}

-- ---- fronts

pub front-next : {A : Type 0} (xs ys : List A) (y : A) → IsFront xs ys
    → slice_get ys (length xs) ≡ Some y → IsFront (xs ++ y ∷ []) ys
front-next [] [] y front next = absurd (let no : None ≡ Some y = next in cc)
front-next [] (z ∷ ys) y front next = (ys, (let same : Some z ≡ Some y = next in cc))
front-next (x ∷ xs) [] y front next = absurd (let no : [] ≡ x ∷ (xs ++ front.0) = front.1 in cc)
front-next (x ∷ xs) (z ∷ ys) y front next =
    let whole : z ∷ ys ≡ x ∷ (xs ++ front.0) = front.1 in
    let rest : IsFront (xs ++ y ∷ []) ys = front-next xs ys y (front.0, cc) next in
    let tail = rest.1 in
    (rest.0, cc)

-- ---- the places of a line

-- a place among the events of a line is the line's own, and the line is a process line
pub record IsOwn (script : Script) (x : Turn) (t l : ℕ) : Type 0 where
  pub shared : is_process_line script x.line ≡ true
  pub thread : x.thread ≡ t
  pub number : x.number ≡ l

abbrev pub IsOwnPlace : Script → Turn → events.Event → Type 0
IsOwnPlace script x (event.Place t l) = IsOwn script x t l
IsOwnPlace script x _ = Unit {0}

abbrev pub AllOwn : Script → Turn → List events.Event → Type 0
AllOwn script x [] = Unit {0}
AllOwn script x (e ∷ es) = IsOwnPlace script x e × AllOwn script x es

module _ (script : Script) (x : Turn) where
  own-append : (es fs : List events.Event) → AllOwn script x es → AllOwn script x fs
      → AllOwn script x (es ++ fs)
  own-append [] fs a b = b
  own-append (e ∷ es) fs a b = (a.0, own-append es fs a.1 b)

  own-nodes : (t : ℕ) (es : List events.Event) → AreNodes t es → AllOwn script x es
  own-nodes t [] nodes = tt
  own-nodes t (e ∷ es) nodes =
      (subst (IsOwnPlace script x) (sym nodes.0) tt, own-nodes t es nodes.1)

  own-first : (b c : Bool) → is_process_line script x.line ≡ b
      → AllOwn script x (if b then event.Place x.thread x.number ∷ []
      else (if c then event.Look x.thread x.number ∷ [] else []))
  own-first true c e = (record { shared = e; thread = refl; number = refl }, tt)
  own-first false true e = (tt, tt)
  own-first false false e = tt

  own-end : (l : lines.Line) → IsOwnPlace script x (end_event x l)
  own-end (line.Begin a v) = tt
  own-end (line.End a) = tt
  own-end (line.Set a v) = tt
  own-end line.Snapshot = tt
  own-end (line.Flush c) = tt
  own-end (line.Tick n) = tt

  all-own : (journal : Journal) → AllOwn script x (events_of script journal x)
  all-own journal =
      own-append _ (end_event x x.line ∷ [])
      (own-append _ _
      (own-append (first_events script x) _
      (own-first (is_process_line script x.line) (is_looking script x.line x.note) refl)
      (own-nodes x.thread _ (nodes-of script journal x.thread
      (slice_range journal.ops x.before (seen_before script x)))))
      (own-nodes x.thread _ (nodes-if x.thread (needs_node script x.line x.note))))
      (own-end x.line, tt)

  own-of : (k : ℕ) (es : List events.Event) (e : events.Event) → AllOwn script x es
      → slice_get es k ≡ Some e → IsOwnPlace script x e
  own-of k [] e all is = absurd (let no : None ≡ Some e = is in cc)
  own-of zero (f ∷ es) e all is =
      subst (IsOwnPlace script x) (let same : Some f ≡ Some e = is in cc) all.0
  own-of (suc k) (f ∷ es) e all is = own-of k es e all.1 is

-- ---- any order

module _ (script : Script) (journal : Journal) (lawful : Lawful script journal) where
  -- a process line that comes next has its place in the history
  turn-placed : (t n : ℕ) (x : Turn) → turn_behind script journal t n ≡ Some x
      → is_process_line script x.line ≡ true → HasPlace journal.ops x
  turn-placed t n x is shared = by (slice_get (turns_by_thread script journal) t) refl is
    where
      by : (o : Option (List Turn)) → slice_get (turns_by_thread script journal) t ≡ o
          → option_and_then (λ (ts : List Turn). slice_get ts n) o ≡ Some x
          → HasPlace journal.ops x
      by None list there = absurd (let no : None ≡ Some x = there in cc)
      by (Some ts) list there =
          own-at script journal.ops n ts x
          (placed-at script journal.ops 0 t (turns_by_thread script journal) ts
          (are-placed script journal lawful) list) there shared

  history-next : (p : Progress) (e : events.Event) → IsNext script journal p e
      → IsFront p.history journal.ops → IsFront (progress_after p e).history journal.ops
  history-next p (event.Node t) next front = front
  history-next p (event.Look t l) next front = front
  history-next p (event.Flush t l) next front = front
  history-next p (event.Own t l) next front = front
  history-next p (event.Place t l) next front =
      let x : Turn = next.turn in
      let own : IsOwn script x t l = own-of script x _ (events_of script journal x)
      (event.Place t l) (all-own script x journal) next.event in
      let place = turn-placed t _ x next.line own.shared in
      front-next p.history journal.ops (record { thread = t; line = l }) front
      (ap (slice_get journal.ops) next.finds ∙ place.place
      ∙ (λ j. Some (record { thread = own.thread j; line = own.number j })))

  pub history-front : (p : Progress) (es : List events.Event) → AreNext script journal p es
      → IsFront p.history journal.ops → IsFront (progress_behind p es).history journal.ops
  history-front p [] next front = front
  history-front p (e ∷ es) next front =
      history-front (progress_after p e) es next.1 (history-next p e next.0 front)

  pub any-history : (es : List events.Event) → AreNext script journal (at_start script journal) es
      → IsFront (progress_behind (at_start script journal) es).history journal.ops
  any-history es next =
      history-front (at_start script journal) es next (journal.ops, refl)
