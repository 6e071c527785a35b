-- What a lawful journal says of the line that comes next of a thread.
use Rattle.std.proofs.Common.{◌≡◌, ℕ, suc, zero, ◌+◌, ◌<◌, List, [], ◌∷◌, ◌++◌, length, map, take}
use Rattle.std.proofs.Common.{get_or, ap, subst, sym, refl, ◌∙◌, arith}
use Rattle.std.specs.Prelude.{Option, Some, None, flat_map, option_and_then, slice_get, unwrap_or}
use Rattle.std.specs.Prelude.{zip}
use Rattle.std.specs.List.{All, enumerate_from}
use Rattle.cal_events.specs.Keeping.{note_of, noted, seen_from}
use Rattle.cal_run.proofs.LawLemmas.{all-back, all-front, all-rest}
use Rattle.cal_run.specs.Lawful.{IsAnswer, IsAnswered, Lawful, NotedLine, SeenFixed, SeenOwn}
use Rattle.cal_run.specs.Lawful.{SeenRises, SeenWithin, noted_from, noted_lines, noted_of}
use Rattle.cal_run.specs.Runs.{state_after_lines}
use Rattle.cal_run.specs.Steps.{ThreadState, at_start, found_reply, is_accepted, looks, state_after}
use Rattle.cal_script.specs.declared.journal.Journal.{Journal}
use Rattle.cal_script.specs.declared.journal.LineNote.{LineNote}
use Rattle.cal_script.specs.declared.journal.Placed.{Placed}
use Rattle.cal_script.specs.declared.journal.Reply as replies
use Rattle.cal_script.specs.declared.journal.ThreadNote.{ThreadNote}
use Rattle.cal_script.specs.declared.script.Line.{Line}
use Rattle.cal_script.specs.declared.script.Script.{Script}
use Rattle.cal_world.proofs.ReplyLemmas.{accepted-all, looking-all}
use Rattle.cal_world.specs.Events.{is_looking}
use Rattle.cal_world.specs.Progress.{turn_behind}
use Rattle.cal_world.specs.Turns.{turns_by_thread, turns_from, turns_of}
use Rattle.cal_world.specs.declared.turn.Turn.{Turn}

-- a line as its journal tells of it, from a state
abbrev pub noted_with : Turn → ThreadState → NotedLine
noted_with x state = record {
  thread = x.thread;
  number = x.number;
  line = x.line;
  note = x.note;
  before = x.before;
  state = state;
}

-- The line behind some of a thread: it stands next, the one before had seen so much, and what holds
-- of each line holds of it.
pub record NextLine (P : NotedLine → Type 0) (script : Script) (ops : List Placed)
    (t number before : ℕ) (state : ThreadState) (ls : List (Line × LineNote)) (n : ℕ) (x : Turn)
    : Type 0 where
  pub thread : x.thread ≡ t
  pub number_is : x.number ≡ number + n
  pub within : n < length ls
  pub at : slice_get ls n ≡ Some (x.line, x.note)
  pub next : take (n + 1) ls ≡ take n ls ++ (x.line, x.note) ∷ []
  pub before_is : x.before ≡ seen_from before (take n ls)
  pub rule : P (noted_with x (state_after_lines script ops state (take n ls)))

module _ (P : NotedLine → Type 0) (script : Script) (ops : List Placed) where
  pub next-line : (t number before : ℕ) (state : ThreadState) (ls : List (Line × LineNote)) (n : ℕ)
      (x : Turn) → All P (noted_from script ops t number before state ls)
      → slice_get (turns_from t number before ls) n ≡ Some x
      → NextLine P script ops t number before state ls n x
  next-line t number before state [] n x all is = absurd (let no : None ≡ Some x = is in cc)
  next-line t number before state (l ∷ ls) zero x all is =
      let y : Turn =
      record { thread = t; number = number; line = l.0; note = l.1; before = before } in
      let same : y ≡ x = (let e : Some y ≡ Some x = is in cc) in
      subst (NextLine P script ops t number before state (l ∷ ls) 0) same (record {
        thread = refl;
        number_is = omega arith;
        within = omega arith;
        at = refl;
        next = refl;
        before_is = refl;
        rule = all 0 (noted_with y state) (omega arith);
      })
  next-line t number before state (l ∷ ls) (suc n) x all is =
      let after : ThreadState = state_after script ops l.0 l.1 state in
      let here : NotedLine = record {
        thread = t;
        number = number;
        line = l.0;
        note = l.1;
        before = before;
        state = state;
      } in
      let rest = next-line t (number + 1) l.1.seen after ls n x
      (all-rest P here (noted_from script ops t (number + 1) l.1.seen after ls) all) is in
      let inside = rest.within in
      let later = rest.number_is in
      record {
        thread = rest.thread;
        number_is = omega (arith, later);
        at = rest.at;
        within = omega (arith, inside);
        next = ap (λ m. take m (l ∷ ls)) (let e : suc n + 1 ≡ suc (n + 1) = omega arith in e)
            ∙ ap (λ ys. l ∷ ys) rest.next;
        before_is = rest.before_is;
        rule = rest.rule;
      }

  -- the lines of one thread among those of all
  thread-all : (k i : ℕ) (ps : List (List Line × ThreadNote)) (ts : List Turn)
      → All P (flat_map (noted_of script ops) (enumerate_from k ps))
      → slice_get (map turns_of (enumerate_from k ps)) i ≡ Some ts
      → (p : List Line × ThreadNote) × (slice_get ps i ≡ Some p) × (ts ≡ turns_of (k + i, p))
      × All P (noted_of script ops (k + i, p))
  thread-all k i [] ts all is = absurd (let no : None ≡ Some ts = is in cc)
  thread-all k zero (p ∷ ps) ts all is =
      let same : turns_of (k, p) ≡ ts = (let e : Some (turns_of (k, p)) ≡ Some ts = is in cc) in
      let back : k ≡ k + 0 = omega arith in (
        p,
        refl,
        sym same ∙ ap (λ m. turns_of (m, p)) back,
        subst (λ m. All P (noted_of script ops (m, p))) back
            (all-front P (noted_of script ops (k, p))
            (flat_map (noted_of script ops) (enumerate_from (k + 1) ps)) all),
      )
  thread-all k (suc i) (p ∷ ps) ts all is =
      let rest = thread-all (k + 1) i ps ts
      (all-back P (noted_of script ops (k, p))
      (flat_map (noted_of script ops) (enumerate_from (k + 1) ps)) all) is in
      let back : k + 1 + i ≡ k + suc i = omega arith in (
        rest.0,
        rest.1,
        rest.2 ∙ ap (λ m. turns_of (m, rest.0)) back,
        subst (λ m. All P (noted_of script ops (m, rest.0))) back rest.3,
      )

-- a pair of two lists
pub zip-at : {A B : Type 0} (xs : List A) (ys : List B) (i : ℕ) (p : A × B) (d : A) (e : B)
    → slice_get (zip xs ys) i ≡ Some p → p ≡ (get_or xs i d, get_or ys i e)
zip-at [] ys i p d e is = absurd (let no : None ≡ Some p = is in cc)
zip-at (x ∷ xs) [] i p d e is = absurd (let no : None ≡ Some p = is in cc)
zip-at (x ∷ xs) (y ∷ ys) zero p d e is = let same : Some (x, y) ≡ Some p = is in cc
zip-at (x ∷ xs) (y ∷ ys) (suc i) p d e is = zip-at xs ys i p d e is

-- what is known of each line of a lawful journal
pub record Rules (script : Script) (journal : Journal) (n : NotedLine) : Type 0 where
  pub rises : SeenRises script journal n
  pub within : SeenWithin script journal n
  pub own : SeenOwn script journal n
  pub fixed : SeenFixed script journal n
  pub answered : IsAnswered script journal n
  pub accepted : is_accepted (Some n.note.reply)
      ≡ is_accepted (found_reply script journal.ops n.line n.note n.state)
  pub looking : is_looking script n.line n.note
      ≡ looks script journal.ops n.line n.note n.state

module _ (script : Script) (journal : Journal) (lawful : Lawful script journal) where
  all-rules : All (Rules script journal) (noted_lines script journal)
  all-rules k d below = record {
    rises = lawful.rises k d below;
    within = lawful.within k d below;
    own = lawful.own k d below;
    fixed = lawful.fixed k d below;
    answered = lawful.answered k d below;
    accepted = accepted-all script journal lawful k d below;
    looking = looking-all script journal lawful k d below;
  }

  -- the line behind n of a thread
  abbrev pub IsNextLine : (t n : ℕ) → Turn → Type 0
  IsNextLine t n x =
      NextLine (Rules script journal) script journal.ops t 1 0 at_start
      (noted script journal t) n x

  pub next-of : (t n : ℕ) (x : Turn) → turn_behind script journal t n ≡ Some x
      → IsNextLine t n x
  next-of t n x is = by (slice_get (turns_by_thread script journal) t) refl is
    where
      by : (o : Option (List Turn)) → slice_get (turns_by_thread script journal) t ≡ o
          → option_and_then (λ (ts : List Turn). slice_get ts n) o ≡ Some x
          → IsNextLine t n x
      by None list there = absurd (let no : None ≡ Some x = there in cc)
      by (Some ts) list there =
          let found = thread-all (Rules script journal) script journal.ops 0 t
          (zip script.threads journal.threads) ts all-rules list in
          let p : List Line × ThreadNote = found.0 in
          let same : p ≡ (get_or script.threads t [], note_of script journal t) =
          zip-at script.threads journal.threads t p [] (record { start = None; lines = [] })
          found.1 in
          let none : 0 + t ≡ t = omega arith in
          let q : ℕ × (List Line × ThreadNote) =
          (t, (get_or script.threads t [], note_of script journal t)) in
          let so : (0 + t, p) ≡ q = (λ j. (none j, same j)) in
          next-line (Rules script journal) script journal.ops t 1 0 at_start
          (noted script journal t) n x
          (subst (λ u. All (Rules script journal) (noted_of script journal.ops u)) so found.3)
          (ap (λ (us : List Turn). slice_get us n) (sym (found.2 ∙ ap turns_of so)) ∙ there)

  -- a reply that is found is the journal's
  pub reply-is : (x : Turn) (state : ThreadState) → Rules script journal (noted_with x state)
      → unwrap_or (found_reply script journal.ops x.line x.note state) x.note.reply
      ≡ x.note.reply
  reply-is x state rule =
      by (found_reply script journal.ops x.line x.note state) rule.answered
    where
      by : (o : Option replies.Reply) → IsAnswer script journal (noted_with x state) o
          → unwrap_or o x.note.reply ≡ x.note.reply
      by None flush = refl
      by (Some found) same = sym same
