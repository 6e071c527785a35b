-- A worker whose line is noted.
use Rattle.std.proofs.Common.{◌≡◌, ℕ, ◌+◌, ◌-◌, List, [], ◌∷◌, ◌++◌, length, take}
use Rattle.std.proofs.Common.{Bool, if◌then◌else◌, sym, ap, ◌∙◌, subst, arith}
use Rattle.std.specs.Prelude.{Option, Some, None, slice_get}
use Rattle.std.proofs.lemmas.Bool.{ne_eqb}
use Rattle.std.proofs.lemmas.List.{length_push, map-append, take_more}
use Rattle.std.proofs.lemmas.Option.{get_or_from_slice_get, slice_get_within}
use Rattle.cal_notes.proofs.NextLines.{noted-next, state-next}
use Rattle.cal_notes.specs.Running.{HasNoted, RunsNext, next_line, seen_behind}
use Rattle.cal_notes.specs.Running.{state_behind, with_line}
use Rattle.cal_process.specs.Operations.{history_of, placed_as}
use Rattle.cal_process.specs.declared.common.Common.{Common}
use Rattle.cal_replay.specs.Readings.{Asked, off_clock}
use Rattle.cal_replay.specs.Steps.{Runs, RunsLine, StepsOver, Tells, noted_line, noted_with}
use Rattle.cal_replay.specs.Workers.{IsWorker, lines_done, lines_of, script_of, state_of}
use Rattle.cal_replay.specs.declared.answer.Answer.{Answer}
use Rattle.cal_replay.specs.declared.shared.Shared.{Shared}
use Rattle.cal_replay.specs.declared.showing.ShownLine.{ShownLine}
use Rattle.cal_replay.specs.declared.worker.Worker.{Worker}
use Rattle.cal_run.specs.Lawful.{NotedLine}
use Rattle.cal_run.specs.Lines.{line_at}
use Rattle.cal_run.specs.Steps.{ThreadState, state_after}
use Rattle.cal_script.specs.declared.journal.LineNote.{LineNote}
use Rattle.cal_script.specs.declared.journal.Reply as replies
use Rattle.cal_script.specs.declared.journal.Placed.{Placed}
use Rattle.cal_script.specs.declared.journal.ThreadNote.{ThreadNote}
use Rattle.cal_script.specs.declared.script.Line.{Line}
use Rattle.cal_script.specs.declared.script.Script.{Script}
use Rattle.cal_thread.specs.Threads.{IsThread}
use Rattle.cal_thread.specs.declared.thread.Thread.{Thread}
use Rattle.cal_words.specs.declared.op.OpRec.{OpRec}

-- the line of a number is that of its place
pub line-is : (script : Script) (thread place : ℕ)
    → line_at script thread (place + 1) ≡ slice_get (lines_of script thread) place
line-is script thread place =
    ap (λ (b : Bool). if b then None else slice_get (lines_of script thread) (place + 1 - 1))
    (ne_eqb (place + 1) 0 (λ e. omega (arith, e)))
    ∙ ap (slice_get (lines_of script thread)) (let e : place + 1 - 1 ≡ place = omega arith in e)

-- a worker whose notes are longer by a line's has done that line too
pub lines-more : (script : Script) (old new : Worker) (l : Line) (note : LineNote)
    → line_at script old.thread.number (length old.note.lines + 1) ≡ Some l
    → new.note ≡ with_line old.note note → new.thread.number ≡ old.thread.number
    → lines_done script new ≡ lines_done script old ++ l ∷ []
lines-more script old new l note next noted number =
    let lines = lines_of script old.thread.number in
    let done = length old.note.lines in
    let count : length new.note.lines ≡ done + 1 =
    ap (λ (n : ThreadNote). length n.lines) noted ∙ length_push old.note.lines note in
    let there : slice_get lines done ≡ Some l =
    sym (line-is script old.thread.number done) ∙ next in
    ap (λ (n : ℕ). take n (lines_of script new.thread.number)) count
    ∙ ap (λ (n : ℕ). take (done + 1) (lines_of script n)) number
    ∙ take_more lines done l (slice_get_within lines done l there)
    ∙ ap (λ (x : Line). lines_done script old ++ x ∷ [])
    (get_or_from_slice_get lines done l l there)

module _ (shared : Shared) (at : Thread) (told : ShownLine) (old new : Worker) (l : Line)
    (note : LineNote) (h : List OpRec)
    (next : line_at (script_of shared) old.thread.number (length old.note.lines + 1) ≡ Some l)
    (w : IsWorker shared old h)
    (r : Runs shared old.thread at new.thread told l note (length old.note.lines) h
    (state_of (script_of shared) h old))
    (noted : new.note ≡ with_line old.note note)
    (number : new.thread.number ≡ old.thread.number)
    (timed : new.thread.timed ≡ old.thread.timed) where
  abbrev script : Script
  script = script_of shared

  abbrev ls : List Line
  ls = lines_done script old

  abbrev hist : List Placed
  hist = history_of h ++ history_of r.ops

  hist-is : hist ≡ history_of (h ++ r.ops)
  hist-is = sym (map-append placed_as h r.ops)

  count : length new.note.lines ≡ length old.note.lines + 1
  count = ap (λ (n : ThreadNote). length n.lines) noted ∙ length_push old.note.lines note

  lines-are : lines_done script new ≡ ls ++ l ∷ []
  lines-are = lines-more script old new l note next noted number

  long : length old.note.lines ≡ length ls
  long = w.noted.rules.long

  abbrev coming : NotedLine
  coming = next_line script (history_of h) old.thread.number ls old.note l note

  line-as : noted_line old.thread (length old.note.lines) (seen_behind old.note) l note
      (state_of script h old) ≡ coming
  line-as = λ j. record {
    thread = old.thread.number;
    number = long j + 1;
    line = l;
    note = note;
    before = seen_behind old.note;
    state = state_of script h old;
  }

  noted-more : HasNoted script shared.real hist old.thread.number (ls ++ l ∷ [])
      (with_line old.note note)
  noted-more = noted-next script shared.real (history_of h) (history_of r.ops)
      old.thread.number ls old.note l note w.noted
      (subst (λ (n : NotedLine). RunsNext script shared.real (history_of h) (history_of r.ops) n)
      line-as (r.next (seen_behind old.note)))

  has-noted : HasNoted script shared.real (history_of (h ++ r.ops)) new.thread.number
      (lines_done script new) new.note
  has-noted =
      subst (λ (ps : List Placed). HasNoted script shared.real ps new.thread.number
      (lines_done script new) new.note) hist-is
      (subst (λ (n : ℕ). HasNoted script shared.real hist n (lines_done script new) new.note)
      (sym number)
      (subst (λ (ks : List Line). HasNoted script shared.real hist old.thread.number ks new.note)
      (sym lines-are)
      (subst (λ (n : ThreadNote). HasNoted script shared.real hist old.thread.number
      (ls ++ l ∷ []) n) (sym noted) noted-more)))

  state-is : state_after script hist l note (state_of script h old)
      ≡ state_of script (h ++ r.ops) new
  state-is =
      sym (state-next script shared.real (history_of h) (history_of r.ops) old.thread.number ls
      old.note l note w.noted.rules)
      ∙ ap (λ (ps : List Placed). state_behind script ps (ls ++ l ∷ []) (with_line old.note note))
      hist-is
      ∙ ap (λ (ks : List Line). state_behind script (history_of (h ++ r.ops)) ks
      (with_line old.note note)) (sym lines-are)
      ∙ ap (state_behind script (history_of (h ++ r.ops)) (lines_done script new)) (sym noted)

  pub line-runs : RunsLine shared at told old new l note h
  line-runs = record {
    ops = r.ops;
    sees = r.sees;
    words = r.words;
    told_as = r.told_as;
    learns = r.learns;
    kept = record {
      thread = subst (λ (n : ℕ). IsThread shared.common new.thread n (h ++ r.ops)
          (state_of script (h ++ r.ops) new)) (sym count)
          (subst (λ (s : ThreadState). IsThread shared.common new.thread
          (length old.note.lines + 1) (h ++ r.ops) s) state-is r.kept);
      timed = timed ∙ w.timed;
      noted = has-noted;
    };
  }

-- ---- a step

module _ {K F : Type 0} (given : K → Option (List ℕ))
    (showing : Common → F → F → Thread → ShownLine → Type 0)
    (flushed : F → F → ℕ → replies.Reply → Type 0) (was is : K) (had has : F) (shared : Shared)
    (old : Worker) (mid : Thread) (new : Worker) (l : Line) (answer : Answer)
    (next : line_at (script_of shared) old.thread.number (length old.note.lines + 1) ≡ Some l)
    (lines : new.note.lines ≡ old.note.lines ++ noted_with answer mid ∷ [])
    (start : new.note.start ≡ old.note.start)
    (thread : new.thread ≡ mid)
    (number : mid.number ≡ old.thread.number)
    (timed : mid.timed ≡ old.thread.timed)
    (asked : Asked given was is (off_clock shared.real answer.reading))
    (tells : Tells showing flushed shared.common had has l answer.reply)
    (runs : (h : List OpRec) (state : ThreadState)
    → IsThread shared.common old.thread (length old.note.lines) h state
    → Runs shared old.thread tells.at mid tells.told l (noted_with answer mid)
    (length old.note.lines) h state) where
  noted-is : new.note ≡ with_line old.note (noted_with answer mid)
  noted-is = λ j. record { start = start j; lines = lines j }

  same-number : new.thread.number ≡ old.thread.number
  same-number = ap (λ (t : Thread). t.number) thread ∙ number

  pub steps-over : StepsOver shared given showing flushed was is had has old new
  steps-over = record {
    ran = l;
    next = next;
    note = noted_with answer mid;
    noted = noted-is;
    number = same-number;
    asked = asked;
    tells = tells;
    runs = λ h w. line-runs shared tells.at tells.told old new l (noted_with answer mid) h next w
        (subst (λ (t : Thread). Runs shared old.thread tells.at t tells.told l
        (noted_with answer mid)
        (length old.note.lines) h (state_of (script_of shared) h old)) (sym thread)
        (runs h (state_of (script_of shared) h old) w.thread)) noted-is same-number
        (ap (λ (t : Thread). t.timed) thread ∙ timed);
  }
