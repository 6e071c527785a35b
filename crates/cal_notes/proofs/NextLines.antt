-- One line more.
use Rattle.std.proofs.Common.{◌≡◌, ℕ, ◌+◌, ◌-◌, List, [], ◌∷◌, ◌++◌, Bool}
use Rattle.std.proofs.Common.{true, false, if◌then◌else◌, length, refl, sym, ap, ◌∙◌, subst}
use Rattle.std.proofs.Common.{append_assoc, append-nil, arith}
use Rattle.std.specs.Prelude.{Option, slice_get, zip}
use Rattle.std.proofs.lemmas.List.{length-append}
use Rattle.std.proofs.lemmas.List.Elements.{All-nil, All-push, All-same}
use Rattle.std.proofs.lemmas.Slice.Zip.{length-zip, seconds-zip}
use Rattle.cal_notes.proofs.Fronts.{lines-front, state-front}
use Rattle.cal_notes.proofs.Lists.{placed_of-append, placed_of-others, placed_of-own}
use Rattle.cal_notes.proofs.Lists.{process_lines-push, slice_get-last, zip-push}
use Rattle.cal_notes.proofs.MoreLines.{line_behind, noted_from-push, notes_of, seen_from-push}
use Rattle.cal_notes.proofs.MoreLines.{state_after_lines-push}
use Rattle.cal_notes.specs.Notes.{KeepsRules, LineKeeps, known_journal}
use Rattle.cal_notes.specs.Running.{HasNoted, Learns, RunsNext, next_line, number_placed, own_place}
use Rattle.cal_notes.specs.Running.{seen_behind, seen_from, started, state_behind, with_line}
use Rattle.cal_run.specs.Lawful.{IsRead, NotedLine, SeesOwn, noted_from, noted_of, placed_of}
use Rattle.cal_run.specs.Lawful.{takes_start_reading}
use Rattle.cal_run.specs.Lines.{is_process_line}
use Rattle.cal_run.specs.Runs.{state_after_lines}
use Rattle.cal_run.specs.Steps.{at_start, looks, state_after}
use Rattle.cal_script.specs.declared.journal.LineNote.{LineNote}
use Rattle.cal_script.specs.declared.journal.Placed.{Placed}
use Rattle.cal_script.specs.declared.journal.ThreadNote.{ThreadNote}
use Rattle.cal_script.specs.declared.script.Line.{Line}
use Rattle.cal_script.specs.declared.script.Script.{Script}

-- ---- the start

pub starts : (script : Script) (real : Bool) (thread : ℕ) (start : Option ℕ)
    → IsRead script (known_journal real []) (takes_start_reading script) 0 start
    → HasNoted script real [] thread [] (started start)
starts script real thread start read = record {
  rules = record {
    long = refl;
    start = read;
    lines = All-nil (LineKeeps script (known_journal real []));
    order = refl;
  };
  seen = refl;
}

-- ---- the next line

module _ (script : Script) (real : Bool) (h more : List Placed) (thread : ℕ) (ls : List Line)
    (note : ThreadNote) (l : Line) (n : LineNote)
    (keeps : KeepsRules script real h thread ls note) where
  abbrev whole : List Placed
  whole = h ++ more

  abbrev pairs : List (Line × LineNote)
  pairs = zip ls note.lines

  abbrev next : NotedLine
  next = next_line script h thread ls note l n

  pairs-more : zip (ls ++ l ∷ []) (note.lines ++ n ∷ []) ≡ pairs ++ (l, n) ∷ []
  pairs-more = zip-push ls note.lines l n keeps.long

  next-is : line_behind script whole thread 1 0 at_start pairs (l, n) ≡ next
  next-is =
      let long = keeps.long in
      let both = length-zip ls note.lines in
      let number : 1 + length pairs ≡ length ls + 1 = omega (arith, long, both) in
      let before : seen_from 0 (notes_of pairs) ≡ seen_behind note =
      ap (seen_from 0) (seconds-zip ls note.lines long) in
      let state = state-front script real h thread ls note keeps more in
      λ j. record {
        thread = thread;
        number = number j;
        line = l;
        note = n;
        before = before j;
        state = state j;
      }

  noted-more : noted_of script whole (thread, (ls ++ l ∷ [], with_line note n))
      ≡ noted_of script whole (thread, (ls, note)) ++ next ∷ []
  noted-more =
      ap (noted_from script whole thread 1 0 at_start) pairs-more
      ∙ noted_from-push script whole thread 1 0 at_start pairs (l, n)
      ∙ ap (λ (m : NotedLine). noted_of script whole (thread, (ls, note)) ++ m ∷ []) next-is

  pub state-next : state_behind script whole (ls ++ l ∷ []) (with_line note n)
      ≡ state_after script whole l n (state_behind script h ls note)
  state-next =
      ap (state_after_lines script whole at_start) pairs-more
      ∙ state_after_lines-push script whole at_start pairs (l, n)
      ∙ ap (state_after script whole l n) (state-front script real h thread ls note keeps more)

  pub rules-next : LineKeeps script (known_journal real whole) next
      → placed_of thread more ≡ number_placed script (length ls + 1) l
      → KeepsRules script real whole thread (ls ++ l ∷ []) (with_line note n)
  rules-next line places =
      let long = keeps.long in
      let notes = length-append note.lines (n ∷ []) in
      let lines = length-append ls (l ∷ []) in
      record {
        long = omega (arith, long, notes, lines);
        start = record { there = keeps.start.there; value = keeps.start.value };
        lines = All-same (LineKeeps script (known_journal real whole))
            (noted_of script whole (thread, (ls ++ l ∷ [], with_line note n)))
            (noted_of script whole (thread, (ls, note)) ++ next ∷ []) noted-more
            (All-push (LineKeeps script (known_journal real whole))
            (noted_of script whole (thread, (ls, note))) next
            (lines-front script real h thread ls note keeps (known_journal real whole) more refl
            refl) line);
        order = placed_of-append thread h more
            ∙ (λ j. keeps.order j ++ places j)
            ∙ sym (process_lines-push script ls l);
      }

-- ---- a running thread's next line

-- which places the thread's operations take among those learned
learned-places : (p k : Bool) (own : Placed) (more : List Placed) → Learns p k own more
    → placed_of own.thread more ≡ (if p then own.line ∷ [] else [])
learned-places true k own more learns =
    ap (placed_of own.thread) learns.2
    ∙ placed_of-append own.thread learns.0 (own ∷ [])
    ∙ ap (λ ns. ns ++ placed_of own.thread (own ∷ []))
    (placed_of-others own.thread learns.0 learns.1)
    ∙ placed_of-own own.thread own.line
learned-places false true own more learns = placed_of-others own.thread more learns
learned-places false false own more learns = ap (placed_of own.thread) learns

module _ (script : Script) (real : Bool) (h more : List Placed) (thread : ℕ) (ls : List Line)
    (note : ThreadNote) (l : Line) (n : LineNote) (noted : HasNoted script real h thread ls note)
    (runs : RunsNext script real h more (next_line script h thread ls note l n)) where
  abbrev coming : NotedLine
  coming = next_line script h thread ls note l n

  abbrev own : Placed
  own = own_place coming

  sees-own : is_process_line script l ≡ true
      → SeesOwn script (known_journal real (h ++ more)) coming
  sees-own process =
      let learns : Learns true (looks script (h ++ more) l n coming.state) own more =
      subst (λ p. Learns p (looks script (h ++ more) l n coming.state) own more) process runs.learns
      in
      let others : List Placed = learns.0 in
      let cut : h ++ more ≡ (h ++ others) ++ own ∷ [] =
      ap (λ ops. h ++ ops) learns.2 ∙ sym (append_assoc h others (own ∷ [])) in
      let seen = runs.seen in
      let before = noted.seen in
      let all = ap length cut in
      let sum = length-append (h ++ others) (own ∷ []) in
      let front = length-append h others in
      let last : n.seen - 1 ≡ length (h ++ others) = omega (arith, seen, all, sum) in
      record {
        some = omega (arith, seen, all, sum);
        own = (λ j. slice_get (cut j) (last j)) ∙ slice_get-last (h ++ others) own;
        before = omega (arith, seen, before, all, sum, front);
      }

  fixed : is_process_line script l ≡ false → looks script (h ++ more) l n coming.state ≡ false
      → n.seen ≡ seen_behind note
  fixed own_line still =
      let learns : Learns false false own more =
      subst (λ k. Learns false k own more) still
      (subst (λ p. Learns p (looks script (h ++ more) l n coming.state) own more) own_line
      runs.learns) in
      runs.seen ∙ ap (λ ops. length (h ++ ops)) learns ∙ ap length (append-nil h)
      ∙ sym noted.seen

  line-keeps : LineKeeps script (known_journal real (h ++ more)) coming
  line-keeps =
      let seen = runs.seen in
      let before = noted.seen in
      let sum = length-append h more in
      record {
        rises = omega (arith, seen, before, sum);
        within = omega (arith, seen);
        own = sees-own;
        fixed = fixed;
        read = runs.read;
        answered = runs.answered;
      }

  pub noted-next : HasNoted script real (h ++ more) thread (ls ++ l ∷ []) (with_line note n)
  noted-next = record {
    rules = rules-next script real h more thread ls note l n noted.rules line-keeps
        (learned-places (is_process_line script l) (looks script (h ++ more) l n coming.state)
        own more runs.learns);
    seen = seen_from-push 0 note.lines n ∙ runs.seen;
  }
