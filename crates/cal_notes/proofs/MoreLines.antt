-- Lists of lines with one more: what is noted of them, and the state behind them.
use Rattle.std.proofs.Common.{◌≡◌, ℕ, suc, ◌+◌, List, [], ◌∷◌, ◌++◌, length, map, refl, ap, ◌∙◌}
use Rattle.std.proofs.Common.{arith}
use Rattle.cal_notes.specs.Running.{seen_from}
use Rattle.cal_run.specs.Lawful.{NotedLine, noted_from}
use Rattle.cal_run.specs.Runs.{state_after_lines}
use Rattle.cal_run.specs.Steps.{ThreadState, state_after}
use Rattle.cal_script.specs.declared.journal.LineNote.{LineNote}
use Rattle.cal_script.specs.declared.journal.Placed.{Placed}
use Rattle.cal_script.specs.declared.script.Line.{Line}
use Rattle.cal_script.specs.declared.script.Script.{Script}

abbrev pub notes_of : List (Line × LineNote) → List LineNote
notes_of ls = map (λ (l : Line × LineNote). l.1) ls

module _ (script : Script) (h : List Placed) where
  pub state_after_lines-push : (state : ThreadState) (ls : List (Line × LineNote))
      (l : Line × LineNote) → state_after_lines script h state (ls ++ l ∷ [])
      ≡ state_after script h l.0 l.1 (state_after_lines script h state ls)
  state_after_lines-push state [] l = refl
  state_after_lines-push state (k ∷ ls) l =
      state_after_lines-push (state_after script h k.0 k.1 state) ls l

  -- a line behind lines
  abbrev pub line_behind : (thread number before : ℕ) → ThreadState → List (Line × LineNote)
      → Line × LineNote → NotedLine
  line_behind thread number before state ls l = record {
    thread = thread;
    number = number + length ls;
    line = l.0;
    note = l.1;
    before = seen_from before (notes_of ls);
    state = state_after_lines script h state ls;
  }

  pub noted_from-push : (thread number before : ℕ) (state : ThreadState)
      (ls : List (Line × LineNote)) (l : Line × LineNote)
      → noted_from script h thread number before state (ls ++ l ∷ [])
      ≡ noted_from script h thread number before state ls
      ++ line_behind thread number before state ls l ∷ []
  noted_from-push thread number before state [] l =
      ap (λ (n : ℕ). record {
        thread = thread;
        number = n;
        line = l.0;
        note = l.1;
        before = before;
        state = state;
      } ∷ []) (let e : number ≡ number + 0 = omega arith in e)
  noted_from-push thread number before state (k ∷ ls) l =
      let after : ThreadState = state_after script h k.0 k.1 state in
      let first : NotedLine = record {
        thread = thread;
        number = number;
        line = k.0;
        note = k.1;
        before = before;
        state = state;
      } in
      ap (λ rest. first ∷ rest)
      (noted_from-push thread (number + 1) k.1.seen after ls l
      ∙ ap (λ (n : ℕ). noted_from script h thread (number + 1) k.1.seen after ls ++ record {
        thread = thread;
        number = n;
        line = l.0;
        note = l.1;
        before = seen_from k.1.seen (notes_of ls);
        state = state_after_lines script h after ls;
      } ∷ []) (let e : number + 1 + length ls ≡ number + suc (length ls) = omega arith in e))

pub seen_from-push : (before : ℕ) (ns : List LineNote) (n : LineNote)
    → seen_from before (ns ++ n ∷ []) ≡ n.seen
seen_from-push before [] n = refl
seen_from-push before (m ∷ ns) n = seen_from-push m.seen ns n
