-- What keeps the rules by a beginning of the history keeps them by a longer one.
use Rattle.std.proofs.Common.{◌≡◌, ℕ, ◌+◌, ◌-◌, ◌≤◌, List, [], ◌∷◌, ◌++◌, Bool}
use Rattle.std.proofs.Common.{length, refl, sym, ap, ◌∙◌, subst, arith}
use Rattle.std.specs.Prelude.{Option, slice_get, zip}
use Rattle.std.specs.List.{All}
use Rattle.std.proofs.lemmas.List.{length-append}
use Rattle.std.proofs.lemmas.List.Elements.{All-cons, All-nil, All-same, All-weaker}
use Rattle.cal_notes.proofs.Lists.{placed_of-front, slice_get-front}
use Rattle.cal_notes.specs.Notes.{IsNotedReply, KeepsRules, LineKeeps, OfOthers, known_journal}
use Rattle.cal_notes.specs.Running.{state_behind}
use Rattle.cal_run.proofs.FrontLemmas.{found_reply-front, is_read-front, looks-front}
use Rattle.cal_run.proofs.FrontLemmas.{noted_from-front, state_after_lines-front}
use Rattle.cal_run.proofs.LawLemmas.{all-rest}
use Rattle.cal_run.specs.Lawful.{IsRead, NotedLine, SeesOwn, noted_from, noted_of}
use Rattle.cal_run.specs.Seeing.{HaveSeen}
use Rattle.cal_run.specs.Steps.{ThreadState, at_start, found_reply, is_read, looks, state_after}
use Rattle.cal_script.specs.declared.journal.Journal.{Journal}
use Rattle.cal_script.specs.declared.journal.LineNote.{LineNote}
use Rattle.cal_script.specs.declared.journal.Placed.{Placed}
use Rattle.cal_script.specs.declared.journal.ThreadNote.{ThreadNote}
use Rattle.cal_script.specs.declared.script.Line.{Line}
use Rattle.cal_script.specs.declared.script.Script.{Script}

-- a reading is as it should be by whatever history
pub read-front : (script : Script) (a b : Journal) → b.real ≡ a.real → (due : Bool) (clock : ℕ)
    (reading : Option ℕ) → IsRead script a due clock reading → IsRead script b due clock reading
read-front script a b real due clock reading is = record {
  there = is.there;
  value = λ script_clock. is.value (sym real ∙ script_clock);
}

-- a line, by a journal whose history begins with another's
module _ (script : Script) (a b : Journal) (more : List Placed) (whole : b.ops ≡ a.ops ++ more)
    (real : b.real ≡ a.real) (n : NotedLine) (keeps : LineKeeps script a n) where
  looks-same : looks script b.ops n.line n.note n.state ≡ looks script a.ops n.line n.note n.state
  looks-same = ap (λ h. looks script h n.line n.note n.state) whole
      ∙ looks-front script a.ops more n.line n.note keeps.within n.state

  read-same : is_read script b.ops n.line n.note n.state
      ≡ is_read script a.ops n.line n.note n.state
  read-same = ap (λ h. is_read script h n.line n.note n.state) whole
      ∙ is_read-front script a.ops more n.line n.note keeps.within n.state

  found-same : found_reply script b.ops n.line n.note n.state
      ≡ found_reply script a.ops n.line n.note n.state
  found-same = ap (λ h. found_reply script h n.line n.note n.state) whole
      ∙ found_reply-front script a.ops more n.line n.note keeps.within n.state

  sees-own : SeesOwn script a n → SeesOwn script b n
  sees-own is =
      let some = is.some in
      let within = keeps.within in
      record {
        some = some;
        own = ap (λ (h : List Placed). slice_get h (n.note.seen - 1)) whole
            ∙ slice_get-front a.ops more (n.note.seen - 1) (omega (arith, some, within))
            ∙ is.own;
        before = is.before;
      }

  pub line-front : LineKeeps script b n
  line-front =
      let within = keeps.within in
      let long = ap length whole in
      let sum = length-append a.ops more in
      record {
        rises = keeps.rises;
        within = omega (arith, within, long, sum);
        own = λ process. sees-own (keeps.own process);
        fixed = λ own looks. keeps.fixed own (sym looks-same ∙ looks);
        read = subst (λ due. IsRead script b due n.state.clock n.note.reading) (sym read-same)
            (read-front script a b real (is_read script a.ops n.line n.note n.state) n.state.clock
            n.note.reading keeps.read);
        answered = subst (IsNotedReply n) (sym found-same) keeps.answered;
      }

-- lines that keep the rules have seen no more than the history
lines-seen : (script : Script) (journal : Journal) (thread number before : ℕ) (state : ThreadState)
    (ls : List (Line × LineNote))
    → All (LineKeeps script journal) (noted_from script journal.ops thread number before state ls)
    → HaveSeen (length journal.ops) ls
lines-seen script journal thread number before state [] all =
    All-nil (λ (l : Line × LineNote). l.1.seen ≤ length journal.ops)
lines-seen script journal thread number before state (l ∷ ls) all =
    let after : ThreadState = state_after script journal.ops l.0 l.1 state in
    let here : NotedLine = record {
      thread = thread;
      number = number;
      line = l.0;
      note = l.1;
      before = before;
      state = state;
    } in
    let first : LineKeeps script journal here = all 0 here (omega arith) in
    All-cons (λ (l : Line × LineNote). l.1.seen ≤ length journal.ops) l ls first.within
    (lines-seen script journal thread (number + 1) l.1.seen after ls
    (all-rest (LineKeeps script journal) here
    (noted_from script journal.ops thread (number + 1) l.1.seen after ls) all))

module _ (script : Script) (real : Bool) (h : List Placed) (thread : ℕ) (ls : List Line)
    (note : ThreadNote) (keeps : KeepsRules script real h thread ls note) where
  pub have-seen : HaveSeen (length h) (zip ls note.lines)
  have-seen = lines-seen script (known_journal real h) thread 1 0 at_start (zip ls note.lines)
      keeps.lines

  -- its lines, by a journal whose history begins with what the thread knows
  pub lines-front : (b : Journal) (more : List Placed) → b.ops ≡ h ++ more → b.real ≡ real
      → All (LineKeeps script b) (noted_of script b.ops (thread, (ls, note)))
  lines-front b more whole same =
      All-same (LineKeeps script b) (noted_of script b.ops (thread, (ls, note)))
      (noted_of script h (thread, (ls, note)))
      (ap (λ k. noted_of script k (thread, (ls, note))) whole
      ∙ noted_from-front script h more thread 1 0 at_start (zip ls note.lines) have-seen)
      (All-weaker (LineKeeps script (known_journal real h)) (LineKeeps script b)
      (line-front script (known_journal real h) b more whole same)
      (noted_of script h (thread, (ls, note))) keeps.lines)

  module _ (more : List Placed) where
    pub state-front : state_behind script (h ++ more) ls note ≡ state_behind script h ls note
    state-front = state_after_lines-front script h more at_start (zip ls note.lines) have-seen

    pub rules-front : OfOthers thread more → KeepsRules script real (h ++ more) thread ls note
    rules-front others = record {
      long = keeps.long;
      start = record { there = keeps.start.there; value = keeps.start.value };
      lines = lines-front (known_journal real (h ++ more)) more refl refl;
      order = placed_of-front thread h more others ∙ keeps.order;
    }
