-- What a channel takes of a thread's lines, by a beginning of the history.
use Rattle.std.proofs.Common.{◌≡◌, ℕ, suc, List, [], ◌∷◌, ◌++◌, length, refl, sym, ap, ◌∙◌}
use Rattle.std.proofs.Common.{append_assoc, append-nil, arith}
use Rattle.std.specs.Prelude.{Bool, unwrap_or, zip}
use Rattle.cal_notes.proofs.Fronts.{have-seen, state-front}
use Rattle.cal_notes.proofs.Lists.{zip-push}
use Rattle.cal_notes.specs.Notes.{KeepsRules}
use Rattle.cal_notes.specs.Running.{previous_behind, previous_from, state_behind, with_line}
use Rattle.cal_run.proofs.FrontLemmas.{previous_after-front, state_after-front, taken_from-front}
use Rattle.cal_run.specs.Runs.{state_after_lines, taken_by_thread, taken_from}
use Rattle.cal_run.specs.Seeing.{HaveSeen}
use Rattle.cal_run.specs.Steps.{ThreadState, at_start, previous_after, state_after, taken_in}
use Rattle.cal_script.specs.declared.journal.LineNote.{LineNote}
use Rattle.cal_script.specs.declared.journal.Placed.{Placed}
use Rattle.cal_script.specs.declared.journal.ThreadNote.{ThreadNote}
use Rattle.cal_script.specs.declared.script.Channel.{Channel}
use Rattle.cal_script.specs.declared.script.Line.{Line}
use Rattle.cal_script.specs.declared.script.Script.{Script}
use Rattle.cal_value.specs.declared.record.Rec.{Rec}

module _ (script : Script) (channel : Channel) where
  previous_from-front : (a b : List Placed) (state : ThreadState) (previous : ℕ)
      (ls : List (Line × LineNote)) → HaveSeen (length a) ls
      → previous_from script (a ++ b) channel state previous ls
      ≡ previous_from script a channel state previous ls
  previous_from-front a b state previous [] seen = refl
  previous_from-front a b state previous (l ∷ ls) seen =
      let inside = seen 0 l (omega arith) in
      let next = state_after-front script a b l.0 l.1 inside state in
      let last = previous_after-front script a b l.0 l.1 inside state channel previous in
      (λ j. previous_from script (a ++ b) channel (next j) (last j) ls)
      ∙ previous_from-front a b (state_after script a l.0 l.1 state)
      (previous_after script a l.0 l.1 state channel previous) ls
      (λ i d m. seen (suc i) d (omega (arith, m)))

  previous_from-push : (h : List Placed) (state : ThreadState) (previous : ℕ)
      (ls : List (Line × LineNote)) (l : Line × LineNote)
      → previous_from script h channel state previous (ls ++ l ∷ [])
      ≡ previous_after script h l.0 l.1 (state_after_lines script h state ls) channel
      (previous_from script h channel state previous ls)
  previous_from-push h state previous [] l = refl
  previous_from-push h state previous (k ∷ ls) l =
      previous_from-push h (state_after script h k.0 k.1 state)
      (previous_after script h k.0 k.1 state channel previous) ls l

  -- with one line more comes what it takes
  taken_from-push : (h : List Placed) (state : ThreadState) (previous : ℕ)
      (ls : List (Line × LineNote)) (l : Line × LineNote)
      → taken_from script h channel state previous (ls ++ l ∷ [])
      ≡ taken_from script h channel state previous ls
      ++ taken_in script h l.0 l.1 (state_after_lines script h state ls) channel
      (previous_from script h channel state previous ls)
  taken_from-push h state previous [] l =
      append-nil (taken_in script h l.0 l.1 state channel previous)
  taken_from-push h state previous (k ∷ ls) l =
      let after : ThreadState = state_after script h k.0 k.1 state in
      let last : ℕ = previous_after script h k.0 k.1 state channel previous in
      let one : List Rec = taken_in script h k.0 k.1 state channel previous in
      ap (λ rs. one ++ rs) (taken_from-push h after last ls l)
      ∙ sym (append_assoc one (taken_from script h channel after last ls)
      (taken_in script h l.0 l.1 (state_after_lines script h after ls) channel
      (previous_from script h channel after last ls)))

module _ (script : Script) (real : Bool) (h more : List Placed) (thread : ℕ) (ls : List Line)
    (note : ThreadNote) (channel : Channel) (keeps : KeepsRules script real h thread ls note) where
  abbrev pairs : List (Line × LineNote)
  pairs = zip ls note.lines

  abbrev start : ℕ
  start = unwrap_or note.start 0

  seen : HaveSeen (length h) pairs
  seen = have-seen script real h thread ls note keeps

  pub taken-same : taken_by_thread script (h ++ more) channel (ls, note)
      ≡ taken_by_thread script h channel (ls, note)
  taken-same = taken_from-front script h more channel at_start start pairs seen

  pub taken-next : (l : Line) (n : LineNote)
      → taken_by_thread script (h ++ more) channel (ls ++ l ∷ [], with_line note n)
      ≡ taken_by_thread script h channel (ls, note)
      ++ taken_in script (h ++ more) l n (state_behind script h ls note) channel
      (previous_behind script h channel ls note)
  taken-next l n =
      let state = state-front script real h thread ls note keeps more in
      let last = previous_from-front script channel h more at_start start pairs seen in
      ap (taken_from script (h ++ more) channel at_start start)
      (zip-push ls note.lines l n keeps.long)
      ∙ taken_from-push script channel (h ++ more) at_start start pairs (l, n)
      ∙ (λ j. taken-same j ++ taken_in script (h ++ more) l n (state j) channel (last j))

  pub previous-next : (l : Line) (n : LineNote)
      → previous_behind script (h ++ more) channel (ls ++ l ∷ []) (with_line note n)
      ≡ previous_after script (h ++ more) l n (state_behind script h ls note) channel
      (previous_behind script h channel ls note)
  previous-next l n =
      let state = state-front script real h thread ls note keeps more in
      let last = previous_from-front script channel h more at_start start pairs seen in
      ap (previous_from script (h ++ more) channel at_start start)
      (zip-push ls note.lines l n keeps.long)
      ∙ previous_from-push script channel (h ++ more) at_start start pairs (l, n)
      ∙ (λ j. previous_after script (h ++ more) l n (state j) channel (last j))
