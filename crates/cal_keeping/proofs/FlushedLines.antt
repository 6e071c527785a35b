-- The flushes among a thread's lines, with one line more.
use Rattle.std.proofs.Common.{◌≡◌, ◌⊎◌, ℕ, List, [], ◌∷◌, ◌++◌, length, inl, inr, ⊎_elim}
use Rattle.std.proofs.Common.{sym, subst}
use Rattle.std.specs.Prelude.{Any, zip}
use Rattle.std.proofs.lemmas.List.Elements.{Contains-append_left, Contains-push_cases}
use Rattle.std.proofs.lemmas.List.Quantifiers.{Any-push}
use Rattle.cal_notes.proofs.Lists.{zip-push}
use Rattle.cal_notes.specs.Running.{with_line}
use Rattle.cal_notes.specs.Together.{HasFlushed, WasFlushed}
use Rattle.cal_script.specs.declared.journal.LineNote.{LineNote}
use Rattle.cal_script.specs.declared.journal.Reply as replies
use Rattle.cal_script.specs.declared.journal.ThreadNote.{ThreadNote}
use Rattle.cal_script.specs.declared.script.Line as lines
use Rattle.cal_script.specs.declared.script.Line.TheVariants as line

module _ {X : Type 0} (P : X → Type 0) (xs : List X) (y : X) where
  any-front : Any P xs → Any P (xs ++ y ∷ [])
  any-front a =
      let there = Contains-append_left xs (y ∷ []) a.1 (a.0, a.2, a.3) in
      (there.0, a.1, there.1, there.2, a.4)

  any-cases : Any P (xs ++ y ∷ []) → Any P xs ⊎ P y
  any-cases a = ⊎_elim (λ there. inl (there.0, a.1, there.1, there.2, a.4))
      (λ last. inr (subst P (sym last) a.4))
      (Contains-push_cases xs y a.1 (a.0, a.2, a.3))

module _ (place : ℕ) (answer : replies.Reply) (ls : List lines.Line) (note : ThreadNote)
    (l : lines.Line) (n : LineNote) (long : length note.lines ≡ length ls) where
  pairs-more : zip (ls ++ l ∷ []) (note.lines ++ n ∷ []) ≡ zip ls note.lines ++ (l, n) ∷ []
  pairs-more = zip-push ls note.lines l n long

  -- a flush that was answered so earlier
  pub flushed-earlier : HasFlushed place answer ls note
      → HasFlushed place answer (ls ++ l ∷ []) (with_line note n)
  flushed-earlier f = subst (Any (WasFlushed place answer)) (sym pairs-more)
      (any-front (WasFlushed place answer) (zip ls note.lines) (l, n) f)

  -- the line is a flush that was answered so
  pub flushed-now : l ≡ line.Flush place → n.reply ≡ answer
      → HasFlushed place answer (ls ++ l ∷ []) (with_line note n)
  flushed-now is replied = subst (Any (WasFlushed place answer)) (sym pairs-more)
      (Any-push (WasFlushed place answer) (zip ls note.lines) (l, n) (is, replied))

  -- one or the other
  pub flushed-cases : HasFlushed place answer (ls ++ l ∷ []) (with_line note n)
      → HasFlushed place answer ls note ⊎ WasFlushed place answer (l, n)
  flushed-cases f = any-cases (WasFlushed place answer) (zip ls note.lines) (l, n)
      (subst (Any (WasFlushed place answer)) pairs-more f)
