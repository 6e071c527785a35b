use Rattle.std.proofs.Common.{◌≡◌, ap, ◌∙◌, ⊎_elim, arith, Some, ℕ, [], ◌∷◌}
use Rattle.cal_book.specs.declared.merging.Merging.{Ghosts as Merging}
use Rattle.cal_book.specs.Steps.{Mine, Takes}
use Rattle.cal_book.specs.Turns.{Carries}
use Rattle.cal_book.proofs.cell.FlushCell.turn.Goals as goal

-- an exchange that found 0 got the turn
carries : {T Q : Type 0} (law : Merging T Q) (q : Q) (thread : ℕ) (part : T) (before after : Mine T Q)
    (found : ℕ) → found ≡ 0 → before.0.thread ≡ Some thread → before.1 ≡ []
    → Takes law q part before found after → Carries law q thread part after
carries law q thread part before after found none is bare = ⊎_elim
    (λ won. record {
      thread_is = ap (λ m. m.0.thread) won.view ∙ is;
      copy = won.copy;
      turn_is = ap (λ m. m.0.turn) won.view;
      out = ap (λ m. m.1) won.view ∙ ap (λ l. (0, won.copy) ∷ l) bare;
      may = won.may thread is;
    })
    (λ lost. let some = lost.found_is in absurd (omega arith))

pub fill-requires-clause-carries : goal.fill-requires-clause-carries
fill-requires-clause-carries g c =
    carries g.T.Merging c.args.self.now.table.shared.key c.args.thread c.args.part c.args.seat.now.me
    c.take-found.new.seat.me c.take-found.result c.if-found-ne0.false c.requires.thread
    c.requires.bare c.take-found.ensures.took
