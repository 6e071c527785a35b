-- Workers that come and go.
use Rattle.std.proofs.Common.{◌≡◌, ℕ, zero, suc, ◌+◌, ◌<◌, ◌≤◌, Option, Some, None, List, [], ◌∷◌, ◌++◌, length, set, drop, get_or, refl, sym, ap, ◌∙◌, subst, arith, length-append, add-one}
use mathlib.Core.Logic.{dite}
use native.Mathlib.Decide.{ℕ_discrete}
use Rattle.std.specs.List.{All}
use Rattle.std.specs.Option.{IsSome}
use Rattle.std.proofs.lemmas.List.{get_or_append_left}
use Rattle.std.proofs.Math.Seq.{get_or-append_seam}
use Rattle.cal_book.specs.declared.cell.FlushCell.{FlushCell}
use Rattle.cal_book.specs.declared.view.Account.{Account}
use Rattle.cal_book.specs.declared.view.View.{View}
use Rattle.cal_book.specs.Seats.{view}
use Rattle.cal_book.specs.Views.{joined, with_account}
use Rattle.cal_book.proofs.Joined.{joined-below}
use Rattle.tests_book.specs.declared.tally.Tally.{Tally}
use Rattle.tests_book.specs.declared.worker.Worker.{Worker}
use Rattle.tests_book.specs.Workers.{AreWorkers, IsWorker}

module _ (cell : FlushCell Tally ℕ) where
  pub AreWorkers-push : (ws : List Worker) (w : Worker) → AreWorkers cell ws
      → IsWorker cell (length ws) w → AreWorkers cell (ws ++ w ∷ [])
  AreWorkers-push ws w are is k d below = dite (ℕ_discrete k (length ws))
      (λ last. subst (λ (n : ℕ). IsWorker cell n (get_or (ws ++ w ∷ []) n d)) (sym last)
      (subst (IsWorker cell (length ws)) (sym (get_or-append_seam ws w [] d)) is))
      (λ other. let long = length-append ws (w ∷ []) in
      let inside : k < length ws = omega arith in
      subst (IsWorker cell k) (sym (get_or_append_left ws (w ∷ []) d k inside)) (are k d inside))

  pub AreWorkers-last : (ws : List Worker) (w : Worker) → AreWorkers cell (ws ++ w ∷ [])
      → IsWorker cell (length ws) w
  AreWorkers-last ws w are = let long = length-append ws (w ∷ []) in
      subst (IsWorker cell (length ws)) (get_or-append_seam ws w [] w) (are (length ws) w (omega arith))

  pub AreWorkers-front : (ws : List Worker) (w : Worker) → AreWorkers cell (ws ++ w ∷ [])
      → AreWorkers cell ws
  AreWorkers-front ws w are k d below = let long = length-append ws (w ∷ []) in
      subst (IsWorker cell k) (get_or_append_left ws (w ∷ []) d k below) (are k d (omega arith))

-- the seat of the last worker is joined
pub joined-last : (cell : FlushCell Tally ℕ) (ws : List Worker) (w : Worker)
    (v u : View Tally ℕ) → IsWorker cell (length ws) w → u ≡ joined v (view w.seat)
    → All IsSome (drop (length ws + 1) v.others) → All IsSome (drop (length ws) u.others)
joined-last cell ws w v u is now all =
    let n : ℕ = length ws in
    let account : Account Tally = (view w.seat).account in
    let above : All IsSome (drop (suc n) v.others) = subst (λ (i : ℕ). All IsSome (drop i v.others)) (add-one n) all in
    let others : u.others ≡ set v.others n (Some account) = ap (λ (x : View Tally ℕ). x.others) now
    ∙ ap (λ (t : Option ℕ). with_account v.others t account) is.thread in
    subst (λ (os : List (Option (Account Tally))). All IsSome (drop n os)) (sym others) (joined-below v.others n account above)
