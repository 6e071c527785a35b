-- Workers behind their declarations.
use Rattle.std.proofs.Common.{◌≡◌, ℕ, zero, suc, ◌<◌, true, List, [], ◌∷◌, ◌++◌, length, take, drop}
use Rattle.std.proofs.Common.{refl, ap, ◌∙◌, arith}
use Rattle.std.specs.Prelude.{All, IsTrue, ◌&&◌}
use Rattle.std.proofs.lemmas.Bool.{and_parts}
use Rattle.std.proofs.lemmas.List.{append-nil, drop_all, take_all}
use Rattle.cal_declarations.specs.Layout.{thread_words}
use Rattle.cal_names.specs.Kept.{plan_of}
use Rattle.cal_names.specs.declared.names.Names.{Names}
use Rattle.cal_naming.proofs.Hiring.{greatest-map, le-greatest}
use Rattle.cal_naming.specs.Told.{HasRoom}
use Rattle.cal_naming.specs.Workers.{AreNumbered, HaveWorked, IsDone, are_done, lines_of}
use Rattle.cal_naming.specs.declared.worker.Worker.{Worker}

-- what was lent whole is what was given back
pub lent-back : {X : Type 0} → (old lent new : List X) (long : ℕ) → lent ≡ old
    → long ≡ length old → length new ≡ length lent
    → take long (new ++ drop (length new) old) ≡ new
lent-back old lent new long all many same =
    let short = ap length all in
    ap (λ rest. take long (new ++ rest))
    (drop_all (length new) old (omega (arith, same, short)))
    ∙ ap (take long) (append-nil new)
    ∙ take_all long new (omega (arith, many, same, short))

each-done : (ws : List Worker) → are_done ws ≡ true → All (λ (w : Worker). IsTrue w.is_done) ws
each-done [] is k d less = absurd (omega (arith, less))
each-done (w ∷ ws) is zero d less = (and_parts w.is_done (are_done ws) is).0
each-done (w ∷ ws) is (suc k) d less =
    each-done ws (and_parts w.is_done (are_done ws) is).1 k d (omega (arith, less))

done-by-each : (ws : List Worker) → All (λ (w : Worker). IsTrue w.is_done) ws → are_done ws ≡ true
done-by-each [] each = refl
done-by-each (w ∷ ws) each = ap (λ b. b && are_done ws) (each 0 w (omega arith))
    ∙ done-by-each ws (λ k d less. each (suc k) d (omega (arith, less)))

module _ (names : Names) where
  -- those that say so have declared their lines
  pub all-done : (old new : List Worker) → length new ≡ length old → HaveWorked names old new
      → are_done new ≡ true → All (IsDone names) new
  all-done old new many worked is k d less =
      (worked k d (omega (arith, less, many))).done (each-done new is k d less)

  -- and all do where the arenas have room for all lines
  pub all-have-room : (old new : List Worker) → length new ≡ length old
      → HaveWorked names old new → HasRoom (plan_of names).shape (lines_of old)
      → are_done new ≡ true
  all-have-room old new many worked room = done-by-each new (λ k d less.
      let l : k < length old = omega (arith, less, many) in
      let f : Worker → ℕ = λ w. thread_words w.lines.now in
      let most = le-greatest f d old k l in
      let same = greatest-map thread_words (λ (w : Worker). w.lines.now) old in
      (worked k d l).room (omega (arith, most, same, room)))

  pub still-numbered : (old new : List Worker) → length new ≡ length old
      → HaveWorked names old new → AreNumbered old → AreNumbered new
  still-numbered old new many worked numbers k d less =
      let l : k < length old = omega (arith, less, many) in
      (worked k d l).number ∙ numbers k d l

  pub same-lines : (old new : List Worker) → length new ≡ length old → HaveWorked names old new
      → lines_of new ≡ lines_of old
  same-lines [] [] many worked = refl
  same-lines [] (n ∷ new) many worked = absurd (omega (arith, many))
  same-lines (o ∷ old) [] many worked = absurd (omega (arith, many))
  same-lines (o ∷ old) (n ∷ new) many worked =
      let head = (worked 0 o (omega arith)).lines in
      let rest = same-lines old new (omega (arith, many))
      (λ k d less. worked (suc k) d (omega (arith, less))) in
      (λ i. head i ∷ rest i)
