-- The rule holds of a table of empty slots.
use Rattle.std.proofs.Common.{◌≡◌, ◌⊎◌, ℕ, zero, suc, ◌+◌, ◌<◌, None, List, [], ◌∷◌, get_or, replicate, refl, ap, subst, inr, arith}
use Rattle.std.proofs.Math.ListN.{length-replicate, get_or-replicate}
use mathlib.Core.Option.{some}
use lib.ListN.{get_elem?}
use Rattle.atomic_table.specs.Table.{opening}
use Rattle.cal_words.specs.declared.sort.RecSort.{Ghosts as RecSort}
use Rattle.cal_once.specs.declared.view.View.{View}
use Rattle.cal_once.specs.declared.view.Plan.{Plan}
use Rattle.cal_once.specs.Layout.{IsShape, word_count, slot_of}
use Rattle.cal_once.specs.Views.{first_seat}
use Rattle.cal_once.specs.Rule.{Sits, Kept}
use Rattle.cal_once.specs.Sound.{IsSound}
use Rattle.cal_once.proofs.Moves.{sound_in}

module _ {S : Type 0} (law : RecSort S) where
  pub opens : (plan : Plan S) → IsShape plan.shape → Kept law plan (opening (replicate (word_count plan.shape) 0) [] (first_seat plan))
  opens plan shape =
      let words : List ℕ = replicate (word_count plan.shape) 0 in
      let zero_at : (i : ℕ) → i < word_count plan.shape → get_or words i 0 ≡ 0 = λ i h. get_or-replicate (word_count plan.shape) i 0 0 h in
      let empty : (place : ℕ) → place < plan.shape.slots → slot_of words place ≡ 0 = λ place h. zero_at (place + 1) (omega arith) in
      let arenas = shape.some_arena in
      record {
        own = λ n. record { used = 0; published = [] };
        laid = record {
          shape = shape;
          long = length-replicate (word_count plan.shape) 0;
          zero_word = zero_at 0 (omega arith);
          room = λ n. omega arith;
          stands = λ place h filled. absurd (filled (empty place h));
          apart = λ p q hp hq other fp fq. absurd (fp (empty p hp));
          listed = λ n place some_times. absurd (omega arith);
        };
        few = omega arith;
        unmade = λ n past. refl;
        seats = λ number v at. first_only number v at;
        first = λ v at. let same : first_seat plan ≡ v = cc in ap (λ (x : View S). None ∷ x.others) same;
      }
    where
      first_only : (number : ℕ) (v : View S) → get_elem? (first_seat plan ∷ []) number ≡ some v → (v.plan ≡ None) ⊎ Sits plan (replicate (word_count plan.shape) 0) (λ n. record { used = 0; published = [] }) number v
      first_only zero v at = let same : first_seat plan ≡ v = cc in inr (subst (λ (x : View S). Sits plan (replicate (word_count plan.shape) 0) (λ n. record { used = 0; published = [] }) 0 x) same record { plan_is = refl; number_is = refl; used_is = refl; published_is = refl; room = omega arith; draft = λ k h. absurd (omega arith); seen = λ i x saw. absurd saw })
      first_only (suc n) v at = absurd cc
