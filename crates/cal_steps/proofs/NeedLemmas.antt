-- How many operations of the history need a node, one more at a time.
use Rattle.std.proofs.Common.{◌≡◌, ℕ, ◌+◌, ◌-◌, ◌<◌, ◌≤◌, Bool, true, false, List, filter, length}
use Rattle.std.proofs.Common.{take, drop, get_or, ap, ◌∙◌, arith, cond}
use Rattle.std.proofs.lemmas.List.{get_or-drop, length-drop, take-take}
use Rattle.std.proofs.lemmas.List.Filters.{length-filter_more}
use Rattle.std.proofs.lemmas.List.Sums.{length-filter, sum_by-take-le}
use Rattle.cal_script.specs.declared.journal.Journal.{Journal}
use Rattle.cal_script.specs.declared.journal.Placed.{Placed}
use Rattle.cal_script.specs.declared.script.Script.{Script}
use Rattle.cal_steps.specs.NodePlaces.{needing}
use Rattle.cal_world.specs.Events.{placed_node}

module _ (script : Script) (journal : Journal) (history : List Placed) (from : ℕ) where
  -- one place more
  need-next : (place : ℕ) (d : Placed) → from ≤ place → place < length history
      → needing script journal history from (place + 1)
      ≡ needing script journal history from place
      + cond (placed_node script journal (get_or history place d)) 1 0
  need-next place d late inside =
      let long = length-drop from history in
      let more : place + 1 - from ≡ place - from + 1 = omega (arith, late) in
      let back : from + (place - from) ≡ place = omega (arith, late) in
      ap (λ (n : ℕ). length (filter (placed_node script journal) (take n (drop from history)))) more
      ∙ length-filter_more (placed_node script journal) (drop from history) (place - from) d
      (omega (arith, long, late, inside))
      ∙ ap (λ (p : Placed). needing script journal history from place
      + cond (placed_node script journal p) 1 0)
      (get_or-drop from history (place - from) d
      ∙ ap (λ (i : ℕ). get_or history i d) back)

  -- up to an earlier place no more
  pub need-less : (to place : ℕ) → to ≤ place
      → needing script journal history from to ≤ needing script journal history from place
  need-less to place less =
      let p = placed_node script journal in
      let ps : List Placed = take (place - from) (drop from history) in
      let few = sum_by-take-le (λ (x : Placed). cond (p x) 1 0) ps (to - from) in
      let some = length-filter p (take (to - from) ps) in
      let all = length-filter p ps in
      let same : length (filter p (take (to - from) ps))
      ≡ needing script journal history from to =
      ap (λ (qs : List Placed). length (filter p qs))
      (take-take (to - from) (place - from) (drop from history) (omega (arith, less))) in
      omega (arith, few, some, all, same)

  pub need-yes : (place : ℕ) (d : Placed) → from ≤ place → place < length history
      → placed_node script journal (get_or history place d) ≡ true
      → needing script journal history from (place + 1)
      ≡ needing script journal history from place + 1
  need-yes place d late inside is = need-next place d late inside
      ∙ ap (λ (b : Bool). needing script journal history from place + cond b 1 0) is

  pub need-no : (place : ℕ) (d : Placed) → from ≤ place → place < length history
      → placed_node script journal (get_or history place d) ≡ false
      → needing script journal history from (place + 1)
      ≡ needing script journal history from place
  need-no place d late inside is = need-next place d late inside
      ∙ ap (λ (b : Bool). needing script journal history from place + cond b 1 0) is
      ∙ (let same : needing script journal history from place + 0
      ≡ needing script journal history from place = omega arith in same)
