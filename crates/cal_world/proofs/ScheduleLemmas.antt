-- The events are put together by what lines have seen.
use Rattle.std.proofs.Common.{◌≡◌, ℕ, suc, ◌+◌, ◌-◌, ◌<◌, ◌≤◌, Bool, true, false, List, ◌++◌}
use Rattle.std.proofs.Common.{ap, sym, ◌∙◌, append-nil, append_assoc, arith}
use Rattle.std.specs.Prelude.{filter, flat_map}
use Rattle.std.proofs.lemmas.Grind.{flat_map-append}
use Rattle.cal_script.specs.declared.script.Script.{Script}
use Rattle.cal_world.specs.Turns.{has_seen, turns_by_seen}
use Rattle.cal_world.specs.declared.turn.Turn.{Turn}

module _ {B : Type 0} (f : Turn → List B) (script : Script) (ts : List Turn) (count : ℕ) where
  -- what the lines give that have seen so much, or more
  abbrev given_by : (shared : Bool) → (seen : ℕ) → List B
  given_by shared seen = flat_map f (filter (has_seen script shared seen) ts)

  abbrev given_from : (seen : ℕ) → List B
  given_from seen = flat_map f (turns_by_seen script ts seen (count - seen))

  given-step : (seen : ℕ) → seen < count
      → given_from seen ≡ (given_by true seen ++ given_by false seen) ++ given_from (seen + 1)
  given-step seen less =
      let left : count - seen ≡ suc (count - (seen + 1)) = omega (arith, less) in
      ap (λ n. flat_map f (turns_by_seen script ts seen n)) left
      ∙ flat_map-append f
      (filter (has_seen script true seen) ts ++ filter (has_seen script false seen) ts) _
      ∙ ap (λ ys. ys ++ given_from (seen + 1))
      (flat_map-append f (filter (has_seen script true seen) ts)
      (filter (has_seen script false seen) ts))

  -- the lines that have seen so much are done
  pub rows-next : (seen : ℕ) (had mid has all : List B) (listed : List Turn) → listed ≡ ts
      → seen < count
      → mid ≡ had ++ flat_map f (filter (has_seen script true seen) listed)
      → has ≡ mid ++ flat_map f (filter (has_seen script false seen) listed)
      → had ++ flat_map f (turns_by_seen script ts seen (count - seen)) ≡ all
      → has ++ flat_map f (turns_by_seen script ts (seen + 1) (count - (seen + 1))) ≡ all
  rows-next seen had mid has all listed listed-is less one two so_far =
      let first : mid ≡ had ++ given_by true seen =
      one ∙ ap (λ xs. had ++ flat_map f (filter (has_seen script true seen) xs)) listed-is in
      let second : has ≡ mid ++ given_by false seen =
      two ∙ ap (λ xs. mid ++ flat_map f (filter (has_seen script false seen) xs)) listed-is in
      ap (λ (xs : List B). xs ++ given_from (seen + 1))
      (second ∙ ap (λ (xs : List B). xs ++ given_by false seen) first
      ∙ append_assoc had (given_by true seen) (given_by false seen))
      ∙ append_assoc had (given_by true seen ++ given_by false seen) (given_from (seen + 1))
      ∙ ap (λ ys. had ++ ys) (sym (given-step seen less))
      ∙ so_far

  -- and all lines are
  pub rows-end : (seen : ℕ) (had all : List B) → count ≤ seen
      → had ++ flat_map f (turns_by_seen script ts seen (count - seen)) ≡ all → had ≡ all
  rows-end seen had all past so_far =
      let left : count - seen ≡ 0 = omega (arith, past) in
      sym (append-nil had)
      ∙ ap (λ n. had ++ flat_map f (turns_by_seen script ts seen n)) (sym left)
      ∙ so_far
