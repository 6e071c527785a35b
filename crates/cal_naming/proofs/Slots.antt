-- No seat knows all slots of a table of names: their records wouldn't fit into its arenas.
use Rattle.std.proofs.Common.{◌≡◌, ℕ, ◌+◌, ◌-◌, ◌*◌, ◌/◌, ◌<◌, ◌≤◌}
use Rattle.std.proofs.Common.{List, length, ap, sym, refl, ◌∙◌}
use Rattle.std.proofs.Common.{◌⊎◌, ⊎_elim, arith}
use mathlib.Core.Logic.{dite}
use native.Mathlib.Decide.{ℕ_discrete}
use Rattle.std.proofs.lemmas.Bool.{cases_lt}
use Rattle.std.proofs.lemmas.Nat.{mul-le}
use Rattle.cal_names.specs.Declarations.{IsName}
use Rattle.cal_names.specs.Kept.{name_law}
use Rattle.cal_names.specs.declared.record.NameSort.{NameSort}
use Rattle.cal_naming.proofs.Apart.{few-apart}
use Rattle.cal_naming.specs.Told.{IsRoomy}
use Rattle.cal_once.specs.Layout.{arena_start, size_in, start_in}
use Rattle.cal_once.specs.Sound.{IsSound}
use Rattle.cal_once.specs.Views.{Saw}
use Rattle.cal_once.specs.declared.view.Plan.{Plan}
use Rattle.cal_once.specs.declared.view.View.{View}
use Rattle.cal_words.proofs.Bytes.{length-text_words}

-- a part of an arena has a number among those of all arenas
part-inside : (number arenas parts part : ℕ) → number < arenas → part < parts
    → number * parts + part < arenas * parts
part-inside number arenas parts part less inside =
    let all : (number + 1) * parts ≤ arenas * parts =
    mul-le (number + 1) parts arenas parts (omega (arith, less)) (omega arith) in
    omega (arith, all, inside)

-- and the number tells the arena
not-before : (m n parts i k : ℕ) → i < parts → m * parts + i ≡ n * parts + k → ¬ (m < n)
not-before m n parts i k inside same less =
    let all : (m + 1) * parts ≤ n * parts =
    mul-le (m + 1) parts n parts (omega (arith, less)) (omega arith) in
    omega (arith, all, inside, same)

one-arena : (m n parts i k : ℕ) → i < parts → k < parts → m * parts + i ≡ n * parts + k → m ≡ n
one-arena m n parts i k a b same = dite (ℕ_discrete m n) (λ e. e) (λ other. absurd (⊎_elim
    (λ (l : m < n). not-before m n parts i k a same l)
    (λ (l : n ≤ m). not-before n m parts k i b (sym same) (omega (arith, l, other)))
    (cases_lt m n)))

-- where five words begin, counted in fives
five-at : (lo start words size : ℕ) → lo ≤ start → 5 ≤ size → start + size ≤ lo + words
    → (lo + 5 * ((start - lo) / 5) ≤ start) × (start < lo + 5 * ((start - lo) / 5) + 5)
    × ((start - lo) / 5 < words / 5)
five-at lo start words size from long to =
    (omega (arith, from), omega (arith, from), omega (arith, from, long, to))

-- records of five words at least that lie apart don't begin among the same five words
apart-fives : (lo hi i k start size at long : ℕ) → lo ≡ hi → i ≡ k → lo + 5 * i ≤ start
    → start < lo + 5 * i + 5 → hi + 5 * k ≤ at → at < hi + 5 * k + 5 → 5 ≤ size → 5 ≤ long
    → (start + size ≤ at) ⊎ (at + long ≤ start) → ⊥
apart-fives lo hi i k start size at long same five from to begins ends a b apart = ⊎_elim
    (λ (l : start + size ≤ at). omega (arith, l, same, five, from, ends, a))
    (λ (l : at + long ≤ start). omega (arith, l, same, five, begins, to, b))
    apart

-- a declaration has five words at least
name-long : (words : List ℕ) → IsName words → 5 ≤ length words
name-long words name =
    let some = name.is_declaration.long.some in
    let text = length-text_words name.declaration.name in
    omega (arith, some, text, ap (λ (ws : List ℕ). length ws) name.spelled)

module _ (plan : Plan NameSort) (v : View NameSort) (sound : IsSound name_law plan v)
    (roomy : IsRoomy plan) where
  abbrev slots : ℕ
  slots = plan.shape.slots

  abbrev parts : ℕ
  parts = plan.shape.arena / 5

  -- The place's record begins in this arena, among five words of this number in it; and the number
  -- of these five words among those of all arenas.
  record Lies (place number : ℕ) : Type 0 where
    slot : ℕ
    known : Saw v.seen (place + 1) slot
    arena : ℕ
    five : ℕ
    inside : five < parts
    number_is : number ≡ arena * parts + five
    from : arena_start plan.shape arena + 5 * five ≤ start_in slot
    to : start_in slot < arena_start plan.shape arena + 5 * five + 5

  slot-long : (place slot : ℕ) → place < slots → Saw v.seen (place + 1) slot → 5 ≤ size_in slot
  slot-long place slot less known =
      let there = sound.there place slot less known in
      let long = name-long there.words there.lawful.is_record in
      omega (arith, there.size, long)

  lies : (place slot : ℕ) → place < slots → Saw v.seen (place + 1) slot
      → (number : ℕ) × (number < plan.shape.arenas * parts) × Lies place number
  lies place slot less known =
      let w = sound.within place slot less known in
      let number : ℕ = w.1.0 in
      let lo : ℕ = arena_start plan.shape number in
      let five : ℕ = (start_in slot - lo) / 5 in
      let at = five-at lo (start_in slot) plan.shape.arena (size_in slot) w.1.1.from
      (slot-long place slot less known) w.1.1.to in (
        number * parts + five,
        part-inside number plan.shape.arenas parts five w.1.1.is_arena at.2,
        record {
          slot = slot;
          known = known;
          arena = number;
          five = five;
          inside = at.2;
          number_is = refl;
          from = at.0;
          to = at.1;
        },
      )

  -- records at different places begin among different fives
  lies-apart : (p q number : ℕ) → p < slots → q < slots → Lies p number → Lies q number → p ≡ q
  lies-apart p q number inside there a b = dite (ℕ_discrete p q) (λ same. same)
      (λ other.
      let both : a.arena * parts + a.five ≡ b.arena * parts + b.five =
      sym a.number_is ∙ b.number_is in
      let arena : a.arena ≡ b.arena =
      one-arena a.arena b.arena parts a.five b.five a.inside b.inside both in
      let product : a.arena * parts ≡ b.arena * parts = ap (λ n. n * parts) arena in
      let five : a.five ≡ b.five = omega (arith, both, product) in
      let start : arena_start plan.shape a.arena ≡ arena_start plan.shape b.arena =
      ap (arena_start plan.shape) arena in
      absurd (apart-fives (arena_start plan.shape a.arena) (arena_start plan.shape b.arena)
      a.five b.five (start_in a.slot) (size_in a.slot) (start_in b.slot) (size_in b.slot)
      start five a.from a.to b.from b.to (slot-long p a.slot inside a.known)
      (slot-long q b.slot there b.known)
      (sound.apart p q a.slot b.slot inside there other a.known b.known)))

  pub not-all-known :
      ((place : ℕ) → place < slots → (slot : ℕ) × Saw v.seen (place + 1) slot) → ⊥
  not-all-known all =
      let few = few-apart Lies slots (plan.shape.arenas * parts)
      (λ place less. let k = all place less in lies place k.0 less k.1) lies-apart in
      omega (arith, few, roomy)
