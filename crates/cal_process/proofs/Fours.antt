-- No seat knows all slots of a run's tree: their records wouldn't fit into its arenas.
use Rattle.std.proofs.Common.{◌≡◌, ℕ, ◌+◌, ◌-◌, ◌*◌, ◌/◌, ◌<◌, ◌≤◌}
use Rattle.std.proofs.Common.{List, length, ap, sym, refl, ◌∙◌}
use Rattle.std.proofs.Common.{◌⊎◌, subst, ⊎_elim, arith}
use mathlib.Core.Logic.{dite}
use native.Mathlib.Decide.{ℕ_discrete}
use Rattle.std.proofs.lemmas.Bool.{cases_lt}
use Rattle.std.proofs.lemmas.Nat.{mul-le}
use Rattle.cal_once.specs.Layout.{arena_start, size_in, start_in}
use Rattle.cal_once.specs.Sound.{IsSound}
use Rattle.cal_once.specs.Views.{Saw}
use Rattle.cal_once.specs.declared.view.Plan.{Plan}
use Rattle.cal_once.specs.declared.view.View.{View}
use Rattle.cal_process.proofs.Apart.{few-apart}
use Rattle.cal_script.specs.Shapes.{tree_layout}
use Rattle.cal_tree.specs.Seats.{node_law}
use Rattle.cal_words.specs.Records.{IsNode}
use Rattle.cal_words.specs.declared.shape.Shape.{Shape}
use Rattle.cal_words.specs.declared.sort.NodeSort.{NodeSort}

-- a part of an arena has a number among those of all arenas
part-inside : (number arenas parts part : ℕ) → number < arenas → part < parts
    → number * parts + part < arenas * parts
part-inside number arenas parts part less inside =
    let all : (number + 1) * parts ≤ arenas * parts =
    mul-le (number + 1) parts arenas parts (omega (arith, less)) (omega arith) in
    omega (arith, all, inside)

-- and the number tells the arena
not-before : (m n parts i k : ℕ) → i < parts → m * parts + i ≡ n * parts + k → ¬ (m < n)
not-before m n parts i k inside same less =
    let all : (m + 1) * parts ≤ n * parts =
    mul-le (m + 1) parts n parts (omega (arith, less)) (omega arith) in
    omega (arith, all, inside, same)

one-arena : (m n parts i k : ℕ) → i < parts → k < parts → m * parts + i ≡ n * parts + k → m ≡ n
one-arena m n parts i k a b same = dite (ℕ_discrete m n) (λ e. e) (λ other. absurd (⊎_elim
    (λ (l : m < n). not-before m n parts i k a same l)
    (λ (l : n ≤ m). not-before n m parts k i b (sym same) (omega (arith, l, other)))
    (cases_lt m n)))

-- where four words begin, counted in fours
four-at : (lo start words size : ℕ) → lo ≤ start → 4 ≤ size → start + size ≤ lo + words
    → (lo + 4 * ((start - lo) / 4) ≤ start) × (start < lo + 4 * ((start - lo) / 4) + 4)
    × ((start - lo) / 4 < words / 4)
four-at lo start words size from long to =
    (omega (arith, from), omega (arith, from), omega (arith, from, long, to))

-- records of four words at least that lie apart don't begin among the same four words
apart-fours : (lo hi i k start size at long : ℕ) → lo ≡ hi → i ≡ k → lo + 4 * i ≤ start
    → start < lo + 4 * i + 4 → hi + 4 * k ≤ at → at < hi + 4 * k + 4 → 4 ≤ size → 4 ≤ long
    → (start + size ≤ at) ⊎ (at + long ≤ start) → ⊥
apart-fours lo hi i k start size at long same four from to begins ends a b apart = ⊎_elim
    (λ (l : start + size ≤ at). omega (arith, l, same, four, from, ends, a))
    (λ (l : at + long ≤ start). omega (arith, l, same, four, begins, to, b))
    apart

module _ (plan : Plan NodeSort) (v : View NodeSort) (sound : IsSound node_law plan v)
    (threads words : ℕ) (shape : plan.shape ≡ tree_layout threads words) where
  abbrev slots : ℕ
  slots = plan.shape.slots

  -- The place's record begins in this arena, among four words of this number in it; and the number
  -- of these four words among those of all arenas.
  record Lies (place number : ℕ) : Type 0 where
    slot : ℕ
    known : Saw v.seen (place + 1) slot
    arena : ℕ
    four : ℕ
    inside : four < words / 4
    number_is : number ≡ arena * (words / 4) + four
    from : arena_start plan.shape arena + 4 * four ≤ start_in slot
    to : start_in slot < arena_start plan.shape arena + 4 * four + 4

  -- a node has four words at least
  node-long : (place slot : ℕ) → place < slots → Saw v.seen (place + 1) slot → 4 ≤ size_in slot
  node-long place slot less known =
      let there = sound.there place slot less known in
      let node : IsNode there.words = there.lawful.is_record in
      omega (arith, there.size, ap (λ (ws : List ℕ). length ws) node.spelled)

  lies : (place slot : ℕ) → place < slots → Saw v.seen (place + 1) slot
      → (number : ℕ) × (number < (threads + 1) * (words / 4)) × Lies place number
  lies place slot less known =
      let w = sound.within place slot less known in
      let number : ℕ = w.1.0 in
      let lo : ℕ = arena_start plan.shape number in
      let four : ℕ = (start_in slot - lo) / 4 in
      let arena : plan.shape.arena ≡ words = ap (λ (s : Shape). s.arena) shape in
      let arenas : plan.shape.arenas ≡ threads + 1 = ap (λ (s : Shape). s.arenas) shape in
      let is_arena : number < threads + 1 = omega (arith, arenas, w.1.1.is_arena) in
      let to : start_in slot + size_in slot ≤ lo + words =
      subst (λ n. start_in slot + size_in slot ≤ lo + n) arena w.1.1.to in
      let at = four-at lo (start_in slot) words (size_in slot) w.1.1.from
      (node-long place slot less known) to in (
        number * (words / 4) + four,
        part-inside number (threads + 1) (words / 4) four is_arena at.2,
        record {
          slot = slot;
          known = known;
          arena = number;
          four = four;
          inside = at.2;
          number_is = refl;
          from = at.0;
          to = at.1;
        },
      )

  -- records at different places begin among different fours
  lies-apart : (p q number : ℕ) → p < slots → q < slots → Lies p number → Lies q number → p ≡ q
  lies-apart p q number inside there a b = dite (ℕ_discrete p q) (λ same. same)
      (λ other.
      let both : a.arena * (words / 4) + a.four ≡ b.arena * (words / 4) + b.four =
      sym a.number_is ∙ b.number_is in
      let arena : a.arena ≡ b.arena =
      one-arena a.arena b.arena (words / 4) a.four b.four a.inside b.inside both in
      let product : a.arena * (words / 4) ≡ b.arena * (words / 4) =
      ap (λ n. n * (words / 4)) arena in
      let four : a.four ≡ b.four = omega (arith, both, product) in
      let start : arena_start plan.shape a.arena ≡ arena_start plan.shape b.arena =
      ap (arena_start plan.shape) arena in
      absurd (apart-fours (arena_start plan.shape a.arena) (arena_start plan.shape b.arena)
      a.four b.four (start_in a.slot) (size_in a.slot) (start_in b.slot) (size_in b.slot)
      start four a.from a.to b.from b.to (node-long p a.slot inside a.known)
      (node-long q b.slot there b.known)
      (sound.apart p q a.slot b.slot inside there other a.known b.known)))

  pub not-all-known :
      ((place : ℕ) → place < slots → (slot : ℕ) × Saw v.seen (place + 1) slot) → ⊥
  not-all-known all =
      let few = few-apart Lies slots ((threads + 1) * (words / 4))
      (λ place less. let k = all place less in lies place k.0 less k.1) lies-apart in
      let long : slots ≡ (threads + 1) * (words / 4) + 1 = ap (λ (s : Shape). s.slots) shape in
      omega (arith, few, long)
