-- No seat knows all slots of a run's history: their records wouldn't fit into its arenas.
use Rattle.std.proofs.Common.{◌≡◌, ℕ, ◌+◌, ◌-◌, ◌*◌, ◌/◌, ◌<◌, ◌≤◌, List, length, ap}
use Rattle.std.proofs.Common.{⊎_elim, arith}
use mathlib.Core.Logic.{dite}
use native.Mathlib.Decide.{ℕ_discrete}
use Rattle.std.proofs.lemmas.Bool.{cases_lt}
use Rattle.std.proofs.lemmas.Nat.{mul-le}
use Rattle.cal_once.specs.Layout.{size_in, start_in}
use Rattle.cal_once.specs.Sound.{IsSound}
use Rattle.cal_once.specs.Views.{Saw}
use Rattle.cal_once.specs.declared.view.Plan.{Plan}
use Rattle.cal_once.specs.declared.view.View.{View}
use Rattle.cal_plog.proofs.Reading.{op_there}
use Rattle.cal_plog.specs.History.{HasSeen}
use Rattle.cal_plog.specs.Seats.{op_law}
use Rattle.cal_process.proofs.Apart.{few-apart}
use Rattle.cal_script.specs.Shapes.{history_layout}
use Rattle.cal_words.specs.declared.op.OpCode.TheVariants as code
use Rattle.cal_words.specs.declared.op.OpRec.{OpRec}
use Rattle.cal_words.specs.declared.shape.Shape.{Shape}
use Rattle.cal_words.specs.declared.sort.OpSort.{OpSort}

pub no_op : OpRec
no_op = record { thread = 0; line = 0; code = code.End; attr = 0; value = 0 }

-- an arena of a number ends within all arenas
arena-end : (number arenas most : ℕ) → number < arenas
    → number * (7 * most) + 7 * most ≤ 7 * (arenas * most)
arena-end number arenas most less =
    let all : (number + 1) * most ≤ arenas * most =
    mul-le (number + 1) most arenas most (omega (arith, less)) (omega arith) in
    omega (arith, all)

-- where seven words begin, counted in sevens
seven-at : (lo start : ℕ) → lo ≤ start
    → (lo + 7 * ((start - lo) / 7) ≤ start) × (start < lo + 7 * ((start - lo) / 7) + 7)
seven-at lo start from = (omega (arith, from), omega (arith, from))

module _ (plan : Plan OpSort) (v : View OpSort) (sound : IsSound op_law plan v)
    (threads most : ℕ) (shape : plan.shape ≡ history_layout threads most) where
  abbrev slots : ℕ
  slots = plan.shape.slots

  -- the place's record begins among the seven words of this number, counted from the first arena
  record Lies (place number : ℕ) : Type 0 where
    slot : ℕ
    known : Saw v.seen (place + 1) slot
    from : 1 + slots + 7 * number ≤ start_in slot
    to : start_in slot < 1 + slots + 7 * number + 7

  lies : (place slot : ℕ) → place < slots → Saw v.seen (place + 1) slot
      → (number : ℕ) × (number < (threads + 1) * most) × Lies place number
  lies place slot inside known =
      let w = sound.within place slot inside known in
      let size = (op_there plan v sound place slot inside known).5 in
      let arena : plan.shape.arena ≡ 7 * most = ap (λ (s : Shape). s.arena) shape in
      let arenas : plan.shape.arenas ≡ threads + 1 = ap (λ (s : Shape). s.arenas) shape in
      let is_arena : w.1.0 < threads + 1 = omega (arith, arenas, w.1.1.is_arena) in
      let end = arena-end w.1.0 (threads + 1) most is_arena in
      let words : w.1.0 * plan.shape.arena ≡ w.1.0 * (7 * most) = ap (λ n. w.1.0 * n) arena in
      let from : 1 + slots ≤ start_in slot = omega (arith, w.1.1.from) in
      let at = seven-at (1 + slots) (start_in slot) from in
      let to = w.1.1.to in (
        (start_in slot - (1 + slots)) / 7,
        omega (arith, at.0, to, size, arena, words, end),
        record { slot = slot; known = known; from = at.0; to = at.1 },
      )

  -- records at different places begin among different words
  lies-apart : (p q number : ℕ) → p < slots → q < slots → Lies p number → Lies q number → p ≡ q
  lies-apart p q number inside there a b = dite (ℕ_discrete p q) (λ same. same)
      (λ other.
      let first = (op_there plan v sound p a.slot inside a.known).5 in
      let second = (op_there plan v sound q b.slot there b.known).5 in
      absurd (⊎_elim
      (λ (l : start_in a.slot + size_in a.slot ≤ start_in b.slot).
      omega (arith, l, first, a.from, b.to))
      (λ (l : start_in b.slot + size_in b.slot ≤ start_in a.slot).
      omega (arith, l, second, b.from, a.to))
      (sound.apart p q a.slot b.slot inside there other a.known b.known)))

  pub not-all-known : ((place : ℕ) → place < slots → (slot : ℕ) × Saw v.seen (place + 1) slot) → ⊥
  not-all-known all =
      let few = few-apart Lies slots ((threads + 1) * most)
      (λ place less. let k = all place less in lies place k.0 less k.1) lies-apart in
      let long : slots ≡ (threads + 1) * most + 1 = ap (λ (s : Shape). s.slots) shape in
      omega (arith, few, long)

  -- what a seat has seen of the history doesn't fill the slots
  pub seen-fewer : (ops : List OpRec) → HasSeen slots v ops → length ops < slots
  seen-fewer ops seen = ⊎_elim (λ (l : length ops < slots). l)
      (λ (more : slots ≤ length ops). absurd (not-all-known (λ place less.
      let has = seen place no_op (omega (arith, less, more)) in
      (has.1.slot, has.1.known))))
      (cases_lt (length ops) slots)
