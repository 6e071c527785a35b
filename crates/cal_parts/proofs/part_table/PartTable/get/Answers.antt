use Rattle.std.proofs.Common.{◌≤◌, [], get_or, length, sym, ap, ◌∙◌, arith}
use Rattle.std.specs.Prelude.{slice_get}
use Rattle.std.proofs.lemmas.Option.{slice_get_past}
use Rattle.std.specs.Simd.{first_chunks}
use Rattle.cal_parts.proofs.PartTables.{chunk_long, chunk_none, chunk_place, chunk_within}
use Rattle.cal_parts.proofs.part_table.PartTable.get.Goals as goal
use Rattle.cal_parts.proofs.part_table.PartTable.get.Goals.{then-number-self-via-then-number-self, then-number-self-via-else-number-self+then-place-self}

pub returns-then-number-self : goal.returns-then-number-self
returns-then-number-self c =
    let s = c.self.inside in
    let n = c.args.number in
    let short : length (get_or (first_chunks s.width s.count s.parts) n []) ≤ c.args.place = elim c.then-number-self.branch [
      | then-number-self-via-then-number-self w ↦ omega (arith, ap length (chunk_none s.width s.count n s.parts [] w.if-number-self.true))
      | then-number-self-via-else-number-self+then-place-self w ↦ omega (arith, chunk_long s.width s.count n s.parts, w.if-place-self.true)
    ] in
    sym (ap (λ ps. slice_get (get_or ps n []) c.args.place) (sym c.self.view_is) ∙ slice_get_past _ c.args.place short)

pub overflow_mul-number : goal.overflow_mul-number
overflow_mul-number c =
    let s = c.self.inside in
    omega (arith, c.self.invariant, chunk_within s.width s.count c.args.number (omega arith))

pub overflow_add-number : goal.overflow_add-number
overflow_add-number c =
    let s = c.self.inside in
    omega (arith, c.self.invariant, chunk_within s.width s.count c.args.number (omega arith))

pub returns : goal.returns
returns c =
    let s = c.self.inside in
    c.get.ensures
    ∙ sym (chunk_place s.width s.count c.args.number c.args.place s.parts (omega arith) (omega arith))
    ∙ ap (λ ps. slice_get (get_or ps c.args.number []) c.args.place) c.self.view_is
