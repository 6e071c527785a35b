use Rattle.std.proofs.Common.{◌≡◌, ◌+◌, ℕ, [], ◌∷◌, length, sym, ap, ◌∙◌, subst, arith}
use Rattle.cal_table.specs.Held.{AreHeld, IsHeld, size}
use Rattle.cal_table.specs.Rows.{both_held, held_at, tally}
use Rattle.cal_table.specs.Snapshots.{row_of}
use Rattle.cal_table.specs.TableLaws.{both_held-none, tally-append}
use Rattle.cal_table.specs.Tables.{TableValue}
use Rattle.cal_table.proofs.Holding.{AreHeld-put, MayPut-held}
use Rattle.cal_table.proofs.Singles.{IsHeld-single}
use Rattle.cal_table.proofs.table.Table.add_numbered.Goals as goal

pub add-requires : goal.add-requires
add-requires c =
    let s = c.self.inside in
    let row = c.fill.new.self.row in
    let held : IsHeld (length s.shape.values) row = subst (IsHeld (length s.shape.values)) (sym c.in_ok-fill.ensures.row) (IsHeld-single s.shape c.args.snap.now c.requires.numbers) in
    let one : size row ≡ 1 = ap size c.in_ok-fill.ensures.row in
    let count : s.snapshots ≡ c.args.self.now.snapshots = ap (λ (v : TableValue). v.snapshots) c.self.view_is in
    let few = c.requires.few in
    MayPut-held (length s.shape.values) s.snapshots s.keys.keys s.rows.items row c.self.invariant held (omega arith)

pub invariant_of-self-2 : goal.invariant_of-self-2
invariant_of-self-2 c =
    let s = c.self.inside in
    let row = c.fill.new.self.row in
    let held : IsHeld (length s.shape.values) row = subst (IsHeld (length s.shape.values)) (sym c.in_ok-fill.ensures.row) (IsHeld-single s.shape c.args.snap.now c.requires.numbers) in
    let one : size row ≡ 1 = ap size c.in_ok-fill.ensures.row in
    subst (λ (n : ℕ). AreHeld (length s.shape.values) (s.snapshots + n) c.add.new.keys.keys c.add.new.rows.items) one
    (AreHeld-put (length s.shape.values) s.snapshots s.keys.keys s.rows.items c.fill.new.self.key row c.add.new.keys.keys c.add.new.rows.items c.self.invariant held c.in_ok-number.ensures.puts)

pub returns-clause-added : goal.returns-clause-added
returns-clause-added c =
    let old = c.args.self.now in
    let snap = c.args.snap.now in
    let shape : c.self.inside.shape ≡ old.shape = ap (λ (v : TableValue). v.shape) c.self.view_is in
    record {
      shape = shape;
      snapshots = ap (λ (v : TableValue). v.snapshots + 1) c.self.view_is;
      tally = λ asked.
          c.in_ok-number.ensures.puts.tally asked
          ∙ (λ i. both_held (tally asked (c.self.view_is i).rows) (held_at asked (record { key = c.in_ok-fill.ensures.key i; held = c.in_ok-fill.ensures.row i })))
          ∙ (λ i. both_held (tally asked old.rows) (held_at asked (row_of (shape i) snap)))
          ∙ ap (both_held (tally asked old.rows)) (sym (both_held-none (held_at asked (row_of old.shape snap))))
          ∙ sym (tally-append asked old.rows (row_of old.shape snap ∷ []));
    }
