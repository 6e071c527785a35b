use Rattle.std.proofs.Common.{ℕ, ◌<◌, List, sym, subst}
use Rattle.std.specs.List.{All}
use Rattle.cal_value.specs.declared.attribute.Attribute.{Attribute}
use Rattle.cal_snap.specs.declared.numbered.NumberedEntry.{NumberedEntry}
use Rattle.cal_snap.specs.declared.snap.Snap.{Snap}
use Rattle.cal_table.specs.Numbering.{MayAdd}
use Rattle.tests_collect.proofs.Named.{MayAdd-meaning}
use Rattle.tests_collect.proofs.one.add_named.Goals as goal

pub add-requires-clause-may : goal.add-requires-clause-may
add-requires-clause-may c =
    let snap = c.in_ok-snap.snap in
    let known = subst (λ (n : ℕ). All (λ (e : NumberedEntry). e.attribute < n) snap.imms.items) (sym c.requires.long) c.in_ok-snap.ensures.known in
    subst (λ (z : List Attribute × Snap). MayAdd z.0 z.1) (λ i. (sym c.requires.same i, sym c.in_ok-named.ensures i))
    (MayAdd-meaning c.args.attrs.now snap known c.in_ok-snap.ensures.numbers)
