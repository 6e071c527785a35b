use Rattle.std.proofs.Common.{◌++◌, List, Option, ℕ, map, sym, ◌∙◌, subst}
use Rattle.cal_context.specs.Snapshots.{entry_of}
use Rattle.cal_context.specs.Tree.{path_at}
use Rattle.cal_context.specs.declared.snapshot.Immediate.{Immediate}
use Rattle.cal_value.specs.Flat.{joined}
use Rattle.cal_filter.specs.Known.{sought}
use Rattle.cal_filter.specs.Latest.{IsLast}
use Rattle.cal_filter.specs.Sought.{value_sought}
use Rattle.cal_filter.proofs.NamedLemmas.{place_is}
use Rattle.cal_filter.proofs.seeker.Seeker.find_by.Goals as goal

pub returns : goal.returns
returns c = λ k.
    let t = c.args.context.now in
    let s = sought c.args.self.now in
    let last = place_is t c.args.latest.now c.args.snapshot.now.imms.items c.args.self.now c.args.name
    k.latest k.named in
    c.find_at.ensures k.knows
    (subst (λ (z : List Immediate × Option ℕ). IsLast t s z.0 z.1)
    (λ i. ((sym c.deref-2.ensures.value) i, (sym c.place-place.ensures) i)) last)
    ∙ (λ i. value_sought s (joined (map (path_at t) (c.deref.ensures.value i))
    ++ map (entry_of t) (c.deref-2.ensures.value i)))
