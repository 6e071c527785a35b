use Rattle.std.proofs.Common.{◌++◌, false, not, filter, drop, sym, ap, ◌∙◌, arith, ◌+◌}
use Rattle.cal_value.specs.Flat.{joined}
use Rattle.cal_keys.specs.Groups.{taken, takes}
use Rattle.cal_engine.proofs.Takings.{imms_next, taken_next}
use Rattle.cal_engine.proofs.grouping.taken_imms.Goals as goal

pub loop-name-preserved : goal.loop-name-preserved
loop-name-preserved c =
    let n = c.loop-name.name-index in
    let names = c.args.names.now in
    let left = c.loop-name.left.items in
    let took = c.in_ok-took.ensures.took in
    let rest = c.in_ok-took.ensures.rest in
    let next = taken_next false names n c.name-item.result left (omega arith) c.name-item.is in
    rw rest
    (imms_next c.loop-name.imms.items c.append.new.self.items (filter (takes false c.name-item.result) left)
    (taken false (drop (n + 1) names) (filter (λ e. not (takes false c.name-item.result e)) left))
    (joined (taken false names c.args.entries.items))
    (c.in_ok-append.ensures.items ∙ ap (λ xs. c.loop-name.imms.items ++ xs) took)
    (ap (λ ts. c.loop-name.imms.items ++ joined ts) (sym next) ∙ c.loop-name.invariant))
