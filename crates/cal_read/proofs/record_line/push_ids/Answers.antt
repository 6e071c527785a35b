use Rattle.std.proofs.Common.{◌≡◌, ◌+◌, take, sym, subst, Ok}
use Rattle.cal_read.specs.Fields.{each, id_of}
use Rattle.cal_read.proofs.EachLemmas.{each_at, each_err}
use Rattle.cal_read.proofs.record_line.push_ids.Goals as goal

pub returns-in-Err : goal.returns-in-Err
returns-in-Err c =
    each_err id_of {C = Unit {0}} (λ _ found. c.loop-place.ids.items ≡ found) c.args.field.now.values c.loop-place.place c.value.result c.value.ensures c.loop-place.ids.items c.loop-place.invariant
    c.in-Err.end c.in-Err.ensures

pub loop-place-preserved : goal.loop-place-preserved
loop-place-preserved c =
    subst (λ l. each id_of (take (c.loop-place.place + 1) c.args.field.now.values) ≡ Ok l) (sym c.in_ok-push-in-Ok.ensures.items)
    (each_at id_of c.args.field.now.values c.loop-place.place c.value.result c.value.ensures c.loop-place.ids.items c.loop-place.invariant c.in-Ok.id c.in-Ok.ensures)
