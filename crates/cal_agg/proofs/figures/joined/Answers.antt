use Rattle.std.proofs.Common.{◌+ℤ◌, Some, refl}
use Rattle.std.specs.Option.{ForSome}
use Rattle.cal_agg.specs.Numbers.{IsWithin}
use Rattle.cal_agg.proofs.figures.joined.Goals as goal

pub with-requires : goal.with-requires
with-requires c =
    let one = c.in-Some-Some.one in
    let other = c.in-Some-Some.other in
    let room : ForSome (Some (one.total +ℤ other.total)) (IsWithin 126) =
    rw (c.in-Some-Some.is-0, c.in-Some-Some.is-1) at c.requires in
    room _ refl
