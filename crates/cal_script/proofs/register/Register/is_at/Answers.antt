use Rattle.std.proofs.Common.{sym, ap, ◌∙◌, arith}
use Rattle.std.specs.Str.{bytes_eq}
use Rattle.cal_script.proofs.Registers.{place_at, registered_below}
use Rattle.cal_script.proofs.register.Register.is_at.Goals as goal

pub returns : goal.returns
returns g c = λ same.
    let item = c.index-items-place.result in
    place_at g.T.Named.name_of c.args.self.now c.args.name.now c.args.place item c.requires c.len-count.ensures.unique
    (omega (arith, registered_below g.T.Named.name_of c.args.self.now c.requires, c.len-count.ensures.len, c.if-place-count.false))
    (rw c.as_slice-items.ensures at c.index-items-place.is)
    (ap (bytes_eq c.args.name.now) (sym c.name.ensures) ∙ sym c.eq.ensures ∙ same)
