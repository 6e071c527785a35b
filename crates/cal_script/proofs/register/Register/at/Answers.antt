use Rattle.std.proofs.Common.{Some, refl, sym, ap, ◌∙◌, arith}
use Rattle.std.specs.Cmp.Lexicographic.{bytes_decides}
use Rattle.std.proofs.lemmas.Option.{slice_get-get_or}
use Rattle.cal_script.proofs.Registers.{place_at, registered_below}
use Rattle.cal_script.proofs.register.Register.at.Goals as goal

pub returns-clause-item : goal.returns-clause-item
returns-clause-item g c =
    let item = c.index-items-place.result in
    let here = rw c.as_slice-items.ensures at c.index-items-place.is in
    slice_get-get_or c.args.self.now.items c.args.place item
    (omega (arith, registered_below g.T.Named.name_of c.args.self.now c.requires, c.len-count.ensures.len, c.if-place-count.false))
    ∙ ap Some (sym here)

pub returns-clause-found : goal.returns-clause-found
returns-clause-found g c =
    let item = c.index-items-place.result in
    let name = g.T.Named.name_of item in
    place_at g.T.Named.name_of c.args.self.now name c.args.place item c.requires c.len-count.ensures.unique
    (omega (arith, registered_below g.T.Named.name_of c.args.self.now c.requires, c.len-count.ensures.len, c.if-place-count.false))
    (rw c.as_slice-items.ensures at c.index-items-place.is)
    ((bytes_decides name name).1 refl)
