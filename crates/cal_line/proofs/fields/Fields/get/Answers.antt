use Rattle.std.proofs.Common.{◌<◌, false, length, refl, ap, arith}
use Rattle.std.proofs.lemmas.List.{length-map}
use Rattle.std.proofs.lemmas.Option.{slice_get-map, slice_get-get_or}
use Rattle.cal_line.proofs.fields.Fields.get.Goals as goal
use Rattle.cal_line.specs.Spans.{field_at}

pub returns : goal.returns
returns c =
    let within : c.args.place < length c.self.inside.fields.now = omega (arith, ap length c.self.view_is, length-map c.self.inside.fields.now (field_at c.self.inside.line.now c.self.inside.values.now)) in
    rw (← c.self.view_is, slice_get-map, slice_get-get_or c.self.inside.fields.now c.args.place (record { key = record { start = 0; end = 0; has_escape = false }; first = 0; after = 0 }) within) refl
