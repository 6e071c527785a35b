use Rattle.std.proofs.Common.{◌<◌, Some, false, length, sym, ap, ◌∙◌, arith}
use Rattle.std.proofs.lemmas.List.{length-map}
use Rattle.std.proofs.lemmas.Option.{slice_get-map, slice_get-get_or}
use Rattle.cal_line.specs.Spans.{text_of, text_at}
use Rattle.cal_line.proofs.fields.FieldPieces.value.Goals as goal

pub returns : goal.returns
returns c =
    let within : c.args.place < length c.self.inside.values.now = omega (arith, ap (λ field. length field.values) c.self.view_is, length-map c.self.inside.values.now (text_at c.self.inside.line.now)) in
    rw (← c.self.view_is, slice_get-map, slice_get-get_or c.self.inside.values.now c.args.place (record { start = 0; end = 0; has_escape = false }) within)
    (ap Some (sym (c.new.ensures ∙ ap text_of c.range.ensures.value)))
