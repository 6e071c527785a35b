use Rattle.std.proofs.Common.{◌≡◌, ◌<◌, length, get_or, ap, arith}
use Rattle.std.specs.Prelude.{codes}
use Rattle.std.proofs.lemmas.Str.{IsCharBoundary-after_ascii}
use Rattle.cal_read.proofs.UsualNodeLemmas.{id_behind_both, is_usual_node}
use Rattle.cal_read.proofs.usual_node.usual_node.Goals as goal

pub range-requires-clause-start_boundary : goal.range-requires-clause-start_boundary
range-requires-clause-start_boundary c = λ _.
    let within : c.in_ok-place.place < length c.args.line.now = omega (arith, c.in_ok-place.ensures.within, ap length c.as_bytes-bytes.ensures.value) in
    let sign : get_or c.args.line.now c.in_ok-place.place 0 ≡ 61 = rw c.as_bytes-bytes.ensures.value at c.if-bytes-place-ne61.false in
    IsCharBoundary-after_ascii c.args.line.now c.in_ok-place.place c.utf8.line within (omega arith)

pub returns : goal.returns
returns c =
    let within : c.in_ok-place.place < length c.args.line.now = omega (arith, c.in_ok-place.ensures.within, ap length c.as_bytes-bytes.ensures.value) in
    let sign : get_or c.args.line.now c.in_ok-place.place 0 ≡ 61 = rw c.as_bytes-bytes.ensures.value at c.if-bytes-place-ne61.false in
    rw c.range.ensures.value (is_usual_node c.args.line.now c.in_ok-id.id.end c.in_ok-attribute.attribute.end c.in_ok-place.place c.plain_end-end.result c.in_ok-id.id.number c.in_ok-attribute.attribute.number c.in_ok-parent.parent
    (id_behind_both c.args.line.now 0 c.in_ok-start.start c.in_ok-id.id.end (codes "__rec=") (codes "node,id=") c.in_ok-id.id.number c.in_ok-start.ensures c.in_ok-id.ensures) c.in_ok-attribute.ensures c.in_ok-place.ensures within sign c.plain_end-end.ensures c.in_ok-parent.ensures)
