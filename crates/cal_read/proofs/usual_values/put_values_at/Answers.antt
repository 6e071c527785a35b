use Rattle.std.proofs.Common.{◌≡◌, ◌<◌, ◌+◌, ◌++◌, ◌∷◌, [], length, get_or, take, sym, subst, ap, arith}
use Rattle.std.proofs.lemmas.List.{take_more}
use Rattle.std.proofs.lemmas.Str.{IsCharBoundary-after_ascii}
use Rattle.cal_read.specs.UsualValues.{ReadsEntries}
use Rattle.cal_read.proofs.UsualValueLemmas.{entries_more, entries_none, number_known}
use Rattle.cal_read.proofs.usual_values.put_values_at.Goals as goal

pub loop-index-init : goal.loop-index-init
loop-index-init c = record { filled = omega arith; read = entries_none c.args.context.now c.args.nodes.now c.args.line.now c.args.start c.requires.start }

pub attribute_at-requires : goal.attribute_at-requires
attribute_at-requires c = number_known c.args.context.now c.args.nodes.now _ _ c.requires.held c.in-Some.ensures

pub put_value_at-requires-clause-boundary : goal.put_value_at-requires-clause-boundary
put_value_at-requires-clause-boundary c =
    let within : c.loop-index.place < length c.args.line.now = omega (arith, c.loop-index.invariant.read.read.values.within, ap length c.as_bytes-bytes.ensures.value) in
    let sign : get_or c.args.line.now c.loop-index.place 0 ≡ 61 = rw c.as_bytes-bytes.ensures.value at c.if-bytes-place-ne61.false in
    IsCharBoundary-after_ascii c.args.line.now c.loop-index.place c.utf8.line within (omega arith)

pub loop-index-preserved : goal.loop-index-preserved
loop-index-preserved c =
    let t = c.args.context.now in
    let nodes = c.args.nodes.now in
    let line = c.args.line.now in
    let ids = c.args.ids.now in
    let index = c.loop-index.index in
    let end = c.in_ok-place.place in
    let id = get_or ids index 0 in
    let before = take index c.loop-index.imms.items in
    let after = take (index + 1) c.put_value_at.new.imms.items in
    let within : c.loop-index.place < length line = omega (arith, c.loop-index.invariant.read.read.values.within, ap length c.as_bytes-bytes.ensures.value) in
    let sign : get_or line c.loop-index.place 0 ≡ 61 = rw c.as_bytes-bytes.ensures.value at c.if-bytes-place-ne61.false in
    let puts = c.in_ok-place.ensures in
    let is = rw c.attribute_at.ensures at puts.at in
    let known = number_known t nodes id c.in-Some.attribute c.requires.held c.in-Some.ensures in
    let more = entries_more t nodes line c.args.start (take index ids) id c.loop-index.place end before c.in-Some.attribute puts.value c.loop-index.invariant.read c.in-Some.ensures known within sign is.plain is.is in
    record {
      filled = omega (arith, puts.put.there);
      read = subst (λ l. ReadsEntries t nodes l line c.args.start end after) (sym (take_more ids index 0 c.loop-index-test.true))
          (subst (λ l. ReadsEntries t nodes (take index ids ++ id ∷ []) line c.args.start end l) (sym puts.put.items) more);
    }
