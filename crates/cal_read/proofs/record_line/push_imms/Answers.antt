use Rattle.std.proofs.Common.{◌≡◌, ◌<◌, length, map, refl, arith}
use Rattle.std.specs.List.{zip}
use Rattle.std.proofs.lemmas.Option.{slice_get-get_or}
use Rattle.cal_context.specs.Snapshots.{entry_of as imm_entry}
use Rattle.cal_context.specs.Tree.{attribute_at}
use Rattle.cal_read.specs.RecordLines.{entry_of}
use Rattle.cal_read.proofs.ColumnLemmas.{entry_err, imms_known, imms_read, pair_at, pairs_past}
use Rattle.cal_read.proofs.EachLemmas.{each_err, each_all}
use Rattle.cal_read.proofs.record_line.push_imms.Goals as goal

pub returns-in-Err-clause-read : goal.returns-in-Err-clause-read
returns-in-Err-clause-read c =
    let within : c.loop-place.place < length c.args.numbers.now = omega arith in
    each_err entry_of {C = Unit {0}} (λ _ entries. map (imm_entry c.args.context.now) c.loop-place.imms.items ≡ entries)
    (zip (map (attribute_at c.args.context.now) c.args.numbers.now) c.args.texts.now.values) c.loop-place.place _
    (pair_at c.args.context.now c.args.numbers.now c.args.texts.now.values c.loop-place.place _ c.value.result
    (slice_get-get_or c.args.numbers.now c.loop-place.place _ within) c.value.ensures)
    (map (imm_entry c.args.context.now) c.loop-place.imms.items) c.loop-place.invariant.read c.in-Err.end
    (entry_err _ c.value.result c.in-Err.end c.in-Err.ensures)

pub loop-place-preserved : goal.loop-place-preserved
loop-place-preserved c =
    let within : c.loop-place.place < length c.args.numbers.now = omega arith in
    record {
      known = imms_known c.args.context.now c.loop-place.imms.items c.push.new.self.items _ c.in-Ok.value c.in_ok-push-in-Ok.ensures.items c.loop-place.invariant.known
          (c.requires.known c.loop-place.place _ within);
      read = imms_read c.args.context.now c.loop-place.imms.items c.push.new.self.items _ c.in-Ok.value c.in_ok-push-in-Ok.ensures.items c.args.numbers.now c.args.texts.now.values
          c.loop-place.place c.value.result (slice_get-get_or c.args.numbers.now c.loop-place.place _ within) c.value.ensures c.loop-place.invariant.read c.in-Ok.ensures;
    }

pub returns-clause-read : goal.returns-clause-read
returns-clause-read c = (
  map (imm_entry c.args.context.now) c.loop-place.imms.items,
  each_all entry_of (zip (map (attribute_at c.args.context.now) c.args.numbers.now) c.args.texts.now.values) c.loop-place.place (map (imm_entry c.args.context.now) c.loop-place.imms.items)
      (pairs_past c.args.context.now c.args.numbers.now c.args.texts.now.values c.loop-place.place (omega arith)) c.loop-place.invariant.read,
  refl,
)
