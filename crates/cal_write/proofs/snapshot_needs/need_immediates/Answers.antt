use Rattle.std.proofs.Common.{◌≡◌, ℕ, ◌+◌, ◌<◌, List, ap, arith, get_or, length, sym, subst, take}
use Rattle.std.proofs.lemmas.List.{length-set, take_all, take_more_set}
use Rattle.cal_context.specs.declared.snapshot.Immediate.{Immediate}
use Rattle.cal_write.specs.SnapshotNeeds.{NeedsImmediates}
use Rattle.cal_write.proofs.RecordLemmas.{no-immediates, immediates-more}
use Rattle.cal_write.proofs.snapshot_needs.need_immediates.Goals as goal

pub loop-place-init : goal.loop-place-init
loop-place-init c = record {
  room = c.in_ok-make_long.ensures;
  needs = no-immediates c.args.context.now c.args.writer.now;
}

pub loop-place-preserved : goal.loop-place-preserved
loop-place-preserved c =
    let place = c.loop-place.place in
    let ids = c.loop-place.ids.items in
    let id = c.in_ok-ids.field-0 in
    let within : place < length ids =
    omega (arith, c.loop-place.invariant.room, c.loop-place-test.true) in
    record {
      room = omega (arith, length-set ids place id, c.loop-place.invariant.room);
      needs = subst (λ (l : List ℕ). NeedsImmediates c.args.context.now c.args.writer.now
          c.need_attribute.new.self (take (place + 1) c.args.imms.now) l)
          (sym (take_more_set ids place id within))
          (immediates-more c.args.context.now c.args.writer.now c.loop-place.writer
          c.need_attribute.new.self c.args.imms.now (take place ids) place
          (get_or c.args.imms.now place c.index-imms-place.result) id c.loop-place-test.true
          (ap (get_or c.args.imms.now place) c.index-imms-place.is)
          c.loop-place.invariant.needs c.in_ok-ids.ensures.needs);
    }

pub returns-clause-needs : goal.returns-clause-needs
returns-clause-needs c =
    let imms = c.args.imms.now in
    let all : c.loop-place.place ≡ length imms = omega arith in
    subst (λ (l : List Immediate). NeedsImmediates c.args.context.now c.args.writer.now
    c.loop-place.writer l (take (length imms) c.loop-place.ids.items))
    (take_all (length imms) imms (omega arith))
    (subst (λ (n : ℕ). NeedsImmediates c.args.context.now c.args.writer.now c.loop-place.writer
    (take n imms) (take n c.loop-place.ids.items)) all c.loop-place.invariant.needs)
