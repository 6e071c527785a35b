use Rattle.std.proofs.Common.{◌≡◌, ◌<◌, ◌≤◌, [], ◌∷◌, ◌++◌, length, take, sym, ◌∙◌, ap, arith, subst}
use Rattle.std.proofs.lemmas.List.{length-take-le, take_all, take_more}
use Rattle.cal_context.specs.declared.snapshot.Immediate.{Immediate}
use Rattle.cal_filter.specs.Latest.{IsLatest}
use Rattle.cal_filter.proofs.latest.Latest.note_all.Goals as goal

pub loop-place-preserved : goal.loop-place-preserved
loop-place-preserved c =
    let imms = c.args.imms.now in
    let i = c.loop-place.place in
    let x = c.index-imms-place.result in
    let short : i < length imms = omega arith in
    let before : i ≤ length imms = omega (arith, short) in
    record {
      names = c.note.ensures.names ∙ c.loop-place.invariant.names;
      follows = λ t within h.
          subst (IsLatest t c.note.new.self)
          (sym (take_more imms i x short ∙ ap (λ y. take i imms ++ y ∷ []) (sym c.index-imms-place.is)))
          (c.note.ensures.follows t (take i imms) (sym (length-take-le i imms before))
          (subst (λ (y : Immediate). y.attribute.0 < length t.attributes) (sym c.index-imms-place.is)
          (within i x short))
          (c.loop-place.invariant.follows t within h));
    }

pub returns-clause-follows : goal.returns-clause-follows
returns-clause-follows c = λ t within h.
    subst (IsLatest t c.loop-place.self) (take_all c.loop-place.place c.args.imms.now (omega arith))
    (c.loop-place.invariant.follows t within h)

pub returns-clause-names : goal.returns-clause-names
returns-clause-names c = c.loop-place.invariant.names
