use Rattle.std.proofs.Common.{◌<◌, List, length, take, get_or, refl, ◌∙◌, subst, arith}
use Rattle.std.specs.Prelude.{Contains}
use Rattle.std.specs.List.{AllZip}
use Rattle.std.proofs.lemmas.List.{take_all}
use Rattle.cal_names.specs.declared.declare.Declared.{Declared}
use Rattle.std.proofs.lemmas.Option.{slice_get-get_or}
use Rattle.cal_names.specs.declared.declare.Declared.TheVariants.{Same}
use Rattle.cal_naming.proofs.Listing.{all-of-itself}
use Rattle.cal_naming.proofs.Lists.{all-at, zip-at}
use Rattle.cal_naming.proofs.Threads.{got, lines-more}
use Rattle.cal_naming.specs.Keeping.{IsListed}
use Rattle.cal_naming.specs.Told.{IsTold}
use Rattle.cal_value.specs.declared.attribute.Attribute.{Attribute}
use Rattle.cal_naming.proofs.keep.keep_lines.Goals as goal

pub loop-at-init : goal.loop-at-init
loop-at-init c = record {
  marks = refl;
  kept = λ plan v all sound told among is.
      (record { list = is; more = all-of-itself c.args.kept.now }, tt);
}

pub keep_line-requires : goal.keep_line-requires
keep_line-requires c =
    let less : c.loop-at.at < length c.args.answers.now =
    omega (arith, c.requires.many, c.loop-at-test.true) in
    let here = c.requires.within c.loop-at.at (Same 0) less in
    omega (arith, here, c.loop-at.invariant.marks)

pub loop-at-preserved : goal.loop-at-preserved
loop-at-preserved c = record {
  marks = c.keep_line.ensures.marks ∙ c.loop-at.invariant.marks;
  kept = λ plan v all sound told among is.
      let at = c.loop-at.at in
      let lines = c.args.lines.now in
      let answers = c.args.answers.now in
      let line = c.index-lines-at.result in
      let answer = get_or answers at (Same 0) in
      let less : at < length answers = omega (arith, c.requires.many, c.loop-at-test.true) in
      let line_is = got lines at line line c.loop-at-test.true c.index-lines-at.is refl in
      let answer_is = slice_get-get_or answers at (Same 0) less in
      let was = c.loop-at.invariant.kept plan v all sound told among is in
      let does = c.in_ok-keep_line.ensures.kept plan v all sound
      (zip-at (IsTold plan v) lines answers at line answer told line_is answer_is)
      (all-at (Contains all) lines at line among line_is) was.0.list in
      lines-more plan v all lines answers at line answer c.args.kept.now c.loop-at.kept
      c.keep_line.new.kept c.loop-at.marks c.keep_line.new.marks sound line_is answer_is was does;
}

pub returns-clause-kept : goal.returns-clause-kept
returns-clause-kept c plan v all sound told among is =
    let at = c.loop-at.at in
    let lines = c.args.lines.now in
    let answers = c.args.answers.now in
    let kept = c.loop-at.kept in
    let r = c.loop-at.invariant.kept plan v all sound told among is in (
      r.0,
      subst (λ (ls : List Attribute). AllZip (IsListed kept) ls answers)
          (take_all at lines (omega arith))
          (subst (λ (own : List Declared). AllZip (IsListed kept) (take at lines) own)
          (take_all at answers (omega (arith, c.requires.many))) r.1),
    )
