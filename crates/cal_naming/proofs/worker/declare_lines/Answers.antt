use Rattle.std.proofs.Common.{◌≡◌, ◌+◌, List, ◌++◌, ◌∷◌, [], IsTrue, length-set, set, take}
use Rattle.std.proofs.Common.{refl, sym, ap, ◌∙◌, subst, arith}
use Rattle.std.proofs.lemmas.List.{take_all, take_more, take_more_set}
use Rattle.cal_declarations.specs.Layout.{record_words}
use Rattle.cal_names.specs.Kept.{plan_of}
use Rattle.cal_names.specs.declared.declare.Declared.{Declared}
use Rattle.cal_naming.proofs.Telling.{declared-more, declared-none, words-so-far}
use Rattle.cal_naming.specs.Told.{HasDeclared}
use Rattle.cal_once.specs.Seats.{view}
use Rattle.cal_script.specs.Names.{is_name}
use Rattle.cal_value.specs.declared.attribute.Attribute.{Attribute}
use Rattle.cal_naming.proofs.worker.declare_lines.Goals as goal

pub loop-at-init : goal.loop-at-init
loop-at-init c = record {
  seat = c.requires.seat;
  number = refl;
  many = c.requires.answers;
  declared = declared-none (plan_of c.args.names.now) (view c.args.seat.now) c.requires.used
      c.requires.published;
}

pub declare_line-requires-clause-named : goal.declare_line-requires-clause-named
declare_line-requires-clause-named c =
    subst (λ (x : Attribute). IsTrue (is_name x.name)) (sym c.index-lines-at.is)
    (c.requires.named c.loop-at.at c.index-lines-at.result c.loop-at-test.true)

pub returns-in-None-clause-room : goal.returns-in-None-clause-room
returns-in-None-clause-room c room =
    let line = c.index-lines-at.result in
    let so_far = words-so-far c.args.lines.now c.loop-at.at line c.loop-at-test.true in
    let same = ap record_words c.index-lines-at.is in
    c.in-None.ensures.room
    (omega (arith, so_far, same, c.loop-at.invariant.declared.used, room))

pub loop-at-preserved : goal.loop-at-preserved
loop-at-preserved c =
    let plan = plan_of c.args.names.now in
    let v = view c.loop-at.seat in
    let w = view c.declare_line.new.seat in
    let at = c.loop-at.at in
    let lines = c.args.lines.now in
    let answers = c.loop-at.answers in
    let line = c.index-lines-at.result in
    let answer = c.in-Some.answer in
    let was = c.loop-at.invariant in
    let does = c.in-Some.ensures in
    let lines_are : take (at + 1) lines ≡ take at lines ++ line ∷ [] =
    take_more lines at line c.loop-at-test.true
    ∙ ap (λ (x : Attribute). take at lines ++ x ∷ []) (sym c.index-lines-at.is) in
    let answers_are : take (at + 1) (set answers at answer) ≡ take at answers ++ answer ∷ [] =
    take_more_set answers at answer (omega (arith, was.many, c.loop-at-test.true)) in
    record {
      seat = does.seat;
      number = does.later.1 ∙ was.number;
      many = length-set answers at answer ∙ was.many;
      declared = subst (λ (ls : List Attribute).
          HasDeclared plan w ls (take (at + 1) (set answers at answer))) (sym lines_are)
          (subst (λ (own : List Declared). HasDeclared plan w (take at lines ++ line ∷ []) own)
          (sym answers_are)
          (declared-more plan v w (take at lines) (take at answers) line answer was.declared
          does.later.3 does.told does.published));
    }

pub returns-clause-declared : goal.returns-clause-declared
returns-clause-declared c all =
    let plan = plan_of c.args.names.now in
    let w = view c.loop-at.seat in
    let at = c.loop-at.at in
    let lines = c.args.lines.now in
    let answers = c.loop-at.answers in
    let was = c.loop-at.invariant in
    subst (λ (ls : List Attribute). HasDeclared plan w ls answers)
    (take_all at lines c.loop-at-test.false)
    (subst (λ (own : List Declared). HasDeclared plan w (take at lines) own)
    (take_all at answers (omega (arith, was.many, c.loop-at-test.false))) was.declared)
