use Rattle.std.proofs.Common.{◌≡◌, sym}
use Rattle.cal_gen.specs.Draws.{drawn, next}
use Rattle.cal_gen.specs.Generated.{move_of}
use Rattle.cal_gen.specs.declared.moves.Move.TheVariants.{Begin, End}
use Rattle.cal_gen.proofs.generating.push_line.Goals as goal

pub returns-in_ok-push_begin-in-Begin-clause-text : goal.returns-in_ok-push_begin-in-Begin-clause-text
returns-in_ok-push_begin-in-Begin-clause-text c =
    let is : move_of (drawn 8 (next c.args.draws.now.x)) c.args.depth ≡ Begin = cc in
    rw (is, sym c.draw.ensures.next) c.in_ok-push_begin-in-Begin.ensures.text

pub returns-in_ok-push_str-in-End-clause-text : goal.returns-in_ok-push_str-in-End-clause-text
returns-in_ok-push_str-in-End-clause-text c =
    let is : move_of (drawn 8 (next c.args.draws.now.x)) c.args.depth ≡ End = cc in
    rw is c.in_ok-push_str-in-End.ensures.ok
