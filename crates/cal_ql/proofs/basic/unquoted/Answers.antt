use Rattle.std.proofs.Common.{rules}
use Rattle.std.specs.Str.Iter.{chars_rest}
use Rattle.cal_ql.specs.Tokens.{unquoted}
use Rattle.cal_ql.proofs.Quotes.{taken_step, plain_step}
use Rattle.cal_ql.proofs.basic.unquoted.Goals as goal

pub loop-character-preserved-then-behind_backslash :
    goal.loop-character-preserved-then-behind_backslash
loop-character-preserved-then-behind_backslash c =
    let says = rw c.if-behind_backslash.true at c.loop-character.invariant in
    taken_step c.loop-character.text c.push.new.self (chars_rest c.loop-character.character-iterator) (chars_rest c.next.new.self) (unquoted c.args.raw.now)
    c.in-Some.character c.in-Some.ensures.steps.0 (search rules) says

pub loop-character-preserved : goal.loop-character-preserved
loop-character-preserved c =
    let says = rw c.if-behind_backslash.false at c.loop-character.invariant in
    rw c.if-behind_backslash.false
    (plain_step c.loop-character.text c.push-else-character-eq92.new.self (chars_rest c.loop-character.character-iterator) (chars_rest c.next.new.self) (unquoted c.args.raw.now)
    c.in-Some.character (search rules) c.in-Some.ensures.steps.0 (search rules) says)
