use Rattle.std.proofs.Common.{◌≡◌, List, length, sym, subst, arith}
use Rattle.std.specs.List.{AllZip}
use Rattle.cal_naming.proofs.Lists.{zip-long}
use Rattle.cal_naming.proofs.Threads.{IsKeepingTo, got, keeping-all, keeping-more, keeping-none}
use Rattle.cal_naming.proofs.Threads.{own-among, own-many, own-told, own-within}
use Rattle.cal_naming.specs.Naming.{all_lines}
use Rattle.cal_naming.specs.Told.{IsTold}
use Rattle.cal_value.specs.declared.attribute.Attribute.{Attribute}
use Rattle.cal_naming.proofs.keep.keep_threads.Goals as goal

pub loop-at-init : goal.loop-at-init
loop-at-init c = subst (λ (kept : List Attribute).
    IsKeepingTo c.args.threads.now c.args.answers.now 0 kept c.args.marks.now)
    (sym c.new-kept.ensures)
    (keeping-none c.args.threads.now c.args.answers.now c.args.marks.now c.requires.can
    c.requires.free)

pub bounds-answers-at : goal.bounds-answers-at
bounds-answers-at c =
    let is = c.loop-at.invariant in
    let long = zip-long (AllZip (IsTold is.plan is.v)) c.args.threads.now c.args.answers.now
    is.settled.told in
    omega (arith, long, c.loop-at-test.true)

pub keep_lines-requires-clause-many : goal.keep_lines-requires-clause-many
keep_lines-requires-clause-many c =
    let is = c.loop-at.invariant in
    let at = c.loop-at.at in
    let less = c.loop-at-test.true in
    let long = zip-long (AllZip (IsTold is.plan is.v)) c.args.threads.now c.args.answers.now
    is.settled.told in
    own-many c.args.threads.now c.args.answers.now at c.loop-at.kept c.loop-at.marks is
    c.as_slice-lines.result.now c.as_slice.result.now
    (got c.args.threads.now at c.index-threads-at.result c.as_slice-lines.result.now less
    c.index-threads-at.is c.as_slice-lines.ensures)
    (got c.args.answers.now at c.index-answers-at.result c.as_slice.result.now
    (omega (arith, long, less)) c.index-answers-at.is c.as_slice.ensures)

pub keep_lines-requires-clause-within : goal.keep_lines-requires-clause-within
keep_lines-requires-clause-within c =
    let is = c.loop-at.invariant in
    let at = c.loop-at.at in
    let less = c.loop-at-test.true in
    let long = zip-long (AllZip (IsTold is.plan is.v)) c.args.threads.now c.args.answers.now
    is.settled.told in
    own-within c.args.threads.now c.args.answers.now at c.loop-at.kept c.loop-at.marks is
    c.as_slice-lines.result.now c.as_slice.result.now
    (got c.args.threads.now at c.index-threads-at.result c.as_slice-lines.result.now less
    c.index-threads-at.is c.as_slice-lines.ensures)
    (got c.args.answers.now at c.index-answers-at.result c.as_slice.result.now
    (omega (arith, long, less)) c.index-answers-at.is c.as_slice.ensures)

pub loop-at-preserved : goal.loop-at-preserved
loop-at-preserved c =
    let is = c.loop-at.invariant in
    let at = c.loop-at.at in
    let less = c.loop-at-test.true in
    let threads = c.args.threads.now in
    let answers = c.args.answers.now in
    let lines = c.as_slice-lines.result.now in
    let own = c.as_slice.result.now in
    let kept = c.loop-at.kept in
    let marks = c.loop-at.marks in
    let long = zip-long (AllZip (IsTold is.plan is.v)) threads answers is.settled.told in
    let lines_are = got threads at c.index-threads-at.result lines less c.index-threads-at.is
    c.as_slice-lines.ensures in
    let own_are = got answers at c.index-answers-at.result own (omega (arith, long, less))
    c.index-answers-at.is c.as_slice.ensures in
    let does = c.in_ok-keep_lines.ensures.kept is.plan is.v (all_lines threads) is.settled.sound
    (own-told threads answers at kept marks is lines own lines_are own_are)
    (own-among threads answers at kept marks is lines own lines_are own_are) is.list in
    keeping-more threads answers at kept marks is lines own lines_are own_are
    c.keep_lines.new.kept c.keep_lines.new.marks does.0 does.1

pub returns : goal.returns
returns c =
    let all : length c.args.threads.now ≡ c.loop-at.at = omega arith in
    keeping-all c.args.threads.now c.args.answers.now c.loop-at.at c.loop-at.kept c.loop-at.marks
    all c.loop-at.invariant
