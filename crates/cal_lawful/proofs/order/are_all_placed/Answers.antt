use Rattle.std.proofs.Common.{Global, Vec, ℕ, ◌≡◌, ◌<◌, ap, arith, false, get_or, length, refl}
use Rattle.std.proofs.Common.{true}
use Rattle.cal_lawful.proofs.OrderLemmas.{lacks-order, lists-long, whole-order}
use Rattle.cal_lawful.proofs.order.are_all_placed.Goals as goal

pub bounds-counts-thread : goal.bounds-counts-thread
bounds-counts-thread c =
    let long = lists-long c.args.script.now c.args.lists.now c.requires.listed in
    let counted = c.requires.counted.long in
    omega (arith, long, counted)

pub returns-then-counts-thread : goal.returns-then-counts-thread
returns-then-counts-thread c =
    let list = c.index-lists-thread.result in
    let same : length list.items ≡ length (get_or c.args.lists.now c.loop-thread.thread list).items
    =
    ap (λ (v : Vec ℕ Global). length v.items) c.index-lists-thread.is in
    let long = list.ok.0 in
    let len = c.len.ensures in
    let less = c.if-counts-thread.true in
    let fewer : get_or c.args.counts.now c.loop-thread.thread 0 < length
    (get_or c.args.lists.now c.loop-thread.thread list).items =
    omega (arith, same, long, len, less) in (
      (λ no. let no : false ≡ true = no in cc),
      (λ order. absurd (lacks-order c.args.script.now c.args.lists.now c.requires.listed
          c.args.ops.now c.args.counts.now c.requires.counted
          c.loop-thread.thread list c.loop-thread-test.true fewer order)),
    )

pub returns : goal.returns
returns c = (
  (λ yes. whole-order c.args.script.now c.args.lists.now c.requires.listed c.args.ops.now
      c.args.counts.now c.requires.counted
      (λ k d below. c.loop-thread.invariant k d (omega (arith, below)))),
  (λ order. refl),
)
