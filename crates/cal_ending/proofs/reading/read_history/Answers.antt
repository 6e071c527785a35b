use Rattle.std.proofs.Common.{◌+◌, ℕ, List, [], ◌∷◌, ◌++◌, arith, refl, sym, ap, ◌∙◌}
use Rattle.std.proofs.lemmas.List.{length-append, map-append}
use Rattle.cal_ending.proofs.HistoryLemmas.{is-known, is-whole, knows-own}
use Rattle.cal_ending.proofs.WholeLemmas.{learns-nothing, learns-then, none-learns}
use Rattle.cal_ending.specs.Whole.{IsWhole}
use Rattle.cal_once.specs.Seats.{view}
use Rattle.cal_once.specs.declared.view.View.{View}
use Rattle.cal_plog.specs.Seats.{plan_of, slots_of}
use Rattle.cal_process.proofs.TakingLemmas.{only-learns, seen-more, seen-within}
use Rattle.cal_process.specs.Operations.{placed_as}
use Rattle.cal_script.specs.declared.journal.Placed.{Placed}
use Rattle.cal_words.specs.declared.sort.OpSort.{OpSort}
use Rattle.cal_ending.proofs.reading.read_history.Goals as goal
use Rattle.cal_ending.proofs.reading.read_history.Goals.{In_default}

pub loop-op-init : goal.loop-op-init
loop-op-init c = record {
  seat = c.requires.seat;
  learns = learns-nothing (view c.args.log.now);
  looks = refl;
  read = ([], c.new-history.ensures, (λ k d l. absurd (omega (arith, l))), refl);
}

pub next-requires-clause-place : goal.next-requires-clause-place
next-requires-clause-place c =
    let r = c.loop-op.invariant.read in
    let inside = seen-within (slots_of c.args.common.now.log) (view c.loop-op.log) r.0 r.2 in
    let long = r.3 in
    omega (arith, long, inside)

pub loop-op-preserved : goal.loop-op-preserved
loop-op-preserved c =
    let i = c.loop-op.invariant in
    let op = c.in-Some.op in
    let answer = c.in-Some.ensures.answer in
    let slots : ℕ = slots_of c.args.common.now.log in
    let v = view c.loop-op.log in
    let w = view c.next.new.seat in
    let ops = i.read.0 in
    record {
      seat = c.in-Some.ensures.seat;
      learns = learns-then (view c.args.log.now) v w i.learns (only-learns v w answer.learns);
      looks = ap (λ (x : View OpSort). x.looks) answer.learns.same ∙ i.looks;
      read = (
        ops ++ op ∷ [],
        c.in_ok-push.ensures.ok ∙ ap (λ (ps : List Placed). ps ++ placed_as op ∷ []) i.read.1
            ∙ sym (map-append placed_as ops (op ∷ [])),
        seen-more slots v w ops op c.loop-op.place answer.learns.more i.read.2 i.read.3
            answer.has_op,
        length-append ops (op ∷ []) ∙ ap (λ (n : ℕ). n + 1) i.read.3,
      );
    }

-- nothing was found at the end, so all was read
whole : (c : In_default)
    → IsWhole c.args.common.now c.args.log.now c.next.new.seat c.loop-op.history
whole c =
    let i = c.loop-op.invariant in
    is-whole c.args.common.now c.args.log.now c.loop-op.log c.next.new.seat c.loop-op.history
    i.read.0 c.loop-op.place c.in_default.ensures.seat i.learns i.looks i.read.1 i.read.2 i.read.3
    c.in_default.ensures.answer

pub returns-clause-whole : goal.returns-clause-whole
returns-clause-whole c = whole (goal.at.returns-clause-whole c).In_default

pub returns-clause-known : goal.returns-clause-known
returns-clause-known c =
    is-known c.args.common.now c.args.log.now c.next.new.seat c.loop-op.history
    c.in_default.ensures.seat (whole (goal.at.returns-clause-known c).In_default) c.requires.common

pub returns-clause-own : goal.returns-clause-own
returns-clause-own c =
    let v = view c.loop-op.log in
    let w = view c.next.new.seat in
    knows-own c.args.common.now c.args.log.now c.next.new.seat c.loop-op.history
    c.in_default.ensures.seat (whole (goal.at.returns-clause-own c).In_default)
    (learns-then (view c.args.log.now) v w c.loop-op.invariant.learns
    (none-learns (plan_of c.args.common.now.log) v w c.loop-op.place c.in_default.ensures.answer))
