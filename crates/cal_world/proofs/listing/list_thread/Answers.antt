use Rattle.std.proofs.Common.{◌∙◌, ◌++◌, ◌+◌, List, ap, drop}
use Rattle.std.specs.Prelude.{zip}
use Rattle.cal_world.proofs.TurnLemmas.{turns-end, turns-next}
use Rattle.cal_world.specs.Turns.{turns_from}
use Rattle.cal_world.specs.declared.turn.Turn.{Turn}
use Rattle.cal_world.proofs.listing.list_thread.Goals as goal

pub loop-place-preserved : goal.loop-place-preserved
loop-place-preserved c =
    let i = c.loop-place.place in
    let l = c.noted_at-line.result.0 in
    let n = c.noted_at-line.result.1 in
    ap (λ (ts : List Turn). ts ++ turns_from c.args.thread (i + 1 + 1) n.seen
    (drop (i + 1) (zip c.args.lines.now c.args.notes.now))) c.in_ok-push.ensures.items
    ∙ turns-next c.args.thread (i + 1) c.loop-place.before c.args.lines.now c.args.notes.now i l n
    c.loop-place.turns.items _ (c.noted_at-line.ensures.line l) (c.noted_at-line.ensures.note n)
    c.loop-place-test.true c.requires.noted c.loop-place.invariant

pub returns : goal.returns
returns c =
    turns-end c.args.thread (c.loop-place.place + 1) c.loop-place.before c.args.lines.now
    c.args.notes.now c.loop-place.place c.loop-place.turns.items _ c.loop-place-test.false
    c.loop-place.invariant
