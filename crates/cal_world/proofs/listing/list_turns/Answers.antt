use Rattle.std.proofs.Common.{◌∙◌, ◌++◌, ◌+◌, ◌<◌, ◌≤◌, List, ap, drop, length, subst}
use Rattle.std.specs.Prelude.{None, flat_map, zip}
use Rattle.std.specs.List.{enumerate_from}
use Rattle.cal_script.specs.declared.journal.ThreadNote.{ThreadNote}
use Rattle.cal_script.specs.declared.script.Line.{Line}
use Rattle.cal_world.proofs.TurnLemmas.{notes-long, threads-end, threads-next}
use Rattle.cal_world.specs.Turns.{turns_of}
use Rattle.cal_world.specs.declared.turn.Turn.{Turn}
use Rattle.cal_world.proofs.listing.list_turns.Goals as goal

pub loop-thread-preserved : goal.loop-thread-preserved
loop-thread-preserved c =
    let threads = c.args.script.now.threads in
    let notes = c.args.journal.now.threads in
    let t = c.loop-thread.thread in
    let ls = c.noted_lines.result.0.now in
    let ns = c.noted_lines.result.1.now in
    let note : ThreadNote = record { start = None; lines = ns } in
    let below : t < length threads = subst (λ (ts : List (List Line)). t < length ts)
    c.as_slice-threads.ensures c.loop-thread-test.true in
    let long = notes-long c.args.script.now c.args.journal.now c.requires.shape in
    ap (λ (ts : List Turn). ts ++ flat_map turns_of
    (enumerate_from (t + 1) (drop (t + 1) (zip threads notes)))) c.in_ok-list_thread.ensures
    ∙ threads-next threads notes t note ls ns c.loop-thread.turns.items _ below long
    (c.noted_lines.ensures.lines ls) (c.noted_lines.ensures.notes note) c.loop-thread.invariant

pub returns : goal.returns
returns c =
    let past : length c.args.script.now.threads ≤ c.loop-thread.thread =
    subst (λ (ts : List (List Line)). length ts ≤ c.loop-thread.thread)
    c.as_slice-threads.ensures c.loop-thread-test.false in
    threads-end c.args.script.now.threads c.args.journal.now.threads c.loop-thread.thread
    c.loop-thread.turns.items _ past c.loop-thread.invariant
