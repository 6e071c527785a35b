use Rattle.std.proofs.Common.{◌+◌, ◌<◌, ◌≤◌, ◌++◌, drop, length, ap, subst, sym, ◌∙◌, arith}
use Rattle.std.specs.List.{All}
use Rattle.cal_run.proofs.PlainLemmas.{history-long, start-process, threads-drop, threads-end}
use Rattle.cal_run.proofs.PlainLemmas.{total-next, total-room}
use Rattle.cal_run.specs.Plain.{plain_history, threads_from}
use Rattle.cal_script.specs.Valid.{IsPlaced}
use Rattle.cal_run.proofs.plain.note_threads.Goals as goal

pub loop-number-init : goal.loop-number-init
loop-number-init c =
    let script = c.args.script.now in
    let start = c.new-process.ensures in
    let long = history-long script 0 script.threads in
    record {
      process = start-process script c.args.history.now c.new-process.result start.board
          start.count;
      count = (let none = start.count in omega (arith, none, long));
      so_far = (λ j. c.new-notes.ensures j ++ threads_from script (start.count j) script.threads);
    }

pub note_lines-requires-clause-placed : goal.note_lines-requires-clause-placed
note_lines-requires-clause-placed c =
    let script = c.args.script.now in
    let t = c.lines_of_thread-lines.result.now in
    let below : c.loop-number.number < length script.threads = omega arith in
    subst (All (IsPlaced script.attributes script.channels script.values))
    (sym (c.lines_of_thread-lines.ensures t))
    (c.requires.runnable.places c.loop-number.number t below)

pub note_lines-requires-clause-room : goal.note_lines-requires-clause-room
note_lines-requires-clause-room c =
    let script = c.args.script.now in
    let t = c.lines_of_thread-lines.result.now in
    let below : c.loop-number.number < length script.threads = omega arith in
    let all = ap length c.requires.history in
    let room = total-room script c.loop-number.process.count (length (plain_history script))
    script.threads c.loop-number.number t below
    (c.lines_of_thread-lines.ensures t) c.loop-number.invariant.count in
    omega (arith, all, room)

pub loop-number-preserved : goal.loop-number-preserved
loop-number-preserved c =
    let old = c.loop-number.invariant in
    let script = c.args.script.now in
    let i = c.loop-number.number in
    let t = c.lines_of_thread-lines.result.now in
    let is = c.lines_of_thread-lines.ensures t in
    let below : i < length script.threads = omega arith in
    let step = c.in_ok-noted.ensures in
    record {
      process = step.process;
      count = total-next script c.loop-number.process.count c.note_lines.new.process.count
          (length (plain_history script))
          script.threads i t below is old.count step.count;
      so_far = (λ j. c.in_ok-push.ensures.ok j ++ threads_from script (step.count j)
          (drop (i + 1) script.threads))
          ∙ threads-drop script c.loop-number.process.count script.threads i t
          c.start_reading-start.result c.in_ok-noted.noted
          c.loop-number.notes _ below is c.start_reading-start.ensures step.noted old.so_far;
    }

pub returns : goal.returns
returns c =
    let past : length c.args.script.now.threads ≤ c.loop-number.number = omega arith in
    threads-end c.args.script.now c.loop-number.process.count c.args.script.now.threads
    c.loop-number.number c.loop-number.notes _
    past c.loop-number.invariant.so_far
