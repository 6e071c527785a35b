use Rattle.std.proofs.Common.{◌≡◌, ◌<◌, List, length, get_or, subst, ap, arith}
use Rattle.std.proofs.lemmas.List.Sums.{count_by-le-length, sum_by_more_le_part}
use Rattle.cal_script.specs.declared.journal.LineNote.{LineNote}
use Rattle.cal_script.specs.declared.journal.ThreadNote.{ThreadNote}
use Rattle.cal_call.specs.Refusals.{is_refusal, refused_of}
use Rattle.cal_call.proofs.counting.count_refused.Goals as goal

-- no more lines are refused than there are
pub overflow_add-refused : goal.overflow_add-refused
overflow_add-refused c =
    let thread = c.thread-item.result in
    let place = c.loop-thread.thread-index in
    let threads = c.args.journal.now.threads in
    let items = c.as_slice-thread-items.ensures in
    let within : place < length threads =
    subst (λ (xs : List ThreadNote). place < length xs) items c.loop-thread-test.true in
    let at : thread ≡ get_or threads place thread =
    subst (λ (xs : List ThreadNote). thread ≡ get_or xs place thread) items c.thread-item.is in
    let count = λ (t : ThreadNote). length t.lines in
    let refuses = λ (n : LineNote). is_refusal n.reply in
    let part = sum_by_more_le_part refused_of count threads place thread within
    (λ t. count_by-le-length refuses t.lines) in
    omega (
      arith,
      part,
      ap count at,
      count_by-le-length refuses thread.lines,
      c.loop-thread.invariant,
      c.count_in-refused.ensures,
      c.requires,
    )
