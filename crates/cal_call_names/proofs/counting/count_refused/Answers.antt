use Rattle.std.proofs.Common.{List, length, ap, arith}
use Rattle.std.proofs.lemmas.List.Sums.{count_by-le-length, sum_by_more_le_part}
use Rattle.cal_naming.specs.declared.reply.NameReply.{NameReply}
use Rattle.cal_call_names.specs.Listing.{is_refusal, refused_of}
use Rattle.cal_call_names.proofs.counting.count_refused.Goals as goal

-- no more declarations are refused than there are
pub overflow_add-refused : goal.overflow_add-refused
overflow_add-refused c =
    let thread = c.thread-item.result in
    let count = λ (r : List NameReply). length r in
    let part = sum_by_more_le_part refused_of count c.args.replies.now c.loop-thread.thread-index
    thread c.loop-thread-test.true (λ r. count_by-le-length is_refusal r) in
    omega (
      arith,
      part,
      ap count c.thread-item.is,
      count_by-le-length is_refusal thread,
      c.loop-thread.invariant,
      c.count_in-refused.ensures,
      ap refused_of c.as_slice.ensures,
      c.requires,
    )
