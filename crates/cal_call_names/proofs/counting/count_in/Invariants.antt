use Rattle.std.proofs.Common.{◌≡◌, ◌≤◌, take}
use Rattle.cal_call_names.specs.Listing.{refused_of}
use Rattle.cal_call_names.proofs.counting.count_in.Given as goal

-- the replies so far
abbrev pub invariant-loop-reply : goal.invariant-loop-reply
invariant-loop-reply l = record {
  counted : l.refused ≡ refused_of (take l.reply-index l.replies);
  few : l.refused ≤ l.reply-index;
}
