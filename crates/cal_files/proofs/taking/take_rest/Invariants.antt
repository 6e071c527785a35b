use Rattle.std.proofs.Common.{◌≡◌, ◌+◌, ◌-◌, ◌<◌, ◌≤◌, length, vec_len}
use Rattle.cal_base.specs.Told.{Takes}
use Rattle.cal_files.proofs.taking.take_rest.Given as goal

-- what was taken so far, within what is allowed, and nothing was opened
abbrev pub invariant-loop-taken : goal.invariant-loop-taken
invariant-loop-taken g l =
    let source = g.O.Opener in
    record {
      taken : Takes (source.left l.fn.opener) (source.left l.opener) l.taken.items;
      within : vec_len l.taken ≤ l.allowed;
      room : 0 < length l.buffer;
      later : source.read_faults l.fn.opener ≤ source.read_faults l.opener;
      opens : source.open_faults l.opener ≡ source.open_faults l.fn.opener;
      openings : source.openings l.opener ≡ source.openings l.fn.opener;
      content : source.content l.opener ≡ source.content l.fn.opener;
    }

abbrev pub decreases-loop-taken : goal.decreases-loop-taken
decreases-loop-taken g l = l.allowed + 1 - vec_len l.taken
