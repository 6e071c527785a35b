use Rattle.std.proofs.Common.{◌≡◌, length, map}
use Rattle.std.specs.Prelude.{zip}
use Rattle.cal_steps.proofs.TakingLemmas.{changed_to}
use Rattle.cal_steps.proofs.thread.take_all.Given as goal
use Rattle.cal_steps.specs.Sights.{held_with, shown_at}

-- the channels so far have taken the line
abbrev pub invariant-loop-place : goal.invariant-loop-place
invariant-loop-place l = record {
  long : length l.channels.items ≡ length l.script.channels;
  taken : changed_to (held_with l.script l.line (shown_at l.board l.process l.readings l.reading))
      l.script.channels l.place l.channels.items
      ≡ map (held_with l.script l.line (shown_at l.board l.process l.readings l.reading))
      (zip l.script.channels l.fn.channels.items);
}
