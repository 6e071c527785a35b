use Rattle.std.proofs.Common.{◌≡◌}
use Rattle.cal_line.specs.FirstFault.{after_lines}
use Rattle.cal_script.specs.Lines.{pieces}
use Rattle.cal_script.specs.Parts.{with_service}
use Rattle.cal_script.specs.Steps.{pieces_behind, rest_length}
use Rattle.cal_script.proofs.channels.add_services.Given as goal

-- the services so far are added, and what comes depends on the others
abbrev pub invariant-loop-rest : goal.invariant-loop-rest
invariant-loop-rest l = record {
  said : after_lines with_service l.channel (pieces_behind 44 l.rest)
      ≡ after_lines with_service l.fn.channel (pieces 44 l.fn.services);
  name : l.channel.name ≡ l.fn.channel.name;
}

abbrev pub decreases-loop-rest : goal.decreases-loop-rest
decreases-loop-rest l = rest_length l.rest
