use Rattle.std.proofs.Common.{◌≡◌, []}
use Rattle.cal_line.specs.FirstFault.{after_lines}
use Rattle.cal_script.specs.Lines.{pieces}
use Rattle.cal_script.specs.Parts.{attribute_names, with_name}
use Rattle.cal_script.specs.Registers.{IsNames}
use Rattle.cal_script.specs.Steps.{pieces_behind, rest_length}
use Rattle.cal_script.proofs.lists.read_names.Given as goal

-- the names so far are added, and what comes depends on the others
abbrev pub invariant-loop-rest : goal.invariant-loop-rest
invariant-loop-rest l = record {
  said : after_lines (with_name l.is_key (attribute_names l.declared.items)) l.names.items (pieces_behind 32 l.rest)
      ≡ after_lines (with_name l.is_key (attribute_names l.declared.items)) [] (pieces 32 l.fn.text);
  kept : IsNames l.names;
}

abbrev pub decreases-loop-rest : goal.decreases-loop-rest
decreases-loop-rest l = rest_length l.rest
