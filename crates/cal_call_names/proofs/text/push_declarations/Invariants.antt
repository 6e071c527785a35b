use Rattle.std.proofs.Common.{◌≡◌, ◌++◌, take}
use Rattle.std.specs.List.{flat_map}
use Rattle.cal_call_names.specs.Listing.{declaration_line}
use Rattle.cal_call_names.proofs.text.push_declarations.Given as goal

-- the declarations so far have their lines
abbrev pub invariant-loop-declared : goal.invariant-loop-declared
invariant-loop-declared l =
    l.text ≡ l.fn.text ++ flat_map declaration_line (take l.declared-index l.kept)
