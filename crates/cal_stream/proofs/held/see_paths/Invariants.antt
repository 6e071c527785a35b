use Rattle.std.proofs.Common.{List, take}
use Rattle.std.specs.List.{All}
use Rattle.cal_value.specs.declared.attribute.Entry.{Entry}
use Rattle.cal_stream.specs.Readable.{IsHeldEntry}
use Rattle.cal_stream.proofs.held.see_paths.Given as goal

abbrev pub invariant-loop-path : goal.invariant-loop-path
invariant-loop-path l = All (λ (path : List Entry). All IsHeldEntry path)
    (take l.path-index l.paths)
