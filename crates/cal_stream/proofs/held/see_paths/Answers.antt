use Rattle.std.proofs.Common.{arith}
use Rattle.std.proofs.Common.{List}
use Rattle.std.specs.List.{All}
use Rattle.cal_value.specs.declared.attribute.Entry.{Entry}
use Rattle.cal_stream.specs.Readable.{IsHeldEntry}
use Rattle.cal_stream.proofs.Seen.{all-more, all-seen}
use Rattle.cal_stream.proofs.held.see_paths.Goals as goal

pub loop-path-preserved : goal.loop-path-preserved
loop-path-preserved c =
    all-more (λ (path : List Entry). All IsHeldEntry path) c.args.paths.now
    c.as_slice-path-items.result.now
    c.loop-path.path-index c.path-item.result c.as_slice-path-items.ensures (omega arith)
    c.path-item.is c.loop-path.invariant c.see_entries.ensures

pub returns : goal.returns
returns c =
    all-seen (λ (path : List Entry). All IsHeldEntry path) c.args.paths.now
    c.as_slice-path-items.result.now
    c.loop-path.path-index c.as_slice-path-items.ensures (omega arith) c.loop-path.invariant
