use Rattle.std.proofs.Common.{refl}
use Rattle.cal_read.specs.Stream.{with_record}
use Rattle.cal_read.proofs.StreamLemmas.{globals_made, globals_more}
use Rattle.cal_read.proofs.stream.Stream.read_globals.Goals as goal

pub returns : goal.returns
returns c = record {
  read = λ s stands.
      let it = c.in_ok-read_record.ensures s.nodes stands.nodes in
      let more = globals_more c.args.context.now c.read_record.new.snapshot c.args.self.now.globals
      (record { nodes = c.append.new.self; imms = c.append-2.new.self }) s.globals it.0 stands.within stands.globals it.2.0 it.2.1
      c.in_ok-append.ensures.items c.in_ok-append-2.ensures.items in (
        record s { globals = with_record s.globals it.0 },
        globals_made s c.args.fields.now it.0 it.1,
        (record { nodes = stands.nodes; within = more.0; globals = more.1 }, refl),
      );
}
