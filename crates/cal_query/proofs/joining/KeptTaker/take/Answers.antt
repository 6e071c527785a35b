use Rattle.cal_query.proofs.Keepings.{IsCopy, all_more, means_more}
use Rattle.cal_query.proofs.joining.KeptTaker.take.Goals as goal

pub returns-clause-taken : goal.returns-clause-taken
returns-clause-taken g c = λ rs has.
    let copied : IsCopy c.in_ok-copy_of.field-0 c.args.snapshot.now =
    record { nodes = c.in_ok-copy_of.ensures.nodes; imms = c.in_ok-copy_of.ensures.imms } in
    record {
      are_in =
          all_more c.args.context.now c.args.self.now.snapshots.items c.push.new.self.items
          c.in_ok-copy_of.field-0 c.args.snapshot.now has.are_in c.in_ok-push.ensures.items copied
          c.requires;
      mean =
          means_more c.args.context.now c.args.self.now.snapshots.items c.push.new.self.items
          c.in_ok-copy_of.field-0 c.args.snapshot.now rs has.mean c.in_ok-push.ensures.items copied;
      waits = has.waits;
    }
