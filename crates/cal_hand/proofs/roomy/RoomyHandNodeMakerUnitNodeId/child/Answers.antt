use Rattle.cal_hand.proofs.RoomLemmas.{never-refused}
use Rattle.cal_hand.proofs.roomy.RoomyHandNodeMakerUnitNodeId.child.Goals as goal

pub unreachable-requires : goal.unreachable-requires
unreachable-requires c =
    let r = c.requires in
    let p = r.parent in
    let refused = c.in-Err.ensures.refused in
    never-refused c.args.self.now.hand c.child.new.self c.in-Err.ensures.onward r.known.0 _ _ p.0 p.1 p.2
    r.room refused.full refused.answer
