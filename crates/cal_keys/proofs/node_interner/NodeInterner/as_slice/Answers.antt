use Rattle.std.proofs.Common.{sym}
use Rattle.cal_keys.proofs.NodePlaces.{places-apart}
use Rattle.cal_keys.proofs.node_interner.NodeInterner.as_slice.Goals as goal

pub returns-clause-apart : goal.returns-clause-apart
returns-clause-apart c = rw (sym c.self.view_is) (places-apart c.self.inside.nodes.items c.self.inside.places.items c.self.invariant)
