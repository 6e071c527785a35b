use Rattle.cal_once.specs.Seats.{view}
use Rattle.cal_process.proofs.Nodes.{known-fewer, node-room}
use Rattle.cal_process.proofs.tree_laws.tree_never_full_law.Goals as goal

pub returns-clause-known : goal.returns-clause-known
returns-clause-known c = λ common seat has at. known-fewer common has (view seat) at.sound

pub returns-clause-room : goal.returns-clause-room
returns-clause-room c = λ common seat value has fits. node-room common has seat value fits
