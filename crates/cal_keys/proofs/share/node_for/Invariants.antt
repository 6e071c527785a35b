use Rattle.std.proofs.Common.{◌≡◌, drop}
use Rattle.cal_keys.specs.Shares.{node_for}
use Rattle.cal_keys.proofs.share.node_for.Given as goal

abbrev pub invariant-loop-share : goal.invariant-loop-share
invariant-loop-share l = record { rest : node_for l.shares l.place ≡ node_for (drop l.share-index l.shares) l.place }
