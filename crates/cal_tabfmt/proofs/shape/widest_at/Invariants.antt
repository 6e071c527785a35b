use Rattle.std.proofs.Common.{◌≡◌, map, take}
use Rattle.cal_tabfmt.specs.Grid.{nth_text, widest}
use Rattle.cal_tabfmt.proofs.shape.widest_at.Given as goal

abbrev pub invariant-loop-line : goal.invariant-loop-line
invariant-loop-line l = l.most ≡ widest (map (λ line. nth_text line l.place) (take l.line-index l.lines))
