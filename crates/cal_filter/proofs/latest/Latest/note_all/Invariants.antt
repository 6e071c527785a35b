use Rattle.std.proofs.Common.{◌≡◌, ◌<◌, [], length, take}
use Rattle.std.specs.List.{All}
use Rattle.cal_context.specs.Tree.{Tree}
use Rattle.cal_filter.specs.Latest.{IsLatest}
use Rattle.cal_filter.proofs.latest.Latest.note_all.Given as goal

-- the immediates before this one are noted
abbrev pub invariant-loop-place : goal.invariant-loop-place
invariant-loop-place l = record {
  names : l.self.names ≡ l.fn.self.names;
  follows : (t : Tree) → All (λ imm. imm.attribute.0 < length t.attributes) l.imms
      → IsLatest t l.fn.self [] → IsLatest t l.self (take l.place l.imms);
}
