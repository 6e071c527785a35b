use Rattle.std.proofs.Common.{refl}
use Rattle.std.proofs.lemmas.List.{append-nil}
use Rattle.std.proofs.lemmas.Result.{on_ok_weaker}
use Rattle.cal_rowset.specs.Filling.{names}
use Rattle.cal_rowset.proofs.Knowing.{known_at, unknown_none}
use Rattle.cal_rowset.proofs.cells.Cells.add_known.Goals as goal

pub returns-in-Some-clause-added : goal.returns-in-Some-clause-added
returns-in-Some-clause-added c =
    let known = known_at (names c.args.self.now) c.args.entry.now.attr.name c.in-Some.place c.in-Some.ensures.found in
    on_ok_weaker c.add.result (λ added before holds. rw known (added before c.args.entry.now holds c.in-Some.ensures.found refl)) c.add.ensures.added

pub returns-in-None-clause-added : goal.returns-in-None-clause-added
returns-in-None-clause-added c =
    let unknown = unknown_none (names c.args.self.now) c.args.entry.now.attr.name c.in-None.ensures.unknown in
    λ before holds. rw (unknown, append-nil before) holds
