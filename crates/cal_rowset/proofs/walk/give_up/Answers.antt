use Rattle.std.proofs.Common.{subst, sym, ◌∙◌}
use Rattle.cal_rowset.specs.Filling.{names}
use Rattle.cal_rowset.specs.Known.{known_entries}
use Rattle.cal_rowset.specs.Links.{link_entry}
use Rattle.cal_rowset.specs.Trails.{IsTrail}
use Rattle.cal_rowset.proofs.Walking.{given_up-known, given_up-unknown}
use Rattle.cal_rowset.proofs.walk.give_up.Goals as goal

pub returns-then-is_some-clause-given : goal.returns-then-is_some-clause-given
returns-then-is_some-clause-given c =
    λ t path knows within trail.
    let known = given_up-known t (names c.args.cells.now) c.args.places.now c.args.link path knows within c.place_at.result c.place_at.ensures (sym c.is_some.ensures ∙ c.if-is_some.true) in
    c.back.ensures.given (known_entries (names c.args.cells.now) path) (link_entry t c.args.link) (subst (IsTrail c.args.cells.now) known trail)

pub returns-else-is_some-clause-given : goal.returns-else-is_some-clause-given
returns-else-is_some-clause-given c =
    λ t path knows within trail.
    subst (IsTrail c.args.cells.now)
    (given_up-unknown t (names c.args.cells.now) c.args.places.now c.args.link path knows within c.place_at.result c.place_at.ensures (sym c.is_some.ensures ∙ c.if-is_some.false)) trail
