use Rattle.std.proofs.Common.{refl}
use Rattle.cal_rowset.specs.declared.shown_row.ShownRow.{ShownRow}
use Rattle.cal_rowset.proofs.Standing.{filled-go}
use Rattle.cal_rowset.proofs.shown_row.ShownRow.go.Goals as goal

pub returns-clause-filled : goal.returns-clause-filled
returns-clause-filled c =
    let s = c.args.self.now in
    let up : ShownRow = record { cells = c.walk.new.cells; hierarchy = s.hierarchy; places = s.places; shows_path = s.shows_path; attributes = s.attributes; node = s.node; depth = s.depth; links = c.walk.new.links } in
    filled-go c.args.context.now s up c.add_links.new.self c.in_ok-walk.field-0 c.args.node c.walk.new.links.items c.count-self.result c.has_each_once.ensures c.requires.stands
    c.walk.ensures.names refl refl refl (c.in_ok-walk.ensures.up (rw c.deref.ensures.value c.requires.stands.knows)) c.in_ok-walk.ensures.root c.in_ok-walk.ensures.down
    c.in_ok-add_links.ensures c.requires.node c.count-self.ensures
