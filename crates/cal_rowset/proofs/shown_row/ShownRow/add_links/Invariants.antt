use Rattle.std.proofs.Common.{◌≡◌, map, take}
use Rattle.cal_rowset.specs.Links.{link_entry}
use Rattle.cal_rowset.specs.Rooms.{AddsPath}
use Rattle.cal_rowset.proofs.shown_row.ShownRow.add_links.Given as goal

-- the entries of the links so far are added
abbrev pub invariant-loop-place : goal.invariant-loop-place
invariant-loop-place l = record {
  links : l.self.links ≡ l.fn.self.links;
  added : AddsPath l.context l.fn.self l.self (map (link_entry l.context) (take l.place l.fn.self.links.items));
}
