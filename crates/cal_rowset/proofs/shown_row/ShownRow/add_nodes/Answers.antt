use Rattle.std.proofs.Common.{List, [], ◌∷◌, ◌++◌, get_or, map, take, refl, sym, ap, ◌∙◌, append-nil}
use Rattle.std.proofs.lemmas.Grind.{flat_map-append}
use Rattle.std.proofs.lemmas.List.{map-append, take_more}
use Rattle.cal_value.specs.Flat.{joined}
use Rattle.cal_value.specs.declared.attribute.Entry.{Entry}
use Rattle.cal_context.specs.Tree.{path_at}
use Rattle.cal_context.specs.declared.numbers.NodeNumber.{NodeNumber}
use Rattle.cal_rowset.specs.Links.{AreLinksOf}
use Rattle.cal_rowset.specs.declared.shown_row.ShownRow.{ShownRow}
use Rattle.cal_rowset.proofs.Rooms.{AddsEntries-none, AddsEntries-room, AddsPath-more}
use Rattle.cal_rowset.proofs.shown_row.ShownRow.add_nodes.Goals as goal

pub loop-node-init : goal.loop-node-init
loop-node-init c = AddsEntries-none c.args.context.now c.args.self.now

pub loop-node-preserved : goal.loop-node-preserved
loop-node-preserved c =
    let t = c.args.context.now in
    let nodes = c.args.nodes.now in
    let index = c.loop-node.node-index in
    let before = joined (map (path_at t) (take index nodes)) in
    let node : NodeNumber = get_or nodes index (record { 0 = 0 }) in
    let found : AreLinksOf t node c.find_links.new.links.items = c.in_ok-find_links.ensures in
    let old = c.loop-node.self in
    let found_in : ShownRow = record { cells = old.cells; hierarchy = old.hierarchy; places = old.places; shows_path = old.shows_path; attributes = old.attributes; node = old.node; depth = old.depth; links = c.find_links.new.links } in
    let adds = AddsEntries-room t old found_in c.add_links.new.self _ _ refl refl refl refl refl refl refl c.in_ok-add_links.ensures in
    let more =
    ap (λ (path : List Entry). before ++ path) (sym found.path ∙ sym (append-nil (path_at t node)))
    ∙ sym (flat_map-append (λ (path : List Entry). path) (map (path_at t) (take index nodes)) (path_at t node ∷ []))
    ∙ ap joined (sym (map-append (path_at t) (take index nodes) (node ∷ [])))
    ∙ ap (λ (ns : List NodeNumber). joined (map (path_at t) ns)) (sym (take_more nodes index (record { 0 = 0 }) c.loop-node-test.true)) in
    AddsPath-more t c.args.self.now c.loop-node.self c.add_links.new.self before _ _ c.loop-node.invariant adds more
