use Rattle.std.proofs.Common.{◌≡◌, ◌<◌, [], ◌∷◌, ◌++◌, get_or, length, map, take, refl, sym, ap, ◌∙◌, arith}
use Rattle.std.proofs.lemmas.List.{map-append, take_more}
use Rattle.cal_context.specs.declared.numbers.Link.{Link}
use Rattle.cal_rowset.specs.Links.{link_entry}
use Rattle.cal_rowset.proofs.Rooms.{AddsEntries-none, AddsPath-more}
use Rattle.cal_rowset.proofs.shown_row.ShownRow.add_links.Goals as goal

pub loop-place-init : goal.loop-place-init
loop-place-init c = record { links = refl; added = AddsEntries-none c.args.context.now c.args.self.now }

pub loop-place-preserved : goal.loop-place-preserved
loop-place-preserved c =
    let kept = c.loop-place.invariant in
    let t = c.args.context.now in
    let all = c.args.self.now.links.items in
    let place = c.loop-place.place in
    let link = c.index-link.result.now in
    let within : place < length all = omega (arith, c.loop-place-test.true) in
    let read : link ≡ get_or all place link = rw kept.links at c.index-link.ensures in
    let more =
    sym (map-append (link_entry t) (take place all) (link ∷ []))
    ∙ ap (λ (l : Link). map (link_entry t) (take place all ++ l ∷ [])) read
    ∙ ap (map (link_entry t)) (sym (take_more all place link within)) in
    record {
      links = c.in_ok-add_link.ensures.links ∙ kept.links;
      added = AddsPath-more t c.args.self.now c.loop-place.self c.add_link.new.self (map (link_entry t) (take place all)) _ _ kept.added c.in_ok-add_link.ensures.added more;
    }
