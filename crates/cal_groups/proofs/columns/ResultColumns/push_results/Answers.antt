use Rattle.std.proofs.Common.{◌<◌, List, ℕ, [], ◌∷◌, length, get_or, take, ap, subst, sym, ◌∙◌}
use Rattle.std.proofs.Common.{arith}
use Rattle.std.specs.List.{All, AllZip, flat_map}
use Rattle.std.specs.Prelude.{codes}
use Rattle.cal_agg.specs.Numbers.{IsWithin}
use Rattle.cal_agg.specs.declared.cell.Cell.{Cell}
use Rattle.cal_agg.specs.declared.num.Num.TheVariants.{Whole}
use Rattle.cal_context.specs.declared.snapshot.Immediate.{Immediate}
use Rattle.cal_filter.specs.Kept.{result_entry}
use Rattle.cal_filter.proofs.Zips.{zip_at, zip_length}
use Rattle.cal_filter.specs.Named.{HasSmallNumbers}
use Rattle.cal_filter.specs.Numbers.{value_of_number}
use Rattle.cal_groups.proofs.Appending.{appends_then, front_is, front_within}
use Rattle.cal_groups.proofs.Cells.{count_back, finds_at, known_is, results_more, zip_all}
use Rattle.cal_groups.proofs.columns.ResultColumns.push_results.Goals as goal
use Rattle.cal_groups.specs.Appended.{Appends, record_of}
use Rattle.cal_groups.specs.Columns.{Finds, IsColumn}
use Rattle.cal_profile.specs.TableRows.{cell_entries}

pub front-key-requires : goal.front-key-requires
front-key-requires c =
    let within = front_within c.args.context.now c.args.imms.now.items c.loop-place.imms.items _
    c.loop-place.invariant in
    let before = ap length c.as_slice-before.ensures.value in
    let all = ap length c.as_slice-all.ensures.value in
    omega arith

pub bounds-seekers-place : goal.bounds-seekers-place
bounds-seekers-place c =
    let long = zip_length (Finds c.args.context.now) c.args.channel.now.values
    c.args.self.now.seekers.items c.requires.columns.seekers in
    let same = ap length c.as_slice-seekers.ensures.value in
    let end = c.lesser-place-end.ensures in
    let count = c.len.ensures in
    let test = c.loop-place-test.true in
    omega arith

pub known_number-known-requires-clause-knows : goal.known_number-known-requires-clause-knows
known_number-known-requires-clause-knows c =
    let long = zip_length (Finds c.args.context.now) c.args.channel.now.values
    c.args.self.now.seekers.items c.requires.columns.seekers in
    let same = ap length c.as_slice-seekers.ensures.value in
    let end = c.lesser-place-end.ensures in
    let count = c.len.ensures in
    let test = c.loop-place-test.true in
    (finds_at c.args.context.now c.args.channel.now.values c.as_slice-seekers.result.now
    c.loop-place.place c.index-seekers-place.result
    (subst (AllZip (Finds c.args.context.now) c.args.channel.now.values)
    (sym c.as_slice-seekers.ensures.value) c.requires.columns.seekers) (omega arith)
    c.index-seekers-place.is).knows

pub known_number-known-requires-clause-imms : goal.known_number-known-requires-clause-imms
known_number-known-requires-clause-imms c =
    let key = front_is c.args.context.now c.args.imms.now.items c.loop-place.imms.items _ _
    c.front-key.result.now c.loop-place.invariant (ap length c.as_slice-before.ensures.value)
    (c.front-key.ensures
    ∙ ap (take (length c.as_slice-before.result.now)) c.as_slice-all.ensures.value) in
    subst (All (λ (i : Immediate). i.attribute.0 < length c.args.context.now.attributes))
    (sym key) c.requires.imms

pub known_number-known-requires-clause-small : goal.known_number-known-requires-clause-small
known_number-known-requires-clause-small c =
    let key = front_is c.args.context.now c.args.imms.now.items c.loop-place.imms.items _ _
    c.front-key.result.now c.loop-place.invariant (ap length c.as_slice-before.ensures.value)
    (c.front-key.ensures
    ∙ ap (take (length c.as_slice-before.result.now)) c.as_slice-all.ensures.value) in
    subst (λ (l : List Immediate). HasSmallNumbers
    (record_of c.args.context.now c.args.nodes.now l)) (sym key) c.requires.small

pub bounds-columns-place : goal.bounds-columns-place
bounds-columns-place c =
    let long = zip_length (IsColumn c.args.context.now) c.args.channel.now.values
    c.args.self.now.columns.items c.requires.columns.columns in
    let same = ap length c.as_slice-columns.ensures.value in
    let end = c.lesser-place-end.ensures in
    let count = c.len.ensures in
    let test = c.loop-place-test.true in
    omega arith

pub loop-place-preserved : goal.loop-place-preserved
loop-place-preserved c =
    let t = c.args.context.now in
    let values = c.args.channel.now.values in
    let old = c.args.imms.now.items in
    let i = c.loop-place.place in
    let end = c.lesser-place-end.ensures in
    let count = c.len.ensures in
    let test = c.loop-place-test.true in
    let cells = ap length c.as_slice-cells.ensures in
    let of_columns = zip_length (IsColumn t) values c.args.self.now.columns.items
    c.requires.columns.columns in
    let of_seekers = zip_length (Finds t) values c.args.self.now.seekers.items
    c.requires.columns.seekers in
    let columns = ap length c.as_slice-columns.ensures.value in
    let seekers = ap length c.as_slice-seekers.ensures.value in
    let finds = finds_at t values c.as_slice-seekers.result.now i c.index-seekers-place.result
    (subst (AllZip (Finds t) values) (sym c.as_slice-seekers.ensures.value)
    c.requires.columns.seekers) (omega arith) c.index-seekers-place.is in
    let short : i < length c.as_slice-columns.result.now = omega arith in
    let column = subst (AllZip (IsColumn t) values) (sym c.as_slice-columns.ensures.value)
    c.requires.columns.columns in
    let key = front_is t old c.loop-place.imms.items _ _ c.front-key.result.now
    c.loop-place.invariant (ap length c.as_slice-before.ensures.value)
    (c.front-key.ensures
    ∙ ap (take (length c.as_slice-before.result.now)) c.as_slice-all.ensures.value) in
    let known = known_is t c.args.nodes.now c.front-key.result.now old (get_or values i [])
    c.index-seekers-place.result c.known_number-known.result finds key
    c.known_number-known.ensures.number in
    subst (Appends t old c.push_cell.new.imms.items)
    (results_more values c.args.held.now.cells c.args.held.now.count _
    (record_of t c.args.nodes.now old) c.known_number-known.result i c.index-cells-place.result
    (result_entry (codes "count") (value_of_number (Whole c.args.held.now.count)))
    (omega arith) (omega arith)
    (c.index-cells-place.is
    ∙ ap (λ (l : List Cell). get_or l i c.index-cells-place.result) c.as_slice-cells.ensures)
    (count_back c.count_of-count.result
    (subst (IsWithin 40) (sym c.count_of-count.ensures) c.requires.count)
    ∙ c.count_of-count.ensures) known)
    (appends_then t old c.loop-place.imms.items c.push_cell.new.imms.items _ _
    c.loop-place.invariant (c.in_ok-push_cell.ensures t (get_or values i [])
    (zip_at (IsColumn t) values c.as_slice-columns.result.now i [] _ column short)))

pub returns : goal.returns
returns c =
    let t = c.args.context.now in
    let values = c.args.channel.now.values in
    let old = c.args.imms.now.items in
    let held = c.args.held.now in
    let end = c.lesser-place-end.ensures in
    let count = c.len.ensures in
    let test = c.loop-place-test.false in
    let cells = ap length c.as_slice-cells.ensures in
    subst (λ (l : List (List ℕ × Cell)). Appends t old c.loop-place.imms.items
    (result_entry (codes "count") (value_of_number (Whole held.count))
    ∷ flat_map (λ (p : List ℕ × Cell). cell_entries held.count
    (record_of t c.args.nodes.now old) p.0 p.1) l))
    (zip_all values held.cells c.loop-place.place (omega arith)) c.loop-place.invariant
