use Rattle.std.proofs.Common.{◌<◌, ◌∙◌, length, refl, subst, sym, arith}
use Rattle.std.specs.List.{All}
use Rattle.std.proofs.lemmas.List.{take_all}
use Rattle.std.proofs.lemmas.List.Elements.{All-nil}
use Rattle.cal_context.proofs.CallerLemmas.{Grows-refl, Grows-trans}
use Rattle.cal_delivery.proofs.TableNumbers.{keys_later, tables_more}
use Rattle.cal_delivery.specs.KeyNodes.{CanNumberTable, IsTableNumbered}
use Rattle.cal_once.proofs.Learning.{learns_nothing, learns_then}
use Rattle.cal_once.specs.Seats.{view}
use Rattle.cal_table_rows.specs.Meanings.{HasRows}
use Rattle.cal_delivery.proofs.numbering.number_tables.Goals as goal

pub loop-table-init : goal.loop-table-init
loop-table-init c = record {
  keys = All-nil (IsTableNumbered c.args.nodes.now);
  seat = c.requires.seat;
  learns = learns_nothing (view c.args.seat.now);
  grows = Grows-refl c.args.context.now;
  attributes = refl;
  numbered = c.requires.numbered;
}

pub number_keys-requires-clause-keys : goal.number_keys-requires-clause-keys
number_keys-requires-clause-keys c =
    let inv = c.loop-table.invariant in
    let test = c.loop-table-test.true in
    let i = c.loop-table.table-index in
    let table = c.table-item.result in
    let less : i < length c.args.tables.now = omega arith in
    let read = c.rows-rows.ensures in
    let keys = c.rows-rows.result.keys.now in
    let held = c.rows-rows.result.held.now in
    let rows : HasRows table keys held =
    record { rows = read.rows; long = read.long; once = read.once } in
    let can = subst (CanNumberTable c.args.tree.now c.args.seat.now c.args.context.now)
    (sym c.table-item.is) (c.requires.keys i table less) in
    keys_later c.args.tree.now c.args.seat.now c.loop-table.seat inv.learns.more
    c.args.context.now c.loop-table.context inv.grows keys (can keys held rows)

pub loop-table-preserved : goal.loop-table-preserved
loop-table-preserved c =
    let inv = c.loop-table.invariant in
    let done = c.number_keys.ensures in
    let test = c.loop-table-test.true in
    let i = c.loop-table.table-index in
    let less : i < length c.args.tables.now = omega arith in
    let read = c.rows-rows.ensures in
    record {
      keys = tables_more c.loop-table.nodes c.number_keys.new.nodes done.keeps c.args.tables.now i
          c.table-item.result less c.table-item.is inv.keys
          (record {
            keys = c.rows-rows.result.keys.now;
            held = c.rows-rows.result.held.now;
            rows = record { rows = read.rows; long = read.long; once = read.once };
            numbered = c.in_ok-number_keys.ensures.keys;
          });
      seat = done.seat;
      learns = learns_then (view c.args.seat.now) (view c.loop-table.seat)
          (view c.number_keys.new.seat) inv.learns done.learns;
      grows = Grows-trans c.args.context.now c.loop-table.context c.number_keys.new.context
          inv.grows done.grows;
      attributes = done.attributes ∙ inv.attributes;
      numbered = done.numbered;
    }

pub returns-clause-keys : goal.returns-clause-keys
returns-clause-keys c =
    let test = c.loop-table-test.false in
    subst (All (IsTableNumbered c.loop-table.nodes))
    (take_all c.loop-table.table-index c.args.tables.now (omega arith))
    c.loop-table.invariant.keys
