use Rattle.std.proofs.Common.{◌<◌, [], length, refl, sym, subst, ◌∙◌, arith}
use Rattle.cal_engine.specs.Standing.{HasFolded}
use Rattle.cal_groups.proofs.TableLemmas.{all_taken, table_taken}
use Rattle.cal_groups.proofs.groups.fold_tables.Goals as goal
use Rattle.cal_groups.specs.ContextRows.{MayTakeTable}
use Rattle.cal_records.proofs.TakingLemmas.{takes-none}

pub loop-table-init : goal.loop-table-init
loop-table-init c = record {
  taken = λ keyed means. takes-none (HasFolded c.args.fold.now c.args.context.now);
  query = refl;
}

pub take_table-requires-clause-rows : goal.take_table-requires-clause-rows
take_table-requires-clause-rows c =
    let i = c.loop-table.table-index in
    let test = c.loop-table-test.true in
    let table = c.table-item.result in
    let less : i < length c.args.tables.now = omega arith in
    subst (MayTakeTable c.args.nodes.now c.args.context.now) (sym c.table-item.is)
    (c.requires.rows i table less)

-- the records of one more table were taken
pub loop-table-preserved : goal.loop-table-preserved
loop-table-preserved c = record {
  taken = λ keyed means.
      let i = c.loop-table.table-index in
      let test = c.loop-table-test.true in
      let less : i < length c.args.tables.now = omega arith in
      let t = c.args.context.now in
      table_taken c.args.nodes.now t c.args.channel.now c.args.tables.now keyed means
      (HasFolded c.args.fold.now t) (HasFolded c.loop-table.fold t)
      (HasFolded c.take_table.new.taker t) i c.table-item.result less c.table-item.is
      (c.loop-table.invariant.taken keyed means) c.in_ok-take_table.ensures.taken;
  query = c.in_ok-take_table.ensures.about ∙ c.loop-table.invariant.query;
}

pub returns-clause-query : goal.returns-clause-query
returns-clause-query c = c.loop-table.invariant.query

pub returns-clause-folded : goal.returns-clause-folded
returns-clause-folded c = λ keyed means.
    let t = c.args.context.now in
    let test = c.loop-table-test.false in
    all_taken c.args.nodes.now t c.args.channel.now c.args.tables.now keyed means
    (HasFolded c.args.fold.now t) (HasFolded c.loop-table.fold t) c.loop-table.table-index
    (omega arith) (c.loop-table.invariant.taken keyed means) [] c.requires.none
