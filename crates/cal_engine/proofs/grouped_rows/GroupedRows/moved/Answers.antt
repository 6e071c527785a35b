use Rattle.std.proofs.Common.{◌≡◌, map, sym, subst, ◌∙◌}
use Rattle.std.specs.List.{All}
use Rattle.cal_context.specs.Tree.{Tree}
use Rattle.cal_engine.specs.Finishing.{AreGroupParts, rows_by}
use Rattle.cal_keys.specs.Groups.{groups_of}
use Rattle.cal_keys.specs.Keys.{IsKeyIn, key_in}
use Rattle.cal_engine.specs.Making.{below_of}
use Rattle.cal_engine.specs.Numbered.{AreGroups}
use Rattle.cal_engine.specs.Rows.{row_of}
use Rattle.cal_engine.proofs.grouped_rows.GroupedRows.moved.Goals as goal

pub returns-clause-rows : goal.returns-clause-rows
returns-clause-rows c = λ rs h.
    let q = c.args.query.now in
    let keys = c.args.groups.keys in
    let begun = sym c.none-moved.ensures in
    let o = c.in_ok-others.ensures.others rs (subst (λ (t : Tree). AreGroups t q rs c.args.groups) begun h) in
    let from = sym c.in_ok-others.ensures.from in
    record {
      lists = o.lists;
      within = subst (λ (t : Tree). All (IsKeyIn t) keys) (begun ∙ from) h.keys;
      moved = c.in_ok-others.ensures.moved;
      results = c.in_ok-others.ensures.results;
      parts = subst (λ (t : Tree). AreGroupParts q.aggs o.lists (map (key_in t) keys)
          c.args.groups.parts c.in_ok-others.others.all
          (below_of c.in_ok-others.others c.args.groups.parts)) from o.parts;
      are = subst (λ (t : Tree). map (row_of q rs) (groups_of q.group rs)
          ≡ rows_by q.aggs o.lists (map (key_in t) keys)) from (sym o.rows);
    }
