use Rattle.std.proofs.Common.{sym}
use Rattle.cal_engine.proofs.grouped_rows.GroupedRows.with_results.Goals as goal

pub returns : goal.returns
returns c = λ rs h.
    let o = c.in_ok-others.ensures rs h in
    record {
      lists = o.lists;
      within = h.keys;
      moved = tt;
      results = c.requires;
      parts = o.parts;
      are = sym o.rows;
    }
