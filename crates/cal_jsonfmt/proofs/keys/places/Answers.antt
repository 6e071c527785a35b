use Rattle.std.proofs.Common.{ℕ, length, length-append, ap, arith, subst, sym}
use Rattle.std.specs.List.{Contains}
use Rattle.cal_jsonfmt.proofs.KeyLemmas.{found, header-at, places-more}
use Rattle.cal_jsonfmt.proofs.keys.places.Goals as goal

pub unwrap-requires : goal.unwrap-requires
unwrap-requires c =
    found c.args.names.now c.column-item.result.header c.binary_search.result c.requires.ascend
    (subst (Contains c.args.names.now)
    (sym (header-at c.args.columns.now c.loop-column.column-index c.column-item.result
    c.loop-column-test.true c.column-item.is))
    (c.requires.headers c.loop-column.column-index c.loop-column-test.true))
    c.binary_search.ensures.position

pub loop-column-preserved : goal.loop-column-preserved
loop-column-preserved c = record {
  counted = omega (
    arith,
    length-append {A = ℕ},
    ap length c.in_ok-push.ensures.items,
    c.loop-column.invariant.counted,
  );
  header = places-more c.args.columns.now c.args.names.now c.loop-column.places.items
      c.push.new.self.items c.loop-column.column-index c.unwrap.result c.column-item.result
      c.binary_search.result c.loop-column-test.true c.column-item.is
      c.loop-column.invariant.counted c.in_ok-push.ensures.items c.unwrap.ensures
      c.binary_search.ensures.bound c.binary_search.ensures.ok c.loop-column.invariant.header;
}
