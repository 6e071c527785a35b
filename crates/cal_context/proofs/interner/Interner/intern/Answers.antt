use Rattle.std.proofs.Common.{sym}
use Rattle.cal_context.proofs.ListLemmas.{Adds-insert_key, number_of_equal}
use Rattle.cal_context.proofs.interner.Interner.intern.Goals as goal

pub returns-clause-interned : goal.returns-clause-interned
returns-clause-interned g c =
    let added = c.in_ok-number.ensures in
    let laws = g.met.T.Eq.laws in
    let same = g.met.T.Exact.tells in
    record {
      number = number_of_equal laws same c.insert_full.new.self.keys c.in_ok-number.number c.args.item added.stored.0 added.stored.1 added.stored.2;
      adds = rw (sym c.self.view_is) (Adds-insert_key laws same _ c.args.item _ added.keys);
    }
