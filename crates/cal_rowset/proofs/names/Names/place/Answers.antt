use Rattle.std.proofs.Common.{sym}
use Rattle.cal_rowset.proofs.Knowing.{place_found, place_unknown}
use Rattle.cal_rowset.proofs.names.Names.place.Goals as goal

pub returns-clause-found : goal.returns-clause-found
returns-clause-found c = rw (sym c.self.view_is) (place_found _ _ c.get_index_of.result c.get_index_of.ensures.index)

pub returns-clause-unknown : goal.returns-clause-unknown
returns-clause-unknown c = rw (sym c.self.view_is) (place_unknown _ _ c.get_index_of.result c.get_index_of.ensures.found)
