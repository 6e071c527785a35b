use Rattle.std.proofs.Common.{map, reverse}
use Rattle.cal_context.proofs.CallerLemmas.{Grows-trans}
use Rattle.cal_value.specs.Kinds.{every_kind}
use Rattle.cal_read.specs.BuiltIn.{named_kind}
use Rattle.cal_read.proofs.built_in.built_in_nodes.Goals as goal

pub returns-clause-held : goal.returns-clause-held
returns-clause-held c = c.in_ok-put_built_in.ensures.held (reverse (map named_kind every_kind)) c.in_ok-put_kinds.ensures.held

pub returns-in_err-put_built_in-clause-grows : goal.returns-in_err-put_built_in-clause-grows
returns-in_err-put_built_in-clause-grows c = Grows-trans _ _ _ c.put_kinds.ensures.grows c.put_built_in.ensures.grows

pub returns-clause-grows : goal.returns-clause-grows
returns-clause-grows c = Grows-trans _ _ _ c.put_kinds.ensures.grows c.put_built_in.ensures.grows
