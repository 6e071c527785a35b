use Rattle.cal_names.proofs.Walking.{one_kept}
use Rattle.cal_names.proofs.laws.one_declaration_each.Goals as goal

pub returns : goal.returns
returns c plan v a b p q sound same first second = one_kept plan v a b p q sound same first second
