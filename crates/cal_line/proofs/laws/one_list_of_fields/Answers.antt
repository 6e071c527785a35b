use Rattle.cal_line.proofs.FieldSteps.{fields_of-IsFields, IsFields-fields_of}
use Rattle.cal_line.proofs.laws.one_list_of_fields.Goals as goal

pub returns-clause-one : goal.returns-clause-one
returns-clause-one c = λ line fields others first second.
    let read = fields_of-IsFields line fields first in
    let again = fields_of-IsFields line others second in
    cc

pub returns-clause-computed : goal.returns-clause-computed
returns-clause-computed c = λ line fields. (fields_of-IsFields line fields, IsFields-fields_of line fields)
