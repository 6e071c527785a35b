use Rattle.std.proofs.lemmas.Result.{IfOk-weaker}
use Rattle.cal_read.proofs.UsualColumnLemmas.{columns_there}
use Rattle.cal_read.proofs.UsualRowLemmas.{is_line_end, is_usual_row}
use Rattle.cal_read.proofs.usual_row.read_front_row.Goals as goal

pub returns-clause-line : goal.returns-clause-line
returns-clause-line c = IfOk-weaker c.read_attributes.result _ _ (λ end read.
    let t = c.args.context.now in
    let text = c.args.text.now in
    let columns = columns_there c.args.nodes.now text c.in_ok-head.head c.in_ok-start.start read.place c.read_head.new.ends.items read.numbers c.in_ok-head.ensures c.in_ok-start.ensures read.named in
    is_line_end t text read.place end columns.refs columns.ids read.numbers (record { nodes = c.read_head.new.ends; imms = c.read_attributes.new.imms }) columns.columns read.read) c.read_attributes.ensures

pub returns-clause-row : goal.returns-clause-row
returns-clause-row c = IfOk-weaker c.read_attributes.result _ _ (λ end read named are.
    let t = c.args.context.now in
    let text = c.args.text.now in
    let columns = columns_there c.args.nodes.now text c.in_ok-head.head c.in_ok-start.start read.place c.read_head.new.ends.items read.numbers c.in_ok-head.ensures c.in_ok-start.ensures read.named in
    let ends = columns.ends_are t named are in
    let numbers = columns.numbers_are t named are in
    is_usual_row t text read.place end columns.refs columns.ids read.numbers (record { nodes = c.read_head.new.ends; imms = c.read_attributes.new.imms }) columns.columns read.read
    named ends.found ends.known ends.are numbers.found numbers.known numbers.attributes numbers.have numbers.are) c.read_attributes.ensures
