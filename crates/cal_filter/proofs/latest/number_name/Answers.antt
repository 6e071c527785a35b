use Rattle.std.proofs.Common.{Some, ◌∙◌, ap}
use Rattle.std.specs.Ordering.{eq_by_cmp}
use Rattle.cal_context.proofs.ListLemmas.{IsFront-refl, number_of_equal, number_of_position}
use Rattle.cal_value.specs.ExactOrder.{exact_equiv, exact_tells, text_exact}
use Rattle.cal_value.specs.Texts.{text_cmp}
use Rattle.cal_filter.proofs.NamedLemmas.{front_insert}
use Rattle.cal_filter.proofs.latest.number_name.Goals as goal

pub returns-in-Some-clause-number : goal.returns-in-Some-clause-number
returns-in-Some-clause-number c =
    number_of_position (exact_equiv text_exact) (exact_tells text_exact) c.args.names.now.keys
    c.in-Some.number c.args.name.now c.in-Some.ensures.index

pub returns-in-Some-clause-front : goal.returns-in-Some-clause-front
returns-in-Some-clause-front c = IsFront-refl c.args.names.now.keys

pub returns-clause-number : goal.returns-clause-number
returns-clause-number c =
    let added = c.in_ok-number.ensures in
    number_of_equal (exact_equiv text_exact) (exact_tells text_exact) c.insert_full.new.self.keys
    c.in_ok-number.number c.in_ok-copy.field-0 added.stored.0 added.stored.1 added.stored.2
    ∙ ap Some c.in_ok-copy.ensures

pub returns-clause-front : goal.returns-clause-front
returns-clause-front c =
    front_insert (eq_by_cmp text_cmp) c.args.names.now.keys c.insert_full.new.self.keys
    c.in_ok-copy.field-0 c.in_ok-number.ensures.keys
