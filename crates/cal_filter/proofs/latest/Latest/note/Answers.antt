use Rattle.std.specs.Prelude.{not}
use Rattle.std.proofs.Common.{◌<◌, subst, sym, ◌∙◌, ap, is_some, refl}
use Rattle.cal_filter.specs.declared.latest.Latest.{Latest}
use Rattle.cal_filter.proofs.LatestLemmas.{noted_any, noted_none, noted_number, number_within}
use Rattle.cal_filter.proofs.latest.Latest.note.Goals as goal

pub returns-in_default-clause-follows : goal.returns-in_default-clause-follows
returns-in_default-clause-follows c = λ t imms next inside h.
    noted_none t c.args.self.now imms c.args.imm.now h inside (sym c.in_default.ensures)

pub returns-then-is_none-clause-follows : goal.returns-then-is_none-clause-follows
returns-then-is_none-clause-follows c = λ t imms next inside h.
    let old = c.args.self.now in
    let x = c.args.imm.now in
    let m = c.in-Some.number in
    let is = sym c.in-Some.ensures in
    let new : Latest = record {
      names = old.names;
      named = old.named;
      places = c.put.new.places;
      number_places = old.number_places;
    } in
    let put = c.put.ensures
    (subst (λ n. m < n) (sym h.counted) (number_within t old imms x h inside m is c.args.place next)) in
    noted_any t old imms x h inside m is c.args.place next new refl refl put
    (ap is_some (sym c.number_in.ensures) ∙ c.is_none.ensures ∙ ap not c.if-is_none.true)
    refl

pub returns-clause-follows : goal.returns-clause-follows
returns-clause-follows c = λ t imms next inside h.
    let old = c.args.self.now in
    let x = c.args.imm.now in
    let m = c.in-Some.number in
    let is = sym c.in-Some.ensures in
    let within = number_within t old imms x h inside m is c.args.place next in
    let new : Latest = record {
      names = old.names;
      named = old.named;
      places = c.put.new.places;
      number_places = c.put-2.new.places;
    } in
    let put = c.put.ensures (subst (λ n. m < n) (sym h.counted) within) in
    let put_number = c.put-2.ensures (subst (λ n. m < n) (sym h.numbers_counted) within) in
    noted_number t old imms x h inside m is c.args.place next new refl refl put
    (ap is_some (sym c.number_in.ensures) ∙ c.is_none.ensures ∙ ap not c.if-is_none.false)
    put_number
