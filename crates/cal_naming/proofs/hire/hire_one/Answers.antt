use Rattle.std.proofs.Common.{length, sym, ap, ◌∙◌}
use Rattle.std.specs.Prelude.{None}
use Rattle.std.proofs.lemmas.List.{length_push}
use Rattle.cal_names.specs.declared.record.NameSort.{NameSort}
use Rattle.cal_once.specs.Seats.{view}
use Rattle.cal_once.specs.declared.view.View.{View}
use Rattle.cal_naming.proofs.hire.hire_one.Goals as goal

pub returns-clause-first : goal.returns-clause-first
returns-clause-first c =
    let same = c.split-seat.ensures.first.same in
    record {
      at = c.split-seat.ensures.seats.0;
      number = ap (λ (v : View NameSort). v.number) same ∙ c.requires.first.number;
      published = ap (λ (v : View NameSort). v.published) same ∙ c.requires.first.published;
      others = ap (λ (v : View NameSort). length v.others) same
          ∙ length_push (view c.args.first.now).others None;
    }

pub returns-clause-ready : goal.returns-clause-ready
returns-clause-ready c =
    let same = c.split-seat.ensures.new.same in
    record {
      at = c.split-seat.ensures.seats.1;
      used = ap (λ (v : View NameSort). v.used) same;
      published = ap (λ (v : View NameSort). v.published) same;
      named = c.requires.named;
      answers = sym c.in_ok-answers.answers.ok.0 ∙ c.in_ok-answers.ensures.len;
    }

pub returns-clause-number : goal.returns-clause-number
returns-clause-number c =
    ap (λ (v : View NameSort). v.number) c.split-seat.ensures.new.same
