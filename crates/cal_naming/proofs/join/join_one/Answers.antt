use Rattle.std.proofs.Common.{◌+◌, sym, ap, ◌∙◌, arith}
use Rattle.cal_naming.proofs.Joining.{here-joined, number-same, others-long, published-same}
use Rattle.cal_naming.proofs.Joining.{there-joined}
use Rattle.cal_once.specs.Seats.{view}
use Rattle.cal_naming.proofs.join.join_one.Goals as goal

pub returns-clause-first : goal.returns-clause-first
returns-clause-first c =
    let v = view c.args.first.now in
    let w = view c.args.worker.seat in
    let new = view c.join.new.seat in
    let learns = c.join.ensures.joined in
    record {
      at = c.join.ensures.seat;
      number = number-same v w new learns ∙ c.requires.first.number;
      published = published-same v w new learns ∙ c.requires.first.published;
      others = others-long v w new learns;
    }

pub returns-clause-joined : goal.returns-clause-joined
returns-clause-joined c k number =
    let at = c.requires.number in
    here-joined c.args.first.now c.join.new.seat c.args.worker c.join.ensures.joined k number
    (omega (arith, number, at.1, at.2))

pub returns-clause-others : goal.returns-clause-others
returns-clause-others c k other apart was =
    let at = c.requires.number in
    there-joined c.args.first.now c.join.new.seat c.args.worker c.join.ensures.joined at.0 at.2
    other k (λ same. apart (at.2 ∙ ap (λ n. n + 1) (sym same))) was
