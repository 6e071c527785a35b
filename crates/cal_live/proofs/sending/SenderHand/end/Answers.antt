use Rattle.std.proofs.Common.{refl, sym, ◌∙◌, subst}
use Rattle.std.specs.Prelude.{Some}
use Rattle.cal_live.specs.Sending.{EndsEither}
use Rattle.cal_live.proofs.sending.SenderHand.end.Goals as goal

pub returns-in-Some : goal.returns-in-Some
returns-in-Some g c =
    let was = sym c.take.ensures.value ∙ c.in-Some.is in
    record {
      ended = subst (λ one. EndsEither one c.args.self.now
          (record { sender = c.take.new.self; ended = Some c.end.result })) (sym was)
          (record {
            gone = c.take.ensures.after;
            ended = c.end.result;
            ended_is = refl;
            sent = c.end.ensures.sent;
            at = c.end.ensures.ended;
          });
    }
