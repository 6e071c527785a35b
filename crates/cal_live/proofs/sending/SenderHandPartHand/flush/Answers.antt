use Rattle.std.proofs.Common.{List, refl, sym, ap, ◌∙◌, subst}
use Rattle.std.specs.Prelude.{Some, slice_get}
use Rattle.std.proofs.lemmas.Option.{same_Some}
use Rattle.cal_book.specs.Accounts.{more_given}
use Rattle.cal_channel.specs.Values.{with_table}
use Rattle.cal_live.proofs.Sent.{given-more, given-same, made-more}
use Rattle.cal_live.specs.Sending.{AreMade, account_of}
use Rattle.cal_mail.specs.Ends.{number_of, sent_by}
use Rattle.cal_table.specs.Tables.{TableValue, empty_table}
use Rattle.cal_table.specs.declared.shape.TableShape.{TableShape}
use Rattle.cal_live.proofs.sending.SenderHandPartHand.flush.Goals as goal

pub returns-clause-takes : goal.returns-clause-takes
returns-clause-takes g c thread shapes takes =
    let own = g.S.Shapes.shapes in
    let may = c.requires in
    let part = c.in_ok-part.part in
    let same = same_Some c.in-Some.sender takes.sender (sym c.in-Some.is ∙ takes.sender_is) in
    record {
      sender = c.hand.new.self;
      sender_is = refl;
      shapes_are = takes.shapes_are;
      number_is = c.hand.ensures.stays.1 ∙ ap (λ one. number_of one.sender) same
          ∙ takes.number_is;
      made = made-more own (sent_by c.in-Some.sender.sender) (sent_by c.hand.new.self.sender)
          c.args.channel part c.hand.ensures.sent
          (ap (λ (ss : List TableShape). slice_get ss c.args.channel) may.takes_them.shapes_are
          ∙ may.shape_at ∙ ap (λ (t : TableValue). Some t.shape)
          (same_Some may.part part (sym may.part_is ∙ c.in_ok-part.ensures.part)))
          (subst (λ one. AreMade own (sent_by one.sender)) (sym same) takes.made);
    }

pub returns-clause-handed : goal.returns-clause-handed
returns-clause-handed g c thread shapes part takes part_is =
    let e = c.in_ok-part.ensures in
    let same = same_Some c.in_ok-part.part part (sym e.part ∙ part_is) in (
      given-more c.args.self.now (record {
        sender = Some c.hand.new.self;
        ended = c.args.self.now.ended;
      }) c.in-Some.sender c.hand.new.self c.args.channel c.in_ok-part.part c.in-Some.is refl
          c.hand.ensures.sent
          ∙ ap (more_given (account_of c.args.self.now c.args.channel)) same,
      e.left ∙ ap (λ (t : TableValue). with_table c.args.kept.now (empty_table t.shape)) same,
    )

pub returns-clause-others : goal.returns-clause-others
returns-clause-others g c place away = given-same c.args.self.now (record {
  sender = Some c.hand.new.self;
  ended = c.args.self.now.ended;
}) c.in-Some.sender c.hand.new.self c.args.channel c.in_ok-part.part c.in-Some.is refl
    c.hand.ensures.sent place away
