use Rattle.std.proofs.Common.{List, ◌≡◌, true, false, ap, if◌then◌else◌, subst, sym, ◌∙◌}
use Rattle.cal_board.proofs.SlotLemmas.{IfOk-then, OnErr-then}
use Rattle.cal_board.proofs.AskingLemmas.{does_begun, refused_begun}
use Rattle.cal_board.specs.Asking.{Does}
use Rattle.cal_board.proofs.StandingLemmas.{after_begun, after_instead}
use Rattle.cal_board.specs.Blackboard.{Blackboard, begin_reply, is_top, top_at}
use Rattle.cal_board.specs.Standing.{Stands, Steps}
use Rattle.cal_board.specs.declared.reply.BoardReply as replies
use Rattle.cal_board.specs.declared.reply.BoardReply.TheVariants.{Done}
use Rattle.cal_value.specs.declared.variant.Variant.{Variant}
use Rattle.cal_words.specs.declared.op.OpCode.TheVariants as code
use Rattle.cal_board.proofs.board.BoardWithRoom.set.Goals as goal

pub returns-in_ok-open_instead-clause-steps : goal.returns-in_ok-open_instead-clause-steps
returns-in_ok-open_instead-clause-steps g c =
    let P = g.M.NodeMaker.is_node c.args.maker.now in
    let Q = g.M.NodeMaker.is_node c.open_instead.new.maker in
    let a = c.args.attr in
    let held = c.args.self.now in
    let v = g.M.NodeMaker.value_of c.args.maker.now c.args.value in
    let e : is_top (top_at held a) a.number ≡ true = ap (λ t. is_top t a.number) (sym c.top.ensures) ∙ sym c.is_top.ensures ∙ c.if-is_top.true in
    record {
      replies = sym (ap (λ t. if t then Done else begin_reply held a) e);
      stands = λ (b : Blackboard Variant) (is : Stands P held b).
          after_instead P held b is a Q c.open_instead.new.self v e (c.in_ok-open_instead.ensures.stands b is);
    }

pub returns-else-is_top-clause-steps : goal.returns-else-is_top-clause-steps
returns-else-is_top-clause-steps g c =
    let P = g.M.NodeMaker.is_node c.args.maker.now in
    let Q = g.M.NodeMaker.is_node c.begin.new.maker in
    let a = c.args.attr in
    let held = c.args.self.now in
    let v = g.M.NodeMaker.value_of c.args.maker.now c.args.value in
    let e : is_top (top_at held a) a.number ≡ false = ap (λ t. is_top t a.number) (sym c.top.ensures) ∙ sym c.is_top.ensures ∙ c.if-is_top.false in
    IfOk-then c.begin.result
    (λ (r : replies.BoardReply) (s : Steps P Q held c.begin.new.self code.Begin a v r). record {
      replies = s.replies ∙ sym (ap (λ t. if t then Done else begin_reply held a) e);
      stands = λ (b : Blackboard Variant) (is : Stands P held b). after_begun P held b is a Q c.begin.new.self v e (s.stands b is);
    })
    c.begin.ensures.steps

pub returns-else-is_top-clause-does : goal.returns-else-is_top-clause-does
returns-else-is_top-clause-does g c =
    let a = c.args.attr in
    let held = c.args.self.now in
    let v = g.M.NodeMaker.value_of c.args.maker.now c.args.value in
    let e : is_top (top_at held a) a.number ≡ false = ap (λ t. is_top t a.number) (sym c.top.ensures) ∙ sym c.is_top.ensures ∙ c.if-is_top.false in
    IfOk-then c.begin.result
    (λ (r : replies.BoardReply) (d : Does g.M.NodeMaker.adds c.args.maker.now c.begin.new.maker held c.begin.new.self code.Begin a v r).
    does_begun g.M.NodeMaker.adds c.args.maker.now c.begin.new.maker held c.begin.new.self a v e r d)
    c.begin.ensures.does

pub returns-else-is_top-clause-refused : goal.returns-else-is_top-clause-refused
returns-else-is_top-clause-refused g c room =
    let a = c.args.attr in
    let held = c.args.self.now in
    let e : is_top (top_at held a) a.number ≡ false = ap (λ t. is_top t a.number) (sym c.top.ensures) ∙ sym c.is_top.ensures ∙ c.if-is_top.false in
    OnErr-then c.begin.result
    (refused_begun g.M.NodeMaker.refuses g.M.NodeMaker.is_plain c.args.maker.now c.begin.new.maker held a c.args.value e)
    (c.begin.ensures.refused room)
