use Rattle.std.proofs.Common.{List, [], ◌∷◌, ◌++◌, take, sym, ap, ◌∙◌, arith}
use Rattle.std.proofs.lemmas.List.{map-append, take_all, take_more}
use Rattle.cal_names.specs.declared.declare.Declared.{Declared}
use Rattle.cal_naming.specs.Replies.{all_replies, replies_to}
use Rattle.cal_naming.proofs.replies.reply_to_all.Goals as goal

pub loop-own-init : goal.loop-own-init
loop-own-init c = c.in_ok-replies.ensures.items

pub loop-own-preserved : goal.loop-own-preserved
loop-own-preserved c =
    let i = c.loop-own.own-index in
    let answers = c.args.answers.now in
    let own = c.own-item.result in
    let replied = c.in_ok-replied.ensures ∙ ap replies_to c.as_slice.ensures in
    c.in_ok-push.ensures.items
    ∙ (λ j. c.loop-own.invariant j ++ replied j ∷ [])
    ∙ sym (map-append replies_to (take i answers) (own ∷ []))
    ∙ ap (λ (o : List Declared). all_replies (take i answers ++ o ∷ [])) c.own-item.is
    ∙ ap all_replies (sym (take_more answers i own (omega arith)))

pub returns : goal.returns
returns c = c.from_vec.ensures ∙ c.loop-own.invariant
    ∙ ap all_replies (take_all c.loop-own.own-index c.args.answers.now (omega arith))
