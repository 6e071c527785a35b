use Rattle.std.proofs.Common.{◌≡◌, ◌+◌, ◌≤◌, ℕ, Bool, if◌then◌else◌, ap, sym, subst, ◌∙◌}
use Rattle.std.proofs.Common.{arith}
use Rattle.cal_board.specs.Standing.{StandsThen}
use Rattle.cal_board.specs.declared.attr.AttrRef.{AttrRef}
use Rattle.cal_hand.specs.Changes.{changed_board}
use Rattle.cal_hand.specs.Nodes.{NodeAt}
use Rattle.cal_once.specs.Seats.{view}
use Rattle.cal_process.proofs.Nodes.{room-to-change}
use Rattle.cal_process.proofs.OperationLemmas.{Held-changed}
use Rattle.cal_process.proofs.UsedWords.{used-at-most, used-by}
use Rattle.cal_process.specs.Operations.{words_by, words_made}
use Rattle.cal_run.specs.Lines.{attr_ref, value_of}
use Rattle.cal_process.proofs.performing.perform.Goals as goal

pub operate-requires-clause-room : goal.operate-requires-clause-room
operate-requires-clause-room c =
    let script = c.args.common.now.script.now in
    let op = c.args.op in
    let as_value = ap (λ (a : AttrRef). a.as_value) (sym c.attr_ref-attr.ensures) in
    let room = c.requires.room in
    room-to-change c.args.common.now c.requires.common c.args.seat.now c.attr_ref-attr.result
    c.change_of-change.result (words_by op.code (value_of script op))
    c.change_of-change.ensures.words (λ reference.
    let words : words_made script op ≡ words_by op.code (value_of script op) =
    ap (λ (b : Bool). if b then 0 else words_by op.code (value_of script op))
    (as_value ∙ reference) in
    omega (arith, room, words))

pub operate-requires-clause-stands : goal.operate-requires-clause-stands
operate-requires-clause-stands c = (c.requires.held.0, c.requires.held.1.stands)

pub returns-clause-words : goal.returns-clause-words
returns-clause-words c =
    let script = c.args.common.now.script.now in
    let was = c.args.seat.now in
    let is = c.operate.new.seat in
    let change = c.change_of-change.result in
    let attr : attr_ref script c.args.op.attr ≡ c.attr_ref-attr.result =
    sym c.attr_ref-attr.ensures in
    let as_value = ap (λ (a : AttrRef). a.as_value) attr in
    let used = used-by c.args.common.now.tree was is c.args.board.now c.operate.new.board
    c.attr_ref-attr.result change c.operate.ensures.one c.in_ok-_reply._reply
    c.in_ok-_reply.ensures.operates in
    subst (λ (b : Bool). (view is).used ≤ (view was).used
    + (if b then 0 else words_by c.args.op.code (value_of script c.args.op))) (sym as_value)
    (subst (λ (n : ℕ). (view is).used ≤ (view was).used
    + (if c.attr_ref-attr.result.as_value then 0 else n)) c.change_of-change.ensures.words used)

pub returns-clause-most : goal.returns-clause-most
returns-clause-most c =
    subst (λ (n : ℕ). (view c.operate.new.seat).used ≤ (view c.args.seat.now).used + n)
    c.change_of-change.ensures.words
    (used-at-most (view c.args.seat.now) (view c.operate.new.seat) _ c.operate.ensures.one)

pub returns-in_err-_reply-clause-most : goal.returns-in_err-_reply-clause-most
returns-in_err-_reply-clause-most c =
    subst (λ (n : ℕ). (view c.operate.new.seat).used ≤ (view c.args.seat.now).used + n)
    c.change_of-change.ensures.words
    (used-at-most (view c.args.seat.now) (view c.operate.new.seat) _ c.operate.ensures.one)

pub returns-clause-changed : goal.returns-clause-changed
returns-clause-changed c b h =
    let common = c.args.common.now in
    let was = c.args.seat.now in
    let is = c.operate.new.seat in
    let change = c.change_of-change.result in
    Held-changed common was is c.args.board.now c.operate.new.board c.args.op change
    c.requires.may.places.attr c.change_of-change.ensures.changes
    (subst (λ (a : AttrRef). StandsThen (NodeAt common.tree was) (NodeAt common.tree is)
    c.args.board.now c.operate.new.board (λ b. changed_board b a change)) c.attr_ref-attr.ensures
    c.in_ok-_reply.ensures.stands) b h
