use Rattle.std.proofs.Common.{◌≡◌, Bool, true, false, if◌then◌else◌, subst, sym, ◌∙◌}
use Rattle.cal_context.proofs.CallerLemmas.{Grows-refl}
use Rattle.cal_run.proofs.AcceptedLemmas.{accepted-line}
use Rattle.cal_run.specs.Adding.{MayAccept}
use Rattle.cal_run.specs.Held.{Holds}
use Rattle.cal_run.specs.Lines.{operation_of}
use Rattle.cal_run.specs.Steps.{is_accepted, reply_to_line}
use Rattle.cal_run.proofs.LineLemmas.{line-own, line-places, line-refused, line-shared}
use Rattle.cal_run.proofs.line.run_known.Goals as goal

pub returns-then-not-accepted-clause-runs : goal.returns-then-not-accepted-clause-runs
returns-then-not-accepted-clause-runs g c = λ state previous kept.
    line-refused (Grows-refl c.args.context.now) c.args.script.now c.args.history.now
    c.args.thread.now c.args.thread.now.process c.args.channel.now c.args.line c.args.note
    c.args.shared c.args.accepted c.requires.kind c.requires.thread.2.process c.requires.seen
    c.requires.answer state previous kept
    (g.T.Taker.has_taken c.args.taker.now c.args.context.now)
    (g.T.Taker.has_taken c.args.taker.now c.args.context.now)
    (let no_such : c.args.accepted ≡ false = cc in no_such)
    (λ rs h. h)

pub returns-then-not-accepted-clause-grows : goal.returns-then-not-accepted-clause-grows
returns-then-not-accepted-clause-grows g c = Grows-refl _

pub hand_on-requires-clause-places : goal.hand_on-requires-clause-places
hand_on-requires-clause-places g c = line-places c.args.script.now c.args.line c.requires.placed

pub hand_on-requires-clause-shown : goal.hand_on-requires-clause-shown
hand_on-requires-clause-shown g c = (
  c.requires.thread.0.board,
  c.requires.thread.2.mine,
)

pub returns-then-shared-clause-runs : goal.returns-then-shared-clause-runs
returns-then-shared-clause-runs g c = λ state previous kept.
    line-shared (Grows-refl c.args.context.now) c.args.script.now c.args.history.now
    c.args.thread.now c.args.thread.now.process c.args.channel.now c.args.line c.args.note
    c.args.shared c.args.accepted c.requires.kind c.requires.thread.2.process c.requires.seen
    c.requires.answer state previous kept
    c.hand_on.new.thread (let so : c.args.accepted ≡ true = cc in so)
    c.in_ok-hand_on.ensures.board
    c.in_ok-hand_on.ensures.readings c.in_ok-hand_on.ensures.timed c.in_ok-hand_on.ensures.process
    c.in_ok-hand_on.ensures.previous
    (g.T.Taker.has_taken c.args.taker.now c.args.context.now)
    (g.T.Taker.has_taken c.hand_on.new.taker c.args.context.now)
    c.in_ok-hand_on.ensures.taken
    (g.T.Taker.has_taken c.args.taker.now c.args.context.now)
    (λ rs h. h)
    (let so : c.args.shared ≡ true = cc in so)

pub make_change-requires-clause-places : goal.make_change-requires-clause-places
make_change-requires-clause-places g c = line-places c.args.script.now c.args.line c.requires.placed

pub make_change-requires-clause-holds : goal.make_change-requires-clause-holds
make_change-requires-clause-holds g c = (
  c.requires.thread.0.board,
  subst (λ b. Holds c.args.context.now c.args.script.now b c.requires.thread.0.board)
      (sym c.in_ok-hand_on.ensures.board) c.requires.thread.2.mine,
)

pub make_change-requires-clause-accepted : goal.make_change-requires-clause-accepted
make_change-requires-clause-accepted g c =
    let own : c.args.shared ≡ false = cc in
    let so : c.args.accepted ≡ true = cc in
    let script = c.args.script.now in
    let process = c.args.thread.now.process.board in
    let mine = c.args.thread.now.board in
    let answer = subst (λ (p : Bool). c.args.accepted
    ≡ is_accepted (reply_to_line script (if p then process else mine) c.args.line)) own
    c.requires.answer in
    subst (λ b. MayAccept script b (operation_of c.args.line))
    (sym c.in_ok-hand_on.ensures.board)
    (accepted-line script mine c.args.line (sym answer ∙ so))

pub returns-clause-runs : goal.returns-clause-runs
returns-clause-runs g c = λ state previous kept.
    line-own (Grows-refl c.args.context.now) c.args.script.now c.args.history.now
    c.args.thread.now c.args.thread.now.process c.args.channel.now c.args.line c.args.note
    c.args.shared c.args.accepted c.requires.kind c.requires.thread.2.process c.requires.seen
    c.requires.answer state previous kept
    c.hand_on.new.thread (let so : c.args.accepted ≡ true = cc in so)
    c.in_ok-hand_on.ensures.board
    c.in_ok-hand_on.ensures.readings c.in_ok-hand_on.ensures.timed c.in_ok-hand_on.ensures.process
    c.in_ok-hand_on.ensures.previous
    (g.T.Taker.has_taken c.args.taker.now c.args.context.now)
    (g.T.Taker.has_taken c.hand_on.new.taker c.args.context.now)
    c.in_ok-hand_on.ensures.taken
    c.make_change.ensures.grows c.make_change.new.thread
    (g.T.Taker.has_taken c.args.taker.now c.args.context.now)
    (g.T.Taker.has_taken c.hand_on.new.taker c.make_change.new.context)
    (λ rs h. h)
    (λ rs h. g.met.T.Taker.stays _ _ _ _ h c.make_change.ensures.grows)
    (let own : c.args.shared ≡ false = cc in own)
    c.in_ok-make_change.ensures.board
    c.in_ok-make_change.ensures.readings c.in_ok-make_change.ensures.timed
    c.in_ok-make_change.ensures.process
    c.in_ok-make_change.ensures.previous
