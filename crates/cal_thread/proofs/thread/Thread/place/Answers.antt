use Rattle.std.proofs.Common.{◌≡◌, ◌∙◌, ◌+◌, ◌≤◌, ◌<◌, ◌++◌, ℕ, List, [], ◌∷◌, sym, ap, subst}
use Rattle.std.proofs.Common.{arith}
use Rattle.cal_hand.specs.Nodes.{NodeAt}
use Rattle.cal_once.specs.Layout.{times}
use Rattle.cal_once.specs.Seats.{view}
use Rattle.cal_once.specs.declared.view.View.{View}
use Rattle.cal_plog.proofs.Reading.{has_op_later, knows_below_later}
use Rattle.cal_plog.specs.History.{HasOp, KnowsBelow, OwnBefore}
use Rattle.cal_plog.specs.Seats.{slots_of}
use Rattle.cal_process.proofs.OperationLemmas.{Held-later}
use Rattle.cal_process.proofs.Uses.{uses-later, uses-taken}
use Rattle.cal_process.specs.Operations.{history_of}
use Rattle.cal_process.specs.Rooms.{UsesAtMost}
use Rattle.cal_run.proofs.LineLemmas.{reply_to_line-Stands}
use Rattle.cal_run.specs.History.{process_board}
use Rattle.cal_thread.proofs.ThreadLemmas.{below-more, own-later, shared-found}
use Rattle.cal_words.specs.declared.op.OpRec.{OpRec}
use Rattle.cal_words.specs.declared.sort.OpSort.{OpSort}
use Rattle.cal_thread.proofs.thread.Thread.place.Goals as goal

pub place-at-requires-clause-taken : goal.place-at-requires-clause-taken
place-at-requires-clause-taken c =
    let t = c.requires.thread in (c.args.self.now.tree, t.1, t.3.has.taken)

pub place-at-requires-clause-thread : goal.place-at-requires-clause-thread
place-at-requires-clause-thread c =
    c.requires.thread.3.has.number ∙ ap (λ (n : ℕ). n + 1) (sym c.requires.own)

pub place-at-requires-clause-line : goal.place-at-requires-clause-line
place-at-requires-clause-line c =
    let t = c.requires.thread in
    subst (λ (n : ℕ). OwnBefore (slots_of c.args.common.now.log)
    (view c.args.self.now.process.log) n) (sym t.4) t.3.own

pub take_to-requires-clause-taken : goal.take_to-requires-clause-taken
take_to-requires-clause-taken c =
    let t = c.requires.thread in
    let old = c.args.self.now in (
      t.1,
      record {
        taken = c.place-at.ensures.kept old.tree t.1 t.3.has.taken;
        thread = old.number;
        done = t.0;
        uses = t.3.uses;
      },
    )

pub take_to-requires-clause-known : goal.take_to-requires-clause-known
take_to-requires-clause-known c =
    λ q less. c.place-at.ensures.appended.up_to q (omega (arith, less))

pub take_to-requires-clause-within : goal.take_to-requires-clause-within
take_to-requires-clause-within c =
    let inside = c.place-at.ensures.appended.has_op.0 in omega (arith, inside)

pub take_to-requires-clause-behind : goal.take_to-requires-clause-behind
take_to-requires-clause-behind c =
    let behind = c.place-at.ensures.behind in
    let same = c.place-at.ensures.seen in
    omega (arith, behind, same)

pub returns-clause-meets : goal.returns-clause-meets
returns-clause-meets c done h state w line_is =
    let common = c.args.common.now in
    let script = common.script.now in
    let slots = slots_of common.log in
    let old = c.args.self.now in
    let op = c.args.op in
    let line = c.args.line in
    let place = c.place-at.result in
    let placed = c.place-at.new.self in
    let mid = c.take_to.new.self in
    let tree = c.take_to.new.seat in
    let app = c.place-at.ensures.appended in
    let t = c.place-at.ensures.kept old.tree h w.has.taken in
    let m = c.in_ok-take_to.ensures.takes h t in
    let g : List OpRec = h ++ m.ops in
    let seen : mid.seen ≡ place = c.in_ok-take_to.ensures.seen in
    let known : KnowsBelow slots (view mid.log) (place + 1) = knows_below_later slots
    (view placed.log) (view mid.log) (place + 1) m.learns.more app.up_to in
    let published : (view mid.log).published ≡ (view old.process.log).published ++ mid.seen ∷ [] =
    m.learns.published ∙ ap (λ (x : View OpSort). x.published) app.learns.same
    ∙ ap (λ (n : ℕ). (view old.process.log).published ++ n ∷ []) (sym seen) in
    let behind : old.process.seen ≤ mid.seen =
    subst (λ (n : ℕ). old.process.seen ≤ n) (sym seen) c.place-at.ensures.behind in
    let later = c.in_ok-take_to.ensures.later in
    record {
      ops = m.ops;
      placed = record {
        has = record {
          taken = m.taken;
          number = m.learns.number ∙ ap (λ (x : View OpSort). x.number) app.learns.same
              ∙ w.has.number;
          at_nodes = later.1 ∙ w.has.at_nodes;
          mine = Held-later common old.tree tree later.3 old.board state.board w.has.mine;
          readings = w.has.readings;
          clock = w.has.clock;
        };
        there = subst (λ (n : ℕ). HasOp slots (view mid.log) n op) (sym seen)
            (has_op_later slots (view placed.log) (view mid.log) place op m.learns.more app.has_op);
        up_to = subst (λ (n : ℕ). KnowsBelow slots (view mid.log) (n + 1)) (sym seen) known;
        own = own-later slots (view placed.log) (view mid.log) (op.line + 1) m.learns.more
            m.learns.published app.own;
        below = λ p some. below-more (view old.process.log).published mid.seen p old.process.seen
            w.below behind (subst (λ (ps : List ℕ). 0 < times p ps) published some);
        uses = subst (λ (n : ℕ). UsesAtMost common (view tree) g old.number n) (sym line_is)
            (uses-later common (view tree) g old.number done
            (uses-taken common old.tree tree h old.number done m.ops m.words w.uses));
      };
      found = λ more note is.
          shared-found script g more line note state mid.seen c.requires.shared m.taken.long is
          ∙ sym (reply_to_line-Stands (NodeAt common.tree tree) script mid.board
          (process_board script (history_of g) mid.seen) m.taken.held.stands line)
          ∙ sym c.reply_to_line.ensures;
      published = published;
      looks = c.in_ok-take_to.ensures.looks
          ∙ ap (λ (x : View OpSort). x.looks) app.learns.same;
      used = m.learns.used ∙ ap (λ (x : View OpSort). x.used) app.learns.same;
      words = m.words;
    }
