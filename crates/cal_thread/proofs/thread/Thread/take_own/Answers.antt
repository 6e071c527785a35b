use Rattle.std.proofs.Common.{◌≡◌, ◌∙◌, ◌+◌, ◌<◌, ◌++◌, ℕ, List, [], ◌∷◌, ap, subst, arith, true}
use Rattle.std.proofs.lemmas.List.Sums.{sum_by-cons}
use Rattle.cal_once.specs.Layout.{times}
use Rattle.cal_once.specs.Seats.{view}
use Rattle.cal_once.specs.declared.view.View.{View}
use Rattle.cal_plog.proofs.Reading.{has_op_later, one_op}
use Rattle.cal_plog.specs.Seats.{plan_of, slots_of}
use Rattle.cal_process.proofs.OperationLemmas.{Held-later}
use Rattle.cal_process.proofs.TakingLemmas.{count-more, must-take, only-learns, takes-looks}
use Rattle.cal_process.proofs.TakingLemmas.{takes-one}
use Rattle.cal_process.proofs.Uses.{uses-taken}
use Rattle.cal_process.specs.Operations.{operation_in, words_made, words_of_ops}
use Rattle.cal_process.specs.Replicas.{AddsWords, HasTaken}
use Rattle.cal_process.specs.Rooms.{UsesAtMost}
use Rattle.cal_process.specs.Takings.{MayTake}
use Rattle.cal_process.specs.declared.common.Common.{Common}
use Rattle.cal_run.specs.Steps.{ThreadState}
use Rattle.cal_thread.proofs.ThreadLemmas.{own-later}
use Rattle.cal_thread.specs.Threads.{HasPlaced}
use Rattle.cal_thread.specs.declared.thread.Thread.{Thread}
use Rattle.cal_words.specs.declared.op.OpRec.{OpRec}
use Rattle.cal_words.specs.declared.sort.OpSort.{OpSort}
use Rattle.cal_thread.proofs.thread.Thread.take_own.Goals as goal

-- within a process line a thread may take in operations too
may-take-own : (common : Common) (t : Thread) (op : OpRec) (h : List OpRec) (state : ThreadState)
    → HasPlaced common t op h state → MayTake common t.tree t.process h
may-take-own common t op h state p = record {
  taken = p.has.taken;
  thread = t.number;
  done = op.line;
  uses = p.uses;
}

pub take_next-requires-clause-taken : goal.take_next-requires-clause-taken
take_next-requires-clause-taken c =
    let p = c.requires.placed in
    (p.1, may-take-own c.args.common.now c.args.self.now p.0 p.1 p.2 p.3)

pub returns-clause-takes : goal.returns-clause-takes
returns-clause-takes c op h state p =
    let common = c.args.common.now in
    let script = common.script.now in
    let slots = slots_of common.log in
    let old = c.args.self.now in
    let new = c.take_next.new.self in
    let tree = c.take_next.new.seat in
    let b = c.in_ok-_own._own in
    let inside = p.there.0 in
    let e : b ≡ true = must-take common old.tree tree old.process new b (old.process.seen + 1)
    (omega arith) (omega (arith, inside)) p.up_to h p.has.taken
    c.in_ok-_own.ensures.takes in
    let o = takes-one common old.tree tree old.process new b e c.in_ok-_own.ensures.takes h
    p.has.taken in
    let same : o.op ≡ op = one_op (plan_of common.log) (view new.log) o.taken.at_log.sound
    old.process.seen o.op op o.has_op
    (has_op_later slots (view old.process.log) (view new.log) old.process.seen op o.learns.more
    p.there) in
    let count : new.seen ≡ old.process.seen + 1 =
    count-more b new.seen old.process.seen e c.in_ok-_own.ensures.count in
    let published : (view new.log).published ≡ (view old.process.log).published =
    ap (λ (x : View OpSort). x.published) o.learns.same in
    record {
      kept = record {
        has = record {
          taken = subst (λ (x : OpRec). HasTaken common tree new (h ++ x ∷ [])) same o.taken;
          number = ap (λ (x : View OpSort). x.number) o.learns.same ∙ p.has.number;
          at_nodes = c.in_ok-_own.ensures.later.1 ∙ p.has.at_nodes;
          mine = Held-later common old.tree tree c.in_ok-_own.ensures.later.3 old.board state.board
              p.has.mine;
          readings = p.has.readings;
          clock = p.has.clock;
        };
        own = own-later slots (view old.process.log) (view new.log) (op.line + 1) o.learns.more
            published p.own;
        below = λ q some.
            let less = p.below q (subst (λ (ps : List ℕ). 0 < times q ps) published some) in
            omega (arith, less, count);
        uses =
            let one = o.words in
            let sum = sum_by-cons (λ (x : OpRec). words_made script (operation_in x)) o.op [] in
            let adds : AddsWords common old.tree tree (words_of_ops script (o.op ∷ [])) =
            omega (arith, one, sum) in
            subst (λ (x : OpRec). UsesAtMost common (view tree) (h ++ x ∷ []) old.number op.line)
            same (uses-taken common old.tree tree h old.number op.line (o.op ∷ []) adds p.uses);
      };
      seen = count;
      learns = only-learns (view old.process.log) (view new.log) o.learns;
      looks = takes-looks common old.tree tree old.process new h o;
      words = subst (λ (x : OpRec). AddsWords common old.tree tree
          (words_made script (operation_in x))) same o.words;
    }
