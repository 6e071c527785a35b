use Rattle.std.proofs.Common.{◌+◌, ◌<◌, ◌∙◌, List, [], ℕ, Bool, refl, sym, subst}
use Rattle.std.proofs.Common.{append-nil, arith}
use Rattle.std.proofs.Common.{inl, inr, ⊎_elim}
use Rattle.std.proofs.lemmas.List.{length-append}
use Rattle.cal_once.specs.Layout.{times}
use Rattle.cal_once.specs.Seats.{view}
use Rattle.cal_plog.specs.Seats.{slots_of}
use Rattle.cal_process.proofs.OperationLemmas.{Held-later}
use Rattle.cal_process.proofs.Uses.{uses-taken}
use Rattle.cal_thread.proofs.ThreadLemmas.{may-take, own-later}
use Rattle.cal_thread.specs.Lines.{Looks}
use Rattle.cal_thread.specs.Threads.{IsThread}
use Rattle.cal_words.specs.declared.op.OpRec.{OpRec}
use Rattle.cal_thread.proofs.thread.Thread.look_if.Goals as goal

pub take_all-requires-clause-taken : goal.take_all-requires-clause-taken
take_all-requires-clause-taken c =
    let t = c.requires.thread in
    (t.1, may-take c.args.common.now c.args.self.now t.0 t.1 t.2 t.3)

pub returns-else-looks-clause-looks : goal.returns-else-looks-clause-looks
returns-else-looks-clause-looks c done h state w =
    let common = c.args.common.now in
    let old = c.args.self.now in
    record {
      ops = [];
      kept = subst (λ (hs : List OpRec). IsThread common old done hs state)
          (sym (append-nil h)) w;
      sees = subst (λ (b : Bool). Looks common old.process old.process [] b)
          (sym c.if-looks.false) (refl, refl);
      words = omega arith;
    }

pub returns-in_ok-take_all-clause-looks : goal.returns-in_ok-take_all-clause-looks
returns-in_ok-take_all-clause-looks c done h state w =
    let common = c.args.common.now in
    let old = c.args.self.now in
    let t = c.in_ok-take_all.ensures.takes h w.has.taken in
    let learns = t.more.learns in
    let was = w.has.taken.long in
    let now = t.more.taken.long in
    let sum = length-append h t.more.ops in
    record {
      ops = t.more.ops;
      kept = record {
        has = record {
          taken = t.more.taken;
          number = learns.number ∙ w.has.number;
          at_nodes = c.in_ok-take_all.ensures.later.1 ∙ w.has.at_nodes;
          mine = Held-later common old.tree c.take_all.new.seat
              c.in_ok-take_all.ensures.later.3 old.board state.board w.has.mine;
          readings = w.has.readings;
          clock = w.has.clock;
        };
        own = own-later (slots_of common.log) (view old.process.log)
            (view c.take_all.new.self.log) (done + 1) learns.more learns.published w.own;
        below = λ p some.
            let less = w.below p (subst (λ (ps : List ℕ). 0 < times p ps) learns.published some) in
            omega (arith, less, was, now, sum);
        uses = uses-taken common old.tree c.take_all.new.seat h old.number done t.more.ops
            t.more.words w.uses;
      };
      sees = subst (λ (b : Bool). Looks common old.process c.take_all.new.self t.more.ops b)
          (sym c.if-looks.true) (⊎_elim (λ e. inr e) (λ e. inl e) t.end, learns);
      words = t.more.words;
    }
