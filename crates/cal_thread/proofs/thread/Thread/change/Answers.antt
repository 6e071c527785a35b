use Rattle.std.proofs.Common.{◌≡◌, ◌∙◌, ℕ, ◌+◌, ◌<◌, Bool, if◌then◌else◌, sym, ap, subst}
use Rattle.std.specs.Prelude.{Option}
use Rattle.cal_board.specs.Readings.{readings_after}
use Rattle.cal_once.specs.Layout.{times}
use Rattle.cal_once.specs.Seats.{view}
use Rattle.cal_plog.specs.History.{OwnBefore}
use Rattle.cal_plog.specs.Seats.{slots_of}
use Rattle.cal_process.proofs.OperationLemmas.{placed-may}
use Rattle.cal_process.proofs.Seen.{own-room}
use Rattle.cal_process.proofs.Uses.{uses-own}
use Rattle.cal_process.specs.Boards.{Held}
use Rattle.cal_process.specs.Operations.{own_words, words_made, words_of_line}
use Rattle.cal_process.specs.Replicas.{AddsWords}
use Rattle.cal_process.specs.Rooms.{UsesAtMost}
use Rattle.cal_process.specs.declared.replica.Replica.{Replica}
use Rattle.cal_run.specs.History.{board_placed}
use Rattle.cal_run.specs.Lines.{attr_ref, clock_after}
use Rattle.cal_run.specs.Steps.{readings_changed}
use Rattle.cal_run.specs.declared.operation.Operation.{Operation}
use Rattle.cal_thread.proofs.ThreadLemmas.{clock-stands, line-done}
use Rattle.cal_thread.specs.Lines.{words_if}
use Rattle.cal_thread.proofs.thread.Thread.change.Goals as goal

pub operate-requires-clause-room : goal.operate-requires-clause-room
operate-requires-clause-room c =
    let common = c.args.common.now in
    let old = c.args.self.now in
    let t = c.requires.thread in
    let w = t.3 in
    own-room common c.requires.common (view old.process.log) w.has.taken.at_log.sound
    (view old.tree) t.1 old.number t.0 c.args.line c.in-Some.op w.has.taken.read w.uses t.4
    c.requires.own (sym c.in-Some.ensures)

pub operate-requires-clause-may : goal.operate-requires-clause-may
operate-requires-clause-may c = placed-may c.args.common.now.script.now c.args.line c.in-Some.op
    c.requires.placed (sym c.in-Some.ensures)

pub returns-in-None-clause-changed : goal.returns-in-None-clause-changed
returns-in-None-clause-changed c done h state note reading at w =
    let script = c.args.common.now.script.now in
    let s = w.has in
    let e = c.in-None.ensures in
    let behind = line-done c.args.common.now c.args.self.now done h state w in
    record {
      has = record {
        taken = s.taken;
        number = s.number;
        at_nodes = s.at_nodes;
        mine = subst (λ (o : Option Operation). Held c.args.common.now c.args.self.now.tree
            c.args.self.now.board (board_placed script state.board o)) e s.mine;
        readings = λ timed. s.readings timed
            ∙ ap (λ (o : Option Operation). readings_changed script state.readings note o) e;
        clock = c.clock_after-self.ensures ∙ ap (λ (k : ℕ). clock_after k c.args.line) s.clock;
      };
      own = behind.own;
      below = w.below;
      uses = behind.uses;
    }

pub returns-in_ok-operate-in-Some-clause-changed :
    goal.returns-in_ok-operate-in-Some-clause-changed
returns-in_ok-operate-in-Some-clause-changed c done h state note reading at w =
    let common = c.args.common.now in
    let slots = slots_of common.log in
    let same = c.in_ok-operate-in-Some.ensures.process in
    let script = c.args.common.now.script.now in
    let new = c.operate.new.self in
    let op = c.in-Some.op in
    let e = c.in-Some.ensures in
    let r = c.in_ok-operate-in-Some.ensures.operated h state w.has in
    record {
      has = record {
        taken = r.taken;
        number = r.number;
        at_nodes = r.at_nodes;
        mine = subst (λ (o : Option Operation). Held c.args.common.now new.tree new.board
            (board_placed script state.board o)) e r.mine;
        readings = λ timed. r.readings timed
            ∙ ap (λ (n : ℕ). readings_after state.readings op.code (attr_ref script op.attr) n)
            (sym reading)
            ∙ ap (λ (o : Option Operation). readings_changed script state.readings note o) e;
        clock = r.clock ∙ clock-stands c.args.line op state.clock e;
      };
      own = subst (λ (p : Replica). OwnBefore slots (view p.log) (done + 1 + 1)) (sym same)
          (line-done common c.args.self.now done h state w).own;
      below = λ q some. subst (λ (p : Replica). 0 < times q (view p.log).published → q < p.seen)
          (sym same) (w.below q) some;
      uses =
          let own : own_words script c.args.line ≡ words_made script op =
          ap (λ (b : Bool). if b then 0 else words_of_line script c.args.line) c.requires.own
          ∙ ap (words_if script) (sym e) in
          let adds : AddsWords common c.args.self.now.tree new.tree (own_words script c.args.line) =
          subst (λ (n : ℕ). AddsWords common c.args.self.now.tree new.tree n) (sym own)
          c.in_ok-operate-in-Some.ensures.words in
          subst (λ (n : ℕ). UsesAtMost common (view new.tree) h n (done + 1))
          (sym c.in_ok-operate-in-Some.ensures.number)
          (uses-own common c.args.self.now.tree new.tree h c.args.self.now.number done c.args.line at
          adds w.uses);
    }

pub returns-in_ok-operate-in-Some-clause-words :
    goal.returns-in_ok-operate-in-Some-clause-words
returns-in_ok-operate-in-Some-clause-words c =
    subst (λ (o : Option Operation). AddsWords c.args.common.now c.args.self.now.tree
    c.operate.new.self.tree (words_if c.args.common.now.script.now o)) c.in-Some.ensures
    c.in_ok-operate-in-Some.ensures.words

pub operate-requires-clause-thread : goal.operate-requires-clause-thread
operate-requires-clause-thread c = let t = c.requires.thread in (t.1, t.2, t.3.has)
