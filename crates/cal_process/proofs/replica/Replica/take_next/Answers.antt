use Rattle.std.proofs.Common.{◌≡◌, ◌+◌, ℕ, [], ◌∷◌, ◌++◌, length, arith, refl, sym, ap}
use Rattle.std.proofs.Common.{◌∙◌, subst, ⊎_elim}
use Rattle.std.proofs.lemmas.List.{length-append}
use Rattle.std.proofs.lemmas.List.Elements.{All-contains}
use Rattle.cal_board.specs.Blackboard.{Blackboard}
use Rattle.cal_once.specs.Seats.{view}
use Rattle.cal_once.specs.Views.{KnowsMore}
use Rattle.cal_once.specs.declared.view.View.{View}
use Rattle.cal_plog.specs.Seats.{ops_of, plan_of, slots_of}
use Rattle.cal_process.proofs.OperationLemmas.{op-may}
use Rattle.cal_process.proofs.Seen.{shared-room}
use Rattle.cal_process.proofs.SevenEach.{seven-learns, seven-looks}
use Rattle.cal_process.proofs.TakingLemmas.{board-more, seen-later, seen-more, seen-within}
use Rattle.cal_process.specs.Boards.{Held}
use Rattle.cal_process.specs.Operations.{IsOpOf, history_of}
use Rattle.cal_run.specs.History.{process_board}
use Rattle.cal_value.specs.declared.variant.Variant.{Variant}
use Rattle.cal_words.specs.declared.sort.OpSort.{OpSort}
use Rattle.cal_process.proofs.replica.Replica.take_next.Goals as goal

pub next-requires-clause-place : goal.next-requires-clause-place
next-requires-clause-place c =
    let t = c.requires.taken.1.taken in
    let long = t.long in
    let inside = seen-within (slots_of c.args.common.now.log) (view c.args.self.now.log)
    c.requires.taken.0 t.read in
    omega (arith, long, inside)

pub perform-requires-clause-may : goal.perform-requires-clause-may
perform-requires-clause-may c =
    op-may c.args.common.now.script.now c.in-Some.op c.requires.common.runnable
    (All-contains (IsOpOf c.args.common.now.script.now) (ops_of c.args.common.now.log) c.in-Some.op
    c.requires.common.ops c.in-Some.ensures.answer.among)

pub perform-requires-clause-room : goal.perform-requires-clause-room
perform-requires-clause-room c =
    let common = c.args.common.now in
    let m = c.requires.taken.1 in
    let op = c.in-Some.op in
    let answer = c.in-Some.ensures.answer in
    let w = view c.next.new.seat in
    shared-room common c.requires.common w c.in-Some.ensures.seat.sound (view c.args.seat.now)
    c.requires.taken.0 op m.thread m.done
    (seen-more (slots_of common.log) (view c.args.self.now.log) w c.requires.taken.0 op
    c.args.self.now.seen answer.learns.more m.taken.read m.taken.long answer.has_op) m.uses

pub returns-in-None-clause-takes : goal.returns-in-None-clause-takes
returns-in-None-clause-takes c h t =
    let v = view c.args.self.now.log in
    let w = view c.next.new.seat in
    let more : KnowsMore v w = ⊎_elim
    (λ e. subst (λ (x : View OpSort). KnowsMore v x) (sym e.1) (λ i x saw. saw))
    (λ e. e.2.more) c.in-None.ensures.answer in
    record {
      end = c.in-None.ensures.answer;
      taken = record {
        at_tree = t.at_tree;
        at_log = c.in-None.ensures.seat;
        read = seen-later (slots_of c.args.common.now.log) v w h more t.read;
        long = t.long;
        words = seven-looks (plan_of c.args.common.now.log) v w c.args.self.now.seen
            c.in-None.ensures.answer t.words;
        held = t.held;
      };
      seat = refl;
    }

pub returns-in_ok-perform-in-Some-clause-takes : goal.returns-in_ok-perform-in-Some-clause-takes
returns-in_ok-perform-in-Some-clause-takes c h t =
    let common = c.args.common.now in
    let script = common.script.now in
    let op = c.in-Some.op in
    let answer = c.in-Some.ensures.answer in
    let v = view c.args.self.now.log in
    let w = view c.next.new.seat in
    let done = c.in_ok-perform-in-Some.ensures in
    let of : IsOpOf script op = All-contains (IsOpOf script) (ops_of common.log) op
    c.requires.common.ops answer.among in
    let long : length h ≡ c.args.self.now.seen = t.long in
    let before : Held common c.args.seat.now c.args.self.now.board
    (process_board script (history_of h) (length h)) =
    subst (λ (n : ℕ). Held common c.args.seat.now c.args.self.now.board
    (process_board script (history_of h) n)) (sym long) t.held in
    record {
      op = op;
      has_op = answer.has_op;
      learns = answer.learns;
      taken = record {
        at_tree = done.seat;
        at_log = c.in-Some.ensures.seat;
        read = seen-more (slots_of common.log) v w h op c.args.self.now.seen answer.learns.more
            t.read long answer.has_op;
        words = seven-learns v w answer.learns t.words;
        long = length-append h (op ∷ []) ∙ ap (λ (n : ℕ). n + 1) long;
        held = subst (λ (n : ℕ). Held common c.perform.new.seat c.perform.new.board
            (process_board script (history_of (h ++ op ∷ [])) (n + 1))) long
            (subst (λ (b : Blackboard Variant). Held common c.perform.new.seat
            c.perform.new.board b) (sym (board-more script h op of))
            (done.changed _ before));
      };
      words = done.words;
    }
