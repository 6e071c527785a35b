use Rattle.std.proofs.Common.{◌≡◌, ◌∙◌, ◌*◌, ◌<◌, ℕ, List, [], length, refl, sym, ap, subst, arith}
use Rattle.cal_board.specs.Blackboard.{Blackboard, nothing_open}
use Rattle.cal_once.specs.Layout.{times}
use Rattle.cal_once.specs.Seats.{view}
use Rattle.cal_once.specs.declared.seat.RowSeat.{RowSeat}
use Rattle.cal_process.proofs.OperationLemmas.{nothing-held}
use Rattle.cal_process.specs.Boards.{Held}
use Rattle.cal_words.specs.declared.node.NodeId.{NodeId}
use Rattle.cal_words.specs.declared.sort.OpSort.{OpSort}
use Rattle.cal_thread.proofs.thread.Thread.new.Goals as goal

pub returns-clause-thread : goal.returns-clause-thread
returns-clause-thread c common at_tree at_log =
    let log = c.new-process.ensures.log in
    let published : (view c.new-process.result.log).published ≡ [] =
    ap (λ (s : RowSeat OpSort). (view s).published) log ∙ c.requires.fresh in
    record {
      has = record {
        taken = c.new-process.ensures.taken common c.args.tree at_tree at_log
            (c.requires.unused ∙ ap (λ (ps : List ℕ). 7 * length ps) (sym c.requires.fresh));
        number = ap (λ (s : RowSeat OpSort). (view s).number) log ∙ c.requires.number;
        at_nodes = c.requires.at_nodes;
        mine = subst (λ (b : Blackboard NodeId). Held common c.args.tree b nothing_open)
            (sym c.new-board.ensures) (nothing-held common c.args.tree);
        readings = λ timed. c.new-readings.ensures;
        clock = refl;
      };
      own = λ place some.
          let no = subst (λ (ps : List ℕ). 0 < times place ps) published some in
          absurd (omega (arith, no));
      below = λ place some.
          let no = subst (λ (ps : List ℕ). 0 < times place ps) published some in
          absurd (omega (arith, no));
      uses = let none = c.requires.no_nodes in omega (arith, none);
    }
