use Rattle.std.proofs.Common.{◌≡◌, [], ◌∙◌}
use Rattle.cal_events.specs.Worlds.{world_at_start}
use Rattle.cal_steps.proofs.BeginningLemmas.{none-reached}
use Rattle.cal_steps.proofs.world.World.new.Goals as goal
use Rattle.cal_world.proofs.TurnLemmas.{notes-long}

pub returns-clause-start : goal.returns-clause-start
returns-clause-start c =
    let script = c.args.script.now in
    let journal = c.args.journal.now in
    let reached = c.in_ok-reached.ensures
    ∙ none-reached 0 script.threads journal.threads (notes-long script journal c.requires.shape) in
    λ j. record {
      progress = record { history = c.new.ensures j; threads = reached j };
      paths = c.new-2.ensures j;
      threads = c.in_ok-threads.ensures j;
      books = c.in_ok-books.ensures j;
    }

pub returns-clause-behind : goal.returns-clause-behind
returns-clause-behind c =
    let script = c.args.script.now in
    let journal = c.args.journal.now in
    let reached = c.in_ok-reached.ensures
    ∙ none-reached 0 script.threads journal.threads (notes-long script journal c.requires.shape) in
    record {
      events = [];
      next = tt;
      world = λ j. record {
        progress = record { history = c.new.ensures j; threads = reached j };
        paths = c.new-2.ensures j;
        threads = c.in_ok-threads.ensures j;
        books = c.in_ok-books.ensures j;
      };
    }
