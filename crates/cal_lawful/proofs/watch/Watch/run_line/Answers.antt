use Rattle.std.proofs.Common.{◌≡◌, true, false, sym, refl, ◌∙◌}
use Rattle.cal_context.proofs.CallerLemmas.{Grows-trans}
use Rattle.cal_run.proofs.HeldLemmas.{Holds-Grows}
use Rattle.cal_run.proofs.LineLemmas.{line-places}
use Rattle.cal_run.proofs.NumberLemmas.{AreNumbered-Grows}
use Rattle.cal_lawful.proofs.WatchLemmas.{accepted-watch, found-of, refused-watch}
use Rattle.cal_lawful.proofs.watch.Watch.run_line.Goals as goal

pub take_in-requires-clause-process : goal.take_in-requires-clause-process
take_in-requires-clause-process c = c.requires.watched.1.process

pub returns-then-not-is_changing-clause-found : goal.returns-then-not-is_changing-clause-found
returns-then-not-is_changing-clause-found c = λ state is.
    found-of c.take_in.ensures.grows c.args.script.now c.args.history.now c.args.line c.args.note
    state c.args.self.now is c.take_in.new.self c.in_ok-take_in.ensures.process
    c.is_process_line-shared.result c.is_process_line-shared.ensures
    (c.in_ok-take_in.ensures.seen ∙ c.seen_before-seen.ensures) c.find-found.result
    c.find-found.ensures

pub returns-then-not-is_changing-clause-kept : goal.returns-then-not-is_changing-clause-kept
returns-then-not-is_changing-clause-kept c = λ state is.
    let refused : c.is_changing.result ≡ false = cc in
    refused-watch c.take_in.ensures.grows c.args.script.now c.args.history.now c.args.line
    c.args.note state c.args.self.now is c.take_in.new.self c.in_ok-take_in.ensures.process
    c.is_process_line-shared.result c.is_process_line-shared.ensures
    (c.in_ok-take_in.ensures.seen ∙ c.seen_before-seen.ensures) c.find-found.result
    c.find-found.ensures (sym c.is_changing.ensures ∙ refused) _ refl refl refl

pub change-requires-clause-numbered : goal.change-requires-clause-numbered
change-requires-clause-numbered c =
    AreNumbered-Grows c.take_in.ensures.grows c.args.script.now c.args.numbers.now
    c.requires.numbered

pub change-requires-clause-places : goal.change-requires-clause-places
change-requires-clause-places c = line-places c.args.script.now c.args.line c.requires.placed

pub change-requires-clause-holds : goal.change-requires-clause-holds
change-requires-clause-holds c = (
  c.requires.watched.0.board,
  Holds-Grows c.take_in.ensures.grows c.args.script.now c.args.self.now.board
      c.requires.watched.0.board c.requires.watched.1.mine,
)

pub returns-in_err-change-clause-grows : goal.returns-in_err-change-clause-grows
returns-in_err-change-clause-grows c =
    Grows-trans _ _ _ c.take_in.ensures.grows c.change.ensures.grows

pub returns-clause-found : goal.returns-clause-found
returns-clause-found c = λ state is.
    found-of c.take_in.ensures.grows c.args.script.now c.args.history.now c.args.line c.args.note
    state c.args.self.now is c.take_in.new.self c.in_ok-take_in.ensures.process
    c.is_process_line-shared.result c.is_process_line-shared.ensures
    (c.in_ok-take_in.ensures.seen ∙ c.seen_before-seen.ensures) c.find-found.result
    c.find-found.ensures

pub returns-clause-kept : goal.returns-clause-kept
returns-clause-kept c = λ state is.
    let accepted : c.is_changing.result ≡ true = cc in
    accepted-watch c.take_in.ensures.grows c.args.script.now c.args.history.now c.args.line
    c.args.note state c.args.self.now is c.take_in.new.self c.in_ok-take_in.ensures.process
    c.is_process_line-shared.result c.is_process_line-shared.ensures
    (c.in_ok-take_in.ensures.seen ∙ c.seen_before-seen.ensures) c.find-found.result
    c.find-found.ensures (sym c.is_changing.ensures ∙ accepted) c.change.ensures.grows
    c.change.new.self c.in_ok-change.ensures.board c.in_ok-change.ensures.process
    c.in_ok-change.ensures.clock

pub returns-clause-grows : goal.returns-clause-grows
returns-clause-grows c = Grows-trans _ _ _ c.take_in.ensures.grows c.change.ensures.grows
