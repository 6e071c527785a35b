use Rattle.std.proofs.Common.{◌+◌, ◌<◌, ◌≤◌, arith, sym, true≢false, ⊎_elim}
use Rattle.std.specs.Prelude.{Err}
use Rattle.std.proofs.lemmas.Bool.{cases_lt}
use Rattle.cal_once.proofs.Seen.{was_seen_from}
use Rattle.cal_once.specs.Seats.{view}
use Rattle.cal_plog.proofs.Reading.{read_of}
use Rattle.cal_plog.specs.Seats.{plan_of, slots_of}
use Rattle.cal_process.proofs.Arenas.{appends-ok}
use Rattle.cal_process.proofs.SevenEach.{seven-appended}
use Rattle.cal_process.proofs.TakingLemmas.{seen-later, seen-within}
use Rattle.cal_process.proofs.replica.Replica.place.Goals as goal

pub append-requires-clause-from : goal.append-requires-clause-from
append-requires-clause-from c =
    let t = c.requires.taken.2 in
    let long = t.long in
    let inside = seen-within (slots_of c.args.common.now.log) (view c.args.self.now.log)
    c.requires.taken.1 t.read in
    omega (arith, long, inside)

pub append-requires-clause-known : goal.append-requires-clause-known
append-requires-clause-known c place less =
    let t = c.requires.taken.2 in
    let long = t.long in
    read_of (plan_of c.args.common.now.log) (view c.args.self.now.log) t.at_log.sound place _
    (t.read place c.args.op (omega (arith, long, less)))

pub unreachable-requires : goal.unreachable-requires
unreachable-requires c =
    let r = c.requires in
    let t = r.taken.2 in
    true≢false (sym (appends-ok c.args.common.now r.common (view c.args.self.now.log) t.at_log.sound
    c.args.op (record { among = r.among; thread = r.thread; line = r.line; words = t.words })
    (view c.append.new.seat) c.in-Err.ensures.seat.sound (Err c.in-Err._full)
    c.in-Err.ensures.answer))

pub returns-clause-behind : goal.returns-clause-behind
returns-clause-behind c =
    let t = c.requires.taken.2 in
    let long = t.long in
    let v = view c.args.self.now.log in
    ⊎_elim
    (λ (less : c.in-Ok.place < c.args.self.now.seen).
    let k = (t.read c.in-Ok.place c.args.op (omega (arith, long, less))).1 in
    absurd (c.in-Ok.ensures.answer.fresh.unknown
    (was_seen_from v.seen (c.in-Ok.place + 1) k.slot k.known)))
    (λ (more : c.args.self.now.seen ≤ c.in-Ok.place). more)
    (cases_lt c.in-Ok.place c.args.self.now.seen)

pub returns-clause-kept : goal.returns-clause-kept
returns-clause-kept c seat h t = record {
  at_tree = t.at_tree;
  at_log = c.in-Ok.ensures.seat;
  read = seen-later (slots_of c.args.common.now.log) (view c.args.self.now.log)
      (view c.append.new.seat) h (λ i x saw. c.in-Ok.ensures.answer.learns.more i x saw) t.read;
  long = t.long;
  words = seven-appended (plan_of c.args.common.now.log) c.args.op (view c.args.self.now.log)
      (view c.append.new.seat) c.in-Ok.place c.in-Ok.ensures.answer t.words;
  held = t.held;
}
