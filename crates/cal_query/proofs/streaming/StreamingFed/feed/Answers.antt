use Rattle.std.proofs.Common.{◌≡◌, false, rules, ◌∙◌}
use Rattle.std.specs.Prelude.{is_some}
use Rattle.cal_query.proofs.Streamings.{about_still, about_this, falls_now, stands_on}
use Rattle.cal_query.proofs.streaming.StreamingFed.feed.Goals as goal

pub returns-in-Ok-clause-read : goal.returns-in-Ok-clause-read
returns-in-Ok-clause-read g c = λ front has.
    let none : is_some c.args.self.now.fault ≡ false = search rules in
    stands_on g.T.Taker.has_taken c.args.self.now.fault c.args.self.now _ front c.args.piece.now none
    c.in-Ok.ensures.read c.in-Ok.ensures.taken has

pub returns-in-Err-BadLine-clause-read : goal.returns-in-Err-BadLine-clause-read
returns-in-Err-BadLine-clause-read g c = λ front has.
    let none : is_some c.args.self.now.fault ≡ false = search rules in
    let end = c.in-Err-BadLine in
    falls_now g.T.Taker.has_taken c.args.self.now.fault c.args.self.now
    (record { line = end.line; kind = end.kind }) front c.args.piece.now none
    (rw end.field-0-is at end.ensures.fault) has

pub returns-in-Ok-clause-about : goal.returns-in-Ok-clause-about
returns-in-Ok-clause-about g c = λ what is.
    let none : is_some c.args.self.now.fault ≡ false = search rules in
    about_still c.args.self.now.fault none
    (c.in-Ok.ensures.about ∙ about_this c.args.self.now.fault none is)
