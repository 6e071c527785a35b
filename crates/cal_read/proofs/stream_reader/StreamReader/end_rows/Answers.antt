use Rattle.std.proofs.Common.{◌++◌, refl, ◌∙◌}
use Rattle.cal_read.specs.Lines.{bytes_in}
use Rattle.cal_read.proofs.ReadOnLemmas.{ReadsOn-none, ReadsOn-trans}
use Rattle.cal_read.proofs.stream_reader.StreamReader.end_rows.Goals as goal

pub loop-after-init : goal.loop-after-init
loop-after-init g c =
    let had = g.T.Taker.has_taken c.args.taker.now c.args.context.now in
    (ReadsOn-none had had c.args.self.now c.args.self.now c.args.context.now (bytes_in c.args.all) (λ bytes h. h) (λ rs h. h), refl)

pub end_row-requires : goal.end_row-requires
end_row-requires g c = (c.requires.0 ++ c.loop-after.invariant.0.front, c.loop-after.invariant.0.read c.requires.0 c.requires.1)

pub loop-after-preserved : goal.loop-after-preserved
loop-after-preserved g c =
    let t = c.args.context.now in
    let had = g.T.Taker.has_taken c.args.taker.now t in
    let then = g.T.Taker.has_taken c.loop-after.taker t in
    let has = g.T.Taker.has_taken c.end_row.new.taker t in
    let on = rw c.in-Some.is at c.in_ok-after.ensures.read in (
      ReadsOn-trans had then has c.args.self.now c.loop-after.self c.end_row.new.self t (bytes_in c.args.all) (bytes_in c.loop-after.rest) (bytes_in c.in-Some.after) c.loop-after.invariant.0 on,
      c.in_ok-after.ensures.about ∙ c.loop-after.invariant.1,
    )

pub returns-clause-read : goal.returns-clause-read
returns-clause-read g c =
    let t = c.args.context.now in
    let had = g.T.Taker.has_taken c.args.taker.now t in
    let then = g.T.Taker.has_taken c.loop-after.taker t in
    let has = g.T.Taker.has_taken c.end_row.new.taker t in
    let rest = bytes_in c.loop-after.rest in
    let on = rw c.in_default.is at c.in_ok-after.ensures.read in
    ReadsOn-trans had then has c.args.self.now c.loop-after.self c.end_row.new.self t (bytes_in c.args.all) rest rest c.loop-after.invariant.0 on

pub returns-clause-about : goal.returns-clause-about
returns-clause-about g c = c.in_ok-after.ensures.about ∙ c.loop-after.invariant.1
