use Rattle.std.proofs.Common.{subst}
use Rattle.std.proofs.lemmas.Result.{IfOk-weaker}
use Rattle.cal_read.specs.Usual.{IsThere}
use Rattle.cal_read.proofs.KnownLemmas.{known_there}
use Rattle.cal_read.proofs.known.Known.values_in.Goals as goal

pub returns : goal.returns
returns c =
    let known = c.args.self.now in
    let line = c.args.line.now in
    let start = c.args.start in
    let last = c.in_ok-last.last in
    let there = subst (λ l. IsThere c.args.line.now c.args.start l c.in_ok-last.last) c.as_slice.ensures.value c.in_ok-last.ensures in
    IfOk-weaker c.behind-2.result _ _ (λ end key.
    known_there line known.text.items start last end known.ids.items known.written known.some known.read there key) c.behind-2.ensures
