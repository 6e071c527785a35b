use Rattle.std.proofs.Common.{◌<◌, arith}
use Rattle.cal_write.proofs.StreamLemmas.{plain-step}
use Rattle.cal_write.proofs.stream.Stream.add.Goals as goal

pub returns-then-attribute-id : goal.returns-then-attribute-id
returns-then-attribute-id c = λ s up is parent knows fresh.
    let large : 10 < c.args.attribute = omega arith in
    plain-step c.args.self.now c.add.new.self s up (record { attr = c.args.described.now; value = c.args.value.now }) c.args.parent c.args.attribute c.in_ok-id.id is parent knows (fresh large) large c.in_ok-id.ensures
