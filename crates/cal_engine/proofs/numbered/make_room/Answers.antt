use Rattle.std.proofs.Common.{[], map, ap, ◌∙◌, arith}
use Rattle.std.proofs.lemmas.Result.{on_ok_weaker}
use Rattle.cal_parts.specs.PartLists.{put_parts}
use Rattle.cal_parts.specs.Parts.{part_over}
use Rattle.cal_parts.specs.declared.counter.Counter.{Counter}
use Rattle.cal_engine.proofs.Gathering.{put_parts_none}
use Rattle.cal_engine.proofs.numbered.make_room.Goals as goal

pub returns-clause-put : goal.returns-clause-put
returns-clause-put c =
    on_ok_weaker c.push_none.result
    (λ is fresh same. ap (λ ps. put_parts ps c.args.number fresh) is
    ∙ put_parts_none c.args.parts.now c.args.number (map (λ (counter : Counter). part_over counter.kernel []) c.args.counters.now.counters.items) fresh
    (omega (arith, c.requires, c.if-number-count.false, c.count.ensures)) same)
    c.push_none.ensures.ok
