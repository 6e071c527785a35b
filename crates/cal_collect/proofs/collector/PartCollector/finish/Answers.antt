use Rattle.std.proofs.Common.{map, ◌∙◌}
use Rattle.std.proofs.lemmas.List.{length-map}
use Rattle.cal_mail.specs.Ends.{received_by, senders_of, sent_in}
use Rattle.cal_collect.proofs.Steps.{finished}
use Rattle.cal_collect.proofs.collector.PartCollector.finish.Goals as goal

pub returns-clause-merged : goal.returns-clause-merged
returns-clause-merged g c =
    let before = c.args.self in
    let ended = c.args.ended.items in
    finished g.S.Shapes.shapes (senders_of before.collector) (received_by before.collector)
    before.tables.items (map sent_in ended) c.requires.merged
    (length-map ended sent_in ∙ c.requires.all) c.finish.ensures.whole
