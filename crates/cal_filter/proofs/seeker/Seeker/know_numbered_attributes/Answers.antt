use Rattle.cal_filter.proofs.Telling.{told_attributes}
use Rattle.cal_filter.proofs.seeker.Seeker.know_numbered_attributes.Goals as goal

pub returns-clause-knows : goal.returns-clause-knows
returns-clause-knows c = λ t names at h.
    told_attributes t c.args.latest.now names c.args.name c.args.self.now at c.tell.new.memo
    c.in_ok-tell.ensures h
