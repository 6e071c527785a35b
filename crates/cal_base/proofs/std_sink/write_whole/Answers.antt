use Rattle.cal_base.proofs.Growing.{GrowsByFront-whole}
use Rattle.cal_base.proofs.std_sink.write_whole.Goals as goal

-- where the flush fails, the piece was written whole
pub returns-clause-front : goal.returns-clause-front
returns-clause-front g c =
    GrowsByFront-whole c.map_err.result _ _ _ c.args.bytes.now
    c.in_ok-write_retrying.ensures.ok c.flush.ensures.bytes
