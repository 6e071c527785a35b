use Rattle.cal_query.proofs.streaming.Streaming.new.Goals as goal

pub returns-clause-read : goal.returns-clause-read
returns-clause-read g c = (
  c.in-Ok.ensures.read,
  g.met.T.Taker.stays _ _ _ _ c.requires c.in-Ok.ensures.grows,
)
