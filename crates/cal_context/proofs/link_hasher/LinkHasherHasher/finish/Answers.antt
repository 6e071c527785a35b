use Rattle.cal_context.specs.LinkHash.{finish}
use Rattle.cal_context.proofs.link_hasher.LinkHasherHasher.finish.Goals as goal

pub returns : goal.returns
unfolding finish
returns c = rw (c.mixed-page.ensures, c.mixed-group.ensures)
