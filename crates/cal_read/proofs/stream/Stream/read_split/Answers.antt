use Rattle.cal_read.proofs.stream.Stream.read_split.Goals as goal

pub returns-in-Ok-clause-read : goal.returns-in-Ok-clause-read
returns-in-Ok-clause-read g c = λ s stands. rw c.in-Ok.ensures.found (c.read_fields.ensures.read s stands)
