use Rattle.cal_tabfmt.proofs.writer.ExpandWriter.seeded.Goals as goal

pub returns : goal.returns
returns c = λ t. record { text = c.new.ensures; ready = c.new-2.ensures t }
