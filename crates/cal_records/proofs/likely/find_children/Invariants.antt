use Rattle.cal_records.proofs.likely.find_children.Given as goal

abbrev pub decreases-loop-child : goal.decreases-loop-child
decreases-loop-child l = l.child.0
