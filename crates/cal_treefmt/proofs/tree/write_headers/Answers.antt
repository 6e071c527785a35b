use Rattle.cal_treefmt.proofs.tree.write_headers.Goals as goal

pub returns : goal.returns
returns c = rw (c.as_slice.ensures, c.in_ok-headers.ensures) at c.append_line.ensures
