use Rattle.cal_tabfmt.proofs.table.append_headers.Goals as goal

pub returns : goal.returns
returns c = rw (c.as_slice.ensures, c.in_ok-push_headers.ensures, c.new-headers.ensures) at c.append_line.ensures
