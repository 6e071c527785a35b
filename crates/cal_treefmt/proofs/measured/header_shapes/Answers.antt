use Rattle.cal_treefmt.proofs.measured.header_shapes.Goals as goal

pub returns : goal.returns
returns c =
    rw (c.as_slice.ensures, c.in_ok-push.ensures.ok, c.new-lines.ensures, c.in_ok-headers.ensures, c.deref.ensures.value, c.in_ok-rights.ensures) at c.shapes.ensures
