use Rattle.std.proofs.Common.{◌++◌, append_assoc, decimal, take, ◌∙◌, arith}
use Rattle.std.specs.Prelude.{codes}
use Rattle.cal_write.proofs.PlacingLemmas.{IsPage-put, IsUtf8-equals}
use Rattle.cal_write.proofs.page.Page.put_equals.Goals as goal

pub invariant_of-self-2 : goal.invariant_of-self-2
invariant_of-self-2 c =
    let used = c.self.inside.used in
    let lent = c.deref_mut.result.now in
    let now = c.put_equals-self-inside.new.bytes in
    IsPage-put c.self.inside.bytes.items c.make_room.new.bytes.items lent now
    (codes "=" ++ decimal c.args.number) used _ c.make_room.new.bytes.len c.self.invariant
    c.in_ok-make_room.ensures.front c.deref_mut.ensures.value c.deref_mut.ensures.len
    c.put_equals-self-inside.auto.bytes
    c.put_equals-self-inside.ensures.within
    (c.put_equals-self-inside.ensures.written
    ∙ append_assoc (take used lent) (codes "=") (decimal c.args.number))
    (IsUtf8-equals c.args.number (omega arith))
