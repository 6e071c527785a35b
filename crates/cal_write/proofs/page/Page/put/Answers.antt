use Rattle.std.proofs.Common.{◌≡◌, ℕ, ◌+◌, List, ◌++◌, length, take, ap, subst, arith}
use Rattle.cal_write.proofs.PlacingLemmas.{IsPage-put}
use Rattle.cal_write.proofs.page.Page.put.Goals as goal

pub invariant_of-self-2 : goal.invariant_of-self-2
invariant_of-self-2 c =
    let used = c.self.inside.used in
    let lent = c.deref_mut.result.now in
    let now = c.put_bytes.new.bytes in
    IsPage-put c.self.inside.bytes.items c.make_room.new.bytes.items lent now
    c.args.text.now used _ c.make_room.new.bytes.len c.self.invariant
    c.in_ok-make_room.ensures.front c.deref_mut.ensures.value c.deref_mut.ensures.len
    c.put_bytes.auto.bytes
    (omega (arith, c.put_bytes.ensures.within, ap length c.as_bytes.ensures.value))
    (subst (λ (t : List ℕ). take (used + length t) now ≡ take used lent ++ t)
    c.as_bytes.ensures.value c.put_bytes.ensures.written)
    c.utf8.text
