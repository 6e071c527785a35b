use Rattle.std.proofs.Common.{◌≡◌, ℕ, ◌+◌, List, ◌++◌, length, take, ap, subst, arith}
use Rattle.cal_write.proofs.PlacingLemmas.{IsPage-put}
use Rattle.cal_write.proofs.page.Page.put_plain.Goals as goal

pub invariant_of-self-then-is_plain : goal.invariant_of-self-then-is_plain
invariant_of-self-then-is_plain c =
    let used = c.self.inside.used in
    let lent = c.deref_mut.result.now in
    let now = c.put_plain-is_plain.new.bytes in
    IsPage-put c.self.inside.bytes.items c.make_room.new.bytes.items lent now
    c.args.text.now used _ c.make_room.new.bytes.len c.self.invariant
    c.in_ok-make_room.ensures.front c.deref_mut.ensures.value c.deref_mut.ensures.len
    c.put_plain-is_plain.auto.bytes
    (omega (arith, c.put_plain-is_plain.ensures.within, ap length c.as_bytes.ensures.value))
    (subst (λ (t : List ℕ). take (used + length t) now ≡ take used lent ++ t)
    c.as_bytes.ensures.value (c.put_plain-is_plain.ensures.written c.if-is_plain.true))
    c.utf8.text
