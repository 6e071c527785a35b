use Rattle.std.proofs.Common.{◌≡◌, ℕ, ◌+◌, ◌≤◌, List, ◌++◌, length, take, sym, ap, subst, arith}
use Rattle.std.proofs.lemmas.List.{length-take-le}
use Rattle.std.specs.Str.{IsUtf8}
use Rattle.cal_write.proofs.PlacingLemmas.{IsPage-put}
use Rattle.cal_write.proofs.page.Page.put_page.Goals as goal

pub invariant_of-self-2 : goal.invariant_of-self-2
invariant_of-self-2 c =
    let used = c.self.inside.used in
    let lent = c.deref_mut.result.now in
    let now = c.put_bytes.new.bytes in
    let text = take c.page.inside.used c.deref.result.now in
    let within : c.page.inside.used ≤ length c.deref.result.now =
    omega (arith, c.page.invariant.within, ap length c.deref.ensures.value) in
    let count : length text ≡ c.page.inside.used =
    length-take-le c.page.inside.used c.deref.result.now within in
    IsPage-put c.self.inside.bytes.items c.make_room.new.bytes.items lent now
    text used _ c.make_room.new.bytes.len c.self.invariant
    c.in_ok-make_room.ensures.front c.deref_mut.ensures.value c.deref_mut.ensures.len
    c.put_bytes.auto.bytes
    (omega (arith, c.put_bytes.ensures.within, count))
    (subst (λ (n : ℕ). take (used + n) now ≡ take used lent ++ text) count
    c.put_bytes.ensures.written)
    (subst (λ (l : List ℕ). IsUtf8 (take c.page.inside.used l)) (sym c.deref.ensures.value)
    c.page.invariant.utf8)
