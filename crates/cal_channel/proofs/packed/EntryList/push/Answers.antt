use Rattle.std.proofs.Common.{[], ◌∷◌, ◌++◌, List, length, ap, subst, sym, ◌∙◌}
use Rattle.std.proofs.lemmas.List.{map-append}
use Rattle.std.proofs.lemmas.List.Elements.{All-push}
use Rattle.cal_channel.specs.Packed.{AreWithin, IsWithin, all_unpacked, unpacked}
use Rattle.cal_channel.specs.declared.packed.PackedEntry.{PackedEntry}
use Rattle.cal_channel.proofs.PackedLemmas.{on_err, unpacked-grown, within-grown}
use Rattle.cal_channel.proofs.packed.EntryList.push.Goals as goal

pub returns-in_err-packed-clause-err : goal.returns-in_err-packed-clause-err
returns-in_err-packed-clause-err c =
    let l = c.self.inside in
    on_err c.from_residual.result (unpacked-grown l.kept.items c.pack.new.kept.items
    c.in_err-packed.ensures.grows l.entries.items c.self.invariant
    ∙ c.self.view_is)

pub returns-in_err-push-clause-err : goal.returns-in_err-push-clause-err
returns-in_err-push-clause-err c =
    let l = c.self.inside in
    on_err c.from_residual-in_err-push.result
    (ap (all_unpacked c.pack.new.kept.items) c.in_err-push.ensures.items
    ∙ unpacked-grown l.kept.items c.pack.new.kept.items c.in_ok-packed.ensures.grows
    l.entries.items c.self.invariant
    ∙ c.self.view_is)

pub invariant_of-self-2 : goal.invariant_of-self-2
invariant_of-self-2 c =
    let l = c.self.inside in
    let kept = c.pack.new.kept.items in
    let done = c.in_ok-packed.ensures in
    let old = within-grown l.kept.items kept done.grows l.entries.items c.self.invariant in
    subst (λ (es : List PackedEntry). AreWithin (length kept) es)
    (sym c.in_ok-push.ensures.items)
    (All-push (IsWithin (length kept)) l.entries.items c.in_ok-packed.packed old done.within)

pub returns-clause-ok : goal.returns-clause-ok
returns-clause-ok c =
    let l = c.self.inside in
    let kept = c.pack.new.kept.items in
    let done = c.in_ok-packed.ensures in
    let p = c.in_ok-packed.packed in
    let old = unpacked-grown l.kept.items kept done.grows l.entries.items c.self.invariant
    ∙ c.self.view_is in
    ap (all_unpacked kept) c.in_ok-push.ensures.items
    ∙ map-append (unpacked kept) l.entries.items (p ∷ [])
    ∙ (λ i. old i ++ done.means i ∷ [])
