use Rattle.std.proofs.Common.{◌≡◌, ◌++◌, true, false, sym, ◌∙◌, subst, rules, map, drop, length}
use Rattle.cal_context.specs.Snapshots.{entry_of}
use Rattle.cal_filter.specs.Named.{HasSmallNumbers}
use Rattle.cal_filter.proofs.InternedLemmas.{kept_full, kept_none}
use Rattle.cal_filter.proofs.record.filtered.Goals as goal

pub returns-then-not-keeps : goal.returns-then-not-keeps
returns-then-not-keeps c = λ q is small before.
    let isnt : c.in_ok-keeps.keeps ≡ false = search rules in
    kept_none c.args.context.now q c.args.rec c.args.snapshot.now c.apply.new.snapshot
    c.in_ok-keeps.keeps before
    (c.in_ok-keeps.ensures.filtered q is (subst HasSmallNumbers (sym before) small)) isnt

pub returns : goal.returns
returns c = λ q is small before.
    let t = c.args.context.now in
    let s = c.args.snapshot.now in
    let s' = c.apply.new.snapshot in
    let is_kept : c.in_ok-keeps.keeps ≡ true = search rules in
    let counted : c.len-count.result ≡ length s.imms.items = c.len-count.ensures ∙ s.imms.ok.0 in
    let added : c.split_at.result.1.now ≡ drop (length s.imms.items) s'.imms.items =
    c.split_at.ensures.back ∙ (λ i. drop (counted i) (c.deref.ensures.value i)) in
    kept_full t q c.args.rec s s' c.in_ok-keeps.keeps before
    (c.in_ok-keeps.ensures.filtered q is (subst HasSmallNumbers (sym before) small)) is_kept
    c.in_ok-full.full
    (c.in_ok-full.ensures
    ∙ (λ i. record {
      paths = c.args.rec.paths;
      imms = c.args.rec.imms ++ map (entry_of t) (added i);
    }))
