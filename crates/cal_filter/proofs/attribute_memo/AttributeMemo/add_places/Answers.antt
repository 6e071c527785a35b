use Rattle.std.proofs.Common.{◌≡◌, ◌++◌, ap, append-nil, arith, drop, length, sym, ◌∙◌}
use Rattle.std.proofs.lemmas.List.{drop_all}
use Rattle.cal_filter.specs.Memo.{marked}
use Rattle.cal_filter.proofs.MemoLemmas.{length-marked}
use Rattle.cal_filter.proofs.attribute_memo.AttributeMemo.add_places.Goals as goal

pub returns-then-count-self : goal.returns-then-count-self
returns-then-count-self c =
    let old = c.args.self.now in
    let others = marked c.args.places.now c.args.count in
    let few = length-marked c.args.places.now c.args.count in
    let long : length old ≡ c.self.inside.count =
    sym (ap length c.self.view_is) ∙ length-marked c.self.inside.places.items c.self.inside.count in
    sym (ap (λ xs. old ++ xs) (drop_all (length old) others (omega (arith, few, long))) ∙ append-nil old)

pub returns : goal.returns
returns c =
    let others = marked c.args.places.now c.args.count in
    let long : c.self.inside.count ≡ length c.args.self.now =
    sym (length-marked c.self.inside.places.items c.self.inside.count) ∙ ap length c.self.view_is in
    c.in_ok-add_behind.ensures.added ∙ (λ i. c.self.view_is i ++ drop (long i) others)
