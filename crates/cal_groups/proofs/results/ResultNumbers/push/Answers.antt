use Rattle.std.proofs.Common.{sym, subst}
use Rattle.std.specs.Option.{option_to_list}
use Rattle.cal_groups.proofs.Appending.{appends_one}
use Rattle.cal_groups.proofs.results.ResultNumbers.push.Goals as goal
use Rattle.cal_groups.specs.Appended.{Appends}
use Rattle.cal_profile.specs.TableRows.{entry_for}

pub returns : goal.returns
returns c = λ t agg of.
    let old = c.args.imms.now.items in
    let new = c.push.new.self.items in
    let numbered = c.attribute_of-attribute.ensures t agg.name of in
    subst (λ o. Appends t old new (option_to_list (entry_for agg o))) (sym c.in-Some.is)
    (appends_one t old new _ _ c.in_ok-push.ensures.items numbered.within
    (λ i. record { attr = numbered.is i; value = c.value_of_number.ensures i }))
