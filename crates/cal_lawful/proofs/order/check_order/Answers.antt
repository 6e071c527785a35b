use Rattle.std.proofs.Common.{List, ℕ, ◌≡◌, ◌∙◌, Vec, Global, ap, false, inr, length, refl}
use Rattle.std.proofs.Common.{replicate, subst, sym, true}
use Rattle.cal_lawful.proofs.OrderLemmas.{none-counted}
use Rattle.cal_lawful.specs.Broken.{HasBegun}
use Rattle.cal_lawful.specs.Checking.{AreCounted}
use Rattle.cal_run.specs.Lawful.{HasOrder}
use Rattle.cal_lawful.proofs.order.check_order.Goals as goal

pub first_out_of_order-requires-clause-none : goal.first_out_of_order-requires-clause-none
first_out_of_order-requires-clause-none c =
    none-counted c.args.script.now c.in_ok-lists.lists.items c.in_ok-lists.ensures
    c.deref_mut.result.now
    (c.deref_mut.ensures.value ∙ c.in_ok-counts.ensures
    ∙ ap (λ (lists : List (Vec ℕ Global)). replicate (length lists) 0) c.deref.ensures.value)

pub returns-then-not-are_all_placed-clause-broken :
    goal.returns-then-not-are_all_placed-clause-broken
returns-then-not-are_all_placed-clause-broken c =
    let script = c.args.script.now in
    let ops : c.as_slice-ops.result.now ≡ c.args.text.now.journal.ops = c.as_slice-ops.ensures in
    let counted : AreCounted script c.as_slice-ops.result.now c.first_out_of_order.new.counts =
    c.in_default.ensures in (
      refl,
      inr (
        subst (HasBegun script) ops counted.begun,
        (λ order. let no : false ≡ true = c.if-not-are_all_placed.ensures.1
            (subst (HasOrder script) (sym ops) order) in cc),
        refl,
      ),
    )
