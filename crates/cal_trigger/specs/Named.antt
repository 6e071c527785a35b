-- The conditions of the triggers that a command line can name.
use Rattle.std.specs.Prelude.{false, List, [], ◌∷◌, codes}
use Rattle.cal_ql.specs.declared.query.Cond.{Cond}
use Rattle.cal_ql.specs.declared.query.Test.TheVariants as test

-- `function=main`
abbrev pub main_condition : Cond
main_condition = record { not = false; name = codes "function"; test = test.Eq (codes "main") }

abbrev pub in_main : List Cond
in_main = main_condition ∷ []

-- `time.duration.ns>=1000`
abbrev pub slow_condition : Cond
slow_condition =
    record { not = false; name = codes "time.duration.ns"; test = test.Ge (codes "1000") }

abbrev pub slow : List Cond
slow = slow_condition ∷ []
