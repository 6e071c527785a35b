-- What a kernel comes to, and that it is what is found on the list that was added.
use Rattle.std.specs.Prelude.{◌≡◌, ℤ, ◌+ℤ◌, List, [], ◌∷◌, map, refl}
use Rattle.std.specs.Prelude.{Bool, true, false, if◌then◌else◌}
use Rattle.std.specs.Prelude.{Option, None, Some, is_some, option_map, option_and_then}
use Rattle.std.specs.Int.{int_min, int_max}
use Rattle.std.proofs.Common.{sym, ◌∙◌, ap}
use Rattle.cal_agg.specs.declared.num.Num.{Num}
use Rattle.cal_agg.specs.declared.num.Num.TheVariants.{Whole, Fixed}
use Rattle.cal_agg.specs.Numbers.{nano_units, number, measure, some_fixed}
use Rattle.cal_agg.specs.Results.{both, together, found, kept, sum_of, least_of, greatest_of}
use Rattle.cal_agg.specs.Parts.{Parts, parts_by, sum_over, least_over, greatest_over}
use Rattle.cal_agg.specs.Joins.{IsJoin, both_assoc, both_swap, both-measured}
use Rattle.cal_agg.specs.Joins.{sum_joins, least_joins, greatest_joins}

-- what two parts come to: whole where there is no fixed part, and else fixed
abbrev pub value_at : (ℤ → ℤ → ℤ) → Option ℤ → Option ℤ → Option Num
value_at join whole None = option_map Whole whole
value_at join None (Some fixed) = Some (Fixed fixed)
value_at join (Some whole) (Some fixed) = Some (Fixed (join (nano_units whole) fixed))

abbrev pub value_by : (ℤ → ℤ → ℤ) → Parts → Option Num
value_by join parts = value_at join parts.whole parts.fixed

-- what a sum comes to
abbrev pub sum_held : Parts → Option Num
sum_held parts = option_and_then kept (value_by ◌+ℤ◌ parts)

-- The measures taken together are the whole part, measured, and the fixed part taken together.
pub together-measures : {join : ℤ → ℤ → ℤ} → IsJoin join → (ns : List Num)
    → together join (map measure ns)
    ≡ both join (option_map nano_units (parts_by join ns).whole) (parts_by join ns).fixed
together-measures joins [] = refl
together-measures {join} joins (Whole n ∷ ns) =
    let parts = parts_by join ns in
    ap (both join (Some (nano_units n))) (together-measures joins ns)
    ∙ sym (both_assoc joins (Some (nano_units n)) (option_map nano_units parts.whole) parts.fixed)
    ∙ sym (ap (λ w. both join w parts.fixed) (both-measured joins (Some n) parts.whole))
together-measures {join} joins (Fixed n ∷ ns) =
    let parts = parts_by join ns in
    ap (both join (Some n)) (together-measures joins ns)
    ∙ both_swap joins (Some n) (option_map nano_units parts.whole) parts.fixed

is_some-both : (join : ℤ → ℤ → ℤ) (x : ℤ) (y : Option ℤ) → is_some (both join (Some x) y) ≡ true
is_some-both join x None = refl
is_some-both join x (Some y) = refl

-- some number is fixed exactly where there is a fixed part
pub some_fixed_is : (join : ℤ → ℤ → ℤ) (ns : List Num)
    → some_fixed ns ≡ is_some (parts_by join ns).fixed
some_fixed_is join [] = refl
some_fixed_is join (Whole n ∷ ns) = some_fixed_is join ns
some_fixed_is join (Fixed n ∷ ns) = sym (is_some-both join n (parts_by join ns).fixed)

-- where no number is fixed the numbers taken together are the whole part
together-numbers : (join : ℤ → ℤ → ℤ) (ns : List Num) → some_fixed ns ≡ false
    → together join (map number ns) ≡ (parts_by join ns).whole
together-numbers join [] none = refl
together-numbers join (Whole n ∷ ns) none =
    ap (both join (Some n)) (together-numbers join ns none)
together-numbers join (Fixed n ∷ ns) none = cc

-- by whether some number is fixed, and which parts are there
found_at : (join : ℤ → ℤ → ℤ) (measures numbers : Option ℤ) (fixed : Bool) (w f : Option ℤ)
    → fixed ≡ is_some f
    → measures ≡ both join (option_map nano_units w) f
    → (fixed ≡ false → numbers ≡ w)
    → (if fixed then option_map Fixed measures else option_map Whole numbers) ≡ value_at join w f
found_at join measures numbers true w None e m n = cc
found_at join measures numbers true None (Some f) e m n = ap (option_map Fixed) m
found_at join measures numbers true (Some w) (Some f) e m n = ap (option_map Fixed) m
found_at join measures numbers false w None e m n = ap (option_map Whole) (n refl)
found_at join measures numbers false w (Some f) e m n = cc

-- what is found on a list is what the parts come to that were added
pub found-together : {join : ℤ → ℤ → ℤ} → IsJoin join → (ns : List Num)
    → found (together join) ns ≡ value_by join (parts_by join ns)
found-together {join} joins ns =
    found_at join _ _ (some_fixed ns) (parts_by join ns).whole (parts_by join ns).fixed
    (some_fixed_is join ns) (together-measures joins ns) (together-numbers join ns)

-- so each kernel comes to its definition over the list
pub sum_of_added : (parts : Parts) (ns : List Num) (result : Option Num)
    → parts ≡ sum_over ns → result ≡ sum_held parts → result ≡ sum_of ns
sum_of_added parts ns result e r =
    r ∙ ap sum_held e ∙ sym (ap (option_and_then kept) (found-together sum_joins ns))

pub least_of_added : (parts : Parts) (ns : List Num) (result : Option Num)
    → parts ≡ least_over ns → result ≡ value_by int_min parts → result ≡ least_of ns
least_of_added parts ns result e r =
    r ∙ ap (value_by int_min) e ∙ sym (found-together least_joins ns)

pub greatest_of_added : (parts : Parts) (ns : List Num) (result : Option Num)
    → parts ≡ greatest_over ns → result ≡ value_by int_max parts → result ≡ greatest_of ns
greatest_of_added parts ns result e r =
    r ∙ ap (value_by int_max) e ∙ sym (found-together greatest_joins ns)
