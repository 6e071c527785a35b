-- A whole number that is held of a group is what a kernel comes to.
use Rattle.std.proofs.Common.{◌≡◌, ℕ, true≢false, List, Option, None, Some, refl, sym, ap}
use Rattle.std.proofs.Common.{◌∙◌, length, pos, true}
use Rattle.std.specs.Prelude.{ℤ, unwrap_or}
use Rattle.cal_agg.specs.Parts.{Parts, greatest_over, least_over, sum_over}
use Rattle.cal_agg.specs.Results.{greatest_of, least_of, sum_of}
use Rattle.cal_agg.specs.Shown.{greatest_of_added, least_of_added, sum_of_added}
use Rattle.cal_agg.specs.declared.num.Num.{Num}
use Rattle.cal_agg.specs.declared.num.Num.TheVariants.{Whole}
use Rattle.cal_ql.specs.declared.names.KernelName as kernels
use Rattle.cal_ql.specs.declared.names.KernelName.TheVariants as kernel
use Rattle.cal_parts.proofs.CountSums.{count_is}
use Rattle.cal_parts.specs.Parts.{Gathered, held_by}
use Rattle.cal_parts.specs.Shown.{ComesTo, shows_held}
use Rattle.cal_parts.specs.declared.part.Held as holds
use Rattle.cal_parts.specs.declared.part.Held.TheVariants as held
use Rattle.cal_parts.specs.declared.part.Way as ways
use Rattle.cal_parts.specs.declared.part.Way.TheVariants as way

-- whole numbers alone came to this one
abbrev pub whole_alone : ℤ → Parts
whole_alone n = record { whole = Some n; fixed = None }

abbrev holding : ℕ → holds.Held → Gathered
holding many h = record { many = many; held = h }

abbrev pub kept_whole : ℕ → ways.Way → ℤ → Gathered
kept_whole many w n = record { many = many; held = held_by w (whole_alone n) }

held_same : (many count : ℕ) (one other : holds.Held)
    → Some (holding many one) ≡ Some (holding count other) → one ≡ other
held_same many count one other e =
    let same : holding many one ≡ holding count other = cc in
    ap (λ (g : Gathered). g.held) same

shown-sum : (w : ways.Way) (n : ℤ) (ns : List Num)
    → held_by w (whole_alone n) ≡ held.Sum (sum_over ns) → Some (Whole n) ≡ sum_of ns
shown-sum way.Sum n ns e =
    let is : whole_alone n ≡ sum_over ns = cc in
    sum_of_added (whole_alone n) ns (Some (Whole n)) is refl
shown-sum way.Least n ns e = cc
shown-sum way.Greatest n ns e = cc

shown-least : (w : ways.Way) (n : ℤ) (ns : List Num)
    → held_by w (whole_alone n) ≡ held.Least (least_over ns) → Some (Whole n) ≡ least_of ns
shown-least way.Sum n ns e = cc
shown-least way.Least n ns e =
    let is : whole_alone n ≡ least_over ns = cc in
    least_of_added (whole_alone n) ns (Some (Whole n)) is refl
shown-least way.Greatest n ns e = cc

shown-greatest : (w : ways.Way) (n : ℤ) (ns : List Num)
    → held_by w (whole_alone n) ≡ held.Greatest (greatest_over ns)
    → Some (Whole n) ≡ greatest_of ns
shown-greatest way.Sum n ns e = cc
shown-greatest way.Least n ns e = cc
shown-greatest way.Greatest n ns e =
    let is : whole_alone n ≡ greatest_over ns = cc in
    greatest_of_added (whole_alone n) ns (Some (Whole n)) is refl

-- a kernel that shows what is held comes to it
pub shown-whole : (k : kernels.KernelName) (many : ℕ) (w : ways.Way) (n : ℤ) → shows_held k ≡ true
    → ComesTo k (Some (kept_whole many w n)) n
shown-whole kernel.Count many w n is ns ms bs own whole =
    let sum = shown-sum w n ns (held_same many (length ns) _ _ own) in
    ap Some (sym (ap (λ (o : Option Num). unwrap_or o (Whole (pos 0))) sum ∙ count_is ns whole))
shown-whole kernel.Sum many w n is ns ms bs own whole =
    sym (shown-sum w n ns (held_same many (length ns) _ _ own))
shown-whole kernel.Min many w n is ns ms bs own whole =
    sym (shown-least w n ns (held_same many (length ns) _ _ own))
shown-whole kernel.Max many w n is ns ms bs own whole =
    sym (shown-greatest w n ns (held_same many (length ns) _ _ own))
shown-whole kernel.Avg many w n is ns ms bs own whole = absurd (true≢false (sym is))
shown-whole kernel.Inclusive many w n is ns ms bs own whole = absurd (true≢false (sym is))
shown-whole kernel.Percent many w n is ns ms bs own whole = absurd (true≢false (sym is))
