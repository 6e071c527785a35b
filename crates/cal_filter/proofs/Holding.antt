-- A condition holds where its seeker finds something.
use Rattle.std.proofs.Common.{◌≡◌, Bool, true, false, List, [], ◌∷◌, refl, ◌∙◌, ap}
use Rattle.std.proofs.Common.{Option, None, Some, option_map, is_some}
use mathlib.Core.Bool.{beq}
use Rattle.std.proofs.Common.{Bor}
use Rattle.std.specs.Option.{option_copied}
use Rattle.std.specs.List.{filter, last_or, list_any}
use Rattle.std.specs.Prelude.{◌&&◌, not, if◌then◌else◌}
use Rattle.cal_ql.specs.declared.query.Cond.{Cond}
use Rattle.cal_value.specs.Flat.{flat}
use Rattle.cal_value.specs.declared.attribute.Entry.{Entry}
use Rattle.cal_value.specs.declared.record.Rec.{Rec}
use Rattle.cal_filter.specs.Conditions.{cond_holds, test_holds}
use Rattle.cal_filter.specs.Known.{sought}
use Rattle.cal_filter.specs.Named.{entries_named, is_named}
use Rattle.cal_filter.specs.Ready.{IsAsked}
use Rattle.cal_filter.specs.Sought.{last_sought, passes, value_sought}
use Rattle.cal_filter.specs.declared.condition.Condition.{Condition}

last_is_some : (x : Entry) (es : List Entry) → is_some (last_or (Some x) es) ≡ true
last_is_some x [] = refl
last_is_some x (e ∷ es) = last_is_some e es

-- one entry more
some_next : (p q : Entry → Bool) (e : Entry) (es : List Entry)
    → is_some (last_or None (filter (λ e. p e && q e) es)) ≡ list_any q (filter p es)
    → (b : Bool) → p e ≡ b → (c : Bool) → q e ≡ c
    → is_some (last_or None (filter (λ e. p e && q e) (e ∷ es))) ≡ list_any q (filter p (e ∷ es))
some_next p q e es rest false is c wants = rw is rest
some_next p q e es rest true is false wants = rw (is, wants) rest
some_next p q e es rest true is true wants =
    rw (is, wants) (last_is_some e (filter (λ e. p e && q e) es))

-- something is found where some entry of the name is wanted
some_sought : (p q : Entry → Bool) (es : List Entry)
    → is_some (last_or None (filter (λ e. p e && q e) es)) ≡ list_any q (filter p es)
some_sought p q [] = refl
some_sought p q (e ∷ es) = some_next p q e es (some_sought p q es) (p e) refl (q e) refl

some_value : (o : Option Entry) → is_some (option_map (λ e. e.value) o) ≡ is_some o
some_value None = refl
some_value (Some e) = refl

-- `!=` with a negation turns an answer round
pub differs : (a b : Bool) → not (beq a b) ≡ (if b then not a else a)
differs true true = refl
differs true false = refl
differs false true = refl
differs false false = refl

pub found_holds : (c : Cond) (d : Condition) (r : Rec) → IsAsked c d
    → is_some (value_sought (sought d.seeker) (flat r))
    ≡ list_any (test_holds c.test) (entries_named c.name r)
found_holds c d r asked =
    some_value (last_sought (sought d.seeker) (flat r))
    ∙ some_sought (is_named d.seeker.name) (λ e. passes d.seeker.wanted e.attr.kind e.value) (flat r)
    ∙ ap (λ name. list_any (λ e. passes d.seeker.wanted e.attr.kind e.value) (entries_named name r))
    asked.name
    ∙ ap (λ test. list_any test (entries_named c.name r)) (λ i e. asked.test e i)

-- so a condition is a find that isn't as it is negated
pub cond_is : (found negated : Bool) (c : Cond) (r : Rec) → negated ≡ c.not
    → found ≡ list_any (test_holds c.test) (entries_named c.name r)
    → (if negated then not found else found) ≡ cond_holds c r
cond_is found negated c r e is =
    ap (λ b. if b then not found else found) e ∙ ap (λ b. if c.not then not b else b) is
