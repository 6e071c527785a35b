-- The attributes of a run by their names, and the numbers of its snapshots.
use Rattle.std.proofs.Common.{◌≡◌, ℕ, suc, ◌≤◌, ◌^◌, false, List, [], ◌∷◌, All, length, get_or}
use Rattle.std.proofs.Common.{sym, ap, ◌∙◌, arith, refl, Contains, Some}
use Rattle.std.specs.List.{AllByRecursion, IsDistinct, find}
use Rattle.std.proofs.lemmas.List.Elements.{All-from_recursion, Contains-append_right}
use Rattle.std.proofs.lemmas.Option.{same_Some}
use Rattle.cal_context.specs.Lists as contexts
use Rattle.cal_filter.specs.Named.{HasSmallNumbers}
use Rattle.cal_profile.proofs.Lists.{all_weaker}
use Rattle.cal_rowset.proofs.Seen.{is_same-other}
use Rattle.cal_rowset.specs.Texts.{is_same}
use Rattle.cal_run.specs.RunAttributes.{AreOfRun, run_attributes}
use Rattle.cal_script.specs.Parts.{attribute_names}
use Rattle.cal_script.specs.declared.script.Script.{Script}
use Rattle.cal_traces.proofs.Boards.{all-append}
use Rattle.cal_traces.proofs.Names.{AreApart, found_itself}
use Rattle.cal_traces.proofs.Shots.{InPath, Immediate, IsOf, IsShort, IsShot}
use Rattle.cal_value.specs.Flat.{flat, joined}
use Rattle.cal_value.specs.Reading.{IsSmall}
use Rattle.cal_value.specs.declared.attribute.Attribute.{Attribute}
use Rattle.cal_value.specs.declared.attribute.Entry.{Entry}
use Rattle.cal_value.specs.declared.record.Rec.{Rec}
use Rattle.cal_value.specs.declared.variant.Variant as variants
use Rattle.cal_value.specs.declared.variant.Variant.TheVariants as variant

-- ---- names

from-names : (a : Attribute) (xs : List Attribute)
    → ((b : Attribute) → Contains xs b → is_same a.name b.name ≡ false)
    → AllByRecursion (λ other. is_same a.name other ≡ false) (attribute_names xs)
from-names a [] each = tt
from-names a (b ∷ xs) each = (
  each b (0, omega arith, refl),
  from-names a xs (λ c there. each c (Contains-append_right (b ∷ []) xs c there)),
)

-- no item stands behind itself
clash : (a b : Attribute) (rest : List Attribute) → contexts.AreApart (a ∷ rest)
    → Contains rest b → a ≡ b → ⊥
clash a b rest once there e =
    let below = there.1 in
    let same : 0 ≡ suc there.0 = once 0 (suc there.0) a (omega arith) (omega (arith, below))
    (sym (ap (λ (d : Attribute). get_or rest there.0 d) e ∙ there.2 ∙ sym e)) in
    absurd (omega (arith, same))

module _ (script : Script) (apart : AreApart (run_attributes script)) where
  -- attributes of a run with one name are one
  same-name : (a b : Attribute) → Contains (run_attributes script) a
      → Contains (run_attributes script) b → a.name ≡ b.name → a ≡ b
  same-name a b a_there b_there e = same_Some a b
      (sym (found_itself (run_attributes script) apart a a_there)
      ∙ ap (λ (name : List ℕ). find (λ other. is_same other.name name) (run_attributes script)) e
      ∙ found_itself (run_attributes script) apart b b_there)

  -- so where some of them stand once each, their names are apart
  pub names-once : (attributes : List Attribute) → AreOfRun script attributes
      → contexts.AreApart attributes → IsDistinct is_same (attribute_names attributes)
  unfolding IsDistinct
  names-once [] of once = tt
  names-once (a ∷ rest) of once = (
    from-names a rest (λ b there. is_same-other a.name b.name (λ e. clash a b rest once there
        (same-name a b (of a (0, omega arith, refl))
        (of b (Contains-append_right (a ∷ []) rest b there)) e))),
    names-once rest (λ b there. of b (Contains-append_right (a ∷ []) rest b there))
        (λ i j d l m e.
        let same = once (suc i) (suc j) d (omega (arith, l)) (omega (arith, m)) e in
        omega (arith, same)),
  )

-- ---- numbers

short-small : (v : variants.Variant) → IsShort v → IsSmall v
short-small (variant.Int n) short = omega (arith, short)
short-small (variant.Fixed n) short = omega (arith, short)
short-small (variant.Uint n) short = tt
short-small (variant.Text t) short = tt
short-small (variant.Bool b) short = tt
short-small (variant.Addr a) short = tt
short-small (variant.Kind k) short = tt
short-small (variant.Real t) short = tt
short-small (variant.Usr t) short = tt
short-small (variant.Ptr t) short = tt

shot-small : (script : Script) (r : Rec) → IsShot script r → HasSmallNumbers r
shot-small script r shot = All-from_recursion (λ (e : Entry). IsSmall e.value) (flat r)
    (all_weaker (IsOf script) (λ (e : Entry). IsSmall e.value)
    (λ e is. short-small e.value is.short) (flat r)
    (all-append (IsOf script) (joined r.paths) r.imms
    (all_weaker (InPath script) (IsOf script) (λ e is. is.of) (joined r.paths) shot.paths)
    (all_weaker (Immediate script) (IsOf script) (λ e is. is.of) r.imms shot.imms)))

pub shots-small : (script : Script) (rs : List Rec) → AllByRecursion (IsShot script) rs
    → All HasSmallNumbers rs
shots-small script rs shots = All-from_recursion HasSmallNumbers rs
    (all_weaker (IsShot script) HasSmallNumbers (shot-small script) rs shots)
