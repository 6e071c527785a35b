-- What is kept behind other values leaves the entries as they are.
use Rattle.std.proofs.Common.{◌≡◌, suc, List, [], ◌∷◌, ◌++◌, length, get_or, ap, refl}
use Rattle.std.proofs.Common.{subst, sym, ◌∙◌, arith, length-append}
use Rattle.std.specs.Prelude.{OnErr, Result, Ok, Err}
use Rattle.std.proofs.lemmas.List.{get_or_append_left}
use Rattle.cal_channel.specs.Packed.{AreWithin, IsWithin, all_unpacked, unpacked}
use Rattle.cal_channel.specs.declared.packed.PackedEntry.{PackedEntry}
use Rattle.cal_channel.specs.declared.packed.PackedEntry.TheVariants as packed
use Rattle.cal_channel.specs.declared.shown.ShownValue.TheVariants as shown
use Rattle.cal_context.specs.Lists.{IsFront}
use Rattle.cal_context.specs.Tree.{no_value}
use Rattle.cal_value.specs.declared.variant.Variant.{Variant}

module _ (kept more : List Variant) where
  unpacked-more : (e : PackedEntry) → IsWithin (length kept) e
      → unpacked (kept ++ more) e ≡ unpacked kept e
  unpacked-more (packed.Opened attribute place) w = refl
  unpacked-more (packed.Number attribute n) w = refl
  unpacked-more (packed.Whole attribute n) w = refl
  unpacked-more (packed.Kept attribute place) w = λ i. record {
    attribute = attribute;
    value = shown.Plain (get_or_append_left kept more no_value place w i);
  }

  all_unpacked-more : (es : List PackedEntry) → AreWithin (length kept) es
      → all_unpacked (kept ++ more) es ≡ all_unpacked kept es
  all_unpacked-more [] w = refl
  all_unpacked-more (e ∷ es) w = λ i. unpacked-more e (w 0 e (omega arith)) i
      ∷ all_unpacked-more es (λ k d l. w (suc k) d (omega (arith, l))) i

  within-more : (e : PackedEntry) → IsWithin (length kept) e → IsWithin (length (kept ++ more)) e
  within-more (packed.Opened attribute place) w = w
  within-more (packed.Number attribute n) w = w
  within-more (packed.Whole attribute n) w = w
  within-more (packed.Kept attribute place) w =
      let l = length-append kept more in omega (arith, l, w)

  are_within-more : (es : List PackedEntry) → AreWithin (length kept) es
      → AreWithin (length (kept ++ more)) es
  are_within-more es w k d l = within-more (get_or es k d) (w k d l)

-- Where more values are kept behind others, the entries stay as they are,
module _ (kept grown : List Variant) (front : IsFront kept grown) (es : List PackedEntry)
    (w : AreWithin (length kept) es) where
  pub unpacked-grown : all_unpacked grown es ≡ all_unpacked kept es
  unpacked-grown = ap (λ (vs : List Variant). all_unpacked vs es) front.1
      ∙ all_unpacked-more kept front.0 es w

  -- and what they ask for is still there
  pub within-grown : AreWithin (length grown) es
  within-grown = subst (λ (vs : List Variant). AreWithin (length vs) es) (sym front.1)
      (are_within-more kept front.0 es w)

-- what holds at all, holds on an error
pub on_err : {T E P : Type 0} (r : Result T E) → P → OnErr r P
on_err (Ok x) p = tt
on_err (Err e) p = p
