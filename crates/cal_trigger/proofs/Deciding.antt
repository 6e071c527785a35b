-- One condition, entry by entry.
use Rattle.std.proofs.Common.{◌≡◌, Bool, true, false, ◌&&◌, not, if◌then◌else◌, List, [], ◌∷◌}
use Rattle.std.proofs.Common.{refl, ap, sym, ◌∙◌}
use Rattle.std.specs.Prelude.{◌||◌, filter}
use Rattle.std.specs.List.{list_any}
use Rattle.cal_filter.specs.Conditions.{test_holds, where_holds}
use Rattle.cal_filter.specs.Named.{entries_named, is_named}
use Rattle.cal_ql.specs.declared.query.Cond.{Cond}
use Rattle.cal_value.specs.Flat.{flat}
use Rattle.cal_value.specs.declared.attribute.Entry.{Entry}
use Rattle.cal_value.specs.declared.record.Rec.{Rec}
use Rattle.cal_trigger.specs.Deciding.{speaks_of}

some_next : (p q : Entry → Bool) (e : Entry) (es : List Entry)
    → list_any (λ e. p e && q e) es ≡ list_any q (filter p es)
    → (b : Bool) → p e ≡ b
    → list_any (λ e. p e && q e) (e ∷ es) ≡ list_any q (filter p (e ∷ es))
some_next p q e es rest false is = rw is rest
some_next p q e es rest true is = rw (is, rest) refl

-- what is asked of the entries of a name is asked of all entries beside their names
some_filtered : (p q : Entry → Bool) (es : List Entry)
    → list_any (λ e. p e && q e) es ≡ list_any q (filter p es)
some_filtered p q [] = refl
some_filtered p q (e ∷ es) = some_next p q e es (some_filtered p q es) (p e) refl

and_true : (b : Bool) → b ≡ (b && true)
and_true true = refl
and_true false = refl

module _ (c : Cond) (plain : c.not ≡ false) (r : Rec) where
  abbrev some : Bool
  some = list_any (test_holds c.test) (entries_named c.name r)

  -- one condition holds where some entry has its name and passes its test
  pub one_holds : list_any (speaks_of c) (flat r) ≡ where_holds (c ∷ []) r
  one_holds =
      some_filtered (is_named c.name) (test_holds c.test) (flat r)
      ∙ and_true some
      ∙ ap (λ n. (if n then not some else some) && true) (sym plain)

  -- it does where the first of those that are left is such
  pub first_speaks : (es rest : List Entry) (e : Entry) → es ≡ e ∷ rest
      → list_any (speaks_of c) es ≡ list_any (speaks_of c) (flat r)
      → true ≡ speaks_of c e → true ≡ where_holds (c ∷ []) r
  first_speaks es rest e is same speaks =
      ap (λ b. b || list_any (speaks_of c) rest) speaks
      ∙ ap (list_any (speaks_of c)) (sym is) ∙ same ∙ one_holds

  -- and doesn't where none is left
  pub none_speaks : (es : List Entry) → es ≡ []
      → list_any (speaks_of c) es ≡ list_any (speaks_of c) (flat r)
      → false ≡ where_holds (c ∷ []) r
  none_speaks es is same = ap (list_any (speaks_of c)) (sym is) ∙ same ∙ one_holds
