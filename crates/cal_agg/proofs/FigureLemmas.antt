-- Cells merged as their figures are taken together.
use Rattle.std.proofs.Common.{◌≡◌, ◌+ℤ◌, Option, None, Some, refl, sym, ◌∙◌, subst, arith}
use Rattle.std.specs.Int.{int_min, int_max}
use Rattle.std.specs.Option.{ForSome}
use Rattle.std.proofs.lemmas.Int.{ints, clamps}
use Rattle.cal_agg.specs.declared.cell.Cell.TheInside.{Inside}
use Rattle.cal_agg.specs.declared.figures.Figures.{Figures}
use Rattle.cal_agg.specs.CellFields.{AreSmall, IsOfFixed, IsOfWholes, cell_value}
use Rattle.cal_agg.specs.Figures.{both_figures, greatest_in, joined_figures, least_in, total_in}
use Rattle.cal_agg.specs.Numbers.{IsWithin}
use Rattle.cal_agg.specs.Parts.{CellValue}
use Rattle.cal_agg.specs.Results.{both}
use Rattle.cal_agg.specs.Rows.{CellHasRoom, merged_cell}

-- each of the figures is taken together
total_in-both : (x y : Option Figures)
    → total_in (both_figures x y) ≡ both ◌+ℤ◌ (total_in x) (total_in y)
total_in-both None y = refl
total_in-both (Some x) None = refl
total_in-both (Some x) (Some y) = refl

least_in-both : (x y : Option Figures)
    → least_in (both_figures x y) ≡ both int_min (least_in x) (least_in y)
least_in-both None y = refl
least_in-both (Some x) None = refl
least_in-both (Some x) (Some y) = refl

greatest_in-both : (x y : Option Figures)
    → greatest_in (both_figures x y) ≡ both int_max (greatest_in x) (greatest_in y)
greatest_in-both None y = refl
greatest_in-both (Some x) None = refl
greatest_in-both (Some x) (Some y) = refl

-- the fields of two cells taken together
abbrev pub joined_fields : Inside → Inside → Inside
joined_fields a b = record {
  wholes = both_figures a.wholes b.wholes;
  fixed = both_figures a.fixed b.fixed;
}

cell_value-joined : (a b : Inside)
    → cell_value (joined_fields a b) ≡ merged_cell (cell_value a) (cell_value b)
cell_value-joined a b = λ i. record {
  sum = record {
    whole = total_in-both a.wholes b.wholes i;
    fixed = total_in-both a.fixed b.fixed i;
  };
  least = record {
    whole = least_in-both a.wholes b.wholes i;
    fixed = least_in-both a.fixed b.fixed i;
  };
  greatest = record {
    whole = greatest_in-both a.wholes b.wholes i;
    fixed = greatest_in-both a.fixed b.fixed i;
  };
}

-- two cells, each with its fields
pub record HaveFields (a b : Inside) (c d : CellValue) : Type 0 where
  pub one : cell_value a ≡ c
  pub other : cell_value b ≡ d

pub merged_is : (a b : Inside) (one other : CellValue) (w f : Option Figures)
    → HaveFields a b one other
    → w ≡ both_figures a.wholes b.wholes → f ≡ both_figures a.fixed b.fixed
    → cell_value (record { wholes = w; fixed = f }) ≡ merged_cell one other
merged_is a b one other w f have p q =
    (λ i. cell_value (record { wholes = p i; fixed = q i }))
    ∙ cell_value-joined a b
    ∙ λ i. merged_cell (have.one i) (have.other i)

-- the limits of the sums of both, said of their fields
pub room_is : (a b : Inside) (one other : CellValue) → HaveFields a b one other
    → CellHasRoom (merged_cell one other)
    → CellHasRoom (merged_cell (cell_value a) (cell_value b))
room_is a b one other have room =
    subst CellHasRoom (λ i. merged_cell (sym have.one i) (sym have.other i)) room

-- the ends of small numbers are small
of_wholes : (x y : Figures) → IsOfWholes x → IsOfWholes y → IsWithin 126 (x.total +ℤ y.total)
    → IsOfWholes (joined_figures x y)
of_wholes x y h k room =
    let l = h.least in
    let m = k.least in
    let g = h.greatest in
    let j = k.greatest in
    record {
      total = room;
      least = omega (arith, ints, clamps);
      greatest = omega (arith, ints, clamps);
    }

wholes_small : (x y : Option Figures) → ForSome x IsOfWholes → ForSome y IsOfWholes
    → ForSome (both ◌+ℤ◌ (total_in x) (total_in y)) (IsWithin 126)
    → ForSome (both_figures x y) IsOfWholes
wholes_small None y h k room f e = k f e
wholes_small (Some x) None h k room f e = h f e
wholes_small (Some x) (Some y) h k room f e =
    let is : joined_figures x y ≡ f = cc in
    subst IsOfWholes is (of_wholes x y (h x refl) (k y refl) (room _ refl))

fixed_small : (x y : Option Figures) → ForSome x IsOfFixed → ForSome y IsOfFixed
    → ForSome (both ◌+ℤ◌ (total_in x) (total_in y)) (IsWithin 126)
    → ForSome (both_figures x y) IsOfFixed
fixed_small None y h k room f e = k f e
fixed_small (Some x) None h k room f e = h f e
fixed_small (Some x) (Some y) h k room f e =
    let is : joined_figures x y ≡ f = cc in
    subst IsOfFixed is (room _ refl)

-- the fields stay within their limits
pub merged_small : (a b : Inside) (w f : Option Figures) → AreSmall a → AreSmall b
    → CellHasRoom (merged_cell (cell_value a) (cell_value b))
    → w ≡ both_figures a.wholes b.wholes → f ≡ both_figures a.fixed b.fixed
    → AreSmall (record { wholes = w; fixed = f })
merged_small a b w f h k room p q = record {
  wholes = subst (λ (o : Option Figures). ForSome o IsOfWholes) (sym p)
      (wholes_small a.wholes b.wholes h.wholes k.wholes room.whole);
  fixed = subst (λ (o : Option Figures). ForSome o IsOfFixed) (sym q)
      (fixed_small a.fixed b.fixed h.fixed k.fixed room.fixed);
}
