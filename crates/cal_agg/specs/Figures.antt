-- The figures of numbers of one kind, all whole or all fixed: their sum, and their ends.
use Rattle.std.specs.Prelude.{ℤ, ◌+ℤ◌, Option, None, Some, option_map}
use Rattle.std.specs.Int.{int_min, int_max}
use Rattle.cal_agg.specs.declared.figures.Figures.{Figures}

-- one number
abbrev pub figures_of : ℤ → Figures
figures_of n = record { total = n; least = n; greatest = n }

-- those of both taken together
abbrev pub joined_figures : Figures → Figures → Figures
joined_figures one other = record {
  total = one.total +ℤ other.total;
  least = int_min one.least other.least;
  greatest = int_max one.greatest other.greatest;
}

-- so it is where either may be missing
abbrev pub both_figures : Option Figures → Option Figures → Option Figures
both_figures None other = other
both_figures (Some one) None = Some one
both_figures (Some one) (Some other) = Some (joined_figures one other)

-- one of the figures, where there is a number
abbrev pub total_in : Option Figures → Option ℤ
total_in figures = option_map (λ (f : Figures). f.total) figures

abbrev pub least_in : Option Figures → Option ℤ
least_in figures = option_map (λ (f : Figures). f.least) figures

abbrev pub greatest_in : Option Figures → Option ℤ
greatest_in figures = option_map (λ (f : Figures). f.greatest) figures
