use Rattle.std.specs.Prelude.{ℕ, ℤ, Bool, pos, neg_ℤ, ◌^◌, List, Option, Some, None, length, drop}
use Rattle.std.specs.Prelude.{codes, nat_eq, nat_le, not, ◌==◌, ◌&&◌, if◌then◌else◌}
use Rattle.std.specs.Char.{is_digit}
use Rattle.std.specs.List.{list_all, starts_with}
use Rattle.std.specs.Option.{option_map}
use Rattle.std.specs.Str.Parse.{digits_value}

-- one digit or more of a base, letters of either case, and nothing else
abbrev pub is_numeral : ℕ → List ℕ → Bool
is_numeral base t = not (length t == 0) && list_all (λ c. is_digit c base) t

-- the number that a numeral writes, any number of leading zeros included
abbrev pub number_of : ℕ → List ℕ → Option ℕ
number_of base t = if is_numeral base t then Some (digits_value base t) else None

-- a number where it is at most this one
abbrev pub at_most : ℕ → Option ℕ → Option ℕ
at_most most None = None
at_most most (Some n) = if nat_le n most then Some n else None

-- An optional minus and a magnitude, read so, of at most 2^86 (Giltmoth's rule), so that `-0` is 0.
abbrev pub signed_of : (List ℕ → Option ℕ) → List ℕ → Option ℤ
signed_of magnitude t =
    if starts_with nat_eq t (codes "-")
    then option_map (λ n. neg_ℤ (pos n)) (at_most (2 ^ 86) (magnitude (drop 1 t)))
    else option_map pos (at_most (2 ^ 86) (magnitude t))
