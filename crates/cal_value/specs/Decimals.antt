use Rattle.std.specs.Prelude.{ℕ, ℤ, Bool, pos, negsuc, suc, zero, ◌+◌, ◌*◌, ◌-◌, ◌/◌, ◌%◌, ◌^◌}
use Rattle.std.specs.Prelude.{List, [], ◌∷◌, ◌++◌, Option, Some, None, codes, decimal, length, take}
use Rattle.std.specs.Prelude.{drop, ◌==◌, nat_le, if◌then◌else◌}
use Rattle.std.specs.List.{position_or_len}
use Rattle.std.specs.Option.{option_and_then, option_map}
use Rattle.cal_value.specs.Numerals.{number_of, signed_of}

-- The first digits of `rest` out of 10 ^ places behind the point, up to the last that isn't 0.
abbrev pub digits_behind : ℕ → ℕ → List ℕ
digits_behind zero rest = []
digits_behind (suc places) zero = []
digits_behind (suc places) rest =
    (48 + rest / 10 ^ places) ∷ digits_behind places (rest % 10 ^ places)

-- The point and the digits of so many nano-units, fewer than a whole one; nothing of none.
abbrev pub rest_text : ℕ → List ℕ
rest_text zero = []
rest_text rest = codes "." ++ digits_behind 9 rest

-- So many nano-units as a decimal, without the zeros at its end.
abbrev pub decimal_text : ℕ → List ℕ
decimal_text n = decimal (n / 1000000000) ++ rest_text (n % 1000000000)

-- A number of nano-units as a decimal, with a minus where it is negative.
abbrev pub fixed_text : ℤ → List ℕ
fixed_text (pos n) = decimal_text n
fixed_text (negsuc n) = codes "-" ++ decimal_text (suc n)

-- Whether a character is the point of a decimal.
abbrev pub is_point : ℕ → Bool
is_point c = c == 46

-- The nano-units that 1 to 9 digits behind a point write.
abbrev pub digits_nanos : List ℕ → Option ℕ
digits_nanos ds =
    if nat_le (length ds) 9 then option_map (λ n. n * 10 ^ (9 - length ds)) (number_of 10 ds)
    else None

-- The nano-units that the end of a decimal writes: nothing, or its point and the digits behind it.
abbrev pub rest_nanos : List ℕ → Option ℕ
rest_nanos [] = Some 0
rest_nanos (point ∷ ds) = digits_nanos ds

-- The nano-units of a whole part and of what stands behind it.
abbrev pub parts_nanos : List ℕ → List ℕ → Option ℕ
parts_nanos whole rest =
    option_and_then (λ w. option_map (λ r. w * 1000000000 + r) (rest_nanos rest))
    (number_of 10 whole)

-- The nano-units that a decimal writes: a whole part, and optionally a point with 1 to 9 digits.
abbrev pub decimal_nanos : List ℕ → Option ℕ
decimal_nanos t =
    let place = position_or_len is_point t in parts_nanos (take place t) (drop place t)

-- The number of nano-units that an optional minus and a decimal write (Giltmoth's rule).
abbrev pub fixed_of : List ℕ → Option ℤ
fixed_of = signed_of decimal_nanos
