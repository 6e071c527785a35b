-- The library writes strings as the definition says.
use Rattle.std.proofs.Common.{◌≡◌, ℕ, zero, suc, Bool, true, false, cond, ◌==◌, ◌||◌, ◌/◌, ◌%◌, nat_lt, List, [], ◌∷◌, ◌++◌, codes, flat_map, if◌then◌else◌, refl, ap, arith}
use Rattle.std.specs.Char.{digit_char}
use Rattle.json.specs.Print.{escape_byte, quoted}
use Rattle.cal_jsonfmt.specs.Strings.{escaped_byte, string_json}

-- one test after another; the library tests the letter, which isn't 0
chosen : (q b f n r t low : Bool) (x : ℕ) (long : List ℕ) → (q ≡ true → nat_lt 0 x ≡ true)
    → cond (nat_lt 0 (cond q x (cond b 98 (cond f 102 (cond n 110 (cond r 114 (cond t 116 0)))))))
    (92 ∷ cond q x (cond b 98 (cond f 102 (cond n 110 (cond r 114 (cond t 116 0))))) ∷ [])
    (cond low long (x ∷ []))
    ≡ (if q then 92 ∷ x ∷ [] else (if b then codes "\\b" else (if f then codes "\\f" else (if n then codes "\\n"
    else (if r then codes "\\r" else (if t then codes "\\t" else (if low then long else x ∷ [])))))))
chosen true b f n r t low x long above = rw (above refl) refl
chosen false true f n r t low x long above = refl
chosen false false true n r t low x long above = refl
chosen false false false true r t low x long above = refl
chosen false false false false true t low x long above = refl
chosen false false false false false true low x long above = refl
chosen false false false false false false true x long above = refl
chosen false false false false false false false x long above = refl

above_zero : (x : ℕ) → ((x == 34) || (x == 92)) ≡ true → nat_lt 0 x ≡ true
above_zero zero h = cc
above_zero (suc n) h = grind arith

escaped_byte-is : (x : ℕ) → escape_byte x ≡ escaped_byte x
unfolding escape_byte
escaped_byte-is x =
    chosen ((x == 34) || (x == 92)) (x == 8) (x == 12) (x == 10) (x == 13) (x == 9) (nat_lt x 32) x
    (92 ∷ 117 ∷ 48 ∷ 48 ∷ digit_char (x / 16) ∷ digit_char (x % 16) ∷ []) (above_zero x)

escaped-is : (s : List ℕ) → flat_map escape_byte s ≡ flat_map escaped_byte s
escaped-is [] = refl
escaped-is (x ∷ s) = rw (escaped_byte-is x, escaped-is s) refl

pub quoted-is : (s : List ℕ) → quoted s ≡ string_json s
quoted-is s = ap (λ (t : List ℕ). 34 ∷ (t ++ 34 ∷ [])) (escaped-is s)
