-- What names of GROUP BY take, name by name.
use Rattle.std.proofs.Common.{◌≡◌, ◌≢◌, ℕ, suc, ◌+◌, ◌<◌, Bool, not, List, [], ◌∷◌, ◌++◌, filter, length, drop, get_or, refl, sym, ap, ◌∙◌, arith, add-one, append_assoc, drop-cons}
use Rattle.cal_value.specs.Flat.{joined}
use Rattle.cal_value.specs.declared.attribute.Entry.{Entry}
use Rattle.cal_keys.specs.Groups.{has_entries, taken, takes}

-- the next name takes what it takes, and leaves the others to those behind it
pub taken_next : (in_path : Bool) (names : List (List ℕ)) (n : ℕ) (name : List ℕ) (left : List Entry)
    → n < length names → name ≡ get_or names n name
    → taken in_path (drop n names) left
    ≡ filter (takes in_path name) left
    ∷ taken in_path (drop (n + 1) names) (filter (λ e. not (takes in_path name e)) left)
taken_next in_path names n name left l e =
    ap (λ ns. taken in_path ns left) (drop-cons names n name l ∙ ap (λ m. m ∷ drop (suc n) names) (sym e))
    ∙ ap (λ m. filter (takes in_path name) left ∷ taken in_path (drop m names) (filter (λ e. not (takes in_path name e)) left)) (sym (add-one n))

pub imms_next : (imms now took : List Entry) (rest : List (List Entry)) (whole : List Entry)
    → now ≡ imms ++ took → imms ++ joined (took ∷ rest) ≡ whole → now ++ joined rest ≡ whole
imms_next imms now took rest whole e is = ap (λ xs. xs ++ joined rest) e ∙ append_assoc imms took (joined rest) ∙ is

pub paths_then : (paths now : List (List Entry)) (took : List Entry) (rest whole : List (List Entry))
    → now ≡ paths ++ took ∷ [] → length took ≢ 0
    → paths ++ filter has_entries (took ∷ rest) ≡ whole → now ++ filter has_entries rest ≡ whole
paths_then paths now [] rest whole e some is = absurd (some refl)
paths_then paths now (t ∷ ts) rest whole e some is =
    ap (λ xs. xs ++ filter has_entries rest) e ∙ append_assoc paths ((t ∷ ts) ∷ []) (filter has_entries rest) ∙ is

pub paths_else : (paths now : List (List Entry)) (took : List Entry) (rest whole : List (List Entry))
    → now ≡ paths → length took ≡ 0
    → paths ++ filter has_entries (took ∷ rest) ≡ whole → now ++ filter has_entries rest ≡ whole
paths_else paths now [] rest whole e none is = ap (λ xs. xs ++ filter has_entries rest) e ∙ is
paths_else paths now (t ∷ ts) rest whole e none is = absurd (omega (arith, none))
