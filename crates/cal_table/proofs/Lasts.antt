-- The last number of a value attribute, with one entry more.
use Rattle.std.proofs.Common.{◌≡◌, ℕ, ◌+◌, ◌<◌, Bool, true, false, cond, Option, None, Some, List, [], ◌∷◌, ◌++◌, length, take, get_or, filter, sym, refl, ap, ◌∙◌, arith}
use Rattle.std.specs.List.{All, AllByRecursion, cons_option, filter_map, last_or}
use Rattle.std.specs.Option.{ForSome, option_or}
use Rattle.std.proofs.lemmas.List.{take_more}
use Rattle.std.proofs.lemmas.List.Elements.{filter-append, filter_map-append, recursion_from_All}
use Rattle.cal_agg.specs.Numbers.{IsSmall}
use Rattle.cal_agg.specs.RowLimits.{CellIsWithin-one, CellIsWithin-room, IsOf64}
use Rattle.cal_agg.specs.Rows.{CellHasRoom, cell_over}
use Rattle.cal_agg.specs.declared.num.Num.{Num}
use Rattle.cal_filter.specs.Numbers.{number_in}
use Rattle.cal_snap.specs.declared.numbered.NumberedEntry.{NumberedEntry}
use Rattle.cal_table.specs.Snapshots.{HasNumberOf64, is_flagged, last_number}

last_or-append : {A : Type 0} (o : Option A) (xs ys : List A) → last_or o (xs ++ ys) ≡ last_or (last_or o xs) ys
last_or-append o [] ys = refl
last_or-append o (x ∷ xs) ys = last_or-append (Some x) xs ys

-- what the entry adds to the numbers
abbrev numbers_at : List Bool → NumberedEntry → List Num
numbers_at flags e = filter_map (λ (x : NumberedEntry). number_in x.value) (filter (is_flagged flags) (e ∷ []))

last_number-push : (flags : List Bool) (es : List NumberedEntry) (e : NumberedEntry) → last_number flags (es ++ e ∷ []) ≡ last_or (last_number flags es) (numbers_at flags e)
last_number-push flags es e =
    ap (λ l. last_or None (filter_map (λ (x : NumberedEntry). number_in x.value) l)) (filter-append (is_flagged flags) es (e ∷ []))
    ∙ ap (last_or None) (filter_map-append (λ (x : NumberedEntry). number_in x.value) (filter (is_flagged flags) es) (filter (is_flagged flags) (e ∷ [])))
    ∙ last_or-append None (filter_map (λ (x : NumberedEntry). number_in x.value) (filter (is_flagged flags) es)) (numbers_at flags e)

last_number-more : (flags : List Bool) (es : List NumberedEntry) (i : ℕ) (d : NumberedEntry) → i < length es → last_number flags (take (i + 1) es) ≡ last_or (last_number flags (take i es)) (numbers_at flags (get_or es i d))
last_number-more flags es i d h = ap (last_number flags) (take_more es i d h) ∙ last_number-push flags (take i es) (get_or es i d)

last_or-one : (o v : Option Num) → last_or o (cons_option v []) ≡ option_or v o
last_or-one o None = refl
last_or-one o (Some n) = refl

-- with one entry more, its number is the last one, where it is flagged and has one
pub last_number-next : (flags : List Bool) (es : List NumberedEntry) (i : ℕ) (e : NumberedEntry) → i < length es → e ≡ get_or es i e → last_number flags (take (i + 1) es) ≡ cond (is_flagged flags e) (option_or (number_in e.value) (last_number flags (take i es))) (last_number flags (take i es))
last_number-next flags es i e h is =
    last_number-more flags es i e h ∙ ap (λ x. last_or (last_number flags (take i es)) (numbers_at flags x)) (sym is) ∙ by (is_flagged flags e)
  where
    by : (b : Bool) → last_or (last_number flags (take i es)) (filter_map (λ (x : NumberedEntry). number_in x.value) (cond b (e ∷ []) [])) ≡ cond b (option_or (number_in e.value) (last_number flags (take i es))) (last_number flags (take i es))
    by true = last_or-one (last_number flags (take i es)) (number_in e.value)
    by false = refl

pub last_number-flagged : (flags : List Bool) (es : List NumberedEntry) (i : ℕ) (e : NumberedEntry) → i < length es → e ≡ get_or es i e → is_flagged flags e ≡ true → last_number flags (take (i + 1) es) ≡ option_or (number_in e.value) (last_number flags (take i es))
last_number-flagged flags es i e h is flagged =
    last_number-next flags es i e h is ∙ ap (λ b. cond b (option_or (number_in e.value) (last_number flags (take i es))) (last_number flags (take i es))) flagged

pub last_number-unflagged : (flags : List Bool) (es : List NumberedEntry) (i : ℕ) (e : NumberedEntry) → i < length es → e ≡ get_or es i e → is_flagged flags e ≡ false → last_number flags (take (i + 1) es) ≡ last_number flags (take i es)
last_number-unflagged flags es i e h is unflagged =
    last_number-next flags es i e h is ∙ ap (λ b. cond b (option_or (number_in e.value) (last_number flags (take i es))) (last_number flags (take i es))) unflagged

-- one entry more, flagged or not
next_of64 : (e : NumberedEntry) (rest : List NumberedEntry) (o : Option Num) → ForSome o IsOf64 → (b : Bool) → ForSome (number_in e.value) IsOf64 → ((p : Option Num) → ForSome p IsOf64 → ForSome (last_or p (filter_map (λ (x : NumberedEntry). number_in x.value) rest)) IsOf64) → ForSome (last_or o (filter_map (λ (x : NumberedEntry). number_in x.value) (cond b (e ∷ rest) rest))) IsOf64
next_of64 e rest o h false own all = all o h
next_of64 e rest o h true own all = put (number_in e.value) own
  where
    put : (v : Option Num) → ForSome v IsOf64 → ForSome (last_or o (cons_option v (filter_map (λ (x : NumberedEntry). number_in x.value) rest))) IsOf64
    put None k = all o h
    put (Some n) k = all (Some n) k

-- the last number is one of 64 bits where each is
last_of64 : (flags : List Bool) (es : List NumberedEntry) → AllByRecursion HasNumberOf64 es → (o : Option Num) → ForSome o IsOf64 → ForSome (last_or o (filter_map (λ (x : NumberedEntry). number_in x.value) (filter (is_flagged flags) es))) IsOf64
last_of64 flags [] each o h = h
last_of64 flags (e ∷ es) each o h =
    next_of64 e (filter (is_flagged flags) es) o h (is_flagged flags e) each.0 (last_of64 flags es each.1)

pub last_number-of64 : (flags : List Bool) (es : List NumberedEntry) → All HasNumberOf64 es → ForSome (last_number flags es) IsOf64
last_number-of64 flags es each = last_of64 flags es (recursion_from_All HasNumberOf64 es each) None (λ n e. absurd cc)

-- such a number may be added to a cell
pub may_add : (n : Num) → IsOf64 n → IsSmall n
may_add n h = omega arith

pub has_cell_room : (n : Num) → IsOf64 n → CellHasRoom (cell_over (n ∷ []))
has_cell_room n h = CellIsWithin-room 1 (cell_over (n ∷ [])) (omega arith) (CellIsWithin-one n h)
