-- The entries of results, value attribute by value attribute.
use Rattle.std.proofs.Common.{◌≡◌, ℕ, zero, suc, ◌+◌, ◌<◌, ◌≤◌, List, [], ◌∷◌, ◌++◌, length, get_or}
use Rattle.std.proofs.Common.{take, min, ap, subst, sym, ◌∙◌, refl, arith}
use Rattle.std.proofs.Common.{Option, None, Some}
use Rattle.std.proofs.lemmas.Grind.{flat_map-append}
use Rattle.std.proofs.lemmas.List.{append-nil, take_all}
use Rattle.std.proofs.lemmas.Int.{fits_signed_from_abs, to_z-of_z}
use Rattle.std.proofs.lemmas.Slice.Zip.{length-zip}
use Rattle.std.specs.List.{AllZip, cons_option, flat_map, zip}
use Rattle.std.specs.Option.{option_to_list}
use Rattle.std.specs.Prelude.{ℤ}
use Rattle.cal_agg.specs.Numbers.{IsWithin}
use Rattle.cal_agg.specs.declared.cell.Cell.{Cell}
use Rattle.cal_agg.specs.declared.num.Num.{Num}
use Rattle.cal_context.specs.Tree.{Tree}
use Rattle.cal_context.specs.declared.numbers.NodeNumber.{NodeNumber}
use Rattle.cal_context.specs.declared.snapshot.Immediate.{Immediate}
use Rattle.cal_filter.proofs.OperandLemmas.{number_sought_is}
use Rattle.cal_filter.proofs.Zips.{zip_at}
use Rattle.cal_filter.specs.Known.{sought}
use Rattle.cal_filter.specs.Named.{last_number}
use Rattle.cal_filter.specs.Sought.{number_sought}
use Rattle.cal_filter.specs.declared.seeker.Seeker.{Seeker}
use Rattle.cal_groups.specs.Appended.{record_of}
use Rattle.cal_groups.specs.Columns.{Finds, cell_results}
use Rattle.cal_profile.specs.TableRows.{cell_entries}
use Rattle.cal_value.specs.Flat.{flat}
use Rattle.cal_value.specs.declared.attribute.Entry.{Entry}
use Rattle.cal_value.specs.declared.record.Rec.{Rec}
use mir.Syntax.{w128}
use mir.Val.{to_z, of_z}

-- a count is read back as it is
pub count_back : (n : ℤ) → IsWithin 40 n → to_z w128 (of_z w128 n) ≡ n
count_back n few = to_z-of_z w128 n (fits_signed_from_abs w128 n (omega arith))

-- three entries, each of which may be missing
pub three_listed : {A : Type 0} (a b c : Option A)
    → (option_to_list a ++ option_to_list b) ++ option_to_list c
    ≡ cons_option a (cons_option b (cons_option c []))
three_listed None None None = refl
three_listed None None (Some c) = refl
three_listed None (Some b) None = refl
three_listed None (Some b) (Some c) = refl
three_listed (Some a) None None = refl
three_listed (Some a) None (Some c) = refl
three_listed (Some a) (Some b) None = refl
three_listed (Some a) (Some b) (Some c) = refl

-- one pair more
zip_next : {A B : Type 0} (xs : List A) (ys : List B) (i : ℕ) (d : A) (e : B) → i < length xs
    → i < length ys
    → take (suc i) (zip xs ys) ≡ take i (zip xs ys) ++ (get_or xs i d, get_or ys i e) ∷ []
zip_next [] ys i d e h k = absurd (omega arith)
zip_next (x ∷ xs) [] i d e h k = absurd (omega arith)
zip_next (x ∷ xs) (y ∷ ys) zero d e h k = refl
zip_next (x ∷ xs) (y ∷ ys) (suc i) d e h k =
    ap (λ l. (x, y) ∷ l) (zip_next xs ys i d e (omega arith) (omega arith))

pub flat_zip_more : {A B C : Type 0} (f : A × B → List C) (xs : List A) (ys : List B) (i : ℕ)
    (d : A) (e : B) → i < length xs → i < length ys
    → flat_map f (take (i + 1) (zip xs ys))
    ≡ flat_map f (take i (zip xs ys)) ++ f (get_or xs i d, get_or ys i e)
flat_zip_more {A} {B} {C} f xs ys i d e h k =
    let zs = zip xs ys in
    let next : i + 1 ≡ suc i = omega arith in
    ap (λ n. flat_map f (take n zs)) next
    ∙ ap (flat_map f) (zip_next xs ys i d e h k)
    ∙ flat_map-append f (take i zs) ((get_or xs i d, get_or ys i e) ∷ [])
    ∙ ap (λ l. flat_map f (take i zs) ++ l) (append-nil (f (get_or xs i d, get_or ys i e)))

-- all pairs
pub zip_all : {A B : Type 0} (xs : List A) (ys : List B) (i : ℕ) → min (length xs) (length ys) ≤ i
    → take i (zip xs ys) ≡ zip xs ys
zip_all xs ys i all =
    take_all i (zip xs ys) (subst (λ n. n ≤ i) (sym (length-zip xs ys)) all)

-- the results of one value attribute more
pub results_more : (values : List (List ℕ)) (cells : List Cell) (count n : ℤ) (key : Rec)
    (known : Option Num) (i : ℕ) (cell : Cell) (e : Entry) → i < length values
    → i < length cells → cell ≡ get_or cells i cell → n ≡ count
    → known ≡ last_number (get_or values i []) key
    → (e ∷ flat_map (λ (c : List ℕ × Cell). cell_entries count key c.0 c.1)
    (take i (zip values cells))) ++ cell_results n known (get_or values i []) cell
    ≡ e ∷ flat_map (λ (c : List ℕ × Cell). cell_entries count key c.0 c.1)
    (take (i + 1) (zip values cells))
results_more values cells count n key known i cell e h k is counted found =
    let f : List ℕ × Cell → List Entry = λ c. cell_entries count key c.0 c.1 in
    let attr = get_or values i [] in
    let before = flat_map f (take i (zip values cells)) in
    ap (λ l. e ∷ l)
    ((λ j. before ++ cell_results (counted j) (found j) attr (is j))
    ∙ sym (flat_zip_more f values cells i [] cell h k))

-- the number that a seeker found in front of the results is the key's last one
pub known_is : (t : Tree) (nodes : List NodeNumber) (front imms : List Immediate)
    (attr : List ℕ) (seeker : Seeker) (known : Option Num) → Finds t attr seeker → front ≡ imms
    → known ≡ number_sought (sought seeker) (flat (record_of t nodes front))
    → known ≡ last_number attr (record_of t nodes imms)
known_is t nodes front imms attr seeker known finds same found =
    found
    ∙ (λ i. number_sought (finds.seeks i) (flat (record_of t nodes (same i))))
    ∙ number_sought_is attr (record_of t nodes imms)

pub finds_at : (t : Tree) (values : List (List ℕ)) (seekers : List Seeker) (i : ℕ) (s : Seeker)
    → AllZip (Finds t) values seekers → i < length seekers → s ≡ get_or seekers i s
    → Finds t (get_or values i []) s
finds_at t values seekers i s zip short is =
    subst (Finds t (get_or values i [])) (sym is)
    (zip_at (Finds t) values seekers i [] s zip short)
