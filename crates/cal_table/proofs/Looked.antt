-- A table of a snapshot is that of the entries alone that it looks at.
use Rattle.std.proofs.Common.{◌≡◌, Bool, true, false, cond, ◌||◌, None, List, [], ◌∷◌, filter, length, map, sym, refl, ap, ◌∙◌, true≢false}
use Rattle.std.specs.Prelude.{pos}
use Rattle.std.specs.List.{cons_option, filter_map, last_or, list_any}
use Rattle.cal_agg.specs.Rows.{cell_over}
use Rattle.cal_filter.specs.Numbers.{number_in}
use Rattle.cal_snap.specs.declared.numbered.NumberedEntry.{NumberedEntry}
use Rattle.cal_snap.specs.declared.numbered.NumberedSnap.{NumberedSnap}
use Rattle.cal_table.specs.Looks.{IsLookedAt, looks_at}
use Rattle.cal_table.specs.Snapshots.{is_flagged, last_number, table_of}
use Rattle.cal_table.specs.declared.shape.TableShape.{TableShape}

-- one item more, of which a test keeps what it keeps of what a weaker test keeps
filter-next : {X : Type 0} (p q : X → Bool) → ((x : X) → p x ≡ true → q x ≡ true) → (x : X) (xs : List X) → filter p (filter q xs) ≡ filter p xs → filter p (filter q (x ∷ xs)) ≡ filter p (x ∷ xs)
filter-next p q h x xs rest = by (q x) refl
  where
    dropped : (b : Bool) → p x ≡ b → q x ≡ false → cond b (x ∷ filter p xs) (filter p xs) ≡ filter p xs
    dropped true t e = absurd (true≢false (sym (h x t) ∙ e))
    dropped false t e = refl

    by : (b : Bool) → q x ≡ b → filter p (cond b (x ∷ filter q xs) (filter q xs)) ≡ cond (p x) (x ∷ filter p xs) (filter p xs)
    by true e = ap (λ l. cond (p x) (x ∷ l) l) rest
    by false e = rest ∙ sym (dropped (p x) refl e)

-- what a test keeps of what a weaker test keeps is what it keeps of all
filter-weaker : {X : Type 0} (p q : X → Bool) → ((x : X) → p x ≡ true → q x ≡ true) → (xs : List X) → filter p (filter q xs) ≡ filter p xs
filter-weaker p q h [] = refl
filter-weaker p q h (x ∷ xs) = filter-next p q h x xs (filter-weaker p q h xs)

last_number-looked : (flags : List Bool) (q : NumberedEntry → Bool) → ((e : NumberedEntry) → is_flagged flags e ≡ true → q e ≡ true) → (es : List NumberedEntry) → last_number flags (filter q es) ≡ last_number flags es
last_number-looked flags q h es =
    ap (λ l. last_or None (filter_map (λ (e : NumberedEntry). number_in e.value) l)) (filter-weaker (is_flagged flags) q h es)

or_true : (a b : Bool) → b ≡ true → (a || b) ≡ true
or_true true b t = refl
or_true false b t = t

-- the cells of value attributes of which each is looked at
cells-looked : (q : NumberedEntry → Bool) (es : List NumberedEntry) (values : List (List Bool)) → ((e : NumberedEntry) → list_any (λ flags. is_flagged flags e) values ≡ true → q e ≡ true) → map (λ (flags : List Bool). cell_over (cons_option (last_number flags (filter q es)) [])) values ≡ map (λ (flags : List Bool). cell_over (cons_option (last_number flags es) [])) values
cells-looked q es [] h = refl
cells-looked q es (flags ∷ values) h = λ i.
    cell_over (cons_option (last_number-looked flags q (λ e t. h e (ap (λ b. b || list_any (λ f. is_flagged f e) values) t)) es i) [])
    ∷ cells-looked q es values (λ e t. h e (or_true (is_flagged flags e) (list_any (λ f. is_flagged f e) values) t)) i

pub table_of-looked : (shape : TableShape) (snap looked : NumberedSnap) → IsLookedAt shape snap looked → table_of shape (looked ∷ []) ≡ table_of shape (snap ∷ [])
table_of-looked shape snap looked h = λ i. record {
  shape = shape;
  rows = record {
    key = record { refs = h.refs i; imms = imms i };
    held = record { count = pos 1; cells = cells i };
  } ∷ [];
  snapshots = 1;
}
  where
    looks : NumberedEntry → Bool
    looks e = looks_at shape e.attribute

    imms : filter (is_flagged shape.keys) looked.imms.items ≡ filter (is_flagged shape.keys) snap.imms.items
    imms = ap (filter (is_flagged shape.keys)) h.imms ∙ filter-weaker (is_flagged shape.keys) looks (λ e t. ap (λ b. b || list_any (λ f. is_flagged f e) shape.values) t) snap.imms.items

    cells : map (λ (flags : List Bool). cell_over (cons_option (last_number flags looked.imms.items) [])) shape.values ≡ map (λ (flags : List Bool). cell_over (cons_option (last_number flags snap.imms.items) [])) shape.values
    cells = ap (λ l. map (λ (flags : List Bool). cell_over (cons_option (last_number flags l) [])) shape.values) h.imms
        ∙ cells-looked looks snap.imms.items shape.values (λ e t. or_true (is_flagged shape.keys e) (list_any (λ f. is_flagged f e) shape.values) t)
