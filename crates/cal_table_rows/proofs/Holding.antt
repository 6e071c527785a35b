-- What the rows of a table hold, whose keys are apart.
use Rattle.std.proofs.Common.{◌≡◌, suc, ◌<◌, Bool, true, false, Option, None, Some}
use Rattle.std.proofs.Common.{List, [], ◌∷◌, length, map, get_or, refl, sym, ap, ◌∙◌, subst, arith}
use Rattle.std.proofs.Common.{true≢false, Contains, inl, inr, ◌||◌}
use Rattle.std.specs.Prelude.{◌⊎◌, if◌then◌else◌}
use Rattle.std.specs.List.{AllByRecursion, IsDistinct, list_any}
use Rattle.std.proofs.lemmas.List.Elements.{recursion_from_All}
use Rattle.cal_agg.specs.declared.row.AggRow.{AggRow}
use Rattle.cal_context.specs.Lists.{AreApart}
use Rattle.cal_profile.proofs.Lists.{Contains-cases, Contains-map, Contains-nil, all_weaker}
use Rattle.cal_profile.proofs.Lists.{holds_of}
use Rattle.cal_snap.specs.declared.numbered.NumberedSnap.{NumberedSnap}
use Rattle.cal_table.specs.Rows.{Row, both_held, rows_of, tally}
use Rattle.cal_table.specs.Snapshots.{held_over, some_held}
use Rattle.cal_table.specs.declared.key.TableKey.{TableKey}
use Rattle.cal_table.specs.declared.shape.TableShape.{TableShape}
use Rattle.cal_table_rows.proofs.Keys.{same_key, same_key-decides}

-- ---- keys that are apart

same_turned : (k l : TableKey) → same_key k l ≡ false → same_key l k ≡ false
same_turned k l other = by (same_key l k) refl
  where
    by : (b : Bool) → same_key l k ≡ b → same_key l k ≡ false
    by false is = is
    by true is = absurd (true≢false
        (sym ((same_key-decides k l).1 (sym ((same_key-decides l k).0 is))) ∙ other))

pub keys_apart : (keys : List TableKey) → AreApart keys → IsDistinct same_key keys
unfolding IsDistinct
keys_apart [] once = tt
keys_apart (k ∷ keys) once = (
  recursion_from_All (λ l. same_key k l ≡ false) keys (λ i d within.
      differs (get_or keys i d) (same_key k (get_or keys i d)) refl (λ is.
      let places = once 0 (suc i) d (omega arith) (omega arith) is in omega (arith, places))),
  keys_apart keys (λ i j d one other is.
      let places = once (suc i) (suc j) d (omega arith) (omega arith) is in omega (arith, places)),
)
  where
    differs : (l : TableKey) (b : Bool) → same_key k l ≡ b → (k ≡ l → ⊥) → same_key k l ≡ false
    differs l false is apart = is
    differs l true is apart = absurd (apart ((same_key-decides k l).0 is))

-- ---- rows by their keys

abbrev pub keys_of : List Row → List TableKey
keys_of rows = map (λ (row : Row). row.key) rows

pub keys_back : (keys : List TableKey) (held : List AggRow) → length keys ≡ length held
    → keys_of (rows_of keys held) ≡ keys
keys_back [] held long = refl
keys_back (k ∷ keys) [] long = absurd (omega arith)
keys_back (k ∷ keys) (h ∷ held) long = ap (λ l. k ∷ l) (keys_back keys held (omega arith))

-- what a row adds, by whether its key is asked for
abbrev added : Bool → Row → Option AggRow → Option AggRow
added b row rest = both_held (if b then Some row.held else None) rest

none_held : (asked : TableKey → Bool) (rows : List Row)
    → AllByRecursion (λ k. asked k ≡ false) (keys_of rows) → tally asked rows ≡ None
none_held asked [] all = refl
none_held asked (row ∷ rows) all =
    ap (λ b. added b row (tally asked rows)) all.0 ∙ none_held asked rows all.1

-- asked for the key of a row, the rows hold what it holds
pub own_row : (rows : List Row) → IsDistinct same_key (keys_of rows) → (row : Row)
    → Contains rows row → tally (λ k. same_key k row.key) rows ≡ Some row.held
unfolding IsDistinct
own_row [] once row there = absurd (Contains-nil row there)
own_row (first ∷ rows) once row there =
    by (Contains-cases row first rows there) (own_row rows once.1 row)
  where
    here : tally (λ k. same_key k first.key) (first ∷ rows) ≡ Some first.held
    here =
        ap (λ b. added b first (tally (λ k. same_key k first.key) rows))
        ((same_key-decides first.key first.key).1 refl)
        ∙ ap (both_held (Some first.held)) (none_held (λ k. same_key k first.key) rows
        (all_weaker (λ k. same_key first.key k ≡ false) (λ k. same_key k first.key ≡ false)
        (λ k other. same_turned first.key k other) (keys_of rows) once.0))

    by : (first ≡ row) ⊎ Contains rows row
        → (Contains rows row → tally (λ k. same_key k row.key) rows ≡ Some row.held)
        → tally (λ k. same_key k row.key) (first ∷ rows) ≡ Some row.held
    by (inl is) more = subst
        (λ (r : Row). tally (λ k. same_key k r.key) (first ∷ rows) ≡ Some r.held) is here
    by (inr behind) more =
        ap (λ b. added b first (tally (λ k. same_key k row.key) rows))
        (holds_of (λ k. same_key first.key k ≡ false) (keys_of rows) row.key once.0
        (Contains-map (λ (r : Row). r.key) rows row behind))
        ∙ more behind

-- where the rows hold something, the key of one is asked for
pub found_row : (asked : TableKey → Bool) (rows : List Row) (held : AggRow)
    → tally asked rows ≡ Some held → list_any asked (keys_of rows) ≡ true
found_row asked [] held is = absurd cc
found_row asked (row ∷ rows) held is = by (asked row.key) refl (found_row asked rows held)
  where
    by : (b : Bool) → asked row.key ≡ b
        → (tally asked rows ≡ Some held → list_any asked (keys_of rows) ≡ true)
        → list_any asked (keys_of (row ∷ rows)) ≡ true
    by true e more = ap (λ b. b || list_any asked (keys_of rows)) e
    by false e more = ap (λ b. b || list_any asked (keys_of rows)) e
        ∙ more (sym (ap (λ b. added b row (tally asked rows)) e) ∙ is)

-- ---- what snapshots come to

-- what some snapshots come to
pub record ComeTo (shape : TableShape) (snaps : List NumberedSnap) (held : AggRow) : Type 0 where
  pub some : 0 < length snaps
  pub all : held ≡ held_over shape snaps

pub come_to : (shape : TableShape) (snaps : List NumberedSnap) (held : AggRow)
    → some_held shape snaps ≡ Some held → ComeTo shape snaps held
come_to shape [] held is = absurd cc
come_to shape (s ∷ snaps) held is = record { some = omega arith; all = cc }

pub some_come : (shape : TableShape) (snaps : List NumberedSnap) → 0 < length snaps
    → some_held shape snaps ≡ Some (held_over shape snaps)
some_come shape [] some = absurd (omega arith)
some_come shape (s ∷ snaps) some = refl
