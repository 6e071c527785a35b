-- What rows hold together, where one is added or changed.
use Rattle.std.proofs.Common.{◌≡◌, ℕ, zero, suc, ◌<◌, Bool, true, false, Option, None, Some, List, [], ◌∷◌, ◌++◌, length, set, get_or, slice_get, sym, refl, ap, ◌∙◌, subst, arith}
use Rattle.std.specs.Prelude.{if◌then◌else◌}
use Rattle.cal_agg.specs.Rows.{merged_row}
use Rattle.cal_agg.specs.RowLaws.{merged_row-comm, merged_row-assoc}
use Rattle.cal_agg.specs.declared.row.AggRow.{AggRow}
use Rattle.cal_table.specs.declared.key.TableKey.{TableKey}
use Rattle.cal_table.specs.Rows.{Row, both_held, held_at, rows_of, tally}
use Rattle.cal_table.specs.TableLaws.{both_held-none, both_held-comm, both_held-assoc, tally-append}

rows_of-push : (keys : List TableKey) (rows : List AggRow) (key : TableKey) (row : AggRow) → length keys ≡ length rows → rows_of (keys ++ key ∷ []) (rows ++ row ∷ []) ≡ rows_of keys rows ++ record { key = key; held = row } ∷ []
rows_of-push [] [] key row e = refl
rows_of-push [] (r ∷ rows) key row e = absurd (omega arith)
rows_of-push (k ∷ keys) [] key row e = absurd (omega arith)
rows_of-push (k ∷ keys) (r ∷ rows) key row e = ap (λ (l : List Row). record { key = k; held = r } ∷ l) (rows_of-push keys rows key row (omega arith))

-- a row behind the last one
pub tally-push : (keys : List TableKey) (rows : List AggRow) (key : TableKey) (row : AggRow) → length keys ≡ length rows → (asked : TableKey → Bool) → tally asked (rows_of (keys ++ key ∷ []) (rows ++ row ∷ [])) ≡ both_held (tally asked (rows_of keys rows)) (held_at asked (record { key = key; held = row }))
tally-push keys rows key row e asked =
    ap (tally asked) (rows_of-push keys rows key row e) ∙ tally-append asked (rows_of keys rows) (record { key = key; held = row } ∷ []) ∙ ap (both_held (tally asked (rows_of keys rows))) (both_held-none (held_at asked (record { key = key; held = row })))

more_here : (b : Bool) (held row : AggRow) (rest : Option AggRow) → both_held (if b then Some (merged_row held row) else None) rest ≡ both_held (both_held (if b then Some held else None) rest) (if b then Some row else None)
more_here true held row None = refl
more_here true held row (Some r) = ap Some (merged_row-assoc held row r ∙ ap (merged_row held) (merged_row-comm row r) ∙ sym (merged_row-assoc held r row))
more_here false held row rest = sym (both_held-none rest)

-- a row merged into the one of its key
pub tally-set : (keys : List TableKey) (rows : List AggRow) (i : ℕ) (key : TableKey) (held row d : AggRow) → i < length rows → slice_get keys i ≡ Some key → held ≡ get_or rows i d → (asked : TableKey → Bool) → tally asked (rows_of keys (set rows i (merged_row held row))) ≡ both_held (tally asked (rows_of keys rows)) (held_at asked (record { key = key; held = row }))
tally-set [] rows i key held row d h at is asked = absurd cc
tally-set (k ∷ keys) [] i key held row d h at is asked = absurd (omega arith)
tally-set (k ∷ keys) (r ∷ rows) zero key held row d h at is asked =
    let same : k ≡ key = cc in
    subst (λ (z : TableKey × AggRow). both_held (if asked k then Some (merged_row z.1 row) else None) (tally asked (rows_of keys rows)) ≡ both_held (both_held (if asked k then Some r else None) (tally asked (rows_of keys rows))) (if asked z.0 then Some row else None)) (λ j. (same j, sym is j)) (more_here (asked k) r row (tally asked (rows_of keys rows)))
tally-set (k ∷ keys) (r ∷ rows) (suc i) key held row d h at is asked =
    ap (both_held (held_at asked (record { key = k; held = r }))) (tally-set keys rows i key held row d (omega arith) at is asked) ∙ sym (both_held-assoc (held_at asked (record { key = k; held = r })) (tally asked (rows_of keys rows)) (held_at asked (record { key = key; held = row })))

-- one row more here, and one fewer there
pub poured_more : (a xs ys now one : Option AggRow) → now ≡ both_held a one → ys ≡ both_held xs one → both_held now xs ≡ both_held a ys
poured_more a xs ys now one e f = ap (λ z. both_held z xs) e ∙ both_held-assoc a one xs ∙ ap (both_held a) (both_held-comm one xs ∙ sym f)
