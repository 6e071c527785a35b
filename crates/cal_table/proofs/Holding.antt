-- Rows stay within their bounds while they are merged.
use Rattle.std.proofs.Common.{◌≡◌, ℕ, ◌+◌, ◌<◌, ◌≤◌, ◌^◌, Some, List, [], ◌∷◌, ◌++◌, length, length-append, length-set, set, get_or, slice_get, sym, ap, ◌∙◌, refl, subst, arith}
use Rattle.std.specs.Prelude.{sum_by, unsigned_abs, ◌+ℤ◌}
use Rattle.std.specs.List.{All}
use Rattle.std.proofs.lemmas.List.Elements.{All-get_or, All-push, All-set}
use Rattle.std.proofs.lemmas.Option.{slice_get_within}
use Rattle.std.proofs.lemmas.List.Sums.{get_or-le-sum_by, sum_by_push, sum_by-set}
use Rattle.cal_agg.specs.RowLimits.{RowIsWithin, RowIsWithin-merged, RowIsWithin-room}
use Rattle.cal_agg.specs.Rows.{RowHasRoom, merged_cells, merged_row}
use Rattle.cal_agg.specs.declared.cell.Cell.{Cell}
use Rattle.cal_agg.specs.declared.row.AggRow.{AggRow}
use Rattle.cal_table.specs.declared.key.TableKey.{TableKey}
use Rattle.cal_table.specs.Held.{AreHeld, IsHeld, MayPour, MayPut, Pours, Puts, size}
use Rattle.cal_table.proofs.Tallies.{tally-push, tally-set}

length-merged_cells : (cs ds : List Cell) → length cs ≡ length ds → length (merged_cells cs ds) ≡ length cs
length-merged_cells [] ds e = refl
length-merged_cells (c ∷ cs) [] e = absurd (omega arith)
length-merged_cells (c ∷ cs) (d ∷ ds) e = let rest = length-merged_cells cs ds (omega arith) in omega arith

-- a merged row counts the snapshots of both
pub size-merged_row : (cells : ℕ) (a b : AggRow) → IsHeld cells a → IsHeld cells b → size (merged_row a b) ≡ size a + size b
size-merged_row cells a b h k =
    let one = h.within.count in
    let other = k.within.count in
    (λ i. unsigned_abs (one i +ℤ other i))

pub IsHeld-merged_row : (cells : ℕ) (a b : AggRow) → IsHeld cells a → IsHeld cells b → IsHeld cells (merged_row a b)
IsHeld-merged_row cells a b h k = record {
  within = subst (λ (n : ℕ). RowIsWithin n (merged_row a b)) (sym (size-merged_row cells a b h k)) (RowIsWithin-merged (size a) (size b) a b h.within k.within);
  long = length-merged_cells a.cells b.cells (h.long ∙ sym k.long) ∙ h.long;
}

pub has_room : (cells : ℕ) (row : AggRow) → IsHeld cells row → size row ≤ 2 ^ 62 → RowHasRoom row
has_room cells row h few = RowIsWithin-room (size row) row few h.within

-- a row counts no more than all together
pub size-le : (rows : List AggRow) (i : ℕ) (d : AggRow) → i < length rows → size (get_or rows i d) ≤ sum_by size rows
size-le rows i d h = get_or-le-sum_by size rows i d h

-- a row was put behind the last one
pub Puts-push : (keys : List TableKey) (rows : List AggRow) (key : TableKey) (row : AggRow) → length keys ≡ length rows → Puts keys rows key row (keys ++ key ∷ []) (rows ++ row ∷ [])
Puts-push keys rows key row long = record {
  long = length-append keys (key ∷ []) ∙ ap (λ n. n + 1) long ∙ sym (length-append rows (row ∷ []));
  each = λ cells each held. All-push (IsHeld cells) rows row each held;
  total = sum_by_push size rows row;
  tally = tally-push keys rows key row long;
}

-- a row was merged into the one of its key
pub Puts-set : (cells : ℕ) (keys : List TableKey) (rows : List AggRow) (i : ℕ) (key : TableKey) (held row d : AggRow) → All (IsHeld cells) rows → IsHeld cells row → length keys ≡ length rows → i < length rows → slice_get keys i ≡ Some key → held ≡ get_or rows i d → Puts keys rows key row keys (set rows i (merged_row held row))
Puts-set cells keys rows i key held row d each is_held long within at is = record {
  long = long ∙ sym (length-set rows i (merged_row held row));
  each = λ cells each is_held. All-set (IsHeld cells) rows i (merged_row held row) (IsHeld-merged_row cells held row (subst (IsHeld cells) (sym is) (All-get_or (IsHeld cells) rows i d within each)) is_held) each;
  total =
      let one = sum_by-set size rows i (merged_row held row) d within in
      let sum = size-merged_row cells held row (subst (IsHeld cells) (sym is) (All-get_or (IsHeld cells) rows i d within each)) is_held in
      let same = ap size is in
      omega arith;
  tally = tally-set keys rows i key held row d within at is;
}

-- what a table keeps lets rows be put to its own, and stays
pub MayPut-held : (cells snapshots : ℕ) (keys : List TableKey) (rows : List AggRow) (row : AggRow) → AreHeld cells snapshots keys rows → IsHeld cells row → snapshots + size row ≤ 2 ^ 26 → MayPut keys rows row
MayPut-held cells snapshots keys rows row h held few =
    let total = h.total in record { cells = cells; long = h.long; each = h.each; held = held; few = omega arith }

pub AreHeld-put : (cells snapshots : ℕ) (keys : List TableKey) (rows : List AggRow) (key : TableKey) (row : AggRow) (new_keys : List TableKey) (new_rows : List AggRow) → AreHeld cells snapshots keys rows → IsHeld cells row → Puts keys rows key row new_keys new_rows → AreHeld cells (snapshots + size row) new_keys new_rows
AreHeld-put cells snapshots keys rows key row new_keys new_rows h held p = record {
  long = p.long;
  each = p.each cells h.each held;
  total = p.total ∙ ap (λ n. n + size row) h.total;
}

pub MayPour-held : (cells snapshots more : ℕ) (keys : List TableKey) (rows : List AggRow) (more_keys : List TableKey) (more_rows : List AggRow) → AreHeld cells snapshots keys rows → AreHeld cells more more_keys more_rows → snapshots + more ≤ 2 ^ 26 → MayPour keys rows more_keys more_rows
MayPour-held cells snapshots more keys rows more_keys more_rows h k few =
    let total = h.total in let more_total = k.total in record {
      cells = cells;
      long = h.long;
      more_long = k.long;
      each = h.each;
      more_each = k.each;
      few = omega arith;
    }

pub AreHeld-pour : (cells snapshots more : ℕ) (keys : List TableKey) (rows : List AggRow) (more_keys : List TableKey) (more_rows : List AggRow) (new_keys : List TableKey) (new_rows : List AggRow) → AreHeld cells snapshots keys rows → AreHeld cells more more_keys more_rows → Pours keys rows more_keys more_rows new_keys new_rows → AreHeld cells (snapshots + more) new_keys new_rows
AreHeld-pour cells snapshots more keys rows more_keys more_rows new_keys new_rows h k p = record {
  long = p.long;
  each = p.each cells h.each k.each;
  total = p.total ∙ (λ i. h.total i + k.total i);
}

-- where a row may be put, it may be merged into each
pub fits : (keys : List TableKey) (rows : List AggRow) (row : AggRow) (i : ℕ) (held d : AggRow) → MayPut keys rows row → i < length rows → held ≡ get_or rows i d → (length row.cells ≡ length held.cells) × RowHasRoom (merged_row held row)
fits keys rows row i held d may within is =
    let old : IsHeld may.cells held = subst (IsHeld may.cells) (sym is) (All-get_or (IsHeld may.cells) rows i d within may.each) in
    let sum = size-merged_row may.cells held row old may.held in
    let most = size-le rows i d within in
    let same = ap size is in
    let few = may.few in (
      may.held.long ∙ sym old.long,
      has_room may.cells (merged_row held row) (IsHeld-merged_row may.cells held row old may.held) (omega arith),
    )

-- a row was merged into the one of its key, by what is known where that is done
pub Puts-merged : (keys : List TableKey) (rows : List AggRow) (key : TableKey) (row : AggRow) (i : ℕ) (held d now : AggRow) (new_keys : List TableKey) → MayPut keys rows row → new_keys ≡ keys → slice_get keys i ≡ Some key → held ≡ get_or rows i d → now ≡ merged_row held row → Puts keys rows key row new_keys (set rows i now)
Puts-merged keys rows key row i held d now new_keys may same at is merged =
    let in_keys = slice_get_within keys i key at in
    let long = may.long in
    let within : i < length rows = omega arith in
    subst (λ (z : List TableKey × AggRow). Puts keys rows key row z.0 (set rows i z.1)) (λ j. (sym same j, sym merged j)) (Puts-set may.cells keys rows i key held row d may.each may.held long within at is)
