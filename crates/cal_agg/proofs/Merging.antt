-- Merging cells place by place, from the front.
use Rattle.std.proofs.Common.{◌≡◌, ℕ, zero, suc, ◌+◌, ◌<◌, List, [], ◌∷◌, length, Some}
use Rattle.std.proofs.Common.{refl, sym, ◌∙◌, ap, arith, add-one, slice_set, slice_index_or}
use Rattle.std.specs.List.{slice_get, All, AllByRecursion}
use Rattle.std.proofs.lemmas.List.Elements.{recursion_from_All}
use Rattle.std.proofs.lemmas.Option.{slice_get_read}
use Rattle.cal_agg.specs.declared.cell.Cell.{Cell}
use Rattle.cal_agg.specs.Rows.{CellHasRoom, merged_cell, merged_cells}

-- the first cells merged, and the others as they were
abbrev pub merged_front : ℕ → List Cell → List Cell → List Cell
merged_front zero cells others = cells
merged_front (suc n) [] others = []
merged_front (suc n) (cell ∷ cells) [] = cell ∷ cells
merged_front (suc n) (cell ∷ cells) (other ∷ others) =
    merged_cell cell other ∷ merged_front n cells others

pub length-merged_front : (n : ℕ) (cells others : List Cell)
    → length (merged_front n cells others) ≡ length cells
length-merged_front zero cells others = refl
length-merged_front (suc n) [] others = refl
length-merged_front (suc n) (cell ∷ cells) [] = refl
length-merged_front (suc n) (cell ∷ cells) (other ∷ others) =
    ap suc (length-merged_front n cells others)

-- the next cell is as it was
merged_front_next : (n : ℕ) (cells others : List Cell)
    → slice_get (merged_front n cells others) n ≡ slice_get cells n
merged_front_next zero cells others = refl
merged_front_next (suc n) [] others = refl
merged_front_next (suc n) (cell ∷ cells) [] = refl
merged_front_next (suc n) (cell ∷ cells) (other ∷ others) = merged_front_next n cells others

-- a cell that was read by its place
pub cell_read : (n : ℕ) (cells slice : List Cell) (read : Cell)
    → n < length cells → slice ≡ cells → read ≡ slice_index_or slice n read
    → slice_get cells n ≡ Some read
cell_read n cells slice read short e h =
    slice_get_read cells (length cells) n read refl short
    (h ∙ ap (λ xs. slice_index_or xs n read) e)

-- so it is what was read there
pub cell_next : (n : ℕ) (cells others now : List Cell) (read : Cell) → n < length cells
    → now ≡ merged_front n cells others → read ≡ slice_index_or now n read
    → slice_get cells n ≡ Some (slice_index_or now n read)
cell_next n cells others now read short e h =
    let long : length now ≡ length cells = ap length e ∙ length-merged_front n cells others in
    sym (merged_front_next n cells others) ∙ sym (ap (λ xs. slice_get xs n) e)
    ∙ cell_read n now now read (omega arith) refl h ∙ ap Some h

-- the cells at one place of both lists
pub record AreAt (n : ℕ) (cells others : List Cell) (c d : Cell) : Type 0 where
  pub one : slice_get cells n ≡ Some c
  pub other : slice_get others n ≡ Some d

merged_front_step : (n : ℕ) (cells others : List Cell) (c d : Cell) → AreAt n cells others c d
    → slice_set (merged_front n cells others) n (merged_cell c d) ≡ merged_front (suc n) cells others
merged_front_step n [] others c d at = cc (at.one)
merged_front_step n (cell ∷ cells) [] c d at = cc (at.other)
merged_front_step zero (cell ∷ cells) (other ∷ others) c d at =
    let one : c ≡ cell = cc (at.one) in
    let two : d ≡ other = cc (at.other) in
    λ i. merged_cell (one i) (two i) ∷ cells
merged_front_step (suc n) (cell ∷ cells) (other ∷ others) c d at =
    ap (λ rest. merged_cell cell other ∷ rest)
    (merged_front_step n cells others c d (record { one = at.one; other = at.other }))

-- one more is merged
pub merged_front_more : (n : ℕ) (cells others : List Cell) (c d : Cell) → AreAt n cells others c d
    → slice_set (merged_front n cells others) n (merged_cell c d) ≡ merged_front (n + 1) cells others
merged_front_more n cells others c d at = rw add-one (merged_front_step n cells others c d at)

-- all are merged
pub merged_front_all : (cells others : List Cell) → length others ≡ length cells
    → merged_front (length others) cells others ≡ merged_cells cells others
merged_front_all [] [] e = refl
merged_front_all [] (other ∷ others) e = absurd (omega arith)
merged_front_all (cell ∷ cells) [] e = absurd (omega arith)
merged_front_all (cell ∷ cells) (other ∷ others) e =
    ap (λ rest. merged_cell cell other ∷ rest) (merged_front_all cells others (omega arith))

-- there is room for each cell that is merged
room_of : (n : ℕ) (cells others : List Cell) (c d : Cell) → AreAt n cells others c d
    → AllByRecursion CellHasRoom (merged_cells cells others) → CellHasRoom (merged_cell c d)
room_of n [] others c d at room = cc (at.one)
room_of n (cell ∷ cells) [] c d at room = cc (at.other)
room_of zero (cell ∷ cells) (other ∷ others) c d at room =
    let one : c ≡ cell = cc (at.one) in
    let two : d ≡ other = cc (at.other) in
    rw (one, two) room.0
room_of (suc n) (cell ∷ cells) (other ∷ others) c d at room =
    room_of n cells others c d (record { one = at.one; other = at.other }) room.1

pub room_at : (n : ℕ) (cells others : List Cell) (c d : Cell) → AreAt n cells others c d
    → All CellHasRoom (merged_cells cells others) → CellHasRoom (merged_cell c d)
room_at n cells others c d at room =
    room_of n cells others c d at (recursion_from_All CellHasRoom _ room)
