-- Lines of texts in columns, which the table and the tree share (Giltmoth's layouts).
use Rattle.std.specs.Prelude.{ℕ, suc, ◌-◌, ◌==◌, Bool, List, [], ◌∷◌, ◌++◌, map, max, replicate}
use Rattle.std.specs.Prelude.{slice_index_or, if◌then◌else◌}
use Rattle.std.specs.List.{count_by, flat_map, join_with_byte}
use Rattle.std.specs.Fmt.{is_char_start}
use Rattle.cal_tabfmt.specs.declared.shape.Shape.{Shape}

-- a text as a line shows it: a newline is a backslash and `n`
abbrev pub on_line : List ℕ → List ℕ
on_line [] = []
on_line (b ∷ bs) = (if b == 10 then 92 ∷ 110 ∷ [] else b ∷ []) ++ on_line bs

-- how many characters a text has
abbrev pub width : List ℕ → ℕ
width text = count_by is_char_start text

abbrev pub widest : List (List ℕ) → ℕ
widest [] = 0
widest (text ∷ texts) = max (width text) (widest texts)

-- the text of a line in its k-th column
abbrev pub nth_text : List (List ℕ) → ℕ → List ℕ
nth_text line k = slice_index_or line k []

-- the k-th column is as wide as its widest text
abbrev pub shape : List (List (List ℕ)) → ℕ → Bool → Shape
shape lines k right = record {
  width = widest (map (λ line. nth_text line k) lines);
  right = right;
}

-- the columns from the k-th on, by whether each is right-aligned
abbrev pub shapes : List (List (List ℕ)) → ℕ → List Bool → List Shape
shapes lines k [] = []
shapes lines k (right ∷ rights) = shape lines k right ∷ shapes lines (suc k) rights

abbrev pub spaces : ℕ → List ℕ
spaces n = replicate n 32

-- a text in its column, at the right end or the left one
abbrev pub placed : Shape → List ℕ → List ℕ
placed shape text =
    let room = spaces (shape.width - width text) in
    if shape.right then room ++ text else text ++ room

-- each text in its column
abbrev pub placed_texts : List Shape → List (List ℕ) → List (List ℕ)
placed_texts shapes [] = []
placed_texts [] (text ∷ texts) = []
placed_texts (shape ∷ shapes) (text ∷ texts) = placed shape text ∷ placed_texts shapes texts

-- a byte before what is kept of the rest: a space is kept only where something behind it is
abbrev pub before_kept : ℕ → List ℕ → List ℕ
before_kept b [] = if b == 32 then [] else b ∷ []
before_kept b (c ∷ cs) = b ∷ c ∷ cs

-- a text without the spaces at its end
abbrev pub without_end : List ℕ → List ℕ
without_end [] = []
without_end (b ∷ bs) = before_kept b (without_end bs)

-- the texts of a line, each in its column, with a space between them, and no space at the end
abbrev pub grid_line : List Shape → List (List ℕ) → List ℕ
grid_line shapes texts = without_end (join_with_byte 32 (placed_texts shapes texts)) ++ 10 ∷ []

-- Lines of texts in columns. Each column is right-aligned or left-aligned, and as wide as its
-- widest text.
abbrev pub grid : List Bool → List (List (List ℕ)) → List ℕ
grid rights lines = flat_map (grid_line (shapes lines 0 rights)) lines
