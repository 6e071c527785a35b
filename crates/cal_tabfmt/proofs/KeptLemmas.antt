-- Texts that are kept one behind another: one more, and one read.
use Rattle.std.proofs.Common.{◌≡◌, ℕ, suc, ◌+◌, ◌-◌, ◌<◌, List, [], ◌∷◌, ◌++◌, length, get_or, take, drop, flat_map, sym, ap, ap₂, subst, ◌∙◌, append_assoc, append-nil, length-append, length-drop, arith}
use Rattle.std.specs.List.{All, concat}
use Rattle.std.specs.Str.{IsUtf8, IsCharBoundary}
use Rattle.std.proofs.Math.Seq.{drop-append_seam, take-append_seam}
use Rattle.std.proofs.lemmas.Grind.{flat_map-append}
use Rattle.std.proofs.lemmas.List.{get_or-map, drop_more, length-map, take_more}
use Rattle.std.proofs.lemmas.List.Elements.{All-push}
use Rattle.std.proofs.lemmas.List.Folds.{concat-append}
use Rattle.std.proofs.lemmas.Str.{IsUtf8-append, IsUtf8-nil, IsCharBoundary-at_seam}
use Rattle.cal_value.specs.declared.record.Rec.{Rec}
use Rattle.cal_rowset.specs.Answers.{nth_row}
use Rattle.cal_rowset.specs.Showing.{nth_column}
use Rattle.cal_rowset.specs.declared.rowset.Column.{Column}
use Rattle.cal_tabfmt.specs.Kept.{AreLeft, Keeps, ends_from}
use Rattle.cal_tabfmt.specs.Table.{cell_text, row_line}
use Rattle.cal_tabfmt.specs.declared.kept.KeptTexts.{KeptTexts}
use Rattle.cal_tabfmt.specs.declared.kept.Mark.{Mark}

-- a text more behind others
concat-push : (texts : List (List ℕ)) (text : List ℕ) → concat (texts ++ text ∷ []) ≡ concat texts ++ text
concat-push texts text = concat-append texts (text ∷ []) ∙ ap (λ (last : List ℕ). concat texts ++ last) (append-nil text)

ends-push : (start : ℕ) (texts : List (List ℕ)) (text : List ℕ) (end : ℕ) → end ≡ start + length (concat texts ++ text) → ends_from start (texts ++ text ∷ []) ≡ ends_from start texts ++ end ∷ []
ends-push start [] text end is = ap (λ (n : ℕ). n ∷ []) (sym is)
ends-push start (t ∷ texts) text end is =
    let same : end ≡ (start + length t) + length (concat texts ++ text) =
    omega (arith, is, length-append t (concat texts ++ text), ap length (append_assoc t (concat texts) text)) in
    ap (λ (rest : List ℕ). (start + length t) ∷ rest) (ends-push (start + length t) texts text end same)

pub Keeps-push : (old new : KeptTexts) (texts : List (List ℕ)) (text : List ℕ) → Keeps old texts → IsUtf8 text → new.all ≡ old.all ++ text → new.ends.items ≡ old.ends.items ++ length new.all ∷ [] → Keeps new (texts ++ text ∷ [])
Keeps-push old new texts text kept utf8 all ends =
    let whole : new.all ≡ concat texts ++ text = all ∙ ap (λ (t : List ℕ). t ++ text) kept.all in
    record {
      all = whole ∙ sym (concat-push texts text);
      ends = ends
          ∙ ap (λ (es : List ℕ). es ++ length new.all ∷ []) kept.ends
          ∙ sym (ends-push 0 texts text (length new.all) (omega (arith, ap length whole)));
      utf8 = All-push IsUtf8 texts text kept.utf8 utf8;
    }

-- all are left at the first mark
pub AreLeft-first : (kept : KeptTexts) (mark : Mark) (texts : List (List ℕ)) → mark.place ≡ 0 → mark.start ≡ 0 → Keeps kept texts → AreLeft kept mark texts
AreLeft-first kept mark texts place start keeps = record {
  front = [];
  start = start;
  all = keeps.all;
  ends = ap (λ (n : ℕ). drop n kept.ends.items) place ∙ keeps.ends;
  utf8 = keeps.utf8;
}

-- what is behind a front begins there
pub front-of-drop : (xs : List ℕ) (n y : ℕ) (ys : List ℕ) (d : ℕ) → drop n xs ≡ y ∷ ys → (n < length xs) × (get_or xs n d ≡ y) × (drop (n + 1) xs ≡ ys)
front-of-drop xs n y ys d is =
    let within : n < length xs = omega (arith, ap length is, length-drop n xs) in
    let same = sym (drop_more xs n d within) ∙ is in
    (within, ap (λ (rest : List ℕ). get_or rest 0 d) same, ap (drop 1) same)

pub All-rest : (text : List ℕ) (texts : List (List ℕ)) → All IsUtf8 (text ∷ texts) → All IsUtf8 texts
All-rest text texts utf8 = λ k d l. utf8 (suc k) d (omega (arith, l))

-- characters one behind another
pub concat-utf8 : (texts : List (List ℕ)) → All IsUtf8 texts → IsUtf8 (concat texts)
concat-utf8 [] utf8 = IsUtf8-nil
concat-utf8 (text ∷ texts) utf8 = IsUtf8-append text (concat texts) (utf8 0 [] (omega arith)) (concat-utf8 texts (All-rest text texts utf8))

-- behind the first of them the others are left
pub AreLeft-behind : (kept : KeptTexts) (mark next : Mark) (text : List ℕ) (texts : List (List ℕ)) → AreLeft kept mark (text ∷ texts)
    → next.place ≡ mark.place + 1 → next.start ≡ get_or kept.ends.items mark.place 0 → AreLeft kept next texts
AreLeft-behind kept mark next text texts left place start =
    let at = front-of-drop kept.ends.items mark.place _ _ 0 left.ends in
    let end : length (left.front ++ text) ≡ length left.front + length text = length-append left.front text in
    record {
      front = left.front ++ text;
      start = start ∙ at.1 ∙ sym end;
      all = left.all ∙ sym (append_assoc left.front text (concat texts));
      ends = ap (λ (n : ℕ). drop n kept.ends.items) place ∙ at.2 ∙ ap (λ (n : ℕ). ends_from n texts) (sym end);
      utf8 = All-rest text texts left.utf8;
    }

pub boundary_behind : (text front part rest : List ℕ) (end : ℕ) → text ≡ front ++ (part ++ rest) → end ≡ length front + length part → IsUtf8 rest → IsCharBoundary text end
boundary_behind text front part rest end is counted utf8 =
    subst (λ (n : ℕ). IsCharBoundary text n) (length-append front part ∙ sym counted)
    (IsCharBoundary-at_seam text (front ++ part) rest (is ∙ sym (append_assoc front part rest)) utf8)

-- the cell of one column more
pub row_line-more : (row : Rec) (columns : List Column) (k : ℕ) → k < length columns → take (k + 1) (row_line columns row) ≡ take k (row_line columns row) ++ cell_text row (nth_column columns k) ∷ []
row_line-more row columns k within =
    take_more (row_line columns row) k [] (omega (arith, within, length-map columns (cell_text row)))
    ∙ ap (λ (t : List ℕ). take k (row_line columns row) ++ t ∷ []) (get_or-map (cell_text row) columns k (record { header = []; name = [] }) [] within)

-- the cells of one row more
pub row_lines-more : (columns : List Column) (rows : List Rec) (k : ℕ) → k < length rows
    → flat_map (row_line columns) (take (k + 1) rows) ≡ flat_map (row_line columns) (take k rows) ++ row_line columns (nth_row rows k)
row_lines-more columns rows k within =
    ap (flat_map (row_line columns)) (take_more rows k _ within)
    ∙ flat_map-append (row_line columns) (take k rows) (nth_row rows k ∷ [])
    ∙ ap (λ (last : List (List ℕ)). flat_map (row_line columns) (take k rows) ++ last) (append-nil (row_line columns (nth_row rows k)))
