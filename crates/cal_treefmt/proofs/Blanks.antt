-- What is the same beside each column.
use Rattle.std.proofs.Common.{◌≡◌, ℕ, ◌+◌, ◌<◌, List, [], ◌∷◌, ◌++◌, length, get_or, map, take, sym, ap, ◌∙◌, append_assoc}
use Rattle.std.proofs.lemmas.List.{map-append, take_more}
use Rattle.cal_rowset.specs.declared.rowset.Column.{Column}

-- one column more
pub blanks-more : {A : Type 0} (blank : A) (columns : List Column) (k : ℕ) (before old new : List A) → k < length columns → old ≡ before ++ map (λ _. blank) (take k columns)
    → new ≡ old ++ blank ∷ [] → new ≡ before ++ map (λ _. blank) (take (k + 1) columns)
blanks-more {A} blank columns k before old new within so_far added =
    let column : Column = record { header = []; name = [] } in
    let f : Column → A = λ _. blank in
    added ∙ ap (λ (front : List A). front ++ blank ∷ []) so_far ∙ append_assoc before (map f (take k columns)) (blank ∷ [])
    ∙ ap (λ (rest : List A). before ++ rest) (sym (map-append f (take k columns) (get_or columns k column ∷ [])) ∙ ap (map f) (sym (take_more columns k column within)))
