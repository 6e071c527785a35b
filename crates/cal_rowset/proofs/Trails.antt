-- Cells that can give up their last entries: with one more, and with one less.
use Rattle.std.proofs.Common.{◌≡◌, ℕ, ◌+◌, ◌-◌, ◌<◌, ◌≤◌, ◌⊎◌, inl, inr, zero, suc, List, [], ◌∷◌, ◌++◌, length, get_or, set, take, drop, map, reverse, Some, slice_get, refl, sym, ap, ◌∙◌, subst, arith, length-set}
use Rattle.std.specs.List.{join_with_byte}
use Rattle.std.specs.Str.{IsUtf8}
use Rattle.std.proofs.Math.Seq.{take-append_seam}
use Rattle.std.proofs.lemmas.List.{get_or_read, get_or-set_same, length_push, length-reverse, length-take-le, take_all, take_more, map-append, reverse-append, reverse-reverse, set-get_or}
use Rattle.std.proofs.lemmas.List.Elements.{All-nil}
use Rattle.std.proofs.lemmas.Option.{get_or_from_slice_get, slice_get_within}
use Rattle.cal_value.specs.Values.{value_text}
use Rattle.cal_value.specs.declared.attribute.Entry.{Entry}
use Rattle.cal_value.specs.declared.variant.Variant.{Variant}
use Rattle.cal_context.specs.Tree.{no_attribute, no_value}
use Rattle.cal_rowset.specs.Cells.{joined_texts, values_with}
use Rattle.cal_rowset.specs.Filling.{HoldsIn, Shows, is_nothing, nth_cell, no_cell, with_use}
use Rattle.cal_rowset.specs.declared.cell.Cell.{Cell}
use Rattle.cal_rowset.specs.declared.cells.Cells.{Cells}
use Rattle.cal_rowset.proofs.Filling.{Holds-added}
use Rattle.cal_rowset.proofs.Showing.{join-push}
use Rattle.cal_rowset.specs.Trails.{CanUndo, Filling, GoesBack, IsTrail, Leads, undone}
use Rattle.cal_rowset.specs.declared.step.Step.{Step}

-- what cells hold
abbrev pub filling : List Cell → List ℕ → List Entry → Filling
filling cells used entries = record { cells = cells; used = used; entries = entries }

-- a cell, noted before it takes a value
abbrev pub step_of : ℕ → Cell → Step
step_of place cell = record { place = place; length = length cell.text; content = cell.content }

-- ---- lists

set-set : {A : Type 0} (l : List A) (i : ℕ) (a b : A) → set (set l i a) i b ≡ set l i b
set-set [] i a b = refl
set-set (x ∷ l) zero a b = refl
set-set {A = A} (x ∷ l) (suc i) a b = ap (λ (rest : List A). x ∷ rest) (set-set l i a b)

without_last : {A : Type 0} (xs : List A) (x : A) → reverse (drop 1 (reverse (xs ++ x ∷ []))) ≡ xs
without_last {A = A} xs x = ap (λ (l : List A). reverse (drop 1 l)) (reverse-append xs (x ∷ [])) ∙ reverse-reverse xs

pub same_fronts : {A : Type 0} (xs ys : List A) (x y : A) → xs ++ x ∷ [] ≡ ys ++ y ∷ [] → xs ≡ ys
same_fronts {A = A} xs ys x y same = sym (without_last xs x) ∙ ap (λ (l : List A). reverse (drop 1 (reverse l))) same ∙ without_last ys y

-- ---- cells

-- the text of one value more begins with the text before
joined-front : (vs : List Variant) (v : Variant) → take (length (joined_texts vs)) (joined_texts (vs ++ v ∷ [])) ≡ joined_texts vs
joined-front [] v = refl
joined-front (w ∷ vs) v =
    ap (λ (texts : List (List ℕ)). take (length (joined_texts (w ∷ vs))) (join_with_byte 47 texts)) (map-append value_text (w ∷ vs) (v ∷ []))
    ∙ ap (take (length (joined_texts (w ∷ vs)))) (join-push 47 (value_text w) (map value_text vs) (value_text v))
    ∙ take-append_seam (joined_texts (w ∷ vs)) (47 ∷ value_text v)

-- a cell that took a value, undone
undone-pushed : (place : ℕ) (old new : Cell) (vs : List Variant) (v : Variant) → Shows old vs → Shows new (vs ++ v ∷ []) → undone (step_of place old) new ≡ old
undone-pushed place old new vs v was is = λ i. record { text = text i; content = old.content }
  where
    text : take (length old.text) new.text ≡ old.text
    text = ap (λ (t : List ℕ). take (length t) new.text) was.text ∙ ap (take (length (joined_texts vs))) is.text ∙ joined-front vs v ∙ sym was.text

-- ---- trails

pub GoesBack-holds : (names : List (List ℕ)) (steps : List Step) (f : Filling) → GoesBack names steps f → HoldsIn names f.cells f.used f.entries
GoesBack-holds names [] f back = back.0
GoesBack-holds names (step ∷ steps) f back = back.0

pub GoesBack-length : (names : List (List ℕ)) (steps : List Step) (f : Filling) → GoesBack names steps f → length steps ≡ length f.entries
GoesBack-length names [] f back = sym (ap length back.1)
GoesBack-length names (step ∷ steps) f (holds, old, leads, back) =
    omega (arith, GoesBack-length names steps old back, ap length leads.entries, length_push old.entries leads.entry)

-- one entry more
pub GoesBack-add : (names : List (List ℕ)) (cells : List Cell) (used : List ℕ) (es : List Entry) (steps : List Step) (place : ℕ) (e : Entry) (cell : Cell) → GoesBack names steps (filling cells used es)
    → slice_get names place ≡ Some e.attr.name → IsUtf8 (nth_cell cells place).text → ((vs : List Variant) → Shows (nth_cell cells place) vs → Shows cell (vs ++ e.value ∷ []))
    → GoesBack names (step_of place (nth_cell cells place) ∷ steps) (filling (set cells place cell) (with_use (is_nothing (nth_cell cells place).content) used place) (es ++ e ∷ []))
GoesBack-add names cells used es steps place e cell back at utf8 pushed = (Holds-added names cells used es holds place e cell at new (is_nothing old.content) refl, filling cells used es, leads, back)
  where
    old : Cell
    old = nth_cell cells place

    holds : HoldsIn names cells used es
    holds = GoesBack-holds names steps (filling cells used es) back

    here : place < length cells
    here = omega (arith, slice_get_within names place e.attr.name at, holds.counted)

    was : Shows old (values_with e.attr.name es)
    was = subst (λ (name : List ℕ). Shows old (values_with name es)) (get_or_from_slice_get names place e.attr.name [] at) (holds.shows place (slice_get_within names place e.attr.name at))

    new : Shows cell (values_with e.attr.name es ++ e.value ∷ [])
    new = pushed (values_with e.attr.name es) was

    this : nth_cell (set cells place cell) place ≡ cell
    this = get_or-set_same cells place cell no_cell here

    undone_here : undone (step_of place old) (nth_cell (set cells place cell) place) ≡ old
    undone_here = ap (undone (step_of place old)) this ∙ undone-pushed place old cell (values_with e.attr.name es) e.value was new

    leads : Leads (step_of place old) (filling cells used es) (filling (set cells place cell) (with_use (is_nothing old.content) used place) (es ++ e ∷ []))
    leads = record {
      within = omega (arith, here, length-set cells place cell);
      cells = sym (ap (set (set cells place cell) place) undone_here ∙ set-set cells place cell old ∙ set-get_or cells place no_cell);
      text = subst IsUtf8 (sym (ap (λ (c : Cell). c.text) undone_here)) utf8;
      used = refl;
      entry = e;
      entries = refl;
    }

-- one entry less
pub record Back (names : List (List ℕ)) (step : Step) (steps : List Step) (cells : List Cell) (used : List ℕ) (es : List Entry) : Type 0 where
  pub within : step.place < length cells
  pub text : CanUndo step (nth_cell cells step.place)
  pub less : List ℕ
  pub noted : used ≡ with_use (is_nothing step.content) less step.place
  pub back : GoesBack names steps (filling (set cells step.place (undone step (nth_cell cells step.place))) less es)

pub GoesBack-back : (names : List (List ℕ)) (step : Step) (steps : List Step) (cells : List Cell) (used : List ℕ) (es : List Entry) (e : Entry)
    → GoesBack names (step ∷ steps) (filling cells used (es ++ e ∷ [])) → Back names step steps cells used es
GoesBack-back names step steps cells used es e (holds, old, leads, back) = record {
  within = leads.within;
  text = leads.text;
  less = old.used;
  noted = leads.used;
  back = subst (GoesBack names steps) same back;
}
  where
    entries : old.entries ≡ es
    entries = sym (same_fronts es old.entries e leads.entry leads.entries)

    same : old ≡ filling (set cells step.place (undone step (nth_cell cells step.place))) old.used es
    same = λ i. record { cells = leads.cells i; used = old.used; entries = entries i }

-- no entry
pub GoesBack-start : (names : List (List ℕ)) (steps : List Step) (cells : List Cell) (used : List ℕ) → GoesBack names steps (filling cells used []) → steps ≡ []
GoesBack-start names [] cells used back = refl
GoesBack-start names (step ∷ steps) cells used (holds, old, leads, back) =
    absurd (omega (arith, ap length leads.entries, length_push old.entries leads.entry))

pub GoesBack-new : (names new : List (List ℕ)) (steps : List Step) (cells more : List Cell) (used : List ℕ) → GoesBack names steps (filling cells used [])
    → (HoldsIn names cells used [] → HoldsIn new more used []) → GoesBack new steps (filling more used [])
GoesBack-new names new steps cells more used back learned =
    subst (λ (s : List Step). GoesBack new s (filling more used [])) (sym (GoesBack-start names steps cells used back))
    (learned (GoesBack-holds names steps (filling cells used []) back), refl)

-- a trail that has taken an entry
module _ (old new : Cells) (es : List Entry) (e : Entry) (place : ℕ) (trail : IsTrail old es) (at : slice_get old.names place ≡ Some e.attr.name) where
  here : place < length old.cells.items
  here = omega (arith, slice_get_within old.names place e.attr.name at, (GoesBack-holds _ _ _ trail).counted)

  -- a cell that was read there
  there : (read : Cell) → read ≡ get_or old.cells.items place read → read ≡ nth_cell old.cells.items place
  there read is = get_or_read old.cells.items place read here is no_cell

  pub IsTrail-added : (step : Step) (noted read cell : Cell) → noted ≡ get_or old.cells.items place noted → step ≡ step_of place noted → IsUtf8 noted.text
      → read ≡ get_or old.cells.items place read → ((vs : List Variant) → Shows read vs → Shows cell (vs ++ e.value ∷ []))
      → new.names ≡ old.names → new.cells.items ≡ set old.cells.items place cell → new.used.items ≡ with_use (is_nothing (nth_cell old.cells.items place).content) old.used.items place
      → new.steps.items ≡ old.steps.items ++ step ∷ [] → IsTrail new (es ++ e ∷ [])
  IsTrail-added step noted read cell was is utf8 reads pushed names cells used steps =
      let text : IsUtf8 (nth_cell old.cells.items place).text = subst (λ (c : Cell). IsUtf8 c.text) (there noted was) utf8 in
      let shows : (vs : List Variant) → Shows (nth_cell old.cells.items place) vs → Shows cell (vs ++ e.value ∷ []) =
      λ vs shown. pushed vs (subst (λ (c : Cell). Shows c vs) (sym (there read reads)) shown) in
      let added = GoesBack-add old.names old.cells.items old.used.items es (reverse old.steps.items) place e cell trail at text shows in
      let noted_steps : reverse new.steps.items ≡ step_of place (nth_cell old.cells.items place) ∷ reverse old.steps.items =
      ap reverse steps ∙ reverse-append old.steps.items (step ∷ []) ∙ ap (λ (s : Step). s ∷ reverse old.steps.items) (is ∙ ap (step_of place) (there noted was)) in
      rw (names, cells, used, noted_steps) added

-- a trail that has given up an entry
pub IsTrail-back : (old new : Cells) (es : List Entry) (e : Entry) (step : Step) (steps : List Step) → IsTrail old (es ++ e ∷ []) → old.steps.items ≡ steps ++ step ∷ []
    → new.names ≡ old.names → new.steps.items ≡ steps
    → (step.place < length old.cells.items → CanUndo step (nth_cell old.cells.items step.place)
    → new.cells.items ≡ set old.cells.items step.place (undone step (nth_cell old.cells.items step.place)))
    → ((before : List ℕ) → old.used.items ≡ with_use (is_nothing step.content) before step.place → new.used.items ≡ before) → IsTrail new es
IsTrail-back old new es e step steps trail was names now cells used =
    let noted : reverse old.steps.items ≡ step ∷ reverse steps = ap reverse was ∙ reverse-append steps (step ∷ []) in
    let back = GoesBack-back old.names step (reverse steps) old.cells.items old.used.items es e (subst (λ (s : List Step). GoesBack old.names s (filling old.cells.items old.used.items (es ++ e ∷ []))) noted trail) in
    rw (names, now, cells back.within back.text, used back.less back.noted) back.back

-- ---- so many entries

abbrev no_entry : Entry
no_entry = record { attr = no_attribute; value = no_value }

pub trail-length : (t : Cells) (entries : List Entry) → IsTrail t entries → length t.steps.items ≡ length entries
trail-length t entries trail = sym (length-reverse t.steps.items) ∙ GoesBack-length _ _ _ trail

pub kept-start : (t : Cells) (entries : List Entry) → IsTrail t entries → IsTrail t (take (length t.steps.items) entries)
kept-start t entries trail = subst (IsTrail t) (sym (take_all (length t.steps.items) entries (omega (arith, trail-length t entries trail)))) trail

pub kept-fewer : (old new : Cells) (entries : List Entry) → 0 < length old.steps.items → length old.steps.items ≤ length entries → IsTrail old (take (length old.steps.items) entries)
    → ((es : List Entry) (e : Entry) → IsTrail old (es ++ e ∷ []) → IsTrail new es) → IsTrail new (take (length new.steps.items) entries) × (length new.steps.items + 1 ≡ length old.steps.items)
kept-fewer old new entries some within trail given =
    (subst (λ (k : ℕ). IsTrail new (take k entries)) (sym counted) back, omega (arith, counted, some))
  where
    m : ℕ
    m = length old.steps.items - 1

    last : take (length old.steps.items) entries ≡ take m entries ++ get_or entries m no_entry ∷ []
    last = ap (λ (k : ℕ). take k entries) (omega (arith, some)) ∙ take_more entries m no_entry (omega (arith, some, within))

    back : IsTrail new (take m entries)
    back = given (take m entries) (get_or entries m no_entry) (subst (IsTrail old) last trail)

    counted : length new.steps.items ≡ m
    counted = trail-length new (take m entries) back ∙ length-take-le m entries (omega (arith, some, within))

pub kept-end : (t : Cells) (entries : List Entry) (n count : ℕ) → n ≤ count → ((n ≡ length entries) ⊎ (count ≤ n)) → IsTrail t (take n entries) → IsTrail t (take count entries)
kept-end t entries n count past (inl all) trail =
    subst (IsTrail t) (take_all n entries (omega (arith, all)) ∙ sym (take_all count entries (omega (arith, all, past)))) trail
kept-end t entries n count past (inr enough) trail = subst (λ (k : ℕ). IsTrail t (take k entries)) (omega (arith, past, enough)) trail
