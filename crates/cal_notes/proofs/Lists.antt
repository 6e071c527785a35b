-- Lists with one item more, and the operations of one thread among others'.
use Rattle.std.proofs.Common.{◌≡◌, ℕ, suc, zero, ◌+◌, ◌<◌, List, [], ◌∷◌, ◌++◌, Bool, true, false}
use Rattle.std.proofs.Common.{if◌then◌else◌, length, refl, ap, ◌∙◌, append-nil, arith}
use Rattle.std.specs.Prelude.{Option, Some, None, filter_map, slice_get, zip, ◌==◌}
use Rattle.std.specs.List.{cons_option, enumerate_from}
use Rattle.std.proofs.lemmas.Bool.{eq-eqb, ne_eqb}
use Rattle.std.proofs.lemmas.List.Elements.{filter_map-append}
use Rattle.cal_notes.specs.Notes.{OfOthers}
use Rattle.cal_notes.specs.Running.{number_placed}
use Rattle.cal_run.specs.Lawful.{placed_of, process_lines}
use Rattle.cal_run.specs.Lines.{is_process_line}
use Rattle.cal_script.specs.declared.journal.Placed.{Placed}
use Rattle.cal_script.specs.declared.script.Line.{Line}
use Rattle.cal_script.specs.declared.script.Script.{Script}

module _ {A : Type 0} where
  pub slice_get-front : (xs ys : List A) (i : ℕ) → i < length xs
      → slice_get (xs ++ ys) i ≡ slice_get xs i
  slice_get-front [] ys i below = absurd (omega (arith, below))
  slice_get-front (x ∷ xs) ys zero below = refl
  slice_get-front (x ∷ xs) ys (suc i) below = slice_get-front xs ys i (omega (arith, below))

  pub slice_get-last : (xs : List A) (x : A) → slice_get (xs ++ x ∷ []) (length xs) ≡ Some x
  slice_get-last [] x = refl
  slice_get-last (y ∷ xs) x = slice_get-last xs x

  enumerate_from-push : (n : ℕ) (xs : List A) (x : A)
      → enumerate_from n (xs ++ x ∷ []) ≡ enumerate_from n xs ++ (n + length xs, x) ∷ []
  enumerate_from-push n [] x = ap (λ m. (m, x) ∷ []) (let e : n ≡ n + 0 = omega arith in e)
  enumerate_from-push n (y ∷ xs) x = ap (λ zs. (n, y) ∷ zs)
      (enumerate_from-push (n + 1) xs x
      ∙ ap (λ m. enumerate_from (n + 1) xs ++ (m, x) ∷ [])
      (let e : n + 1 + length xs ≡ n + suc (length xs) = omega arith in e))

pub zip-push : {A B : Type 0} (xs : List A) (ys : List B) (x : A) (y : B) → length ys ≡ length xs
    → zip (xs ++ x ∷ []) (ys ++ y ∷ []) ≡ zip xs ys ++ (x, y) ∷ []
zip-push [] [] x y long = refl
zip-push [] (w ∷ ys) x y long = absurd (omega (arith, long))
zip-push (v ∷ xs) [] x y long = absurd (omega (arith, long))
zip-push (v ∷ xs) (w ∷ ys) x y long =
    ap (λ zs. (v, w) ∷ zs) (zip-push xs ys x y (omega (arith, long)))

-- ---- process lines

abbrev placed_number : Script → ℕ × Line → Option ℕ
placed_number script l = if is_process_line script l.1 then Some l.0 else None

-- those of one line more
pub process_lines-push : (script : Script) (ls : List Line) (l : Line)
    → process_lines script (ls ++ l ∷ [])
    ≡ process_lines script ls ++ number_placed script (length ls + 1) l
process_lines-push script ls l =
    ap (filter_map (placed_number script)) (enumerate_from-push 1 ls l)
    ∙ filter_map-append (placed_number script) (enumerate_from 1 ls) ((1 + length ls, l) ∷ [])
    ∙ ap (λ ns. process_lines script ls ++ ns) (one (is_process_line script l))
  where
    one : (p : Bool) → cons_option (if p then Some (1 + length ls) else None) []
        ≡ (if p then (length ls + 1) ∷ [] else [])
    one true = ap (λ n. n ∷ []) (let e : 1 + length ls ≡ length ls + 1 = omega arith in e)
    one false = refl

module _ (thread : ℕ) where
  pub placed_of-append : (xs ys : List Placed)
      → placed_of thread (xs ++ ys) ≡ placed_of thread xs ++ placed_of thread ys
  placed_of-append =
      filter_map-append (λ (op : Placed). if op.thread == thread then Some op.line else None)

  -- operations of other threads are none of a thread's
  pub placed_of-others : (ops : List Placed) → OfOthers thread ops → placed_of thread ops ≡ []
  placed_of-others [] others = refl
  placed_of-others (op ∷ ops) others =
      ap (λ (b : Bool). cons_option (if b then Some op.line else None) (placed_of thread ops))
      (ne_eqb op.thread thread (others 0 op (omega arith)))
      ∙ placed_of-others ops (λ i d m. others (suc i) d (omega (arith, m)))

  pub placed_of-front : (h more : List Placed) → OfOthers thread more
      → placed_of thread (h ++ more) ≡ placed_of thread h
  placed_of-front h more others =
      placed_of-append h more
      ∙ ap (λ ns. placed_of thread h ++ ns) (placed_of-others more others)
      ∙ append-nil (placed_of thread h)

  pub placed_of-own : (number : ℕ)
      → placed_of thread (record { thread = thread; line = number } ∷ []) ≡ number ∷ []
  placed_of-own number =
      ap (λ (b : Bool). cons_option (if b then Some number else None) [])
      (eq-eqb thread thread refl)
