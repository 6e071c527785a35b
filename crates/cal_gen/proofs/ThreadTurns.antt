-- A turn of each loop: what is left makes the lists whole, before it and behind it.
use Rattle.std.proofs.Common.{◌≡◌, ℕ, suc, List, [], ◌∷◌, ◌++◌, sym, ap, ◌∙◌}
use Rattle.cal_value.specs.declared.variant.Variant.{Variant}
use Rattle.cal_script.specs.declared.script.Line.{Line}
use Rattle.cal_gen.proofs.Behind.{line_lines, line_values, thread_threads, thread_values}
use Rattle.cal_gen.specs.Steps.{last_draw, next_lines, next_step, next_threads}

module _ (left count : ℕ) (is : left ≡ suc count) (opened : List Variant) (x : ℕ) where
  -- the next line
  module _ (depth x_after depth_after : ℕ) (more : List Variant)
      (more_is : more ≡ opened ++ (next_step opened x depth).values)
      (x_is : x_after ≡ (next_step opened x depth).after.x)
      (depth_is : depth_after ≡ (next_step opened x depth).after.depth) where
    pub next_line : (lines next whole : List Line) → next ≡ lines ++ (next_step opened x depth).line ∷ []
        → lines ++ (next_lines left opened x depth).lines ≡ whole → next ++ (next_lines count more x_after depth_after).lines ≡ whole
    next_line lines next whole next_is whole_is =
        rw (next_is, more_is, x_is, depth_is)
        (line_lines opened lines (next_step opened x depth) count ∙ ap (λ n. lines ++ (next_lines n opened x depth).lines) (sym is) ∙ whole_is)

    pub line_opened : (whole : List Variant) → opened ++ (next_lines left opened x depth).values ≡ whole
        → more ++ (next_lines count more x_after depth_after).values ≡ whole
    line_opened whole whole_is =
        rw (more_is, x_is, depth_is)
        (line_values opened (next_step opened x depth) count ∙ ap (λ n. opened ++ (next_lines n opened x depth).values) (sym is) ∙ whole_is)

    pub line_drawn : (last : ℕ) → last_draw left x depth ≡ last → last_draw count x_after depth_after ≡ last
    line_drawn last last_is = rw (x_is, depth_is) (ap (λ n. last_draw n x depth) (sym is) ∙ last_is)

  -- the next thread
  module _ (lines x_after : ℕ) (more : List Variant) (more_is : more ≡ opened ++ (next_lines lines opened x 0).values)
      (x_is : x_after ≡ last_draw lines x 0) where
    pub next_thread : (threads next whole : List (List Line)) (thread : List Line) → next ≡ threads ++ thread ∷ []
        → thread ≡ (next_lines lines opened x 0).lines
        → threads ++ (next_threads left lines opened x).threads ≡ whole → next ++ (next_threads count lines more x_after).threads ≡ whole
    next_thread threads next whole thread next_is thread_is whole_is =
        rw (next_is, thread_is, more_is, x_is)
        (thread_threads opened threads (next_lines lines opened x 0) count lines (last_draw lines x 0)
        ∙ ap (λ n. threads ++ (next_threads n lines opened x).threads) (sym is) ∙ whole_is)

    pub thread_opened : (whole : List Variant) → opened ++ (next_threads left lines opened x).values ≡ whole
        → more ++ (next_threads count lines more x_after).values ≡ whole
    thread_opened whole whole_is =
        rw (more_is, x_is)
        (thread_values opened (next_lines lines opened x 0) count lines (last_draw lines x 0)
        ∙ ap (λ n. opened ++ (next_threads n lines opened x).values) (sym is) ∙ whole_is)
