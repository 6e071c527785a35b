-- A turn of each loop: what is left makes the text whole, before it and behind it.
use Rattle.std.proofs.Common.{◌≡◌, ℕ, suc, List, [], ◌∷◌, ◌++◌, sym, ap, ◌∙◌, append_assoc}
use Rattle.std.specs.Prelude.{codes}
use Rattle.cal_gen.specs.Generated.{State, Step, Lines, line_from, lines_from, threads_from}

module _ (left count : ℕ) (is : left ≡ suc count) (x : ℕ) where
  -- the next line and its newline
  pub next_line : (depth x_after depth_after : ℕ) (text next whole : List ℕ) (last : ℕ)
      → next ≡ text ++ ((line_from (record { x = x; depth = depth })).line ++ 10 ∷ [])
      → x_after ≡ (line_from (record { x = x; depth = depth })).after.x
      → depth_after ≡ (line_from (record { x = x; depth = depth })).after.depth
      → text ++ (lines_from left (record { x = x; depth = depth })).text ≡ whole
      → (lines_from left (record { x = x; depth = depth })).x ≡ last
      → (next ++ (lines_from count (record { x = x_after; depth = depth_after })).text ≡ whole)
      × ((lines_from count (record { x = x_after; depth = depth_after })).x ≡ last)
  next_line depth x_after depth_after text next whole last next_is x_is depth_is text_is last_is =
      let s : State = record { x = x; depth = depth } in
      let step : Step = line_from s in
      let rest : Lines = lines_from count step.after in
      let joined : (text ++ (step.line ++ 10 ∷ [])) ++ rest.text ≡ text ++ (lines_from (suc count) s).text =
      append_assoc text (step.line ++ 10 ∷ []) rest.text
      ∙ ap (λ more. text ++ more) (append_assoc step.line (10 ∷ []) rest.text) in
      rw (next_is, x_is, depth_is) (
        joined ∙ ap (λ n. text ++ (lines_from n s).text) (sym is) ∙ text_is,
        ap (λ n. (lines_from n s).x) (sym is) ∙ last_is,
      )

  -- the next thread
  pub next_thread : (lines x_after : ℕ) (text next whole : List ℕ)
      → next ≡ (text ++ codes "thread\n") ++ (lines_from lines (record { x = x; depth = 0 })).text
      → x_after ≡ (lines_from lines (record { x = x; depth = 0 })).x
      → text ++ threads_from left lines x ≡ whole
      → next ++ threads_from count lines x_after ≡ whole
  next_thread lines x_after text next whole next_is x_is text_is =
      let thread : Lines = lines_from lines (record { x = x; depth = 0 }) in
      let more : List ℕ = threads_from count lines thread.x in
      let joined : ((text ++ codes "thread\n") ++ thread.text) ++ more ≡ text ++ threads_from (suc count) lines x =
      append_assoc (text ++ codes "thread\n") thread.text more ∙ append_assoc text (codes "thread\n") (thread.text ++ more) in
      rw (next_is, x_is) (joined ∙ ap (λ n. text ++ threads_from n lines x) (sym is) ∙ text_is)
