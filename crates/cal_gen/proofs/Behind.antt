-- What stands with a line or a thread more, and with those behind it.
use Rattle.std.proofs.Common.{◌≡◌, ℕ, ◌+◌, List, [], ◌∷◌, ◌++◌, length, ap, ◌∙◌, append_assoc}
use Rattle.std.proofs.lemmas.List.{length-append}
use Rattle.cal_value.specs.declared.variant.Variant.{Variant}
use Rattle.cal_script.specs.declared.script.Line.{Line}
use Rattle.cal_gen.specs.GeneratedScript.{Lines, Step, lines_behind, lines_from, threads_behind, threads_from}

module _ (values : List Variant) (step : Step) (count : ℕ) where
  pub line_values :
      (values ++ step.values) ++ (lines_from count (length (values ++ step.values)) step.after).values
      ≡ values ++ (lines_behind step (lines_from count (length values + length step.values) step.after)).values
  line_values =
      append_assoc values step.values (lines_from count (length (values ++ step.values)) step.after).values
      ∙ ap (λ n. values ++ (step.values ++ (lines_from count n step.after).values)) (length-append values step.values)

module _ (values : List Variant) (thread : List Line) (step : Step) (count : ℕ) where
  pub line_lines :
      (thread ++ step.line ∷ []) ++ (lines_from count (length (values ++ step.values)) step.after).lines
      ≡ thread ++ (lines_behind step (lines_from count (length values + length step.values) step.after)).lines
  line_lines =
      append_assoc thread (step.line ∷ []) (lines_from count (length (values ++ step.values)) step.after).lines
      ∙ ap (λ n. thread ++ (step.line ∷ (lines_from count n step.after).lines)) (length-append values step.values)

module _ (values : List Variant) (thread : Lines) (count lines x : ℕ) where
  pub thread_values :
      (values ++ thread.values) ++ (threads_from count lines (length (values ++ thread.values)) x).values
      ≡ values ++ (threads_behind thread (threads_from count lines (length values + length thread.values) x)).values
  thread_values =
      append_assoc values thread.values (threads_from count lines (length (values ++ thread.values)) x).values
      ∙ ap (λ n. values ++ (thread.values ++ (threads_from count lines n x).values)) (length-append values thread.values)

module _ (values : List Variant) (threads : List (List Line)) (thread : Lines) (count lines x : ℕ) where
  pub thread_threads :
      (threads ++ thread.lines ∷ []) ++ (threads_from count lines (length (values ++ thread.values)) x).threads
      ≡ threads ++ (threads_behind thread (threads_from count lines (length values + length thread.values) x)).threads
  thread_threads =
      append_assoc threads (thread.lines ∷ []) (threads_from count lines (length (values ++ thread.values)) x).threads
      ∙ ap (λ n. threads ++ (thread.lines ∷ (threads_from count lines n x).threads)) (length-append values thread.values)
