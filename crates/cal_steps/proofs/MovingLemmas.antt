-- A world is changed, and then the event is counted.
use Rattle.std.proofs.Common.{◌≡◌, ℕ, ◌+◌, ◌<◌, List, length, get_or, set, ap, subst, sym}
use Rattle.std.proofs.Common.{◌∙◌}
use Rattle.std.specs.Prelude.{Option, Some}
use Rattle.std.proofs.lemmas.List.{get_or_default, set-get_or}
use Rattle.cal_events.specs.Effects.{books_with, handed_over, line_ended, merged_of, next_path}
use Rattle.cal_events.specs.Effects.{world_by}
use Rattle.cal_events.specs.Nodes.{with_path}
use Rattle.cal_events.specs.Worlds.{ThreadWorld, World, no_thread, thread_in}
use Rattle.cal_script.specs.declared.journal.Journal.{Journal}
use Rattle.cal_script.specs.declared.script.Script.{Script}
use Rattle.cal_steps.proofs.FlushLemmas.{handed-is}
use Rattle.cal_value.specs.declared.attribute.Entry.{Entry}
use Rattle.cal_world.specs.Progress.{Progress, Reached, behind, progress_after, reached_after, reached_by}
use Rattle.cal_world.specs.declared.event.Event.TheVariants as event
use Rattle.cal_world.specs.declared.turn.Turn.{Turn}

module _ (script : Script) (journal : Journal) (w : World) (x : Turn) (t : ℕ) where
  -- a path is added
  pub node-made : (u : World) → u ≡ w → t < length u.progress.threads → (path : List Entry)
      → next_path script journal w x t ≡ Some path → (paths : List (List Entry))
      → paths ≡ with_path u.paths (Some path) → (was is : Reached)
      → was ≡ get_or u.progress.threads t was
      → is ≡ record { lines = was.lines; events = was.events + 1 }
      → record {
        progress = record {
          history = u.progress.history;
          threads = set u.progress.threads t is;
        };
        paths = paths;
        threads = u.threads;
        books = u.books;
      } ≡ world_by script journal w x (event.Node t)
  node-made u same below path next paths added was is there moved =
      let here : was ≡ reached_by u.progress t =
      there ∙ get_or_default u.progress.threads t was (behind 0) below in
      let now : is ≡ reached_after (reached_by u.progress t) (event.Node t) =
      moved ∙ (λ j. record { lines = (here j).lines; events = (here j).events + 1 }) in
      (λ j. record u {
        progress = record {
          history = u.progress.history;
          threads = set u.progress.threads t (now j);
        };
        paths = added j;
      })
      ∙ ap (λ (z : World). record z {
        progress = progress_after z.progress (event.Node t);
        paths = with_path z.paths (Some path);
      }) same
      ∙ (λ j. record w {
        progress = progress_after w.progress (event.Node t);
        paths = with_path w.paths (sym next j);
        threads = sym (set-get_or w.threads t no_thread) j;
      })

  abbrev v : ThreadWorld
  v = line_ended script w.progress.history x (thread_in w t)

  -- a line ends, and what its thread kept is handed over
  flush-made : (mid new : World) (o : Option ℕ) (line : ℕ) → t < length w.threads
      → mid ≡ record w { threads = set w.threads t v }
      → new ≡ record mid {
        threads = set mid.threads t (handed_over o (thread_in mid t));
        books = books_with o t (thread_in mid t) mid.books;
      }
      → o ≡ merged_of x.line x.note.reply
      → record new { progress = progress_after new.progress (event.Flush t line) }
      ≡ world_by script journal w x (event.Flush t line)
  flush-made mid new o line below one two merged =
      ap (λ (u : World). record u { progress = progress_after u.progress (event.Flush t line) })
      (two ∙ handed-is w mid w.progress t v below one o
      ∙ (λ j. record w {
        threads = set w.threads t (handed_over (merged j) v);
        books = books_with (merged j) t v w.books;
      }))

  -- and the line is done
  pub flush-ended : (u mid new : World) → u ≡ new → t < length w.progress.threads
      → (was is : Reached) → was ≡ get_or u.progress.threads t was → is ≡ behind (was.lines + 1)
      → (o : Option ℕ) (line : ℕ) → t < length w.threads
      → mid ≡ record w { threads = set w.threads t v }
      → new ≡ record mid {
        threads = set mid.threads t (handed_over o (thread_in mid t));
        books = books_with o t (thread_in mid t) mid.books;
      }
      → o ≡ merged_of x.line x.note.reply
      → record {
        progress = record {
          history = u.progress.history;
          threads = set u.progress.threads t is;
        };
        paths = u.paths;
        threads = u.threads;
        books = u.books;
      } ≡ world_by script journal w x (event.Flush t line)
  flush-ended u mid new same inside was is there moved o line below one two merged =
      let kept : u.progress ≡ w.progress = ap (λ (z : World). z.progress) same
      ∙ ap (λ (z : World). z.progress) two ∙ ap (λ (z : World). z.progress) one in
      let here : was ≡ reached_by u.progress t =
      there ∙ get_or_default u.progress.threads t was (behind 0)
      (subst (λ (p : Progress). t < length p.threads) (sym kept) inside) in
      let now : is ≡ reached_after (reached_by u.progress t) (event.Flush t line) =
      moved ∙ ap (λ (r : Reached). behind (r.lines + 1)) here in
      (λ j. record u {
        progress = record {
          history = u.progress.history;
          threads = set u.progress.threads t (now j);
        };
      })
      ∙ ap (λ (z : World). record z {
        progress = progress_after z.progress (event.Flush t line);
      }) same
      ∙ flush-made mid new o line below one two merged
