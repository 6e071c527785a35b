-- The tally of lines that go on.
use Rattle.std.proofs.Common.{◌≡◌, ℕ, zero, suc, Bool, List, [], ◌∷◌, ◌++◌, All, refl, sym, ap, ◌∙◌}
use Rattle.std.specs.Prelude.{Some, slice_get}
use Rattle.std.proofs.lemmas.List.Elements.{All-head, All-tail}
use Rattle.cal_value.specs.declared.attribute.Attribute.{Attribute}
use Rattle.cal_value.specs.declared.variant.Variant.{Variant}
use Rattle.cal_script.specs.State.{counted, next_thread}
use Rattle.cal_script.specs.declared.script.Channel.{Channel}
use Rattle.cal_script.specs.declared.script.Line as lines
use Rattle.cal_script.specs.declared.script.Line.TheVariants as line
use Rattle.cal_script.specs.declared.tally.Tally.{Tally}
use Rattle.cal_script.specs.Counts.{is_process_line, line_words, no_tally, tally_lines, tally_of, tally_threads, words_made}
use Rattle.cal_script.specs.Valid.{IsOpening, IsPlaced}

module _ (attributes : List Attribute) (values : List Variant) where
  lines-push : (thread : List lines.Line) (tally : Tally) (l : lines.Line) → tally_lines attributes values tally (thread ++ l ∷ [])
      ≡ counted (is_process_line attributes values l) (line_words attributes values l) (tally_lines attributes values tally thread)
  lines-push [] tally l = refl
  lines-push (x ∷ thread) tally l = lines-push thread (counted (is_process_line attributes values x) (line_words attributes values x) tally) l

  threads-push : (threads : List (List lines.Line)) (tally : Tally) (thread : List lines.Line) → tally_threads attributes values tally (threads ++ thread ∷ [])
      ≡ tally_lines attributes values (next_thread (tally_threads attributes values tally threads)) thread
  threads-push [] tally thread = refl
  threads-push (x ∷ threads) tally thread = threads-push threads (tally_lines attributes values (next_thread tally) x) thread

  -- one line more of the last thread
  pub tally_line : (earlier : List (List lines.Line)) (thread : List lines.Line) (l : lines.Line) (process : Bool) (words : ℕ) (tally : Tally)
      → is_process_line attributes values l ≡ process → line_words attributes values l ≡ words
      → tally_of attributes values (earlier ++ thread ∷ []) ≡ tally
      → tally_of attributes values (earlier ++ (thread ++ l ∷ []) ∷ []) ≡ counted process words tally
  tally_line earlier thread l process words tally is makes tallied =
      let before : tally_lines attributes values (next_thread (tally_of attributes values earlier)) thread ≡ tally =
      sym (threads-push earlier no_tally thread) ∙ tallied in
      threads-push earlier no_tally (thread ++ l ∷ [])
      ∙ lines-push thread (next_thread (tally_of attributes values earlier)) l
      ∙ (λ i. counted (is i) (makes i) (before i))

  -- one thread more
  pub tally_thread : (threads : List (List lines.Line)) (tally : Tally) → tally_of attributes values threads ≡ tally
      → tally_of attributes values (threads ++ [] ∷ []) ≡ next_thread tally
  tally_thread threads tally tallied = threads-push threads no_tally [] ∙ ap next_thread tallied

-- ---- more values

pub slice_get-more : {A : Type 0} (xs ys : List A) (i : ℕ) (x : A) → slice_get xs i ≡ Some x → slice_get (xs ++ ys) i ≡ Some x
slice_get-more [] ys i x is = absurd cc
slice_get-more (y ∷ xs) ys zero x is = is
slice_get-more (y ∷ xs) ys (suc i) x is = slice_get-more xs ys i x is

module _ (attributes : List Attribute) (channels : List Channel) (values more : List Variant) where
  opened_words : (attr value : ℕ) → IsOpening attributes values attr value
      → words_made (slice_get attributes attr) (slice_get (values ++ more) value) ≡ words_made (slice_get attributes attr) (slice_get values value)
  opened_words attr value is =
      ap (words_made (slice_get attributes attr)) (slice_get-more values more value is.opened is.kept ∙ sym is.kept)

  words_more : (l : lines.Line) → IsPlaced attributes channels values l → line_words attributes (values ++ more) l ≡ line_words attributes values l
  words_more (line.Begin attr value) is = opened_words attr value is
  words_more (line.Set attr value) is = opened_words attr value is
  words_more (line.End attr) is = refl
  words_more line.Snapshot is = refl
  words_more (line.Flush channel) is = refl
  words_more (line.Tick n) is = refl

  lines_more : (thread : List lines.Line) (tally : Tally) → All (IsPlaced attributes channels values) thread
      → tally_lines attributes (values ++ more) tally thread ≡ tally_lines attributes values tally thread
  lines_more [] tally placed = refl
  lines_more (l ∷ thread) tally placed =
      lines_more thread (counted (is_process_line attributes values l) (line_words attributes (values ++ more) l) tally)
      (All-tail (IsPlaced attributes channels values) l thread placed)
      ∙ ap (λ words. tally_lines attributes values (counted (is_process_line attributes values l) words tally) thread)
      (words_more l (All-head (IsPlaced attributes channels values) l thread placed))

  threads_more : (threads : List (List lines.Line)) (tally : Tally) → All (All (IsPlaced attributes channels values)) threads
      → tally_threads attributes (values ++ more) tally threads ≡ tally_threads attributes values tally threads
  threads_more [] tally placed = refl
  threads_more (thread ∷ threads) tally placed =
      threads_more threads (tally_lines attributes (values ++ more) (next_thread tally) thread)
      (All-tail (All (IsPlaced attributes channels values)) thread threads placed)
      ∙ ap (λ t. tally_threads attributes values t threads)
      (lines_more thread (next_thread tally) (All-head (All (IsPlaced attributes channels values)) thread threads placed))

  -- the tally of placed lines is the same with more values
  pub tally_more : (threads : List (List lines.Line)) → All (All (IsPlaced attributes channels values)) threads
      → tally_of attributes (values ++ more) threads ≡ tally_of attributes values threads
  tally_more threads placed = threads_more threads no_tally placed
