-- The words of the nodes that a script's lines make, as a thread counts them and as the tree's
-- arena has room for them.
use Rattle.std.proofs.Common.{◌≡◌, ℕ, zero, suc, ◌+◌, ◌-◌, ◌<◌, ◌≤◌, ◌==◌, Bool, true, false}
use Rattle.std.proofs.Common.{if◌then◌else◌, List, [], ◌∷◌, take, refl, sym, ap, ◌∙◌, subst, arith}
use Rattle.std.specs.Prelude.{Option, Some, None, not, option_and_then, slice_get, slice_index_or}
use Rattle.std.specs.Prelude.{sum_by}
use Rattle.std.specs.List.{All}
use Rattle.std.proofs.lemmas.List.Elements.{All-nil}
use Rattle.std.proofs.lemmas.Option.{get_or_from_slice_get}
use Rattle.cal_context.specs.Tree.{no_attribute, no_value}
use Rattle.cal_process.specs.Operations as made
use Rattle.cal_process.specs.Operations.{IsOpOf, operation_in, words_if, words_made, words_of_line}
use Rattle.cal_process.proofs.Ranks.{le-greatest, process-line}
use Rattle.cal_process.proofs.Words.{all-at, item_at, sum-first, sum-take}
use Rattle.cal_run.proofs.HeldLemmas.{line_at-placed}
use Rattle.cal_run.specs.Lawful.{names_process_line}
use Rattle.cal_run.specs.Lines as run
use Rattle.cal_run.specs.Lines.{line_at, operation_of}
use Rattle.cal_script.specs.Counts as counts
use Rattle.cal_script.specs.Counts.{is_process, line_words}
use Rattle.cal_script.specs.Shapes.{greatest, own_words, shared_words}
use Rattle.cal_script.specs.Valid.{IsPlaced, IsRunnable}
use Rattle.cal_script.specs.declared.script.Line as lines
use Rattle.cal_script.specs.declared.script.Line.TheVariants as line
use Rattle.cal_script.specs.declared.script.Script.{Script}
use Rattle.cal_value.specs.Props.{has_process_scope, is_as_value}
use Rattle.cal_value.specs.declared.attribute.Attribute.{Attribute}
use Rattle.cal_value.specs.declared.variant.Variant.{Variant}
use Rattle.cal_words.specs.Words.{node_length}
use Rattle.cal_words.specs.declared.op.OpRec.{OpRec}

-- an attribute that counts as a process's is one by its number
process-back : (attributes : List Attribute) (a : ℕ)
    → is_process (slice_get attributes a) ≡ true
    → has_process_scope (slice_index_or attributes a no_attribute).props ≡ true
process-back [] a is = absurd cc
process-back (x ∷ xs) zero is = is
process-back (x ∷ xs) (suc a) is = process-back xs a is

false-true : false ≡ true → ⊥
false-true e = absurd cc

unless : (b : Bool) (n : ℕ) → (if b then 0 else n) ≡ (if not b then n else 0)
unless true n = refl
unless false n = refl

module _ (script : Script) where
  abbrev IsRight : lines.Line → Type 0
  IsRight l = IsPlaced script.attributes script.channels script.values l

  abbrev counted : lines.Line → ℕ
  counted l = line_words script.attributes script.values l

  -- the words of a value that a line opens
  opened-words : (a v : ℕ) (attribute : Attribute) (value : Variant)
      → slice_get script.attributes a ≡ Some attribute → slice_get script.values v ≡ Some value
      → (if is_as_value (run.attribute_of script a).props then 0
      else node_length (slice_index_or script.values v no_value))
      ≡ counts.words_made (slice_get script.attributes a) (slice_get script.values v)
  opened-words a v attribute value declared kept =
      (λ j. if is_as_value
      (get_or_from_slice_get script.attributes a attribute no_attribute declared j).props then 0
      else node_length (get_or_from_slice_get script.values v value no_value kept j))
      ∙ unless (is_as_value attribute.props) (node_length value)
      ∙ sym (λ j. counts.words_made (declared j) (kept j))

  either : (b : Bool) (n : ℕ) → (if b then n else n) ≡ n
  either true n = refl
  either false n = refl

  -- a line makes a node of the words that are counted of it
  pub words-counted : (l : lines.Line) → IsRight l → words_of_line script l ≡ counted l
  words-counted (line.Begin a v) p = opened-words a v p.attribute p.opened p.declared p.kept
  words-counted (line.Set a v) p = opened-words a v p.attribute p.opened p.declared p.kept
  words-counted (line.End a) p =
      either (is_as_value (run.attribute_of script a).props) 0
      ∙ sym (ended (slice_get script.attributes a))
    where
      ended : (o : Option Attribute) → counts.words_made o None ≡ 0
      ended None = refl
      ended (Some x) = refl
  words-counted line.Snapshot p = refl
  words-counted (line.Flush c) p = refl
  words-counted (line.Tick n) p = refl

  -- a line that counts as a process line is one by what it does
  process-line-back : (l : lines.Line)
      → counts.is_process_line script.attributes script.values l ≡ true
      → run.is_process_line script l ≡ true
  process-line-back (line.Begin a v) is = process-back script.attributes a is
  process-line-back (line.Set a v) is = process-back script.attributes a is
  process-line-back (line.End a) is = process-back script.attributes a is
  process-line-back line.Snapshot is = absurd cc
  process-line-back (line.Flush c) is = absurd cc
  process-line-back (line.Tick n) is = absurd cc

  -- the words of a line that is its thread's own, which the arena has room for
  own-most : (l : lines.Line) → IsRight l → made.own_words script l ≤ own_words script l
  own-most l right = by (run.is_process_line script l) refl
      (counts.is_process_line script.attributes script.values l) refl
    where
      words : words_of_line script l ≡ counted l
      words = words-counted l right

      by : (b : Bool) → run.is_process_line script l ≡ b → (d : Bool)
          → counts.is_process_line script.attributes script.values l ≡ d
          → (if b then 0 else words_of_line script l) ≤ (if d then 0 else counted l)
      by true is d of = omega arith
      by false is true of = absurd (false-true (sym is ∙ process-line-back l of))
      by false is false of = omega (arith, words)

  abbrev pub thread_lines : ℕ → List lines.Line
  thread_lines thread = slice_index_or script.threads thread []

  numbered-line : (number : ℕ) (b : Bool) (ls : List lines.Line) (l : lines.Line)
      → (if b then None else slice_get ls (number - 1)) ≡ Some l
      → slice_get ls (number - 1) ≡ Some l
  numbered-line number true ls l is = absurd cc
  numbered-line number false ls l is = is

  some-number : (number : ℕ) (b : Bool) (ls : List lines.Line) → (b ≡ false → 0 < number)
      → names_process_line script (if b then None else slice_get ls (number - 1)) ≡ true
      → 0 < number
  some-number number true ls some known = absurd cc
  some-number number false ls some known = some refl

  not-zero : (n : ℕ) → (n == 0) ≡ false → 0 < n
  not-zero zero e = absurd cc
  not-zero (suc n) e = omega arith

  -- the lines of operations have numbers from 1
  pub some-line : (op : OpRec) → IsOpOf script op → 0 < op.line
  some-line op is = some-number op.line (op.line == 0) (thread_lines op.thread)
      (not-zero op.line) is.known

  -- the next line behind so many
  pub next-line : (thread done : ℕ) (l : lines.Line) → line_at script thread (done + 1) ≡ Some l
      → slice_get (thread_lines thread) done ≡ Some l
  next-line thread done l at =
      let back : done + 1 - 1 ≡ done = omega arith in
      subst (λ n. slice_get (thread_lines thread) n ≡ Some l) back
      (numbered-line (done + 1) (done + 1 == 0) (thread_lines thread) l at)

  module _ (runnable : IsRunnable script) where
    -- a thread's first lines and the next one have room in the greatest thread's
    pub own-inside : (thread done : ℕ) (l : lines.Line)
        → line_at script thread (done + 1) ≡ Some l
        → sum_by (made.own_words script) (take done (thread_lines thread))
        + made.own_words script l ≤ greatest (sum_by (own_words script)) script.threads
    own-inside thread done l at =
        let most = le-greatest (sum_by (own_words script)) [] refl script.threads thread in
        let inside = sum-first (made.own_words script) (own_words script) IsRight own-most
        (thread_lines thread)
        (all-at (All IsRight) script.threads thread [] runnable.places (All-nil IsRight)) done l
        (next-line thread done l at) in
        omega (arith, most, inside)

    -- and its first lines alone
    pub own-first : (thread done : ℕ)
        → sum_by (made.own_words script) (take done (thread_lines thread))
        ≤ greatest (sum_by (own_words script)) script.threads
    own-first thread done =
        let most = le-greatest (sum_by (own_words script)) [] refl script.threads thread in
        let inside = sum-take (made.own_words script) (own_words script) IsRight own-most
        (thread_lines thread)
        (all-at (All IsRight) script.threads thread [] runnable.places (All-nil IsRight)) done in
        omega (arith, most, inside)

    -- the line of an operation
    record IsLineOf (op : OpRec) : Type 0 where
      found : lines.Line
      at : line_at script op.thread op.line ≡ Some found
      does : operation_of found ≡ Some (operation_in op)
      process : run.is_process_line script found ≡ true

    line-of : (op : OpRec) (o : Option lines.Line) → line_at script op.thread op.line ≡ o
        → option_and_then operation_of o ≡ Some (operation_in op)
        → names_process_line script o ≡ true → IsLineOf op
    line-of op None at does known = absurd cc
    line-of op (Some l) at does known =
        record { found = l; at = at; does = does; process = known }

    -- an operation makes no more words than are counted of its line among all process lines
    pub shared-most : (op : OpRec) → IsOpOf script op
        → words_made script (operation_in op)
        ≤ shared_words script (item_at line.Snapshot script.threads op.thread (op.line - 1))
    shared-most op is =
        let l = line-of op (line_at script op.thread op.line) refl is.does is.known in
        let there : item_at line.Snapshot script.threads op.thread (op.line - 1) ≡ l.found =
        get_or_from_slice_get (thread_lines op.thread) (op.line - 1) l.found line.Snapshot
        (numbered-line op.line (op.line == 0) (thread_lines op.thread) l.found l.at) in
        let right = line_at-placed script op.thread op.line l.found runnable l.at in
        let words : words_made script (operation_in op) ≡ words_of_line script l.found =
        sym (ap (words_if script) l.does) in
        let all : shared_words script l.found ≡ counted l.found =
        ap (λ (b : Bool). if b then counted l.found else 0)
        (process-line script l.found l.process) in
        let same : shared_words script (item_at line.Snapshot script.threads op.thread
        (op.line - 1)) ≡ shared_words script l.found = ap (shared_words script) there in
        omega (arith, words, words-counted l.found right, all, same)
