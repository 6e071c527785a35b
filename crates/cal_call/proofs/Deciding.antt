-- The bytes of an input decide the answer: they have one first fault or a text, and not both.
use Rattle.std.proofs.Common.{◌≡◌, ℕ, ◌<◌, ◌≤◌, inl, inr, List, [], length, length-append, lit≤}
use Rattle.std.proofs.Common.{Option, Some, None, IfSome, Result, Ok, Err, refl, sym, ap, subst}
use Rattle.std.proofs.Common.{◌∙◌, arith}
use Rattle.std.proofs.lemmas.Option.{IfSome_then}
use Rattle.cal_base.specs.Change.{Change, HasFailed}
use Rattle.cal_base.specs.Told.{TakesOver}
use Rattle.cal_base.specs.declared.reading.ReadEnd.TheVariants as end
use Rattle.cal_base.proofs.Taking.{ReadsAll-left}
use Rattle.cal_line.proofs.FirstFaults.{falls_whole, one_first}
use Rattle.cal_line.specs.FirstFault.{after_lines}
use Rattle.cal_line.specs.Lines as lines
use Rattle.cal_read.specs.Stream.{line_step, no_lines}
use Rattle.cal_script.specs.declared.journal.Journal.{Journal}
use Rattle.cal_call.specs.Causes.{input_limit, Answers, BytesDecide, HasFault, HasText, IsDue}
use Rattle.cal_call.specs.Causes.{ReadsInput, Says}
use Rattle.cal_call.specs.Causes.{Stops, WorksOn, bytes_for}
use Rattle.cal_call.specs.Inputs.{IsFaultOf, Makes}
use Rattle.cal_call.specs.Refusals.{refused_lines}
use Rattle.cal_call.specs.declared.fault.Fault as faults
use Rattle.cal_call.specs.declared.fault.Fault.TheVariants as fault
use Rattle.cal_call.specs.declared.fault.InputKind.{InputKind}
use Rattle.cal_call.specs.declared.fault.InputKind.TheVariants.{Stream}
use Rattle.cal_call.specs.Tasks.{Task, GenTask, SerialTask, ThreadsTask, QueryTask}
use Rattle.cal_call.specs.Tasks.{Refusal, by_word, by_text}
use Rattle.cal_call.proofs.RunFaults.{IsOneRule, fault_and_run, one_run, one_run_fault}
use Rattle.cal_call.proofs.ScriptFaults.{fault_and_script, one_script_fault}

-- bytes with a text have no first fault
fault_and_text : IsOneRule → (task : Task) (bytes text : List ℕ) (journal : Journal) (line : ℕ)
    (kind : InputKind) → IsFaultOf task bytes line kind → Makes task bytes text journal → ⊥
fault_and_text law (GenTask seed threads lines print) bytes text journal line kind faulty is =
    faulty
fault_and_text law SerialTask bytes text journal line kind faulty is =
    fault_and_run law bytes is.0 journal line kind faulty is.1
fault_and_text law (ThreadsTask shown real) bytes text journal line kind faulty is =
    fault_and_script bytes line kind is.0 faulty is.1.means
fault_and_text law (QueryTask query join) bytes text journal line kind faulty is =
    let falls : after_lines line_step no_lines (lines.lines_of bytes) ≡ Err faulty.0 =
    falls_whole line_step no_lines (lines.lines_of bytes) line faulty.0 faulty.2 in
    let stands = is.0.stream.stream in
    absurd cc

-- bytes have one first fault
one_fault : IsOneRule → (task : Task) (bytes : List ℕ) (line other : ℕ) (kind others : InputKind)
    → IsFaultOf task bytes line kind → IsFaultOf task bytes other others → (line ≡ other)
    × (kind ≡ others)
one_fault law (GenTask seed threads lines print) bytes line other kind others faulty also =
    absurd faulty
one_fault law SerialTask bytes line other kind others faulty also =
    one_run_fault law bytes line other kind others faulty also
one_fault law (ThreadsTask shown real) bytes line other kind others faulty also =
    one_script_fault bytes line other kind others faulty also
one_fault law (QueryTask query join) bytes line other kind others faulty also =
    let one =
    one_first line_step no_lines (lines.lines_of bytes) line other faulty.0 also.0 faulty.2
    also.2 in
    (one.0, faulty.1 ∙ ap Stream one.1 ∙ sym also.1)

-- the bytes settle the journal
abbrev Settles : Task → Type 0
Settles (ThreadsTask shown real) = ⊥
Settles _ = Unit {0}

says : (task : Task) (A B : Type 0) → (A → B) → (Settles task → B → A) → Says task A B
says (GenTask seed threads lines print) A B to from = (to, from tt)
says SerialTask A B to from = (to, from tt)
says (ThreadsTask shown real) A B to from = to
says (QueryTask query join) A B to from = (to, from tt)

-- bytes with a text have one journal, where they settle it
one_journal : (task : Task) → Settles task → (bytes text texts : List ℕ) (journal other : Journal)
    → Makes task bytes text journal → Makes task bytes texts other → journal ≡ other
one_journal (GenTask seed threads lines print) settled bytes text texts journal other is also =
    is.1 ∙ sym also.1
one_journal SerialTask settled bytes text texts journal other is also =
    (one_run bytes is.0 also.0 journal other is.1 also.1).1
one_journal (ThreadsTask shown real) settled bytes text texts journal other is also =
    absurd settled
one_journal (QueryTask query join) settled bytes text texts journal other is also =
    is.1 ∙ sym also.1

one_count : (task : Task) → Settles task → (bytes text : List ℕ) (journal : Journal) (lines : ℕ)
    → Makes task bytes text journal → HasText task bytes lines → refused_lines journal ≡ lines
one_count task settled bytes text journal lines is also =
    ap refused_lines (one_journal task settled bytes text also.1 journal also.2 is also.3) ∙ also.4

module _ (law : IsOneRule) (task : Task) (bytes : List ℕ) (output : Change) where
  says_none : (answer : Option faults.Fault) → (answer ≡ None → HasText task bytes 0)
      → (Settles task → HasText task bytes 0 → answer ≡ None)
      → Says task (answer ≡ None) (HasText task bytes 0)
  says_none answer to from = says task (answer ≡ None) (HasText task bytes 0) to from

  says_refused : (answer : Option faults.Fault) (lines : ℕ)
      → (answer ≡ Some (fault.LinesRefused lines) → (0 < lines) × HasText task bytes lines)
      → (Settles task → (0 < lines) × HasText task bytes lines
      → answer ≡ Some (fault.LinesRefused lines))
      → Says task (answer ≡ Some (fault.LinesRefused lines)) ((0 < lines) × HasText task bytes lines)
  says_refused answer lines to from =
      says task (answer ≡ Some (fault.LinesRefused lines)) ((0 < lines) × HasText task bytes lines)
      to from

  -- too many bytes
  due_over : input_limit < length bytes → IsDue task bytes output (Some fault.TooLong)
  due_over over = record {
    too_long = (λ _. over, λ _. refl);
    bad_input = λ line kind. (λ is. absurd cc, λ both. absurd (omega (arith, both.0)));
    whole = λ sound. (λ is. absurd cc, λ both. absurd (omega (arith, both.1.0)));
    written = λ sound. says_none (Some fault.TooLong) (λ is. absurd cc)
        (λ settled both. absurd (omega (arith, both.0)));
    refused = λ sound lines. says_refused (Some fault.TooLong) lines (λ is. absurd cc)
        (λ settled both. absurd (omega (arith, both.1.0)));
  }

  -- a first fault
  due_fault : (line : ℕ) (kind : InputKind) → length bytes ≤ input_limit
      → IsFaultOf task bytes line kind
      → IsDue task bytes output (Some (fault.BadInput line kind))
  due_fault line kind within faulty =
      let none : (lines : ℕ) → HasText task bytes lines → ⊥ =
      λ lines both. fault_and_text law task bytes both.1 both.2 line kind faulty both.3 in
      record {
        too_long = (λ is. absurd cc, λ over. absurd (omega arith));
        bad_input = λ other others. (
          λ is.
              let line_is : line ≡ other = cc in
              let kind_is : kind ≡ others = cc in (within, rw (← line_is, ← kind_is) faulty),
          λ both.
              let one = one_fault law task bytes line other kind others faulty both.1 in
              rw (one.0, one.1) refl,
        );
        whole = λ sound. (λ is. absurd cc, λ both. absurd (none both.0 both.1));
        written = λ sound. says_none (Some (fault.BadInput line kind)) (λ is. absurd cc)
            (λ settled both. absurd (none 0 both));
        refused = λ sound lines. says_refused (Some (fault.BadInput line kind)) lines
            (λ is. absurd cc) (λ settled both. absurd (none lines both.1));
      }

  module _ (text : List ℕ) (journal : Journal) (within : length bytes ≤ input_limit)
      (is : Makes task bytes text journal) where
    no_fault : (line : ℕ) (kind : InputKind) → HasFault task bytes line kind → ⊥
    no_fault line kind both = fault_and_text law task bytes text journal line kind both.1 is

    has_text : (lines : ℕ) → refused_lines journal ≡ lines → HasText task bytes lines
    has_text lines counted = (within, text, journal, is, counted)

    some_text : (lines : ℕ) × HasText task bytes lines
    some_text = (refused_lines journal, has_text (refused_lines journal) refl)

    count : Settles task → (lines : ℕ) → HasText task bytes lines → refused_lines journal ≡ lines
    count settled lines also = one_count task settled bytes text journal lines is also

    -- a text without refused lines
    due_done : refused_lines journal ≡ 0 → IsDue task bytes output None
    due_done none = record {
      too_long = (λ long. absurd cc, λ over. absurd (omega arith));
      bad_input = λ line kind. (λ bad. absurd cc, λ both. absurd (no_fault line kind both));
      whole = λ sound. (λ _. some_text, λ _. refl);
      written = λ sound. says_none None (λ _. has_text 0 none) (λ settled _. refl);
      refused = λ sound lines. says_refused None lines (λ bad. absurd cc)
          (λ settled both. absurd (omega (arith, both.0, count settled lines both.1, none)));
    }

    -- a text with refused lines
    due_refused : 0 < refused_lines journal
        → IsDue task bytes output (Some (fault.LinesRefused (refused_lines journal)))
    due_refused some =
        record {
          too_long = (λ long. absurd cc, λ over. absurd (omega arith));
          bad_input = λ line kind. (λ bad. absurd cc, λ both. absurd (no_fault line kind both));
          whole = λ sound. (λ _. some_text, λ _. refl);
          written = λ sound. says_none (Some (fault.LinesRefused (refused_lines journal)))
              (λ bad. absurd cc)
              (λ settled both. absurd (omega (arith, some, count settled 0 both)));
          refused = λ sound lines. says_refused
              (Some (fault.LinesRefused (refused_lines journal))) lines
              (λ told. let counted : refused_lines journal ≡ lines = cc in
              (rw (← counted) some, has_text lines counted))
              (λ settled both. rw (count settled lines both.1) refl);
        }

    -- a text that wasn't written whole
    due_failed : HasFailed output → IsDue task bytes output (Some fault.WriteFault)
    due_failed failed = record {
      too_long = (λ long. absurd cc, λ over. absurd (omega arith));
      bad_input = λ line kind. (λ bad. absurd cc, λ both. absurd (no_fault line kind both));
      whole = λ sound. absurd (sound failed);
      written = λ sound. absurd (sound failed);
      refused = λ sound lines. absurd (sound failed);
    }

-- what was taken beyond the limit was left before
pub left_over : (limit : ℕ) (old new : Option (List ℕ)) → TakesOver limit old new
    → IfSome old (λ left. limit < length left)
left_over limit None new taken = tt
left_over limit (Some old) None taken = absurd taken.2
left_over limit (Some old) (Some new) taken =
    omega (arith, taken.1, ap length taken.2, length-append taken.0 new)

-- what holds of the bytes that were read holds of those that were left
pub of_the_left : (input : Change) (P Q : List ℕ → Type 0) → ReadsInput input P
    → ((bytes : List ℕ) → length bytes ≤ input_limit → P bytes → Q bytes) → IfSome input.old Q
of_the_left input P Q reads then =
    IfSome_then input.old (ReadsAll-left input_limit input reads.0 reads.1) (λ left same.
    subst Q (sym same) (then reads.0 reads.1.within reads.2))

-- the same of the bytes that a task works on
of_the_bytes : (task : Task) (input : Change) (P Q : List ℕ → Type 0) → WorksOn task input P
    → ((bytes : List ℕ) → length bytes ≤ input_limit → P bytes → Q bytes)
    → IfSome (bytes_for task input) Q
of_the_bytes (GenTask seed threads lines print) input P Q works then = then [] (lit≤ tt) works
of_the_bytes SerialTask input P Q works then = of_the_left input P Q works then
of_the_bytes (ThreadsTask shown real) input P Q works then = of_the_left input P Q works then
of_the_bytes (QueryTask query join) input P Q works then = of_the_left input P Q works then

-- a task whose input is too long works on more bytes than the limit
over_the_limit : (task : Task) (input : Change) → Stops task end.TooLong input
    → IfSome (bytes_for task input) (λ bytes. input_limit < length bytes)
over_the_limit (GenTask seed threads lines print) input long = absurd cc
over_the_limit SerialTask input long = left_over input_limit input.old input.new long
over_the_limit (ThreadsTask shown real) input long =
    left_over input_limit input.old input.new long
over_the_limit (QueryTask query join) input long = left_over input_limit input.old input.new long

-- a task whose reading failed has an input that failed
failed_input : (task : Task) (input : Change) → Stops task end.ReadFault input → HasFailed input
failed_input (GenTask seed threads lines print) input fails = absurd cc
failed_input SerialTask input fails = fails.0
failed_input (ThreadsTask shown real) input fails = fails.0
failed_input (QueryTask query join) input fails = fails.0

-- what is answered is what the bytes call for
pub answers_decide : IsOneRule → (asked : Result Task Refusal) (input output : Change)
    (journal : Journal) (answer : Option faults.Fault) → Answers asked input output journal answer
    → BytesDecide asked input output answer
answers_decide law (Err (by_word place)) input output journal answer given = tt
answers_decide law (Err (by_text f)) input output journal answer given = λ memory.
    elim given [ inl told ↦ told | inr ran ↦ absurd (memory ran) ]
answers_decide law (Ok task) input output journal None given = λ sound memory.
    of_the_bytes task input _ _ given.0 (λ bytes within written.
    due_done law task bytes output written.0 journal within written.1 given.1)
answers_decide law (Ok task) input output journal (Some (fault.LinesRefused lines)) given =
    λ sound memory. of_the_bytes task input _ _ given.0 (λ bytes within written.
    let some : 0 < refused_lines journal = rw (← given.1) given.2 in
    rw given.1 (due_refused law task bytes output written.0 journal within written.1 some))
answers_decide law (Ok task) input output journal (Some (fault.Usage word)) given = absurd given
answers_decide law (Ok task) input output journal (Some (fault.BadInput line kind)) given =
    λ sound memory. of_the_bytes task input _ _ given (λ bytes within faulty.
    due_fault law task bytes output line kind within faulty)
answers_decide law (Ok task) input output journal (Some (fault.BadQuery place kind)) given =
    absurd given
answers_decide law (Ok task) input output journal (Some fault.ReadFault) given =
    λ sound memory. absurd (sound (failed_input task input given))
answers_decide law (Ok task) input output journal (Some fault.WriteFault) given =
    λ sound memory. of_the_bytes task input _ _ given.1 (λ bytes within written.
    due_failed law task bytes output written.0 journal within written.1 given.0)
answers_decide law (Ok task) input output journal (Some fault.OutOfMemory) given =
    λ sound memory. absurd (memory refl)
answers_decide law (Ok task) input output journal (Some fault.TooLong) given = λ sound memory.
    IfSome_then (bytes_for task input) (over_the_limit task input given) (λ left over.
    due_over law task left output over)
