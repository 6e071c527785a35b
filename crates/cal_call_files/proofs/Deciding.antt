-- What an opener tells of the names decides what is answered: the files are too long from one of
-- them on, or have a first fault, or are streams, and only one of these.
use Rattle.std.proofs.Common.{◌≡◌, ℕ, ◌+◌, ◌<◌, ◌≤◌, inl, inr, List, length, take, refl}
use Rattle.std.proofs.Common.{subst, ap, arith}
use Rattle.std.specs.Prelude.{Option, Some, None, Result, Ok, Err}
use Rattle.std.specs.List.{All}
use Rattle.std.proofs.lemmas.Bool.{cases_order}
use Rattle.std.proofs.lemmas.List.{take-take}
use Rattle.std.proofs.lemmas.List.Sums.{sum_by-take-le}
use Rattle.cal_base.specs.Change.{Change, HasFailed}
use Rattle.cal_call.specs.Causes.{input_limit}
use Rattle.cal_files.specs.Files.{bytes_of_all}
use Rattle.cal_files.specs.OpenerChange.{OpenerChange}
use Rattle.cal_multi.specs.Many.{IsFirstBad, IsSound}
use Rattle.cal_read.specs.declared.kind.StreamKind.{StreamKind}
use Rattle.cal_call_files.specs.Answers.{Answers, Reads}
use Rattle.cal_call_files.specs.Deciding.{AreTold, FilesDecide, IsDue, PassesIn}
use Rattle.cal_call_files.specs.Tasks.{FilesTask, Refusal, by_text, by_word}
use Rattle.cal_call_files.specs.declared.fault.FilesFault as faults
use Rattle.cal_call_files.specs.declared.fault.FilesFault.TheVariants as fault
use Rattle.cal_call_files.proofs.FirstBad.{all_sound, one_bad, sound_and_bad}
use Rattle.cal_call_files.proofs.SameFiles.{passes, same_files}

module _ (files : List (List ℕ)) where
  -- files within the limit pass it nowhere
  passes_nowhere : (place : ℕ) → bytes_of_all files ≤ input_limit → PassesIn files place → ⊥
  passes_nowhere place within over =
      omega (arith, within, over.2, sum_by-take-le length files (place + 1))

  -- where they pass the limit, no later files are within it
  passes_once : (place other : ℕ) → place < other → PassesIn files place → PassesIn files other → ⊥
  passes_once place other less over also =
      let next : place + 1 ≤ other = omega (arith, less) in
      let longer = sum_by-take-le length (take other files) (place + 1) in
      let same = ap bytes_of_all (take-take (place + 1) other files next) in
      omega (arith, longer, same, over.2, also.1)

  -- they pass it in one file
  one_passing : (place other : ℕ) → PassesIn files place → PassesIn files other → place ≡ other
  one_passing place other over also =
      elim (cases_order place other) [
        | inl same ↦ same
        | inr apart ↦ elim apart [
          | inl less ↦ absurd (passes_once place other less over also)
          | inr more ↦ absurd (passes_once other place more also over)
        ]
      ]

  module _ (output : Change) where
    -- too many bytes, from a file on
    due_over : (file : ℕ) → PassesIn files file → IsDue files output (Some (fault.TooLong file))
    due_over file over = record {
      too_long = λ other. (
        λ is. let same : file ≡ other = cc in subst (PassesIn files) same over,
        λ also. rw (one_passing file other over also) refl,
      );
      bad_input = λ place line kind. (
        λ is. absurd cc,
        λ both. absurd (passes_nowhere file both.0 over),
      );
      whole = λ sound. (λ is. absurd cc, λ both. absurd (passes_nowhere file both.0 over));
    }

    -- a first fault
    due_bad : (file line : ℕ) (kind : StreamKind) → bytes_of_all files ≤ input_limit
        → IsFirstBad files file line kind
        → IsDue files output (Some (fault.BadInput file line kind))
    due_bad file line kind within bad = record {
      too_long = λ other. (λ is. absurd cc, λ over. absurd (passes_nowhere other within over));
      bad_input = λ place other kinds. (
        λ is.
            let file_is : file ≡ place = cc in
            let line_is : line ≡ other = cc in
            let kind_is : kind ≡ kinds = cc in
            (within, rw (← file_is, ← line_is, ← kind_is) bad),
        λ both.
            let one = one_bad files file place line other kind kinds bad both.1 in
            rw (one.0, one.1, one.2) refl,
      );
      whole = λ sound. (
        λ is. absurd cc,
        λ both. absurd (sound_and_bad files file line kind both.1 bad),
      );
    }

    -- streams, of which the text was written whole
    due_done : bytes_of_all files ≤ input_limit → All IsSound files → IsDue files output None
    due_done within sound = record {
      too_long = λ other. (λ is. absurd cc, λ over. absurd (passes_nowhere other within over));
      bad_input = λ place line kind. (
        λ is. absurd cc,
        λ both. absurd (sound_and_bad files place line kind sound both.1),
      );
      whole = λ well. (λ is. (within, sound), λ both. refl);
    }

    -- streams, of which the text wasn't written whole
    due_failed : bytes_of_all files ≤ input_limit → All IsSound files → HasFailed output
        → IsDue files output (Some fault.WriteFault)
    due_failed within sound failed = record {
      too_long = λ other. (λ is. absurd cc, λ over. absurd (passes_nowhere other within over));
      bad_input = λ place line kind. (
        λ is. absurd cc,
        λ both. absurd (sound_and_bad files place line kind sound both.1),
      );
      whole = λ well. absurd (well failed);
    }

-- what holds of the files that were read holds of those that are told
of_the_told : (opener : OpenerChange) (names files : List (List ℕ)) (P Q : List (List ℕ) → Type 0)
    → AreTold opener.content names files → Reads opener names P
    → ((read : List (List ℕ)) → bytes_of_all read ≤ input_limit → P read → Q read) → Q files
of_the_told opener names files P Q tells reads then =
    subst Q (same_files opener.content names reads.0 files reads.1.each tells)
    (then reads.0 reads.1.within reads.2)

-- what is answered is what the files call for
pub answers_decide : (asked : Result FilesTask Refusal) (opener : OpenerChange) (output : Change)
    (answer : Option faults.FilesFault) → Answers asked opener output answer
    → FilesDecide asked opener output answer
answers_decide (Err (by_word place)) opener output answer given = tt
answers_decide (Err (by_text found)) opener output answer given = λ memory.
    elim given [ inl told ↦ told | inr ran ↦ absurd (memory ran) ]
answers_decide (Ok task) opener output None given = λ opened read memory files tells.
    of_the_told opener task.names files _ _ tells given (λ own within written.
    due_done own output within (all_sound own written.1.many.all written.1.many.streams))
answers_decide (Ok task) opener output (Some (fault.Usage word)) given = absurd given
answers_decide (Ok task) opener output (Some (fault.BadInput file line kind)) given =
    λ opened read memory files tells.
    of_the_told opener task.names files _ _ tells given (λ own within bad.
    due_bad own output file line kind within bad)
answers_decide (Ok task) opener output (Some (fault.BadQuery place kind)) given = absurd given
answers_decide (Ok task) opener output (Some (fault.ReadFault file)) given =
    λ opened read memory files tells. absurd (read given.0)
answers_decide (Ok task) opener output (Some fault.WriteFault) given =
    λ opened read memory files tells.
    of_the_told opener task.names files _ _ tells given.1 (λ own within written.
    due_failed own output within (all_sound own written.1.many.all written.1.many.streams) given.0)
answers_decide (Ok task) opener output (Some fault.OutOfMemory) given =
    λ opened read memory files tells. absurd (memory refl)
answers_decide (Ok task) opener output (Some (fault.TooLong file)) given =
    λ opened read memory files tells.
    due_over files output file (passes opener.content task.names files file tells given.1)
answers_decide (Ok task) opener output (Some (fault.OpenFault file)) given =
    λ opened read memory files tells. absurd (opened given.0)
