-- A journal of a script's shape has no more lines than the script; and which of them are refused.
use Rattle.std.proofs.Common.{◌≡◌, ◌+◌, ℕ, List, [], ◌∷◌, length, refl, ap, arith}
use Rattle.std.specs.Prelude.{sum_by, count_by, if◌then◌else◌}
use Rattle.std.specs.List.{AllZip}
use Rattle.std.proofs.lemmas.List.Sums.{sum_by-cons}
use Rattle.cal_run.specs.Refused as run
use Rattle.cal_run.specs.Seeing.{CanBeRead}
use Rattle.cal_script.specs.declared.journal.Journal.{Journal}
use Rattle.cal_script.specs.declared.journal.LineNote.{LineNote}
use Rattle.cal_script.specs.declared.journal.Reply as replies
use Rattle.cal_script.specs.declared.journal.Reply.TheVariants as reply
use Rattle.cal_script.specs.declared.journal.ThreadNote.{ThreadNote}
use Rattle.cal_script.specs.declared.script.Line.{Line}
use Rattle.cal_script.specs.declared.script.Script.{Script}
use Rattle.cal_script.specs.Valid.{IsRunnable}
use Rattle.cal_call.specs.Refusals.{HasFewLines, is_refusal, refused_of}

same_lines : (threads : List (List Line)) (notes : List ThreadNote)
    → AllZip (λ (thread : List Line) (note : ThreadNote). length note.lines ≡ length thread)
    threads notes
    → sum_by (λ (note : ThreadNote). length note.lines) notes ≡ sum_by length threads
same_lines [] [] shape = refl
same_lines [] (note ∷ notes) shape = absurd shape
same_lines (thread ∷ threads) [] shape = absurd shape
same_lines (thread ∷ threads) (note ∷ notes) shape =
    let rest = same_lines threads notes shape.1 in
    let one = shape.0 in
    let left = sum_by-cons (λ (n : ThreadNote). length n.lines) note notes in
    let right = sum_by-cons {X = List Line} length thread threads in
    omega (arith, rest, one, left, right)

pub few_lines : (script : Script) (journal : Journal) → IsRunnable script → CanBeRead script journal
    → HasFewLines journal
few_lines script journal runnable read =
    let few = runnable.few_lines in
    omega (arith, same_lines script.threads journal.threads read.shape, few)

-- ---- what a run counts as refused

refused-reply : (r : replies.Reply) → run.is_refused r ≡ is_refusal r
refused-reply reply.Done = refl
refused-reply (reply.Mismatch top) = refl
refused-reply reply.NotOpen = refl
refused-reply reply.TooDeep = refl
refused-reply reply.SlotsFull = refl
refused-reply reply.Merged = refl
refused-reply (reply.Busy holder) = refl

refused-notes : (notes : List LineNote)
    → run.refused_of notes ≡ count_by (λ (n : LineNote). is_refusal n.reply) notes
refused-notes [] = refl
refused-notes (n ∷ ns) =
    let rest = refused-notes ns in
    let one = ap {B = ℕ} (λ b. if b then 1 else 0) (refused-reply n.reply) in
    let left = sum_by-cons (λ (n : LineNote). if run.is_refused n.reply then 1 else 0) n ns in
    let right = sum_by-cons (λ (n : LineNote). if is_refusal n.reply then 1 else 0) n ns in
    omega (arith, rest, one, left, right)

pub refused-same : (threads : List ThreadNote)
    → run.refused_in threads ≡ sum_by refused_of threads
refused-same [] = refl
refused-same (t ∷ ts) =
    let rest = refused-same ts in
    let one = refused-notes t.lines in
    let left = sum_by-cons (λ (t : ThreadNote). run.refused_of t.lines) t ts in
    let right = sum_by-cons refused_of t ts in
    omega (arith, rest, one, left, right)
