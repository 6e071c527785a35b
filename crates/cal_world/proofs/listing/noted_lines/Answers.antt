use Rattle.std.proofs.Common.{◌≡◌, ◌<◌, List, length, get_or, ap, sym, ◌∙◌, arith}
use Rattle.std.proofs.lemmas.List.{get_or_default}
use Rattle.std.proofs.lemmas.List.Sums.{get_or-le-sum_by}
use Rattle.cal_run.proofs.NumberLemmas.{all_zip-at}
use Rattle.cal_script.specs.declared.journal.ThreadNote.{ThreadNote}
use Rattle.cal_script.specs.declared.script.Line.{Line}
use Rattle.cal_world.proofs.TurnLemmas.{notes-long}
use Rattle.cal_world.proofs.listing.noted_lines.Goals as goal

pub bounds-notes-thread : goal.bounds-notes-thread
bounds-notes-thread c =
    let long = notes-long c.args.script.now c.args.journal.now c.requires.shape in
    let same = ap length c.as_slice-notes.ensures in
    omega (arith, long, same)

pub returns-clause-notes : goal.returns-clause-notes
returns-clause-notes c = λ d.
    let notes = c.args.journal.now.threads in
    let t = c.args.thread in
    let n = c.index-notes-thread.result in
    let long = notes-long c.args.script.now c.args.journal.now c.requires.shape in
    let below : t < length notes = omega (arith, long) in
    let is : get_or c.as_slice-notes.result.now t n ≡ get_or notes t d =
    ap (λ (xs : List ThreadNote). get_or xs t n) c.as_slice-notes.ensures
    ∙ get_or_default notes t n d below in
    c.as_slice-2.ensures ∙ ap (λ (x : ThreadNote). x.lines) is

pub returns-clause-noted : goal.returns-clause-noted
returns-clause-noted c =
    let threads = c.args.script.now.threads in
    let notes = c.args.journal.now.threads in
    let t = c.args.thread in
    let ls = c.index-threads-thread.result in
    let n = c.index-notes-thread.result in
    let note : get_or c.as_slice-notes.result.now t n ≡ get_or notes t n =
    ap (λ (xs : List ThreadNote). get_or xs t n) c.as_slice-notes.ensures in
    let lines : ls ≡ get_or threads t ls = c.index-threads-thread.is
    ∙ ap (λ (xs : List (List Line)). get_or xs t ls) c.as_slice-threads.ensures in
    ap length c.as_slice-2.ensures
    ∙ ap (λ (x : ThreadNote). length x.lines) note
    ∙ all_zip-at (λ (thread : List Line) (note : ThreadNote). length note.lines ≡ length thread)
    threads notes t ls n c.requires.shape c.requires.within
    ∙ ap length (sym lines)
    ∙ ap length (sym c.as_slice.ensures)

pub returns-clause-few : goal.returns-clause-few
returns-clause-few c =
    let threads = c.args.script.now.threads in
    let t = c.args.thread in
    let ls = c.index-threads-thread.result in
    let lines : ls ≡ get_or threads t ls = c.index-threads-thread.is
    ∙ ap (λ (xs : List (List Line)). get_or xs t ls) c.as_slice-threads.ensures in
    let most = get_or-le-sum_by length threads t ls c.requires.within in
    let same = ap length lines in
    let whole = ap length c.as_slice.ensures in
    omega (arith, most, same, whole, c.requires.runnable.few_lines)
