use Rattle.std.proofs.Common.{◌≡◌, ◌<◌, ◌≤◌, List, length, get_or, subst, sym, ap, ◌∙◌, arith}
use Rattle.std.specs.Prelude.{count_by, zip}
use Rattle.std.proofs.lemmas.List.Sums.{get_or-le-sum_by, sum_by-take-le, sum_by_more_le}
use Rattle.std.proofs.lemmas.Slice.Zip.{AllZip-long}
use Rattle.cal_run.proofs.CountLemmas.{snapshots-counted}
use Rattle.cal_run.proofs.NumberLemmas.{all_zip-at}
use Rattle.cal_run.specs.Counting.{count_noted, is_noted_taken}
use Rattle.cal_script.specs.declared.journal.LineNote.{LineNote}
use Rattle.cal_script.specs.declared.journal.ThreadNote.{ThreadNote}
use Rattle.cal_script.specs.declared.script.Line.{Line}
use Rattle.cal_counts.proofs.CountingLemmas.{sum-all, sum-more, sum-more_le, zip-at, zip-below}
use Rattle.cal_counts.proofs.CountingLemmas.{zip-past}
use Rattle.cal_counts.proofs.snapshots.count_taken.Goals as goal

pub bounds-notes-number : goal.bounds-notes-number
bounds-notes-number c =
    let long = AllZip-long (λ (thread : List Line) (note : ThreadNote). length note.lines
    ≡ length thread) c.args.script.now.threads c.args.journal.now.threads
    c.requires.lawful.shape in
    let es = ap length c.as_slice-threads.ensures in
    let en = ap length c.as_slice-notes.ensures in
    let below = c.loop-number-test.true in
    omega (arith, long, es, en, below)

pub count_lines-count-requires-clause-few : goal.count_lines-count-requires-clause-few
count_lines-count-requires-clause-few c =
    let script = c.args.script.now in
    let i = c.loop-number.number in
    let th = c.index-threads-number.result in
    let lines : th ≡ get_or script.threads i th = c.index-threads-number.is
    ∙ (λ j. get_or (c.as_slice-threads.ensures j) i th) in
    let below : i < length script.threads =
    subst (λ (ts : List (List Line)). i < length ts) c.as_slice-threads.ensures
    c.loop-number-test.true in
    let most = get_or-le-sum_by {X = List Line} length script.threads i th below in
    let same = ap (λ (ls : List Line). length ls) (c.as_slice-lines.ensures ∙ lines) in
    omega (arith, most, same, c.requires.few_lines)

pub count_lines-count-requires-clause-noted : goal.count_lines-count-requires-clause-noted
count_lines-count-requires-clause-noted c =
    let script = c.args.script.now in
    let journal = c.args.journal.now in
    let i = c.loop-number.number in
    let th = c.index-threads-number.result in
    let n = c.index-notes-number.result in
    let lines : th ≡ get_or script.threads i th = c.index-threads-number.is
    ∙ (λ j. get_or (c.as_slice-threads.ensures j) i th) in
    let noted : n ≡ get_or journal.threads i n = c.index-notes-number.is
    ∙ (λ j. get_or (c.as_slice-notes.ensures j) i n) in
    let below : i < length script.threads =
    subst (λ (ts : List (List Line)). i < length ts) c.as_slice-threads.ensures
    c.loop-number-test.true in
    ap (λ (ns : List LineNote). length ns) c.as_slice-noted.ensures
    ∙ ap (λ (m : ThreadNote). length m.lines) (sym c.index-notes-number.is ∙ noted)
    ∙ all_zip-at (λ (thread : List Line) (note : ThreadNote). length note.lines ≡ length thread)
    script.threads journal.threads i th n c.requires.lawful.shape below
    ∙ ap (λ (ls : List Line). length ls) (sym lines ∙ sym c.as_slice-lines.ensures)

pub overflow_add-count : goal.overflow_add-count
overflow_add-count c =
    let script = c.args.script.now in
    let i = c.loop-number.number in
    let th = c.index-threads-number.result in
    let lines : th ≡ get_or script.threads i th = c.index-threads-number.is
    ∙ (λ j. get_or (c.as_slice-threads.ensures j) i th) in
    let below : i < length script.threads =
    subst (λ (ts : List (List Line)). i < length ts) c.as_slice-threads.ensures
    c.loop-number-test.true in
    let most = sum_by_more_le {X = List Line} length script.threads i th below in
    let same = ap (λ (ls : List Line). length ls) (c.as_slice-lines.ensures ∙ lines) in
    omega (
      arith,
      most,
      same,
      c.requires.few_lines,
      c.count_lines-count.ensures.few,
      c.loop-number.invariant.few,
    )

pub loop-number-preserved : goal.loop-number-preserved
loop-number-preserved c =
    let script = c.args.script.now in
    let journal = c.args.journal.now in
    let channel = c.args.channel.now in
    let i = c.loop-number.number in
    let th = c.index-threads-number.result in
    let n = c.index-notes-number.result in
    let lines : th ≡ get_or script.threads i th = c.index-threads-number.is
    ∙ (λ j. get_or (c.as_slice-threads.ensures j) i th) in
    let noted : n ≡ get_or journal.threads i n = c.index-notes-number.is
    ∙ (λ j. get_or (c.as_slice-notes.ensures j) i n) in
    let below : i < length script.threads =
    subst (λ (ts : List (List Line)). i < length ts) c.as_slice-threads.ensures
    c.loop-number-test.true in
    let long = AllZip-long (λ (thread : List Line) (note : ThreadNote). length note.lines
    ≡ length thread) script.threads journal.threads c.requires.lawful.shape in
    let own : c.as_slice-noted.result.now ≡ n.lines = c.as_slice-noted.ensures
    ∙ ap (λ (m : ThreadNote). m.lines) (sym c.index-notes-number.is) in
    let same = ap (λ (ls : List Line). length ls) c.as_slice-lines.ensures in
    record {
      counted = sum-more (count_noted script channel) (zip script.threads journal.threads) i
          (th, n) c.loop-number.count c.count_lines-count.result
          (zip-below script.threads journal.threads long i below)
          (zip-at script.threads journal.threads long i th n lines noted below)
          (c.count_lines-count.ensures.counted
          ∙ (λ j. count_by (is_noted_taken script channel)
          (zip (c.as_slice-lines.ensures j) (own j))))
          c.loop-number.invariant.counted;
      few = sum-more_le {X = List Line} length script.threads i th c.loop-number.count
          c.count_lines-count.result below lines
          (omega (arith, same, c.count_lines-count.ensures.few)) c.loop-number.invariant.few;
    }

pub returns-clause-counted : goal.returns-clause-counted
returns-clause-counted c =
    let script = c.args.script.now in
    let journal = c.args.journal.now in
    let channel = c.args.channel.now in
    let i = c.loop-number.number in
    let long = AllZip-long (λ (thread : List Line) (note : ThreadNote). length note.lines
    ≡ length thread) script.threads journal.threads c.requires.lawful.shape in
    let past : length script.threads ≤ i =
    subst (λ (ts : List (List Line)). length ts ≤ i) c.as_slice-threads.ensures
    c.loop-number-test.false in
    sum-all (count_noted script channel) (zip script.threads journal.threads) i
    c.loop-number.count (zip-past script.threads journal.threads long i past)
    c.loop-number.invariant.counted
    ∙ sym (snapshots-counted script journal channel c.requires.lawful)

pub returns-clause-few : goal.returns-clause-few
returns-clause-few c =
    let script = c.args.script.now in
    let most = sum_by-take-le {X = List Line} length script.threads c.loop-number.number in
    omega (arith, most, c.requires.few_lines, c.loop-number.invariant.few)
