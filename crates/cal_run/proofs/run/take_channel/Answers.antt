use Rattle.std.proofs.Common.{◌≡◌, ◌<◌, ◌≤◌, List, length, get_or, subst, sym, ap, ◌∙◌, arith, refl}
use Rattle.std.specs.Prelude.{zip}
use Rattle.std.proofs.lemmas.Slice.Zip.{AllZip-long}
use Rattle.cal_context.proofs.CallerLemmas.{Grows-trans}
use Rattle.cal_context.specs.Taking.{TakesMore}
use Rattle.cal_run.specs.Runs.{taken_by_thread}
use Rattle.cal_run.specs.Seeing.{SeesInOrder}
use Rattle.cal_run.proofs.NumberLemmas.{AreNumbered-Grows, all_zip-at}
use Rattle.cal_run.proofs.RunLemmas.{thread-All, thread-more, threads-end}
use Rattle.cal_script.specs.declared.journal.Placed.{Placed}
use Rattle.cal_script.specs.declared.journal.ThreadNote.{ThreadNote}
use Rattle.cal_script.specs.declared.script.Line.{Line}
use Rattle.cal_run.proofs.run.take_channel.Goals as goal

pub bounds-notes-number : goal.bounds-notes-number
bounds-notes-number g c =
    let long = AllZip-long (λ (thread : List Line) (note : ThreadNote). length note.lines
    ≡ length thread) c.args.script.now.threads
    c.args.journal.now.threads c.requires.read.shape in
    let es = ap length c.as_slice-threads.ensures in
    let en = ap length c.as_slice-notes.ensures in
    let below = c.loop-number-test.true in
    omega (arith, long, es, en, below)

pub take_thread-requires-clause-noted : goal.take_thread-requires-clause-noted
take_thread-requires-clause-noted g c =
    let script = c.args.script.now in
    let journal = c.args.journal.now in
    let i = c.loop-number.number in
    let th = c.index-threads-number.result in
    let n = c.index-notes-number.result in
    let lines : th ≡ get_or script.threads i th = c.index-threads-number.is
    ∙ (λ j. get_or (c.as_slice-threads.ensures j) i th) in
    let noted : n ≡ get_or journal.threads i n = c.index-notes-number.is
    ∙ (λ j. get_or (c.as_slice-notes.ensures j) i n) in
    let below : i < length script.threads =
    subst (λ (ts : List (List Line)). i < length ts) c.as_slice-threads.ensures
    c.loop-number-test.true in
    ap (λ (m : ThreadNote). length m.lines) noted
    ∙ all_zip-at (λ (thread : List Line) (note : ThreadNote). length note.lines ≡ length thread)
    script.threads journal.threads
    i th n c.requires.read.shape below
    ∙ ap (λ (ls : List Line). length ls) (sym lines ∙ sym c.as_slice-lines.ensures)

pub take_thread-requires-clause-order : goal.take_thread-requires-clause-order
take_thread-requires-clause-order g c =
    let script = c.args.script.now in
    let journal = c.args.journal.now in
    let i = c.loop-number.number in
    let th = c.index-threads-number.result in
    let n = c.index-notes-number.result in
    let lines : th ≡ get_or script.threads i th = c.index-threads-number.is
    ∙ (λ j. get_or (c.as_slice-threads.ensures j) i th) in
    let noted : n ≡ get_or journal.threads i n = c.index-notes-number.is
    ∙ (λ j. get_or (c.as_slice-notes.ensures j) i n) in
    let below : i < length script.threads =
    subst (λ (ts : List (List Line)). i < length ts) c.as_slice-threads.ensures
    c.loop-number-test.true in
    let long = AllZip-long (λ (thread : List Line) (note : ThreadNote). length note.lines
    ≡ length thread)
    script.threads journal.threads c.requires.read.shape in
    let order : SeesInOrder script journal.ops 0 (zip th n.lines) =
    thread-All script.threads journal.threads i th n lines noted below long
    (λ t. SeesInOrder script journal.ops 0 (zip t.0 t.1.lines)) c.requires.read.order in
    subst (λ (h : List Placed). SeesInOrder script h 0 (zip c.as_slice-lines.result.now n.lines))
    (sym c.as_slice-history.ensures)
    (subst (λ (ls : List Line). SeesInOrder script journal.ops 0 (zip ls n.lines))
    (sym c.as_slice-lines.ensures) order)

pub returns-in_err-take_thread-clause-grows : goal.returns-in_err-take_thread-clause-grows
returns-in_err-take_thread-clause-grows g c =
    Grows-trans _ _ _ c.loop-number.invariant.grows c.take_thread.ensures.grows

pub loop-number-preserved : goal.loop-number-preserved
loop-number-preserved g c =
    let script = c.args.script.now in
    let journal = c.args.journal.now in
    let i = c.loop-number.number in
    let th = c.index-threads-number.result in
    let n = c.index-notes-number.result in
    let lines : th ≡ get_or script.threads i th = c.index-threads-number.is
    ∙ (λ j. get_or (c.as_slice-threads.ensures j) i th) in
    let noted : n ≡ get_or journal.threads i n = c.index-notes-number.is
    ∙ (λ j. get_or (c.as_slice-notes.ensures j) i n) in
    let below : i < length script.threads =
    subst (λ (ts : List (List Line)). i < length ts) c.as_slice-threads.ensures
    c.loop-number-test.true in
    let long = AllZip-long (λ (thread : List Line) (note : ThreadNote). length note.lines
    ≡ length thread)
    script.threads journal.threads c.requires.read.shape in
    let old = c.loop-number.invariant in
    let grows = c.take_thread.ensures.grows in
    let channel = c.args.channel.now in
    let has_taken = g.T.Taker.has_taken in
    let mid = has_taken c.loop-number.taker c.loop-number.context in
    let has = has_taken c.take_thread.new.taker c.take_thread.new.context in
    let next : TakesMore mid has (taken_by_thread script journal.ops channel (th, n)) =
    subst (λ (h : List Placed). TakesMore mid has (taken_by_thread script h channel (th, n)))
    c.as_slice-history.ensures
    (subst (λ (ls : List Line). TakesMore mid has
    (taken_by_thread script c.as_slice-history.result.now channel (ls, n)))
    c.as_slice-lines.ensures c.in_ok-take_thread.ensures.taken) in
    record {
      numbered = AreNumbered-Grows grows script c.args.numbers.now old.numbered;
      grows = Grows-trans _ _ _ old.grows grows;
      taken = thread-more script.threads journal.threads i th n lines noted below long
          (taken_by_thread script journal.ops channel)
          (has_taken c.args.taker.now c.args.context.now) mid has old.taken next;
      about = c.in_ok-take_thread.ensures.about ∙ c.loop-number.invariant.about;
    }

pub returns-clause-taken : goal.returns-clause-taken
returns-clause-taken g c =
    let has_taken = g.T.Taker.has_taken in
    threads-end c.args.script.now.threads c.args.journal.now.threads c.loop-number.number
    (taken_by_thread c.args.script.now c.args.journal.now.ops c.args.channel.now)
    (has_taken c.args.taker.now c.args.context.now)
    (has_taken c.loop-number.taker c.loop-number.context)
    (subst (λ (ts : List (List Line)). length ts ≤ c.loop-number.number) c.as_slice-threads.ensures
    c.loop-number-test.false)
    c.loop-number.invariant.taken

pub returns-clause-about : goal.returns-clause-about
returns-clause-about g c = c.loop-number.invariant.about
