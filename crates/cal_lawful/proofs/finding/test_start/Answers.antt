use Rattle.std.proofs.Common.{◌≡◌, ◌↔◌, IsTrue, List, Bool, get_or, ap, subst, refl, ◌∙◌}
use Rattle.std.proofs.lemmas.List.{get_or_default}
use Rattle.cal_lawful.proofs.TellLemmas.{found-start}
use Rattle.cal_run.specs.Lawful.{IsRead, takes_start_reading}
use Rattle.cal_script.specs.declared.journal.ThreadNote.{ThreadNote}
use Rattle.cal_lawful.proofs.finding.test_start.Goals as goal

pub returns-clause-told : goal.returns-clause-told
returns-clause-told c = λ front d told.
    let script = c.args.script.now in
    let journal = c.args.journal.now in
    let t = c.args.thread in
    let n = c.index-notes-thread.result in
    let kept = c.is_read-kept.result in
    let here : ThreadNote = get_or c.as_slice-notes.result.now t n in
    let is : here ≡ get_or journal.threads t d =
    ap (λ (xs : List ThreadNote). get_or xs t n) c.as_slice-notes.ensures
    ∙ get_or_default journal.threads t n d c.requires.within in
    found-start script journal c.args.tests.now _ front (get_or journal.threads t d) kept
    refl refl c.first_of-tests.ensures
    (subst (λ (x : ThreadNote). IsTrue kept
    ↔ IsRead script journal (takes_start_reading script) 0 x.start) is
    (subst (λ (due : Bool). IsTrue kept ↔ IsRead script journal due 0 here.start)
    c.takes_start_reading.ensures (c.is_read-kept.ensures script))) refl told
