use Rattle.std.proofs.Common.{◌≡◌, ◌∷◌, [], ◌++◌, true, List, ap, sym, ◌∙◌, append_assoc}
use Rattle.std.specs.Prelude.{Some, ◌-◌}
use Rattle.std.proofs.lemmas.Result.{on_ok_weaker}
use Rattle.cal_run.specs.Snapshots.{duration, inclusive_entries, numbered, time_entries}
use Rattle.cal_steps.proofs.snapshot.add_times.Goals as goal
use Rattle.cal_steps.specs.Sights.{sight_of}
use Rattle.cal_value.specs.declared.attribute.Entry.{Entry}

pub returns-in-None : goal.returns-in-None
returns-in-None c =
    let on : c.args.timer ≡ true = cc in
    c.in_ok-push.ensures.ok
    ∙ ap (λ (e : Entry). c.args.out.now ++ e ∷ [])
    (c.in_ok-numbered.ensures ∙ ap (numbered duration) c.saturating_sub-since.ensures)
    ∙ sym (λ j. c.args.out.now
    ++ time_entries c.args.script.now (sight_of c.args.sight.now) (on j) (c.in-None.is j))

pub returns-in-Some : goal.returns-in-Some
returns-in-Some c =
    let script = c.args.script.now in
    let s = sight_of c.args.sight.now in
    let out = c.args.out.now in
    let on : c.args.timer ≡ true = cc in
    let first = numbered duration (s.reading - s.previous) in
    on_ok_weaker c.add_inclusive.result (λ more. more
    ∙ ap (λ (es : List Entry). es ++ inclusive_entries script s (Some c.in-Some.op))
    (c.in_ok-push.ensures.ok
    ∙ ap (λ (e : Entry). out ++ e ∷ [])
    (c.in_ok-numbered.ensures ∙ ap (numbered duration) c.saturating_sub-since.ensures))
    ∙ append_assoc out (first ∷ []) (inclusive_entries script s (Some c.in-Some.op))
    ∙ sym (λ j. out ++ time_entries script s (on j) (c.in-Some.is j))) c.add_inclusive.ensures
