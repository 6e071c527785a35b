use Rattle.std.proofs.Common.{◌++◌, List, map, ap, ◌∙◌, append_assoc}
use Rattle.cal_board.specs.Blackboard.{depths}
use Rattle.cal_board.specs.PathBoards.{last_entries}
use Rattle.cal_run.specs.Snapshots.{event_entries, numbered, probe_entries, probe_of, probe_value}
use Rattle.cal_run.specs.Snapshots.{time_entries}
use Rattle.cal_script.specs.declared.script.ProbeKind.{ProbeKind}
use Rattle.cal_steps.proofs.snapshot.immediates.Goals as goal
use Rattle.cal_steps.specs.Sights.{sight_of}
use Rattle.cal_value.specs.declared.attribute.Entry.{Entry}

pub returns : goal.returns
returns c =
    let script = c.args.script.now in
    let s = sight_of c.args.sight.now in
    let op = c.args.op in
    let event : List Entry = event_entries script s op in
    let time : List Entry = time_entries script s c.args.channel.now.timer op in
    let probes : List Entry = probe_entries script s c.args.channel.now.probes in
    let mine : List Entry = last_entries script.attributes s.mine.as_values in
    let process : List Entry = last_entries script.attributes s.process.as_values in
    c.in_ok-immediates-2.ensures.ok
    ∙ ap (λ (es : List Entry). es ++ process) (c.in_ok-immediates.ensures.ok
    ∙ ap (λ (es : List Entry). es ++ mine) (c.in_ok-add_probes.ensures
    ∙ (λ j. (c.in_ok-add_times.ensures
    ∙ ap (λ (es : List Entry). es ++ time) (c.in_ok-add_event.ensures
    ∙ ap (λ (es : List Entry). es ++ event) c.new-imms.ensures)) j
    ++ map (λ (p : ProbeKind). numbered (probe_of p) (probe_value p (depths s.mine)))
    (c.as_slice.ensures j))))
    ∙ append_assoc (event ++ time ++ probes) mine process
