use Rattle.std.proofs.Common.{◌≡◌, ℕ, ◌+◌, ◌<◌, ◌≤◌, List, ◌∷◌, drop, get_or, length, ap, subst}
use Rattle.std.proofs.Common.{sym, ◌∙◌}
use Rattle.std.proofs.lemmas.List.{drop_all, drop_more, get_or_default}
use Rattle.cal_events.proofs.EndLemmas.{whole-world}
use Rattle.cal_events.proofs.WorldLemmas.{progress-after}
use Rattle.cal_events.specs.Effects.{world_after, world_behind}
use Rattle.cal_events.specs.Keeping.{EndsJournal}
use Rattle.cal_events.specs.Worlds.{World, world_at_start}
use Rattle.cal_run.specs.Lawful.{Lawful}
use Rattle.cal_script.specs.declared.journal.Journal.{Journal}
use Rattle.cal_script.specs.declared.script.Script.{Script}
use Rattle.cal_steps.proofs.world.World.scheduled.Goals as goal
use Rattle.cal_world.proofs.RunLemmas.{whole-run}
use Rattle.cal_world.specs.Progress.{AreNext, IsNext, Progress, progress_after}
use Rattle.cal_world.specs.Schedule.{schedule_of}
use Rattle.cal_world.specs.declared.event.Event.{Event}
use Rattle.cal_world.specs.declared.event.Event.TheVariants as event

abbrev none : Event
none = event.Node 0

module _ (script : Script) (journal : Journal) (lawful : Lawful script journal) (w : World)
    (es : List Event) (i : ℕ) (e : Event) (below : i < length es) (here : e ≡ get_or es i e)
    (next : AreNext script journal w.progress (drop i es)) where
  -- the event at a place, and those behind it
  split : drop i es ≡ e ∷ drop (i + 1) es
  split = drop_more es i e below ∙ ap (λ (d : Event). d ∷ drop (i + 1) es) (sym here)

  both : AreNext script journal w.progress (e ∷ drop (i + 1) es)
  both = subst (AreNext script journal w.progress) split next

  this-next : IsNext script journal w.progress e
  this-next = both.0

  module _ (new : World) (is : new ≡ world_after script journal w e) where
    rest-next : AreNext script journal new.progress (drop (i + 1) es)
    rest-next = subst (λ (p : Progress). AreNext script journal p (drop (i + 1) es))
        (sym (ap (λ (z : World). z.progress) is
        ∙ progress-after script journal lawful w e this-next)) both.1

    rest-left : world_behind script journal new (drop (i + 1) es)
        ≡ world_behind script journal w (drop i es)
    rest-left = ap (λ (z : World). world_behind script journal z (drop (i + 1) es)) is
        ∙ ap (world_behind script journal w) (sym split)

pub loop-event-init : goal.loop-event-init
loop-event-init c =
    let script = c.args.script.now in
    let journal = c.args.journal.now in
    let start = c.in_ok-world.ensures.start in
    record {
      behind = c.in_ok-world.ensures.behind;
      next = subst (λ (z : World). AreNext script journal z.progress (schedule_of script journal))
          (sym start) (whole-run script journal c.requires.lawful).next;
      left = ap (λ (z : World). world_behind script journal z (schedule_of script journal)) start;
    }

pub step-requires-clause-next : goal.step-requires-clause-next
step-requires-clause-next c =
    let script = c.args.script.now in
    let journal = c.args.journal.now in
    let es = schedule_of script journal in
    let all = c.as_slice-event-items.ensures ∙ c.in_ok-events.ensures.scheduled in
    let i = c.loop-event.event-index in
    let below = subst (λ (ds : List Event). i < length ds) all c.loop-event-test.true in
    this-next script journal c.requires.lawful c.loop-event.world es i
    (get_or c.as_slice-event-items.result.now i none) below
    (ap (λ (ds : List Event). get_or ds i none) all ∙ get_or_default es i none _ below)
    c.loop-event.invariant.next

pub loop-event-preserved : goal.loop-event-preserved
loop-event-preserved c =
    let script = c.args.script.now in
    let journal = c.args.journal.now in
    let es = schedule_of script journal in
    let all = c.as_slice-event-items.ensures ∙ c.in_ok-events.ensures.scheduled in
    let i = c.loop-event.event-index in
    let e = get_or c.as_slice-event-items.result.now i none in
    let below = subst (λ (ds : List Event). i < length ds) all c.loop-event-test.true in
    let here : e ≡ get_or es i e =
    ap (λ (ds : List Event). get_or ds i none) all ∙ get_or_default es i none e below in
    let next = c.loop-event.invariant.next in
    let is = c.in_ok-step.ensures.after in
    record {
      behind = c.in_ok-step.ensures.behind;
      next = rest-next script journal c.requires.lawful c.loop-event.world es i e below here next
          c.step.new.self is;
      left = rest-left script journal c.requires.lawful c.loop-event.world es i e below here next
          c.step.new.self is
          ∙ c.loop-event.invariant.left;
    }

pub returns : goal.returns
returns c =
    let script = c.args.script.now in
    let journal = c.args.journal.now in
    let es = schedule_of script journal in
    let all = c.as_slice-event-items.ensures ∙ c.in_ok-events.ensures.scheduled in
    let i = c.loop-event.event-index in
    let past : length es ≤ i =
    subst (λ (ds : List Event). length ds ≤ i) all c.loop-event-test.false in
    subst (EndsJournal script journal)
    (sym (sym (ap (world_behind script journal c.loop-event.world) (drop_all i es past))
    ∙ c.loop-event.invariant.left))
    (whole-world script journal c.requires.lawful)
