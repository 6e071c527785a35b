use Rattle.std.proofs.Common.{◌≡◌, ◌<◌, ◌≤◌, List, length, get_or, subst, sym, ◌∙◌}
use Rattle.std.specs.Prelude.{flat_map}
use Rattle.std.specs.List.{All}
use Rattle.std.proofs.lemmas.List.{take_all}
use Rattle.cal_context.proofs.CallerLemmas.{Grows-refl, Grows-trans}
use Rattle.cal_run.proofs.NumberLemmas.{AreNumbered-Grows}
use Rattle.cal_run.proofs.PathLemmas.{holds-next, holds-none}
use Rattle.cal_run.specs.Holding.{HoldsPaths}
use Rattle.cal_run.specs.Paths.{held_by_thread}
use Rattle.cal_script.specs.Valid.{IsPlaced}
use Rattle.cal_script.specs.declared.script.Line.{Line}
use Rattle.cal_counts.proofs.walking.hold_threads.Goals as goal

pub loop-thread-init : goal.loop-thread-init
loop-thread-init c = record {
  numbered = c.requires.numbered;
  grows = Grows-refl c.args.context.now;
  held = holds-none (Grows-refl c.args.context.now) c.args.held.now.nodes;
}

pub hold_lines-requires-clause-placed : goal.hold_lines-requires-clause-placed
hold_lines-requires-clause-placed c =
    let script = c.args.script.now in
    let i = c.loop-thread.thread-index in
    let t = c.thread-item.result in
    let at : t ≡ get_or script.threads i t = c.thread-item.is
    ∙ (λ j. get_or (c.as_slice-thread-items.ensures j) i t) in
    let below : i < length script.threads =
    subst (λ (ts : List (List Line)). i < length ts) c.as_slice-thread-items.ensures
    c.loop-thread-test.true in
    subst (All (IsPlaced script.attributes script.channels script.values))
    (sym (c.as_slice-lines.ensures ∙ at)) (c.requires.runnable.places i t below)

pub returns-in_err-hold_lines-clause-grows : goal.returns-in_err-hold_lines-clause-grows
returns-in_err-hold_lines-clause-grows c =
    Grows-trans _ _ _ c.loop-thread.invariant.grows c.hold_lines.ensures.grows

pub loop-thread-preserved : goal.loop-thread-preserved
loop-thread-preserved c =
    let script = c.args.script.now in
    let old = c.loop-thread.invariant in
    let i = c.loop-thread.thread-index in
    let t = c.thread-item.result in
    let at : t ≡ get_or script.threads i t = c.thread-item.is
    ∙ (λ j. get_or (c.as_slice-thread-items.ensures j) i t) in
    let below : i < length script.threads =
    subst (λ (ts : List (List Line)). i < length ts) c.as_slice-thread-items.ensures
    c.loop-thread-test.true in
    let grows = c.hold_lines.ensures.grows in
    let before = c.loop-thread.context in
    let after = c.hold_lines.new.context in
    let was = c.loop-thread.held.nodes in
    let now = c.hold_lines.new.held.nodes in
    record {
      numbered = AreNumbered-Grows grows script c.args.numbers.now old.numbered;
      grows = Grows-trans _ _ _ old.grows grows;
      held = holds-next (held_by_thread script) script.threads i t c.args.context.now before after
          c.args.held.now.nodes was now below old.held
          (subst (λ (ls : List Line). HoldsPaths before after was now (held_by_thread script ls))
          (c.as_slice-lines.ensures ∙ at) c.in_ok-hold_lines.ensures.held);
    }

pub returns-clause-held : goal.returns-clause-held
returns-clause-held c =
    let script = c.args.script.now in
    let i = c.loop-thread.thread-index in
    let past : length script.threads ≤ i =
    subst (λ (ts : List (List Line)). length ts ≤ i) c.as_slice-thread-items.ensures
    c.loop-thread-test.false in
    subst (λ (ts : List (List Line)). HoldsPaths c.args.context.now c.loop-thread.context
    c.args.held.now.nodes c.loop-thread.held.nodes (flat_map (held_by_thread script) ts))
    (take_all i script.threads past) c.loop-thread.invariant.held
