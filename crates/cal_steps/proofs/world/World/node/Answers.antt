use Rattle.std.proofs.Common.{◌≡◌, ℕ, ◌-◌, ◌<◌, List, length, ap, subst, sym, ◌∙◌}
use Rattle.std.proofs.lemmas.List.{get_or_default}
use Rattle.cal_events.proofs.BoardLemmas.{Path}
use Rattle.cal_events.specs.Worlds.{World}
use Rattle.cal_run.specs.Held.{IsKnown}
use Rattle.cal_run.specs.Paths.{paths_of}
use Rattle.cal_script.specs.declared.journal.Placed.{Placed}
use Rattle.cal_steps.proofs.KnownLemmas.{node-known}
use Rattle.cal_steps.proofs.MovingLemmas.{node-made}
use Rattle.cal_steps.proofs.world.World.node.Goals as goal
use Rattle.cal_steps.specs.Newest.{IsNewest}
use Rattle.cal_steps.specs.NodePlaces.{IsNodePlace, node_board}
use Rattle.cal_world.specs.Events.{first_events, seen_before}
use Rattle.cal_world.specs.Progress.{Reached, behind, reached_by}

pub paths_of-requires : goal.paths_of-requires
paths_of-requires c =
    let found = c.in_ok-board.ensures in
    subst (IsKnown c.args.script.now) (sym found.2)
    (node-known c.args.script.now c.requires.runnable c.as_slice-history.result.now c.args.turn
    c.requires.ready.thread found.0)

pub returns-clause-ok : goal.returns-clause-ok
returns-clause-ok c =
    let script = c.args.script.now in
    let journal = c.args.journal.now in
    let w = c.args.self.now in
    let x = c.args.turn in
    let t = c.args.thread in
    let same = c.self.view_is in
    let found = c.in_ok-board.ensures in
    let place = found.0 in
    let below : t < length c.self.inside.reached.items =
    subst (λ (z : World). t < length z.progress.threads) (sym same) c.requires.reached in
    let history : c.as_slice-history.result.now ≡ w.progress.history =
    c.as_slice-history.ensures ∙ ap (λ (z : World). z.progress.history) same in
    let reached : c.index.result.now ≡ reached_by w.progress t =
    c.index.ensures
    ∙ get_or_default c.self.inside.reached.items t c.index.result.now (behind 0) below
    ∙ ap (λ (z : World). reached_by z.progress t) same in
    let events : c.events.result ≡ (reached_by w.progress t).events =
    c.events.ensures ∙ ap (λ (r : Reached). r.events) reached in
    let got = c.requires.ready.newest place
    (subst (λ (z : List Placed × ℕ). IsNodePlace script journal z.0 x.before
    (seen_before script x) z.1 place)
    (λ j. (history j, events j - c.first_count-first.ensures j)) found.1) in
    let held : c.as_slice.result.now
    ≡ paths_of script (node_board script w.progress.history x place) =
    c.as_slice.ensures ∙ c.in_ok-held.ensures ∙ ap (paths_of script) found.2
    ∙ ap (λ (ps : List Placed). paths_of script (node_board script ps x place)) history in
    let paths : c.self.inside.paths ≡ w.paths = ap (λ (z : World). z.paths) same in
    let added = c.in_ok-add_newest.ensures.ok got.0
    (subst (λ (z : List Path × List Path). IsNewest z.0 z.1 got.0)
    (sym (λ j. (paths j, held j))) got.2) in
    node-made script journal w x t _ same below got.0 got.1 c.add_newest.new.paths added
    c.index_mut.result.now c.move_on.new.self c.index_mut.ensures.value c.move_on.ensures
