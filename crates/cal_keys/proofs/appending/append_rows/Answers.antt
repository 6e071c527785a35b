use Rattle.std.proofs.Common.{sym, subst}
use Rattle.std.proofs.lemmas.Result.{on_ok_weaker}
use Rattle.cal_context.proofs.CallerLemmas.{Grows-trans}
use Rattle.cal_keys.specs.KeysGrow.{rows-Grows}
use Rattle.cal_keys.specs.Moves.{AreMovedAttributes, AreMovedNodes}
use Rattle.cal_keys.proofs.MovedNumbers.{attributes-Grows}
use Rattle.cal_keys.proofs.appending.append_rows.Goals as goal

pub returns-clause-grows : goal.returns-clause-grows
returns-clause-grows c = Grows-trans _ _ _ c.in_ok-attributes.ensures.grows c.in_ok-nodes.ensures.grows

pub returns-clause-appended : goal.returns-clause-appended
returns-clause-appended c =
    let t = c.args.its.now in
    let u = c.moved_row_nodes.new.to in
    let grows = Grows-trans _ _ _ c.in_ok-attributes.ensures.grows c.in_ok-nodes.ensures.grows in
    let attributes = attributes-Grows t c.moved_attributes.new.to u c.in_ok-attributes.attributes.items c.in_ok-nodes.ensures.grows
    c.in_ok-attributes.ensures.moved in
    on_ok_weaker c.append_moved.result
    (λ appended ks ls h k.
    appended t u ks ls c.has_each_once.ensures c.has_each_once-2.ensures
    (subst (AreMovedAttributes t u) (sym c.deref.ensures.value) attributes)
    (subst (AreMovedNodes t u) (sym c.deref-2.ensures.value) c.in_ok-nodes.ensures.moved)
    (rows-Grows grows c.args.rows.now ks h) k)
    c.append_moved.ensures
