use Rattle.std.proofs.Common.{◌≡◌, ℕ, ◌<◌, List, filter, get_or, length, subst}
use Rattle.cal_value.specs.declared.attribute.Entry.{Entry}
use Rattle.cal_treefmt.specs.Walks.{Walks}
use Rattle.cal_treefmt.proofs.Walking.{Walks-path, nested}
use Rattle.cal_treefmt.proofs.nodes.add_row.Goals as goal

at-item : (ps qs : List (List Entry)) (i : ℕ) (x : List Entry) → ps ≡ qs → x ≡ get_or ps i x → x ≡ get_or qs i x
at-item ps qs i x e is = subst (λ (rs : List (List Entry)). x ≡ get_or rs i x) e is

pub loop-path-preserved : goal.loop-path-preserved
loop-path-preserved c =
    Walks-path c.args.context.now c.loop-path.context c.add_path.new.context (record { 0 = 0 }) c.loop-path.node c.in_ok-node.node c.args.row.now.paths
    c.loop-path.path-index c.path-item.result (subst (λ (ps : List (List Entry)). c.loop-path.path-index < length ps) c.as_slice-path-items.ensures c.loop-path-test.true)
    (at-item _ _ c.loop-path.path-index c.path-item.result c.as_slice-path-items.ensures c.path-item.is) c.loop-path.invariant
    (subst (λ (path : List Entry). Walks c.loop-path.context c.add_path.new.context c.loop-path.node (filter nested path) c.in_ok-node.node) c.as_slice.ensures c.in_ok-node.ensures)
