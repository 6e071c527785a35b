use Rattle.std.proofs.Common.{◌≡◌, ◌≤◌, List, [], ◌∷◌, ◌++◌, length, map, ap, ◌∙◌, arith}
use Rattle.std.proofs.lemmas.List.{length-append}
use Rattle.cal_rowset.specs.NumberedRows.{NumberedRow, numbered, row_at}
use Rattle.cal_rowset.specs.declared.snapshot_list.Extent.{Extent}
use Rattle.cal_rowset.proofs.NumberedLemmas.{extents_longer, rows_more}
use Rattle.cal_rowset.proofs.snapshot_list.SnapshotList.push.Goals as goal

pub invariant_of-self-in_err-add_copies : goal.invariant_of-self-in_err-add_copies
invariant_of-self-in_err-add_copies c =
    let was = c.self.inside in
    let nodes : length was.nodes.items ≤ length c.extend_from_slice.new.self.items =
    omega (arith, ap length c.in_ok-extend_from_slice.ensures.items, length-append was.nodes.items c.deref.result.now) in
    extents_longer (length was.nodes.items) (length c.extend_from_slice.new.self.items) (length was.imms.items) (length c.add_copies.new.imms.items)
    was.extents.items c.self.invariant nodes c.add_copies.ensures.more

pub returns : goal.returns
returns c =
    let was = c.self.inside in
    let ms = c.deref.result.now in
    let js = c.deref-2.result.now in
    let all_nodes = ap length c.in_ok-extend_from_slice.ensures.items in
    let all_imms = ap length c.in_ok-add_copies.ensures.added in
    let e : Extent = record {
      first_node = c.in_ok-first_node.first_node;
      nodes_end = c.in_ok-nodes_end.nodes_end;
      first_imm = c.in_ok-first_imm.first_imm;
      imms_end = c.in_ok-imms_end.imms_end;
    } in
    let first_node : c.in_ok-first_node.first_node ≡ length was.nodes.items = omega arith in
    let nodes_end : c.in_ok-nodes_end.nodes_end ≡ length (was.nodes.items ++ ms) = omega (arith, all_nodes) in
    let first_imm : c.in_ok-first_imm.first_imm ≡ length was.imms.items = omega arith in
    let imms_end : c.in_ok-imms_end.imms_end ≡ length (was.imms.items ++ js) = omega (arith, all_imms) in
    (λ i. map (row_at (c.in_ok-extend_from_slice.ensures.items i) (c.in_ok-add_copies.ensures.added i)) (c.in_ok-push.ensures.items i))
    ∙ rows_more was.nodes.items ms was.imms.items js was.extents.items e c.self.invariant first_node nodes_end first_imm imms_end
    ∙ (λ i. c.self.view_is i ++ record { nodes = c.deref.ensures.value i; imms = c.deref-2.ensures.value i } ∷ [])
