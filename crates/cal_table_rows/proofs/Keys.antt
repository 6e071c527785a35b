-- A test that tells the keys of tables apart.
use Rattle.std.proofs.Common.{◌≡◌, Bool, Decides}
use Rattle.std.specs.declared.cmp.Ordering.{Ordering}
use Rattle.std.specs.declared.cmp.Ordering.TheVariants.{Equal}
use Rattle.std.specs.Ordering.{eq_by_cmp, nat_cmp, on, then_cmp}
use Rattle.std.specs.Cmp.{on_total, then_total}
use Rattle.std.specs.Cmp.Lexicographic.{slice_cmp}
use Rattle.cal_snap.specs.declared.numbered.NumberedEntry.{NumberedEntry}
use Rattle.cal_table.specs.declared.key.TableKey.{TableKey}
use Rattle.cal_value.specs.ExactOrder.{IsExactOrder, exact_decides, exact_first, lists_exact}
use Rattle.cal_value.specs.ExactOrder.{nat_exact}
use Rattle.cal_value.specs.Order.{value_cmp}
use Rattle.cal_value.specs.OrderLaws.{value_exact}
use Rattle.cal_words.specs.declared.node.NodeId.{NodeId}

abbrev node_cmp : NodeId → NodeId → Ordering
node_cmp = on (λ n. n.0) nat_cmp

abbrev numbered_cmp : NumberedEntry → NumberedEntry → Ordering
numbered_cmp = then_cmp (on (λ e. e.attribute) nat_cmp) (on (λ e. e.value) value_cmp)

-- keys are ordered by their nodes, and then by their entries
abbrev pub key_cmp : TableKey → TableKey → Ordering
key_cmp =
    then_cmp (on (λ k. k.refs) (slice_cmp node_cmp)) (on (λ k. k.imms) (slice_cmp numbered_cmp))

node_exact : IsExactOrder node_cmp
node_exact = record {
  total = on_total (λ (n : NodeId). n.0) nat_exact.total;
  exact = λ m n e. let h = nat_exact.exact m.0 n.0 e in λ i. record { 0 = h i };
}

numbered_tied : (x y : NumberedEntry) → numbered_cmp x y ≡ Equal → x ≡ y
numbered_tied x y e =
    let h = exact_first nat_exact x.attribute y.attribute (value_cmp x.value y.value) e in
    let value = value_exact.exact x.value y.value h.1 in
    λ i. record { attribute = h.0 i; value = value i }

numbered_exact : IsExactOrder numbered_cmp
numbered_exact = record {
  total = then_total (on_total (λ (e : NumberedEntry). e.attribute) nat_exact.total)
      (on_total (λ (e : NumberedEntry). e.value) value_exact.total);
  exact = numbered_tied;
}

key_tied : (x y : TableKey) → key_cmp x y ≡ Equal → x ≡ y
key_tied x y e =
    let h = exact_first (lists_exact node_exact) x.refs y.refs
    (slice_cmp numbered_cmp x.imms y.imms) e in
    let imms = (lists_exact numbered_exact).exact x.imms y.imms h.1 in
    λ i. record { refs = h.0 i; imms = imms i }

pub key_exact : IsExactOrder key_cmp
key_exact = record {
  total = then_total (on_total (λ (k : TableKey). k.refs) (lists_exact node_exact).total)
      (on_total (λ (k : TableKey). k.imms) (lists_exact numbered_exact).total);
  exact = key_tied;
}

-- whether two keys are the same
abbrev pub same_key : TableKey → TableKey → Bool
same_key = eq_by_cmp key_cmp

pub same_key-decides : (k l : TableKey) → Decides (same_key k l) (k ≡ l)
same_key-decides = exact_decides key_exact
