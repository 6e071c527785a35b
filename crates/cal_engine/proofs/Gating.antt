-- The numbers on the paths of nodes are small.
use Rattle.std.proofs.Common.{◌≡◌, ℕ, ◌+◌, ◌<◌, ◌≤◌, List, [], ◌∷◌, ◌⊎◌, inl, inr, length, map, sym, subst, arith}
use Rattle.std.specs.List.{All}
use Rattle.std.proofs.lemmas.Bool.{cases_lt}
use Rattle.std.proofs.lemmas.List.Elements.{All-append, All-head, All-map, All-nil, All-push, All-tail}
use Rattle.cal_context.specs.Children.{IsLinked}
use Rattle.cal_context.specs.Snapshots.{IsBelowRoot, IsIn, entry_of, meaning}
use Rattle.cal_context.specs.Tree.{Tree, attribute_at, path_at, value_at}
use Rattle.cal_context.specs.declared.numbers.Link.{Link}
use Rattle.cal_context.specs.declared.numbers.NodeNumber.{NodeNumber}
use Rattle.cal_context.specs.declared.snapshot.Snapshot.{Snapshot}
use Rattle.cal_filter.specs.Named.{HasSmallNumbers}
use Rattle.cal_value.specs.Flat.{joined}
use Rattle.cal_value.specs.Reading.{IsSmall}
use Rattle.cal_value.specs.declared.attribute.Entry.{Entry}
use Rattle.cal_engine.specs.Gates.{AreSmallBefore, IsSmallAt}

abbrev has_small : Entry → Type 0
has_small e = IsSmall e.value

pub small_child : (t : Tree) (l : Link) (n : NodeNumber) → IsLinked t l n → IsSmall (value_at t l.value) → AreSmallBefore t n.0 → IsSmallAt t n
small_child t l n linked small before = record {
  within = linked.child.within;
  small = subst (All has_small) (sym linked.child.path)
      (All-push has_small (path_at t l.parent) (record { attr = attribute_at t l.attribute; value = value_at t l.value })
      (before l.parent linked.child.later).small small);
}

pub small_next : (t : Tree) (place : ℕ) (n : NodeNumber) → n.0 ≡ place → IsSmallAt t n → AreSmallBefore t place → AreSmallBefore t (place + 1)
small_next t place n is here before m l = by (cases_lt m.0 place)
  where
    by : ((m.0 < place) ⊎ (place ≤ m.0)) → IsSmallAt t m
    by (inl short) = before m short
    by (inr long) =
        let e : n.0 ≡ m.0 = omega arith in
        let same : n ≡ m = λ i. record { 0 = e i } in
        subst (IsSmallAt t) same here

small_paths : (t : Tree) (nodes : List NodeNumber) → AreSmallBefore t (length t.paths) → All (IsBelowRoot t) nodes
    → All has_small (joined (map (path_at t) nodes))
small_paths t [] small below = All-nil has_small
small_paths t (n ∷ nodes) small below =
    All-append has_small (path_at t n) (joined (map (path_at t) nodes))
    (small n (All-head (IsBelowRoot t) n nodes below).within).small
    (small_paths t nodes small (All-tail (IsBelowRoot t) n nodes below))

-- so a snapshot's numbers are small where those of its immediates are
pub small_record : (t : Tree) (s : Snapshot) → IsIn t s → AreSmallBefore t (length t.paths) → All (λ i. IsSmall i.value) s.imms.items
    → HasSmallNumbers (meaning t s)
small_record t s is_in small imms =
    All-append has_small (joined (map (path_at t) s.nodes.items)) (map (entry_of t) s.imms.items)
    (small_paths t s.nodes.items small is_in.nodes)
    (All-map has_small (entry_of t) s.imms.items imms)
