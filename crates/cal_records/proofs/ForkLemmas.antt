-- Two paths are ordered by the entries at which they part.
use Rattle.std.proofs.Common.{◌≡◌, ◌≢◌, ℕ, ◌<◌, List, [], ◌∷◌, ◌++◌, length, Some, None, refl, sym}
use Rattle.std.proofs.Common.{ap, ◌∙◌, subst, arith, append_assoc, append-nil}
use Rattle.std.specs.Cmp.{tied_itself}
use Rattle.std.specs.Prelude.{Option}
use Rattle.std.specs.declared.cmp.Ordering.TheVariants.{Equal}
use Rattle.cal_context.proofs.CallerLemmas.{one_node}
use Rattle.cal_context.specs.Children.{CanLink, IsLinked}
use Rattle.cal_context.specs.Tree.{IsContext, Tree, attribute_at, path_at}
use Rattle.cal_context.specs.declared.numbers.AttributeNumber.{AttributeNumber}
use Rattle.cal_context.specs.declared.numbers.Link.{Link}
use Rattle.cal_context.specs.declared.numbers.NodeNumber.{NodeNumber}
use Rattle.cal_records.proofs.ListOrder.{compare-shared, then-decided}
use Rattle.cal_records.specs.Forks.{AreTwo, GoesBy, GoesOn, IsAfter, IsFork, LeadsThrough, entry_by}
use Rattle.cal_records.specs.Forks.{fork_cmp}
use Rattle.cal_records.specs.declared.comparing.Child.{Child}
use Rattle.cal_records.specs.declared.comparing.Fork.{Fork}
use Rattle.cal_value.specs.Order.{attribute_cmp, entry_cmp, path_cmp}
use Rattle.cal_value.specs.OrderLaws.{attribute_exact, entry_exact}
use Rattle.cal_value.specs.declared.attribute.Entry.{Entry}

-- a link that a node hangs by is one of the context's
pub can_link : (t : Tree) (l : Link) (n : NodeNumber) → IsLinked t l n → CanLink t l
can_link t l n linked = record {
  parent = omega (arith, linked.child.later, linked.child.within);
  attribute = linked.child.known;
  value = linked.value;
}

-- an attribute ties with itself
pub same-attribute : (t : Tree) (n m : AttributeNumber) → n.0 ≡ m.0
    → Equal ≡ attribute_cmp (attribute_at t n) (attribute_at t m)
same-attribute t n m same = sym
    (ap (λ (k : ℕ). attribute_cmp (attribute_at t n) (attribute_at t (record { 0 = k }))) (sym same)
    ∙ tied_itself attribute_exact.total (attribute_at t n))

-- the path of a node leads through the node itself
pub leads-itself : (t : Tree) (n : NodeNumber) → n.0 < length t.paths → LeadsThrough t n n None
leads-itself t n within =
    record { within = within; rest = []; path = sym (append-nil (path_at t n)); goes = refl }

-- and from a node that it leads through, through its parent
pub leads-up : (t : Tree) (one through : NodeNumber) (before : Option Child) (c : Child)
    → LeadsThrough t one through before → c.node ≡ through → IsLinked t c.link through
    → LeadsThrough t one c.link.parent (Some c)
leads-up t one through before c leads is linked = record {
  within = omega (arith, linked.child.later, linked.child.within);
  rest = entry_by t c.link ∷ leads.rest;
  path = leads.path ∙ (λ i. linked.child.path i ++ leads.rest)
      ∙ append_assoc (path_at t c.link.parent) (entry_by t c.link ∷ []) leads.rest;
  goes = record {
    more = leads.rest;
    rest_is = refl;
    linked = subst (IsLinked t c.link) (sym is) linked;
    parent = refl;
  };
}

-- what comes after a node comes after an earlier one
pub after-earlier : (n m : NodeNumber) (c : Option Child) → n.0 < m.0 → IsAfter m c → IsAfter n c
after-earlier n m None earlier after = tt
after-earlier n m (Some c) earlier after = omega (arith, earlier, after)

-- a child that comes after another is another one
pub two-first : (c : Child) (d : Option Child) → IsAfter c.node d → AreTwo (Some c) d
two-first c None after = tt
two-first c (Some d) after = λ e. absurd (omega (arith, e, after))

pub two-second : (c : Option Child) (d : Child) → IsAfter d.node c → AreTwo c (Some d)
two-second None d after = tt
two-second (Some c) d after = λ e. absurd (omega (arith, e, after))

-- the links of a fork are the context's
pub can-one : (t : Tree) (one other : NodeNumber) (fork : Fork) (c : Child)
    → IsFork t one other fork → fork.one ≡ Some c → CanLink t c.link
can-one t one other fork c is e = can_link t c.link c.node
    (subst (λ (o : Option Child). GoesOn t is.shared o is.first.rest) e is.first.goes).linked

pub can-other : (t : Tree) (one other : NodeNumber) (fork : Fork) (c : Child)
    → IsFork t one other fork → fork.other ≡ Some c → CanLink t c.link
can-other t one other fork c is e = can_link t c.link c.node
    (subst (λ (o : Option Child). GoesOn t is.shared o is.second.rest) e is.second.goes).linked

module _ (t : Tree) (context : IsContext t) (shared : NodeNumber) where
  -- different children of a node hang by different entries
  parted : (c d : Child) (xs ys : List Entry) → GoesBy t shared c xs → GoesBy t shared d ys
      → c.node.0 ≢ d.node.0 → entry_cmp (entry_by t c.link) (entry_by t d.link) ≢ Equal
  parted c d xs ys one other two = λ tied.
      let same : entry_by t c.link ≡ entry_by t d.link =
      entry_exact.exact (entry_by t c.link) (entry_by t d.link) tied in
      let paths : path_at t c.node ≡ path_at t d.node =
      one.linked.child.path
      ∙ (λ i. path_at t (one.parent i) ++ same i ∷ [])
      ∙ (λ i. path_at t (sym other.parent i) ++ entry_by t d.link ∷ [])
      ∙ sym other.linked.child.path in
      let node = one_node context c.node d.node one.linked.child.within other.linked.child.within
      paths in
      two (ap (λ (n : NodeNumber). n.0) node)

  -- how two paths go on decides
  goes-cmp : (c d : Option Child) (xs ys : List Entry) → GoesOn t shared c xs
      → GoesOn t shared d ys → AreTwo c d → path_cmp xs ys ≡ fork_cmp t c d
  goes-cmp None None xs ys one other two = λ i. path_cmp (one i) (other i)
  goes-cmp None (Some d) xs ys one other two = λ i. path_cmp (one i) (other.rest_is i)
  goes-cmp (Some c) None xs ys one other two = λ i. path_cmp (one.rest_is i) (other i)
  goes-cmp (Some c) (Some d) xs ys one other two =
      (λ i. path_cmp (one.rest_is i) (other.rest_is i))
      ∙ then-decided (entry_cmp (entry_by t c.link) (entry_by t d.link))
      (path_cmp one.more other.more) (parted c d xs ys one other two)

-- an entry ties with itself
entry-itself : (e : Entry) → entry_cmp e e ≡ Equal
entry-itself = tied_itself entry_exact.total

-- the order of two paths is that of their fork
pub fork-decides : (t : Tree) → IsContext t → (one other a b : NodeNumber) (fork : Fork)
    (c d : Option Child) → path_at t a ≡ path_at t one → path_at t b ≡ path_at t other
    → IsFork t a b fork → fork.one ≡ c → fork.other ≡ d
    → fork_cmp t c d ≡ path_cmp (path_at t one) (path_at t other)
fork-decides t context one other a b fork c d same same_other is goes goes_other = sym
    ((λ i. path_cmp (sym same i) (sym same_other i))
    ∙ (λ i. path_cmp (is.first.path i) (is.second.path i))
    ∙ compare-shared entry_cmp entry-itself (path_at t is.shared) is.first.rest is.second.rest
    ∙ goes-cmp t context is.shared fork.one fork.other is.first.rest is.second.rest is.first.goes
    is.second.goes is.two
    ∙ (λ i. fork_cmp t (goes i) (goes_other i)))
