-- What is kept beside the numbers of nodes and attributes, one more at a time.
use Rattle.std.proofs.Common.{◌≡◌, ◌+◌, ◌<◌, ◌≤◌, Bool, true, false, [], ◌∷◌, ◌++◌, ◌⊎◌, inl, inr}
use Rattle.std.proofs.Common.{length, None, refl, sym, ◌∙◌, ap, subst, arith, slice_index_or}
use Rattle.std.specs.List.{last_or}
use Rattle.std.specs.Ordering.{eq_by_cmp}
use Rattle.std.proofs.lemmas.Bool.{cases_lt}
use Rattle.std.proofs.lemmas.List.{length-append, get_or_append_left, get_or_push}
use Rattle.cal_context.specs.Tree.{Tree, attribute_at, path_at, value_at}
use Rattle.cal_context.specs.Children.{IsLinked}
use Rattle.cal_context.specs.declared.numbers.AttributeNumber.{AttributeNumber}
use Rattle.cal_context.specs.declared.numbers.Link.{Link}
use Rattle.cal_context.specs.declared.numbers.NodeNumber.{NodeNumber}
use Rattle.cal_value.specs.Texts.{text_cmp}
use Rattle.cal_value.specs.declared.attribute.Entry.{Entry}
use Rattle.cal_filter.specs.Known.{IsKnownAttribute, IsNearest, Knows}
use Rattle.cal_filter.specs.Known.{nearest_at, sought}
use Rattle.cal_filter.specs.Sought.{Sought, last_sought, seeks}
use Rattle.cal_filter.specs.declared.seeker.Seeker.{Seeker}
use Rattle.cal_filter.proofs.Last.{last-end, sought_end, other_end}

abbrev pub root : NodeNumber
root = record { 0 = 0 }

module _ (t : Tree) (s : Sought) (l : Link) (n : NodeNumber) (linked : IsLinked t l n) where
  own : Entry
  own = record { attr = attribute_at t l.attribute; value = value_at t l.value }

  -- a node whose own entry is sought
  pub nearest_own : seeks s (record { attr = attribute_at t l.attribute; value = value_at t l.value })
      ≡ true → IsNearest t s n n
  nearest_own is = record {
    within = linked.child.within;
    other_within = linked.child.within;
    last = ap (last_sought s) linked.child.path
        ∙ sought_end s (path_at t l.parent) _ is
        ∙ sym (last-end (path_at t l.parent) _) ∙ ap (last_or None) (sym linked.child.path);
  }

  -- a node whose own entry isn't
  pub nearest_above : (m : NodeNumber)
      → seeks s (record { attr = attribute_at t l.attribute; value = value_at t l.value }) ≡ false
      → IsNearest t s l.parent m → IsNearest t s n m
  nearest_above m isnt up = record {
    within = linked.child.within;
    other_within = up.other_within;
    last = ap (last_sought s) linked.child.path
        ∙ other_end s (path_at t l.parent) _ isnt ∙ up.last;
  }

-- what doesn't change in a seeker
pub record Stays (s s' : Seeker) : Type 0 where
  pub name : s'.name ≡ s.name
  pub wanted : s'.wanted ≡ s.wanted
