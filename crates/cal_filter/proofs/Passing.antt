-- What is sought in no path, since no attribute has the name.
use Rattle.std.proofs.Common.{◌≡◌, ℕ, ◌+◌, ◌-◌, ◌<◌, ◌≤◌, Bool, false, [], ◌⊎◌, inl, inr}
use Rattle.std.proofs.Common.{length, get_or, None, List, sym, ◌∙◌, ap, arith}
use Rattle.std.specs.Prelude.{◌&&◌, replicate}
use Rattle.std.specs.List.{last_or}
use Rattle.std.proofs.lemmas.Bool.{cases_lt}
use Rattle.std.proofs.lemmas.List.{length-append, length-replicate}
use Rattle.cal_context.specs.Tree.{Tree, IsContext, attribute_at, path_at, value_at}
use Rattle.cal_context.specs.Children.{IsLinked}
use Rattle.cal_context.specs.declared.numbers.AttributeNumber.{AttributeNumber}
use Rattle.cal_context.specs.declared.numbers.Link.{Link}
use Rattle.cal_context.specs.declared.numbers.NodeNumber.{NodeNumber}
use Rattle.cal_value.specs.declared.variant.Variant.{Variant}
use Rattle.cal_filter.specs.Known.{IsNearest, KnowsAll, KnowsAttributes, named_at, nearest_at, sought}
use Rattle.cal_filter.specs.Memo.{with_roots}
use Rattle.cal_filter.specs.Sought.{Sought, last_sought, passes, seeks}
use Rattle.cal_filter.specs.declared.seeker.Seeker.{Seeker}
use Rattle.cal_filter.proofs.Finding.{root_path, root_within}
use Rattle.cal_filter.proofs.Last.{other_end}
use Rattle.cal_filter.proofs.MemoLemmas.{read-with_roots, root}

module _ (t : Tree) (s : Seeker) (k : KnowsAttributes t s) (unnamed : (a : AttributeNumber) → named_at s a ≡ false) where
  -- no entry of the context is sought
  unsought : (a : AttributeNumber) (v : Variant) → a.0 < length t.attributes
      → seeks (sought s) (record { attr = attribute_at t a; value = v }) ≡ false
  unsought a v within =
      let short : a.0 < length s.named = omega (arith, within, k.attributes) in
      ap (λ (b : Bool). b && passes s.wanted (attribute_at t a).kind v)
      (sym (k.knows.attributes a short).named ∙ unnamed a)

  -- a node below one on whose path nothing is sought
  pub none_below : (l : Link) (n : NodeNumber) → IsLinked t l n → last_sought (sought s) (path_at t l.parent) ≡ None
      → last_sought (sought s) (path_at t n) ≡ None
  none_below l n linked up =
      ap (last_sought (sought s)) linked.child.path
      ∙ other_end (sought s) (path_at t l.parent) _ (unsought l.attribute (value_at t l.value) linked.child.known)
      ∙ up

module _ (t : Tree) (s : Seeker) (k : KnowsAttributes t s) (context : IsContext t) (nowhere : (n : NodeNumber) → nearest_at s n ≡ root) where
  -- the nodes that are known
  pub none_known : (n : NodeNumber) → n.0 < length s.nearest → last_sought (sought s) (path_at t n) ≡ None
  none_known n short =
      (k.knows.nodes n short).last
      ∙ ap (λ m. last_or None (path_at t m)) (nowhere n)
      ∙ ap (last_or None) (root_path t (sought s) context)

-- so all nodes are known at once
pub passed : (t : Tree) (s : Seeker) (nearest : List NodeNumber) → IsContext t → KnowsAttributes t s
    → nearest ≡ with_roots s.nearest (length t.paths) → ((n : NodeNumber) → nearest_at s n ≡ root)
    → ((n : NodeNumber) → n.0 < length t.paths → last_sought (sought s) (path_at t n) ≡ None)
    → KnowsAll t (record { name = s.name; wanted = s.wanted; named = s.named; nearest = nearest })
passed t s nearest context k is nowhere none = record {
  knows = record {
    attributes = λ a short.
        let old = k.knows.attributes a short in
        record { within = old.within; named = old.named };
    nodes = near;
  };
  attributes = k.attributes;
  nodes = omega (arith, long);
}
  where
    now : Seeker
    now = record { name = s.name; wanted = s.wanted; named = s.named; nearest = nearest }

    long : length nearest ≡ length s.nearest + (length t.paths - length s.nearest)
    long =
        ap length is ∙ length-append s.nearest (replicate (length t.paths - length s.nearest) root)
        ∙ ap (λ n. length s.nearest + n) (length-replicate (length t.paths - length s.nearest) root)

    at : (n : NodeNumber) → get_or nearest n.0 root ≡ root
    at n =
        ap (λ ns. get_or ns n.0 root) is ∙ read-with_roots s.nearest (length t.paths) n.0 ∙ nowhere n

    within : (n : NodeNumber) → ((n.0 < length s.nearest) ⊎ (length s.nearest ≤ n.0)) → n.0 < length nearest
        → n.0 < length t.paths
    within n (inl short) h = (k.knows.nodes n short).within
    within n (inr over) h = omega (arith, over, h, long)

    near : (n : NodeNumber) → n.0 < length nearest → IsNearest t (sought s) n (get_or nearest n.0 root)
    near n h = record {
      within = within n (cases_lt n.0 (length s.nearest)) h;
      other_within = rw (at n) (root_within t (sought s) context);
      last = none n (within n (cases_lt n.0 (length s.nearest)) h)
          ∙ sym (ap (λ m. last_or None (path_at t m)) (at n) ∙ ap (last_or None) (root_path t (sought s) context));
    }

-- one node more
pub one_more : (t : Tree) (s : Sought) (place : ℕ) → ((n : NodeNumber) → n.0 < place → last_sought s (path_at t n) ≡ None)
    → last_sought s (path_at t (record { 0 = place })) ≡ None
    → (n : NodeNumber) → n.0 < place + 1 → last_sought s (path_at t n) ≡ None
one_more t s place before here n short = by (cases_lt n.0 place)
  where
    by : (n.0 < place) ⊎ (place ≤ n.0) → last_sought s (path_at t n) ≡ None
    by (inl l) = before n l
    by (inr l) =
        let same : n.0 ≡ place = omega (arith, l, short) in
        ap (λ m. last_sought s (get_or t.paths m [])) same ∙ here
