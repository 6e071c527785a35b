-- Keys and rows of one context in another.
use Rattle.std.proofs.Common.{◌≡◌, ℕ, ◌+◌, ◌<◌, ◌≤◌, List, [], ◌∷◌, ◌++◌, ◌⊎◌, inl, inr, Some, get_or, length, map, slice_get, take, sym, ap, subst, ◌∙◌, arith, append_assoc}
use Rattle.std.specs.List.{All}
use Rattle.std.proofs.lemmas.Bool.{cases_lt}
use Rattle.std.proofs.lemmas.List.{get_or-map, get_or_past, length-map, map-append, take_more}
use Rattle.std.proofs.lemmas.List.Elements.{All-cons, All-head, All-nil, All-push, All-tail}
use Rattle.cal_context.specs.Snapshots.{IsBelowRoot, entry_of, meaning}
use Rattle.cal_context.specs.Tree.{Tree, IsContext, attribute_at, path_at}
use Rattle.cal_context.specs.declared.numbers.AttributeNumber.{AttributeNumber}
use Rattle.cal_context.specs.declared.numbers.NodeNumber.{NodeNumber}
use Rattle.cal_context.specs.declared.snapshot.Immediate.{Immediate}
use Rattle.cal_context.specs.declared.snapshot.Snapshot.{Snapshot}
use Rattle.cal_filter.specs.Results.{IsNumbered}
use Rattle.cal_rowset.specs.NumberedRows.{IsWithin, NumberedRow, meant, nth_numbered, numbered}
use Rattle.cal_value.specs.declared.record.Rec.{Rec}
use Rattle.cal_keys.specs.Keys.{IsKeyIn, IsKeyOf, key_in}
use Rattle.cal_keys.specs.Moves.{AreMovedAttributes, AreMovedImms, IsMovedKey, IsMovedRow}
use Rattle.cal_keys.specs.SnapshotRows.{AreRows}
use Rattle.cal_keys.specs.declared.key.GroupKey.{GroupKey}
use Rattle.cal_keys.proofs.Reaching.{leads-below, leads-none}

-- a node whose path has an entry lies below the root
below_root : (u : Tree) → IsContext u → (n : NodeNumber) → (path_at u n ≡ [] → ⊥) → IsBelowRoot u n
below_root u context n some = record {
  below = above (cases_lt 0 n.0);
  within = inside (cases_lt n.0 (length u.paths));
}
  where
    above : ((0 < n.0) ⊎ (n.0 ≤ 0)) → 0 < n.0
    above (inl more) = more
    above (inr none) =
        let root : n.0 ≡ 0 = omega (arith, none) in
        absurd (some (ap (λ k. get_or u.paths k []) root ∙ (leads-none u context).is))

    inside : ((n.0 < length u.paths) ⊎ (length u.paths ≤ n.0)) → n.0 < length u.paths
    inside (inl less) = less
    inside (inr past) = absurd (some (get_or_past u.paths n.0 [] past))

-- and one below the root has such a path
has_entry : (t : Tree) → IsContext t → (n : NodeNumber) → IsBelowRoot t n → path_at t n ≡ [] → ⊥
has_entry t context n below none =
    leads-below t context n (λ root. omega (arith, root, below.below)) (record { within = below.within; is = none })

-- so nodes of the same paths lie below the root of either context
nodes_below : (t u : Tree) → IsContext t → IsContext u → (ns ms : List NodeNumber) → All (IsBelowRoot t) ns
    → map (path_at u) ms ≡ map (path_at t) ns → All (IsBelowRoot u) ms
nodes_below t u context other [] [] h e = All-nil (IsBelowRoot u)
nodes_below t u context other [] (m ∷ ms) h e = cc
nodes_below t u context other (n ∷ ns) [] h e = cc
nodes_below t u context other (n ∷ ns) (m ∷ ms) h e =
    let first : path_at u m ≡ path_at t n = cc in
    let rest : map (path_at u) ms ≡ map (path_at t) ns = cc in
    All-cons (IsBelowRoot u) m ms
    (below_root u other m (λ none. has_entry t context n (All-head (IsBelowRoot t) n ns h) (sym first ∙ none)))
    (nodes_below t u context other ns ms (All-tail (IsBelowRoot t) n ns h) rest)

-- a key that was moved means the same group
pub moved_key_is : (t u : Tree) → IsContext t → IsContext u → (old new : GroupKey) → IsKeyIn t old → IsMovedKey t u old new
    → IsKeyOf u (key_in t old) new
moved_key_is t u context other old new h moved = record {
  within = record {
    paths = nodes_below t u context other old.paths new.paths h.paths moved.paths;
    imms = moved.imms.within;
  };
  is = λ i. record { paths = moved.paths i; imms = moved.imms.is i };
}

-- one immediate more
pub imms_next : (t u : Tree) (attributes : List AttributeNumber) (imms before after : List Immediate) (n : ℕ) (old new : Immediate)
    → AreMovedAttributes t u attributes → n < length imms → old ≡ get_or imms n old → slice_get attributes old.attribute.0 ≡ Some new.attribute
    → new.value ≡ old.value → AreMovedImms t u (take n imms) before → after ≡ before ++ new ∷ [] → AreMovedImms t u (take (n + 1) imms) after
imms_next t u attributes imms before after n old new are short read at same moved more = record {
  mean =
      ap (map (entry_of u)) more
      ∙ map-append (entry_of u) before (new ∷ [])
      ∙ (λ i. moved.mean i ++ entry i ∷ [])
      ∙ sym (ap (map (entry_of t)) (take_more imms n old short ∙ ap (λ x. take n imms ++ x ∷ []) (sym read)) ∙ map-append (entry_of t) (take n imms) (old ∷ []));
  within = subst (All lies) (sym more) (All-push lies before new moved.within numbered.within);
}
  where
    lies : Immediate → Type 0
    lies x = x.attribute.0 < length u.attributes

    numbered : IsNumbered u (attribute_at t old.attribute) new.attribute
    numbered = are old.attribute new.attribute at

    entry : entry_of u new ≡ entry_of t old
    entry = λ i. record { attr = numbered.is i; value = same i }

-- one row more
pub rows_next : (t u : Tree) → IsContext t → IsContext u → (ks ls : List Rec) (old new others : List NumberedRow) (n : ℕ) (row : Snapshot)
    → n < length others → IsMovedRow t u (nth_numbered others n) row → AreRows t others ls → AreRows u old (ks ++ take n ls)
    → new ≡ old ++ numbered row ∷ [] → AreRows u new (ks ++ take (n + 1) ls)
rows_next t u context other ks ls old new others n row short moved all are more = record {
  within = subst (All (IsWithin u)) (sym more) (All-push (IsWithin u) old (numbered row) are.within (record {
    nodes = nodes_below t u context other own.nodes row.nodes.items own_within.nodes moved.nodes;
    imms = moved.imms.within;
  }));
  mean =
      ap (map (meant u)) more
      ∙ map-append (meant u) old (numbered row ∷ [])
      ∙ (λ i. are.mean i ++ (is ∙ read) i ∷ [])
      ∙ append_assoc ks (take n ls) (get_or ls n (meant t own) ∷ [])
      ∙ ap (λ rs. ks ++ rs) (sym (take_more ls n (meant t own) within));
}
  where
    own : NumberedRow
    own = nth_numbered others n

    own_within : IsWithin t own
    own_within = all.within n (record { nodes = []; imms = [] }) short

    is : meaning u row ≡ meant t own
    is = λ i. record { paths = moved.nodes i; imms = moved.imms.mean i }

    read : meant t own ≡ get_or ls n (meant t own)
    read =
        sym (get_or-map (meant t) others n (record { nodes = []; imms = [] }) (meant t own) short)
        ∙ ap (λ rs. get_or rs n (meant t own)) all.mean

    within : n < length ls
    within = omega (arith, short, length-map others (meant t), ap length all.mean)
