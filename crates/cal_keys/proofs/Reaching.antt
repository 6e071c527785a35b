-- The node to which a path leads.
use Rattle.std.proofs.Common.{◌≡◌, ℕ, ◌+◌, ◌<◌, List, [], ◌∷◌, ◌++◌, length, get_or, map, take, refl, sym, subst, ap, ◌∙◌, arith, append_assoc, append-nil}
use Rattle.std.proofs.lemmas.List.{map-append, take_more}
use Rattle.std.proofs.lemmas.List.Elements.{All-push}
use Rattle.std.proofs.lemmas.Option.{get_or_from_slice_get, slice_get_within}
use Rattle.cal_value.specs.declared.attribute.Attribute.{Attribute}
use Rattle.cal_value.specs.declared.attribute.Entry.{Entry}
use Rattle.cal_value.specs.declared.record.Rec.{Rec}
use Rattle.cal_context.specs.Children.{AddsAttribute, AddsChild}
use Rattle.cal_context.specs.Tree.{Tree, Grows, IsContext, attribute_at, path_at, no_attribute}
use Rattle.cal_context.specs.declared.numbers.AttributeNumber.{AttributeNumber}
use Rattle.cal_context.specs.declared.numbers.NodeNumber.{NodeNumber}
use Rattle.cal_context.proofs.CallerLemmas.{Grows-trans, path_at-Grows, attribute_at-Grows, within_paths, within_attributes}
use Rattle.cal_context.proofs.ListLemmas.{map-alike}
use Rattle.cal_filter.specs.Results.{IsNumbered}
use Rattle.cal_keys.specs.Leading.{AreWays, IsStep, Leads}
use Rattle.cal_keys.specs.Trails.{trail}

pub numbered-Grows : {t u : Tree} → Grows t u → (a : Attribute) (n : AttributeNumber) → IsNumbered t a n → IsNumbered u a n
numbered-Grows grows a n h = record {
  within = within_attributes grows n.0 h.within;
  is = attribute_at-Grows grows n h.within ∙ h.is;
}

-- an attribute that was added is the one at its number
pub added-numbered : (old new : Tree) (a : Attribute) (n : AttributeNumber) → AddsAttribute old a new n → IsNumbered new a n
added-numbered old new a n adds = record {
  within = slice_get_within new.attributes n.0 a adds.attributes.number;
  is = get_or_from_slice_get new.attributes n.0 a no_attribute adds.attributes.number;
}

pub stepped : (old mid new : Tree) (parent : NodeNumber) (e : Entry) (a : AttributeNumber) (n : NodeNumber) → parent.0 < length old.paths → IsNumbered mid e.attr a → Grows old mid
    → AddsChild mid parent a e.value new n → Grows mid new → IsStep old new parent e n
stepped old mid new parent e a n within numbered first child grows =
    let same : attribute_at new a ≡ e.attr = attribute_at-Grows grows a numbered.within ∙ numbered.is in
    let up = path_at-Grows (Grows-trans old mid new first grows) parent within in
    record {
      within = child.child.within;
      path = child.child.path ∙ (λ j. up j ++ record { attr = same j; value = e.value } ∷ []);
    }

pub leads-none : (t : Tree) → IsContext t → Leads t [] (record { 0 = 0 })
leads-none t context = record {
  within = slice_get_within t.paths 0 [] context.root;
  is = get_or_from_slice_get t.paths 0 [] [] context.root;
}

pub leads-begin : (t : Tree) (before : List Entry) (n : NodeNumber) → Leads t before n → Leads t (before ++ []) n
leads-begin t before n h = subst (λ p. Leads t p n) (sym (append-nil before)) h

pub leads-more : (old new : Tree) (before path : List Entry) (i : ℕ) (e : Entry) (up n : NodeNumber) → i < length path → e ≡ get_or path i e
    → Leads old (before ++ take i path) up → IsStep old new up e n → Leads new (before ++ take (i + 1) path) n
leads-more old new before path i e up n within is leads step = record {
  within = step.within;
  is =
      step.path ∙ (λ j. leads.is j ++ is j ∷ [])
      ∙ append_assoc before (take i path) (get_or path i e ∷ [])
      ∙ ap (λ p. before ++ p) (sym (take_more path i e within));
}

-- where a path leads stays while the tree grows
pub Leads-Grows : {old new : Tree} → Grows old new → (path : List Entry) (n : NodeNumber) → Leads old path n → Leads new path n
Leads-Grows grows path n h = record {
  within = within_paths grows n.0 h.within;
  is = path_at-Grows grows n h.within ∙ h.is;
}

-- only the empty path leads to the root, and it leads nowhere else
pub leads-root : (t : Tree) → IsContext t → (path : List Entry) (n : NodeNumber) → n.0 ≡ 0 → Leads t path n → path ≡ []
leads-root t context path n zero_is h =
    sym h.is ∙ ap (λ k. get_or t.paths k []) zero_is ∙ (leads-none t context).is

pub leads-below : (t : Tree) → IsContext t → (n : NodeNumber) → (n.0 ≡ 0 → ⊥) → Leads t [] n → ⊥
leads-below t context n other h =
    other (context.paths n.0 0 [] h.within (leads-none t context).within (h.is ∙ sym (leads-none t context).is))

pub joined_path : (old new : Tree) (one two path : List Entry) (m n : NodeNumber) → path ≡ path_at old m → Leads old two m → Leads new (one ++ path) n
    → Leads new (one ++ two) n
joined_path old new one two path m n is h g = subst (λ p. Leads new (one ++ p) n) (is ∙ h.is) g

-- ---- the ways to groups

pub ways-more : (old new : Tree) (keys : List Rec) (i : ℕ) (key : Rec) (nodes : List NodeNumber) (n : NodeNumber) (way : List Entry) → Grows old new
    → i < length keys → key ≡ get_or keys i key → AreWays old (take i keys) nodes → way ≡ trail key → Leads new way n
    → AreWays new (take (i + 1) keys) (nodes ++ n ∷ [])
ways-more old new keys i key nodes n way grows within is ways way_is leads = record {
  within = All-push (λ m. m.0 < length new.paths) nodes n (λ k d l. within_paths grows (get_or nodes k d).0 (ways.within k d l)) leads.within;
  paths =
      map-append (path_at new) nodes (n ∷ [])
      ∙ (λ j. map-alike (path_at new) (path_at old) nodes (λ k d l. path_at-Grows grows (get_or nodes k d) (ways.within k d l)) j ++ leads.is j ∷ [])
      ∙ (λ j. ways.paths j ++ way_is j ∷ [])
      ∙ sym (ap (map trail) (take_more keys i key within ∙ ap (λ k. take i keys ++ k ∷ []) (sym is)) ∙ map-append trail (take i keys) (key ∷ []));
}
