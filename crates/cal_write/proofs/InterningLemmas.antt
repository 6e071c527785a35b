use Rattle.std.proofs.Common.{◌≡◌, ℕ, ◌+◌, ◌<◌, List, [], ◌∷◌, ◌++◌, length, get_or, take, filter, refl, sym, ap, ◌∙◌, subst, arith}
use Rattle.std.proofs.lemmas.List.{append_assoc, append-nil, map-append, take_more}
use Rattle.std.proofs.lemmas.List.Elements.{filter-append, All-push}
use Rattle.std.proofs.lemmas.Option.{get_or_from_slice_get, slice_get_within}
use Rattle.cal_value.specs.declared.attribute.Attribute.{Attribute}
use Rattle.cal_value.specs.declared.attribute.Entry.{Entry}
use Rattle.cal_value.specs.declared.record.Rec.{Rec}
use Rattle.cal_value.specs.declared.variant.Variant.{Variant}
use Rattle.cal_context.specs.Children.{AddsAttribute, AddsChild}
use Rattle.cal_context.specs.Snapshots.{IsBelowRoot, entry_of}
use Rattle.cal_context.specs.Tree.{Tree, Grows, IsContext, attribute_at, path_at, no_attribute}
use Rattle.cal_context.specs.declared.numbers.AttributeNumber.{AttributeNumber}
use Rattle.cal_context.specs.declared.numbers.NodeNumber.{NodeNumber}
use Rattle.cal_context.specs.declared.snapshot.Immediate.{Immediate}
use Rattle.cal_context.specs.declared.snapshot.Snapshot.{Snapshot}
use Rattle.cal_context.proofs.CallerLemmas.{Grows-trans, path_at-Grows, attribute_at-Grows, within_paths, within_attributes}
use Rattle.cal_context.proofs.ListLemmas.{map-alike}
use Rattle.cal_write.specs.CanonicalText.{has_entry}
use Rattle.cal_write.specs.Interning.{IsStep, IsReached, AreNodesOf, AddsPaths, AreImmediatesOf, AddsImmediates, Means}

-- ---- while the context grows

nodes-Grows : (old new : Tree) → Grows old new → (paths : List (List Entry)) (nodes : List NodeNumber) → AreNodesOf old paths nodes → AreNodesOf new paths nodes
nodes-Grows old new grows paths nodes h = record {
  within = λ k d l. record { below = (h.within k d l).below; within = within_paths grows (get_or nodes k d).0 (h.within k d l).within };
  are = map-alike (path_at new) (path_at old) nodes (λ k d l. path_at-Grows grows (get_or nodes k d) (h.within k d l).within) ∙ h.are;
}

imms-Grows : (old new : Tree) → Grows old new → (entries : List Entry) (imms : List Immediate) → AreImmediatesOf old entries imms → AreImmediatesOf new entries imms
imms-Grows old new grows entries imms h = record {
  within = λ k d l. within_attributes grows (get_or imms k d).attribute.0 (h.within k d l);
  are = map-alike (entry_of new) (entry_of old) imms (λ k d l. let i = get_or imms k d in λ j. record { attr = attribute_at-Grows grows i.attribute (h.within k d l) j; value = i.value }) ∙ h.are;
}

-- ---- one entry, and a path

-- an attribute that was added is the one at its number
attribute-is : (old new : Tree) (a : Attribute) (n : AttributeNumber) → AddsAttribute old a new n → (n.0 < length new.attributes) × (attribute_at new n ≡ a)
attribute-is old new a n adds =
    (slice_get_within new.attributes n.0 a adds.attributes.number, get_or_from_slice_get new.attributes n.0 a no_attribute adds.attributes.number)

pub attribute-within : (old new : Tree) (a : Attribute) (n : AttributeNumber) → AddsAttribute old a new n → n.0 < length new.attributes
attribute-within old new a n adds = (attribute-is old new a n adds).0

pub stepped : (old mid new : Tree) (parent : NodeNumber) (e : Entry) (a : AttributeNumber) (n : NodeNumber) → parent.0 < length old.paths → AddsAttribute old e.attr mid a → Grows old mid
    → AddsChild mid parent a e.value new n → Grows mid new → IsStep old new parent e n
stepped old mid new parent e a n within attribute first child grows =
    let is = attribute-is old mid e.attr a attribute in
    let same : attribute_at new a ≡ e.attr = attribute_at-Grows grows a is.0 ∙ is.1 in
    let up = path_at-Grows (Grows-trans old mid new first grows) parent within in
    record {
      below = record { below = omega (arith, child.child.later); within = child.child.within };
      path = child.child.path ∙ (λ j. up j ++ record { attr = same j; value = e.value } ∷ []);
    }

pub reached-none : (t : Tree) → IsContext t → IsReached t [] (record { 0 = 0 })
reached-none t context = record {
  within = slice_get_within t.paths 0 [] context.root;
  is = get_or_from_slice_get t.paths 0 [] [] context.root;
  below = λ h. absurd (omega (arith, h));
}

pub reached-more : (old new : Tree) (path : List Entry) (i : ℕ) (e : Entry) (up n : NodeNumber) → i < length path → e ≡ get_or path i e → IsReached old (take i path) up → IsStep old new up e n
    → IsReached new (take (i + 1) path) n
reached-more old new path i e up n within is reached step = record {
  within = step.below.within;
  is = step.path ∙ (λ j. reached.is j ++ is j ∷ []) ∙ sym (take_more path i e within);
  below = λ h. step.below.below;
}

-- ---- paths, and immediates

pub no-paths : (old : Tree) (nodes : List NodeNumber) → AddsPaths old old [] nodes nodes
no-paths old nodes done h = subst (λ ps. AreNodesOf old ps nodes) (sym (append-nil done)) h

pub path-put : (old new : Tree) (path : List Entry) (nodes : List NodeNumber) (n : NodeNumber) → Grows old new → 0 < length path → IsReached new path n
    → AddsPaths old new (path ∷ []) nodes (nodes ++ n ∷ [])
path-put old new [] nodes n grows some reached done h = absurd (omega (arith, some))
path-put old new (e ∷ path) nodes n grows some reached done h =
    let before = nodes-Grows old new grows done nodes h in
    record {
      within = All-push (IsBelowRoot new) nodes n before.within (record { below = reached.below some; within = reached.within });
      are = map-append (path_at new) nodes (n ∷ []) ∙ (λ j. before.are j ++ reached.is j ∷ []) ∙ sym (filter-append has_entry done ((e ∷ path) ∷ []));
    }

pub paths-more : (old mid new : Tree) (paths : List (List Entry)) (i : ℕ) (path : List Entry) (a b c : List NodeNumber) → i < length paths → path ≡ get_or paths i path
    → AddsPaths old mid (take i paths) a b → AddsPaths mid new (path ∷ []) b c → AddsPaths old new (take (i + 1) paths) a c
paths-more old mid new paths i path a b c within is first next done h =
    let all : done ++ take (i + 1) paths ≡ (done ++ take i paths) ++ path ∷ [] =
    ap (λ l. done ++ l) (take_more paths i path within ∙ ap (λ p. take i paths ++ p ∷ []) (sym is)) ∙ sym (append_assoc done (take i paths) (path ∷ [])) in
    subst (λ ps. AreNodesOf new ps c) (sym all) (next (done ++ take i paths) (first done h))

pub no-entries : (old : Tree) (imms : List Immediate) → AddsImmediates old old [] imms imms
no-entries old imms done h = subst (λ es. AreImmediatesOf old es imms) (sym (append-nil done)) h

pub immediate-put : (old new : Tree) (e : Entry) (imms : List Immediate) (a : AttributeNumber) (v : Variant) → Grows old new → AddsAttribute old e.attr new a → v ≡ e.value
    → AddsImmediates old new (e ∷ []) imms (imms ++ record { attribute = a; value = v } ∷ [])
immediate-put old new e imms a v grows adds same done h =
    let before = imms-Grows old new grows done imms h in
    let is = attribute-is old new e.attr a adds in
    record {
      within = All-push (λ i. i.attribute.0 < length new.attributes) imms (record { attribute = a; value = v }) before.within is.0;
      are = map-append (entry_of new) imms (record { attribute = a; value = v } ∷ []) ∙ (λ j. before.are j ++ record { attr = is.1 j; value = same j } ∷ []);
    }

pub entries-more : (old mid new : Tree) (entries : List Entry) (i : ℕ) (e : Entry) (a b c : List Immediate) → i < length entries → e ≡ get_or entries i e
    → AddsImmediates old mid (take i entries) a b → AddsImmediates mid new (e ∷ []) b c → AddsImmediates old new (take (i + 1) entries) a c
entries-more old mid new entries i e a b c within is first next done h =
    let all : done ++ take (i + 1) entries ≡ (done ++ take i entries) ++ e ∷ [] =
    ap (λ l. done ++ l) (take_more entries i e within ∙ ap (λ p. take i entries ++ p ∷ []) (sym is)) ∙ sym (append_assoc done (take i entries) (e ∷ [])) in
    subst (λ es. AreImmediatesOf new es c) (sym all) (next (done ++ take i entries) (first done h))

-- a record in a context
pub recorded : (old mid new : Tree) (snap : Snapshot) (r : Rec) (paths : List (List Entry)) (entries : List Entry) (a : List NodeNumber) (b : List Immediate)
    → paths ≡ r.paths → entries ≡ r.imms → a ≡ [] → b ≡ [] → AddsPaths old mid paths a snap.nodes.items → Grows mid new → AddsImmediates mid new entries b snap.imms.items → Means new snap r
recorded old mid new snap r paths entries a b is_paths is_entries no_nodes no_imms first grows next =
    let nodes = nodes-Grows mid new grows paths snap.nodes.items
    (first [] (subst (AreNodesOf old []) (sym no_nodes) (record { within = λ k d l. absurd (omega (arith, l)); are = refl }))) in
    let imms = next [] (subst (AreImmediatesOf mid []) (sym no_imms) (record { within = λ k d l. absurd (omega (arith, l)); are = refl })) in
    let paths_are = nodes.are ∙ ap (filter has_entry) is_paths in
    let imms_are = imms.are ∙ is_entries in
    record {
      within = record { nodes = nodes.within; imms = imms.within };
      means = λ j. record { paths = paths_are j; imms = imms_are j };
    }
