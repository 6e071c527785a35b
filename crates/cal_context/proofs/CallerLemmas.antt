-- What a caller cites: growth is an order, numbers keep their meanings, and equal paths are one node.
use Rattle.std.proofs.Common.{◌≡◌, ℕ, ◌<◌, List, [], ◌∷◌, ◌++◌, length, get_or, map, sym, ◌∙◌, subst, arith, append_assoc, inl, inr}
use Rattle.std.specs.List.{All}
use Rattle.std.proofs.lemmas.List.Elements.{All-push}
use Rattle.std.proofs.lemmas.Option.{get_or_from_slice_get, slice_get_within}
use Rattle.cal_value.specs.declared.record.Rec.{Rec}
use Rattle.cal_value.specs.declared.variant.Variant.{Variant}
use Rattle.cal_context.specs.Lists.{Adds}
use Rattle.cal_context.specs.Tree.{Tree, Grows, IsContext, no_attribute, no_value, attribute_at, value_at, path_at}
use Rattle.cal_context.specs.Children.{IsChild, IsLinked}
use Rattle.cal_context.specs.Snapshots.{IsIn, KeepsMeanings, entry_of, meaning}
use Rattle.cal_context.specs.Taking.{TakesMore}
use Rattle.cal_context.specs.declared.numbers.AttributeNumber.{AttributeNumber}
use Rattle.cal_context.specs.declared.numbers.Link.{Link}
use Rattle.cal_context.specs.declared.numbers.NodeNumber.{NodeNumber}
use Rattle.cal_context.specs.declared.numbers.ValueNumber.{ValueNumber}
use Rattle.cal_context.specs.declared.snapshot.Snapshot.{Snapshot}
use Rattle.cal_context.proofs.ListLemmas.{IsFront-refl, IsFront-trans, get_or-IsFront, length-IsFront, map-alike}

pub Grows-refl : (t : Tree) → Grows t t
Grows-refl t = record {
  attributes = IsFront-refl t.attributes;
  values = IsFront-refl t.values;
  paths = IsFront-refl t.paths;
}

pub Grows-trans : (a b c : Tree) → Grows a b → Grows b c → Grows a c
Grows-trans a b c h g = record {
  attributes = IsFront-trans a.attributes b.attributes c.attributes h.attributes g.attributes;
  values = IsFront-trans a.values b.values c.values h.values g.values;
  paths = IsFront-trans a.paths b.paths c.paths h.paths g.paths;
}

module _ {old new : Tree} (grows : Grows old new) where
  pub attribute_at-Grows : (n : AttributeNumber) → n.0 < length old.attributes → attribute_at new n ≡ attribute_at old n
  attribute_at-Grows n l = get_or-IsFront old.attributes new.attributes n.0 no_attribute grows.attributes l

  pub value_at-Grows : (n : ValueNumber) → n.0 < length old.values → value_at new n ≡ value_at old n
  value_at-Grows n l = get_or-IsFront old.values new.values n.0 no_value grows.values l

  pub path_at-Grows : (n : NodeNumber) → n.0 < length old.paths → path_at new n ≡ path_at old n
  path_at-Grows n l = get_or-IsFront old.paths new.paths n.0 [] grows.paths l

  -- what lies within stays within
  pub within_attributes : (n : ℕ) → n < length old.attributes → n < length new.attributes
  within_attributes n l = omega (arith, l, length-IsFront old.attributes new.attributes grows.attributes)

  pub within_values : (n : ℕ) → n < length old.values → n < length new.values
  within_values n l = omega (arith, l, length-IsFront old.values new.values grows.values)

  pub within_paths : (n : ℕ) → n < length old.paths → n < length new.paths
  within_paths n l = omega (arith, l, length-IsFront old.paths new.paths grows.paths)

  pub IsChild-Grows : (parent : NodeNumber) (attribute : AttributeNumber) (value : Variant) (node : NodeNumber)
      → IsChild old parent attribute value node → IsChild new parent attribute value node
  IsChild-Grows parent attribute value node h = record {
    later = h.later;
    within = within_paths node.0 h.within;
    known = within_attributes attribute.0 h.known;
    path = path_at-Grows node h.within ∙ h.path
        ∙ sym (λ j. path_at-Grows parent (omega (arith, h.later, h.within)) j ++ record { attr = attribute_at-Grows attribute h.known j; value = value } ∷ []);
  }

  pub IsLinked-Grows : (l : Link) (node : NodeNumber) → IsLinked old l node → IsLinked new l node
  IsLinked-Grows l node h = record {
    child = subst (λ v. IsChild new l.parent l.attribute v node) (sym (value_at-Grows l.value h.value)) (IsChild-Grows l.parent l.attribute (value_at old l.value) node h.child);
    value = within_values l.value.0 h.value;
  }

  pub IsIn-Grows : (s : Snapshot) → IsIn old s → IsIn new s
  IsIn-Grows s h = record {
    nodes = λ k d l. record { below = (h.nodes k d l).below; within = within_paths _ (h.nodes k d l).within };
    imms = λ k d l. within_attributes _ (h.imms k d l);
  }

  -- a snapshot means the same record
  pub meaning-Grows : (s : Snapshot) → IsIn old s → meaning new s ≡ meaning old s
  meaning-Grows s h = λ j. record { paths = paths j; imms = imms j }
    where
      paths : map (path_at new) s.nodes.items ≡ map (path_at old) s.nodes.items
      paths = map-alike (path_at new) (path_at old) s.nodes.items (λ k d l. path_at-Grows (get_or s.nodes.items k d) (h.nodes k d l).within)

      imms : map (entry_of new) s.imms.items ≡ map (entry_of old) s.imms.items
      imms = map-alike (entry_of new) (entry_of old) s.imms.items
          (λ k d l. let i = get_or s.imms.items k d in λ j. record { attr = attribute_at-Grows i.attribute (h.imms k d l) j; value = i.value })

  pub keeps_meanings : KeepsMeanings old new
  keeps_meanings = record {
    attributes = attribute_at-Grows;
    values = value_at-Grows;
    paths = path_at-Grows;
    children = IsChild-Grows;
    snapshots = IsIn-Grows;
    meanings = meaning-Grows;
  }

module _ {t : Tree} (is : IsContext t) where
  pub root_within : 0 < length t.paths
  root_within = slice_get_within t.paths 0 [] is.root

  pub root_path : path_at t (record { 0 = 0 }) ≡ []
  root_path = get_or_from_slice_get t.paths 0 [] [] is.root

  -- equal paths are one node
  pub one_node : (n m : NodeNumber) → n.0 < length t.paths → m.0 < length t.paths → path_at t n ≡ path_at t m → n ≡ m
  one_node n m l k e = let same : n.0 ≡ m.0 = is.paths n.0 m.0 [] l k e in λ j. record { 0 = same j }

-- what is taken in two steps
pub TakesMore-trans : (had then has : List Rec → Type 0) (xs ys : List Rec) → TakesMore had then xs → TakesMore then has ys → TakesMore had has (xs ++ ys)
TakesMore-trans had then has xs ys h g rs is = subst has (append_assoc rs xs ys) (g (rs ++ xs) (h rs is))

-- what holds of each item of a list holds still, where it holds of one more
pub All-Adds : {A : Type 0} (P : A → Type 0) (xs : List A) (x : A) (ys : List A) → All P xs → P x → Adds xs x ys → All P ys
All-Adds P xs x ys all is (inl h) = subst (All P) (sym h.1) all
All-Adds P xs x ys all is (inr h) = subst (All P) (sym h.1) (All-push P xs x all is)
