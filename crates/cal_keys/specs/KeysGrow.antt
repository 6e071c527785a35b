-- Keys, sieves and rows by number stay right while their tree grows.
use Rattle.std.specs.Prelude.{◌≡◌, ℕ, ◌<◌, true, List, Option, None, Some, length}
use Rattle.std.specs.Prelude.{slice_index_or as get_or}
use Rattle.std.specs.List.{All}
use Rattle.std.proofs.Common.{sym, subst, ◌∙◌}
use Rattle.std.proofs.lemmas.List.Elements.{All-weaker}
use Rattle.cal_context.specs.Snapshots.{IsBelowRoot, entry_of}
use Rattle.cal_context.specs.Tree.{Tree, Grows, path_at}
use Rattle.cal_context.specs.declared.snapshot.Immediate.{Immediate}
use Rattle.cal_context.proofs.CallerLemmas.{attribute_at-Grows, path_at-Grows}
use Rattle.cal_context.proofs.CallerLemmas.{within_attributes, within_paths}
use Rattle.cal_context.proofs.ListLemmas.{map-alike}
use Rattle.cal_rowset.specs.NumberedRows.{IsWithin, NumberedRow, meant}
use Rattle.cal_value.specs.declared.record.Rec.{Rec}
use Rattle.cal_keys.specs.Keys.{IsKeyIn, key_in, room_of}
use Rattle.cal_keys.specs.Shares.{AreShares}
use Rattle.cal_keys.specs.Sieves.{IsSieve, shares_at}
use Rattle.cal_keys.specs.SnapshotRows.{AreRows}
use Rattle.cal_keys.specs.Takers.{IsTaker, taken_at, taker_at}
use Rattle.cal_keys.specs.declared.key.GroupKey.{GroupKey}
use Rattle.cal_keys.specs.declared.sieve.Sieve.{Sieve}

-- ---- keys stay while their tree grows

module _ {old new : Tree} (grows : Grows old new) where
  pub IsKeyIn-Grows : (k : GroupKey) → IsKeyIn old k → IsKeyIn new k
  IsKeyIn-Grows k h = record {
    paths = All-weaker (IsBelowRoot old) (IsBelowRoot new)
        (λ n b. record { below = b.below; within = within_paths grows n.0 b.within })
        k.paths h.paths;
    imms = within_paths grows k.imms.0 h.imms;
  }

  pub key_in-Grows : (k : GroupKey) → IsKeyIn old k → key_in new k ≡ key_in old k
  key_in-Grows k h = λ i. record {
    paths = map-alike (path_at new) (path_at old) k.paths
        (λ n d l. path_at-Grows grows (get_or k.paths n d) (h.paths n d l).within) i;
    imms = path_at-Grows grows k.imms h.imms i;
  }

  pub keys-Grows : (ks : List GroupKey) → All (IsKeyIn old) ks → All (IsKeyIn new) ks
  keys-Grows ks h = All-weaker (IsKeyIn old) (IsKeyIn new) IsKeyIn-Grows ks h

pub room_grows : (names : Option (List (List ℕ))) {t u own new : Tree} → Grows t u → Grows own new
    → Grows (room_of names t own) (room_of names u new)
room_grows None h g = h
room_grows (Some names) h g = g

-- a sieve
pub sieve-Grows : {t u : Tree} → Grows t u → (own : Tree) (names : List (List ℕ)) (s : Sieve)
    → IsSieve t own names s → IsSieve u own names s
sieve-Grows {t} {u} grows own names s h = record {
  takers = record {
    places = h.takers.places;
    known = λ a l. let old = h.takers.known a l in record {
      within = within_attributes grows a.0 old.within;
      is = subst (λ b. IsTaker names b (taker_at s.takers a))
          (sym (attribute_at-Grows grows a old.within)) old.is;
    };
  };
  shares = λ n l. let old = h.shares n l in record {
    within = within_paths grows n.0 old.within;
    are = subst (λ p. AreShares own (length names) (λ place. taken_at true names place p)
        (shares_at s n)) (sym (path_at-Grows grows n old.within)) old.are;
  };
}

-- rows by number mean the same records
row-Grows : {t u : Tree} → Grows t u → (row : NumberedRow) → IsWithin t row → IsWithin u row
row-Grows {t} {u} grows row h = record {
  nodes = All-weaker (IsBelowRoot t) (IsBelowRoot u)
      (λ n b. record { below = b.below; within = within_paths grows n.0 b.within })
      row.nodes h.nodes;
  imms = All-weaker (λ (i : Immediate). i.attribute.0 < length t.attributes)
      (λ (i : Immediate). i.attribute.0 < length u.attributes)
      (λ i l. within_attributes grows i.attribute.0 l) row.imms h.imms;
}

meant-Grows : {t u : Tree} → Grows t u → (row : NumberedRow) → IsWithin t row
    → meant u row ≡ meant t row
meant-Grows {t} {u} grows row h = λ i. record {
  paths = map-alike (path_at u) (path_at t) row.nodes
      (λ n d l. path_at-Grows grows (get_or row.nodes n d) (h.nodes n d l).within) i;
  imms = map-alike (entry_of u) (entry_of t) row.imms
      (λ n d l j. record {
        attr = attribute_at-Grows grows (get_or row.imms n d).attribute (h.imms n d l) j;
        value = (get_or row.imms n d).value;
      }) i;
}

pub rows-Grows : {t u : Tree} → Grows t u → (rows : List NumberedRow) (rs : List Rec)
    → AreRows t rows rs → AreRows u rows rs
rows-Grows {t} {u} grows rows rs h = record {
  within = All-weaker (IsWithin t) (IsWithin u) (row-Grows grows) rows h.within;
  mean =
      map-alike (meant u) (meant t) rows
      (λ n d l. meant-Grows grows (get_or rows n d) (h.within n d l))
      ∙ h.mean;
}
