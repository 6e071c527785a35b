-- A snapshot of which a table gets the entries alone that it looks at.
use Rattle.std.proofs.Common.{◌≡◌, ℕ, ◌+◌, ◌<◌, Bool, true, false, cond, List, [], ◌∷◌, ◌++◌, length}
use Rattle.std.proofs.Common.{filter, get_or, map, take, ap, subst, sym, refl, ◌∙◌, append_assoc}
use Rattle.std.proofs.lemmas.List.{append-nil, length-map, map-append, take_more}
use Rattle.std.proofs.lemmas.List.Elements.{filter-append}
use Rattle.std.specs.declared.vec.Vec.{Vec}
use Rattle.cal_channel.specs.declared.shown.ShownEntry.{ShownEntry}
use Rattle.cal_snap.specs.declared.numbered.NumberedEntry.{NumberedEntry}
use Rattle.cal_snap.specs.declared.numbered.NumberedSnap.{NumberedSnap}
use Rattle.cal_table.proofs.Looked.{table_of-looked}
use Rattle.cal_table.specs.Looks.{IsLookedAt}
use Rattle.cal_table.specs.Snapshots.{table_of}
use Rattle.cal_table.specs.Tables.{Same, TableValue, merged_tables}

module _ (q : NumberedEntry → Bool) where
  -- an entry that the table looks at was added
  pub looked-added : (x : NumberedEntry) (old new : List NumberedEntry) → q x ≡ true
      → new ≡ old ++ x ∷ [] → new ≡ old ++ filter q (x ∷ [])
  looked-added x old new is so = so ∙ ap (λ (b : Bool). old ++ cond b (x ∷ []) []) (sym is)

  -- another one wasn't
  pub other-left : (x : NumberedEntry) (old new : List NumberedEntry) → q x ≡ false
      → new ≡ old → new ≡ old ++ filter q (x ∷ [])
  other-left x old new is so =
      so ∙ sym (append-nil old) ∙ ap (λ (b : Bool). old ++ cond b (x ∷ []) []) (sym is)

  module _ (f : ShownEntry → NumberedEntry) where
    -- with one entry more
    pub looked-next : (old now new : List NumberedEntry) (es : List ShownEntry) (i : ℕ)
        (e : ShownEntry) → i < length es → e ≡ get_or es i e
        → now ≡ old ++ filter q (map f (take i es)) → new ≡ now ++ filter q (f e ∷ [])
        → new ≡ old ++ filter q (map f (take (i + 1) es))
    looked-next old now new es i e within is so added =
        let more : filter q (map f (take (i + 1) es))
        ≡ filter q (map f (take i es)) ++ filter q (f e ∷ []) =
        ap (λ (zs : List ShownEntry). filter q (map f zs)) (take_more es i e within)
        ∙ ap (λ (x : ShownEntry). filter q (map f (take i es ++ x ∷ []))) (sym is)
        ∙ ap (filter q) (map-append f (take i es) (e ∷ []))
        ∙ filter-append q (map f (take i es)) (f e ∷ []) in
        added ∙ ap (λ (zs : List NumberedEntry). zs ++ filter q (f e ∷ [])) so
        ∙ append_assoc old (filter q (map f (take i es))) (filter q (f e ∷ []))
        ∙ ap (λ (zs : List NumberedEntry). old ++ zs) (sym more)

-- a list with what stands for each element of another one
abbrev pub mapped_vec : {A B Z : Type 0} → (A → B) → Vec B Z → Vec A Z → Vec B Z
mapped_vec f v es = record {
  ptr = v.ptr;
  len = es.len;
  cap = es.cap;
  alloc = v.alloc;
  items = map f es.items;
  ok = (es.ok.0 ∙ sym (length-map es.items f), es.ok.1);
  small = es.small;
}

-- a table to which what it looks at of a snapshot was added, with the snapshot added
pub added-whole : (old new : TableValue) (snap looked : NumberedSnap)
    → IsLookedAt old.shape snap looked
    → Same new (merged_tables old (table_of old.shape (looked ∷ [])))
    → Same new (merged_tables old (table_of old.shape (snap ∷ [])))
added-whole old new snap looked h same =
    subst (λ (t : TableValue). Same new (merged_tables old t))
    (table_of-looked old.shape snap looked h) same
