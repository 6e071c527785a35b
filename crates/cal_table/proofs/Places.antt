-- Attributes by their places in a list.
use Rattle.std.proofs.Common.{◌≡◌, ℕ, ◌+◌, ◌<◌, Some, List, [], ◌∷◌, ◌++◌, inl, inr, length, map, take, get_or, slice_get, sym, ap, ◌∙◌, subst, arith}
use Rattle.std.specs.List.{All}
use Rattle.std.proofs.lemmas.List.{get_or-map, get_or-take, length-map, length-take-le, map-append, take_more}
use Rattle.std.proofs.lemmas.Option.{get_or_from_slice_get}
use Rattle.cal_value.specs.declared.attribute.Attribute.{Attribute}
use Rattle.cal_value.specs.declared.attribute.Entry.{Entry}
use Rattle.cal_value.specs.declared.variant.Variant.{Variant}
use Rattle.cal_context.specs.Lists.{Adds, AreApart}
use Rattle.cal_snap.specs.Numbered.{entry_of, no_attribute}
use Rattle.cal_snap.specs.declared.numbered.NumberedEntry.{NumberedEntry}
use Rattle.cal_snap.specs.declared.numbered.NumberedSnap.{NumberedSnap}
use Rattle.cal_snap.specs.declared.snap.Snap.{Snap}
use Rattle.cal_table.specs.Numbering.{Numbers}
use Rattle.cal_table.specs.Snapshots.{HasNumberOf64, IsWithin64}

-- the next item of a list that has each once goes last
pub take-Adds : {A : Type 0} (xs : List A) (i : ℕ) (x : A) (new : List A) → AreApart xs → i < length xs → x ≡ get_or xs i x → Adds (take i xs) x new → new ≡ take (i + 1) xs
take-Adds xs i x new apart h is (inl old) =
    let there = old.0 in
    let k = there.0 in
    let long = length-take-le i xs (omega arith) in
    let before : k < i = omega (arith, there.1, long) in
    let same = apart k i x (omega (arith, before, h)) h (sym (get_or-take i xs k x before) ∙ there.2 ∙ is) in
    absurd (omega (arith, before, same))
take-Adds xs i x new apart h is (inr more) = more.1 ∙ ap (λ y. take i xs ++ y ∷ []) is ∙ sym (take_more xs i x h)

-- the entry by the place of its attribute means the entry
pub entry_of-place : (attrs : List Attribute) (n : ℕ) (value : Variant) (e : Entry) → slice_get attrs n ≡ Some e.attr → value ≡ e.value → entry_of attrs (record { attribute = n; value = value }) ≡ e
entry_of-place attrs n value e at same = λ i. record { attr = get_or_from_slice_get attrs n e.attr no_attribute at i; value = same i }

-- entries mean those of a list, with one more
pub entries-more : (attrs : List Attribute) (named : List Entry) (i : ℕ) (item : Entry) (entries : List NumberedEntry) (entry : NumberedEntry) → i < length named → item ≡ get_or named i item → entry_of attrs entry ≡ item → map (entry_of attrs) entries ≡ take i named → map (entry_of attrs) (entries ++ entry ∷ []) ≡ take (i + 1) named
entries-more attrs named i item entries entry h is means before =
    map-append (entry_of attrs) entries (entry ∷ []) ∙ (λ j. before j ++ (means ∙ is) j ∷ []) ∙ sym (take_more named i item h)

-- numbers stay what they are
pub numbers-kept : (attrs : List Attribute) (snap : Snap) (numbered : NumberedSnap) → Numbers attrs snap numbered → All (λ e. IsWithin64 e.value) snap.imms → All HasNumberOf64 numbered.imms.items
numbers-kept attrs snap numbered n each k d l =
    let all : All (λ (e : Entry). IsWithin64 e.value) (map (entry_of attrs) numbered.imms.items) = subst (All (λ (e : Entry). IsWithin64 e.value)) (sym (ap (λ (s : Snap). s.imms) n.means)) each in
    subst (λ (e : Entry). IsWithin64 e.value) (get_or-map (entry_of attrs) numbered.imms.items k d (entry_of attrs d) l) (all k (entry_of attrs d) (subst (λ (m : ℕ). k < m) (sym (length-map numbered.imms.items (entry_of attrs))) l))
