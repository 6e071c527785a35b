-- Entries interned as immediates, one more at a time, and what a query makes of them.
use Rattle.std.proofs.Common.{◌≡◌, ℕ, zero, suc, ◌+◌, ◌<◌, ◌≤◌, Bool, true, false, List, [], ◌∷◌, ◌++◌, length, get_or, take, drop}
use Rattle.std.proofs.Common.{map, refl, sym, ap, ◌∙◌, subst, arith, None, Some}
use Rattle.std.specs.Prelude.{if◌then◌else◌}
use Rattle.std.proofs.Math.Seq.{drop-append_seam}
use Rattle.std.proofs.lemmas.Grind.{flat_map-append}
use Rattle.std.proofs.lemmas.List.{append_assoc, append-nil, drop-append-le, drop-map, length-map, length-take, map-append, take_more}
use Rattle.std.proofs.lemmas.List.Elements.{All-push}
use Rattle.std.proofs.lemmas.Option.{get_or_from_slice_get, slice_get_within}
use Rattle.cal_context.specs.Children.{AddsAttribute}
use Rattle.cal_context.specs.Snapshots.{IsIn, entry_of, meaning}
use Rattle.cal_context.specs.Tree.{Tree, Grows, attribute_at, no_attribute, path_at}
use Rattle.cal_context.specs.declared.snapshot.Immediate.{Immediate}
use Rattle.cal_context.specs.declared.snapshot.Snapshot.{Snapshot}
use Rattle.cal_context.proofs.CallerLemmas.{attribute_at-Grows, within_attributes}
use Rattle.cal_context.proofs.ListLemmas.{map-alike}
use Rattle.cal_ql.specs.declared.query.Query.{Query}
use Rattle.cal_value.specs.Flat.{flat, joined}
use Rattle.cal_value.specs.declared.attribute.Entry.{Entry}
use Rattle.cal_value.specs.declared.record.Rec.{Rec}
use Rattle.cal_filter.specs.Conditions.{where_holds}
use Rattle.cal_filter.specs.Filtered.{IsFiltered}
use Rattle.cal_filter.specs.Interned.{AreEntries}
use Rattle.cal_filter.specs.Kept.{kept, with_lets}
use Rattle.cal_filter.proofs.FlatOnly.{added, added_alike, flattened, lets_add, where_alike}

entries-Grows : (t t' : Tree) → Grows t t' → (imms : List Immediate) (es : List Entry)
    → AreEntries t imms es → AreEntries t' imms es
entries-Grows t t' grows imms es h = record {
  within = λ k d l. within_attributes grows (get_or imms k d).attribute.0 (h.within k d l);
  means = map-alike (entry_of t') (entry_of t) imms (λ k d l. let i = get_or imms k d in
      λ j. record { attr = attribute_at-Grows grows i.attribute (h.within k d l) j; value = i.value })
      ∙ h.means;
}

-- one entry more
pub interned : (t t' : Tree) (imms imms' : List Immediate) (es : List Entry) (e : Entry)
    (x : Immediate) → Grows t t' → AddsAttribute t e.attr t' x.attribute → x.value ≡ e.value
    → imms' ≡ imms ++ x ∷ [] → AreEntries t imms es → AreEntries t' imms' (es ++ e ∷ [])
interned t t' imms imms' es e x grows adds value more h =
    let old = entries-Grows t t' grows imms es h in
    let number = adds.attributes.number in
    let known = slice_get_within t'.attributes x.attribute.0 e.attr number in
    let attr : attribute_at t' x.attribute ≡ e.attr =
    get_or_from_slice_get t'.attributes x.attribute.0 e.attr no_attribute number in
    let entry : entry_of t' x ≡ e = λ j. record { attr = attr j; value = value j } in
    record {
      within = rw more (All-push (λ (i : Immediate). i.attribute.0 < length t'.attributes) imms x
          old.within known);
      means = ap (map (entry_of t')) more ∙ map-append (entry_of t') imms (x ∷ [])
          ∙ (λ j. old.means j ++ entry j ∷ []);
    }

-- entries of a list, one more
pub entries_next : (t : Tree) (imms : List Immediate) (es entries : List Entry) (i : ℕ) (e : Entry)
    → i < length entries → e ≡ get_or entries i e
    → AreEntries t imms ((es ++ take i entries) ++ e ∷ [])
    → AreEntries t imms (es ++ take (i + 1) entries)
entries_next t imms es entries i e short read h =
    subst (AreEntries t imms)
    (append_assoc es (take i entries) (e ∷ [])
    ∙ ap (λ xs. es ++ xs)
    (sym (take_more entries i e short ∙ ap (λ y. take i entries ++ y ∷ []) (sym read)))) h

-- paths of a list, one more
pub paths_next : (t : Tree) (imms : List Immediate) (es : List Entry) (paths : List (List Entry))
    (i : ℕ) (path : List Entry) → i < length paths → path ≡ get_or paths i path
    → AreEntries t imms ((es ++ joined (take i paths)) ++ path)
    → AreEntries t imms (es ++ joined (take (i + 1) paths))
paths_next t imms es paths i path short read h =
    subst (AreEntries t imms)
    (append_assoc es (joined (take i paths)) path
    ∙ ap (λ xs. es ++ xs)
    (sym (ap joined (take_more paths i path short ∙ ap (λ y. take i paths ++ y ∷ []) (sym read))
    ∙ flat_map-append (λ p. p) (take i paths) (path ∷ [])
    ∙ ap (λ p. joined (take i paths) ++ p) (append-nil path)))) h

pub entries_same : (t : Tree) (imms : List Immediate) (es fs : List Entry) → es ≡ fs
    → AreEntries t imms es → AreEntries t imms fs
entries_same t imms es fs e h = subst (AreEntries t imms) e h

pub entries_none : (t : Tree) (imms : List Immediate) → imms ≡ [] → AreEntries t imms []
entries_none t imms e = record {
  within = rw e (λ k d l. absurd (omega arith));
  means = ap (map (entry_of t)) e;
}

-- a snapshot without nodes means its entries
pub record IsFlat (t : Tree) (s : Snapshot) (r : Rec) : Type 0 where
  pub within : IsIn t s
  pub means : meaning t s ≡ flattened r

pub flat_means : (t : Tree) (s : Snapshot) (r : Rec) (paths : List (List Entry)) (imms : List Entry)
    → s.nodes.items ≡ [] → paths ≡ r.paths → imms ≡ r.imms
    → AreEntries t s.imms.items (joined paths ++ imms) → IsFlat t s r
flat_means t s r paths imms none at_nodes others h = record {
  within = record { nodes = rw none (λ k d l. absurd (omega arith)); imms = h.within };
  means = λ i. record {
    paths = map (path_at t) (none i);
    imms = (h.means ∙ (λ j. joined (at_nodes j) ++ others j)) i;
  };
}

drop_all : {A : Type 0} (xs : List A) (n : ℕ) → length xs ≤ n → drop n xs ≡ []
drop_all [] zero h = refl
drop_all [] (suc n) h = refl
drop_all (x ∷ xs) zero h = absurd (omega arith)
drop_all (x ∷ xs) (suc n) h = drop_all xs n (omega arith)

-- the entries that LET added to a snapshot are those that it adds to the record
module _ (t : Tree) (q : Query) (r : Rec) (s s' : Snapshot) (keeps : Bool)
    (before : meaning t s ≡ flattened r)
    (after : IsFiltered q (meaning t s) (meaning t s') keeps) where
  now : meaning t s' ≡ record { paths = []; imms = flat r ++ added q.lets r }
  now =
      after.lets ∙ ap (with_lets q.lets) before ∙ lets_add q.lets (flattened r)
      ∙ (λ i. record {
        paths = [];
        imms = flat r ++ added_alike q.lets (flattened r) r refl i;
      })

  new_entries : map (entry_of t) (drop (length s.imms.items) s'.imms.items) ≡ added q.lets r
  new_entries =
      let imms : map (entry_of t) s'.imms.items ≡ flat r ++ added q.lets r = ap (λ (x : Rec). x.imms) now in
      let old : map (entry_of t) s.imms.items ≡ flat r = ap (λ (x : Rec). x.imms) before in
      let counted : length s.imms.items ≡ length (flat r) =
      sym (length-map s.imms.items (entry_of t)) ∙ ap length old in
      sym (drop-map (entry_of t) (length s.imms.items) s'.imms.items)
      ∙ ap (drop (length s.imms.items)) imms
      ∙ ap (λ n. drop n (flat r ++ added q.lets r)) counted
      ∙ drop-append_seam (flat r) (added q.lets r)

  full_is : record { paths = r.paths; imms = r.imms ++ map (entry_of t) (drop (length s.imms.items) s'.imms.items) }
      ≡ with_lets q.lets r
  full_is =
      (λ i. record { paths = r.paths; imms = r.imms ++ new_entries i }) ∙ sym (lets_add q.lets r)

  same_entries : flat (meaning t s') ≡ flat (with_lets q.lets r)
  same_entries =
      ap flat now ∙ append_assoc (joined r.paths) r.imms (added q.lets r)
      ∙ sym (ap flat (lets_add q.lets r))

  keeps_is : keeps ≡ where_holds q.conds (with_lets q.lets r)
  keeps_is = after.kept ∙ where_alike q.conds (meaning t s') (with_lets q.lets r) same_entries

  -- so a kept record is what the query makes of it
  pub kept_full : keeps ≡ true → (full : Rec)
      → full ≡ record { paths = r.paths; imms = r.imms ++ map (entry_of t) (drop (length s.imms.items) s'.imms.items) }
      → Some full ≡ kept q r
  kept_full is_kept full is =
      ap Some (is ∙ full_is)
      ∙ ap (λ b. if b then Some (with_lets q.lets r) else None) (sym is_kept ∙ keeps_is)

  -- and one that isn't kept is none
  pub kept_none : keeps ≡ false → None ≡ kept q r
  kept_none isnt = ap (λ b. if b then Some (with_lets q.lets r) else None) (sym isnt ∙ keeps_is)
