-- Groups by numbers, put behind others group by group.
use Rattle.std.proofs.Common.{◌≡◌, ℕ, ◌+◌, ◌<◌, ◌≤◌, true, false, List, [], ◌++◌, get_or, length, map, take, sym, ap, subst, ◌∙◌, arith, append-nil, true≢false}
use Rattle.std.specs.Prelude.{is_some}
use Rattle.std.specs.List.{filter_map}
use Rattle.std.proofs.lemmas.List.{get_or-map, length-map, take_all}
use Rattle.std.proofs.lemmas.List.Elements.{filter_map-append}
use Rattle.cal_context.specs.Tree.{Grows, IsContext, Tree}
use Rattle.cal_context.proofs.CallerLemmas.{Grows-refl}
use Rattle.cal_filter.specs.Kept.{kept}
use Rattle.cal_ql.specs.declared.query.Query.{Query}
use Rattle.cal_rowset.specs.NumberedRows.{NumberedRow}
use Rattle.cal_value.specs.declared.record.Rec.{Rec}
use Rattle.cal_engine.specs.FoldGrows.{counters-Grows, grouped_in-Grows}
use Rattle.cal_keys.specs.KeysGrow.{keys-Grows, sieve-Grows}
use Rattle.cal_engine.specs.Folding.{Gathers, groups_over}
use Rattle.cal_keys.specs.Groups.{groups_of, records_of}
use Rattle.cal_keys.specs.Keys.{IsKeyOf, key_in, nth_key, room_of}
use Rattle.cal_keys.specs.Moves.{IsMovedKey}
use Rattle.cal_engine.specs.Numbered.{AreGroups, GathersKey, Numbered, grouped_in}
use Rattle.cal_parts.specs.Parts.{Gathered, parts_over}
use Rattle.cal_engine.specs.Rows.{is_aggregated}
use Rattle.cal_keys.specs.SnapshotRows.{AreRows}
use Rattle.cal_engine.specs.Tallies.{Holds, IsTally}
use Rattle.cal_keys.specs.declared.key.GroupKey.{GroupKey}
use Rattle.cal_engine.specs.declared.tally.Tally.{Tally}
use Rattle.cal_engine.proofs.GatheredKeys.{gathered_within, gathers_in}
use Rattle.cal_keys.proofs.MovedKeys.{moved_key_is}
use Rattle.cal_engine.proofs.Regroups.{groups_over-regrouped, regrouped, regrouped_more}
use Rattle.cal_engine.proofs.Tallying.{room_by_name, room_by_nodes}
use Rattle.cal_keys.proofs.SieveLemmas.{sieve_own}

-- ---- the groups so far

abbrev pub so_far : Query → List Rec → List Rec → ℕ → List Rec
so_far q rs ss n = rs ++ regrouped q ss (take n (groups_of q.group ss))

pub groups_begin : (u : Tree) (q : Query) (rs ss : List Rec) (g : Numbered) → AreGroups u q rs g → AreGroups u q (so_far q rs ss 0) g
groups_begin u q rs ss g h = subst (λ xs. AreGroups u q xs g) (sym (append-nil rs)) h

pub groups_next : (t u : Tree) → IsContext t → IsContext u → (q : Query) (rs ss : List Rec) (old new others : Numbered) (n : ℕ) (key : GroupKey)
    (parts : List Gathered) → n < length others.parts → IsMovedKey t u (nth_key others.keys n) key → parts ≡ get_or others.parts n []
    → AreGroups t q ss others → AreGroups u q (so_far q rs ss n) old → GathersKey old key parts new → AreGroups u q (so_far q rs ss (n + 1)) new
groups_next t u context other q rs ss old new others n key parts short moved part all are gathers = record {
  keys = gathered_within u old new key parts are.keys is.within gathers;
  groups = regrouped_more q ss rs n (key_in t own) parts (grouped_in u old) (grouped_in u new) within at read are.groups to_group;
}
  where
    own : GroupKey
    own = nth_key others.keys n

    over : Rec → List Gathered
    over g = parts_over q.aggs (records_of q.group g ss)

    keys : map (key_in t) others.keys ≡ groups_of q.group ss
    keys = ap (λ g. g.keys) all.groups

    all_parts : others.parts ≡ map over (groups_of q.group ss)
    all_parts = ap (λ g. g.parts) all.groups

    within : n < length (groups_of q.group ss)
    within = omega (arith, short, ap length all_parts, length-map (groups_of q.group ss) over)

    there : n < length others.keys
    there = omega (arith, within, ap length keys, length-map others.keys (key_in t))

    at : key_in t own ≡ get_or (groups_of q.group ss) n (key_in t own)
    at =
        sym (get_or-map (key_in t) others.keys n (record { paths = []; imms = record { 0 = 0 } }) (key_in t own) there)
        ∙ ap (λ ks. get_or ks n (key_in t own)) keys

    read : parts ≡ over (key_in t own)
    read =
        part ∙ ap (λ ps. get_or ps n []) all_parts
        ∙ get_or-map over (groups_of q.group ss) n (key_in t own) [] within
        ∙ ap over (sym at)

    is : IsKeyOf u (key_in t own) key
    is = moved_key_is t u context other own key (all.keys n (record { paths = []; imms = record { 0 = 0 } }) there) moved

    to_group : Gathers (grouped_in u old) (key_in t own) parts (grouped_in u new)
    to_group =
        subst (λ g. Gathers (grouped_in u old) g parts (grouped_in u new)) is.is
        (gathers_in u other old new key parts are.keys is.within gathers)

pub groups_end : (t u : Tree) (q : Query) (rs ss : List Rec) (g others : Numbered) (n : ℕ) → length others.parts ≤ n → AreGroups t q ss others
    → AreGroups u q (so_far q rs ss n) g → AreGroups u q (rs ++ ss) g
groups_end t u q rs ss g others n past all are = record {
  keys = are.keys;
  groups =
      are.groups
      ∙ ap (λ ks. groups_over q (rs ++ regrouped q ss ks)) (take_all n (groups_of q.group ss) short)
      ∙ groups_over-regrouped q ss rs;
}
  where
    over : Rec → List Gathered
    over g = parts_over q.aggs (records_of q.group g ss)

    short : length (groups_of q.group ss) ≤ n
    short = omega (arith, past, ap length (ap (λ h. h.parts) all.groups), length-map (groups_of q.group ss) over)

-- groups stay while their tree grows
pub groups-Grows : {t u : Tree} → Grows t u → (q : Query) (rs : List Rec) (g : Numbered) → AreGroups t q rs g → AreGroups u q rs g
groups-Grows grows q rs g h = record {
  keys = keys-Grows grows g.keys h.keys;
  groups = grouped_in-Grows grows g h.keys ∙ h.groups;
}

-- ---- the groups of a tally

-- the groups of a tally in the tree of its keys
abbrev pub InRoom : Tree → Query → List Rec → Tally → Type 0
InRoom room q rs y = AreGroups room q rs y.groups

pub tally_groups : (t room : Tree) (q : Query) (rs : List Rec) (y : Tally) → room_of q.group t y.own ≡ room → IsTally t q rs y → InRoom room q rs y
tally_groups t room q rs y is h = subst (λ r. InRoom r q rs y) is (record { keys = h.keys; groups = h.groups })

-- a tally with these groups in grown trees
with_groups : (t u : Tree) → Grows t u → (q : Query) (rs more : List Rec) (y : Tally) (own : Tree) → Grows y.own own → (g : Numbered)
    → AreGroups (room_of q.group u own) q more g → IsTally t q rs y → IsTally u q more (record y { own = own; groups = g })
with_groups t u context q rs more y own grows g are h = record {
  counters = counters-Grows context _ y.counters h.counters;
  sieve = sieve-Grows context own _ y.sieve (sieve_own t grows _ y.sieve h.sieve);
  keys = are.keys;
  groups = are.groups;
  known = h.known;
}

pub merged_by_name : (t its : Tree) (q : Query) (rs ss : List Rec) (y z : Tally) (own : Tree) (g : Numbered) → is_some q.group ≡ true
    → Grows y.own own
    → ((p : Query) (xs ys : List Rec) → AreGroups y.own p xs y.groups → AreGroups z.own p ys z.groups → AreGroups own p (xs ++ ys) g)
    → IsTally t q rs y → IsTally its q ss z → IsTally t q (rs ++ ss) (record y { own = own; groups = g })
merged_by_name t its q rs ss y z own g by_name grows merges h k =
    with_groups t t (Grows-refl t) q rs (rs ++ ss) y own grows g
    (subst (λ r. AreGroups r q (rs ++ ss) g) (sym (room_by_name q.group t own by_name))
    (merges q rs ss
    (tally_groups t y.own q rs y (room_by_name q.group t y.own by_name) h)
    (tally_groups its z.own q ss z (room_by_name q.group its z.own by_name) k)))
    h

pub merged_by_nodes : (t u its : Tree) (q : Query) (rs ss : List Rec) (y z : Tally) (g : Numbered) → is_some q.group ≡ false → Grows t u
    → ((p : Query) (xs ys : List Rec) → AreGroups t p xs y.groups → AreGroups its p ys z.groups → AreGroups u p (xs ++ ys) g)
    → IsTally t q rs y → IsTally its q ss z → IsTally u q (rs ++ ss) (record y { groups = g })
merged_by_nodes t u its q rs ss y z g by_nodes grows merges h k =
    with_groups t u grows q rs (rs ++ ss) y y.own (Grows-refl y.own) g
    (subst (λ r. AreGroups r q (rs ++ ss) g) (sym (room_by_nodes q.group u y.own by_nodes))
    (merges q rs ss
    (tally_groups t t q rs y (room_by_nodes q.group t y.own by_nodes) h)
    (tally_groups its its q ss z (room_by_nodes q.group its z.own by_nodes) k)))
    h

-- ---- what a fold holds

pub holds_groups : (t u its : Tree) (q : Query) (ks ls : List Rec) (y z w : Tally) (rows others now : List NumberedRow) → is_aggregated q ≡ true
    → (IsTally t q ks y → IsTally its q ls z → IsTally u q (ks ++ ls) w) → Holds t q ks y rows → Holds its q ls z others
    → Holds u q (ks ++ ls) w now
holds_groups t u its q ks ls y z w rows others now agg merges h k = record {
  groups = λ is. merges (h.groups is) (k.groups is);
  rows = λ isnt. absurd (true≢false (sym agg ∙ isnt));
}

pub holds_rows : (t u its : Tree) (q : Query) (ks ls : List Rec) (y z : Tally) (rows others now : List NumberedRow) → is_aggregated q ≡ false
    → (AreRows t rows ks → AreRows its others ls → AreRows u now (ks ++ ls)) → Holds t q ks y rows → Holds its q ls z others
    → Holds u q (ks ++ ls) y now
holds_rows t u its q ks ls y z rows others now plain appends h k = record {
  groups = λ is. absurd (true≢false (sym is ∙ plain));
  rows = λ isnt. appends (h.rows isnt) (k.rows isnt);
}

-- what LET and WHERE keep of both
pub holds_both : (t : Tree) (q : Query) (rs ss : List Rec) (y : Tally) (rows : List NumberedRow)
    → Holds t q (filter_map (kept q) rs ++ filter_map (kept q) ss) y rows → Holds t q (filter_map (kept q) (rs ++ ss)) y rows
holds_both t q rs ss y rows h = subst (λ ks. Holds t q ks y rows) (sym (filter_map-append (kept q) rs ss)) h
