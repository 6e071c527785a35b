-- One more record in the groups by numbers.
use Rattle.std.proofs.Common.{arith, ◌≡◌, ℕ, Bool, true, false, true≢false, List, [], ◌∷◌, ◌++◌, Option, None, Some, length, map, refl, sym, ◌∙◌, ap, subst, if◌then◌else◌}
use Rattle.std.specs.Prelude.{is_some, not, ◌||◌, ◌==◌}
use Rattle.std.proofs.lemmas.List.{map-append}
use Rattle.std.specs.List.{All}
use Rattle.std.proofs.lemmas.List.Elements.{All-nil, All-push}
use Rattle.cal_context.specs.Snapshots.{IsIn, meaning}
use Rattle.cal_context.specs.Tree.{Tree, Grows, IsContext}
use Rattle.cal_context.specs.declared.snapshot.Snapshot.{Snapshot}
use Rattle.cal_context.proofs.CallerLemmas.{Grows-refl}
use Rattle.cal_filter.specs.Known.{Covers}
use Rattle.cal_ql.specs.declared.query.Query.{Query}
use Rattle.cal_rowset.specs.NumberedRows.{IsWithin, NumberedRow, meant, numbered}
use Rattle.cal_value.specs.declared.record.Rec.{Rec}
use Rattle.cal_parts.specs.Counters.{AreReadyCounters}
use Rattle.cal_engine.specs.Folding.{Gathers, groups_over}
use Rattle.cal_keys.specs.Groups.{group_of, groups_of}
use Rattle.cal_keys.specs.Keys.{IsKeyIn, IsKeyOf, key_in, names_in, room_of}
use Rattle.cal_engine.specs.Numbered.{AreGroups, GathersKey, Numbered, grouped_in}
use Rattle.cal_parts.specs.Parts.{Gathered, parts_over}
use Rattle.cal_parts.specs.Readings.{parts_of, reading_of}
use Rattle.cal_engine.specs.Rows.{is_aggregated, row_of, rows_of}
use Rattle.cal_keys.specs.Sieves.{IsReadySieve, IsSieve}
use Rattle.cal_keys.specs.SnapshotRows.{AreRows}
use Rattle.cal_engine.specs.Tallies.{AllKnowSoMany, Holds, HoldsIn, IsReadyTally, IsTally}
use Rattle.cal_keys.specs.declared.key.GroupKey.{GroupKey}
use Rattle.cal_keys.specs.declared.sieve.Sieve.{Sieve}
use Rattle.cal_engine.specs.declared.tally.Tally.{Tally}
use Rattle.cal_engine.specs.FoldGrows.{grouped_in-Grows}
use Rattle.cal_keys.specs.KeysGrow.{keys-Grows, room_grows}
use Rattle.cal_parts.proofs.Counting.{counters_counted, counters_covered, ready_counters}
use Rattle.cal_engine.proofs.Folds.{parts_of_one}
use Rattle.cal_engine.proofs.Gathering.{groups_over-Gathers}
use Rattle.cal_engine.proofs.GatheredKeys.{gathered_within, gathers_in}
use Rattle.cal_keys.proofs.KeyLemmas.{room_context}

pub tallied : (t : Tree) (q : Query) (rs : List Rec) (r : Rec) (old new : Tally) (parts : List Gathered) (key : GroupKey)
    → IsContext t → IsContext new.own → Grows old.own new.own → AreReadyCounters t (map reading_of q.aggs) new.counters
    → IsSieve t new.own (names_in q.group) new.sieve → parts ≡ parts_of (map reading_of q.aggs) r
    → IsKeyOf (room_of q.group t new.own) (group_of q.group r) key
    → GathersKey old.groups key parts new.groups → AllKnowSoMany new.known new.counters new.sieve
    → IsTally t q rs old → IsTally t q (rs ++ r ∷ []) new
tallied t q rs r old new parts key context own_context grows counters sieve read found gathers known h = record {
  counters = ready_counters t (map reading_of q.aggs) new.counters counters;
  sieve = sieve;
  keys = gathered_within (room_of q.group t new.own) old.groups new.groups key parts before found.within gathers;
  groups = groups_over-Gathers q rs r (grouped_in (room_of q.group t new.own) old.groups) (grouped_in (room_of q.group t new.own) new.groups) was to_group;
  known = known;
}
  where
    room_has_grown : Grows (room_of q.group t old.own) (room_of q.group t new.own)
    room_has_grown = room_grows q.group (Grows-refl t) grows

    before : All (IsKeyIn (room_of q.group t new.own)) old.groups.keys
    before = keys-Grows room_has_grown old.groups.keys h.keys

    was : grouped_in (room_of q.group t new.own) old.groups ≡ groups_over q rs
    was = grouped_in-Grows room_has_grown old.groups h.keys ∙ h.groups

    to_key : Gathers (grouped_in (room_of q.group t new.own) old.groups) (key_in (room_of q.group t new.own) key) parts
        (grouped_in (room_of q.group t new.own) new.groups)
    to_key = gathers_in (room_of q.group t new.own) (room_context q.group t new.own context own_context) old.groups new.groups key parts before
        found.within gathers

    to_group : Gathers (grouped_in (room_of q.group t new.own) old.groups) (group_of q.group r) (parts_over q.aggs (r ∷ []))
        (grouped_in (room_of q.group t new.own) new.groups)
    to_group =
        subst (λ k. Gathers (grouped_in (room_of q.group t new.own) old.groups) k (parts_over q.aggs (r ∷ [])) (grouped_in (room_of q.group t new.own) new.groups))
        found.is
        (subst (λ ps. Gathers (grouped_in (room_of q.group t new.own) old.groups) (key_in (room_of q.group t new.own) key) ps (grouped_in (room_of q.group t new.own) new.groups))
        (read ∙ parts_of_one q.aggs r) to_key)

-- a tally that knows as much as the context has
pub tally_covered : (t : Tree) (q : Query) (rs : List Rec) (y : Tally) → Covers t y.known → IsTally t q rs y → IsReadyTally t q rs y
tally_covered t q rs y covers h = record {
  is = h;
  counters = counters_covered t y.known covers (map reading_of q.aggs) y.counters h.known.counters h.counters;
  sieve = record {
    is = h.sieve;
    attributes = omega (arith, covers.attributes, h.known.sieve.attributes);
    nodes = omega (arith, covers.nodes, h.known.sieve.nodes);
  };
}

-- and one whose counters and sieves got to know it
pub tally_caught_up : (t : Tree) (q : Query) (rs : List Rec) (old new : Tally) → Grows old.own new.own → new.groups ≡ old.groups
    → new.known.attributes ≡ length t.attributes → new.known.nodes ≡ length t.paths → AreReadyCounters t (map reading_of q.aggs) new.counters
    → IsReadySieve t new.own (names_in q.group) new.sieve → IsTally t q rs old → IsReadyTally t q rs new
tally_caught_up t q rs old new grows same attributes nodes counters sieve h = record {
  is = record {
    counters = ready_counters t (map reading_of q.aggs) new.counters counters;
    sieve = sieve.is;
    keys = subst (λ (g : Numbered). All (IsKeyIn (room_of q.group t new.own)) g.keys) (sym same) (keys-Grows rooms old.groups.keys h.keys);
    groups = ap (grouped_in (room_of q.group t new.own)) same ∙ grouped_in-Grows rooms old.groups h.keys ∙ h.groups;
    known = record {
      counters = counters_counted t new.known attributes nodes (map reading_of q.aggs) new.counters counters;
      sieve = record {
        attributes = omega (arith, attributes, sieve.attributes);
        nodes = omega (arith, nodes, sieve.nodes);
      };
    };
  };
  counters = counters;
  sieve = sieve;
}
  where
    rooms : Grows (room_of q.group t old.own) (room_of q.group t new.own)
    rooms = room_grows q.group (Grows-refl t) grows

-- no groups yet
pub no_keys : (room : Tree) (g : Numbered) → g ≡ record { keys = []; parts = [] } → All (IsKeyIn room) g.keys
no_keys room g e = subst (λ (n : Numbered). All (IsKeyIn room) n.keys) (sym e) (All-nil (IsKeyIn room))

pub no_groups_in : (room : Tree) (q : Query) (g : Numbered) → g ≡ record { keys = []; parts = [] } → grouped_in room g ≡ groups_over q []
no_groups_in room q g e = ap (grouped_in room) e

pub no_rows : (t : Tree) (rows : List NumberedRow) → rows ≡ [] → AreRows t rows []
no_rows t rows e = record {
  within = subst (λ (ss : List NumberedRow). All (IsWithin t) ss) (sym e) (All-nil (IsWithin t));
  mean = ap (map (meant t)) e;
}

-- the tree of the keys
pub room_by_name : (names : Option (List (List ℕ))) (t own : Tree) → is_some names ≡ true → room_of names t own ≡ own
room_by_name None t own e = absurd (true≢false (sym e))
room_by_name (Some names) t own e = refl

pub room_by_nodes : (names : Option (List (List ℕ))) (t own : Tree) → is_some names ≡ false → room_of names t own ≡ t
room_by_nodes None t own e = refl
room_by_nodes (Some names) t own e = absurd (true≢false e)

pub key_found_by_names : (t mid own : Tree) (names : Option (List (List ℕ))) (r : Rec) (sieve : Sieve) (key : GroupKey) → is_some names ≡ true
    → IsReadySieve t mid (names_in names) sieve
    → ((ns : List (List ℕ)) → IsReadySieve t mid ns sieve → IsKeyOf own (group_of (Some ns) r) key)
    → IsKeyOf (room_of names t own) (group_of names r) key
key_found_by_names t mid own None r sieve key e ready finds = absurd (true≢false (sym e))
key_found_by_names t mid own (Some names) r sieve key e ready finds = finds names ready

-- what is held, in the tree of the keys
either_false : (a b : Bool) → (a || b) ≡ false → a ≡ false
either_false true b e = absurd (true≢false e)
either_false false b e = refl

pub holds_in : (t : Tree) (q : Query) (ks : List Rec) (y : Tally) (made : List NumberedRow) (room : Tree) (g : Numbered) → room ≡ room_of q.group t y.own
    → g ≡ y.groups → Holds t q ks y made → HoldsIn room q ks g made
holds_in t q ks y made room g is same h = record {
  groups = λ agg. subst (λ (n : Numbered). AreGroups room q ks n) (sym same)
      (subst (λ (r : Tree). AreGroups r q ks y.groups) (sym is) (record { keys = (h.groups agg).keys; groups = (h.groups agg).groups }));
  rows = λ plain. subst (λ (r : Tree). AreRows r made ks)
      (sym (is ∙ room_by_nodes q.group t y.own (either_false (is_some q.group) (not (length q.aggs == 0)) plain))) (h.rows plain);
}

-- the rows of what is held
pub rows_held : (t : Tree) (q : Query) (ks made : List Rec) (g : Numbered) (rows : List NumberedRow) → is_aggregated q ≡ true
    → (AreGroups t q ks g → made ≡ map (row_of q ks) (groups_of q.group ks)) → HoldsIn t q ks g rows → made ≡ rows_of q ks
rows_held t q ks made g rows agg makes h =
    makes (h.groups agg) ∙ sym (ap (λ b. if b then map (row_of q ks) (groups_of q.group ks) else ks) agg)

pub rows_plain : (t : Tree) (q : Query) (ks : List Rec) (g : Numbered) (rows : List NumberedRow) → is_aggregated q ≡ false → HoldsIn t q ks g rows
    → map (meant t) rows ≡ rows_of q ks
rows_plain t q ks g rows plain h =
    (h.rows plain).mean ∙ sym (ap (λ b. if b then map (row_of q ks) (groups_of q.group ks) else ks) plain)

-- one more record that is held
pub holds_group : (t : Tree) (q : Query) (ks : List Rec) (r : Rec) (y z : Tally) (rows now : List NumberedRow) → is_aggregated q ≡ true
    → (IsTally t q ks y → IsTally t q (ks ++ r ∷ []) z) → Holds t q ks y rows → Holds t q (ks ++ r ∷ []) z now
holds_group t q ks r y z rows now agg takes h = record {
  groups = λ is. takes (h.groups is);
  rows = λ isnt. absurd (true≢false (sym agg ∙ isnt));
}

pub holds_row : (t : Tree) (q : Query) (ks : List Rec) (row : Snapshot) (y z : Tally) (rows now : List NumberedRow) → is_aggregated q ≡ false
    → now ≡ rows ++ numbered row ∷ [] → IsIn t row → Holds t q ks y rows → Holds t q (ks ++ meaning t row ∷ []) z now
holds_row t q ks row y z rows now agg more within h = record {
  groups = λ so. absurd (true≢false (sym so ∙ agg));
  rows = λ isnt. let are = h.rows isnt in record {
    within = subst (λ (ss : List NumberedRow). All (IsWithin t) ss) (sym more)
        (All-push (IsWithin t) rows (numbered row) are.within (record { nodes = within.nodes; imms = within.imms }));
    mean = ap (map (meant t)) more ∙ map-append (meant t) rows (numbered row ∷ []) ∙ ap (λ rs. rs ++ meaning t row ∷ []) are.mean;
  };
}
