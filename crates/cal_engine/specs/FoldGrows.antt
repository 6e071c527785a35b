-- What a fold over snapshots has taken stays while the context grows.
use Rattle.std.specs.Prelude.{◌≡◌, List, map}
use Rattle.std.specs.Prelude.{slice_index_or as get_or}
use Rattle.std.specs.List.{All, filter_map}
use Rattle.std.proofs.Common.{sym, ap, subst, ◌∙◌}
use Rattle.std.proofs.lemmas.List.Elements.{All-weaker}
use Rattle.cal_context.specs.Tree.{Tree, Grows}
use Rattle.cal_context.proofs.CallerLemmas.{Grows-refl, attribute_at-Grows}
use Rattle.cal_context.proofs.CallerLemmas.{path_at-Grows, within_attributes, within_paths}
use Rattle.cal_context.proofs.ListLemmas.{map-alike}
use Rattle.cal_filter.specs.Kept.{kept}
use Rattle.cal_filter.specs.Known.{Knows}
use Rattle.cal_filter.proofs.Growing.{filter-Grows, knows-Grows}
use Rattle.cal_ql.specs.declared.query.Query.{Query}
use Rattle.cal_value.specs.Reading.{IsSmall}
use Rattle.cal_value.specs.declared.record.Rec.{Rec}
use Rattle.cal_parts.specs.Counters.{AreCounters}
use Rattle.cal_engine.specs.Gates.{IsGate}
use Rattle.cal_keys.specs.Keys.{IsKeyIn, key_in, room_of}
use Rattle.cal_engine.specs.Looked.{looks_at}
use Rattle.cal_engine.specs.Numbered.{Numbered, grouped_in}
use Rattle.cal_parts.specs.Readings.{reading_of}
use Rattle.cal_engine.specs.Standing.{HasFolded}
use Rattle.cal_engine.specs.Tallies.{IsTally}
use Rattle.cal_parts.specs.declared.counters.Counters.{Counters}
use Rattle.cal_engine.specs.declared.gate.Gate.{Gate}
use Rattle.cal_parts.specs.declared.reading.Reading.{Reading}
use Rattle.cal_engine.specs.declared.snapshot_fold.SnapshotFold.{SnapshotFold}
use Rattle.cal_engine.specs.declared.tally.Tally.{Tally}
use Rattle.cal_keys.specs.KeysGrow.{key_in-Grows, keys-Grows, room_grows, rows-Grows}
use Rattle.cal_keys.specs.KeysGrow.{sieve-Grows}

-- groups by number mean the same groups while their tree grows
module _ {old new : Tree} (grows : Grows old new) where
  pub grouped_in-Grows : (g : Numbered) → All (IsKeyIn old) g.keys
      → grouped_in new g ≡ grouped_in old g
  grouped_in-Grows g h = λ i. record {
    keys = map-alike (key_in new) (key_in old) g.keys
        (λ n d l. key_in-Grows grows (get_or g.keys n d) (h n d l)) i;
    parts = g.parts;
  }

pub counters-Grows : {old new : Tree} → Grows old new → (rs : List Reading) (cs : Counters)
    → AreCounters old rs cs → AreCounters new rs cs
counters-Grows {old} {new} grows rs cs h = record {
  counts = h.counts;
  knows = All-weaker (Knows old) (Knows new) (λ s x. knows-Grows grows s x)
      cs.seekers.items h.knows;
}

pub gate-Grows : {old new : Tree} → Grows old new → (q : Query) (g : Gate) → IsGate old q g
    → IsGate new q g
gate-Grows {old} {new} grows q g h = record {
  filter = filter-Grows grows q g.filter h.filter;
  small = λ n l. let before = h.small n l in record {
    within = within_paths grows n.0 before.within;
    small = subst (All (λ e. IsSmall e.value)) (sym (path_at-Grows grows n before.within))
        before.small;
  };
  looked = record {
    names = h.looked.names;
    attributes = λ a l. let known = h.looked.attributes a l in record {
      within = within_attributes grows a.0 known.within;
      is = known.is ∙ ap (looks_at q) (sym (attribute_at-Grows grows a known.within));
    };
  };
}

-- a tally stays right while the context grows
pub tally-Grows : {t u : Tree} → Grows t u → (q : Query) (rs : List Rec) (y : Tally)
    → IsTally t q rs y → IsTally u q rs y
tally-Grows {t} {u} grows q rs y h =
    let rooms : Grows (room_of q.group t y.own) (room_of q.group u y.own) =
    room_grows q.group grows (Grows-refl y.own) in
    record {
      counters = counters-Grows grows (map reading_of q.aggs) y.counters h.counters;
      sieve = sieve-Grows grows y.own _ y.sieve h.sieve;
      keys = keys-Grows rooms y.groups.keys h.keys;
      groups = grouped_in-Grows rooms y.groups h.keys ∙ h.groups;
      known = h.known;
    }

pub HasFolded-stays : (fold : SnapshotFold) (old new : Tree) (rs : List Rec)
    → HasFolded fold old rs → Grows old new → HasFolded fold new rs
HasFolded-stays fold old new rs h grows = record {
  valid = h.valid;
  gate = gate-Grows grows fold.query fold.gate h.gate;
  holds = record {
    groups = λ is. tally-Grows grows fold.query (filter_map (kept fold.query) rs) fold.tally
        (h.holds.groups is);
    rows = λ isnt. rows-Grows grows fold.rows _ (h.holds.rows isnt);
  };
}
