-- What goes to a key goes to its group.
use Rattle.std.proofs.Common.{List, []}
use Rattle.std.specs.List.{All}
use Rattle.cal_context.specs.Tree.{Tree, IsContext}
use Rattle.cal_context.proofs.CallerLemmas.{All-Adds}
use Rattle.cal_engine.specs.Folding.{Gathers}
use Rattle.cal_keys.specs.Keys.{IsKeyIn, key_in}
use Rattle.cal_engine.specs.Numbered.{GathersKey, Numbered, grouped_in}
use Rattle.cal_parts.specs.Parts.{Gathered}
use Rattle.cal_keys.specs.declared.key.GroupKey.{GroupKey}
use Rattle.cal_keys.proofs.KeyLemmas.{apart_map, interns_map, keys_alike}

pub gathers_in : (t : Tree) → IsContext t → (old new : Numbered) (key : GroupKey) (fresh : List Gathered) → All (IsKeyIn t) old.keys → IsKeyIn t key
    → GathersKey old key fresh new → Gathers (grouped_in t old) (key_in t key) fresh (grouped_in t new)
gathers_in t context old new key fresh all within h = record {
  number = h.number;
  keys = interns_map (IsKeyIn t) (key_in t) (keys_alike t context) old.keys key new.keys h.number all within h.keys;
  apart = apart_map (IsKeyIn t) (key_in t) (keys_alike t context) old.keys all h.apart;
  parts = h.parts;
}

pub gathered_within : (t : Tree) (old new : Numbered) (key : GroupKey) (fresh : List Gathered) → All (IsKeyIn t) old.keys → IsKeyIn t key
    → GathersKey old key fresh new → All (IsKeyIn t) new.keys
gathered_within t old new key fresh all within h = All-Adds (IsKeyIn t) old.keys key new.keys all within h.keys.adds
