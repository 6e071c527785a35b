-- A query over kept names can't tell records apart that agree on what is kept.
use Rattle.std.proofs.Common.{◌≡◌, ℕ, true, false, not, ◌&&◌, List, [], ◌∷◌, filter}
use Rattle.std.proofs.Common.{refl, sym, ap, ◌∙◌, Option, None, Some}
use Rattle.std.specs.Prelude.{if◌then◌else◌, Bool}
use Rattle.std.specs.List.{AllByRecursion, list_any}
use Rattle.cal_keys.specs.Groups.{group_of, has_entries, taken, takes}
use Rattle.cal_filter.specs.Conditions.{cond_holds, test_holds, where_holds}
use Rattle.cal_filter.specs.Named.{entries_named}
use Rattle.cal_profile.specs.Coarser.{GroupsByKept, IsCoarser, is_kept, keeps_group}
use Rattle.cal_profile.specs.Groups.{keys_of}
use Rattle.cal_profile.specs.StandIns.{IsAlike}
use Rattle.cal_profile.proofs.Lists.{filter-swap}
use Rattle.cal_ql.specs.declared.query.Cond.{Cond}
use Rattle.cal_ql.specs.declared.query.Query.{Query}
use Rattle.cal_script.specs.declared.script.ChannelQuery.{ChannelQuery}
use Rattle.cal_value.specs.Flat.{joined}
use Rattle.cal_value.specs.declared.attribute.Attribute.{Attribute}
use Rattle.cal_value.specs.declared.attribute.Entry.{Entry}
use Rattle.cal_value.specs.declared.record.Rec.{Rec}

-- what names take of entries on which each of them agrees
pub taken_same : (in_path : Bool) (names : List (List ℕ)) (es fs : List Entry)
    → AllByRecursion
    (λ name. filter (takes in_path name) es ≡ filter (takes in_path name) fs) names
    → taken in_path names es ≡ taken in_path names fs
taken_same in_path [] es fs h = refl
taken_same in_path (name ∷ names) es fs h =
    λ i. h.0 i ∷ taken_same in_path names (filter left es) (filter left fs) (behind names h.1) i
  where
    left : Entry → Bool
    left e = not (takes in_path name e)

    behind : (names : List (List ℕ))
        → AllByRecursion
        (λ name. filter (takes in_path name) es ≡ filter (takes in_path name) fs) names
        → AllByRecursion (λ name. filter (takes in_path name) (filter left es)
        ≡ filter (takes in_path name) (filter left fs)) names
    behind [] h = tt
    behind (n ∷ ns) h = (
      filter-swap (takes in_path n) left es ∙ ap (filter left) h.0
          ∙ sym (filter-swap (takes in_path n) left fs),
      behind ns h.1,
    )

module _ (attributes : List Attribute) (keys : Option (List (List ℕ))) where
  -- Records agree on each kept name, as WHERE and as GROUP BY take it, and without keys on paths.
  pub record Agree (r m : Rec) : Type 0 where
    pub named : (name : List ℕ) → is_kept attributes keys name ≡ true
        → entries_named name r ≡ entries_named name m
    pub paths : (name : List ℕ) → keeps_group attributes keys name ≡ true
        → filter (takes true name) (joined r.paths) ≡ filter (takes true name) (joined m.paths)
    pub imms : (name : List ℕ) → keeps_group attributes keys name ≡ true
        → filter (takes false name) r.imms ≡ filter (takes false name) m.imms
    pub whole : keys ≡ None → r.paths ≡ m.paths

  module _ (r m : Rec) (agree : Agree r m) where
    cond_same : (cond : Cond) → is_kept attributes keys cond.name ≡ true
        → cond_holds cond m ≡ cond_holds cond r
    cond_same cond h = ap
        (λ es. let some = list_any (test_holds cond.test) es in
        if cond.not then not some else some)
        (sym (agree.named cond.name h))

    where_same : (conds : List Cond)
        → AllByRecursion (λ cond. is_kept attributes keys cond.name ≡ true) conds
        → where_holds conds m ≡ where_holds conds r
    where_same [] h = refl
    where_same (cond ∷ conds) h = λ i. cond_same cond h.0 i && where_same conds h.1 i

    on_paths : (names : List (List ℕ)) → GroupsByKept attributes keys (Some names)
        → AllByRecursion (λ name. filter (takes true name) (joined m.paths)
        ≡ filter (takes true name) (joined r.paths)) names
    on_paths [] h = tt
    on_paths (name ∷ names) h = (sym (agree.paths name h.0), on_paths names h.1)

    on_imms : (names : List (List ℕ)) → GroupsByKept attributes keys (Some names)
        → AllByRecursion
        (λ name. filter (takes false name) m.imms ≡ filter (takes false name) r.imms) names
    on_imms [] h = tt
    on_imms (name ∷ names) h = (sym (agree.imms name h.0), on_imms names h.1)

    group_same_by : (names : Option (List (List ℕ))) → GroupsByKept attributes keys names
        → group_of names m ≡ group_of names r
    group_same_by None h = λ i. record { paths = sym (agree.whole h) i; imms = [] }
    group_same_by (Some names) h = λ i. record {
      paths = filter has_entries
          (taken_same true names (joined m.paths) (joined r.paths) (on_paths names h) i);
      imms = joined (taken_same false names m.imms r.imms (on_imms names h) i);
    }

-- So a coarser query treats them alike.
pub alike_from_agree : (attributes : List Attribute) (channel : ChannelQuery) (r m : Rec)
    → Agree attributes (keys_of channel) r m → (q : Query) → IsCoarser attributes channel q
    → IsAlike q r m
alike_from_agree attributes channel r m agree q h = record {
  kept = where_same attributes (keys_of channel) r m agree q.conds h.conds;
  group = group_same_by attributes (keys_of channel) r m agree q.group h.group;
}
