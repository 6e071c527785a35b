-- Which queries ask no more than a channel keeps of its snapshots. (Giltmoth's rule.)
use Rattle.std.specs.Prelude.{◌≡◌, ℕ, Bool, true, false, ◌&&◌, ◌||◌, List, [], Option, None, Some}
use Rattle.std.specs.Prelude.{Contains, if◌then◌else◌, ⊤}
use Rattle.std.specs.List.{AllByRecursion, list_any}
use Rattle.std.specs.Option.{option_map_or}
use Rattle.cal_engine.specs.Rows.{is_aggregated}
use Rattle.cal_profile.specs.Declared.{props_of}
use Rattle.cal_profile.specs.Groups.{keys_of}
use Rattle.cal_ql.specs.declared.names.KernelName as kernels
use Rattle.cal_ql.specs.declared.names.KernelName.TheVariants as kernel
use Rattle.cal_ql.specs.declared.query.Query.{Query}
use Rattle.cal_rowset.specs.Cells.{is_path}
use Rattle.cal_rowset.specs.Texts.{is_same}
use Rattle.cal_script.specs.declared.script.ChannelQuery.{ChannelQuery}
use Rattle.cal_value.specs.Props.{is_nested, is_reference}
use Rattle.cal_value.specs.declared.attribute.Attribute.{Attribute}
use Rattle.cal_value.specs.declared.props.Props.{Props}

-- The hierarchy, which `path` takes in GROUP BY, is kept without keys, and where `path` is one.
abbrev pub keeps_path : Option (List (List ℕ)) → Bool
keeps_path None = true
keeps_path (Some keys) = list_any is_path keys

module _ (attributes : List Attribute) where
  -- a name is that of an attribute whose properties pass a test
  abbrev pub is_of : (Props → Bool) → List ℕ → Bool
  is_of test name = option_map_or test (props_of attributes name) false

  -- Without keys the name of each reference attribute is kept. With keys those are kept, and where
  -- `path` is one of them that of each nested attribute.
  abbrev pub is_kept : Option (List (List ℕ)) → List ℕ → Bool
  is_kept None name = is_of is_reference name
  is_kept (Some keys) name =
      list_any (is_same name) keys || (list_any is_path keys && is_of is_nested name)

  -- what a name of GROUP BY takes is kept
  abbrev pub keeps_group : Option (List (List ℕ)) → List ℕ → Bool
  keeps_group keys name = if is_path name then keeps_path keys else is_kept keys name

  -- what a query groups by is kept: without GROUP BY all paths, and so without keys
  abbrev pub GroupsByKept : Option (List (List ℕ)) → Option (List (List ℕ)) → Type 0
  GroupsByKept keys None = keys ≡ None
  GroupsByKept keys (Some names) = AllByRecursion (λ name. keeps_group keys name ≡ true) names

  module _ (channel : ChannelQuery) where
    -- a value attribute of the channel whose name isn't kept
    pub record IsValue (name : List ℕ) : Type 0 where
      pub value : Contains channel.values name
      pub apart : is_kept (keys_of channel) name ≡ false

    -- a kernel over what the channel sums; an average isn't
    abbrev pub AsksKept : kernels.KernelName → List ℕ → Type 0
    AsksKept kernel.Count attr = ⊤
    AsksKept kernel.Avg attr = ⊥
    AsksKept _ attr = IsValue attr

    -- A query that asks no more than the channel keeps: it has no LET; what its WHERE and its GROUP
    -- BY name is kept; it is aggregated, by `count`, or by kernels but `avg` over value attributes.
    pub record IsCoarser (q : Query) : Type 0 where
      pub plain : q.lets ≡ []
      pub conds : AllByRecursion (λ cond. is_kept (keys_of channel) cond.name ≡ true) q.conds
      pub group : GroupsByKept (keys_of channel) q.group
      pub aggregated : is_aggregated q ≡ true
      pub aggs : AllByRecursion (λ agg. AsksKept agg.kernel agg.attr) q.aggs
