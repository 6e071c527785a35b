-- The entries of a trace as it keeps them, and what they are.
use Rattle.std.specs.Prelude.{ℕ, ◌<◌, List, map, slice_index_or}
use Rattle.std.specs.List.{All}
use Rattle.cal_channel.specs.declared.packed.PackedEntry.{PackedEntry}
use Rattle.cal_channel.specs.declared.packed.PackedEntry.TheVariants as packed
use Rattle.cal_channel.specs.declared.shown.ShownEntry.{ShownEntry}
use Rattle.cal_channel.specs.declared.shown.ShownValue.TheVariants as shown
use Rattle.cal_context.specs.Tree.{no_value}
use Rattle.cal_value.specs.declared.variant.Variant as variants
use Rattle.cal_value.specs.declared.variant.Variant.TheVariants as variant

-- the entry that a packed one is, by the values that are kept beside
abbrev pub unpacked : List variants.Variant → PackedEntry → ShownEntry
unpacked kept (packed.Opened attribute place) =
    record { attribute = attribute; value = shown.Opened place }
unpacked kept (packed.Number attribute n) =
    record { attribute = attribute; value = shown.Number n }
unpacked kept (packed.Whole attribute n) =
    record { attribute = attribute; value = shown.Plain (variant.Int n) }
unpacked kept (packed.Kept attribute place) =
    record { attribute = attribute; value = shown.Plain (slice_index_or kept place no_value) }

-- the entries, one behind another
abbrev pub all_unpacked : List variants.Variant → List PackedEntry → List ShownEntry
all_unpacked kept entries = map (unpacked kept) entries

-- an entry asks for none but the first so many of the kept values
abbrev pub IsWithin : ℕ → PackedEntry → Type 0
IsWithin count (packed.Opened attribute place) = Unit {0}
IsWithin count (packed.Number attribute n) = Unit {0}
IsWithin count (packed.Whole attribute n) = Unit {0}
IsWithin count (packed.Kept attribute place) = place < count

abbrev pub AreWithin : ℕ → List PackedEntry → Type 0
AreWithin count entries = All (IsWithin count) entries
