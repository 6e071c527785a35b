-- What the immediates of a thread's snapshot mean, by the script's values.
use Rattle.std.specs.Prelude.{List, slice_index_or}
use Rattle.cal_channel.specs.declared.shown.ShownEntry.{ShownEntry}
use Rattle.cal_channel.specs.declared.shown.ShownValue as shown_values
use Rattle.cal_channel.specs.declared.shown.ShownValue.TheVariants as shown
use Rattle.cal_context.specs.Tree.{no_value}
use Rattle.cal_context.specs.declared.snapshot.Immediate.{Immediate}
use Rattle.cal_snap.specs.declared.numbered.NumberedEntry.{NumberedEntry}
use Rattle.cal_value.specs.declared.variant.Variant as variants
use Rattle.cal_value.specs.declared.variant.Variant.TheVariants as variant

-- the value that is shown: one of the script's, by its place, or a number, or another value
abbrev pub value_shown : List variants.Variant → shown_values.ShownValue → variants.Variant
value_shown values (shown.Opened place) = slice_index_or values place no_value
value_shown values (shown.Number n) = variant.Uint n
value_shown values (shown.Plain value) = value

-- the immediate of an entry
abbrev pub immediate_shown : List variants.Variant → ShownEntry → Immediate
immediate_shown values e =
    record { attribute = e.attribute; value = value_shown values e.value }

-- the same, as a table takes it
abbrev pub numbered_entry : List variants.Variant → ShownEntry → NumberedEntry
numbered_entry values e =
    record { attribute = e.attribute.0; value = value_shown values e.value }

-- an immediate as a thread keeps it, with its value whole
abbrev pub plain_entry : Immediate → ShownEntry
plain_entry i = record { attribute = i.attribute; value = shown.Plain i.value }
