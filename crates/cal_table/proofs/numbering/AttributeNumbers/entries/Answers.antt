use Rattle.std.proofs.Common.{◌<◌, length, map, sym, ap, ◌∙◌, subst, arith}
use Rattle.std.specs.List.{All, Contains}
use Rattle.std.proofs.lemmas.List.Elements.{All-get_or, All-push}
use Rattle.std.proofs.lemmas.Option.{slice_get_within}
use Rattle.cal_value.specs.declared.attribute.Entry.{Entry}
use Rattle.cal_snap.specs.Numbered.{IsKnown, entry_of}
use Rattle.cal_snap.specs.declared.numbered.NumberedEntry.{NumberedEntry}
use Rattle.cal_table.proofs.Places.{entries-more, entry_of-place}
use Rattle.cal_table.proofs.numbering.AttributeNumbers.entries.Goals as goal

pub number_of-requires : goal.number_of-requires
number_of-requires c =
    let within : c.loop-entry.entry-index < length c.args.named.now = omega arith in
    let has : Entry → Type 0 = λ e. Contains c.args.self.now e.attr in
    subst has (sym c.entry-item.is) (All-get_or has c.args.named.now c.loop-entry.entry-index c.entry-item.result within c.requires)

pub loop-entry-preserved : goal.loop-entry-preserved
loop-entry-preserved c =
    let attrs = c.args.self.now in
    let within : c.loop-entry.entry-index < length c.args.named.now = omega arith in
    let entry : NumberedEntry = record { attribute = c.number_of.result; value = c.in_ok-copy.field-0 } in
    let items = c.in_ok-push.ensures.items in
    record {
      known = subst (All (IsKnown attrs)) (sym items) (All-push (IsKnown attrs) c.loop-entry.entries.items entry c.loop-entry.invariant.known (slice_get_within attrs c.number_of.result c.entry-item.result.attr c.number_of.ensures));
      mean = ap (map (entry_of attrs)) items ∙ entries-more attrs c.args.named.now c.loop-entry.entry-index c.entry-item.result c.loop-entry.entries.items entry within c.entry-item.is (entry_of-place attrs c.number_of.result c.in_ok-copy.field-0 c.entry-item.result c.number_of.ensures c.in_ok-copy.ensures) c.loop-entry.invariant.mean;
    }
