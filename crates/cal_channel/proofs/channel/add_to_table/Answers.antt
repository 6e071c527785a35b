use Rattle.std.proofs.Common.{refl, sym, subst}
use Rattle.std.specs.Prelude.{Option, Some, All, map}
use Rattle.std.proofs.lemmas.List.Elements.{All-filter}
use Rattle.cal_channel.proofs.LookedLemmas.{added-whole, mapped_vec}
use Rattle.cal_channel.specs.Shown.{numbered_entry}
use Rattle.cal_channel.specs.Values.{Counted}
use Rattle.cal_snap.specs.declared.numbered.NumberedSnap.{NumberedSnap}
use Rattle.cal_channel.specs.Looked.{is_looked_at}
use Rattle.cal_table.specs.Snapshots.{HasNumberOf64}
use Rattle.cal_table.specs.Tables.{TableValue}
use Rattle.cal_channel.proofs.channel.add_to_table.Goals as goal

pub add_numbered-requires-clause-numbers : goal.add_numbered-requires-clause-numbers
add_numbered-requires-clause-numbers c =
    subst (All HasNumberOf64) (sym c.in_ok-number-in-Some.ensures.imms)
    (All-filter (is_looked_at c.in-Some.table.shape) HasNumberOf64
    (map (numbered_entry c.args.script.now.values) c.args.draft.now.entries.items)
    c.requires.small)

pub returns-in_ok-add_numbered-in-Some : goal.returns-in_ok-add_numbered-in-Some
returns-in_ok-add_numbered-in-Some c =
    let f = numbered_entry c.args.script.now.values in
    let draft = c.args.draft.now in
    let looked = c.number.new.snap in
    let snap : NumberedSnap =
    record { refs = looked.refs; imms = mapped_vec f looked.imms draft.entries } in
    subst (λ (o : Option TableValue). Counted draft.nodes.items (map f draft.entries.items) o
    (Some c.add_numbered.new.self)) (sym c.in-Some.is) (
      c.add_numbered.new.self,
      refl,
      record {
        snap = snap;
        refs = c.in_ok-number-in-Some.ensures.refs;
        imms = refl;
        added = added-whole c.in-Some.table c.add_numbered.new.self snap looked
            (record { refs = refl; imms = c.in_ok-number-in-Some.ensures.imms })
            c.in_ok-add_numbered-in-Some.ensures.added;
      },
    )
