use Rattle.std.proofs.Common.{ℕ, List, Option, None, length, map, refl, sym, ap, ◌∙◌, subst, arith}
use Rattle.std.proofs.lemmas.List.{length-replicate}
use Rattle.cal_jsonfmt.specs.Choosing.{AreWithin, members_of, value_at}
use Rattle.cal_jsonfmt.proofs.ChoosingLemmas.{members-more_chosen, members-none, place-header, place-within, within-none}
use Rattle.cal_jsonfmt.proofs.objects.choose.Goals as goal

pub loop-column-init : goal.loop-column-init
loop-column-init c =
    let columns = c.args.columns.now in
    let keys = c.args.keys.now.names.items in
    record {
      counted = ap length c.requires.none ∙ length-replicate (length keys) None;
      within = subst (AreWithin columns) (sym c.requires.none) (λ k l. within-none columns (length keys) k);
      members = λ row shows.
          ap (λ (chosen : List (Option ℕ)). members_of keys (map (value_at columns row) chosen)) c.requires.none
          ∙ members-none columns row keys (length keys);
    }

pub place-requires : goal.place-requires
place-requires c = omega (arith, c.loop-column-test.true, c.requires.keys.places.counted)

pub choose_column-requires-clause-place : goal.choose_column-requires-clause-place
choose_column-requires-clause-place c =
    let keys = c.args.keys.now in
    omega (
      arith,
      place-within keys.names.items c.args.columns.now keys.places.items c.loop-column.column c.place.result c.requires.keys.places c.loop-column-test.true c.place.ensures,
      c.loop-column.invariant.counted,
    )

pub loop-column-preserved : goal.loop-column-preserved
loop-column-preserved c =
    let kept = c.loop-column.invariant in
    let columns = c.args.columns.now in
    let keys = c.args.keys.now in
    let places = c.requires.keys.places in
    record {
      counted = c.choose_column.ensures.counted ∙ kept.counted;
      within = c.choose_column.ensures.within kept.within;
      members = λ row shows.
          ap (λ (chosen : List (Option ℕ)). members_of keys.names.items (map (value_at columns row) chosen)) (c.choose_column.ensures.chosen row shows)
          ∙ members-more_chosen columns row keys.names.items c.loop-column.chosen.items c.loop-column.column c.loop-column-test.true (kept.members row shows)
          c.place.result _ c.requires.keys.ascend kept.counted (place-within keys.names.items columns keys.places.items c.loop-column.column c.place.result places c.loop-column-test.true c.place.ensures)
          (place-header keys.names.items columns keys.places.items c.loop-column.column c.place.result places c.loop-column-test.true c.place.ensures) refl;
    }
