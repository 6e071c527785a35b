use Rattle.std.proofs.Common.{List, Option, ℕ, map, take, subst, sym, arith}
use Rattle.std.proofs.lemmas.List.{take_all}
use Rattle.cal_jsonfmt.specs.Choosing.{IsWithin, members_of, value_at}
use Rattle.cal_jsonfmt.specs.Writing.{WritesEach}
use Rattle.cal_jsonfmt.proofs.ObjectLemmas.{object-more, texts_of}
use Rattle.cal_jsonfmt.proofs.WritingLemmas.{WritesValue-object}
use Rattle.cal_jsonfmt.proofs.members.write_object.Goals as goal

pub chosen_at-requires : goal.chosen_at-requires
chosen_at-requires c = omega (arith, c.loop-place-test.true, c.requires.counted)

pub write_chosen-requires : goal.write_chosen-requires
write_chosen-requires c =
    subst (IsWithin c.args.columns.now) (sym c.chosen_at.ensures) (c.requires.within c.loop-place.place (omega (arith, c.loop-place-test.true, c.requires.counted)))

pub loop-place-preserved : goal.loop-place-preserved
loop-place-preserved c = λ row shows.
    object-more c.args.columns.now row c.args.keys.now c.args.chosen.now c.loop-place.place c.index-keys-place.result c.chosen_at.result c.loop-place-test.true
    c.requires.counted c.index-keys-place.is c.chosen_at.ensures c.begin_object.new.self c.loop-place.writer c.write_chosen.new.writer
    (c.loop-place.invariant row shows) (c.in_ok-write_chosen.ensures row shows)

pub returns : goal.returns
returns c = λ row shows.
    let keys = c.args.keys.now in
    let chosen = c.args.chosen.now in
    let all = take_all c.loop-place.place keys c.loop-place-test.false in
    let each = subst (λ (ks : List (List ℕ)). WritesEach c.begin_object.new.self c.loop-place.writer (texts_of c.args.columns.now row ks (take c.loop-place.place chosen))) all (c.loop-place.invariant row shows) in
    let whole = subst (λ (cs : List (Option ℕ)). WritesEach c.begin_object.new.self c.loop-place.writer (texts_of c.args.columns.now row keys cs))
    (take_all c.loop-place.place chosen (omega (arith, c.loop-place-test.false, c.requires.counted))) each in
    WritesValue-object c.args.writer.now c.begin_object.new.self c.loop-place.writer c.end_object.new.self (members_of keys (map (value_at c.args.columns.now row) chosen))
    (c.in_ok-begin_object.ensures.room.0, c.in_ok-begin_object.ensures.ok) whole (c.in_ok-end_object.ensures.room.0, c.in_ok-end_object.ensures.ok)
