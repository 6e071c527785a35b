use Rattle.std.proofs.Common.{◌<◌, ◌++◌, ◌∙◌, [], ◌∷◌, List, length, get_or}
use Rattle.std.proofs.Common.{ap, sym, arith, refl, set}
use Rattle.std.proofs.lemmas.Option.{slice_get-get_or, slice_get_read}
use Rattle.cal_channel.specs.Values.{ChannelValue}
use Rattle.cal_handover.proofs.OnePlace.{All-at, next-changed, next-list, set-emptied}
use Rattle.cal_handover.proofs.OnePlace.{tables_at-more}
use Rattle.cal_channel.specs.Places.{lists_of}
use Rattle.cal_handover.specs.Places.{emptied_at, tables_of}
use Rattle.cal_table.specs.Tables.{TableValue}
use Rattle.cal_handover.proofs.places.tables_at.Goals as goal

pub index_mut-requires : goal.index_mut-requires
index_mut-requires c =
    let lists = lists_of c.args.channels.now in
    let now = c.loop-own.channels in
    let n = c.loop-own.own-index in
    let own = get_or now n c.own-item.result in
    let less : n < length now = omega arith in
    let list = next-list (emptied_at c.args.place) lists now n own c.loop-own.invariant.left
    (slice_get-get_or now n c.own-item.result less) in
    let within = All-at (λ (xs : List ChannelValue). c.args.place < length xs) lists n own.items
    c.requires.within list in
    let ok = own.ok in
    omega (arith, within, ok)

pub loop-own-preserved : goal.loop-own-preserved
loop-own-preserved c =
    let place = c.args.place in
    let lists = lists_of c.args.channels.now in
    let now = c.loop-own.channels in
    let n = c.loop-own.own-index in
    let own = get_or now n c.own-item.result in
    let less : n < length now = omega arith in
    let at = slice_get-get_or now n c.own-item.result less in
    let left = c.loop-own.invariant.left in
    let list = next-list (emptied_at place) lists now n own left at in
    let within = All-at (λ (xs : List ChannelValue). place < length xs) lists n own.items
    c.requires.within list in
    let was = c.index_mut.result.now in
    let channel = slice_get_read own.items (length own.items) place was refl within
    c.index_mut.ensures.value in
    record {
      taken = c.in_ok-take_table.ensures.taken
          ∙ ap (λ (ts : List TableValue). ts ++ tables_of (was ∷ [])) c.loop-own.invariant.taken
          ∙ sym (tables_at-more place n lists own.items was list channel);
      left = next-changed (emptied_at place) lists now n own left at _
          (ap (λ (x : ChannelValue). set own.items place x) c.in_ok-take_table.ensures.left
          ∙ set-emptied place own.items was channel);
    }
