use Rattle.std.proofs.Common.{◌≡◌, ◌+◌, ◌<◌, ◌++◌, ◌∙◌, [], ◌∷◌, List, length, get_or, take}
use Rattle.std.proofs.Common.{ap, sym, arith}
use Rattle.std.proofs.lemmas.Option.{slice_get-get_or, slice_get_read}
use Rattle.cal_handover.proofs.OnePlace.{All-at, at_place-more, next-changed, next-list}
use Rattle.cal_handover.proofs.OnePlace.{remove-last}
use Rattle.cal_channel.specs.Places.{lists_of}
use Rattle.cal_replay.specs.Flushing.{SeatOf}
use Rattle.cal_handover.proofs.places.seats_at.Goals as goal

pub remove-requires : goal.remove-requires
remove-requires c =
    let lists = lists_of c.args.seats.now in
    let now = c.loop-own.seats in
    let n = c.loop-own.own-index in
    let own = get_or now n c.own-item.result in
    let less : n < length now = omega arith in
    let list = next-list (take c.args.place) lists now n own c.loop-own.invariant.left
    (slice_get-get_or now n c.own-item.result less) in
    let long = All-at (λ (xs : List SeatOf). length xs ≡ c.args.place + 1) lists n own.items
    c.requires.last list in
    let ok = own.ok in
    omega (arith, long, ok)

pub loop-own-preserved : goal.loop-own-preserved
loop-own-preserved c =
    let place = c.args.place in
    let lists = lists_of c.args.seats.now in
    let now = c.loop-own.seats in
    let n = c.loop-own.own-index in
    let own = get_or now n c.own-item.result in
    let less : n < length now = omega arith in
    let at = slice_get-get_or now n c.own-item.result less in
    let left = c.loop-own.invariant.left in
    let list = next-list (take place) lists now n own left at in
    let long = All-at (λ (xs : List SeatOf). length xs ≡ place + 1) lists n own.items
    c.requires.last list in
    let seat = slice_get_read own.items (place + 1) place c.remove.result (sym long) (omega arith)
    c.remove.ensures.value in
    record {
      taken = c.in_ok-push.ensures.items
          ∙ ap (λ (xs : List SeatOf). xs ++ c.remove.result ∷ []) c.loop-own.invariant.taken
          ∙ sym (at_place-more place n lists own.items c.remove.result list seat);
      left = next-changed (take place) lists now n own left at c.remove.new.self
          (c.remove.ensures.items ∙ remove-last place own.items long);
    }
