use Rattle.std.proofs.Common.{◌<◌, ◌+◌, [], ◌∷◌, ◌++◌, sym, ◌∙◌, ap, arith, subst, length}
use Rattle.std.specs.Option.{ForSome}
use Rattle.std.proofs.lemmas.List.{length-append}
use Rattle.std.proofs.lemmas.List.Elements.{All-push}
use Rattle.cal_agg.specs.Numbers.{IsSmall}
use Rattle.cal_context.specs.Snapshots.{meaning}
use Rattle.cal_value.specs.Flat.{flat}
use Rattle.cal_filter.specs.Known.{sought}
use Rattle.cal_filter.specs.Latest.{IsReadyOperand}
use Rattle.cal_filter.specs.Sought.{number_sought}
use Rattle.cal_filter.proofs.NamedLemmas.{operand_at}
use Rattle.cal_filter.proofs.ReadyLemmas.{map_more}
use Rattle.cal_filter.proofs.operands.fill_numbers.Goals as goal

pub loop-place-preserved : goal.loop-place-preserved
loop-place-preserved c =
    let t = c.args.context.now in
    let l = c.args.latest.now in
    let imms = c.args.snapshot.now.imms.items in
    let i = c.loop-place.place in
    let s = c.index-seekers-place.result in
    let short : i < length c.args.seekers.now = omega arith in
    record {
      few = ap length c.in_ok-push.ensures.items
          ∙ length-append c.loop-place.numbers.items (c.number_found-number.result ∷ [])
          ∙ ap (λ n. n + 1) c.loop-place.invariant.few;
      small = rw c.in_ok-push.ensures.items
          (All-push (λ number. ForSome number IsSmall) c.loop-place.numbers.items
          c.number_found-number.result c.loop-place.invariant.small
          c.number_found-number.ensures.small);
      found = λ k small.
          let ready = subst (IsReadyOperand t l imms s) (sym c.name_at-name.ensures)
          (operand_at t l imms c.args.seekers.now c.args.names.now i s k short c.index-seekers-place.is) in
          c.in_ok-push.ensures.items
          ∙ (λ j. c.loop-place.invariant.found k small j
          ++ c.number_found-number.ensures.found ready small j ∷ [])
          ∙ sym (map_more (λ s. number_sought (sought s)
          (flat (meaning t c.args.snapshot.now))) c.args.seekers.now i s short c.index-seekers-place.is);
    }
