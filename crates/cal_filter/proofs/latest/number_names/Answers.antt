use Rattle.std.proofs.Common.{take, arith}
use Rattle.cal_context.proofs.ListLemmas.{IsFront-refl, IsFront-trans, slice_get-IsFront}
use Rattle.cal_filter.proofs.NamedLemmas.{HasNumber}
use Rattle.cal_filter.proofs.Zips.{zip_more, zip_weaker}
use Rattle.cal_filter.proofs.latest.number_names.Goals as goal

pub loop-name-init : goal.loop-name-init
loop-name-init c = record {
  front = IsFront-refl c.args.names.now.keys;
  numbers = rw c.in_ok-numbers.ensures.items tt;
}

pub loop-name-preserved : goal.loop-name-preserved
loop-name-preserved c =
    let i = c.loop-name.name-index in
    let before = c.loop-name.names.keys in
    let after = c.number_name.new.names.keys in
    let front = c.in_ok-number.ensures.front in
    record {
      front = IsFront-trans c.args.names.now.keys before after c.loop-name.invariant.front front;
      numbers = zip_more (HasNumber after) c.args.args.now c.loop-name.numbers.items c.push.new.self.items i
          c.name-item.result c.in_ok-number.number
          (zip_weaker (HasNumber before) (HasNumber after)
          (λ name n is. slice_get-IsFront before after n name front is) (take i c.args.args.now)
          c.loop-name.numbers.items c.loop-name.invariant.numbers)
          (omega arith) c.name-item.is c.in_ok-push.ensures.items c.in_ok-number.ensures.number;
    }
