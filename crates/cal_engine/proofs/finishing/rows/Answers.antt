use Rattle.std.proofs.Common.{◌≡◌, ◌∷◌, [], ◌++◌, length, sym, ap, ◌∙◌, append_assoc, append-nil, arith}
use Rattle.std.specs.Vec.Iter.{into_iter_items}
use Rattle.std.proofs.lemmas.List.{length_push}
use Rattle.cal_engine.specs.Finishing.{lists_at, rows_by}
use Rattle.cal_engine.proofs.GroupRows.{kept_at, key_at, none_left, rows_next}
use Rattle.cal_engine.proofs.finishing.rows.Goals as goal

pub loop-key-preserved : goal.loop-key-preserved
loop-key-preserved c =
    let at = c.loop-key in
    let key = c.in-Some.key in
    let n = c.len-number.result in
    let keys = c.args.keys.items in
    let steps : into_iter_items at.key-iterator ≡ key ∷ into_iter_items c.next.new.self = c.in-Some.ensures.steps.0 in
    let split : at.yielded ++ key ∷ into_iter_items c.next.new.self ≡ keys = rw (← steps) at.invariant.whole in
    let e : n ≡ length at.yielded = omega (arith, at.invariant.counted) in
    let read = key_at keys at.yielded (into_iter_items c.next.new.self) key n split e in
    record {
      whole = append_assoc at.yielded (key ∷ []) _ ∙ split;
      left =
          let was = at.invariant.left in
          let gone = c.in-Some.ensures.steps.1 in
          let short = ap length steps in
          omega arith;
      counted =
          let more = ap length c.in_ok-push.ensures.items in
          let one = length_push at.rows.items c.in_ok-row.field-0 in
          let other = length_push at.yielded key in
          omega (arith, more, one, other, at.invariant.counted);
      rows = λ lists are.
          let kept = kept_at c.args.aggs.now lists keys c.args.parts.now c.args.all.now c.args.below.now n key c.index-parts-number.result c.index-below-number.result
          are read.0 read.1 c.index-parts-number.is c.index-below-number.is in
          rows_next c.args.aggs.now lists at.yielded key at.rows.items c.push.new.self.items c.in_ok-row.field-0
          (at.invariant.rows lists are) c.in_ok-push.ensures.items (c.in_ok-row.ensures (lists_at lists key) kept);
    }

pub returns : goal.returns
returns c = λ lists are.
    let at = c.loop-key in
    let none = c.in-None.ensures.steps in
    let empty : into_iter_items at.key-iterator ≡ [] = none_left _ (sym at.invariant.left ∙ none.0) in
    let all = sym (append-nil at.yielded) ∙ rw empty at at.invariant.whole in
    c.from_vec.ensures ∙ at.invariant.rows lists are ∙ ap (rows_by c.args.aggs.now lists) all
