use Rattle.std.proofs.Common.{◌≡◌, Some, [], ◌∷◌, length, length-append, ap, ◌∙◌, arith}
use Rattle.std.specs.Prelude.{sum_by}
use Rattle.std.proofs.lemmas.List.Elements.{All-pop}
use Rattle.std.proofs.lemmas.List.Sums.{sum_by_push}
use Rattle.cal_table.specs.Held.{IsHeld, size}
use Rattle.cal_table.specs.Rows.{held_at, rows_of, tally}
use Rattle.cal_table.proofs.Tallies.{poured_more, tally-push}
use Rattle.cal_table.proofs.putting.pour_back.Goals as goal

pub put-requires-clause-may : goal.put-requires-clause-may
put-requires-clause-may c =
    let before = c.loop-row.invariant in
    let may = c.requires.may in
    let rows = c.in-Some.ensures.items in
    let each = before.each may.cells may.each may.more_each in
    let popped = All-pop (IsHeld may.cells) c.loop-row.more_rows.items c.pop.new.self.items (Some c.in-Some.row) rows each.1 in
    let sum = ap (sum_by size) rows ∙ sum_by_push size c.pop.new.self.items c.in-Some.row in
    let total = before.total in
    let few = may.few in
    record { cells = may.cells; long = before.long; each = each.0; held = popped.1; few = omega arith }

pub loop-row-preserved : goal.loop-row-preserved
loop-row-preserved c =
    let before = c.loop-row.invariant in
    let rows = c.in-Some.ensures.items in
    let keys = c.in-Some-next_back.ensures.steps in
    let sum = ap (sum_by size) rows ∙ sum_by_push size c.pop.new.self.items c.in-Some.row in
    let few = ap length rows ∙ length-append c.pop.new.self.items (c.in-Some.row ∷ []) in
    let few_keys = ap length keys ∙ length-append c.next_back.new.self (c.in-Some-next_back.key ∷ []) in
    let more_long = before.more_long in
    let key_room = before.key_room in
    let row_room = before.row_room in
    let total = before.total in
    let put = c.put.ensures.puts in
    let put_keys = c.put.ensures.key_room in
    let put_rows = c.put.ensures.row_room in
    let put_total = put.total in
    let same : length c.next_back.new.self ≡ length c.pop.new.self.items = omega arith in
    record {
      long = put.long;
      more_long = same;
      key_room = omega arith;
      row_room = omega arith;
      each = λ cells one other.
          let both = before.each cells one other in
          let popped = All-pop (IsHeld cells) c.loop-row.more_rows.items c.pop.new.self.items (Some c.in-Some.row) rows both.1 in
          (put.each cells both.0 popped.1, popped.0);
      total = omega arith;
      tally = λ asked.
          poured_more _ (tally asked (rows_of c.next_back.new.self c.pop.new.self.items)) (tally asked (rows_of c.loop-row.more_keys c.loop-row.more_rows.items)) _ (held_at asked (record { key = c.in-Some-next_back.key; held = c.in-Some.row })) (put.tally asked)
          ((λ i. tally asked (rows_of (keys i) (rows i))) ∙ tally-push c.next_back.new.self c.pop.new.self.items c.in-Some-next_back.key c.in-Some.row same asked) ∙ before.tally asked;
    }
