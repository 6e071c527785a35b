use Rattle.std.proofs.Common.{◌+◌, ◌-◌, length, ap, ◌∙◌, sym, arith}
use Rattle.cal_once.proofs.Seen.{length-joined}
use Rattle.cal_once.proofs.Seats.{allows_join}
use Rattle.cal_once.proofs.rows.Rows.join.Goals as goal

pub join_seat-requires : goal.join_seat-requires
join_seat-requires g c =
    let rows = c.args.self.now in
    let plan = rows.table.shared.key in (
      c.requires.seats.0.table,
      ap (λ s. s.table_id) c.into_seat.ensures.seat ∙ c.requires.seats.1.table,
      c.into_seat.ensures.bare,
      omega arith,
      allows_join g.S.RecSort plan c.args.seat.now.seat.id c.args.seat.now.seat.me.0 c.into_seat.result.id c.into_seat.result.me.0 c.requires.seats.0.plan c.requires.first
          (ap (λ s. s.me.0.plan) c.into_seat.ensures.seat ∙ c.requires.seats.1.plan),
    )

pub invariant_of-seat : goal.invariant_of-seat
invariant_of-seat g c =
    let e = c.join_seat.ensures.2 in
    let old = c.args.seat.now in
    let long = length-joined old.seat.me.0.others (c.into_seat.result.me.0.number - 1) c.into_seat.result.me.0.published in
    let settled = c.settle.ensures.learns.same in
    record {
      number_is = old.number_is ∙ sym (ap (λ v. v.number) settled ∙ ap (λ m. m.0.number) e);
      used_is = old.used_is ∙ sym (ap (λ v. v.used) settled ∙ ap (λ m. m.0.used) e);
      made_is = old.made_is ∙ ap (λ n. n + 1) (sym (ap (λ v. length v.others) settled ∙ ap (λ m. length m.0.others) e ∙ long));
      bare = c.settle.ensures.seat.1 ∙ ap (λ m. m.1) e ∙ old.bare;
    }
