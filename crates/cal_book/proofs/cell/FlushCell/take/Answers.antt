use Rattle.std.proofs.Common.{ap, ◌∙◌, arith, refl, ⊎_elim}
use Rattle.cal_book.proofs.Takes.{allows_take}
use Rattle.cal_book.proofs.cell.FlushCell.take.Goals as goal

pub compare_exchange_with-requires : goal.compare_exchange_with-requires
compare_exchange_with-requires g c =
    let cell = c.args.self.now in
    let words = cell.one_word in
    let seat = c.args.seat.now in (
      c.requires.seat.table,
      omega arith,
      allows_take g.T.Merging cell.table.shared.key cell.table.shared.table_id.slots seat.id
          c.args.thread seat.me c.args.said.now cell.one_slot c.requires.seat.shape c.requires.thread
          c.requires.idle c.requires.made c.requires.few,
    )

pub returns-clause-seat : goal.returns-clause-seat
returns-clause-seat g c =
    let told = c.compare_exchange_with.ensures.2 c.args.self.now.table.shared.key c.args.said.now
    c.requires.seat.shape refl in
    record {
      table = c.compare_exchange_with.ensures.0 ∙ c.requires.seat.table;
      shape = ⊎_elim (λ won. ap (λ m. m.0.shape) won.view ∙ c.requires.seat.shape)
          (λ lost. ap (λ m. m.0.shape) lost.view ∙ c.requires.seat.shape) told;
    }

pub returns-clause-took : goal.returns-clause-took
returns-clause-took g c = c.compare_exchange_with.ensures.2 c.args.self.now.table.shared.key
    c.args.said.now c.requires.seat.shape refl
