use Rattle.std.proofs.Common.{ap, ◌∙◌, sym, subst}
use Rattle.std.specs.List.{All}
use Rattle.std.specs.Option.{IsSome}
use Rattle.cal_book.specs.declared.view.View.{View}
use Rattle.cal_book.specs.Seats.{view}
use Rattle.cal_book.specs.Views.{joined_accounts}
use Rattle.cal_book.proofs.Closes.{Told, tells}
use Rattle.cal_book.proofs.cell.FlushCell.close.Given.{Over}
use Rattle.cal_book.proofs.cell.FlushCell.close.Goals as goal

-- what is told of the table that comes out of the slot
told : (g : Over) (c : goal.After-free g) → Told g.T.Merging c.args.self.table.shared.key
    c.take-table.result.table (joined_accounts (view c.args.seat).others)
told g c =
    let is = ap (λ s. s.me.0) c.into_seat.ensures.seat in
    subst (λ (v : View g.row.T.Denot g.row.Q.Denot). Told g.T.Merging c.args.self.table.shared.key
    c.take-table.result.table (joined_accounts v.others)) is
    (tells g.T.Merging c.args.self.table.shared.key _ _ c.into_seat.result.id
    c.into_seat.result.me.0 c.take-table.result (ap (λ v. v.shape) is ∙ c.requires.seat.shape)
    (ap (λ v. v.thread) is ∙ c.requires.first)
    (subst (λ (v : View g.row.T.Denot g.row.Q.Denot). All IsSome v.others) (sym is) c.requires.all_joined)
    c.close_with-closed.ensures.values.2 c.take-table.ensures.value)

pub returns-clause-merged : goal.returns-clause-merged
returns-clause-merged g c = (told g c).same

pub returns-clause-made : goal.returns-clause-made
returns-clause-made g c = (told g c).made

pub returns-clause-given : goal.returns-clause-given
returns-clause-given g c = (told g c).given

pub returns-clause-met : goal.returns-clause-met
returns-clause-met g c = (told g c).met
