use Rattle.std.proofs.Common.{◌∙◌, IsSome, All, sym, ap, subst}
use Rattle.cal_book.proofs.Joined.{all_joined-all, joined_accounts-all}
use Rattle.cal_book.specs.Closing.{AllMetHadTurns}
use Rattle.cal_book.specs.Seats.{shape_of}
use Rattle.cal_book.specs.Views.{joined_accounts}
use Rattle.cal_closing.proofs.Given.{given-all, given_tables}
use Rattle.cal_closing.specs.Parts.{AreMadeFor}
use Rattle.cal_closing.specs.Seats.{accounts_of}
use Rattle.cal_table.specs.Tables.{Same}
use Rattle.cal_closing.proofs.book.close_book.Goals as goal

pub close-requires-clause-all_joined : goal.close-requires-clause-all_joined
close-requires-clause-all_joined c = subst (λ others. All IsSome others)
    (sym c.join_seats.ensures.told) (all_joined-all (accounts_of c.args.seats.items))

pub returns-clause-merged : goal.returns-clause-merged
returns-clause-merged c = given-all (shape_of c.args.book) c.close.result
    (accounts_of c.args.seats.items) c.close.ensures.made
    (subst (λ accounts. Same c.close.result (given_tables (shape_of c.args.book) accounts))
    (ap joined_accounts c.join_seats.ensures.told
    ∙ joined_accounts-all (accounts_of c.args.seats.items)) c.close.ensures.merged)

pub returns-clause-given : goal.returns-clause-given
returns-clause-given c = subst (AreMadeFor (shape_of c.args.book))
    (ap joined_accounts c.join_seats.ensures.told
    ∙ joined_accounts-all (accounts_of c.args.seats.items))
    (λ k d l. (c.close.ensures.given k d l).made)

pub returns-clause-met : goal.returns-clause-met
returns-clause-met c = subst AllMetHadTurns
    (ap joined_accounts c.join_seats.ensures.told
    ∙ joined_accounts-all (accounts_of c.args.seats.items)) c.close.ensures.met
