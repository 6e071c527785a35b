use Rattle.std.proofs.Common.{rules}
use Rattle.cal_book.proofs.content.take_in.Goals as goal

-- the part is in the table, and counted
pub returns-in-Ok-clause-taken : goal.returns-in-Ok-clause-taken
returns-in-Ok-clause-taken g c = search rules
