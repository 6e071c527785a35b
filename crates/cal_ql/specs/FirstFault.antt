-- The first fault of a text.
use Rattle.std.specs.Prelude.{◌≡◌, ℕ, List, Err}
use Rattle.cal_ql.specs.declared.end.QueryEnd as ends
use Rattle.cal_ql.specs.declared.end.QueryEnd.TheVariants as end
use Rattle.cal_ql.specs.Clauses.{reading}
use Rattle.cal_ql.specs.Tokens.{Fault}

-- the first fault of a text: the first token that the grammar can't take
abbrev pub HasFault : List ℕ → Fault → Type 0
HasFault text fault = reading text ≡ Err fault

-- a text isn't a query, for the fault that is told
abbrev pub IsRefused : List ℕ → ends.QueryEnd → Type 0
IsRefused text (end.BadQuery place kind) = HasFault text (record { place = place; kind = kind })
IsRefused text end.OutOfMemory = Unit {0}
