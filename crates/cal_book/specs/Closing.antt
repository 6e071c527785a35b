use Rattle.std.specs.Prelude.{List, All}
use Rattle.cal_book.specs.declared.view.Account.{Account}
use Rattle.cal_book.specs.Accounts.{ThreadHadTurn}

-- each thread whose turn was met has given a part, or given up a turn
abbrev pub AllMetHadTurns : {T : Type 0} → List (Account T) → Type 0
AllMetHadTurns accounts = All (λ account. All (ThreadHadTurn accounts) account.met) accounts
