-- What threads have done.
use Rattle.std.specs.Prelude.{◌≢◌, ◌⊎◌, ℕ, ◌+◌, ◌<◌, List, [], ◌∷◌, ◌++◌, slice_get, IsSomeAnd}
use Rattle.cal_book.specs.declared.view.Account.{Account}

module _ {T : Type 0} where
  -- a thread that has done nothing
  abbrev pub blank : Account T
  blank = record { given = []; met = []; given_up = 0 }

  -- it has given one part more
  abbrev pub more_given : Account T → T → Account T
  more_given account part = record account { given = account.given ++ part ∷ [] }

  -- it has met a turn of one thread more
  abbrev pub more_met : Account T → ℕ → Account T
  more_met account holder = record account { met = account.met ++ holder ∷ [] }

  -- it has given up one turn more
  abbrev pub more_given_up : Account T → Account T
  more_given_up account = record account { given_up = account.given_up + 1 }

  -- it has given a part, or given up a turn
  abbrev pub HadTurn : Account T → Type 0
  HadTurn account = (account.given ≢ []) ⊎ (0 < account.given_up)

  -- the same of the thread of a number
  abbrev pub ThreadHadTurn : List (Account T) → ℕ → Type 0
  ThreadHadTurn accounts thread = IsSomeAnd (slice_get accounts thread) HadTurn
