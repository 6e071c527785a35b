-- What a seat knows, and what each step makes of it.
use Rattle.std.specs.Prelude.{ℕ, Option, Some, None, List, [], ◌∷◌, ◌++◌, length, filter_map}
use Rattle.std.specs.Prelude.{slice_set}
use Rattle.cal_book.specs.declared.content.Content.{Content}
use Rattle.cal_book.specs.declared.view.Account.{Account}
use Rattle.cal_book.specs.declared.view.View.{View}
use Rattle.cal_book.specs.Accounts.{blank, more_given, more_met, more_given_up}

-- the account of a thread is kept, now that its seat is joined
abbrev pub with_account : {A : Type 0} → List (Option A) → Option ℕ → A → List (Option A)
with_account others None account = others
with_account others (Some thread) account = slice_set others thread (Some account)

-- the accounts of the threads whose seats were joined
abbrev pub joined_accounts : {A : Type 0} → List (Option A) → List A
joined_accounts others = filter_map (λ account. account) others

module _ {T Q : Type 0} where
  -- the turn was got: the seat keeps a copy of the content, and the part
  abbrev pub marking : Content T → T → View T Q → View T Q
  marking copy part v = record v { turn = Some (record { copy = copy; part = part }) }

  -- another thread's turn was met
  abbrev pub meeting : ℕ → View T Q → View T Q
  meeting holder v = record v { account = more_met v.account holder }

  -- the part was given, and the turn ended
  abbrev pub giving : T → View T Q → View T Q
  giving part v = record v { account = more_given v.account part; turn = None }

  -- the turn was given up
  abbrev pub giving_up : View T Q → View T Q
  giving_up v = record v { account = more_given_up v.account; turn = None }

  -- the first seat, which is told of other seats
  abbrev pub first_with : Q → List (Option (Account T)) → View T Q
  first_with q others = record {
    shape = Some q;
    thread = None;
    account = blank;
    turn = None;
    others = others;
  }

  -- the first seat of a new book
  abbrev pub first_seat : Q → View T Q
  first_seat q = first_with q []

  -- the first seat after a split, and the new seat, which is the next thread's
  abbrev pub split_off : View T Q → View T Q
  split_off v = record v { others = v.others ++ None ∷ [] }

  abbrev pub new_seat : View T Q → View T Q
  new_seat v = record {
    shape = v.shape;
    thread = Some (length v.others);
    account = blank;
    turn = None;
    others = [];
  }

  -- the first seat after a join
  abbrev pub joined : View T Q → View T Q → View T Q
  joined v w = record v { others = with_account v.others w.thread w.account }

  -- a joined seat says nothing more
  abbrev pub spent : View T Q
  spent = record { shape = None; thread = None; account = blank; turn = None; others = [] }
