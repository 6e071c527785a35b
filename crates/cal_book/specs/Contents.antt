-- What lies in the slot: a table, and for each of 64 threads the numbers of its parts and of their
-- snapshots.
use Rattle.std.specs.Prelude.{◌≡◌, ℕ, ◌+◌, ◌%◌, ◌^◌, ◌<◌, ◌≤◌, List, length, sum_by}
use Rattle.std.specs.Prelude.{slice_index_or, slice_set}
use Rattle.cal_book.specs.declared.merging.Merging.{Ghosts as Merging}
use Rattle.cal_book.specs.declared.content.Content.{Content}
use Rattle.cal_book.specs.declared.content.Numbers.{Numbers}
use Rattle.cal_book.specs.declared.view.Account.{Account}
use Rattle.cal_book.specs.Accounts.{blank}
use Rattle.cal_book.specs.Merges.{all_given}

abbrev pub no_numbers : Numbers
no_numbers = record { parts = 0; snapshots = 0 }

-- one part more, of so many snapshots
abbrev pub more_numbers : Numbers → ℕ → Numbers
more_numbers numbers size = record {
  parts = (numbers.parts + 1) % 2 ^ 64;
  snapshots = numbers.snapshots + size;
}

-- the numbers of a thread
abbrev pub numbers_at : List Numbers → ℕ → Numbers
numbers_at numbers thread = slice_index_or numbers thread no_numbers

module _ {T Q : Type 0} (law : Merging T Q) where
  -- the numbers of what a thread has given
  abbrev pub numbers_of : Account T → Numbers
  numbers_of account = record {
    parts = length account.given % 2 ^ 64;
    snapshots = sum_by law.size account.given;
  }

  -- The content agrees with what threads have done: the table is what all of them have given, and
  -- the numbers of each are those of its parts, none where it has no seat.
  pub record Agrees (q : Q) (content : Content T) (accounts : List (Account T)) : Type 0 where
    pub same : law.same content.table (all_given law q accounts)
    pub long : length content.numbers ≡ 64
    pub numbers : (thread : ℕ) → thread < 64
        → numbers_at content.numbers thread ≡ numbers_of (slice_index_or accounts thread blank)

  -- a thread's part may be merged into a content
  pub record MayTakeIn (q : Q) (thread : ℕ) (part : T) (content : Content T) : Type 0 where
    pub content_made : law.made_for q content.table
    pub part_made : law.made_for q part
    pub room : law.size content.table + law.size part ≤ 2 ^ 26
    pub is_thread : thread < 64
    pub long : length content.numbers ≡ 64
    pub few : (numbers_at content.numbers thread).snapshots + law.size part ≤ 2 ^ 20

  -- a thread's part was merged into the content, and counted
  pub record TakesIn (thread : ℕ) (part : T) (old new : Content T) : Type 0 where
    pub merged : law.same new.table (law.merged old.table part)
    pub counted : new.numbers ≡ slice_set old.numbers thread
        (more_numbers (numbers_at old.numbers thread) (law.size part))
