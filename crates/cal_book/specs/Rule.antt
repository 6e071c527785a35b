-- The rule of the book, which holds between any two steps of any seats. It speaks of the word, of
-- the slot and of what each seat knows, and says besides who holds the turn, and what each thread
-- has done.
use Rattle.std.specs.Prelude.{◌≡◌, ◌⊎◌, ℕ, ◌+◌, ◌≤◌, Option, Some, None, List, [], ◌∷◌, length}
use Rattle.std.specs.Prelude.{map, slice_get, All}
use mathlib.Core.Option.{none, some}
use mathlib.Core.Option.{Option as Home}
use Rattle.atomic_table.specs.Table.{State}
use Rattle.cal_book.specs.declared.merging.Merging.{Ghosts as Merging}
use Rattle.cal_book.specs.declared.content.Content.{Content}
use Rattle.cal_book.specs.declared.view.Account.{Account}
use Rattle.cal_book.specs.declared.view.Turn.{Turn}
use Rattle.cal_book.specs.declared.view.View.{View}
use Rattle.cal_book.specs.Accounts.{ThreadHadTurn}
use Rattle.cal_book.specs.Merges.{IsAccount}
use Rattle.cal_book.specs.Contents.{Agrees}
use Rattle.cal_book.specs.Views.{first_with}

-- the word, by the thread that holds the turn
abbrev pub word_of : Option ℕ → ℕ
word_of None = 0
word_of (Some thread) = thread + 1

-- the thread holds the turn, or had one
abbrev pub HasActed : {T : Type 0} → Option ℕ → List (Account T) → ℕ → Type 0
HasActed holder accounts thread = (holder ≡ Some thread) ⊎ ThreadHadTurn accounts thread

-- a thread: what its seat knows, and what it has done, which stays when the seat is joined
pub record Thread (T Q : Type 0) : Type 0 where
  pub view : View T Q
  pub account : Account T

module _ {T Q : Type 0} where
  -- what the first seat is told of a thread: what it has done, once its seat was joined
  abbrev pub told_by : Option Q → Account T → Option (Account T)
  told_by None account = Some account
  told_by (Some q) account = None

  abbrev pub told : List (Thread T Q) → List (Option (Account T))
  told threads = map (λ thread. told_by thread.view.shape thread.account) threads

  abbrev pub views_of : List (Thread T Q) → List (View T Q)
  views_of threads = map (λ thread. thread.view) threads

  abbrev pub accounts_of : List (Thread T Q) → List (Account T)
  accounts_of threads = map (λ thread. thread.account) threads

  -- The seat of the thread of a number knows what that thread has done. It holds no turn, unless
  -- it is the holder's.
  pub record Sits (q : Q) (holder : Option ℕ) (number : ℕ) (thread : Thread T Q) : Type 0 where
    pub shape_is : thread.view.shape ≡ Some q
    pub thread_is : thread.view.thread ≡ Some number
    pub account_is : thread.view.account ≡ thread.account
    pub idle : (holder ≡ Some number) ⊎ (thread.view.turn ≡ None)

module _ {T Q : Type 0} (law : Merging T Q) where
  -- nobody holds the turn: the slot is filled, and its content agrees with what threads have done
  pub record IsFree (q : Q) (homes : List (Home (Content T))) (threads : List (Thread T Q))
      : Type 0 where
    pub content : Content T
    pub home : homes ≡ some content ∷ []
    pub agrees : Agrees law q content (accounts_of threads)

  -- the thread of a number holds the turn: the slot is empty, and the thread's seat has a copy of
  -- the content as it was, which agrees with what threads have done
  pub record IsHeld (q : Q) (homes : List (Home (Content T))) (threads : List (Thread T Q))
      (number : ℕ) : Type 0 where
    pub home : homes ≡ none ∷ []
    pub thread : Thread T Q
    pub at : slice_get threads number ≡ Some thread
    pub live : thread.view.shape ≡ Some q
    pub turn : Turn T
    pub turn_is : thread.view.turn ≡ Some turn
    pub agrees : Agrees law q turn.copy (accounts_of threads)

  abbrev pub IsTurn : Q → List (Home (Content T)) → List (Thread T Q) → Option ℕ → Type 0
  IsTurn q homes threads None = IsFree q homes threads
  IsTurn q homes threads (Some number) = IsHeld q homes threads number

  pub record Kept (q : Q) (s : State (Content T) (View T Q)) : Type 0 where
    pub holder : Option ℕ
    pub threads : List (Thread T Q)
    pub word_is : s.words ≡ word_of holder ∷ []
    pub views_are : s.views ≡ first_with q (told threads) ∷ views_of threads
    pub few : length threads ≤ 64
    pub seats : (number : ℕ) (thread : Thread T Q) → slice_get threads number ≡ Some thread
        → (thread.view.shape ≡ None) ⊎ Sits q holder number thread
    pub lawful : All (IsAccount law q) (accounts_of threads)
    pub turn : IsTurn q s.homes threads holder
    pub met : All (λ account. All (HasActed holder (accounts_of threads)) account.met)
        (accounts_of threads)
