-- What a seat knows of the declarations that are kept.
use Rattle.std.specs.Prelude.{◌≡◌, ◌≢◌, ◌⊎◌, ℕ, ◌+◌, ◌%◌, ◌<◌, List, length}
use Rattle.cal_words.specs.Words.{text_words}
use Rattle.cal_words.specs.declared.sort.RecSort.{Ghosts as RecSort}
use Rattle.cal_once.specs.Layout.{probe, size_in}
use Rattle.cal_once.specs.Seats as rows
use Rattle.cal_once.specs.Seats.{IsSeatOf, view}
use Rattle.cal_once.specs.Sound.{IsSound}
use Rattle.cal_once.specs.Views.{Saw, Holds}
use Rattle.cal_once.specs.declared.seat.RowSeat.{RowSeat}
use Rattle.cal_once.specs.declared.view.Plan.{Plan}
use Rattle.cal_once.specs.declared.view.View.{View}
use Rattle.cal_names.specs.Declarations.{Declaration, IsDeclaration, IsName, IsName-long}
use Rattle.cal_names.specs.Declarations.{name_hash, name_home, name_words}
use Rattle.cal_names.specs.declared.names.Names.{Names}
use Rattle.cal_names.specs.declared.record.NameSort.{NameSort}

-- the sort of the records: every seat may publish each declaration
abbrev pub name_law : RecSort NameSort
name_law = record {
  is_record = λ _ words. IsName words;
  home_of = name_home;
  may_publish = λ _ _ _. Unit {0};
  has_parent = λ _. IsName-long;
}

-- the shape of a table of names, with its sort
abbrev pub plan_of : Names → Plan NameSort
plan_of names = rows.plan_of names.rows

-- the seat is one of this table's, and what it knows is sound: each call keeps this
pub record IsNameSeat (names : Names) (seat : RowSeat NameSort) : Type 0 where
  pub at : IsSeatOf names.rows seat
  pub sound : IsSound name_law (plan_of names) (view seat)

-- the place at a distance from the home of a name
abbrev pub name_place : Plan NameSort → List ℕ → ℕ → ℕ
name_place plan name distance = probe plan.shape (name_hash name % plan.shape.homes) distance

-- The place holds a declaration of another name, as the seat knows by the record's length or by
-- all its words.
pub record HasOtherName (v : View NameSort) (name : List ℕ) (place : ℕ) : Type 0 where
  pub slot : ℕ
  pub known : Saw v.seen (place + 1) slot
  pub differs : (size_in slot ≢ 4 + length (text_words name))
      ⊎ ((other : Declaration) × IsDeclaration other × Holds v place (name_words other)
      × (other.name ≢ name))

-- the first n slots from the home of a name on hold declarations of other names
abbrev pub PassesOtherNames : Plan NameSort → View NameSort → List ℕ → ℕ → Type 0
PassesOtherNames plan v name n =
    (e : ℕ) → e < n → HasOtherName v name (name_place plan name e)

-- The declaration is the kept one of its name, and stands at this place: it is the first of its
-- name from the name's home on, as the seat knows.
pub record IsKept (plan : Plan NameSort) (v : View NameSort) (d : Declaration) (place : ℕ)
    : Type 0 where
  pub is_declaration : IsDeclaration d
  pub distance : ℕ
  pub near : distance < plan.shape.slots
  pub at : place ≡ name_place plan d.name distance
  pub before : PassesOtherNames plan v d.name distance
  pub holds : Holds v place (name_words d)
