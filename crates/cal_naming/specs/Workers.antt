-- Workers before and behind their declarations, and the first seat beside them (private).
use Rattle.std.specs.Prelude.{◌≡◌, ℕ, ◌+◌, ◌<◌, ◌≤◌, Bool, IsTrue, List, [], Some, length, map}
use Rattle.std.specs.Prelude.{slice_get, slice_index_or}
use Rattle.std.specs.List.{list_all}
use Rattle.cal_declarations.specs.Layout.{thread_words}
use Rattle.cal_names.specs.Kept.{IsNameSeat, plan_of}
use Rattle.cal_names.specs.declared.declare.Declared.{Declared}
use Rattle.cal_names.specs.declared.names.Names.{Names}
use Rattle.cal_names.specs.declared.record.NameSort.{NameSort}
use Rattle.cal_naming.specs.Told.{HasDeclared}
use Rattle.cal_naming.specs.declared.worker.Worker.{Worker}
use Rattle.cal_once.specs.Seats.{view}
use Rattle.cal_once.specs.Views.{KnowsMore}
use Rattle.cal_once.specs.declared.seat.RowSeat.{RowSeat}
use Rattle.cal_script.specs.Reader.{AreNamed}
use Rattle.cal_value.specs.declared.attribute.Attribute.{Attribute}

-- the lines and the answers of workers
abbrev pub lines_of : List Worker → List (List Attribute)
lines_of workers = map (λ (w : Worker). w.lines.now) workers

abbrev pub answers_of : List Worker → List (List Declared)
answers_of workers = map (λ (w : Worker). w.answers.items) workers

-- whether all workers have declared all lines
abbrev pub are_done : List Worker → Bool
are_done workers = list_all (λ (w : Worker). w.is_done) workers

-- The workers have the numbers of their places in the list, behind the first seat's.
abbrev pub AreNumbered : List Worker → Type 0
AreNumbered workers = (k : ℕ) (d : Worker) → k < length workers
    → (view (slice_index_or workers k d).seat).number ≡ k + 1

module _ (names : Names) where
  -- the first seat published nothing, and so many were split off from it
  pub record IsFirst (seat : RowSeat NameSort) (count : ℕ) : Type 0 where
    pub at : IsNameSeat names seat
    pub number : (view seat).number ≡ 0
    pub published : (view seat).published ≡ []
    pub others : length (view seat).others ≡ count

  -- a worker has declared nothing
  pub record IsReady (w : Worker) : Type 0 where
    pub at : IsNameSeat names w.seat
    pub used : (view w.seat).used ≡ 0
    pub published : (view w.seat).published ≡ []
    pub named : AreNamed w.lines.now
    pub answers : length w.answers.items ≡ length w.lines.now

  -- a worker has declared its lines
  pub record IsDone (w : Worker) : Type 0 where
    pub at : IsNameSeat names w.seat
    pub declared : HasDeclared (plan_of names) (view w.seat) w.lines.now w.answers.items

  -- A worker that says so has declared its lines. It says so where its arena has room for them.
  pub record HasWorked (old new : Worker) : Type 0 where
    pub done : IsTrue new.is_done → IsDone new
    pub room : thread_words old.lines.now ≤ (plan_of names).shape.arena → IsTrue new.is_done
    pub number : (view new.seat).number ≡ (view old.seat).number
    pub lines : new.lines.now ≡ old.lines.now

  -- so it is with all of them
  abbrev pub HaveWorked : List Worker → List Worker → Type 0
  HaveWorked old new = (k : ℕ) (d : Worker) → k < length old
      → HasWorked (slice_index_or old k d) (slice_index_or new k d)

-- the first seat knows what a worker knew, and has the list of what it published
pub record HasJoined (seat : RowSeat NameSort) (w : Worker) (place : ℕ) : Type 0 where
  pub knows : KnowsMore (view w.seat) (view seat)
  pub published : slice_get (view seat).others place ≡ Some (Some (view w.seat).published)
