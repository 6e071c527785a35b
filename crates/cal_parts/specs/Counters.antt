-- What the kernels of a query seek in records by number, and when what is kept of nodes is right.
use Rattle.std.specs.Prelude.{◌≡◌, ℕ, List, [], ◌∷◌, codes, map, slice_get}
use Rattle.std.specs.Prelude.{Option, Some, option_and_then}
use Rattle.std.specs.List.{All, AllZip}
use Rattle.cal_agg.specs.declared.num.Num.{Num}
use Rattle.cal_context.specs.Snapshots.{IsIn, meaning}
use Rattle.cal_context.specs.Tree.{Tree}
use Rattle.cal_filter.specs.Known.{Knows, KnowsAll, sought}
use Rattle.cal_filter.specs.Sought.{Sought, number_of, number_sought, whole_of}
use Rattle.cal_filter.specs.declared.seeker.Seeker.{Seeker}
use Rattle.cal_ql.specs.declared.names.KernelName as kernels
use Rattle.cal_ql.specs.declared.names.KernelName.TheVariants as kernel
use Rattle.cal_value.specs.Flat.{flat}
use Rattle.cal_value.specs.declared.attribute.Entry.{Entry}
use Rattle.cal_value.specs.declared.record.Rec.{Rec}
use Rattle.cal_parts.specs.declared.counter.Counter.{Counter}
use Rattle.cal_parts.specs.declared.counters.Counters.{Counters}
use Rattle.cal_parts.specs.declared.finding.Found.{Found}
use Rattle.cal_parts.specs.declared.reading.Reading.{Reading}

-- `count` seeks a record's weight, and another kernel the last numbers of its names
abbrev pub sought_for : kernels.KernelName → List (List ℕ) → List Sought
sought_for kernel.Count names = whole_of (codes "count") ∷ []
sought_for _ names = map number_of names

-- A counter is that of a reading: at its places among all that is sought stands what its kernel
-- seeks.
pub record CountsFor (all : List Sought) (r : Reading) (c : Counter) : Type 0 where
  pub kernel : c.kernel ≡ r.kernel
  pub places : map (slice_get all) c.places.items ≡ map Some (sought_for r.kernel r.names)

-- counters are those of readings
abbrev pub CountFor : List Reading → Counters → Type 0
CountFor rs cs = AllZip (CountsFor (map sought cs.seekers.items)) rs cs.counters.items

-- and what they keep is right
pub record AreCounters (t : Tree) (rs : List Reading) (cs : Counters) : Type 0 where
  pub counts : CountFor rs cs
  pub knows : All (Knows t) cs.seekers.items

-- and they know the whole context
pub record AreReadyCounters (t : Tree) (rs : List Reading) (cs : Counters) : Type 0 where
  pub counts : CountFor rs cs
  pub knows : All (KnowsAll t) cs.seekers.items

-- More is sought: what was sought stands where it stood, and what is kept is still right.
pub record SeekMore (old new : List Seeker) : Type 0 where
  pub places : (place : ℕ) (s : Sought) → slice_get (map sought old) place ≡ Some s
      → slice_get (map sought new) place ≡ Some s
  pub knows : (t : Tree) → All (Knows t) old → All (Knows t) new

-- the number that is found among entries at a place of all that is sought
abbrev pub number_at : List Sought → List Entry → ℕ → Option Num
number_at all entries place = option_and_then (λ s. number_sought s entries) (slice_get all place)

-- the record in which is sought, and what is sought there
abbrev pub record_of : Found → Rec
record_of f = meaning f.context.now f.snapshot.now

abbrev pub sought_in : Found → List Sought
sought_in f = map sought f.seekers.now

abbrev pub IsWithin : Found → Type 0
IsWithin f = IsIn f.context.now f.snapshot.now

-- The seekers know the whole context, and what is kept is found at the usual place.
pub record IsReadyFound (f : Found) : Type 0 where
  pub knows : All (KnowsAll f.context.now) f.seekers.now
  pub usual : f.number ≡ number_at (sought_in f) (flat (record_of f)) f.usual
