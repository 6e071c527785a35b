-- Lists of threads, one for each thread, in which each has something at each channel's place.
use Rattle.std.specs.Prelude.{ℕ, List, map, filter_map, slice_get}
use Rattle.std.specs.declared.vec.Vec.{Vec}

-- the items of each
abbrev pub lists_of : {A Z : Type 0} → List (Vec A Z) → List (List A)
lists_of lists = map (λ list. list.items) lists

-- what the threads have at a place
abbrev pub at_place : {A : Type 0} → ℕ → List (List A) → List A
at_place place lists = filter_map (λ list. slice_get list place) lists
