use Rattle.std.specs.Prelude.{◌≡◌, ◌≢◌, ℕ, zero, suc, ◌+◌, ◌-◌, ◌<◌, ◌≤◌, ◌⊎◌, Bool, true, false}
use Rattle.std.specs.Prelude.{◌||◌}
use Rattle.std.specs.Prelude.{◌&&◌, ◌==◌, if◌then◌else◌, Option, Some, None, List, [], ◌∷◌, ◌++◌}
use Rattle.std.specs.Prelude.{length, take, slice_index, IsTrue}
use Rattle.cal_once.specs.declared.view.View.{View}
use Rattle.cal_once.specs.declared.view.Plan.{Plan}
use Rattle.cal_once.specs.Layout.{size_in, start_in}

-- the word i of the table was seen to be x
abbrev pub Saw : List (ℕ × ℕ) → ℕ → ℕ → Type 0
Saw [] i x = ⊥
Saw (e ∷ es) i x = ((e.0 ≡ i) × (e.1 ≡ x)) ⊎ Saw es i x

-- whether the word i was seen
abbrev pub was_seen : List (ℕ × ℕ) → ℕ → Bool
was_seen [] i = false
was_seen (e ∷ es) i = (e.0 == i) || was_seen es i

-- the words of a record that begins at a place of the table, as what was seen
abbrev pub placed : ℕ → List ℕ → List (ℕ × ℕ)
placed start [] = []
placed start (w ∷ ws) = (start, w) ∷ placed (start + 1) ws

-- the places that joined seats published
abbrev pub gathered : List (Option (List ℕ)) → List ℕ
gathered [] = []
gathered (None ∷ others) = gathered others
gathered (Some places ∷ others) = places ++ gathered others

abbrev pub none_away : List (Option (List ℕ)) → Bool
none_away [] = true
none_away (None ∷ others) = false
none_away (Some places ∷ others) = none_away others

-- the list of a number's seat once it was joined
abbrev pub joined_with : List (Option (List ℕ)) → ℕ → List ℕ → List (Option (List ℕ))
joined_with [] k places = []
joined_with (o ∷ others) zero places = Some places ∷ others
joined_with (o ∷ others) (suc k) places = o ∷ joined_with others k places

module _ {S : Type 0} where
  -- the seat knows the place: it has met its slot's word, which stands for good
  abbrev pub Knows : View S → ℕ → Type 0
  Knows v place = IsTrue (was_seen v.seen (place + 1))

  -- the place holds the record, all of whose words the seat knows
  pub record Holds (v : View S) (place : ℕ) (words : List ℕ) : Type 0 where
    pub slot : ℕ
    pub known : Saw v.seen (place + 1) slot
    pub size : size_in slot ≡ length words
    pub each : (i : ℕ) → i < length words → Saw v.seen (start_in slot + i) (slice_index words i)

  -- Word i of the record that a slot names is the first one that differs from these words, as the
  -- seat knows: it has seen the words before it, and they are equal.
  pub record DiffersFirst (v : View S) (slot i : ℕ) (words : List ℕ) : Type 0 where
    pub size : size_in slot ≡ length words
    pub inside : i < size_in slot
    pub before : (j : ℕ) → j < i → Saw v.seen (start_in slot + j) (slice_index words j)
    pub word : ℕ
    pub here : Saw v.seen (start_in slot + i) word
    pub differs : word ≢ slice_index words i

  -- the place holds another record than this one, as the seat knows by its length or by the first
  -- word that differs
  pub record HoldsOther (v : View S) (place : ℕ) (words : List ℕ) : Type 0 where
    pub slot : ℕ
    pub known : Saw v.seen (place + 1) slot
    pub differs : (size_in slot ≢ length words) ⊎ ((i : ℕ) × DiffersFirst v slot i words)

  -- the record at the place begins with these words, as the seat has seen
  pub record Begins (v : View S) (place : ℕ) (front : List ℕ) : Type 0 where
    pub slot : ℕ
    pub known : Saw v.seen (place + 1) slot
    pub short : length front ≤ size_in slot
    pub each : (i : ℕ) → i < length front → Saw v.seen (start_in slot + i) (slice_index front i)

  -- the record's parent is the root and its depth 1, or the seat knows the parent, and its depth is
  -- one less
  abbrev pub KnowsParent : View S → ℕ → List ℕ → Type 0
  KnowsParent v slots words = ((slice_index words 0 ≡ 0) × (slice_index words 1 ≡ 1))
      ⊎ ((parent : ℕ) × (slot : ℕ) × (depth : ℕ) × (parent < slots)
      × (slice_index words 0 ≡ parent + 1) × Saw v.seen (parent + 1) slot
      × Saw v.seen (start_in slot + 1) depth × (slice_index words 1 ≡ depth + 1))

  -- some record that the seat knows has its parent at this place
  abbrev pub IsParent : View S → ℕ → ℕ → Type 0
  IsParent v slots parent = (place : ℕ) × (slot : ℕ) × (place < slots)
      × Saw v.seen (place + 1) slot × Saw v.seen (start_in slot) (parent + 1)

  -- every seat that was split off was joined
  abbrev pub AllJoined : View S → Type 0
  AllJoined v = (v.number ≡ 0) × IsTrue (none_away v.others)

  -- the places that the seats published, once all were joined
  abbrev pub all_published : View S → List ℕ
  all_published v = v.published ++ gathered v.others

  -- what a seat knows after a load of a slot, and whether an empty look is noted
  abbrev pub looked : Bool → ℕ → ℕ → View S → View S
  looked noted place found v = record v {
    looks = if (found == 0) && noted then v.looks ++ place ∷ [] else v.looks;
    seen = if found == 0 then v.seen else (place + 1, found) ∷ v.seen;
  }

  -- after a load of a record's word
  abbrev pub read : ℕ → ℕ → View S → View S
  read i found v = record v { seen = (i, found) ∷ v.seen }

  -- after a store of word k of a draft
  abbrev pub drafted : ℕ → ℕ → View S → View S
  drafted k word v = record v { draft = take k v.draft ++ word ∷ [] }

  -- after an exchange of a slot: where it was empty, the draft is published there
  abbrev pub offered : ℕ → ℕ → ℕ → View S → View S
  offered place word found v = record v {
    used = if found == 0 then v.used + length v.draft else v.used;
    draft = if found == 0 then [] else v.draft;
    published = if found == 0 then v.published ++ place ∷ [] else v.published;
    seen = if found == 0
        then (place + 1, word) ∷ placed (start_in word) v.draft ++ v.seen
        else (place + 1, found) ∷ v.seen;
  }

  -- the first seat after a split, and the new seat
  abbrev pub split_off : View S → View S
  split_off v = record v { others = v.others ++ None ∷ [] }

  abbrev pub new_seat : View S → View S
  new_seat v = record v {
    number = length v.others + 1;
    used = 0;
    draft = [];
    published = [];
    looks = [];
    others = [];
  }

  -- the first seat after a join: it knows what either knew
  abbrev pub joined : View S → View S → View S
  joined v w = record v {
    seen = v.seen ++ w.seen;
    others = joined_with v.others (w.number - 1) w.published;
  }

  -- a joined seat says nothing more
  abbrev pub spent : View S
  spent = record {
    plan = None;
    number = 0;
    used = 0;
    draft = [];
    published = [];
    looks = [];
    seen = [];
    others = [];
  }

  -- what the seat knew stands for good
  abbrev pub KnowsMore : View S → View S → Type 0
  KnowsMore v w = (i x : ℕ) → Saw v.seen i x → Saw w.seen i x

  -- the seat has learned words of the table, and may have drafted a record; else it is as before
  pub record Learns (v w : View S) : Type 0 where
    pub same : w ≡ record v { draft = w.draft; seen = w.seen }
    pub more : KnowsMore v w

  -- the seat has noted that the slot of a place is empty
  abbrev pub noting : ℕ → View S → View S
  noting place v = record v { looks = v.looks ++ place ∷ [] }

  -- the seat has published a record of these words at a place
  abbrev pub publishing : List ℕ → ℕ → View S → View S
  publishing words place v = record v {
    used = v.used + length words;
    published = v.published ++ place ∷ [];
  }

  -- the same seat later
  abbrev pub IsLater : View S → View S → Type 0
  IsLater v w =
      (w.plan ≡ v.plan) × (w.number ≡ v.number) × (w.others ≡ v.others) × KnowsMore v w

  -- the length of a known place's record, and one of its words
  abbrev pub IsSizeOf : View S → ℕ → ℕ → Type 0
  IsSizeOf v place size = (slot : ℕ) × Saw v.seen (place + 1) slot × (size ≡ size_in slot)

  abbrev pub IsWordOf : View S → ℕ → ℕ → ℕ → Type 0
  IsWordOf v place i word = (slot : ℕ) × Saw v.seen (place + 1) slot
      × Saw v.seen (start_in slot + i) word

  -- how many of the first n places the seat knows
  abbrev pub known_count : View S → ℕ → ℕ
  known_count v zero = 0
  known_count v (suc n) = known_count v n + (if was_seen v.seen (n + 1) then 1 else 0)

  -- the first seat of a table
  abbrev pub first_seat : Plan S → View S
  first_seat plan = record spent { plan = Some plan }
