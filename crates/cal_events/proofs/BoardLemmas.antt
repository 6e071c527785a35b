-- A list of paths that has each front of each slot of a board keeps up with the board, where the
-- paths that operations open are added.
use Rattle.std.proofs.Common.{◌≡◌, ℕ, suc, ◌+◌, ◌-◌, ◌<◌, ◌≤◌, Bool, true, false, ◌&&◌, List, []}
use Rattle.std.proofs.Common.{◌∷◌, ◌++◌, length, map, take, filter, get_or, ap, subst, sym, refl}
use Rattle.std.proofs.Common.{◌∙◌, arith, cond, if◌then◌else◌, nat_lt, ◌==◌, append_assoc, ⊎_elim}
use Rattle.std.proofs.Common.{Contains, true≢false, ◌⊎◌, inl, inr}
use Rattle.std.specs.Prelude.{Option, Some, None, not}
use Rattle.std.specs.List.{All}
use Rattle.std.proofs.lemmas.Bool.{and_parts, cases_lt, eq-eqb, ltb-true, ne_eqb, not-true}
use Rattle.std.proofs.lemmas.List.{length-take-le, length_push, take-append-le, take-take, take_all}
use Rattle.std.proofs.lemmas.List.Elements.{All-append, All-cons, All-filter, All-map, All-nil}
use Rattle.cal_board.specs.Blackboard.{Blackboard, changed, if_done, is_top, opened_instead}
use Rattle.cal_board.specs.Blackboard.{opened_more, slot_number, top_at}
use Rattle.cal_board.specs.PathBoards.{entries_of, entry_in}
use Rattle.cal_board.specs.Slots.{front, opened_in, slot_of, with_slot}
use Rattle.cal_board.specs.declared.attr.AttrRef.{AttrRef}
use Rattle.cal_board.specs.declared.opened.Opened.{Opened}
use Rattle.cal_board.specs.declared.opened.Slot.{Slot}
use Rattle.cal_board.specs.declared.reply.BoardReply as boards
use Rattle.cal_board.specs.declared.reply.BoardReply.TheVariants as board
use Rattle.cal_events.specs.Keeping.{HasPaths}
use Rattle.cal_events.specs.Nodes.{path_behind, path_if}
use Rattle.cal_run.proofs.LawLemmas.{all-rest}
use Rattle.cal_run.specs.History.{board_placed, board_with, reply_of}
use Rattle.cal_run.specs.Lines.{attr_ref, is_such, operation_of, value_of}
use Rattle.cal_run.specs.Paths.{held_behind, paths_of}
use Rattle.cal_run.specs.Steps.{as_reply, is_accepted, reply_to_line}
use Rattle.cal_run.specs.declared.operation.Operation.{Operation}
use Rattle.cal_script.specs.declared.script.Line as lines
use Rattle.cal_script.specs.declared.script.Line.TheVariants as line
use Rattle.cal_script.specs.declared.script.Script.{Script}
use Rattle.cal_value.specs.declared.attribute.Entry.{Entry}
use Rattle.cal_value.specs.declared.variant.Variant.{Variant}
use Rattle.cal_words.specs.declared.op.OpCode as codes
use Rattle.cal_words.specs.declared.op.OpCode.TheVariants as code
use Rattle.cal_world.specs.Events.{is_opening, opens_path}

abbrev pub Path : Type 0
Path = List Entry

-- ---- slots

module _ {V : Type 0} (n : ℕ) where
  low-skip : (xs ys : List (Slot V))
      → opened_in n (filter (λ (s : Slot V). nat_lt s.number n) xs ++ ys) ≡ opened_in n ys
  low-skip [] ys = refl
  low-skip (x ∷ xs) ys = by (low-skip xs ys) (nat_lt x.number n) refl
    where
      by : opened_in n (filter (λ (s : Slot V). nat_lt s.number n) xs ++ ys) ≡ opened_in n ys
          → (b : Bool) → nat_lt x.number n ≡ b
          → opened_in n (cond b (x ∷ filter (λ (s : Slot V). nat_lt s.number n) xs)
          (filter (λ (s : Slot V). nat_lt s.number n) xs) ++ ys) ≡ opened_in n ys
      by rest true e =
          let less : x.number < n = ltb-true x.number n e in
          ap (λ b. if b then x.opened
          else opened_in n (filter (λ (s : Slot V). nat_lt s.number n) xs ++ ys))
          (ne_eqb x.number n (λ same. omega (arith, same, less)))
          ∙ rest
      by rest false e = rest

  high-none : (xs : List (Slot V))
      → opened_in n (filter (λ (s : Slot V). nat_lt n s.number) xs) ≡ []
  high-none [] = refl
  high-none (x ∷ xs) = by (high-none xs) (nat_lt n x.number) refl
    where
      by : opened_in n (filter (λ (s : Slot V). nat_lt n s.number) xs) ≡ []
          → (b : Bool) → nat_lt n x.number ≡ b
          → opened_in n (cond b (x ∷ filter (λ (s : Slot V). nat_lt n s.number) xs)
          (filter (λ (s : Slot V). nat_lt n s.number) xs)) ≡ []
      by rest true e =
          let less : n < x.number = ltb-true n x.number e in
          ap (λ b. if b then x.opened
          else opened_in n (filter (λ (s : Slot V). nat_lt n s.number) xs))
          (ne_eqb x.number n (λ same. omega (arith, same, less)))
          ∙ rest
      by rest false e = rest

  here-first : (os : List (Opened V)) (high : List (Slot V)) → opened_in n high ≡ []
      → opened_in n (slot_of n os ++ high) ≡ os
  here-first [] high none = none
  here-first (o ∷ os) high none =
      ap (λ b. if b then o ∷ os else opened_in n high) (eq-eqb n n refl)

  -- a slot has the values that were put into it
  pub opened-with : (os : List (Opened V)) (xs : List (Slot V))
      → opened_in n (with_slot n os xs) ≡ os
  opened-with os xs =
      ap (opened_in n) (append_assoc (filter (λ (s : Slot V). nat_lt s.number n) xs)
      (slot_of n os) (filter (λ (s : Slot V). nat_lt n s.number) xs))
      ∙ low-skip xs (slot_of n os ++ filter (λ (s : Slot V). nat_lt n s.number) xs)
      ∙ here-first os _ (high-none xs)

-- ---- fronts

module _ (script : Script) (paths : List Path) where
  abbrev entries : List (Opened Variant) → Path
  entries os = map (entry_in script.attributes) os

  -- each front of these values is among the paths
  abbrev pub HasFronts : List (Opened Variant) → Type 0
  HasFronts os = (k : ℕ) → 0 < k → k ≤ length os → Contains paths (entries (take k os))

  pub record HasSlot (s : Slot Variant) : Type 0 where
    pub held : 0 < length s.opened
    pub fronts : HasFronts s.opened

  -- and so of each slot of a board
  abbrev pub HasBoard : Blackboard Variant → Type 0
  HasBoard b = All HasSlot b.references

  opened-fronts : (n : ℕ) (ss : List (Slot Variant)) → All HasSlot ss
      → HasFronts (opened_in n ss)
  opened-fronts n [] all = λ k some less. absurd (omega (arith, some, less))
  opened-fronts n (s ∷ ss) all =
      by (opened-fronts n ss (all-rest HasSlot s ss all)) (s.number == n)
    where
      by : HasFronts (opened_in n ss) → (b : Bool)
          → HasFronts (if b then s.opened else opened_in n ss)
      by rest true = (all 0 s (omega arith)).fronts
      by rest false = rest

  slot-has : (n : ℕ) (os : List (Opened Variant)) → HasFronts os → All HasSlot (slot_of n os)
  slot-has n [] has = All-nil HasSlot
  slot-has n (o ∷ os) has = All-cons HasSlot (record { number = n; opened = o ∷ os }) []
      (record { held = omega arith; fronts = has }) (All-nil HasSlot)

  with-has : (n : ℕ) (os : List (Opened Variant)) (ss : List (Slot Variant)) → All HasSlot ss
      → HasFronts os → All HasSlot (with_slot n os ss)
  with-has n os ss all has =
      All-append HasSlot (filter (λ (s : Slot Variant). nat_lt s.number n) ss ++ slot_of n os) _
      (All-append HasSlot (filter (λ (s : Slot Variant). nat_lt s.number n) ss) (slot_of n os)
      (All-filter (λ (s : Slot Variant). nat_lt s.number n) HasSlot ss all)
      (slot-has n os has))
      (All-filter (λ (s : Slot Variant). nat_lt n s.number) HasSlot ss all)

  front-has : (os : List (Opened Variant)) → HasFronts os → HasFronts (front os)
  front-has os has k some less =
      let long = length-take-le (length os - 1) os (omega arith) in
      subst (λ (ps : List (Opened Variant)). Contains paths (entries ps))
      (sym (take-take k (length os - 1) os (omega (arith, less, long))))
      (has k some (omega (arith, less, long)))

  more-has : (os : List (Opened Variant)) (o : Opened Variant) → HasFronts os
      → Contains paths (entries (os ++ o ∷ [])) → HasFronts (os ++ o ∷ [])
  more-has os o has whole k some less = ⊎_elim
      (λ early. subst (λ (ps : List (Opened Variant)). Contains paths (entries ps))
      (sym (take-append-le k os (o ∷ []) (omega (arith, early))))
      (has k some (omega (arith, early))))
      (λ late. subst (λ (ps : List (Opened Variant)). Contains paths (entries ps))
      (sym (take_all k (os ++ o ∷ []) (let long = length_push os o in omega (arith, long, late))))
      whole)
      (cases_lt k (length os + 1))

  -- the paths of such a board are there
  pub board-paths : (b : Blackboard Variant) → HasBoard b → HasPaths paths (paths_of script b)
  board-paths b has = All-map (Contains paths) (λ (s : Slot Variant). entries s.opened) b.references
      (λ k d below. let s : Slot Variant = get_or b.references k d in
      let one = has k d below in
      subst (λ (ps : List (Opened Variant)). Contains paths (entries ps))
      (take_all (length s.opened) s.opened (omega arith))
      (one.fronts (length s.opened) one.held (omega arith)))

-- ---- operations

-- the values of a slot behind an accepted operation
abbrev values_by : codes.OpCode → (top : Bool) → ℕ → Variant → List (Opened Variant)
    → List (Opened Variant)
values_by code.Begin top a v os = opened_more a v os
values_by code.End top a v os = front os
values_by code.Set top a v os = if top then opened_instead a v os else opened_more a v os

module _ (script : Script) (b : Blackboard Variant) (op : Operation) where
  abbrev ref : AttrRef
  ref = attr_ref script op.attr

  abbrev values : List (Opened Variant) → List (Opened Variant)
  values = values_by op.code (is_top (top_at b ref) ref.number) ref.number (value_of script op)

  abbrev pub is_done : Bool
  is_done = is_accepted (Some (as_reply (reply_of script b op)))

  done-new : (r : boards.BoardReply) (new old : Blackboard Variant)
      → is_accepted (Some (as_reply r)) ≡ true → if_done r new old ≡ new
  done-new board.Done new old e = refl
  done-new (board.Mismatch top) new old e = absurd (true≢false (sym e))
  done-new board.NotOpen new old e = absurd (true≢false (sym e))
  done-new (board.TreeFull full) new old e = absurd (true≢false (sym e))
  done-new board.TooDeep new old e = absurd (true≢false (sym e))
  done-new board.SlotsFull new old e = absurd (true≢false (sym e))

  not-done : (r : boards.BoardReply) (new old : Blackboard Variant)
      → is_accepted (Some (as_reply r)) ≡ false → if_done r new old ≡ old
  not-done board.Done new old e = absurd (true≢false e)
  not-done (board.Mismatch top) new old e = refl
  not-done board.NotOpen new old e = refl
  not-done (board.TreeFull full) new old e = refl
  not-done board.TooDeep new old e = refl
  not-done board.SlotsFull new old e = refl

  abbrev put : (as_value top : Bool) → codes.OpCode → List (Slot Variant)
  put as_value top c = if as_value then b.references
      else with_slot (slot_number ref)
      (values_by c top ref.number (value_of script op) (opened_in (slot_number ref) b.references))
      b.references

  -- the board with other values, in whichever of its two lists
  abbrev with_if : (as_value : Bool) → (List (Opened Variant) → List (Opened Variant))
      → Blackboard Variant
  with_if as_value f = if as_value
      then record {
        references = b.references;
        as_values = with_slot (slot_number ref) (f (opened_in (slot_number ref) b.as_values))
            b.as_values;
      }
      else record {
        references = with_slot (slot_number ref) (f (opened_in (slot_number ref) b.references))
            b.references;
        as_values = b.as_values;
      }

  with-if : (v : Bool) (f : List (Opened Variant) → List (Opened Variant))
      → (with_if v f).references ≡ (if v then b.references
      else with_slot (slot_number ref) (f (opened_in (slot_number ref) b.references)) b.references)
  with-if true f = refl
  with-if false f = refl

  set-is : (t : Bool)
      → (if t then with_if ref.as_value (opened_instead ref.number (value_of script op))
      else with_if ref.as_value (opened_more ref.number (value_of script op)))
      ≡ with_if ref.as_value (values_by code.Set t ref.number (value_of script op))
  set-is true = refl
  set-is false = refl

  put-is : (c : codes.OpCode)
      → (changed b c ref (value_of script op) (value_of script op)).references
      ≡ put ref.as_value (is_top (top_at b ref) ref.number) c
  put-is code.Begin = with-if ref.as_value (opened_more ref.number (value_of script op))
  put-is code.End = with-if ref.as_value front
  put-is code.Set =
      ap (λ (c : Blackboard Variant). c.references) (set-is (is_top (top_at b ref) ref.number))
      ∙ with-if ref.as_value (values_by code.Set (is_top (top_at b ref) ref.number) ref.number
      (value_of script op))

  -- the slots behind an operation that is done
  references-put : is_done ≡ true → (board_with script b op).references
      ≡ put ref.as_value (is_top (top_at b ref) ref.number) op.code
  references-put done =
      ap (λ (c : Blackboard Variant). c.references)
      (done-new (reply_of script b op) (changed b op.code ref (value_of script op)
      (value_of script op)) b done)
      ∙ put-is op.code

  -- which puts the values into a reference slot
  references-with : is_done ≡ true → ref.as_value ≡ false → (board_with script b op).references
      ≡ with_slot (slot_number ref) (values (opened_in (slot_number ref) b.references))
      b.references
  references-with done reference = references-put done
      ∙ ap (λ v. put v (is_top (top_at b ref) ref.number) op.code) reference

  path-is : is_done ≡ true → ref.as_value ≡ false → path_behind script b op
      ≡ map (entry_in script.attributes) (values (opened_in (slot_number ref) b.references))
  path-is done reference =
      ap (λ ss. map (entry_in script.attributes) (opened_in (slot_number ref) ss))
      (references-with done reference)
      ∙ ap (map (entry_in script.attributes))
      (opened-with (slot_number ref) (values (opened_in (slot_number ref) b.references))
      b.references)

  -- ---- with paths

  -- the path of the operation, if it is done and opens one
  abbrev pub opens : Bool
  opens = is_done && opens_path script op

  only : (paths : List Path) (needed : Bool) → needed ≡ true
      → HasPaths paths (path_if script needed b (Some op))
      → Contains paths (path_behind script b op)
  only paths needed e has = subst
      (λ n. HasPaths paths (path_if script n b (Some op))
      → Contains paths (path_behind script b op))
      (sym e) (λ all. all 0 (path_behind script b op) (omega arith)) has

  opens-so : (c : codes.OpCode) → is_opening c ≡ true → op.code ≡ c → is_done ≡ true
      → ref.as_value ≡ false → opens ≡ true
  opens-so c opening same done reference =
      (λ j. done j && (is_opening (same j) && not (reference j)))
      ∙ ap (λ o. true && (o && true)) opening

  values-have : (paths : List Path) → HasBoard script paths b
      → HasPaths paths (path_if script opens b (Some op)) → is_done ≡ true
      → ref.as_value ≡ false → (c : codes.OpCode) → op.code ≡ c → (t : Bool)
      → Contains paths (map (entry_in script.attributes)
      (values_by c t ref.number (value_of script op) (opened_in (slot_number ref) b.references)))
      ⊎ (c ≡ code.End)
      → HasFronts script paths (values_by c t ref.number (value_of script op)
      (opened_in (slot_number ref) b.references))
  values-have paths has new done reference code.Begin same t (inl there) =
      more-has script paths (opened_in (slot_number ref) b.references) _
      (opened-fronts script paths (slot_number ref) b.references has) there
  values-have paths has new done reference code.Begin same t (inr ends) =
      absurd (let no : code.Begin ≡ code.End = ends in cc)
  values-have paths has new done reference code.End same t there =
      front-has script paths (opened_in (slot_number ref) b.references)
      (opened-fronts script paths (slot_number ref) b.references has)
  values-have paths has new done reference code.Set same true (inl there) =
      more-has script paths (front (opened_in (slot_number ref) b.references)) _
      (front-has script paths (opened_in (slot_number ref) b.references)
      (opened-fronts script paths (slot_number ref) b.references has)) there
  values-have paths has new done reference code.Set same false (inl there) =
      more-has script paths (opened_in (slot_number ref) b.references) _
      (opened-fronts script paths (slot_number ref) b.references has) there
  values-have paths has new done reference code.Set same t (inr ends) =
      absurd (let no : code.Set ≡ code.End = ends in cc)

  there-for : (paths : List Path) → HasPaths paths (path_if script opens b (Some op))
      → is_done ≡ true → ref.as_value ≡ false → (c : codes.OpCode) → op.code ≡ c
      → Contains paths (map (entry_in script.attributes)
      (values_by c (is_top (top_at b ref) ref.number) ref.number (value_of script op)
      (opened_in (slot_number ref) b.references)))
      ⊎ (c ≡ code.End)
  there-for paths new done reference code.Begin same = inl
      (subst (λ (c : codes.OpCode). Contains paths (map (entry_in script.attributes)
      (values_by c (is_top (top_at b ref) ref.number) ref.number (value_of script op)
      (opened_in (slot_number ref) b.references)))) same
      (subst (Contains paths) (path-is done reference)
      (only paths opens (opens-so code.Begin refl same done reference) new)))
  there-for paths new done reference code.End same = inr refl
  there-for paths new done reference code.Set same = inl
      (subst (λ (c : codes.OpCode). Contains paths (map (entry_in script.attributes)
      (values_by c (is_top (top_at b ref) ref.number) ref.number (value_of script op)
      (opened_in (slot_number ref) b.references)))) same
      (subst (Contains paths) (path-is done reference)
      (only paths opens (opens-so code.Set refl same done reference) new)))

  pub board-next : (paths : List Path) → HasBoard script paths b
      → HasPaths paths (path_if script opens b (Some op))
      → HasBoard script paths (board_with script b op)
  board-next paths has new = by is_done ref.as_value refl refl
    where
      by : (d v : Bool) → is_done ≡ d → ref.as_value ≡ v
          → HasBoard script paths (board_with script b op)
      by false v ed ev = subst (HasBoard script paths)
          (sym (not-done (reply_of script b op)
          (changed b op.code ref (value_of script op) (value_of script op)) b ed)) has
      by true true ed ev = subst (All (HasSlot script paths))
          (sym (references-put ed
          ∙ ap (λ w. put w (is_top (top_at b ref) ref.number) op.code) ev)) has
      by true false ed ev = subst (All (HasSlot script paths)) (sym (references-with ed ev))
          (with-has script paths (slot_number ref)
          (values (opened_in (slot_number ref) b.references)) b.references has
          (values-have paths has new ed ev op.code refl (is_top (top_at b ref) ref.number)
          (there-for paths new ed ev op.code refl)))

  -- ---- held paths

  in-slots : (n : ℕ) (ss : List (Slot Variant)) → 0 < length (opened_in n ss)
      → Contains (entries_of script.attributes ss)
      (map (entry_in script.attributes) (opened_in n ss))
  in-slots n [] = λ some. absurd (omega (arith, some))
  in-slots n (s ∷ ss) = by (in-slots n ss) (s.number == n)
    where
      by : (0 < length (opened_in n ss) → Contains (entries_of script.attributes ss)
          (map (entry_in script.attributes) (opened_in n ss)))
          → (e : Bool) → 0 < length (if e then s.opened else opened_in n ss)
          → Contains (entries_of script.attributes (s ∷ ss))
          (map (entry_in script.attributes) (if e then s.opened else opened_in n ss))
      by rest true some = (0, omega arith, refl)
      by rest false some =
          let at = rest some in
          let inside = at.1 in
          (suc at.0, omega (arith, inside), at.2)

  some-values : (c : codes.OpCode) (t : Bool) (os : List (Opened Variant)) → is_opening c ≡ true
      → 0 < length (values_by c t ref.number (value_of script op) os)
  some-values code.Begin t os e =
      (let long = length_push os (record { attribute = ref.number; value = value_of script op }) in
      omega (arith, long))
  some-values code.End t os e = absurd (true≢false (sym e))
  some-values code.Set true os e =
      (let long = length_push (front os)
      (record { attribute = ref.number; value = value_of script op }) in omega (arith, long))
  some-values code.Set false os e =
      (let long = length_push os (record { attribute = ref.number; value = value_of script op }) in
      omega (arith, long))

  -- the path that an operation opens is held behind it
  pub path-held : HasPaths (held_behind script b (Some op)) (path_if script opens b (Some op))
  path-held = by opens refl
    where
      by : (o : Bool) → opens ≡ o
          → HasPaths (held_behind script b (Some op)) (path_if script o b (Some op))
      by false e = All-nil (Contains (held_behind script b (Some op)))
      by true e =
          let one = and_parts is_done (opens_path script op) e in
          let two = and_parts (is_opening op.code) (not ref.as_value) one.1 in
          let reference : ref.as_value ≡ false = not-true ref.as_value two.1 in
          let now : opened_in (slot_number ref) (board_with script b op).references
          ≡ values (opened_in (slot_number ref) b.references) =
          ap (opened_in (slot_number ref)) (references-with one.0 reference)
          ∙ opened-with (slot_number ref) (values (opened_in (slot_number ref) b.references))
          b.references in
          let some : 0 < length (opened_in (slot_number ref) (board_with script b op).references) =
          subst (λ (os : List (Opened Variant)). 0 < length os) (sym now)
          (some-values op.code (is_top (top_at b ref) ref.number)
          (opened_in (slot_number ref) b.references) two.0) in
          All-cons (Contains (held_behind script b (Some op))) (path_behind script b op) []
          (in-slots (slot_number ref) (board_with script b op).references some)
          (All-nil (Contains (held_behind script b (Some op))))

-- ---- what may be an operation

module _ (script : Script) (b : Blackboard Variant) where
  abbrev pub opens_on : Option Operation → Bool
  opens_on None = false
  opens_on (Some op) = opens script b op

  -- the path that it opens, if it does
  abbrev pub opened : Option Operation → List Path
  opened o = path_if script (opens_on o) b o

  pub opened-next : (paths : List Path) (o : Option Operation) → HasBoard script paths b
      → HasPaths paths (opened o) → HasBoard script paths (board_placed script b o)
  opened-next paths None has new = has
  opened-next paths (Some op) has new = board-next script b op paths has new

  pub opened-held : (o : Option Operation) → HasPaths (held_behind script b o) (opened o)
  opened-held None = All-nil (Contains (held_behind script b None))
  opened-held (Some op) = path-held script b op

  -- a line opens a path where it is accepted
  pub opens-line : (l : lines.Line)
      → (is_accepted (reply_to_line script b l) && is_such (opens_path script) (operation_of l))
      ≡ opens_on (operation_of l)
  opens-line (line.Begin a v) = refl
  opens-line (line.End a) = refl
  opens-line (line.Set a v) = refl
  opens-line line.Snapshot = refl
  opens-line (line.Flush c) = refl
  opens-line (line.Tick n) = refl
