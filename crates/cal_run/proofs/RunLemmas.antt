-- Lines and threads are run one after another, each with its note.
use Rattle.std.proofs.Common.{◌≡◌, ℕ, suc, zero, ◌+◌, ◌-◌, ◌<◌, ◌≤◌, List, [], ◌∷◌, ◌++◌, Bool}
use Rattle.std.proofs.Common.{true, false, if◌then◌else◌, ◌&&◌, length, get_or, take, drop, ap}
use Rattle.std.proofs.Common.{subst, sym, refl, ◌∙◌, append_assoc, append-nil, add-one, arith}
use Rattle.std.specs.Prelude.{flat_map, zip}
use Rattle.std.specs.List.{All}
use Rattle.std.proofs.lemmas.Grind.{flat_map-append}
use Rattle.std.proofs.Math.Bool.{and-false}
use Rattle.std.proofs.lemmas.List.{get_or-drop, length-drop, take_all, take_more}
use Rattle.std.proofs.lemmas.Slice.Zip.{get_or-zip, length-zip}
use Rattle.cal_context.proofs.CallerLemmas.{TakesMore-trans}
use Rattle.cal_context.specs.Taking.{TakesMore}
use Rattle.cal_run.specs.Lines.{is_process_line, operation_of, takes}
use Rattle.cal_run.specs.Runs.{taken_from}
use Rattle.cal_run.specs.Seeing.{MaySee, SeesInOrder}
use Rattle.cal_run.specs.Snapshots.{snapshot_of}
use Rattle.cal_run.specs.Steps.{ThreadState, found_reply, is_accepted, previous_after, seen_before}
use Rattle.cal_run.specs.Steps.{sight_after, state_after, taken_in}
use Rattle.cal_run.specs.Threads.{CanRun}
use Rattle.cal_run.specs.declared.thread.Thread.{Thread}
use Rattle.cal_script.specs.declared.journal.LineNote.{LineNote}
use Rattle.cal_script.specs.declared.journal.Placed.{Placed}
use Rattle.cal_script.specs.declared.journal.ThreadNote.{ThreadNote}
use Rattle.cal_script.specs.declared.script.Channel.{Channel}
use Rattle.cal_script.specs.declared.script.Line.{Line}
use Rattle.cal_script.specs.declared.script.Script.{Script}
use Rattle.cal_value.specs.declared.record.Rec.{Rec}

module _ {A B : Type 0} where
  -- the rest of two lists, with the items of a place first
  pub zip_drop : (xs : List A) (ys : List B) (i : ℕ) (d : A) (e : B) → i < length xs
      → length ys ≡ length xs
      → drop i (zip xs ys) ≡ (get_or xs i d, get_or ys i e) ∷ drop (i + 1) (zip xs ys)
  zip_drop xs ys i d e l long = rw add-one (by xs ys i l long)
    where
      by : (xs : List A) (ys : List B) (i : ℕ) → i < length xs → length ys ≡ length xs
          → drop i (zip xs ys) ≡ (get_or xs i d, get_or ys i e) ∷ drop (suc i) (zip xs ys)
      by [] ys i l long = absurd (omega (arith, l))
      by (x ∷ xs) [] i l long = absurd (omega (arith, long))
      by (x ∷ xs) (y ∷ ys) zero l long = refl
      by (x ∷ xs) (y ∷ ys) (suc i) l long = by xs ys i (omega (arith, l)) (omega (arith, long))

  -- the same, with the items by name
  pub zip_next : (xs : List A) (ys : List B) (i : ℕ) (x : A) (y : B) → x ≡ get_or xs i x
      → y ≡ get_or ys i y → i < length xs
      → length ys ≡ length xs → drop i (zip xs ys) ≡ (x, y) ∷ drop (i + 1) (zip xs ys)
  zip_next xs ys i x y ex ey l long = zip_drop xs ys i x y l long
      ∙ (λ j. (sym ex j, sym ey j) ∷ drop (i + 1) (zip xs ys))

-- what the items of a list so far give was taken, and so was what the next one gives
pub taken_more : {A : Type 0} (f : A → List Rec) (had mid has : List Rec
    → Type 0) (xs : List A) (i : ℕ) (d : A)
    → i < length xs → TakesMore had mid (flat_map f (take i xs))
    → TakesMore mid has (f (get_or xs i d))
    → TakesMore had has (flat_map f (take (i + 1) xs))
taken_more f had mid has xs i d below so_far next =
    let more : flat_map f (take (i + 1) xs) ≡ flat_map f (take i xs) ++ f (get_or xs i d) =
    ap (flat_map f) (take_more xs i d below)
    ∙ flat_map-append f (take i xs) (get_or xs i d ∷ [])
    ∙ ap (λ ys. flat_map f (take i xs) ++ ys) (append-nil (f (get_or xs i d))) in
    subst (TakesMore had has) (sym more) (TakesMore-trans had mid has _ _ so_far next)

-- ---- the threads of a run

module _ (threads : List (List Line)) (notes : List ThreadNote) (i : ℕ) (ls : List Line)
    (note : ThreadNote)
    (lines : ls ≡ get_or threads i ls) (noted : note ≡ get_or notes i note)
    (below : i < length threads)
    (long : length notes ≡ length threads) where
  thread-at : get_or (zip threads notes) i (ls, note) ≡ (ls, note)
  thread-at = get_or-zip threads notes i (ls, note) below (omega (arith, below, long))
      ∙ (λ j. (sym lines j, sym noted j))

  within : i < length (zip threads notes)
  within = (let both = length-zip threads notes in omega (arith, both, below, long))

  -- what holds of each thread with its note holds of this one
  pub thread-All : (P : List Line × ThreadNote → Type 0) → All P (zip threads notes) → P (ls, note)
  thread-All P all = subst P thread-at (all i (ls, note) within)

  -- what the threads so far take was taken, and so was what this one takes
  pub thread-more : (f : List Line × ThreadNote → List Rec) (had mid has : List Rec → Type 0)
      → TakesMore had mid (flat_map f (take i (zip threads notes)))
      → TakesMore mid has (f (ls, note))
      → TakesMore had has (flat_map f (take (i + 1) (zip threads notes)))
  thread-more f had mid has so_far next =
      taken_more f had mid has (zip threads notes) i (ls, note) within so_far
      (subst (λ t. TakesMore mid has (f t)) (sym thread-at) next)

-- no thread is left
pub threads-end : (threads : List (List Line)) (notes : List ThreadNote) (i : ℕ)
    (f : List Line × ThreadNote → List Rec)
    (had has : List Rec → Type 0) → length threads ≤ i
    → TakesMore had has (flat_map f (take i (zip threads notes)))
    → TakesMore had has (flat_map f (zip threads notes))
threads-end threads notes i f had has past taken =
    let long = length-zip threads notes in
    let all : take i (zip threads notes) ≡ zip threads notes =
    take_all i (zip threads notes) (omega (arith, past, long)) in
    subst (λ ts. TakesMore had has (flat_map f ts)) all taken

-- ---- the lines of a thread

module _ (script : Script) (history : List Placed) where
  module _ (lines : List Line) (notes : List LineNote) (i : ℕ) (l : Line) (n : LineNote)
      (line : l ≡ get_or lines i l)
      (note : n ≡ get_or notes i n) (below : i < length lines)
      (long : length notes ≡ length lines) where
    -- one line more is taken off those that are left
    pub taken_from-drop : (channel : Channel) (state : ThreadState) (previous : ℕ)
        (taken all : List Rec)
        → taken ++ taken_from script history channel state previous (drop i (zip lines notes)) ≡ all
        → (taken ++ taken_in script history l n state channel previous)
        ++ taken_from script history channel (state_after script history l n state)
        (previous_after script history l n state channel previous) (drop (i + 1) (zip lines notes))
        ≡ all
    taken_from-drop channel state previous taken all so_far =
        append_assoc taken _ _
        ∙ ap (λ ls. taken ++ taken_from script history channel state previous ls)
        (sym (zip_next lines notes i l n line note below long))
        ∙ so_far

    pub order-drop : (before : ℕ) → SeesInOrder script history before (drop i (zip lines notes))
        → MaySee script history before l n
        × SeesInOrder script history n.seen (drop (i + 1) (zip lines notes))
    order-drop before order =
        subst (SeesInOrder script history before) (zip_next lines notes i l n line note below long)
        order

  -- a channel that takes a snapshot on none of these lines takes nothing of them
  none-taken : (channel : Channel) (state : ThreadState) (previous : ℕ)
      (ls : List (Line × LineNote)) → All (λ l. takes script channel l.0 ≡ false) ls
      → taken_from script history channel state previous ls ≡ []
  none-taken channel state previous [] none = refl
  none-taken channel state previous (l ∷ ls) none =
      let after = state_after script history l.0 l.1 state in
      let next = previous_after script history l.0 l.1 state channel previous in
      let accepted = is_accepted (found_reply script history l.0 l.1 state) in
      let one : List Rec = snapshot_of script
      (sight_after script history l.0 l.1 state previous) channel (operation_of l.0) ∷ [] in
      ap (λ (t : Bool). (if accepted && t then one else [])
      ++ taken_from script history channel after next ls) (none 0 l (omega arith))
      ∙ ap (λ (t : Bool). (if t then one else [])
      ++ taken_from script history channel after next ls) (and-false accepted)
      ∙ none-taken channel after next ls (λ k d below. none (suc k) d (omega (arith, below)))

  none-left : (channel : Channel) (lines : List Line) (notes : List LineNote) (i : ℕ)
      → ((k : ℕ) (d : Line) → i ≤ k → k < length lines
      → takes script channel (get_or lines k d) ≡ false)
      → All (λ l. takes script channel l.0 ≡ false) (drop i (zip lines notes))
  none-left channel lines notes i none k d below =
      let all = length-zip lines notes in
      let left = length-drop i (zip lines notes) in
      let at = get_or-drop i (zip lines notes) k d
      ∙ get_or-zip lines notes (i + k) d (omega (arith, all, left, below))
      (omega (arith, all, left, below)) in
      ap (λ (l : Line × LineNote). takes script channel l.0) at
      ∙ none (i + k) d.0 (omega arith) (omega (arith, all, left, below))

  -- no line is left on which the channel takes a snapshot
  pub taken_from-end : (lines : List Line) (notes : List LineNote) (i : ℕ) (channel : Channel)
      (state : ThreadState) (previous : ℕ)
      (had has : List Rec → Type 0) (taken all : List Rec)
      → ((k : ℕ) (d : Line) → i ≤ k → k < length lines
      → takes script channel (get_or lines k d) ≡ false)
      → taken ++ taken_from script history channel state previous (drop i (zip lines notes)) ≡ all
      → TakesMore had has taken → TakesMore had has all
  taken_from-end lines notes i channel state previous had has taken all none so_far took =
      let nothing = none-taken channel state previous (drop i (zip lines notes))
      (none-left channel lines notes i none) in
      subst (TakesMore had has)
      (sym (append-nil taken) ∙ ap (λ rs. taken ++ rs) (sym nothing) ∙ so_far) took

  seen-before-if : (p : Bool) (seen : ℕ) → (if p then seen - 1 else seen) ≤ seen
  seen-before-if true seen = omega arith
  seen-before-if false seen = omega arith

  -- what a line has seen before it is no more than what it has seen
  pub seen_before-within : (l : Line) (n : LineNote) → seen_before script history l n ≤ n.seen
  seen_before-within l n = seen-before-if (is_process_line script l) n.seen

  pub can_run : (thread : Thread) (before : ℕ) (l : Line) (n : LineNote)
      → thread.process.count ≤ before
      → MaySee script history before l n → CanRun script history thread l n
  can_run thread before l n count may = record {
    some = λ is. (let own = may.own is in omega (arith, own));
    more = by (is_process_line script l) may.own;
    within = may.within;
  }
    where
      by : (p : Bool) → (p ≡ true → before < n.seen)
          → thread.process.count ≤ (if p then n.seen - 1 else n.seen)
      by true own = (let less = own refl in omega (arith, less, count))
      by false own = (let rises = may.rises in omega (arith, rises, count))
