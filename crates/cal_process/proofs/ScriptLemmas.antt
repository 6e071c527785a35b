-- The operations of a script's process lines.
use Rattle.std.proofs.Common.{◌≡◌, ℕ, zero, suc, ◌+◌, ◌-◌, ◌<◌, ◌≤◌, ◌==◌, List, [], ◌∷◌, ◌++◌, length}
use Rattle.std.proofs.Common.{append-nil, get_or, Bool, true, false, if◌then◌else◌, refl, sym, ap, ◌∙◌, subst}
use Rattle.std.proofs.Common.{arith, inl, inr, ◌⊎◌}
use Rattle.std.specs.Prelude.{Option, Some, None, slice_get, slice_index_or, option_and_then}
use Rattle.std.specs.Prelude.{option_map, option_to_list}
use Rattle.std.specs.List.{All, Contains}
use Rattle.std.proofs.lemmas.Bool.{cases_lt, ne_eqb}
use Rattle.std.proofs.lemmas.List.Elements.{All-push, Contains-append_right}
use Rattle.std.proofs.lemmas.Option.{slice_get-get_or, slice_get_within}
use Rattle.cal_process.specs.Operations.{IsOpOf, op_of_line, operation_in, record_of}
use Rattle.cal_run.specs.Lawful.{names_process_line}
use Rattle.cal_run.specs.Lines.{is_process_line, is_shared, is_such, line_at, operation_of}
use Rattle.cal_run.specs.declared.operation.Operation.{Operation}
use Rattle.cal_script.specs.declared.script.Line.{Line}
use Rattle.cal_script.specs.declared.script.Script.{Script}
use Rattle.cal_words.specs.declared.op.OpRec.{OpRec}

-- the record of a line is that of its operation
op-record : (script : Script) (thread number : ℕ) (process : Bool) (found : Option Operation)
    (op : OpRec)
    → (if process then option_map (record_of thread number) found else None) ≡ Some op
    → (process ≡ true) × (found ≡ Some (operation_in op)) × (op.thread ≡ thread)
    × (op.line ≡ number)
op-record script thread number true (Some o) op is = (
  refl,
  (let e : record_of thread number o ≡ op = cc in ap (λ (x : OpRec). Some (operation_in x)) e),
  (let e : record_of thread number o ≡ op = cc in sym (ap (λ (x : OpRec). x.thread) e)),
  (let e : record_of thread number o ≡ op = cc in sym (ap (λ (x : OpRec). x.line) e)),
)
op-record script thread number true None op is = absurd cc
op-record script thread number false found op is = absurd cc

unless-some : {A : Type 0} (b : Bool) (x : A) → (if b then Some x else None) ≡ None → b ≡ false
unless-some true x none = absurd cc
unless-some false x none = refl

module _ (script : Script) where
  -- the operation of a process line is that of the line at its place
  pub op-is : (thread number : ℕ) (l : Line) (op : OpRec) → line_at script thread number ≡ Some l
      → op_of_line script thread number l ≡ Some op → IsOpOf script op
  op-is thread number l op at is =
      let r = op-record script thread number (is_process_line script l) (operation_of l) op is in
      let there : line_at script op.thread op.line ≡ Some l =
      (λ j. line_at script (r.2 j) (r.3 j)) ∙ at in
      record {
        known = ap (names_process_line script) there ∙ r.0;
        does = ap (option_and_then operation_of) there ∙ r.1;
      }

  pub some-shared : (thread number : ℕ) (l : Line) (op : OpRec)
      → op_of_line script thread number l ≡ Some op
      → (is_process_line script l ≡ true) × (op.thread ≡ thread) × (op.line ≡ number)
  some-shared thread number l op is =
      let r = op-record script thread number (is_process_line script l) (operation_of l) op is in
      (r.0, r.2, r.3)

  -- a line that has none is its thread's own
  pub none-own : (thread number : ℕ) (l : Line) → op_of_line script thread number l ≡ None
      → is_process_line script l ≡ false
  none-own thread number l is = by (operation_of l) is
    where
      by : (found : Option Operation)
          → (if is_such (is_shared script) found then option_map (record_of thread number) found
          else None) ≡ None → is_such (is_shared script) found ≡ false
      by None none = refl
      by (Some op) none = unless-some (is_shared script op) (record_of thread number op) none

  unless-zero : (b : Bool) (o p : Option Line) → b ≡ false → o ≡ p
      → (if b then None else o) ≡ p
  unless-zero true o p e is = absurd cc
  unless-zero false o p e is = is

  -- the line at a place of a thread
  pub line-there : (thread place : ℕ) (ls : List Line) (l : Line)
      → slice_index_or script.threads thread [] ≡ ls → place < length ls
      → l ≡ get_or ls place l → line_at script thread (place + 1) ≡ Some l
  line-there thread place ls l of_thread less is =
      let back : place + 1 - 1 ≡ place = omega arith in
      unless-zero (place + 1 == 0) (slice_get (slice_index_or script.threads thread [])
      (place + 1 - 1)) (Some l) (ne_eqb (place + 1) 0 (λ e. omega (arith, e)))
      ((λ j. slice_get (of_thread j) (back j)) ∙ slice_get-get_or ls place l less
      ∙ ap (λ x. Some x) (sym is))

  some-there : (b : Bool) (o : Option Line) (l : Line) → (if b then None else o) ≡ Some l
      → (b ≡ false) × (o ≡ Some l)
  some-there true o l is = absurd cc
  some-there false o l is = (refl, is)

  -- a line that is there has a number of its thread
  pub line-within : (thread number : ℕ) (l : Line) → line_at script thread number ≡ Some l
      → (0 < number) × (number ≤ length (slice_index_or script.threads thread []))
  line-within thread number l is =
      let ls = slice_index_or script.threads thread [] in
      let s = some-there (number == 0) (slice_get ls (number - 1)) l is in
      let below = slice_get_within ls (number - 1) l s.1 in
      let some : 0 < number = not-zero number s.0 in
      (some, omega (arith, below, some))
    where
      not-zero : (n : ℕ) → (n == 0) ≡ false → 0 < n
      not-zero zero e = absurd cc
      not-zero (suc n) e = omega arith

  -- and its thread is one of the script's
  pub thread-within : (thread number : ℕ) (l : Line) → line_at script thread number ≡ Some l
      → thread < length script.threads
  thread-within thread number l is = by (cases_lt thread (length script.threads))
    where
      past : (ts : List (List Line)) (i : ℕ) → length ts ≤ i → slice_index_or ts i [] ≡ []
      past [] i more = refl
      past (t ∷ ts) zero more = absurd (omega (arith, more))
      past (t ∷ ts) (suc i) more = past ts i (omega (arith, more))

      by : (thread < length script.threads) ⊎ (length script.threads ≤ thread)
          → thread < length script.threads
      by (inl less) = less
      by (inr more) =
          let w = line-within thread number l is in
          let none = ap length (past script.threads thread more) in
          absurd (omega (arith, w.0, w.1, none))

  -- one line has one operation
  pub one-op : (thread number : ℕ) (l m : Line) (op : OpRec)
      → line_at script thread number ≡ Some l → line_at script thread number ≡ Some m
      → op_of_line script thread number l ≡ Some op → op_of_line script thread number m ≡ Some op
  one-op thread number l m op at there is =
      let e : l ≡ m = cc in ap (op_of_line script thread number) (sym e) ∙ is

-- what is added behind operations
pub All-option : {A : Type 0} (P : A → Type 0) (xs : List A) (o : Option A)
    → ((x : A) → o ≡ Some x → P x) → All P xs → All P (xs ++ option_to_list o)
All-option P xs None right all = subst (All P) (sym (append-nil xs)) all
All-option P xs (Some x) right all = All-push P xs x all (right x refl)

pub Contains-option : {A : Type 0} (xs : List A) (o : Option A) (x : A) → o ≡ Some x
    → Contains (xs ++ option_to_list o) x
Contains-option xs o x is = subst (λ p. Contains (xs ++ option_to_list p) x) (sym is)
    (Contains-append_right xs (x ∷ []) x here)
  where
    here : Contains (x ∷ []) x
    here = (0, omega arith, refl)
