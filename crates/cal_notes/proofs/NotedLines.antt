-- The lines of a thread with their notes, and those of all threads.
use Rattle.std.proofs.Common.{◌≡◌, ℕ, suc, zero, ◌+◌, ◌<◌, List, [], ◌∷◌, length, get_or}
use Rattle.std.proofs.Common.{refl, sym, ap, subst, arith}
use Rattle.std.specs.Prelude.{Some, flat_map, slice_get, zip}
use Rattle.std.specs.List.{All, AllZip, Contains, enumerate_from}
use Rattle.std.proofs.lemmas.List.Elements.{All-append, All-cons, All-nil, All-weaker}
use Rattle.std.proofs.lemmas.List.Elements.{Contains-append_left, Contains-append_right}
use Rattle.cal_run.specs.Lawful.{NotedLine, noted_from, noted_of}
use Rattle.cal_run.specs.Steps.{ThreadState, state_after}
use Rattle.cal_script.specs.declared.journal.LineNote.{LineNote}
use Rattle.cal_script.specs.declared.journal.Placed.{Placed}
use Rattle.cal_script.specs.declared.journal.ThreadNote.{ThreadNote}
use Rattle.cal_script.specs.declared.script.Line.{Line}
use Rattle.cal_script.specs.declared.script.Script.{Script}

-- ---- lists place by place

same_some : {A : Type 0} (x y : A) → Some x ≡ Some y → x ≡ y
same_some x y e = cc

module _ {A B : Type 0} where
  pub slice_get-zip : (xs : List A) (ys : List B) (i : ℕ) (t : A × B)
      → slice_get (zip xs ys) i ≡ Some t
      → (slice_get xs i ≡ Some t.0) × (slice_get ys i ≡ Some t.1)
  slice_get-zip [] ys i t is = absurd cc
  slice_get-zip (x ∷ xs) [] i t is = absurd cc
  slice_get-zip (x ∷ xs) (y ∷ ys) zero t is =
      let e : (x, y) ≡ t = same_some (x, y) t is in
      ((λ j. Some (e j).0), (λ j. Some (e j).1))
  slice_get-zip (x ∷ xs) (y ∷ ys) (suc i) t is = slice_get-zip xs ys i t is

  -- and the other way round
  pub zip-slice_get : (xs : List A) (ys : List B) (i : ℕ) (x : A) (y : B) → slice_get xs i ≡ Some x
      → slice_get ys i ≡ Some y → slice_get (zip xs ys) i ≡ Some (x, y)
  zip-slice_get [] ys i x y ex ey = absurd cc
  zip-slice_get (u ∷ xs) [] i x y ex ey = absurd cc
  zip-slice_get (u ∷ xs) (v ∷ ys) zero x y ex ey =
      let e : u ≡ x = same_some u x ex in
      let f : v ≡ y = same_some v y ey in
      λ j. Some (e j, f j)
  zip-slice_get (u ∷ xs) (v ∷ ys) (suc i) x y ex ey = zip-slice_get xs ys i x y ex ey

  -- what holds at each place holds of both lists
  pub all_zip-from : (R : A → B → Type 0) (xs : List A) (ys : List B) → length ys ≡ length xs
      → ((i : ℕ) (x : A) (y : B) → slice_get xs i ≡ Some x → slice_get ys i ≡ Some y → R x y)
      → AllZip R xs ys
  all_zip-from R [] [] long each = tt
  all_zip-from R [] (y ∷ ys) long each = absurd (omega (arith, long))
  all_zip-from R (x ∷ xs) [] long each = absurd (omega (arith, long))
  all_zip-from R (x ∷ xs) (y ∷ ys) long each =
      (each 0 x y refl refl, all_zip-from R xs ys (omega (arith, long)) (λ i. each (suc i)))

-- ---- the lines of a thread and of all threads

module _ (script : Script) (h : List Placed) where
  -- a line of a thread comes from its lines and notes
  pub record IsFrom (thread : ℕ) (ls : List (Line × LineNote)) (n : NotedLine)
      : Type 0 where
    pub thread_is : n.thread ≡ thread
    pub there : Contains ls (n.line, n.note)

  pub lines-from : (thread number before : ℕ) (state : ThreadState)
      (ls : List (Line × LineNote))
      → All (IsFrom thread ls) (noted_from script h thread number before state ls)
  lines-from thread number before state [] = All-nil (IsFrom thread [])
  lines-from thread number before state (l ∷ ls) =
      let after : ThreadState = state_after script h l.0 l.1 state in
      let rest : List NotedLine = noted_from script h thread (number + 1) l.1.seen after ls in
      All-cons (IsFrom thread (l ∷ ls)) (record {
        thread = thread;
        number = number;
        line = l.0;
        note = l.1;
        before = before;
        state = state;
      }) rest
      (record { thread_is = refl; there = (0, omega arith, refl) })
      (All-weaker (IsFrom thread ls) (IsFrom thread (l ∷ ls)) (λ n is. record {
        thread_is = is.thread_is;
        there = Contains-append_right (l ∷ []) ls (n.line, n.note) is.there;
      }) rest (lines-from thread (number + 1) l.1.seen after ls))

  -- and each of these is a line of the thread
  pub record HasLine (thread : ℕ) (l : Line × LineNote) (ns : List NotedLine) : Type 0 where
    pub noted : NotedLine
    pub there : Contains ns noted
    pub thread_is : noted.thread ≡ thread
    pub line_is : noted.line ≡ l.0
    pub note_is : noted.note ≡ l.1

  pub has-line : (thread number before : ℕ) (state : ThreadState) (ls : List (Line × LineNote))
      (k : ℕ) (l : Line × LineNote) → k < length ls → get_or ls k l ≡ l
      → HasLine thread l (noted_from script h thread number before state ls)
  has-line thread number before state [] k l below at = absurd (omega (arith, below))
  has-line thread number before state (m ∷ ls) zero l below at = record {
    noted = record {
      thread = thread;
      number = number;
      line = m.0;
      note = m.1;
      before = before;
      state = state;
    };
    there = (0, omega arith, refl);
    thread_is = refl;
    line_is = ap (λ (x : Line × LineNote). x.0) at;
    note_is = ap (λ (x : Line × LineNote). x.1) at;
  }
  has-line thread number before state (m ∷ ls) (suc k) l below at =
      let after : ThreadState = state_after script h m.0 m.1 state in
      let first : NotedLine = record {
        thread = thread;
        number = number;
        line = m.0;
        note = m.1;
        before = before;
        state = state;
      } in
      let rest : List NotedLine = noted_from script h thread (number + 1) m.1.seen after ls in
      let more = has-line thread (number + 1) m.1.seen after ls k l (omega (arith, below)) at in
      record {
        noted = more.noted;
        there = Contains-append_right (first ∷ []) rest more.noted more.there;
        thread_is = more.thread_is;
        line_is = more.line_is;
        note_is = more.note_is;
      }

  -- what holds of the lines of each thread holds of all lines
  pub all-noted : (P : NotedLine → Type 0) (k : ℕ) (ts : List (List Line × ThreadNote))
      → ((i : ℕ) (t : List Line × ThreadNote) → slice_get ts i ≡ Some t
      → All P (noted_of script h (k + i, t)))
      → All P (flat_map (noted_of script h) (enumerate_from k ts))
  all-noted P k [] each = All-nil P
  all-noted P k (t ∷ ts) each =
      All-append P (noted_of script h (k, t))
      (flat_map (noted_of script h) (enumerate_from (k + 1) ts))
      (subst (λ m. All P (noted_of script h (m, t))) (let e : k + 0 ≡ k = omega arith in e)
      (each 0 t refl))
      (all-noted P (k + 1) ts (λ i u is. subst (λ m. All P (noted_of script h (m, u)))
      (let e : k + suc i ≡ k + 1 + i = omega arith in e) (each (suc i) u is)))

  -- a line of a thread is among all lines
  pub among-all : (k i : ℕ) (ts : List (List Line × ThreadNote))
      (t : List Line × ThreadNote) (n : NotedLine) → slice_get ts i ≡ Some t
      → Contains (noted_of script h (k + i, t)) n
      → Contains (flat_map (noted_of script h) (enumerate_from k ts)) n
  among-all k i [] t n is there = absurd cc
  among-all k zero (u ∷ ts) t n is there =
      Contains-append_left (noted_of script h (k, u))
      (flat_map (noted_of script h) (enumerate_from (k + 1) ts)) n
      (subst (λ (x : ℕ × (List Line × ThreadNote)). Contains (noted_of script h x) n)
      (let e : k + 0 ≡ k = omega arith in
      let f : t ≡ u = sym (same_some u t is) in λ j. (e j, f j)) there)
  among-all k (suc i) (u ∷ ts) t n is there =
      Contains-append_right (noted_of script h (k, u))
      (flat_map (noted_of script h) (enumerate_from (k + 1) ts)) n
      (among-all (k + 1) i ts t n is
      (subst (λ m. Contains (noted_of script h (m, t)) n)
      (let e : k + suc i ≡ k + 1 + i = omega arith in e) there))
