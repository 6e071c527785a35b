-- Each place of the history is that of one process line.
use Rattle.std.proofs.Common.{◌≡◌, ℕ, suc, zero, ◌+◌, ◌-◌, ◌*◌, ◌<◌, ◌≤◌, Bool, true, false, List}
use Rattle.std.proofs.Common.{[]}
use Rattle.std.proofs.Common.{◌∷◌, ◌++◌, length, ap, subst, sym, refl, ◌∙◌, arith}
use Rattle.std.proofs.Common.{if◌then◌else◌, cond}
use Rattle.std.specs.Prelude.{Option, Some, None, filter_map, slice_get, zip, ◌==◌}
use Rattle.std.specs.List.{cons_option, enumerate_from}
use Rattle.std.proofs.lemmas.Bool.{eq-eqb, eqb-true, ne_eqb}
use Rattle.std.proofs.lemmas.List.Elements.{filter-append}
use Rattle.cal_run.specs.Lawful.{placed_of}
use Rattle.cal_run.specs.Lines.{is_process_line}
use Rattle.cal_script.specs.declared.journal.LineNote.{LineNote}
use Rattle.cal_script.specs.declared.journal.Placed.{Placed}
use Rattle.cal_script.specs.declared.script.Line.{Line}
use Rattle.cal_script.specs.declared.script.Script.{Script}
use Rattle.cal_world.proofs.OrderLemmas.{AreOf, Rises, all_of, at_key, key, key_if, keyed}
use Rattle.cal_world.specs.Turns.{turns_from}
use Rattle.cal_world.specs.declared.turn.Turn.{Turn}

-- ---- a line stands at one place

-- numbers rise, from this one on
abbrev pub NumbersRise : ℕ → List ℕ → Type 0
NumbersRise n [] = Unit {0}
NumbersRise n (v ∷ vs) = (n ≤ v) × NumbersRise (v + 1) vs

rise-sooner : (m n : ℕ) (vs : List ℕ) → m ≤ n → NumbersRise n vs → NumbersRise m vs
rise-sooner m n [] less rise = tt
rise-sooner m n (v ∷ vs) less rise = ((let first = rise.0 in omega (arith, less, first)), rise.1)

abbrev number_if : Script → ℕ × Line → Option ℕ
number_if script l = if is_process_line script l.1 then Some l.0 else None

pub process-rise : (script : Script) (n : ℕ) (ls : List Line)
    → NumbersRise n (filter_map (number_if script) (enumerate_from n ls))
process-rise script n [] = tt
process-rise script n (l ∷ ls) = by (process-rise script (n + 1) ls) (is_process_line script l)
  where
    by : NumbersRise (n + 1) (filter_map (number_if script) (enumerate_from (n + 1) ls))
        → (b : Bool) → NumbersRise n (cons_option (if b then Some n else None)
        (filter_map (number_if script) (enumerate_from (n + 1) ls)))
    by rest true = (omega arith, rest)
    by rest false = rise-sooner n (n + 1) _ (omega arith) rest

abbrev line_if : ℕ → Placed → Option ℕ
line_if t p = if p.thread == t then Some p.line else None

module _ (t : ℕ) (p : Placed) (of : p.thread ≡ t) where
  -- an operation behind others of its thread has a number above theirs
  not-sooner : (n : ℕ) (ops : List Placed) (i : ℕ) → NumbersRise n (placed_of t ops)
      → slice_get ops i ≡ Some p → n ≤ p.line
  not-sooner n [] i rise is = absurd (let no : None ≡ Some p = is in cc)
  not-sooner n (q ∷ ops) zero rise is =
      let same : q ≡ p = (let e : Some q ≡ Some p = is in cc) in
      let yes : (q.thread == t) ≡ true = eq-eqb q.thread t (ap (λ (o : Placed). o.thread) same ∙ of)
      in
      let here : NumbersRise n (q.line ∷ placed_of t ops) =
      subst (λ (b : Bool). NumbersRise n (cons_option (if b then Some q.line else None)
      (placed_of t ops))) yes rise in
      let less : n ≤ q.line = here.0 in
      subst (λ (o : Placed). n ≤ o.line) same less
  not-sooner n (q ∷ ops) (suc i) rise is =
      by (λ m up. not-sooner m ops i up is) (q.thread == t) rise
    where
      by : ((m : ℕ) → NumbersRise m (placed_of t ops) → m ≤ p.line) → (b : Bool)
          → NumbersRise n (cons_option (if b then Some q.line else None) (placed_of t ops))
          → n ≤ p.line
      by rest true up = (let less = up.0 in let more = rest (q.line + 1) up.1 in omega
          (arith, less, more))
      by rest false up = rest n up

  first-only : (n : ℕ) (ops : List Placed) (i : ℕ) → NumbersRise n (placed_of t (p ∷ ops))
      → slice_get ops i ≡ Some p → ⊥
  first-only n ops i rise is =
      let yes : (p.thread == t) ≡ true = eq-eqb p.thread t of in
      let here : NumbersRise n (p.line ∷ placed_of t ops) =
      subst (λ (b : Bool). NumbersRise n (cons_option (if b then Some p.line else None)
      (placed_of t ops))) yes rise in
      let more : p.line + 1 ≤ p.line = not-sooner (p.line + 1) ops i here.1 is in
      omega (arith, more)

  pub one-place : (n : ℕ) (ops : List Placed) (i j : ℕ) → NumbersRise n (placed_of t ops)
      → slice_get ops i ≡ Some p → slice_get ops j ≡ Some p → i ≡ j
  one-place n [] i j rise a b = absurd (let no : None ≡ Some p = a in cc)
  one-place n (q ∷ ops) zero zero rise a b = refl
  one-place n (q ∷ ops) zero (suc j) rise a b =
      let same : q ≡ p = (let e : Some q ≡ Some p = a in cc) in
      absurd (first-only n ops j
      (subst (λ (o : Placed). NumbersRise n (placed_of t (o ∷ ops))) same rise) b)
  one-place n (q ∷ ops) (suc i) zero rise a b =
      let same : q ≡ p = (let e : Some q ≡ Some p = b in cc) in
      absurd (first-only n ops i
      (subst (λ (o : Placed). NumbersRise n (placed_of t (o ∷ ops))) same rise) a)
  one-place n (q ∷ ops) (suc i) (suc j) rise a b =
      ap suc (by (λ m up. one-place m ops i j up a b) (q.thread == t) rise)
    where
      by : ((m : ℕ) → NumbersRise m (placed_of t ops) → i ≡ j) → (c : Bool)
          → NumbersRise n (cons_option (if c then Some q.line else None) (placed_of t ops))
          → i ≡ j
      by rest true up = rest (q.line + 1) up.1
      by rest false up = rest n up

-- ---- the lines of a key

-- a line of a thread, by its place
pub record TurnAt (t n i : ℕ) (l : Line) (ts : List Turn) : Type 0 where
  pub turn : Turn
  pub there : slice_get ts i ≡ Some turn
  pub line : turn.line ≡ l
  pub thread : turn.thread ≡ t
  pub number : turn.number ≡ n + i

pub turn-at : (t n before i : ℕ) (ls : List Line) (ns : List LineNote) (l : Line)
    → slice_get ls i ≡ Some l → length ns ≡ length ls
    → TurnAt t n i l (turns_from t n before (zip ls ns))
turn-at t n before i [] ns l is long = absurd (let no : None ≡ Some l = is in cc)
turn-at t n before i (k ∷ ls) [] l is long = absurd (omega (arith, long))
turn-at t n before zero (k ∷ ls) (m ∷ ns) l is long = record {
  turn = record { thread = t; number = n; line = k; note = m; before = before };
  there = refl;
  line = (let e : Some k ≡ Some l = is in cc);
  thread = refl;
  number = omega arith;
}
turn-at t n before (suc i) (k ∷ ls) (m ∷ ns) l is long =
    let rest = turn-at t (n + 1) m.seen i ls ns l is (omega (arith, long)) in
    let number = rest.number in
    record {
      turn = rest.turn;
      there = rest.there;
      line = rest.line;
      thread = rest.thread;
      number = omega (arith, number);
    }

-- a line has seen its own place
pub record HasPlace (ops : List Placed) (x : Turn) : Type 0 where
  pub some : 0 < x.note.seen
  pub place : slice_get ops (x.note.seen - 1) ≡ Some (record { thread = x.thread; line = x.number })

module _ (script : Script) where
  -- a line whose key is even is a process line
  pub even-shared : (x : Turn) (s : ℕ) → key script x ≡ s * 2
      → (is_process_line script x.line ≡ true) × (x.note.seen ≡ s)
  even-shared x s = by (is_process_line script x.line)
    where
      by : (b : Bool) → key_if b x.note.seen ≡ s * 2 → (b ≡ true) × (x.note.seen ≡ s)
      by true e = (refl, omega (arith, e))
      by false e = absurd (omega (arith, e))

  -- behind such a key there is no other line of it
  none-behind : (s m : ℕ) (xs : List Turn) → s * 2 ≤ m → Rises script m xs
      → keyed script (s * 2) xs ≡ []
  none-behind s m [] less rises = refl
  none-behind s m (x ∷ xs) less rises =
      let first = rises.0 in
      let no : (key script x == s * 2) ≡ false =
      ne_eqb (key script x) (s * 2) (λ e. let up = rises.1 (even-shared x s e).0 in omega
      (arith, e, less, up)) in
      ap (λ b. cond b (x ∷ keyed script (s * 2) xs) (keyed script (s * 2) xs)) no
      ∙ none-behind s (key script x) xs (omega (arith, less, first)) rises.2

  pub none-first : (xs : List Turn) → Rises script 0 xs → keyed script 0 xs ≡ []
  none-first xs rises = none-behind 0 0 xs (omega arith) rises

  pub one-keyed : (s m i : ℕ) (xs : List Turn) (x : Turn) → Rises script m xs
      → slice_get xs i ≡ Some x → key script x ≡ s * 2 → keyed script (s * 2) xs ≡ x ∷ []
  one-keyed s m i [] x rises is e = absurd (let no : None ≡ Some x = is in cc)
  one-keyed s m zero (y ∷ xs) x rises is e =
      let same : y ≡ x = (let f : Some y ≡ Some x = is in cc) in
      let ey : key script y ≡ s * 2 = ap (key script) same ∙ e in
      ap (λ b. cond b (y ∷ keyed script (s * 2) xs) (keyed script (s * 2) xs))
      (eq-eqb (key script y) (s * 2) ey)
      ∙ ap (λ ys. y ∷ ys) (none-behind s (key script y) xs (omega (arith, ey)) rises.2)
      ∙ ap (λ z. z ∷ []) same
  one-keyed s m (suc i) (y ∷ xs) x rises is e =
      by (one-keyed s (key script y) i xs x rises.2 is e) (key script y == s * 2) refl
    where
      by : keyed script (s * 2) xs ≡ x ∷ [] → (b : Bool) → (key script y == s * 2) ≡ b
          → keyed script (s * 2) (y ∷ xs) ≡ x ∷ []
      by rest true eb =
          let ey : key script y ≡ s * 2 = eqb-true (key script y) (s * 2) eb in
          let none = none-behind s (key script y) xs (omega (arith, ey)) rises.2 in
          absurd (let no : [] ≡ x ∷ [] = sym none ∙ rest in cc)
      by rest false eb = ap (λ b. cond b (y ∷ keyed script (s * 2) xs) (keyed script (s * 2) xs)) eb
          ∙ rest

  -- ---- over all threads

  -- process lines have seen their own places
  abbrev pub OwnPlaces : List Placed → List Turn → Type 0
  OwnPlaces ops [] = Unit {0}
  OwnPlaces ops (x ∷ xs) = (is_process_line script x.line ≡ true → HasPlace ops x)
      × OwnPlaces ops xs

  pub own-at : (ops : List Placed) (i : ℕ) (xs : List Turn) (x : Turn) → OwnPlaces ops xs
      → slice_get xs i ≡ Some x → is_process_line script x.line ≡ true → HasPlace ops x
  own-at ops i [] x own there shared = absurd (let no : None ≡ Some x = there in cc)
  own-at ops zero (y ∷ xs) x own there shared =
      let same : y ≡ x = (let e : Some y ≡ Some x = there in cc) in
      subst (HasPlace ops) same
      (own.0 (ap (λ (z : Turn). is_process_line script z.line) same ∙ shared))
  own-at ops (suc i) (y ∷ xs) x own there shared = own-at ops i xs x own.1 there shared

  -- a thread other than that of a place has no line of its key
  none-other : (ops : List Placed) (s u : ℕ) (p : Placed) (xs : List Turn) → ¬ (p.thread ≡ u)
      → slice_get ops (s - 1) ≡ Some p → AreOf u xs → OwnPlaces ops xs
      → keyed script (s * 2) xs ≡ []
  none-other ops s u p [] other is of own = refl
  none-other ops s u p (x ∷ xs) other is of own =
      let no : (key script x == s * 2) ≡ false =
      ne_eqb (key script x) (s * 2) (λ e.
      let so = even-shared x s e in
      let place : slice_get ops (s - 1) ≡ Some (record { thread = x.thread; line = x.number }) =
      ap (λ k. slice_get ops (k - 1)) (sym so.1) ∙ (own.0 so.0).place in
      let same : Some p ≡ Some (record { thread = x.thread; line = x.number }) = sym is ∙ place in
      let thread : p.thread ≡ x.thread = cc in
      other (thread ∙ of.0)) in
      ap (λ b. cond b (x ∷ keyed script (s * 2) xs) (keyed script (s * 2) xs)) no
      ∙ none-other ops s u p xs other is of.1 own.1

  -- the lines of threads from one on, as far as the history needs them
  abbrev pub ArePlaced : List Placed → ℕ → List (List Turn) → Type 0
  ArePlaced ops t [] = Unit {0}
  ArePlaced ops t (xs ∷ more) = Rises script 0 xs × AreOf t xs × OwnPlaces ops xs
      × ArePlaced ops (t + 1) more

  none-later : (ops : List Placed) (s t : ℕ) (p : Placed) (lists : List (List Turn)) → p.thread < t
      → slice_get ops (s - 1) ≡ Some p → ArePlaced ops t lists
      → keyed script (s * 2) (all_of lists) ≡ []
  none-later ops s t p [] less is are = refl
  none-later ops s t p (xs ∷ lists) less is are =
      filter-append (at_key script (s * 2)) xs (all_of lists)
      ∙ (λ j. none-other ops s t p xs (λ e. omega (arith, e, less)) is are.1 are.2 j
      ++ none-later ops s (t + 1) p lists (omega (arith, less)) is are.3 j)

  pub one-of_all : (ops : List Placed) (s t i : ℕ) (p : Placed) (lists : List (List Turn))
      (all : List Turn) (place : ℕ) (x : Turn) → slice_get ops (s - 1) ≡ Some p
      → p.thread ≡ t + i → ArePlaced ops t lists → slice_get lists i ≡ Some all
      → slice_get all place ≡ Some x → key script x ≡ s * 2
      → keyed script (s * 2) (all_of lists) ≡ x ∷ []
  one-of_all ops s t i p [] all place x is thread are list there e =
      absurd (let no : None ≡ Some all = list in cc)
  one-of_all ops s t zero p (xs ∷ lists) all place x is thread are list there e =
      let same : xs ≡ all = (let f : Some xs ≡ Some all = list in cc) in
      filter-append (at_key script (s * 2)) xs (all_of lists)
      ∙ (λ j. one-keyed s 0 place xs x are.0
      (ap (λ (ys : List Turn). slice_get ys place) same ∙ there) e j
      ++ none-later ops s (t + 1) p lists (omega (arith, thread)) is are.3 j)
  one-of_all ops s t (suc i) p (xs ∷ lists) all place x is thread are list there e =
      filter-append (at_key script (s * 2)) xs (all_of lists)
      ∙ (λ j. none-other ops s t p xs (λ f. omega (arith, f, thread)) is are.1 are.2 j
      ++ one-of_all ops s (t + 1) i p lists all place x is (omega (arith, thread)) are.3 list there
      e j)

  pub none-of_all : (ops : List Placed) (t : ℕ) (lists : List (List Turn)) → ArePlaced ops t lists
      → keyed script 0 (all_of lists) ≡ []
  none-of_all ops t [] are = refl
  none-of_all ops t (xs ∷ lists) are =
      filter-append (at_key script 0) xs (all_of lists)
      ∙ (λ j. none-first xs are.0 j ++ none-of_all ops (t + 1) lists are.3 j)

  pub placed-at : (ops : List Placed) (t i : ℕ) (lists : List (List Turn)) (xs : List Turn)
      → ArePlaced ops t lists → slice_get lists i ≡ Some xs → OwnPlaces ops xs
  placed-at ops t i [] xs are there = absurd (let no : None ≡ Some xs = there in cc)
  placed-at ops t zero (ys ∷ lists) xs are there =
      subst (OwnPlaces ops) (let e : Some ys ≡ Some xs = there in cc) are.2
  placed-at ops t (suc i) (ys ∷ lists) xs are there = placed-at ops (t + 1) i lists xs are.3 there
