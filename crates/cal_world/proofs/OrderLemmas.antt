-- In the order of what lines have seen, each line is the next of its thread.
use Rattle.std.proofs.Common.{◌≡◌, ℕ, suc, zero, ◌+◌, ◌*◌, ◌<◌, ◌≤◌, Bool, true, false, List, []}
use Rattle.std.proofs.Common.{◌∷◌, ◌++◌, length, map, get_or, set, ap, subst, sym, refl, ◌∙◌, arith}
use Rattle.std.proofs.Common.{cond, append_assoc, append-nil, ⊎_elim}
use Rattle.std.specs.Prelude.{Some, filter, flat_map, not, nat_lt, option_and_then, slice_get, ◌==◌}
use Rattle.std.specs.Prelude.{◌&&◌}
use Rattle.std.proofs.lemmas.Bool.{cases_eq, cases_lt, cases_order, eq-eqb, le-ltb, lt-ltb, ne_eqb}
use Rattle.std.proofs.lemmas.List.{length-append, length_push, set_at}
use Rattle.std.proofs.lemmas.List.Elements.{filter-append}
use Rattle.std.proofs.Math.Seq.{get_or-append_seam}
use Rattle.cal_run.specs.Lines.{is_process_line}
use Rattle.cal_script.specs.declared.journal.Journal.{Journal}
use Rattle.cal_script.specs.declared.script.Script.{Script}
use Rattle.cal_world.proofs.EventLemmas.{LinesFollow, lines_behind, seam}
use Rattle.cal_world.specs.Progress.{turn_behind}
use Rattle.cal_world.specs.Turns.{has_seen, turns_by_seen, turns_by_thread}
use Rattle.cal_world.specs.declared.turn.Turn.{Turn}

-- ---- keys

and-yes : (b : Bool) → (b && true) ≡ b
and-yes true = refl
and-yes false = refl

and-no : (b : Bool) → (b && false) ≡ false
and-no true = refl
and-no false = refl

abbrev kind_if : (shared is : Bool) → Bool
kind_if true is = is
kind_if false is = not is

-- twice what a line has seen, and one more where it is no process line
abbrev pub key_if : (shared : Bool) → (seen : ℕ) → ℕ
key_if true seen = seen * 2
key_if false seen = seen * 2 + 1

-- numbers are equal where those made of them are
same-made : (s t a b : ℕ) → (s ≡ t → a ≡ b) → (a ≡ b → s ≡ t) → (s == t) ≡ (a == b)
same-made s t a b up down = ⊎_elim
    (λ e. eq-eqb s t e ∙ sym (eq-eqb a b (up e)))
    (λ n. ne_eqb s t n ∙ sym (ne_eqb a b (λ e. n (down e))))
    (cases_eq s t)

key-same : (shared is : Bool) (s t : ℕ) → ((s == t) && kind_if shared is)
    ≡ (key_if is s == key_if shared t)
key-same true true s t = and-yes (s == t)
    ∙ same-made s t (s * 2) (t * 2) (λ e. omega (arith, e)) (λ e. omega (arith, e))
key-same false false s t = and-yes (s == t)
    ∙ same-made s t (s * 2 + 1) (t * 2 + 1) (λ e. omega (arith, e)) (λ e. omega (arith, e))
key-same true false s t = and-no (s == t)
    ∙ sym (ne_eqb (s * 2 + 1) (t * 2) (λ e. omega (arith, e)))
key-same false true s t = and-no (s == t)
    ∙ sym (ne_eqb (s * 2) (t * 2 + 1) (λ e. omega (arith, e)))

module _ (script : Script) where
  abbrev pub key : Turn → ℕ
  key x = key_if (is_process_line script x.line) x.note.seen

  abbrev pub below_key : ℕ → Turn → Bool
  below_key k x = nat_lt (key x) k

  abbrev pub at_key : ℕ → Turn → Bool
  at_key k x = key x == k

  -- the keys of lines don't fall, and they rise to a process line
  abbrev pub Rises : ℕ → List Turn → Type 0
  Rises k [] = Unit {0}
  Rises k (x ∷ xs) = (k ≤ key x) × (is_process_line script x.line ≡ true → k < key x)
      × Rises (key x) xs

  abbrev pub below : ℕ → List Turn → List Turn
  below k xs = filter (below_key k) xs

  abbrev pub above : ℕ → List Turn → List Turn
  above k xs = filter (λ x. not (below_key k x)) xs

  abbrev pub keyed : ℕ → List Turn → List Turn
  keyed k xs = filter (at_key k) xs

  pub none-below : (k m : ℕ) (xs : List Turn) → k ≤ m → Rises m xs → below k xs ≡ []
  none-below k m [] less rises = refl
  none-below k m (x ∷ xs) less rises =
      let first = rises.0 in
      let past : k ≤ key x = omega (arith, less, first) in
      ap (λ b. cond b (x ∷ below k xs) (below k xs)) (le-ltb (key x) k past)
      ∙ none-below k (key x) xs past rises.2

  -- the lines below the next key are those below this one and those of this one
  pub below-next : (k m : ℕ) (xs : List Turn) → Rises m xs
      → below (k + 1) xs ≡ below k xs ++ keyed k xs
  below-next k m [] rises = refl
  below-next k m (x ∷ xs) rises =
      let rest : below (k + 1) xs ≡ below k xs ++ keyed k xs =
      below-next k (key x) xs rises.2 in
      ⊎_elim (equal rest) (⊎_elim (less rest) (more rest)) (cases_order (key x) k)
    where
      by : (next now here : Bool) → nat_lt (key x) (k + 1) ≡ next → nat_lt (key x) k ≡ now
          → (key x == k) ≡ here
          → cond next (x ∷ below (k + 1) xs) (below (k + 1) xs)
          ≡ cond now (x ∷ below k xs) (below k xs) ++ cond here (x ∷ keyed k xs) (keyed k xs)
          → below (k + 1) (x ∷ xs) ≡ below k (x ∷ xs) ++ keyed k (x ∷ xs)
      by next now here en eo eh e =
          (λ j. cond (en j) (x ∷ below (k + 1) xs) (below (k + 1) xs))
          ∙ e
          ∙ sym (λ j. cond (eo j) (x ∷ below k xs) (below k xs)
          ++ cond (eh j) (x ∷ keyed k xs) (keyed k xs))

      equal : below (k + 1) xs ≡ below k xs ++ keyed k xs → key x ≡ k
          → below (k + 1) (x ∷ xs) ≡ below k (x ∷ xs) ++ keyed k (x ∷ xs)
      equal rest e =
          let none : below k xs ≡ [] = none-below k (key x) xs (omega (arith, e)) rises.2 in
          by true false true (lt-ltb (key x) (k + 1) (omega (arith, e)))
          (le-ltb (key x) k (omega (arith, e))) (eq-eqb (key x) k e)
          (ap (λ ys. x ∷ ys) rest
          ∙ ap (λ ys. x ∷ (ys ++ keyed k xs)) none
          ∙ ap (λ ys. ys ++ x ∷ keyed k xs) (sym none))

      less : below (k + 1) xs ≡ below k xs ++ keyed k xs → key x < k
          → below (k + 1) (x ∷ xs) ≡ below k (x ∷ xs) ++ keyed k (x ∷ xs)
      less rest l = by true true false (lt-ltb (key x) (k + 1) (omega (arith, l)))
          (lt-ltb (key x) k l) (ne_eqb (key x) k (λ e. omega (arith, l, e)))
          (ap (λ ys. x ∷ ys) rest)

      more : below (k + 1) xs ≡ below k xs ++ keyed k xs → k < key x
          → below (k + 1) (x ∷ xs) ≡ below k (x ∷ xs) ++ keyed k (x ∷ xs)
      more rest m = by false false false (le-ltb (key x) (k + 1) (omega (arith, m)))
          (le-ltb (key x) k (omega (arith, m))) (ne_eqb (key x) k (λ e. omega (arith, m, e)))
          rest

  pub below-above : (k m : ℕ) (xs : List Turn) → Rises m xs → xs ≡ below k xs ++ above k xs
  below-above k m [] rises = refl
  below-above k m (x ∷ xs) rises =
      let rest : xs ≡ below k xs ++ above k xs = below-above k (key x) xs rises.2 in
      ⊎_elim (less rest) (past rest) (cases_lt (key x) k)
    where
      by : (now : Bool) → nat_lt (key x) k ≡ now
          → x ∷ xs ≡ cond now (x ∷ below k xs) (below k xs)
          ++ cond (not now) (x ∷ above k xs) (above k xs)
          → x ∷ xs ≡ below k (x ∷ xs) ++ above k (x ∷ xs)
      by now eo e = e ∙ sym (λ j. cond (eo j) (x ∷ below k xs) (below k xs)
          ++ cond (not (eo j)) (x ∷ above k xs) (above k xs))

      less : xs ≡ below k xs ++ above k xs → key x < k
          → x ∷ xs ≡ below k (x ∷ xs) ++ above k (x ∷ xs)
      less rest l = by true (lt-ltb (key x) k l) (ap (λ ys. x ∷ ys) rest)

      past : xs ≡ below k xs ++ above k xs → k ≤ key x
          → x ∷ xs ≡ below k (x ∷ xs) ++ above k (x ∷ xs)
      past rest p =
          let none : below k xs ≡ [] = none-below k (key x) xs p rises.2 in
          by false (le-ltb (key x) k p)
          (ap (λ ys. x ∷ ys) (rest ∙ ap (λ ys. ys ++ above k xs) none)
          ∙ ap (λ ys. ys ++ x ∷ above k xs) (sym none))

  -- so many of a thread's lines are below a key
  abbrev pub count_below : ℕ → List Turn → ℕ
  count_below k xs = length (below k xs)

  -- ---- the lines by keys

  abbrev pub by_key : List Turn → (k count : ℕ) → List Turn
  by_key ts k zero = []
  by_key ts k (suc count) = keyed k ts ++ by_key ts (k + 1) count

  pub seen-key : (shared : Bool) (seen : ℕ) (x : Turn)
      → has_seen script shared seen x ≡ at_key (key_if shared seen) x
  seen-key true seen x = key-same true (is_process_line script x.line) x.note.seen seen
  seen-key false seen x = key-same false (is_process_line script x.line) x.note.seen seen

  -- the lines that have seen so much are those of two keys
  pub seen-by_key : (ts : List Turn) (seen count : ℕ)
      → turns_by_seen script ts seen count ≡ by_key ts (seen * 2) (count * 2)
  seen-by_key ts seen zero = refl
  seen-by_key ts seen (suc count) =
      let twice : suc count * 2 ≡ suc (suc (count * 2)) = omega arith in
      let next : (seen + 1) * 2 ≡ seen * 2 + 1 + 1 = omega arith in
      let more : List Turn = by_key ts (seen * 2 + 1 + 1) (count * 2) in
      (λ j. (filter (λ x. seen-key true seen x j) ts ++ filter (λ x. seen-key false seen x j) ts)
      ++ seen-by_key ts (seen + 1) count j)
      ∙ ap (λ k. (keyed (seen * 2) ts ++ keyed (seen * 2 + 1) ts) ++ by_key ts k (count * 2)) next
      ∙ append_assoc (keyed (seen * 2) ts) (keyed (seen * 2 + 1) ts) more
      ∙ ap (by_key ts (seen * 2)) (sym twice)

-- ---- the lines of threads

-- lines of one thread
abbrev pub AreOf : ℕ → List Turn → Type 0
AreOf t [] = Unit {0}
AreOf t (x ∷ xs) = (x.thread ≡ t) × AreOf t xs

-- the lines of all threads, in order
abbrev pub all_of : List (List Turn) → List Turn
all_of lists = flat_map (λ (xs : List Turn). xs) lists

-- how many lines of each are below a key
abbrev pub counts_below : Script → ℕ → List (List Turn) → List ℕ
counts_below script k lists = map (count_below script k) lists

module _ (script : Script) (journal : Journal) where
  lines-append : (ns : List ℕ) (xs ys : List Turn) → LinesFollow script journal ns xs
      → LinesFollow script journal (lines_behind script journal ns xs) ys
      → LinesFollow script journal ns (xs ++ ys)
  lines-append ns [] ys one two = two
  lines-append ns (x ∷ xs) ys one two =
      (one.0, one.1, lines-append (set ns x.thread (get_or ns x.thread 0 + 1)) xs ys one.2 two)

  lines_behind-append : (ns : List ℕ) (xs ys : List Turn)
      → lines_behind script journal ns (xs ++ ys)
      ≡ lines_behind script journal (lines_behind script journal ns xs) ys
  lines_behind-append ns [] ys = refl
  lines_behind-append ns (x ∷ xs) ys =
      lines_behind-append (set ns x.thread (get_or ns x.thread 0 + 1)) xs ys

  -- lines run from so many of each thread to so many
  pub record LinesRun (ns : List ℕ) (xs : List Turn) (ms : List ℕ) : Type 0 where
    pub follow : LinesFollow script journal ns xs
    pub ends : lines_behind script journal ns xs ≡ ms

  pub lines_run-append : (ns ms os : List ℕ) (xs ys : List Turn) → LinesRun ns xs ms
      → LinesRun ms ys os → LinesRun ns (xs ++ ys) os
  lines_run-append ns ms os xs ys one two = record {
    follow = lines-append ns xs ys one.follow
        (subst (λ ks. LinesFollow script journal ks ys) (sym one.ends) two.follow);
    ends = lines_behind-append ns xs ys
        ∙ ap (λ ks. lines_behind script journal ks ys) one.ends ∙ two.ends;
  }

  kept-of : (test : Turn → Bool) (t : ℕ) (xs : List Turn) → AreOf t xs → AreOf t (filter test xs)
  kept-of test t [] of = tt
  kept-of test t (x ∷ xs) of = by (kept-of test t xs of.1) (test x)
    where
      by : AreOf t (filter test xs) → (b : Bool)
          → AreOf t (cond b (x ∷ filter test xs) (filter test xs))
      by rest true = (of.0, rest)
      by rest false = rest

  -- a part of a thread's lines, behind those before it
  block-run : (t : ℕ) (all front part back : List Turn) (pre rest : List ℕ)
      → all ≡ (front ++ part) ++ back → slice_get (turns_by_thread script journal) t ≡ Some all
      → AreOf t part → length pre ≡ t
      → LinesRun (pre ++ length front ∷ rest) part (pre ++ length (front ++ part) ∷ rest)
  block-run t all front [] back pre rest whole thread of long = record {
    follow = tt;
    ends = ap (λ ys. pre ++ length ys ∷ rest) (sym (append-nil front));
  }
  block-run t all front (x ∷ part) back pre rest whole thread of long =
      let ns : List ℕ = pre ++ length front ∷ rest in
      let is : x.thread ≡ t = of.0 in
      let inside : t < length ns =
      (let more = length-append pre (length front ∷ rest) in omega (arith, long, more)) in
      let reads : get_or ns t 0 ≡ length front =
      ap (λ i. get_or ns i 0) (sym long) ∙ get_or-append_seam pre (length front) rest 0 in
      let line : turn_behind script journal t (length front) ≡ Some x =
      ap (λ ts. option_and_then (λ (ys : List Turn). slice_get ys (length front)) ts) thread
      ∙ ap (λ (ys : List Turn). slice_get ys (length front))
      (whole ∙ append_assoc front (x ∷ part) back)
      ∙ seam front x (part ++ back) in
      let next : set ns x.thread (get_or ns x.thread 0 + 1)
      ≡ pre ++ length (front ++ x ∷ []) ∷ rest =
      ap (λ u. set ns u (get_or ns u 0 + 1)) is
      ∙ ap (λ n. set ns t (n + 1)) reads
      ∙ set_at pre (length front) rest (length front + 1) t long
      ∙ ap (λ n. pre ++ n ∷ rest) (sym (length_push front x)) in
      let more : LinesRun (pre ++ length (front ++ x ∷ []) ∷ rest) part
      (pre ++ length ((front ++ x ∷ []) ++ part) ∷ rest) =
      block-run t all (front ++ x ∷ []) part back pre rest
      (whole ∙ ap (λ ys. ys ++ back) (sym (append_assoc front (x ∷ []) part)))
      thread of.1 long in
      record {
        follow = (
          subst (λ u. u < length ns) (sym is) inside,
          ap (λ u. turn_behind script journal u (get_or ns u 0)) is
              ∙ ap (turn_behind script journal t) reads ∙ line,
          subst (λ ks. LinesFollow script journal ks part) (sym next) more.follow,
        );
        ends = ap (λ ks. lines_behind script journal ks part) next
            ∙ more.ends
            ∙ ap (λ ys. pre ++ length ys ∷ rest) (append_assoc front (x ∷ []) part);
      }

  -- these are the lines of the threads from one on
  abbrev pub AreThreads : ℕ → List (List Turn) → Type 0
  AreThreads t [] = Unit {0}
  AreThreads t (xs ∷ more) = (slice_get (turns_by_thread script journal) t ≡ Some xs)
      × Rises script 0 xs × AreOf t xs × AreThreads (t + 1) more

  -- the lines of one key, thread by thread
  round-run : (k t : ℕ) (lists : List (List Turn)) (pre : List ℕ) → AreThreads t lists
      → length pre ≡ t
      → LinesRun (pre ++ counts_below script k lists) (keyed script k (all_of lists))
      (pre ++ counts_below script (k + 1) lists)
  round-run k t [] pre are long = record { follow = tt; ends = refl }
  round-run k t (xs ∷ lists) pre are long =
      let next = below-next script k 0 xs are.1 in
      let whole : xs ≡ (below script k xs ++ keyed script k xs) ++ above script (k + 1) xs =
      below-above script (k + 1) 0 xs are.1 ∙ ap (λ ys. ys ++ above script (k + 1) xs) next in
      let n : ℕ = count_below script (k + 1) xs in
      let one : LinesRun (pre ++ count_below script k xs ∷ counts_below script k lists)
      (keyed script k xs) (pre ++ n ∷ counts_below script k lists) =
      subst (λ ys. LinesRun (pre ++ count_below script k xs ∷ counts_below script k lists)
      (keyed script k xs) (pre ++ length ys ∷ counts_below script k lists)) (sym next)
      (block-run t xs (below script k xs) (keyed script k xs) (above script (k + 1) xs) pre
      (counts_below script k lists) whole are.0 (kept-of (at_key script k) t xs are.2) long) in
      let two : LinesRun ((pre ++ n ∷ []) ++ counts_below script k lists)
      (keyed script k (all_of lists))
      ((pre ++ n ∷ []) ++ counts_below script (k + 1) lists) =
      round-run k (t + 1) lists (pre ++ n ∷ []) are.3 (length_push pre n ∙ ap (λ i. i + 1) long)
      in
      let both : LinesRun (pre ++ count_below script k xs ∷ counts_below script k lists)
      (keyed script k xs ++ keyed script k (all_of lists))
      (pre ++ n ∷ counts_below script (k + 1) lists) =
      lines_run-append _ (pre ++ n ∷ counts_below script k lists) _ (keyed script k xs)
      (keyed script k (all_of lists)) one
      (subst (λ ks. LinesRun ks (keyed script k (all_of lists))
      (pre ++ n ∷ counts_below script (k + 1) lists))
      (append_assoc pre (n ∷ []) (counts_below script k lists))
      (subst (λ ks. LinesRun ((pre ++ n ∷ []) ++ counts_below script k lists)
      (keyed script k (all_of lists)) ks)
      (append_assoc pre (n ∷ []) (counts_below script (k + 1) lists)) two)) in
      subst (λ ys. LinesRun (pre ++ count_below script k xs ∷ counts_below script k lists) ys
      (pre ++ n ∷ counts_below script (k + 1) lists))
      (sym (filter-append (at_key script k) xs (all_of lists))) both

  -- the lines of so many keys
  pub keys-run : (lists : List (List Turn)) → AreThreads 0 lists → (k count : ℕ)
      → LinesRun (counts_below script k lists) (by_key script (all_of lists) k count)
      (counts_below script (k + count) lists)
  keys-run lists are k zero = record {
    follow = tt;
    ends = ap (λ m. counts_below script m lists) (let e : k ≡ k + 0 = omega arith in e);
  }
  keys-run lists are k (suc count) =
      let e : k + 1 + count ≡ k + suc count = omega arith in
      lines_run-append (counts_below script k lists) (counts_below script (k + 1) lists) _
      (keyed script k (all_of lists)) (by_key script (all_of lists) (k + 1) count)
      (round-run k 0 lists [] are refl)
      (subst (λ m. LinesRun (counts_below script (k + 1) lists)
      (by_key script (all_of lists) (k + 1) count) (counts_below script m lists)) e
      (keys-run lists are (k + 1) count))
