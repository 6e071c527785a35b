-- The history's order: what is placed of each thread, by counts.
use Rattle.std.proofs.Common.{◌≡◌, ℕ, suc, zero, ◌+◌, ◌-◌, ◌<◌, ◌≤◌, List, [], ◌∷◌, ◌++◌, Bool}
use Rattle.std.proofs.Common.{true, false, length, get_or, set, take, ap, subst, sym, refl, ◌∙◌}
use Rattle.std.proofs.Common.{append-nil, arith, if◌then◌else◌, replicate}
use Rattle.std.specs.Prelude.{Some, None, slice_get, slice_index_or, ◌==◌, filter_map, sum_by}
use Rattle.std.specs.List.{AllZip}
use Rattle.std.proofs.lemmas.List.Elements.{filter_map-append}
use Rattle.std.proofs.lemmas.Bool.{eqb-true, eqb-false, eq-eqb}
use Rattle.std.proofs.lemmas.List.{get_or-replicate, get_or-set_other, get_or-set_same}
use Rattle.std.proofs.lemmas.List.{length-append, length-replicate, length-set, take_more}
use Rattle.std.proofs.lemmas.List.Sums.{sum_by-cons}
use Rattle.std.proofs.lemmas.Option.{get_or_from_slice_get, slice_get-get_or, slice_get_within}
use Rattle.std.specs.declared.vec.Vec.{Vec}
use Rattle.cal_context.specs.Lists.{IsFront}
use Rattle.cal_run.proofs.NumberLemmas.{all_zip-at}
use Rattle.cal_lawful.specs.Broken.{BreaksAt, HasBegun}
use Rattle.cal_lawful.specs.Checking.{AreCounted, AreListed}
use Rattle.cal_run.specs.Lawful.{HasOrder, IsKnown, names_process_line, placed_of, process_lines}
use Rattle.cal_script.specs.declared.journal.Placed.{Placed}
use Rattle.cal_script.specs.declared.script.Line.{Line}
use Rattle.cal_script.specs.declared.script.Script.{Script}

-- a process line is one of a thread
within-from : (script : Script) (threads : List (List Line)) (t n : ℕ)
    → names_process_line script (if n == 0 then None else slice_get (slice_index_or threads t [])
    (n - 1)) ≡ true
    → t < length threads
within-from script [] t n e = absurd (let no : false ≡ true = sym (by (n == 0)) ∙ e in cc)
  where
    by : (b : Bool) → names_process_line script (if b then None else None) ≡ false
    by true = refl
    by false = refl
within-from script (ls ∷ threads) zero n e = omega arith
within-from script (ls ∷ threads) (suc t) n e = let rest = within-from script threads t n e in omega
    (arith, rest)

pub known-within : (script : Script) (op : Placed) → IsKnown script op
    → op.thread < length script.threads
known-within script op known = within-from script script.threads op.thread op.line known

-- ---- fronts

module _ {A : Type 0} where
  pub front-next : (xs ys : List A) (y : A) → IsFront xs ys → slice_get ys (length xs) ≡ Some y
      → IsFront (xs ++ y ∷ []) ys
  front-next [] [] y front next = absurd (let no : None ≡ Some y = next in cc)
  front-next [] (z ∷ ys) y front next = (ys, (let same : Some z ≡ Some y = next in cc))
  front-next (x ∷ xs) [] y front next = absurd (let no : [] ≡ x ∷ (xs ++ front.0) = front.1 in cc)
  front-next (x ∷ xs) (z ∷ ys) y front next =
      let whole : z ∷ ys ≡ x ∷ (xs ++ front.0) = front.1 in
      let rest : IsFront (xs ++ y ∷ []) ys = front-next xs ys y (front.0, cc) next in
      let tail = rest.1 in
      (rest.0, cc)

  pub front-next-is : (xs ys : List A) (y : A) → IsFront (xs ++ y ∷ []) ys
      → slice_get ys (length xs) ≡ Some y
  front-next-is [] [] y front = absurd (let no : [] ≡ y ∷ front.0 = front.1 in cc)
  front-next-is [] (z ∷ ys) y front = (let whole : z ∷ ys ≡ y ∷ front.0 = front.1 in cc)
  front-next-is (x ∷ xs) [] y front = absurd (let no : [] ≡ x ∷
      ((xs ++ y ∷ []) ++ front.0) = front.1 in cc)
  front-next-is (x ∷ xs) (z ∷ ys) y front =
      let whole : z ∷ ys ≡ x ∷ ((xs ++ y ∷ []) ++ front.0) = front.1 in
      front-next-is xs ys y (front.0, cc)

  pub front-whole : (xs ys : List A) → IsFront xs ys → length ys ≤ length xs → xs ≡ ys
  front-whole [] [] front long = refl
  front-whole [] (y ∷ ys) front long = absurd (omega (arith, long))
  front-whole (x ∷ xs) [] front long = absurd (let no : [] ≡ x ∷ (xs ++ front.0) = front.1 in cc)
  front-whole (x ∷ xs) (y ∷ ys) front long =
      let whole : y ∷ ys ≡ x ∷ (xs ++ front.0) = front.1 in
      let rest : xs ≡ ys = front-whole xs ys (front.0, cc) (omega (arith, long)) in
      cc

  an-item : (xs : List A) → ¬ (xs ≡ []) → A
  an-item [] some = absurd (some refl)
  an-item (x ∷ xs) some = x

-- ---- one operation more

module _ (script : Script) (history : List Placed) (op : Placed) where
  pub placed_of-push : (t : ℕ) → placed_of t (history ++ op ∷ [])
      ≡ (if op.thread == t then placed_of t history ++ op.line ∷ [] else placed_of t history)
  placed_of-push t =
      filter_map-append (λ (o : Placed). if o.thread == t then Some o.line else None) history
      (op ∷ [])
      ∙ by (op.thread == t)
    where
      by : (b : Bool) → placed_of t history ++ filter_map
          (λ (o : Placed). if b then Some o.line else None) (op ∷ [])
          ≡ (if b then placed_of t history ++ op.line ∷ [] else placed_of t history)
      by true = refl
      by false = append-nil (placed_of t history)

long-zip : {A B : Type 0} (R : A → B → Type 0) (xs : List A) (ys : List B) → AllZip R xs ys
    → length xs ≡ length ys
long-zip R [] [] all = refl
long-zip R [] (y ∷ ys) all = absurd all
long-zip R (x ∷ xs) [] all = absurd all
long-zip R (x ∷ xs) (y ∷ ys) all = ap suc (long-zip R xs ys all.1)

abbrev ListIs : {Z : Type 0} → Script → Vec ℕ Z → List Line → Type 0
ListIs script list ls = list.items ≡ process_lines script ls

module _ (script : Script) {Z : Type 0} (lists : List (Vec ℕ Z))
    (listed : AreListed script lists script.threads) where
  pub lists-long : length lists ≡ length script.threads
  lists-long = long-zip (ListIs script) lists script.threads listed

  -- the list of a thread
  list-is : (t : ℕ) (ls : List Line) (d : Vec ℕ Z) → slice_get script.threads t ≡ Some ls
      → t < length lists
      → (get_or lists t d).items ≡ process_lines script ls
  list-is t ls d is below =
      all_zip-at (ListIs script) lists script.threads t d ls listed below
      ∙ ap (process_lines script) (get_or_from_slice_get script.threads t ls ls is)

  pub none-counted : (counts : List ℕ) → counts ≡ replicate (length lists) 0
      → AreCounted script [] counts
  none-counted counts none = record {
    begun = λ t ls is. (process_lines script ls, refl);
    long = ap length none ∙ length-replicate (length lists) 0 ∙ lists-long;
    counted = λ t below.
        ap (λ ns. get_or ns t 0) none
        ∙ get_or-replicate (length lists) t 0 0 (let long : length counts
        ≡ length lists = ap length none ∙ length-replicate (length lists) 0 in omega
        (arith, below, long));
  }

  module _ (history : List Placed) (op : Placed) (counts : List ℕ)
      (counted : AreCounted script history counts) (d : Vec ℕ Z)
      (in_counts : op.thread < length counts) (in_lists : op.thread < length lists) where
    -- the next process line of a thread is placed
    pub counted-next : slice_get (get_or lists op.thread d).items
        (get_or counts op.thread 0) ≡ Some op.line
        → AreCounted script (history ++ op ∷ []) (set counts op.thread
        (get_or counts op.thread 0 + 1))
    counted-next next = record {
      begun = λ t ls is. subst (λ ns. IsFront ns (process_lines script ls))
          (sym (placed_of-push script history op t)) (front t ls is (op.thread == t) refl);
      long = length-set counts op.thread (get_or counts op.thread 0 + 1) ∙ counted.long;
      counted = λ t below. count t (let long = length-set counts op.thread
          (get_or counts op.thread 0 + 1) in omega (arith, below, long)) (op.thread == t) refl
          ∙ ap length (sym (placed_of-push script history op t));
    }
      where
        front : (t : ℕ) (ls : List Line) → slice_get script.threads t ≡ Some ls → (b : Bool)
            → (op.thread == t) ≡ b
            → IsFront (if b then placed_of t history ++ op.line ∷ [] else placed_of t history)
            (process_lines script ls)
        front t ls is true e =
            let same : op.thread ≡ t = eqb-true op.thread t e in
            let list : (get_or lists t d).items ≡ process_lines script ls = list-is t ls d is
            (subst (λ u. u < length lists) same in_lists) in
            let count : get_or counts t 0 ≡ length (placed_of t history) = counted.counted t
            (subst (λ u. u < length counts) same in_counts) in
            let here : slice_get (get_or lists t d).items (get_or counts t 0) ≡ Some op.line =
            subst (λ u. slice_get (get_or lists u d).items (get_or counts u 0) ≡ Some op.line)
            same next in
            front-next (placed_of t history) (process_lines script ls) op.line
            (counted.begun t ls is)
            (subst (λ n. slice_get (process_lines script ls) n ≡ Some op.line) count
            (subst (λ xs. slice_get xs (get_or counts t 0) ≡ Some op.line) list here))
        front t ls is false e = counted.begun t ls is

        count : (t : ℕ) → t < length counts → (b : Bool) → (op.thread == t) ≡ b
            → get_or (set counts op.thread (get_or counts op.thread 0 + 1)) t 0
            ≡ length (if b then placed_of t history ++ op.line ∷ [] else placed_of t history)
        count t below true e =
            let same : op.thread ≡ t = eqb-true op.thread t e in
            let more = length-append (placed_of t history) (op.line ∷ []) in
            let was : get_or counts t 0 ≡ length (placed_of t history) = counted.counted t below in
            let now : get_or (set counts op.thread (get_or counts op.thread 0 + 1)) t 0
            ≡ get_or counts t 0 + 1 =
            subst (λ u. get_or (set counts op.thread (get_or counts op.thread 0 + 1)) u 0
            ≡ get_or counts u 0 + 1) same
            (get_or-set_same counts op.thread (get_or counts op.thread 0 + 1) 0 in_counts) in
            omega (arith, more, was, now)
        count t below false e =
            get_or-set_other counts op.thread t (get_or counts op.thread 0 + 1) 0
            (λ s. eqb-false op.thread t e (sym s)) ∙ counted.counted t below

    -- any other operation is out of order
    pub not-next : ¬ (slice_get (get_or lists op.thread d).items
        (get_or counts op.thread 0) ≡ Some op.line)
        → ¬ HasBegun script (history ++ op ∷ [])
    not-next not begun =
        let long : length lists ≡ length script.threads = lists-long in
        let ls : List Line = get_or script.threads op.thread [] in
        let is : slice_get script.threads op.thread ≡ Some (get_or script.threads op.thread []) =
        slice_get-get_or script.threads op.thread [] (omega (arith, long, in_lists)) in
        let front : IsFront (placed_of op.thread history ++ op.line ∷ [])
        (process_lines script ls) =
        subst (λ ns. IsFront ns (process_lines script ls))
        (placed_of-push script history op op.thread
        ∙ ap (λ (b : Bool). if b then placed_of op.thread history ++ op.line ∷ [] else placed_of
        op.thread history) (eq-eqb op.thread op.thread refl))
        (begun op.thread ls is) in
        let next : slice_get (process_lines script ls)
        (length (placed_of op.thread history)) ≡ Some op.line =
        front-next-is (placed_of op.thread history) (process_lines script ls) op.line front in
        let list : (get_or lists op.thread d).items
        ≡ process_lines script ls = list-is op.thread ls d is in_lists in
        let count : get_or counts op.thread 0 ≡ length
        (placed_of op.thread history) = counted.counted op.thread in_counts in
        not (subst (λ xs. slice_get xs (get_or counts op.thread 0) ≡ Some op.line) (sym list)
        (subst (λ n. slice_get (process_lines script ls) n ≡ Some op.line) (sym count) next))

  module _ (history : List Placed) (counts : List ℕ)
      (counted : AreCounted script history counts) where
    -- where no thread lacks an operation, all are placed
    pub whole-order : ((k : ℕ) (d : Vec ℕ Z) → k < length lists
        → length (get_or lists k d).items ≤ get_or counts k 0)
        → HasOrder script history
    whole-order enough t ls is =
        let long : length lists ≡ length script.threads = lists-long in
        let below : t < length script.threads = slice_get_within script.threads t ls is in
        let in_lists : t < length lists = omega (arith, long, below) in
        let in_counts : t < length counts = (let long2 = counted.long in omega
        (arith, long2, below)) in
        let d : Vec ℕ Z = an-item lists (λ none. let no = ap length none in omega
        (arith, no, in_lists)) in
        let list : (get_or lists t d).items ≡ process_lines script ls = list-is t ls d is in_lists
        in
        let long3 : length (get_or lists t d).items ≡ length
        (process_lines script ls) = ap length list in
        let most = enough t d in_lists in
        let count = counted.counted t in_counts in
        front-whole (placed_of t history) (process_lines script ls) (counted.begun t ls is)
        (omega (arith, long3, most, count))

    pub lacks-order : (t : ℕ) (d : Vec ℕ Z) → t < length lists
        → get_or counts t 0 < length (get_or lists t d).items
        → ¬ HasOrder script history
    lacks-order t d in_lists lacks order =
        let long : length lists ≡ length script.threads = lists-long in
        let long2 : length counts ≡ length script.threads = counted.long in
        let ls : List Line = get_or script.threads t [] in
        let is : slice_get script.threads t ≡ Some (get_or script.threads t []) =
        slice_get-get_or script.threads t [] (omega (arith, long, in_lists)) in
        let same : length (placed_of t history) ≡ length (process_lines script ls) = ap length
        (order t ls is) in
        let list : length (get_or lists t d).items ≡ length (process_lines script ls) = ap length
        (list-is t ls d is in_lists) in
        let count : get_or counts t 0 ≡ length (placed_of t history) = counted.counted t
        (omega (arith, long, long2, in_lists)) in
        omega (arith, same, list, count, lacks)

-- ---- an operation at a place

module _ (script : Script) (ops : List Placed) (place : ℕ) (d : Placed) (below : place < length ops)
    (counts : List ℕ) (counted : AreCounted script (take place ops) counts) where
  -- it is out of order
  pub breaks-order : ¬ HasBegun script (take place ops ++ get_or ops place d ∷ [])
      → BreaksAt (HasBegun script) ops place
  breaks-order not = record {
    within = below;
    kept = counted.begun;
    broken = λ begun. not (subst (HasBegun script) (take_more ops place d below) begun);
  }

  -- it is counted
  pub counted-more : (now : List ℕ) → AreCounted script
      (take place ops ++ get_or ops place d ∷ []) now
      → AreCounted script (take (place + 1) ops) now
  counted-more now more = subst (λ history. AreCounted script history now)
      (sym (take_more ops place d below)) more

-- ---- the lists of process lines

all_zip-push : {A B : Type 0} (R : A → B → Type 0) (xs : List A) (ys : List B) (x : A) (y : B)
    → AllZip R xs ys → R x y
    → AllZip R (xs ++ x ∷ []) (ys ++ y ∷ [])
all_zip-push R [] [] x y all is = (is, tt)
all_zip-push R [] (b ∷ ys) x y all is = absurd all
all_zip-push R (a ∷ xs) [] x y all is = absurd all
all_zip-push R (a ∷ xs) (b ∷ ys) x y all is = (all.0, all_zip-push R xs ys x y all.1 is)

-- the list of one thread more
pub listed-more : (script : Script) {Z : Type 0} (lists : List (Vec ℕ Z))
    (threads : List (List Line)) (i : ℕ) (ls : List Line)
    (list : Vec ℕ Z) → i < length threads → ls ≡ get_or threads i ls
    → list.items ≡ process_lines script ls
    → AreListed script lists (take i threads) → AreListed script (lists ++ list ∷ [])
    (take (i + 1) threads)
listed-more script lists threads i ls list below is lines listed =
    subst (AreListed script (lists ++ list ∷ [])) (sym (take_more threads i ls below
    ∙ ap (λ (t : List Line). take i threads ++ t ∷ []) (sym is)))
    (all_zip-push (ListIs script) lists (take i threads) list ls listed lines)

-- a thread has no more lines than all
pub lines-within : (threads : List (List Line)) (i : ℕ) (ls : List Line) → i < length threads
    → ls ≡ get_or threads i ls
    → length ls ≤ sum_by length threads
lines-within [] i ls below is = absurd (omega (arith, below))
lines-within (x ∷ xs) zero ls below is =
    let sum = sum_by-cons length x xs in
    let long : length ls ≡ length x = ap length is in
    omega (arith, sum, long)
lines-within (x ∷ xs) (suc i) ls below is =
    let sum = sum_by-cons length x xs in
    let rest = lines-within xs i ls (omega (arith, below)) is in
    omega (arith, sum, rest)
