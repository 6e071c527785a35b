-- What is left out at the end of what is kept.
use Rattle.std.proofs.Common.{◌≡◌, ℕ, zero, suc, ◌+◌, ◌-◌, ◌<◌, ◌≤◌, Bool, true, false, ◌||◌, ◌==◌}
use Rattle.std.proofs.Common.{List, [], ◌∷◌, ◌++◌, ◌⊎◌, inl, inr, length, get_or, refl, sym, ◌∙◌, ap, arith, append_assoc, append-nil, add-one, eq-eqb, ne_eqb}
use Rattle.std.proofs.Common.{Result, Ok, Err, is_ok, nat_cmp, take, drop}
use Rattle.std.specs.List.{list_any}
use Rattle.std.specs.List.Sorted.{IsBinarySearchResult, IsNonDecreasing}
use Rattle.std.specs.Prelude.{replicate}
use Rattle.std.proofs.lemmas.List.{drop-append-le, drop_all, get_or-drop, get_or-take, length-drop, length-take-le, take-append-drop}
use Rattle.std.proofs.lemmas.Bool.{cases_eq, cases_lt}
use Rattle.std.proofs.lemmas.List.{length-append, length-replicate, get_or_append_left, get_or-append_right, get_or_default, replicate-append-replicate}
use Rattle.std.proofs.lemmas.List.Elements.{All-push}
use Rattle.std.proofs.lemmas.List.Folds.{list_any-append, list_any_at, list_any_none}
use Rattle.std.proofs.lemmas.List.Sorted.{searched}
use Rattle.cal_context.specs.declared.numbers.NodeNumber.{NodeNumber}
use Rattle.cal_filter.specs.Memo.{ArePlaces, marked, with_roots}

abbrev pub root : NodeNumber
root = record { 0 = 0 }

module _ {A : Type 0} (blank : A) where
  -- so many items: these, and then blank ones
  abbrev padded : List A → ℕ → List A
  padded items count = items ++ replicate (count - length items) blank

  length-padded : (items : List A) (count : ℕ) → length items ≤ count → length (padded items count) ≡ count
  length-padded items count within =
      let whole = length-append items (replicate (count - length items) blank) in
      let rest = length-replicate (count - length items) blank in
      omega (arith, within, whole, rest)

  blanks_read : (n i : ℕ) → get_or (replicate n blank) i blank ≡ blank
  blanks_read zero i = refl
  blanks_read (suc n) zero = refl
  blanks_read (suc n) (suc i) = blanks_read n i

  none_read : (items : List A) (i : ℕ) → length items ≤ i → get_or items i blank ≡ blank
  none_read [] i long = refl
  none_read (n ∷ items) zero long = absurd (omega (arith, long))
  none_read (n ∷ items) (suc i) long = none_read items i (omega (arith, long))

  -- what is read is blank behind the list
  read-padded : (items : List A) (count i : ℕ) → get_or (padded items count) i blank ≡ get_or items i blank
  read-padded items count i = by (cases_lt i (length items))
    where
      by : (i < length items) ⊎ (length items ≤ i) → get_or (padded items count) i blank ≡ get_or items i blank
      by (inl short) = get_or_append_left items (replicate (count - length items) blank) blank i short
      by (inr long) =
          get_or-append_right items (replicate (count - length items) blank) (length items) i blank refl long
          ∙ blanks_read (count - length items) (i - length items)
          ∙ sym (none_read items i long)

  -- one blank more
  padded-blank : (items : List A) (count : ℕ) → length items ≤ count
      → padded items (count + 1) ≡ padded items count ++ blank ∷ []
  padded-blank items count within =
      let more : count + 1 - length items ≡ count - length items + 1 = omega (arith, within) in
      ap (λ n. items ++ replicate n blank) more
      ∙ ap (λ rs. items ++ rs) (sym (replicate-append-replicate (count - length items) 1 blank))
      ∙ sym (append_assoc items (replicate (count - length items) blank) (blank ∷ []))

  -- blanks up to more
  padded-more : (items : List A) (one other : ℕ) → length items ≤ one → one ≤ other
      → padded (padded items one) other ≡ padded items other
  padded-more items one other within more =
      let long = length-padded items one within in
      let counted : (one - length items) + (other - one) ≡ other - length items = omega (arith, within, more) in
      ap (λ n. padded items one ++ replicate (other - n) blank) long
      ∙ append_assoc items (replicate (one - length items) blank) (replicate (other - one) blank)
      ∙ ap (λ rs. items ++ rs) (replicate-append-replicate (one - length items) (other - one) blank)
      ∙ ap (λ n. items ++ replicate n blank) counted

  -- and none up to fewer
  padded-less : (items : List A) (one other : ℕ) → length items ≤ one → other ≤ one
      → padded (padded items one) other ≡ padded items one
  padded-less items one other within less =
      let long = length-padded items one within in
      let none : other - length (padded items one) ≡ 0 = omega (arith, long, less) in
      ap (λ n. padded items one ++ replicate n blank) none ∙ append-nil (padded items one)

  -- no blank behind a list that is as long
  padded-all : (items : List A) (count : ℕ) → length items ≡ count → padded items count ≡ items
  padded-all items count e =
      let none : count - length items ≡ 0 = omega (arith, e) in
      ap (λ n. items ++ replicate n blank) none ∙ append-nil items

-- ---- roots

pub length-with_roots : (nodes : List NodeNumber) (count : ℕ) → length nodes ≤ count → length (with_roots nodes count) ≡ count
length-with_roots nodes count within = length-padded root nodes count within

pub read-with_roots : (nodes : List NodeNumber) (count i : ℕ) → get_or (with_roots nodes count) i root ≡ get_or nodes i root
read-with_roots nodes count i = read-padded root nodes count i

pub with_roots-root : (nodes : List NodeNumber) (count : ℕ) → length nodes ≤ count
    → with_roots nodes (count + 1) ≡ with_roots nodes count ++ root ∷ []
with_roots-root nodes count within = padded-blank root nodes count within

pub with_roots-more : (nodes : List NodeNumber) (one other : ℕ) → length nodes ≤ one → one ≤ other
    → with_roots (with_roots nodes one) other ≡ with_roots nodes other
with_roots-more nodes one other within more = padded-more root nodes one other within more

pub with_roots-less : (nodes : List NodeNumber) (one other : ℕ) → length nodes ≤ one → other ≤ one
    → with_roots (with_roots nodes one) other ≡ with_roots nodes one
with_roots-less nodes one other within less = padded-less root nodes one other within less

pub with_roots-all : (nodes : List NodeNumber) (count : ℕ) → length nodes ≡ count → with_roots nodes count ≡ nodes
with_roots-all nodes count e = padded-all root nodes count e

-- ---- places

pub length-marked : (places : List ℕ) (n : ℕ) → length (marked places n) ≡ n
length-marked places zero = refl
length-marked places (suc n) =
    let whole = length-append (marked places n) (list_any (λ place. place == n) places ∷ []) in
    let before = length-marked places n in
    omega (arith, whole, before)

-- none of the places is one that isn't below them all
none_behind : (places : List ℕ) (count n : ℕ) → ArePlaces places count → count ≤ n
    → list_any (λ place. place == n) places ≡ false
none_behind places count n are behind =
    list_any_none (λ place. place == n) places
    (λ i d short. ne_eqb (get_or places i d) n
    (λ e. omega (arith, e, behind, are.below i d short)))

read_within : (places : List ℕ) (count n : ℕ) → n < count
    → get_or (marked places count) n false ≡ list_any (λ place. place == n) places
read_within places zero n short = absurd (omega (arith, short))
read_within places (suc count) n short = by (λ less. read_within places count n less) (cases_eq n count)
  where
    before : List Bool
    before = marked places count

    last : ℕ → Bool
    last m = list_any (λ place. place == m) places

    long : length (marked places count) ≡ count
    long = length-marked places count

    by : (n < count → get_or before n false ≡ last n) → (n ≡ count) ⊎ (n ≡ count → ⊥)
        → get_or (before ++ last count ∷ []) n false ≡ last n
    by earlier (inl e) =
        let first : n - count ≡ 0 = omega (arith, e) in
        get_or-append_right before (last count ∷ []) count n false long (omega (arith, e))
        ∙ ap (λ k. get_or (last count ∷ []) k false) first ∙ ap last (sym e)
    by earlier (inr other) =
        let less : n < count = omega (arith, short, other) in
        get_or_append_left before (last count ∷ []) false n (omega (arith, less, long)) ∙ earlier less

-- what is read is whether the place is among them
pub read-marked : (places : List ℕ) (count n : ℕ) → ArePlaces places count
    → get_or (marked places count) n false ≡ list_any (λ place. place == n) places
read-marked places count n are = by (cases_lt n count)
  where
    by : (n < count) ⊎ (count ≤ n)
        → get_or (marked places count) n false ≡ list_any (λ place. place == n) places
    by (inl short) = read_within places count n short
    by (inr behind) =
        let long = length-marked places count in
        none_read false (marked places count) n (omega (arith, behind, long))
        ∙ sym (none_behind places count n are behind)

-- a false answer more
pub marked-false : (places : List ℕ) (count : ℕ) → ArePlaces places count
    → marked places (count + 1) ≡ marked places count ++ false ∷ []
marked-false places count are =
    ap (marked places) (add-one count)
    ∙ ap (λ b. marked places count ++ b ∷ []) (none_behind places count count are (omega arith))

-- a place that is higher than what is read changes nothing
marked-higher : (places : List ℕ) (m count : ℕ) → count ≤ m
    → marked (places ++ m ∷ []) count ≡ marked places count
marked-higher places m zero within = refl
marked-higher places m (suc count) within =
    let other : (m == count) ≡ false = ne_eqb m count (λ e. omega (arith, e, within)) in
    let same : list_any (λ place. place == count) (places ++ m ∷ []) ≡ list_any (λ place. place == count) places
    = list_any-append (λ place. place == count) places (m ∷ [])
    ∙ ap (λ b. list_any (λ place. place == count) places || (b || false)) other
    ∙ or_false (list_any (λ place. place == count) places) in
    λ i. marked-higher places m count (omega (arith, within)) i ++ same i ∷ []
  where
    or_false : (b : Bool) → (b || (false || false)) ≡ b
    or_false true = refl
    or_false false = refl

-- a true answer more
pub marked-true : (places : List ℕ) (count : ℕ)
    → marked (places ++ count ∷ []) (count + 1) ≡ marked places count ++ true ∷ []
marked-true places count =
    let same : (count == count) ≡ true = eq-eqb count count refl in
    let there : list_any (λ place. place == count) (places ++ count ∷ []) ≡ true
    = list_any-append (λ place. place == count) places (count ∷ [])
    ∙ ap (λ b. list_any (λ place. place == count) places || (b || false)) same
    ∙ or_true (list_any (λ place. place == count) places) in
    ap (marked (places ++ count ∷ [])) (add-one count)
    ∙ (λ i. marked-higher places count count (omega arith) i ++ there i ∷ [])
  where
    or_true : (b : Bool) → (b || (true || false)) ≡ true
    or_true true = refl
    or_true false = refl

pub ArePlaces-more : (places : List ℕ) (count : ℕ) → ArePlaces places count → ArePlaces places (count + 1)
ArePlaces-more places count are = record {
  rising = are.rising;
  below = λ i d short. omega (arith, are.below i d short);
}

-- one more, behind them
pub ArePlaces-push : (places : List ℕ) (count : ℕ) → ArePlaces places count
    → ArePlaces (places ++ count ∷ []) (count + 1)
ArePlaces-push places count are = record {
  rising = λ i j d le short. by i j d le short (cases_lt j (length places));
  below = All-push (λ place. place < count + 1) places count
      (λ i d short. omega (arith, are.below i d short)) (omega arith);
}
  where
    all : List ℕ
    all = places ++ count ∷ []

    last : (j : ℕ) (d : ℕ) → j < length all → length places ≤ j → get_or all j d ≡ count
    last j d short behind =
        let whole = length-append places (count ∷ []) in
        let first : j - length places ≡ 0 = omega (arith, short, whole, behind) in
        get_or-append_right places (count ∷ []) (length places) j d refl behind
        ∙ ap (λ k. get_or (count ∷ []) k d) first

    by : (i j d : ℕ) → i ≤ j → j < length all → (j < length places) ⊎ (length places ≤ j)
        → get_or all i d ≤ get_or all j d
    by i j d le short (inl before) =
        let one = get_or_append_left places (count ∷ []) d i (omega (arith, le, before)) in
        let other = get_or_append_left places (count ∷ []) d j before in
        omega (arith, one, other, are.rising i j d le before)
    by i j d le short (inr behind) = under (cases_lt i (length places))
      where
        under : (i < length places) ⊎ (length places ≤ i) → get_or all i d ≤ get_or all j d
        under (inl before) =
            let one = get_or_append_left places (count ∷ []) d i before in
            omega (arith, one, last j d short behind, are.below i d before)
        under (inr late) = omega (arith, last j d short behind, last i d (omega (arith, le, short)) late)

-- a search among places in order finds one that is there
pub found_among : (places : List ℕ) (n : ℕ) (r : Result ℕ ℕ) → IsNonDecreasing places
    → IsBinarySearchResult (λ place. nat_cmp place n) places r
    → is_ok r ≡ list_any (λ place. place == n) places
found_among places n (Ok i) rising is =
    let found = searched places n (Ok i) is (λ i j le short. rising i j 0 le short) in
    sym (list_any_at (λ place. place == n) places i 0 found.0 (eq-eqb (get_or places i 0) n found.1))
found_among places n (Err i) rising is =
    let parted = searched places n (Err i) is (λ i j le short. rising i j 0 le short) in
    sym (list_any_none (λ place. place == n) places
    (λ k d short. ne_eqb (get_or places k d) n (apart parted k d short)))
  where
    apart : ((i ≤ length places) × ((k : ℕ) → k < i → get_or places k 0 < n) × ((k : ℕ) → i ≤ k → k < length places → n < get_or places k 0))
        → (k d : ℕ) → k < length places → get_or places k d ≡ n → ⊥
    apart parted k d short e = by (cases_lt k i)
      where
        same : get_or places k d ≡ get_or places k 0
        same = get_or_default places k d 0 short

        by : (k < i) ⊎ (i ≤ k) → ⊥
        by (inl before) = absurd (omega (arith, e, same, parted.1 k before))
        by (inr behind) = absurd (omega (arith, e, same, parted.2 k behind short))

-- ---- places of a list that are behind those of another

-- of the others those from a start on aren't below a first count, and those before it are
module _ (old others : List ℕ) (first start count : ℕ) (own : ArePlaces old first)
    (all : ArePlaces others count) (within : start ≤ length others)
    (below : (k d : ℕ) → k < start → get_or others k d < first)
    (behind : (k d : ℕ) → start ≤ k → k < length others → first ≤ get_or others k d) where
  abbrev rest : List ℕ
  rest = drop start others

  abbrev among : ℕ → List ℕ → Bool
  among n places = list_any (λ place. place == n) places

  rest_read : (k d : ℕ) → get_or rest k d ≡ get_or others (start + k) d
  rest_read k d = get_or-drop start others k d

  long_rest : length rest ≡ length others - start
  long_rest = length-drop start others

  -- a place below the first count is among the old ones alone
  before : (n : ℕ) → n < first → among n (old ++ rest) ≡ among n old
  before n less =
      let none : among n rest ≡ false = list_any_none (λ place. place == n) rest
      (λ k d short. ne_eqb (get_or rest k d) n
      (λ e. omega (
        arith,
        e,
        less,
        rest_read k d,
        behind (start + k) d (omega arith)
            (omega (arith, short, long_rest)),
      ))) in
      list_any-append (λ place. place == n) old rest ∙ ap (λ b. among n old || b) none
      ∙ or_false (among n old)
    where
      or_false : (b : Bool) → (b || false) ≡ b
      or_false true = refl
      or_false false = refl

  -- and one behind it among the others
  after : (n : ℕ) → first ≤ n → among n (old ++ rest) ≡ among n others
  after n least =
      let none : among n old ≡ false = list_any_none (λ place. place == n) old
      (λ k d short. ne_eqb (get_or old k d) n (λ e. omega (arith, e, least, own.below k d short))) in
      let few : length (take start others) ≡ start = length-take-le start others within in
      let front : among n (take start others) ≡ false =
      list_any_none (λ place. place == n) (take start others)
      (λ k d short. ne_eqb (get_or (take start others) k d) n
      (λ e. omega (
        arith,
        e,
        least,
        get_or-take start others k d (omega (arith, short, few)),
        below k d (omega (arith, short, few)),
      ))) in
      list_any-append (λ place. place == n) old rest ∙ ap (λ b. b || among n rest) none
      ∙ sym (ap (among n) (sym (take-append-drop start others))
      ∙ list_any-append (λ place. place == n) (take start others) rest
      ∙ ap (λ b. b || among n rest) front)

  same_front : (n : ℕ) → n ≤ first → marked (old ++ rest) n ≡ marked old n
  same_front zero h = refl
  same_front (suc n) h = λ i. same_front n (omega (arith, h)) i ++ before n (omega (arith, h)) i ∷ []

  base : (k : ℕ) → first ≡ k
      → marked (old ++ rest) k ≡ marked old first ++ drop first (marked others k)
  base k e =
      let long = length-marked others k in
      same_front k (omega (arith, e))
      ∙ sym (ap (λ xs. marked old first ++ xs)
      (drop_all first (marked others k) (omega (arith, e, long)))
      ∙ append-nil (marked old first) ∙ ap (marked old) e)

  joined : (k : ℕ) → first ≤ k
      → marked (old ++ rest) k ≡ marked old first ++ drop first (marked others k)
  joined zero least = base zero (omega (arith, least))
  joined (suc k) least = by (λ less. joined k less) (cases_lt k first)
    where
      last : Bool
      last = among k others

      by : (first ≤ k → marked (old ++ rest) k ≡ marked old first ++ drop first (marked others k))
          → (k < first) ⊎ (first ≤ k)
          → marked (old ++ rest) (suc k) ≡ marked old first ++ drop first (marked others (suc k))
      by earlier (inl short) = base (suc k) (omega (arith, short, least))
      by earlier (inr less) =
          let long = length-marked others k in
          (λ i. earlier less i ++ after k less i ∷ [])
          ∙ append_assoc (marked old first) (drop first (marked others k)) (last ∷ [])
          ∙ ap (λ xs. marked old first ++ xs)
          (sym (drop-append-le first (marked others k) (last ∷ []) (omega (arith, less, long))))

  -- the answers up to the first count, and then the others'
  pub marked-joined : first ≤ count
      → marked (old ++ rest) count ≡ marked old first ++ drop first (marked others count)
  marked-joined more = joined count more

  record IsOld (k d : ℕ) : Type 0 where
    pub short : k < length old
    pub read : get_or (old ++ rest) k d ≡ get_or old k d

  record IsOther (k d : ℕ) : Type 0 where
    pub late : length old ≤ k
    pub short : start + (k - length old) < length others
    pub read : get_or (old ++ rest) k d ≡ get_or others (start + (k - length old)) d

  reads : (k d : ℕ) → k < length (old ++ rest) → IsOld k d ⊎ IsOther k d
  reads k d short = by (cases_lt k (length old))
    where
      by : (k < length old) ⊎ (length old ≤ k) → IsOld k d ⊎ IsOther k d
      by (inl less) = inl (record { short = less; read = get_or_append_left old rest d k less })
      by (inr late) =
          let whole = length-append old rest in
          inr (record {
            late = late;
            short = omega (arith, short, whole, long_rest, late);
            read = get_or-append_right old rest (length old) k d refl late
                ∙ rest_read (k - length old) d;
          })

  pub ArePlaces-joined : first ≤ count → ArePlaces (old ++ rest) count
  ArePlaces-joined more = record {
    rising = λ i j d le short.
        rise i j d le (reads i d (omega (arith, le, short))) (reads j d short);
    below = λ k d short. under k d (reads k d short);
  }
    where
      under : (k d : ℕ) → IsOld k d ⊎ IsOther k d → get_or (old ++ rest) k d < count
      under k d (inl a) = omega (arith, a.read, own.below k d a.short, more)
      under k d (inr a) = omega (arith, a.read, all.below (start + (k - length old)) d a.short)

      rise : (i j d : ℕ) → i ≤ j → IsOld i d ⊎ IsOther i d → IsOld j d ⊎ IsOther j d
          → get_or (old ++ rest) i d ≤ get_or (old ++ rest) j d
      rise i j d le (inl a) (inl b) = omega (arith, a.read, b.read, own.rising i j d le b.short)
      rise i j d le (inl a) (inr b) =
          omega (
            arith,
            a.read,
            b.read,
            own.below i d a.short,
            behind (start + (j - length old)) d (omega arith) b.short,
          )
      rise i j d le (inr a) (inl b) = absurd (omega (arith, a.late, b.short, le))
      rise i j d le (inr a) (inr b) =
          omega (
            arith,
            a.read,
            b.read,
            all.rising (start + (i - length old)) (start + (j - length old)) d
                (omega (arith, le, a.late, b.late)) b.short,
          )
