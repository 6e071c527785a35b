-- Readings that look at no more than the tokens up to their end: what they give, and where they
-- fail, stays so whatever stands behind.
use Rattle.std.proofs.Common.{◌≡◌, ◌⊎◌, ℕ, Bool, true, false, List, [], ◌∷◌, ◌++◌, Option, Some, None, Result, Ok, Err, refl, sym, ap, subst, ◌∙◌, append_assoc, inl, inr}
use Rattle.std.specs.Option.{option_map, option_to_list}
use Rattle.cal_ql.specs.declared.kind.QueryKind.{QueryKind}
use Rattle.cal_ql.specs.Grammar.{The}
use Rattle.cal_ql.specs.Reading.{Read, ◌>>=◌, first_of, or_fault, refused}
use Rattle.cal_ql.specs.Tokens.{Fault, Token, Tokens, end, broken, token, sign}
use Rattle.cal_ql.specs.declared.token.Sign.TheVariants as signed
use Rattle.cal_ql.proofs.Spelling.{IsRead}
use Rattle.std.specs.List.{AllByRecursion}
use Rattle.cal_ql.proofs.Binds.{bind_ok, ok_is}
use Rattle.cal_ql_faults.specs.FaultPlaces.{IsLater, IsSome, Row, first_tokens}
use Rattle.cal_ql_faults.proofs.Rows.{Calm, Like, append_some, led_like, like_wrong, row_append, row_like, row_split}

abbrev pub failing : {A : Type 0} → Fault → Result A Fault
failing fault = Err fault

pub err_is : {A : Type 0} (one other : Fault) → failing {A = A} one ≡ failing {A = A} other → one ≡ other
err_is one other e = cc

-- what was read, with the tokens behind it
abbrev pub put : {Y : Type 0} → Y → Tokens → Read Y
put y rest = Ok (y, rest)

-- what a reading gives of tokens, with those behind; or a fault that is found later
abbrev pub Gives : {X : Type 0} → Option X → Read X → Tokens → Type 0
Gives (Some x) read rest = read ≡ Ok (x, rest)
Gives None (Ok found) rest = ⊥
Gives None (Err fault) rest = IsLater fault.kind

-- what is given looks ahead
abbrev pub LooksAhead : {X : Type 0} → (X → Bool) → Option X → Type 0
LooksAhead loose None = ⊥
LooksAhead loose (Some x) = loose x ≡ true

-- How tokens that were taken may go on, so that the reading ends well.
pub record Ending {X : Type 0} (f : Tokens → Read X) (loose : X → Bool) (before : List Token) : Type 0 where
  pub more : List Token
  pub result : Option X
  pub readable : AllByRecursion IsRead more
  pub gives : (ts rest : Tokens) → Row (before ++ more) ts rest → (LooksAhead loose result → Calm rest) → Gives result (f ts) rest

-- Tokens that a reading takes, which begin with this one; or none, where it needs none.
abbrev pub IsLed : {X : Type 0} (f : Tokens → Read X) (loose : X → Bool) → Bool → Token → Ending f loose [] → Type 0
IsLed f loose true t e = (others : List Token) × (e.more ≡ t ∷ others)
IsLed {X} f loose false t e = (e.more ≡ []) × (x : X) × (e.result ≡ Some x)

pub record Sampled {X : Type 0} (f : Tokens → Read X) (loose : X → Bool) (some : Bool) (t : Token) : Type 0 where
  pub ending : Ending f loose []
  pub led : IsLed f loose some t ending

module _ {X : Type 0} (f : Tokens → Read X) (loose : X → Bool) (some : Bool) where
  -- What was taken. The same tokens give the same, and where the reading is loose, what stands
  -- first behind them must be the same too, or end it.
  pub record Taken (ts : Tokens) (x : X) (rest : Tokens) : Type 0 where
    pub before : List Token
    pub behind : Row before ts rest
    pub takes : some ≡ true → IsSome before
    pub again : (other left : Tokens) → Row before other left → (loose x ≡ true → Like rest left ⊎ Calm left) → f other ≡ Ok (x, left)

  -- Where it fails, behind what was taken, which may also go on well.
  pub record Failed (ts : Tokens) (fault : Fault) : Type 0 where
    pub before : List Token
    pub here : Tokens
    pub behind : Row before ts here
    pub is : fault ≡ refused fault.kind here
    pub wrong : List Token
    pub rest : Tokens
    pub there : Row wrong here rest
    pub short : (wrong ≡ first_tokens here) ⊎ (IsLater fault.kind × IsSome wrong)
    pub again : (other at left : Tokens) → Row before other at → Row wrong at left → IsSome wrong → f other ≡ Err (refused fault.kind at)
    pub goes : IsSome before → Ending f loose before

  pub record Fore : Type 0 where
    pub ok : (ts : Tokens) (x : X) (rest : Tokens) → f ts ≡ Ok (x, rest) → Taken ts x rest
    pub err : (ts : Tokens) (fault : Fault) → f ts ≡ Err fault → Failed ts fault

-- what an ending gives, by its result
pub gives_as : {X : Type 0} (f : Tokens → Read X) (loose : X → Bool) (before : List Token) (e : Ending f loose before) (o : Option X) → e.result ≡ o
    → (ts rest : Tokens) → Row (before ++ e.more) ts rest → (LooksAhead loose o → Calm rest) → Gives o (f ts) rest
gives_as {X} f loose before e o is ts rest row =
    subst (λ (p : Option X). (LooksAhead loose p → Calm rest) → Gives p (f ts) rest) is (e.gives ts rest row)

pub none_then : {X Y : Type 0} (r : Read X) (k : X × Tokens → Read Y) (rest : Tokens) → Gives None r rest → Gives None (r >>= k) rest
none_then (Ok q) k rest later = absurd later
none_then (Err fault) k rest later = later

pub all_append : (a b : List Token) → AllByRecursion IsRead a → AllByRecursion IsRead b → AllByRecursion IsRead (a ++ b)
all_append [] b one two = two
all_append (t ∷ a) b one two = (one.0, all_append a b one.1 two)

-- what was taken goes on as a sample does, where nothing more was taken
pub goes_on : {X : Type 0} (f : Tokens → Read X) (loose : X → Bool) (before : List Token) → Ending f loose [] → (IsSome before → Ending f loose before) → Ending f loose before
goes_on f loose [] sample goes = sample
goes_on f loose (t ∷ before) sample goes = goes tt

pub same_ending : {X : Type 0} (f g : Tokens → Read X) (loose : X → Bool) (before : List Token) → ((ts : Tokens) → f ts ≡ g ts) → Ending g loose before → Ending f loose before
same_ending {X} f g loose before same e = record {
  more = e.more;
  result = e.result;
  readable = e.readable;
  gives = λ ts rest row calm. subst (λ (r : Read X). Gives e.result r rest) (sym (same ts)) (e.gives ts rest row calm);
}

same_led : {X : Type 0} (f g : Tokens → Read X) (loose : X → Bool) (some : Bool) (t : Token) (same : (ts : Tokens) → f ts ≡ g ts) (e : Ending g loose [])
    → IsLed g loose some t e → IsLed f loose some t (same_ending f g loose [] same e)
unfolding same_ending
same_led f g loose true t same e led = led
same_led f g loose false t same e led = led

pub same_sample : {X : Type 0} (f g : Tokens → Read X) (loose : X → Bool) (some : Bool) (t : Token) → ((ts : Tokens) → f ts ≡ g ts) → Sampled g loose some t → Sampled f loose some t
same_sample f g loose some t same s = record { ending = same_ending f g loose [] same s.ending; led = same_led f g loose some t same s.ending s.led }

-- readings that give the same
pub same_fore : {X : Type 0} (f g : Tokens → Read X) (loose : X → Bool) (some : Bool) → ((ts : Tokens) → f ts ≡ g ts) → Fore g loose some → Fore f loose some
same_fore f g loose some same fore = record {
  ok = λ ts x rest e. (let took = fore.ok ts x rest (sym (same ts) ∙ e) in record {
    before = took.before;
    behind = took.behind;
    takes = took.takes;
    again = λ other left row like. same other ∙ took.again other left row like;
  });
  err = λ ts fault e. (let fails = fore.err ts fault (sym (same ts) ∙ e) in record {
    before = fails.before;
    here = fails.here;
    behind = fails.behind;
    is = fails.is;
    wrong = fails.wrong;
    rest = fails.rest;
    there = fails.there;
    short = fails.short;
    again = λ other at left row wrong filled. same other ∙ fails.again other at left row wrong filled;
    goes = λ filled. same_ending f g loose fails.before same (fails.goes filled);
  });
}

-- ---- what takes nothing

pub done_fore : {X : Type 0} (x : X) (loose : X → Bool) → Fore (λ (ts : Tokens). Ok (x, ts)) loose false
done_fore {X} x loose = record {
  ok = λ ts y rest e. (let same : (x, ts) ≡ (y, rest) = ok_is (x, ts) (y, rest) e in record {
    before = [];
    behind = ap (λ (q : X × Tokens). q.1) same;
    takes = λ (no : false ≡ true). absurd cc;
    again = λ other left row like. ap (λ (t : Tokens). Ok (x, t)) row ∙ ap (λ (z : X). Ok (z, left)) (ap (λ (q : X × Tokens). q.0) same);
  });
  err = λ ts fault e. absurd cc;
}

pub done_sample : {X : Type 0} (x : X) (loose : X → Bool) (t : Token) → Sampled (λ (ts : Tokens). put x ts) loose false t
done_sample x loose t = record {
  ending = record {
    more = [];
    result = Some x;
    readable = tt;
    gives = λ ts rest row calm. ap (λ (u : Tokens). put x u) row;
  };
  led = (refl, x, refl);
}

-- ---- one token

module _ {X : Type 0} (choose : Token → Result X QueryKind) (kind : QueryKind) where
  abbrev pub given : ℕ → Tokens → Result X QueryKind → Read X
  given place rest (Ok x) = Ok (x, rest)
  given place rest (Err k) = Err (record { place = place; kind = k })

  abbrev pub one : Tokens → Read X
  one (end place) = Err (record { place = place; kind = kind })
  one (broken fault) = Err fault
  one (token place t rest) = given place rest (choose t)

  one_takes : (t : Token) (ts rest : Tokens) (x : X) → The t ts rest → choose t ≡ Ok x → one ts ≡ Ok (x, rest)
  unfolding first_of
  one_takes t (end place) rest x the is = absurd cc
  one_takes t (broken fault) rest x the is = absurd cc
  one_takes t (token place u left) rest x the is =
      let same : (u, left) ≡ (t, rest) = cc in
      ap (λ (q : Token × Tokens). given place q.1 (choose q.0)) same ∙ ap (given place rest) is

  one_fails : (t : Token) (ts rest : Tokens) (k : QueryKind) → The t ts rest → choose t ≡ Err k → one ts ≡ Err (refused k ts)
  unfolding first_of refused
  one_fails t (end place) rest k the is = absurd cc
  one_fails t (broken fault) rest k the is = absurd cc
  one_fails t (token place u left) rest k the is =
      let same : (u, left) ≡ (t, rest) = cc in
      ap (λ (q : Token × Tokens). given place q.1 (choose q.0)) same ∙ ap (given place rest) is

  one_took : (place : ℕ) (t : Token) (behind rest : Tokens) (x : X) (r : Result X QueryKind) → choose t ≡ r → given place behind r ≡ Ok (x, rest) → Taken one (λ (y : X). false) true (token place t behind) x rest
  unfolding first_of
  one_took place t behind rest x (Err k) is e = absurd cc
  one_took place t behind rest x (Ok y) is e =
      let same : (y, behind) ≡ (x, rest) = ok_is (y, behind) (x, rest) e in
      record {
        before = t ∷ [];
        behind = (behind, refl, ap (λ (q : X × Tokens). q.1) same);
        takes = λ yes. tt;
        again = λ other left row like.
            one_takes t other row.0 y row.1 is ∙ ap (λ (r : Tokens). Ok (y, r)) row.2 ∙ ap (λ (z : X). Ok (z, left)) (ap (λ (q : X × Tokens). q.0) same);
      }

  one_failed : (place : ℕ) (t : Token) (behind : Tokens) (fault : Fault) (r : Result X QueryKind) → choose t ≡ r → given place behind r ≡ Err fault → Failed one (λ (y : X). false) true (token place t behind) fault
  unfolding first_of refused
  one_failed place t behind fault (Ok y) is e = absurd cc
  one_failed place t behind fault (Err k) is e =
      let told : Fault = record { place = place; kind = k } in
      let same : told ≡ fault = err_is told fault e in
      record {
        before = [];
        here = token place t behind;
        behind = refl;
        is = subst (λ (d : Fault). d ≡ record { place = place; kind = d.kind }) same refl;
        wrong = t ∷ [];
        rest = behind;
        there = (behind, refl, refl);
        short = inl refl;
        again = λ other at left row wrong filled.
            ap one row ∙ one_fails t at wrong.0 k wrong.1 is ∙ ap (λ (q : QueryKind). Err (refused q at)) (ap (λ (d : Fault). d.kind) same);
        goes = λ filled. absurd filled;
      }

  -- a fault where there is no token
  none_failed : (ts : Tokens) (fault : Fault) → first_of ts ≡ None → fault ≡ refused fault.kind ts → Failed one (λ (y : X). false) true ts fault
  none_failed ts fault none is = record {
    before = [];
    here = ts;
    behind = refl;
    is = is;
    wrong = [];
    rest = ts;
    there = refl;
    short = inl (ap (λ (found : Option (Token × Tokens)). option_to_list (option_map (λ (q : Token × Tokens). q.0) found)) (sym none));
    again = λ other at left row wrong filled. absurd filled;
    goes = λ filled. absurd filled;
  }

  one_ok : (ts : Tokens) (x : X) (rest : Tokens) → one ts ≡ Ok (x, rest) → Taken one (λ (y : X). false) true ts x rest
  one_ok (end place) x rest e = absurd cc
  one_ok (broken fault) x rest e = absurd cc
  one_ok (token place t behind) x rest e = one_took place t behind rest x (choose t) refl e

  one_err : (ts : Tokens) (fault : Fault) → one ts ≡ Err fault → Failed one (λ (y : X). false) true ts fault
  unfolding first_of refused
  one_err (end place) fault e =
      let told : Fault = record { place = place; kind = kind } in
      none_failed (end place) fault refl (subst (λ (d : Fault). d ≡ record { place = place; kind = d.kind }) (err_is told fault e) refl)
  one_err (broken lexical) fault e = none_failed (broken lexical) fault refl (sym (err_is lexical fault e))
  one_err (token place t behind) fault e = one_failed place t behind fault (choose t) refl e

  pub one_fore : Fore one (λ (y : X). false) true
  one_fore = record { ok = one_ok; err = one_err }

  pub one_sample : (t : Token) (x : X) → choose t ≡ Ok x → IsRead t → Sampled one (λ (y : X). false) true t
  one_sample t x is read = record {
    ending = record {
      more = t ∷ [];
      result = Some x;
      readable = (read, tt);
      gives = λ ts rest row calm. one_takes t ts row.0 x row.1 is ∙ ap (λ (r : Tokens). put x r) row.2;
    };
    led = ([], refl);
  }

-- ---- one reading, and another one behind it

module _ {X Y : Type 0} (f : Tokens → Read X) (g : X → Tokens → Read Y)
    (loose_f : X → Bool) (loose_g : X → Y → Bool) (some_g : X → Bool) (t_g : X → Token) (loose : Y → Bool)
    (later : (x : X) (y : Y) → loose_g x y ≡ true → loose y ≡ true)
    (early : (x : X) (y : Y) (m rest : Tokens) → g x m ≡ Ok (y, rest) → some_g x ≡ false → loose_f x ≡ true → loose y ≡ true)
    (closes : (x : X) → some_g x ≡ true → loose_f x ≡ true → t_g x ≡ sign signed.Close)
    (S : (x : X) → Sampled (g x) (loose_g x) (some_g x) (t_g x)) where
  abbrev both : Tokens → Read Y
  both ts = f ts >>= (λ r. g r.0 r.1)

  ahead_later : (x : X) (o : Option Y) → LooksAhead (loose_g x) o → LooksAhead loose o
  ahead_later x None ahead = ahead
  ahead_later x (Some y) ahead = later x y ahead

  -- a loose reading ends before a sample of what is read behind it
  calm_by : (x : X) (flag : Bool) → some_g x ≡ flag → (e : Ending (g x) (loose_g x) []) → IsLed (g x) (loose_g x) flag (t_g x) e → loose_f x ≡ true
      → (ts rest : Tokens) → Row e.more ts rest → (LooksAhead loose e.result → Calm rest) → Calm ts
  unfolding first_of
  calm_by x true is e led ahead ts rest row calm =
      let first : Row (sign signed.Close ∷ led.0) ts rest = subst (λ (u : Token). Row (u ∷ led.0) ts rest) (closes x is ahead) (subst (λ (l : List Token). Row l ts rest) led.1 row) in
      inr (first.0, first.1)
  calm_by x false is e led ahead ts rest row calm =
      let last : Tokens = end 0 in
      let none : Row e.more last last = subst (λ (l : List Token). Row l last last) (sym led.0) refl in
      let read : g x last ≡ Ok (led.1, last) = gives_as (g x) (loose_g x) [] e (Some led.1) led.2 last last none (λ looks. inl refl) in
      let same : ts ≡ rest = subst (λ (l : List Token). Row l ts rest) led.0 row in
      subst Calm (sym same) (calm (subst (λ (o : Option Y). LooksAhead loose o) (sym led.2) (early x led.1 last last read is ahead)))

  -- an ending of the first, and a sample of what is read behind it
  joined : (before : List Token) (e : Ending f loose_f before) (o : Option X) → e.result ≡ o → Ending both loose before
  joined before e None is = record {
    more = e.more;
    result = None;
    readable = e.readable;
    gives = λ ts rest row calm. none_then (f ts) (λ r. g r.0 r.1) rest (gives_as f loose_f before e None is ts rest row (λ (no : ⊥). absurd no));
  }
  joined before e (Some x) is =
      let s = (S x).ending in
      record {
        more = e.more ++ s.more;
        result = s.result;
        readable = all_append e.more s.more e.readable s.readable;
        gives = λ ts rest row calm. (
            let whole : Row ((before ++ e.more) ++ s.more) ts rest = subst (λ (l : List Token). Row l ts rest) (sym (append_assoc before e.more s.more)) row in
            let p = row_split (before ++ e.more) s.more ts rest whole in
            let one : f ts ≡ Ok (x, p.0) = gives_as f loose_f before e (Some x) is ts p.0 p.1 (λ ahead. calm_by x (some_g x) refl s (S x).led ahead p.0 rest p.2 calm) in
            let two : Gives s.result (g x p.0) rest = s.gives p.0 rest p.2 (λ ahead. calm (ahead_later x s.result ahead)) in
            subst (λ (r : Read Y). Gives s.result r rest) (sym (ap (λ (r : Read X). r >>= (λ q. g q.0 q.1)) one)) two);
      }

  joined_led : (t : Token) (e : Ending f loose_f []) (o : Option X) (is : e.result ≡ o) → IsLed f loose_f true t e → IsLed both loose true t (joined [] e o is)
  unfolding joined
  joined_led t e None is led = led
  joined_led t e (Some x) is led = (led.0 ++ (S x).ending.more, ap (λ (l : List Token). l ++ (S x).ending.more) led.1)

  pub both_sample : (t : Token) → Sampled f loose_f true t → Sampled both loose true t
  both_sample t s = record { ending = joined [] s.ending s.ending.result refl; led = joined_led t s.ending s.ending.result refl s.led }

  -- what is read behind what was taken goes on
  taken_on : (ts mid : Tokens) (x : X) (a : Taken f loose_f true ts x mid) (more : List Token) (e : Ending (g x) (loose_g x) more)
      → ((at rest : Tokens) → Row (more ++ e.more) at rest → (LooksAhead loose e.result → Calm rest) → loose_f x ≡ true → Like mid at ⊎ Calm at)
      → Ending both loose (a.before ++ more)
  taken_on ts mid x a more e alike = record {
    more = e.more;
    result = e.result;
    readable = e.readable;
    gives = λ other rest row calm. (
        let whole : Row (a.before ++ (more ++ e.more)) other rest = subst (λ (l : List Token). Row l other rest) (append_assoc a.before more e.more) row in
        let p = row_split a.before (more ++ e.more) other rest whole in
        let one : f other ≡ Ok (x, p.0) = a.again other p.0 p.1 (λ needs. alike p.0 rest p.2 calm needs) in
        let two : Gives e.result (g x p.0) rest = e.gives p.0 rest p.2 (λ ahead. calm (ahead_later x e.result ahead)) in
        subst (λ (r : Read Y). Gives e.result r rest) (sym (ap (λ (r : Read X). r >>= (λ q. g q.0 q.1)) one)) two);
  }

  taken_goes : (ts mid here : Tokens) (x : X) (a : Taken f loose_f true ts x mid) (more : List Token) → Row more mid here → (IsSome more → Ending (g x) (loose_g x) more)
      → Ending both loose (a.before ++ more)
  taken_goes ts mid here x a [] row goes =
      taken_on ts mid x a [] (S x).ending (λ at rest other calm needs. inr (calm_by x (some_g x) refl (S x).ending (S x).led needs at rest other calm))
  taken_goes ts mid here x a (t ∷ more) row goes =
      let e = goes tt in
      taken_on ts mid x a (t ∷ more) e (λ at rest other calm needs. inl (led_like t more (more ++ e.more) mid here at rest row other))

  module _ (F : Fore f loose_f true) (G : (x : X) → Fore (g x) (loose_g x) (some_g x)) where
    -- what stands behind the first is alike or calm, where it needs be
    middle : (x : X) (y : Y) (b : List Token) (flag : Bool) → some_g x ≡ flag → (flag ≡ true → IsSome b) → (m z m' z' : Tokens) → g x m ≡ Ok (y, z) → Row b m z → Row b m' z'
        → (loose y ≡ true → Like z z' ⊎ Calm z') → loose_f x ≡ true → Like m m' ⊎ Calm m'
    middle x y b true is filled m z m' z' read row row' like needs = inl (row_like b m z m' z' (filled refl) row row')
    middle x y [] false is filled m z m' z' read row row' like needs =
        subst (λ (u : Tokens). Like u m' ⊎ Calm m') (sym row) (subst (λ (u : Tokens). Like z u ⊎ Calm u) (sym row') (like (early x y m z read is needs)))
    middle x y (t ∷ b) false is filled m z m' z' read row row' like needs = inl (led_like t b b m z m' z' row row')

    both_ok : (ts : Tokens) (y : Y) (rest : Tokens) → both ts ≡ Ok (y, rest) → Taken both loose true ts y rest
    both_ok ts y rest e =
        let step = bind_ok (f ts) (λ r. g r.0 r.1) (y, rest) e in
        let a = F.ok ts step.0.0 step.0.1 step.1 in
        let b = (G step.0.0).ok step.0.1 y rest step.2 in
        record {
          before = a.before ++ b.before;
          behind = row_append a.before b.before ts step.0.1 rest a.behind b.behind;
          takes = λ go. append_some a.before b.before (a.takes refl);
          again = λ other left row like. (let s = row_split a.before b.before other left row in
              let one = a.again other s.0 s.1 (middle step.0.0 y b.before (some_g step.0.0) refl b.takes step.0.1 rest s.0 left step.2 b.behind s.2 like) in
              let two = b.again s.0 left s.2 (λ needs. like (later step.0.0 y needs)) in
              ap (λ (r : Read X). r >>= (λ q. g q.0 q.1)) one ∙ two);
        }

    both_failed : (ts : Tokens) (fault : Fault) (r : Read X) → f ts ≡ r → (r >>= (λ q. g q.0 q.1)) ≡ Err fault → Failed both loose true ts fault
    both_failed ts fault (Err d) is e =
        let a = F.err ts fault (is ∙ ap failing (err_is d fault e)) in
        record {
          before = a.before;
          here = a.here;
          behind = a.behind;
          is = a.is;
          wrong = a.wrong;
          rest = a.rest;
          there = a.there;
          short = a.short;
          again = λ other at left row wrong filled. ap (λ (r : Read X). r >>= (λ q. g q.0 q.1)) (a.again other at left row wrong filled);
          goes = λ filled. (let e = a.goes filled in joined a.before e e.result refl);
        }
    both_failed ts fault (Ok q) is e =
        let a = F.ok ts q.0 q.1 is in
        let b = (G q.0).err q.1 fault e in
        record {
          before = a.before ++ b.before;
          here = b.here;
          behind = row_append a.before b.before ts q.1 b.here a.behind b.behind;
          is = b.is;
          wrong = b.wrong;
          rest = b.rest;
          there = b.there;
          short = b.short;
          again = λ other at left row wrong filled. (let s = row_split a.before b.before other at row in
              let one = a.again other s.0 s.1 (λ needs. inl (like_wrong b.before b.wrong q.1 b.here b.rest s.0 at left filled b.behind b.there s.2 wrong)) in
              ap (λ (r : Read X). r >>= (λ q. g q.0 q.1)) one ∙ b.again s.0 at left s.2 wrong filled);
          goes = λ filled. taken_goes ts q.1 b.here q.0 a b.before b.behind b.goes;
        }

    pub both_fore : Fore both loose true
    both_fore = record { ok = both_ok; err = λ ts fault e. both_failed ts fault (f ts) refl e }

-- ---- what was read is made into something

module _ {X Y : Type 0} (f : Tokens → Read X) (make : X → Y) (flag some : Bool) where
  abbrev remade : Tokens → Read Y
  remade ts = f ts >>= (λ r. put (make r.0) r.1)

  made_ending : (before : List Token) (e : Ending f (λ (x : X). flag) before) (o : Option X) → e.result ≡ o → Ending remade (λ (y : Y). flag) before
  made_ending before e None is = record {
    more = e.more;
    result = None;
    readable = e.readable;
    gives = λ ts rest row calm. none_then (f ts) (λ r. put (make r.0) r.1) rest (gives_as f (λ (x : X). flag) before e None is ts rest row (λ (no : ⊥). absurd no));
  }
  made_ending before e (Some x) is = record {
    more = e.more;
    result = Some (make x);
    readable = e.readable;
    gives = λ ts rest row calm. ap (λ (r : Read X). r >>= (λ q. put (make q.0) q.1)) (gives_as f (λ (x : X). flag) before e (Some x) is ts rest row calm);
  }

  made_led : (t : Token) (b : Bool) (e : Ending f (λ (x : X). flag) []) (o : Option X) (is : e.result ≡ o) → IsLed f (λ (x : X). flag) b t e → IsLed remade (λ (y : Y). flag) b t (made_ending [] e o is)
  unfolding made_ending
  made_led t true e None is led = led
  made_led t true e (Some x) is led = led
  made_led t false e None is led = absurd (let lost : None ≡ Some led.1 = sym is ∙ led.2 in cc)
  made_led t false e (Some x) is led = (led.0, make x, refl)

  pub made_sample : (t : Token) → Sampled f (λ (x : X). flag) some t → Sampled remade (λ (y : Y). flag) some t
  made_sample t s = record { ending = made_ending [] s.ending s.ending.result refl; led = made_led t some s.ending s.ending.result refl s.led }

  remade_failed : (F : Fore f (λ (x : X). flag) some) (ts : Tokens) (fault : Fault) (r : Read X) → f ts ≡ r → (r >>= (λ q. put (make q.0) q.1)) ≡ Err fault → Failed remade (λ (y : Y). flag) some ts fault
  remade_failed F ts fault (Ok q) is e = absurd cc
  remade_failed F ts fault (Err d) is e =
      let a = F.err ts fault (is ∙ ap failing (err_is d fault e)) in
      record {
        before = a.before;
        here = a.here;
        behind = a.behind;
        is = a.is;
        wrong = a.wrong;
        rest = a.rest;
        there = a.there;
        short = a.short;
        again = λ other at left row wrong filled. ap (λ (r : Read X). r >>= (λ q. put (make q.0) q.1)) (a.again other at left row wrong filled);
        goes = λ filled. (let e = a.goes filled in made_ending a.before e e.result refl);
      }

  remade_took : (F : Fore f (λ (x : X). flag) some) (ts : Tokens) (y : Y) (rest : Tokens) (r : Read X) → f ts ≡ r → (r >>= (λ q. put (make q.0) q.1)) ≡ Ok (y, rest) → Taken remade (λ (y : Y). flag) some ts y rest
  remade_took F ts y rest (Err d) is e = absurd cc
  remade_took F ts y rest (Ok q) is e =
      let same : (make q.0, q.1) ≡ (y, rest) = ok_is (make q.0, q.1) (y, rest) e in
      let a = F.ok ts q.0 q.1 is in
      let took : Taken remade (λ (y : Y). flag) some ts (make q.0) q.1 = record {
        before = a.before;
        behind = a.behind;
        takes = a.takes;
        again = λ other left row like. ap (λ (r : Read X). r >>= (λ p. put (make p.0) p.1)) (a.again other left row like);
      } in
      subst (λ (p : Y × Tokens). Taken remade (λ (y : Y). flag) some ts p.0 p.1) same took

  pub made_fore : Fore f (λ (x : X). flag) some → Fore remade (λ (y : Y). flag) some
  made_fore F = record { ok = λ ts y rest e. remade_took F ts y rest (f ts) refl e; err = λ ts fault e. remade_failed F ts fault (f ts) refl e }

-- ---- what was read is judged, and the fault is told at its front

module _ {X Y : Type 0} (f : Tokens → Read X) (judge : X → Option Y) (kind : QueryKind) where
  abbrev pub judged : Tokens → Read Y
  judged ts = f ts >>= (λ r. or_fault (judge r.0) (refused kind ts) >>= (λ y. put y r.1))

module _ {X Y : Type 0} (f : Tokens → Read X) (judge : X → Option Y) (kind : QueryKind) (later : IsLater kind)
    (loose_f : X → Bool) (loose : Y → Bool) (F : Fore f loose_f true)
    (keeps : (x : X) (y : Y) → judge x ≡ Some y → loose_f x ≡ true → loose y ≡ true)
    (firm : (x : X) → judge x ≡ None → loose_f x ≡ false) where
  abbrev judged_here : Tokens → Read Y
  judged_here = judged f judge kind

  told_kind : (a : List Token) (ts rest : Tokens) → IsSome a → Row a ts rest → (refused kind ts).kind ≡ kind
  unfolding first_of refused
  told_kind [] ts rest some row = absurd some
  told_kind (t ∷ a) (end place) rest some row = refl
  told_kind (t ∷ a) (broken fault) rest some row = absurd (let no : None ≡ Some (t, row.0) = row.1 in cc)
  told_kind (t ∷ a) (token place u left) rest some row = refl

  told_is : (ts : Tokens) (fault : Fault) → refused kind ts ≡ fault → fault ≡ refused fault.kind ts
  unfolding refused
  told_is (end place) fault same = subst (λ (d : Fault). d ≡ record { place = place; kind = d.kind }) same refl
  told_is (broken lexical) fault same = sym same
  told_is (token place t rest) fault same = subst (λ (d : Fault). d ≡ record { place = place; kind = d.kind }) same refl

  fine : (ts other left : Tokens) (x : X) (y : Y) → judge x ≡ Some y → f other ≡ Ok (x, left) → judged_here other ≡ Ok (y, left)
  fine ts other left x y is read =
      ap (λ (r : Read X). r >>= (λ q. or_fault (judge q.0) (refused kind other) >>= (λ z. put z q.1))) read
      ∙ ap (λ (o : Option Y). or_fault o (refused kind other) >>= (λ z. put z left)) is

  broken_by : (other left : Tokens) (x : X) → judge x ≡ None → f other ≡ Ok (x, left) → judged_here other ≡ Err (refused kind other)
  broken_by other left x is read =
      ap (λ (r : Read X). r >>= (λ q. or_fault (judge q.0) (refused kind other) >>= (λ z. put z q.1))) read
      ∙ ap (λ (o : Option Y). or_fault o (refused kind other) >>= (λ z. put z left)) is

  judged_by : (before : List Token) (e : Ending f loose_f before) (x : X) → e.result ≡ Some x → (o : Option Y) → judge x ≡ o → Ending judged_here loose before
  judged_by before e x is (Some y) found = record {
    more = e.more;
    result = Some y;
    readable = e.readable;
    gives = λ ts rest row calm. fine ts ts rest x y found (gives_as f loose_f before e (Some x) is ts rest row (λ ahead. calm (keeps x y found ahead)));
  }
  judged_by before e x is None found = record {
    more = e.more;
    result = None;
    readable = e.readable;
    gives = λ ts rest row calm. (
        let read : f ts ≡ Ok (x, rest) = gives_as f loose_f before e (Some x) is ts rest row (λ ahead. absurd (let lost : true ≡ false = sym ahead ∙ firm x found in cc)) in
        let a = F.ok ts x rest read in
        subst (λ (r : Read Y). Gives None r rest) (sym (broken_by ts rest x found read)) (subst IsLater (sym (told_kind a.before ts rest (a.takes refl) a.behind)) later));
  }

  judged_ending : (before : List Token) (e : Ending f loose_f before) (o : Option X) → e.result ≡ o → Ending judged_here loose before
  judged_ending before e (Some x) is = judged_by before e x is (judge x) refl
  judged_ending before e None is = record {
    more = e.more;
    result = None;
    readable = e.readable;
    gives = λ ts rest row calm. none_then (f ts) (λ r. or_fault (judge r.0) (refused kind ts) >>= (λ y. put y r.1)) rest (gives_as f loose_f before e None is ts rest row (λ (no : ⊥). absurd no));
  }

  judged_led_by : (t : Token) (e : Ending f loose_f []) (x : X) (is : e.result ≡ Some x) (o : Option Y) (found : judge x ≡ o) → IsLed f loose_f true t e → IsLed judged_here loose true t (judged_by [] e x is o found)
  unfolding judged_by
  judged_led_by t e x is None found led = led
  judged_led_by t e x is (Some y) found led = led

  judged_led : (t : Token) (e : Ending f loose_f []) (o : Option X) (is : e.result ≡ o) → IsLed f loose_f true t e → IsLed judged_here loose true t (judged_ending [] e o is)
  unfolding judged_ending
  judged_led t e None is led = led
  judged_led t e (Some x) is led = judged_led_by t e x is (judge x) refl led

  pub judged_sample : (t : Token) → Sampled f loose_f true t → Sampled (judged f judge kind) loose true t
  judged_sample t s = record { ending = judged_ending [] s.ending s.ending.result refl; led = judged_led t s.ending s.ending.result refl s.led }

  took_by : (ts : Tokens) (y : Y) (rest : Tokens) (x : X) (mid : Tokens) (o : Option Y) → judge x ≡ o → f ts ≡ Ok (x, mid)
      → (or_fault o (refused kind ts) >>= (λ z. put z mid)) ≡ Ok (y, rest) → Taken judged_here loose true ts y rest
  took_by ts y rest x mid None is read e = absurd cc
  took_by ts y rest x mid (Some z) is read e =
      let same : (z, mid) ≡ (y, rest) = ok_is (z, mid) (y, rest) e in
      let z_is : z ≡ y = ap (λ (q : Y × Tokens). q.0) same in
      let mid_is : mid ≡ rest = ap (λ (q : Y × Tokens). q.1) same in
      let a = F.ok ts x mid read in
      record {
        before = a.before;
        behind = subst (λ (t : Tokens). Row a.before ts t) mid_is a.behind;
        takes = a.takes;
        again = λ other left row like.
            fine ts other left x y (is ∙ ap (λ (w : Y). Some w) z_is) (a.again other left row
            (λ needs. subst (λ (t : Tokens). Like t left ⊎ Calm left) (sym mid_is) (like (keeps x y (is ∙ ap (λ (w : Y). Some w) z_is) needs))));
      }

  failed_by : (ts : Tokens) (fault : Fault) (x : X) (mid : Tokens) (o : Option Y) → judge x ≡ o → f ts ≡ Ok (x, mid)
      → (or_fault o (refused kind ts) >>= (λ z. put z mid)) ≡ Err fault → Failed judged_here loose true ts fault
  failed_by ts fault x mid (Some z) is read e = absurd cc
  failed_by ts fault x mid None is read e =
      let a = F.ok ts x mid read in
      let same : refused kind ts ≡ fault = err_is (refused kind ts) fault e in
      let kind_is : kind ≡ fault.kind = sym (told_kind a.before ts mid (a.takes refl) a.behind) ∙ ap (λ (d : Fault). d.kind) same in
      record {
        before = [];
        here = ts;
        behind = refl;
        is = told_is ts fault same;
        wrong = a.before;
        rest = mid;
        there = a.behind;
        short = inr (subst IsLater kind_is later, a.takes refl);
        again = λ other at left row wrong filled.
            ap judged_here row ∙ broken_by at left x is (a.again at left wrong (λ needs. absurd (let no : true ≡ false = sym needs ∙ firm x is in cc)))
            ∙ ap (λ (k : QueryKind). Err (refused k at)) kind_is;
        goes = λ filled. absurd filled;
      }

  failed_before : (ts : Tokens) (fault : Fault) (r : Read X) → f ts ≡ r
      → (r >>= (λ q. or_fault (judge q.0) (refused kind ts) >>= (λ z. put z q.1))) ≡ Err fault → Failed judged_here loose true ts fault
  failed_before ts fault (Ok q) is e = failed_by ts fault q.0 q.1 (judge q.0) refl is e
  failed_before ts fault (Err d) is e =
      let a = F.err ts fault (is ∙ ap failing (err_is d fault e)) in
      record {
        before = a.before;
        here = a.here;
        behind = a.behind;
        is = a.is;
        wrong = a.wrong;
        rest = a.rest;
        there = a.there;
        short = a.short;
        again = λ other at left row wrong filled.
            ap (λ (r : Read X). r >>= (λ q. or_fault (judge q.0) (refused kind other) >>= (λ z. put z q.1))) (a.again other at left row wrong filled);
        goes = λ filled. (let e = a.goes filled in judged_ending a.before e e.result refl);
      }

  took_before : (ts : Tokens) (y : Y) (rest : Tokens) (r : Read X) → f ts ≡ r
      → (r >>= (λ q. or_fault (judge q.0) (refused kind ts) >>= (λ z. put z q.1))) ≡ Ok (y, rest) → Taken judged_here loose true ts y rest
  took_before ts y rest (Ok q) is e = took_by ts y rest q.0 q.1 (judge q.0) refl is e
  took_before ts y rest (Err d) is e = absurd cc

  pub judged_fore : Fore (judged f judge kind) loose true
  judged_fore = record { ok = λ ts y rest e. took_before ts y rest (f ts) refl e; err = λ ts fault e. failed_before ts fault (f ts) refl e }
