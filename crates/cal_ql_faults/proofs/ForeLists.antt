-- Lists of items, which stop where no comma stands.
use Rattle.std.proofs.Common.{◌≡◌, ◌⊎◌, ℕ, zero, suc, ◌≤◌, true, List, [], ◌∷◌, ◌++◌, Option, Some, None, Ok, Err, refl, sym, ap, subst, ◌∙◌, append_assoc, arith, inl, inr}
use Rattle.std.specs.Option.{option_map, option_map_or}
use Rattle.cal_ql.specs.Grammar.{The}
use Rattle.cal_ql.specs.Reading.{Read, ◌>>=◌, behind_sign, count, first_of, further_within, refused, separated}
use Rattle.cal_ql.specs.Tokens.{Fault, Token, Tokens, end, broken, token, sign}
use Rattle.cal_ql.specs.declared.token.Sign.TheVariants as signed
use Rattle.cal_ql.proofs.Binds.{ok_is}
use Rattle.cal_ql.proofs.GrammarSound.{sign_found}
use Rattle.cal_ql.proofs.GrammarStops.{sign_is}
use Rattle.cal_ql.proofs.Lists.{first_count}
use Rattle.cal_ql_faults.specs.FaultPlaces.{IsLater, IsSome, Row, first_tokens}
use Rattle.cal_ql_faults.proofs.Ahead.{calm_comma, sign_stays}
use Rattle.cal_ql.proofs.Spelling.{IsRead}
use Rattle.std.specs.List.{AllByRecursion}
use Rattle.cal_ql_faults.proofs.Fores.{Ending, Failed, Fore, Gives, IsLed, LooksAhead, Sampled, Taken, err_is, failing, gives_as, goes_on, none_then, put}
use Rattle.cal_ql_faults.proofs.Rows.{Calm, Like, append_some, led_like, like_wrong, row_append, row_count, row_split}

abbrev comma : Token
comma = sign signed.Comma

-- what stands before alike or calm tokens, behind the same row
pub middle_like : (b : List Token) (m z m' z' : Tokens) → Row b m z → Row b m' z' → Like z z' ⊎ Calm z' → Like m m' ⊎ Calm m'
middle_like [] m z m' z' row row' like =
    subst (λ (u : Tokens). Like u m' ⊎ Calm m') (sym row) (subst (λ (u : Tokens). Like z u ⊎ Calm u) (sym row') like)
middle_like (t ∷ b) m z m' z' row row' like = inl (led_like t b b m z m' z' row row')

pub front_like : (b more : List Token) (m z m' z' : Tokens) → IsSome b → Row b m z → Row (b ++ more) m' z' → Like m m'
front_like [] more m z m' z' filled row row' = absurd filled
front_like (t ∷ b) more m z m' z' filled row row' = led_like t b (b ++ more) m z m' z' row row'

module _ {X : Type 0} (item : ℕ → Tokens → Read X) (t : ℕ → Token)
    (sample : (n : ℕ) → Sampled (item n) (λ (x : X). true) true (t n)) where
  -- further items, wherever there is room for as many as there are tokens
  record FurtherTaken (n : ℕ) (ts : Tokens) (xs : List X) (rest : Tokens) : Type 0 where
    before : List Token
    behind : Row before ts rest
    again : (most : ℕ) (other left : Tokens) → count other ≤ most → Row before other left → Like rest left ⊎ Calm left → further_within most item n other ≡ Ok (xs, left)

  -- how they may go on
  record FurtherEnding (n : ℕ) (before : List Token) : Type 0 where
    more : List Token
    result : Option (List X)
    readable : AllByRecursion IsRead more
    gives : (most : ℕ) (other rest : Tokens) → count other ≤ most → Row (before ++ more) other rest → (LooksAhead (λ (ys : List X). true) result → Calm rest)
        → Gives result (further_within most item n other) rest

  record FurtherFailed (n : ℕ) (ts : Tokens) (fault : Fault) : Type 0 where
    before : List Token
    here : Tokens
    behind : Row before ts here
    is : fault ≡ refused fault.kind here
    wrong : List Token
    rest : Tokens
    there : Row wrong here rest
    short : (wrong ≡ first_tokens here) ⊎ (IsLater fault.kind × IsSome wrong)
    again : (most : ℕ) (other at left : Tokens) → count other ≤ most → Row before other at → Row wrong at left → IsSome wrong → further_within most item n other ≡ Err (refused fault.kind at)
    filled : IsSome before
    goes : FurtherEnding n before

  stops_within : (most n : ℕ) (ts : Tokens) → behind_sign signed.Comma ts ≡ None → further_within most item n ts ≡ Ok ([], ts)
  stops_within zero n ts none = refl
  stops_within (suc most) n ts none = rw none refl

  stays_none : (ts other : Tokens) → behind_sign signed.Comma ts ≡ None → Like ts other ⊎ Calm other → behind_sign signed.Comma other ≡ None
  stays_none ts other none (inl like) = sign_stays signed.Comma ts other like none
  stays_none ts other none (inr calm) = calm_comma other calm

  stopped : (n : ℕ) (ts : Tokens) (xs : List X) (rest : Tokens) → behind_sign signed.Comma ts ≡ None → put {Y = List X} [] ts ≡ Ok (xs, rest) → FurtherTaken n ts xs rest
  stopped n ts xs rest none e =
      let same : ([], ts) ≡ (xs, rest) = ok_is ([], ts) (xs, rest) e in
      let ts_is : ts ≡ rest = ap (λ (q : List X × Tokens). q.1) same in
      record {
        before = [];
        behind = ts_is;
        again = λ most other left enough row like.
            stops_within most n other (stays_none ts other none (middle_like [] ts rest other left ts_is row like))
            ∙ ap (λ (t : Tokens). put {Y = List X} [] t) row ∙ ap (λ (ys : List X). put ys left) (ap (λ (q : List X × Tokens). q.0) same);
      }

  -- an item behind a comma, and those behind it
  abbrev behind_comma : (most n : ℕ) → Tokens → Read (List X)
  behind_comma most n rest = item n rest >>= (λ one. further_within most item (suc n) one.1 >>= (λ others. put (one.0 ∷ others.0) others.1))

  with_comma : (most n : ℕ) (ts b : Tokens) → behind_sign signed.Comma ts ≡ Some b → further_within (suc most) item n ts ≡ behind_comma most n b
  with_comma most n ts b is = ap (λ (o : Option Tokens). option_map_or (λ rest. behind_comma most n rest) o (put {Y = List X} [] ts)) is

  with_item : (most n : ℕ) (b mid : Tokens) (x : X) → item n b ≡ Ok (x, mid) → behind_comma most n b ≡ (further_within most item (suc n) mid >>= (λ others. put (x ∷ others.0) others.1))
  with_item most n b mid x is = ap (λ (r : Read X). r >>= (λ one. further_within most item (suc n) one.1 >>= (λ others. put (one.0 ∷ others.0) others.1))) is

  with_none : (most n : ℕ) (b : Tokens) (fault : Fault) → item n b ≡ Err fault → behind_comma most n b ≡ Err fault
  with_none most n b fault is = ap (λ (r : Read X). r >>= (λ one. further_within most item (suc n) one.1 >>= (λ others. put (one.0 ∷ others.0) others.1))) is

  -- room for one more, behind a comma
  room : (most : ℕ) (other b : Tokens) → count other ≤ most → The comma other b → (left : ℕ) × (most ≡ suc left) × (count b ≤ left)
  room zero other b enough the = absurd (omega (arith, enough, first_count other b comma the))
  room (suc left) other b enough the = (left, refl, omega (arith, enough, first_count other b comma the))

  again_by : (n : ℕ) (b mid rest : Tokens) (x : X) (ys : List X) → Taken (item n) (λ (z : X). true) true b x mid → FurtherTaken (suc n) mid ys rest
      → (ts : Tokens) → The comma ts b → FurtherTaken n ts (x ∷ ys) rest
  again_by n b mid rest x ys a c ts the = record {
    before = comma ∷ (a.before ++ c.before);
    behind = (b, the, row_append a.before c.before b mid rest a.behind c.behind);
    again = λ most other left enough row like. (let fits = room most other row.0 enough row.1 in
        let s = row_split a.before c.before row.0 left row.2 in
        let one = a.again row.0 s.0 s.1 (λ needs. middle_like c.before mid rest s.0 left c.behind s.2 like) in
        let two = c.again fits.0 s.0 left (omega (arith, fits.2, row_count a.before row.0 s.0 s.1)) s.2 like in
        ap (λ (m : ℕ). further_within m item n other) fits.1 ∙ with_comma fits.0 n other row.0 (sign_is signed.Comma other row.0 row.1)
        ∙ with_item fits.0 n row.0 s.0 x one ∙ ap (λ (r : Read (List X)). r >>= (λ others. put (x ∷ others.0) others.1)) two);
  }

  item_ending : (n : ℕ) (b : List Token) (e : Ending (item n) (λ (z : X). true) b) (o : Option X) → e.result ≡ o → FurtherEnding n (comma ∷ b)
  item_ending n b e (Some x) is = record {
    more = e.more;
    result = Some (x ∷ []);
    readable = e.readable;
    gives = λ most other rest enough row calm. (let fits = room most other row.0 enough row.1 in
        let one : item n row.0 ≡ Ok (x, rest) = gives_as (item n) (λ (z : X). true) b e (Some x) is row.0 rest row.2 (λ ahead. calm refl) in
        ap (λ (m : ℕ). further_within m item n other) fits.1 ∙ with_comma fits.0 n other row.0 (sign_is signed.Comma other row.0 row.1)
        ∙ with_item fits.0 n row.0 rest x one ∙ ap (λ (r : Read (List X)). r >>= (λ others. put (x ∷ others.0) others.1)) (stops_within fits.0 (suc n) rest (calm_comma rest (calm refl))));
  }
  item_ending n b e None is = record {
    more = e.more;
    result = None;
    readable = e.readable;
    gives = λ most other rest enough row calm. (let fits = room most other row.0 enough row.1 in
        let one : Gives None (item n row.0) rest = gives_as (item n) (λ (z : X). true) b e None is row.0 rest row.2 (λ (no : ⊥). absurd no) in
        let all : further_within most item n other ≡ behind_comma fits.0 n row.0 = ap (λ (m : ℕ). further_within m item n other) fits.1 ∙ with_comma fits.0 n other row.0 (sign_is signed.Comma other row.0 row.1) in
        subst (λ (r : Read (List X)). Gives None r rest) (sym all)
        (none_then (item n row.0) (λ one. further_within fits.0 item (suc n) one.1 >>= (λ others. put (one.0 ∷ others.0) others.1)) rest one));
  }

  failed_item : (n : ℕ) (b : Tokens) (fault : Fault) → Failed (item n) (λ (z : X). true) true b fault → (ts : Tokens) → The comma ts b → FurtherFailed n ts fault
  failed_item n b fault a ts the = record {
    before = comma ∷ a.before;
    here = a.here;
    behind = (b, the, a.behind);
    is = a.is;
    wrong = a.wrong;
    rest = a.rest;
    there = a.there;
    short = a.short;
    again = λ most other at left enough row wrong filled. (let fits = room most other row.0 enough row.1 in
        ap (λ (m : ℕ). further_within m item n other) fits.1 ∙ with_comma fits.0 n other row.0 (sign_is signed.Comma other row.0 row.1)
        ∙ with_none fits.0 n row.0 (refused fault.kind at) (a.again row.0 at left row.2 wrong filled));
    filled = tt;
    goes = (let e = goes_on (item n) (λ (z : X). true) a.before (sample n).ending a.goes in item_ending n a.before e e.result refl);
  }

  longer : (x : X) (o : Option (List X)) (r : Read (List X)) (rest : Tokens) → Gives o r rest → Gives (option_map (λ xs. x ∷ xs) o) (r >>= (λ others. put (x ∷ others.0) others.1)) rest
  longer x (Some xs) r rest is = ap (λ (q : Read (List X)). q >>= (λ others. put (x ∷ others.0) others.1)) is
  longer x None r rest later = none_then r (λ others. put (x ∷ others.0) others.1) rest later

  longer_ahead : (x : X) (o : Option (List X)) → LooksAhead (λ (ys : List X). true) o → LooksAhead (λ (ys : List X). true) (option_map (λ xs. x ∷ xs) o)
  longer_ahead x (Some xs) ahead = ahead
  longer_ahead x None ahead = ahead

  more_ending : (n : ℕ) (b mid : Tokens) (x : X) (fault : Fault) (a : Taken (item n) (λ (z : X). true) true b x mid) (c : FurtherFailed (suc n) mid fault) → FurtherEnding n (comma ∷ (a.before ++ c.before))
  more_ending n b mid x fault a c =
      let e = c.goes in
      record {
        more = e.more;
        result = option_map (λ xs. x ∷ xs) e.result;
        readable = e.readable;
        gives = λ most other rest enough row calm. (let fits = room most other row.0 enough row.1 in
            let whole : Row (a.before ++ (c.before ++ e.more)) row.0 rest = subst (λ (l : List Token). Row l row.0 rest) (append_assoc a.before c.before e.more) row.2 in
            let s = row_split a.before (c.before ++ e.more) row.0 rest whole in
            let one = a.again row.0 s.0 s.1 (λ needs. inl (front_like c.before e.more mid c.here s.0 rest c.filled c.behind s.2)) in
            let two = e.gives fits.0 s.0 rest (omega (arith, fits.2, row_count a.before row.0 s.0 s.1)) s.2 (λ ahead. calm (longer_ahead x e.result ahead)) in
            let all : further_within most item n other ≡ (further_within fits.0 item (suc n) s.0 >>= (λ others. put (x ∷ others.0) others.1)) =
            ap (λ (m : ℕ). further_within m item n other) fits.1 ∙ with_comma fits.0 n other row.0 (sign_is signed.Comma other row.0 row.1) ∙ with_item fits.0 n row.0 s.0 x one in
            subst (λ (r : Read (List X)). Gives (option_map (λ xs. x ∷ xs) e.result) r rest) (sym all) (longer x e.result (further_within fits.0 item (suc n) s.0) rest two));
      }

  failed_more : (n : ℕ) (b mid : Tokens) (x : X) (fault : Fault) → Taken (item n) (λ (z : X). true) true b x mid → FurtherFailed (suc n) mid fault
      → (ts : Tokens) → The comma ts b → FurtherFailed n ts fault
  failed_more n b mid x fault a c ts the = record {
    before = comma ∷ (a.before ++ c.before);
    here = c.here;
    behind = (b, the, row_append a.before c.before b mid c.here a.behind c.behind);
    is = c.is;
    wrong = c.wrong;
    rest = c.rest;
    there = c.there;
    short = c.short;
    again = λ most other at left enough row wrong filled. (let fits = room most other row.0 enough row.1 in
        let s = row_split a.before c.before row.0 at row.2 in
        let one = a.again row.0 s.0 s.1 (λ needs. inl (like_wrong c.before c.wrong mid c.here c.rest s.0 at left filled c.behind c.there s.2 wrong)) in
        let two = c.again fits.0 s.0 at left (omega (arith, fits.2, row_count a.before row.0 s.0 s.1)) s.2 wrong filled in
        ap (λ (m : ℕ). further_within m item n other) fits.1 ∙ with_comma fits.0 n other row.0 (sign_is signed.Comma other row.0 row.1)
        ∙ with_item fits.0 n row.0 s.0 x one ∙ ap (λ (r : Read (List X)). r >>= (λ others. put (x ∷ others.0) others.1)) two);
    filled = tt;
    goes = more_ending n b mid x fault a c;
  }

  no_sign : (ts : Tokens) → count ts ≤ 0 → behind_sign signed.Comma ts ≡ None
  unfolding behind_sign first_of
  no_sign (end place) few = refl
  no_sign (broken fault) few = refl
  no_sign (token place t rest) few = absurd (omega arith)

  -- ---- the whole list

  abbrev list_of : X → Read (List X) → Read (List X)
  list_of x r = r >>= (λ others. put (x ∷ others.0) others.1)

  separated_is : (ts mid : Tokens) (x : X) → item 0 ts ≡ Ok (x, mid) → separated item ts ≡ list_of x (further_within (count mid) item 1 mid)
  unfolding separated
  separated_is ts mid x is = ap (λ (r : Read X). r >>= (λ one. further_within (count one.1) item 1 one.1 >>= (λ others. put (one.0 ∷ others.0) others.1))) is

  separated_none : (ts : Tokens) (fault : Fault) → item 0 ts ≡ Err fault → separated item ts ≡ Err fault
  unfolding separated
  separated_none ts fault is = ap (λ (r : Read X). r >>= (λ one. further_within (count one.1) item 1 one.1 >>= (λ others. put (one.0 ∷ others.0) others.1))) is

  first_ending : (b : List Token) (e : Ending (item 0) (λ (z : X). true) b) (o : Option X) → e.result ≡ o → Ending (separated item) (λ (ys : List X). true) b
  unfolding separated
  first_ending b e (Some x) is = record {
    more = e.more;
    result = Some (x ∷ []);
    readable = e.readable;
    gives = λ ts rest row calm.
        separated_is ts rest x (gives_as (item 0) (λ (z : X). true) b e (Some x) is ts rest row (λ ahead. calm refl))
        ∙ ap (list_of x) (stops_within (count rest) 1 rest (calm_comma rest (calm refl)));
  }
  first_ending b e None is = record {
    more = e.more;
    result = None;
    readable = e.readable;
    gives = λ ts rest row calm.
        none_then (item 0 ts) (λ one. further_within (count one.1) item 1 one.1 >>= (λ others. put (one.0 ∷ others.0) others.1)) rest
        (gives_as (item 0) (λ (z : X). true) b e None is ts rest row (λ (no : ⊥). absurd no));
  }

  first_led : (e : Ending (item 0) (λ (z : X). true) []) (o : Option X) (is : e.result ≡ o) → IsLed (item 0) (λ (z : X). true) true (t 0) e
      → IsLed (separated item) (λ (ys : List X). true) true (t 0) (first_ending [] e o is)
  unfolding first_ending
  first_led e (Some x) is led = led
  first_led e None is led = led

  pub separated_sample : Sampled (separated item) (λ (ys : List X). true) true (t 0)
  separated_sample = record {
    ending = first_ending [] (sample 0).ending (sample 0).ending.result refl;
    led = first_led (sample 0).ending (sample 0).ending.result refl (sample 0).led;
  }

  rest_ending : (ts mid : Tokens) (x : X) (fault : Fault) (a : Taken (item 0) (λ (z : X). true) true ts x mid) (c : FurtherFailed 1 mid fault) → Ending (separated item) (λ (ys : List X). true) (a.before ++ c.before)
  rest_ending ts mid x fault a c =
      let e = c.goes in
      record {
        more = e.more;
        result = option_map (λ xs. x ∷ xs) e.result;
        readable = e.readable;
        gives = λ other rest row calm. (
            let whole : Row (a.before ++ (c.before ++ e.more)) other rest = subst (λ (l : List Token). Row l other rest) (append_assoc a.before c.before e.more) row in
            let s = row_split a.before (c.before ++ e.more) other rest whole in
            let one = a.again other s.0 s.1 (λ needs. inl (front_like c.before e.more mid c.here s.0 rest c.filled c.behind s.2)) in
            let two = e.gives (count s.0) s.0 rest (omega arith) s.2 (λ ahead. calm (longer_ahead x e.result ahead)) in
            subst (λ (r : Read (List X)). Gives (option_map (λ xs. x ∷ xs) e.result) r rest) (sym (separated_is other s.0 x one))
            (longer x e.result (further_within (count s.0) item 1 s.0) rest two));
      }

  module _ (each : (n : ℕ) → Fore (item n) (λ (x : X). true) true) where
    -- what a list of further items gave, by what the items behind the next one give
    module _ (most n : ℕ) (ts : Tokens) (xs : List X) (rest : Tokens)
        (others_ok : (m : Tokens) (ys : List X) (left : Tokens) → count m ≤ most → further_within most item (suc n) m ≡ Ok (ys, left) → FurtherTaken (suc n) m ys left) where
      rest_ok : (b mid : Tokens) (x : X) (r : Read (List X)) → The comma ts b → count mid ≤ most → item n b ≡ Ok (x, mid)
          → further_within most item (suc n) mid ≡ r → (r >>= (λ others. put (x ∷ others.0) others.1)) ≡ Ok (xs, rest) → FurtherTaken n ts xs rest
      rest_ok b mid x (Err fault) the enough is further e = absurd cc
      rest_ok b mid x (Ok others) the enough is further e =
          let same : (x ∷ others.0, others.1) ≡ (xs, rest) = ok_is (x ∷ others.0, others.1) (xs, rest) e in
          let a = (each n).ok b x mid is in
          let c = others_ok mid others.0 others.1 enough further in
          subst (λ (q : List X × Tokens). FurtherTaken n ts q.0 q.1) same (again_by n b mid others.1 x others.0 a c ts the)

      item_ok : (b : Tokens) (r : Read X) → The comma ts b → count b ≤ most → item n b ≡ r
          → (r >>= (λ one. further_within most item (suc n) one.1 >>= (λ others. put (one.0 ∷ others.0) others.1))) ≡ Ok (xs, rest) → FurtherTaken n ts xs rest
      item_ok b (Err fault) the enough is e = absurd cc
      item_ok b (Ok one) the enough is e =
          let a = (each n).ok b one.0 one.1 is in
          rest_ok b one.1 one.0 (further_within most item (suc n) one.1) the (omega (arith, enough, row_count a.before b one.1 a.behind)) is refl e

      found_ok : (o : Option Tokens) → count ts ≤ suc most → behind_sign signed.Comma ts ≡ o
          → further_within (suc most) item n ts ≡ Ok (xs, rest) → FurtherTaken n ts xs rest
      found_ok None enough is e = stopped n ts xs rest is (sym (stops_within (suc most) n ts is) ∙ e)
      found_ok (Some b) enough is e =
          let the : The comma ts b = sign_found signed.Comma ts b is in
          item_ok b (item n b) the (omega (arith, enough, first_count ts b comma the)) refl (sym (with_comma most n ts b is) ∙ e)

    further_ok : (most n : ℕ) (ts : Tokens) (xs : List X) (rest : Tokens) → count ts ≤ most → further_within most item n ts ≡ Ok (xs, rest) → FurtherTaken n ts xs rest
    further_ok zero n ts xs rest enough e = stopped n ts xs rest (no_sign ts enough) e
    further_ok (suc most) n ts xs rest enough e =
        found_ok most n ts xs rest (λ m ys left few read. further_ok most (suc n) m ys left few read) (behind_sign signed.Comma ts) enough refl e

    -- where it failed
    module _ (most n : ℕ) (ts : Tokens) (fault : Fault)
        (others_err : (m : Tokens) → count m ≤ most → further_within most item (suc n) m ≡ Err fault → FurtherFailed (suc n) m fault) where
      rest_err : (b mid : Tokens) (x : X) (r : Read (List X)) → The comma ts b → count mid ≤ most → item n b ≡ Ok (x, mid)
          → further_within most item (suc n) mid ≡ r → (r >>= (λ others. put (x ∷ others.0) others.1)) ≡ Err fault → FurtherFailed n ts fault
      rest_err b mid x (Ok others) the enough is further e = absurd cc
      rest_err b mid x (Err d) the enough is further e =
          failed_more n b mid x fault ((each n).ok b x mid is) (others_err mid enough (further ∙ ap failing (err_is d fault e))) ts the

      item_err : (b : Tokens) (r : Read X) → The comma ts b → count b ≤ most → item n b ≡ r
          → (r >>= (λ one. further_within most item (suc n) one.1 >>= (λ others. put (one.0 ∷ others.0) others.1))) ≡ Err fault → FurtherFailed n ts fault
      item_err b (Err d) the enough is e = failed_item n b fault ((each n).err b fault (is ∙ ap failing (err_is d fault e))) ts the
      item_err b (Ok one) the enough is e =
          let a = (each n).ok b one.0 one.1 is in
          rest_err b one.1 one.0 (further_within most item (suc n) one.1) the (omega (arith, enough, row_count a.before b one.1 a.behind)) is refl e

      found_err : (o : Option Tokens) → count ts ≤ suc most → behind_sign signed.Comma ts ≡ o
          → further_within (suc most) item n ts ≡ Err fault → FurtherFailed n ts fault
      found_err None enough is e = absurd (let no : put {Y = List X} [] ts ≡ Err fault = sym (stops_within (suc most) n ts is) ∙ e in cc)
      found_err (Some b) enough is e =
          let the : The comma ts b = sign_found signed.Comma ts b is in
          item_err b (item n b) the (omega (arith, enough, first_count ts b comma the)) refl (sym (with_comma most n ts b is) ∙ e)

    further_err : (most n : ℕ) (ts : Tokens) (fault : Fault) → count ts ≤ most → further_within most item n ts ≡ Err fault → FurtherFailed n ts fault
    further_err zero n ts fault enough e = absurd cc
    further_err (suc most) n ts fault enough e =
        found_err most n ts fault (λ m few read. further_err most (suc n) m fault few read) (behind_sign signed.Comma ts) enough refl e

    all_ok : (ts mid : Tokens) (x : X) (xs : List X) (rest : Tokens) (r : Read (List X)) → item 0 ts ≡ Ok (x, mid) → further_within (count mid) item 1 mid ≡ r
        → list_of x r ≡ Ok (xs, rest) → Taken (separated item) (λ (ys : List X). true) true ts xs rest
    all_ok ts mid x xs rest (Err fault) is more e = absurd cc
    all_ok ts mid x xs rest (Ok others) is more e =
        let same : (x ∷ others.0, others.1) ≡ (xs, rest) = ok_is (x ∷ others.0, others.1) (xs, rest) e in
        let a = (each 0).ok ts x mid is in
        let c = further_ok (count mid) 1 mid others.0 others.1 (omega arith) more in
        let took : Taken (separated item) (λ (ys : List X). true) true ts (x ∷ others.0) others.1 = record {
          before = a.before ++ c.before;
          behind = row_append a.before c.before ts mid others.1 a.behind c.behind;
          takes = λ go. append_some a.before c.before (a.takes refl);
          again = λ other left row like. (let s = row_split a.before c.before other left row in
              let one = a.again other s.0 s.1 (λ needs. middle_like c.before mid others.1 s.0 left c.behind s.2 (like refl)) in
              separated_is other s.0 x one ∙ ap (list_of x) (let enough : count s.0 ≤ count s.0 = omega arith in c.again (count s.0) s.0 left enough s.2 (like refl)));
        } in
        subst (λ (q : List X × Tokens). Taken (separated item) (λ (ys : List X). true) true ts q.0 q.1) same took

    all_err : (ts mid : Tokens) (x : X) (fault : Fault) (r : Read (List X)) → item 0 ts ≡ Ok (x, mid) → further_within (count mid) item 1 mid ≡ r
        → list_of x r ≡ Err fault → Failed (separated item) (λ (ys : List X). true) true ts fault
    all_err ts mid x fault (Ok others) is more e = absurd cc
    all_err ts mid x fault (Err d) is more e =
        let a = (each 0).ok ts x mid is in
        let c = further_err (count mid) 1 mid fault (omega arith) (more ∙ ap failing (err_is d fault e)) in
        record {
          before = a.before ++ c.before;
          here = c.here;
          behind = row_append a.before c.before ts mid c.here a.behind c.behind;
          is = c.is;
          wrong = c.wrong;
          rest = c.rest;
          there = c.there;
          short = c.short;
          again = λ other at left row wrong filled. (let s = row_split a.before c.before other at row in
              let one = a.again other s.0 s.1 (λ needs. inl (like_wrong c.before c.wrong mid c.here c.rest s.0 at left filled c.behind c.there s.2 wrong)) in
              separated_is other s.0 x one ∙ ap (list_of x) (let enough : count s.0 ≤ count s.0 = omega arith in c.again (count s.0) s.0 at left enough s.2 wrong filled));
          goes = λ filled. rest_ending ts mid x fault a c;
        }

    first_ok : (ts : Tokens) (xs : List X) (rest : Tokens) (r : Read X) → item 0 ts ≡ r → separated item ts ≡ Ok (xs, rest) → Taken (separated item) (λ (ys : List X). true) true ts xs rest
    first_ok ts xs rest (Err fault) is e = absurd (let no : failing fault ≡ Ok (xs, rest) = sym (separated_none ts fault is) ∙ e in cc)
    first_ok ts xs rest (Ok one) is e = all_ok ts one.1 one.0 xs rest (further_within (count one.1) item 1 one.1) is refl (sym (separated_is ts one.1 one.0 is) ∙ e)

    first_err : (ts : Tokens) (fault : Fault) (r : Read X) → item 0 ts ≡ r → separated item ts ≡ Err fault → Failed (separated item) (λ (ys : List X). true) true ts fault
    first_err ts fault (Ok one) is e = all_err ts one.1 one.0 fault (further_within (count one.1) item 1 one.1) is refl (sym (separated_is ts one.1 one.0 is) ∙ e)
    first_err ts fault (Err d) is e =
        let a = (each 0).err ts fault (is ∙ ap failing (err_is d fault (sym (separated_none ts d is) ∙ e))) in
        record {
          before = a.before;
          here = a.here;
          behind = a.behind;
          is = a.is;
          wrong = a.wrong;
          rest = a.rest;
          there = a.there;
          short = a.short;
          again = λ other at left row wrong filled. separated_none other (refused fault.kind at) (a.again other at left row wrong filled);
          goes = λ filled. (let e = a.goes filled in first_ending a.before e e.result refl);
        }

    pub separated_fore : Fore (separated item) (λ (ys : List X). true) true
    separated_fore = record { ok = λ ts xs rest e. first_ok ts xs rest (item 0 ts) refl e; err = λ ts fault e. first_err ts fault (item 0 ts) refl e }
