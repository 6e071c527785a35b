-- What is of the grammar is read: the parts that every rule has, and what may stand behind a part.
use Rattle.std.proofs.Common.{◌≡◌, ℕ, zero, suc, ◌≤◌, Bool, true, false, List, [], ◌∷◌, Option, Some, None, Ok, refl, sym, ap, subst, ◌∙◌, arith, inl, inr}
use Rattle.std.specs.Prelude.{nat_eq}
use Rattle.std.specs.Cmp.Lexicographic.{pointwise, bytes_decides}
use Rattle.cal_ql.specs.declared.token.Sign as signs
use Rattle.cal_ql.specs.declared.token.Sign.TheVariants as signed
use Rattle.cal_ql.specs.declared.token.Keyword as keywords
use Rattle.cal_ql.specs.declared.token.Keyword.TheVariants as keyword
use Rattle.cal_ql.specs.Names.{keyword_name}
use Rattle.cal_ql.specs.Signs.{sign_text}
use Rattle.cal_ql.specs.Tokens.{Token, key, word, quoted, sign, Tokens}
use Rattle.cal_ql.specs.Reading.{Read, count, first_of, behind_this_sign, behind_this_key, behind_sign, behind_key, past_sign, name_at, header_at, further_within, separated}
use Rattle.cal_ql.specs.Conds.{behind_relation, relation_first}
use Rattle.cal_ql.specs.Grammar.{The, Name, Listed, Header}
use Rattle.cal_ql.proofs.Choices.{either_way}
use Rattle.cal_ql.proofs.GrammarSound.{Followed, same_sign, same_key}
use Rattle.cal_ql.proofs.Lists.{first_count}

-- ---- tokens

pub sign_is : (s : signs.Sign) (ts rest : Tokens) → The (sign s) ts rest → behind_sign s ts ≡ Some rest
unfolding behind_sign
sign_is s ts rest the = rw (the, (bytes_decides (sign_text s) (sign_text s)).1 refl) refl

pub key_is : (k : keywords.Keyword) (ts rest : Tokens) → The (key k) ts rest → behind_key k ts ≡ Some rest
unfolding behind_key
key_is k ts rest the = rw (the, (bytes_decides (keyword_name k) (keyword_name k)).1 refl) refl

pub past_is : (s : signs.Sign) (ts rest : Tokens) → The (sign s) ts rest → past_sign s ts ≡ Ok rest
unfolding past_sign
past_is s ts rest the = rw (sign_is s ts rest the) refl

pub name_is : (name : List ℕ) (ts rest : Tokens) → Name name ts rest → name_at ts ≡ Ok (name, rest)
unfolding name_at
name_is name ts rest (inl the) = rw the refl
name_is name ts rest (inr the) = rw the refl

-- a name is no sign and no keyword
pub name_no_sign : (s : signs.Sign) (name : List ℕ) (ts rest : Tokens) → Name name ts rest → behind_sign s ts ≡ None
unfolding behind_sign
name_no_sign s name ts rest (inl the) = rw the refl
name_no_sign s name ts rest (inr the) = rw the refl

pub name_no_key : (k : keywords.Keyword) (name : List ℕ) (ts rest : Tokens) → Name name ts rest → behind_key k ts ≡ None
unfolding behind_key
name_no_key k name ts rest (inl the) = rw the refl
name_no_key k name ts rest (inr the) = rw the refl

pub the_count : (t : Token) (ts rest : Tokens) → The t ts rest → count ts ≡ suc (count rest)
the_count t ts rest the = first_count ts rest t the

pub name_count : (name : List ℕ) (ts rest : Tokens) → Name name ts rest → count ts ≡ suc (count rest)
name_count name ts rest (inl the) = first_count ts rest (word name) the
name_count name ts rest (inr the) = first_count ts rest (quoted name) the

-- ---- what may stand behind a part: `,`, `)`, a clause, or nothing

abbrev pub begins_clause : keywords.Keyword → Bool
begins_clause keyword.Let = true
begins_clause keyword.Select = true
begins_clause keyword.Aggregate = true
begins_clause keyword.Where = true
begins_clause keyword.Group = true
begins_clause keyword.Order = true
begins_clause keyword.Format = true
begins_clause _ = false

abbrev pub ends_part : signs.Sign → Bool
ends_part signed.Comma = true
ends_part signed.Close = true
ends_part _ = false

abbrev pub stops : Option (Token × Tokens) → Bool
stops None = true
stops (Some (key k, rest)) = begins_clause k
stops (Some (word text, rest)) = false
stops (Some (quoted text, rest)) = false
stops (Some (sign s, rest)) = ends_part s

abbrev pub Stops : Tokens → Type 0
Stops ts = stops (first_of ts) ≡ true

stop_sign_first : (s : signs.Sign) (found : Option (Token × Tokens)) → ends_part s ≡ false → stops found ≡ true → behind_this_sign s found ≡ None
stop_sign_first s None other stop = refl
stop_sign_first s (Some (key k, rest)) other stop = refl
stop_sign_first s (Some (word text, rest)) other stop = refl
stop_sign_first s (Some (quoted text, rest)) other stop = refl
stop_sign_first s (Some (sign t, rest)) other stop =
    elim (either_way (pointwise nat_eq (sign_text t) (sign_text s))) [
      | inl same ↦ absurd (let both : true ≡ false = sym stop ∙ ap ends_part (same_sign t s same) ∙ other in cc)
      | inr apart ↦ rw apart refl
    ]

pub stop_sign : (s : signs.Sign) (ts : Tokens) → ends_part s ≡ false → Stops ts → behind_sign s ts ≡ None
unfolding behind_sign
stop_sign s ts other stop = stop_sign_first s (first_of ts) other stop

stop_key_first : (k : keywords.Keyword) (found : Option (Token × Tokens)) → begins_clause k ≡ false → stops found ≡ true → behind_this_key k found ≡ None
stop_key_first k None other stop = refl
stop_key_first k (Some (sign s, rest)) other stop = refl
stop_key_first k (Some (word text, rest)) other stop = refl
stop_key_first k (Some (quoted text, rest)) other stop = refl
stop_key_first k (Some (key t, rest)) other stop =
    elim (either_way (pointwise nat_eq (keyword_name t) (keyword_name k))) [
      | inl same ↦ absurd (let both : true ≡ false = sym stop ∙ ap begins_clause (same_key t k same) ∙ other in cc)
      | inr apart ↦ rw apart refl
    ]

pub stop_key : (k : keywords.Keyword) (ts : Tokens) → begins_clause k ≡ false → Stops ts → behind_key k ts ≡ None
unfolding behind_key
stop_key k ts other stop = stop_key_first k (first_of ts) other stop

stop_relation_first : (found : Option (Token × Tokens)) → stops found ≡ true → relation_first found ≡ None
stop_relation_first None stop = refl
stop_relation_first (Some (key k, rest)) stop = refl
stop_relation_first (Some (word text, rest)) stop = refl
stop_relation_first (Some (quoted text, rest)) stop = refl
stop_relation_first (Some (sign signed.Comma, rest)) stop = refl
stop_relation_first (Some (sign signed.Close, rest)) stop = refl
stop_relation_first (Some (sign signed.Open, rest)) stop = refl
stop_relation_first (Some (sign signed.Star, rest)) stop = refl
stop_relation_first (Some (sign signed.Equals, rest)) stop = absurd cc
stop_relation_first (Some (sign signed.Less, rest)) stop = absurd cc
stop_relation_first (Some (sign signed.Greater, rest)) stop = absurd cc
stop_relation_first (Some (sign signed.LessEqual, rest)) stop = absurd cc
stop_relation_first (Some (sign signed.GreaterEqual, rest)) stop = absurd cc

pub stop_relation : (ts : Tokens) → Stops ts → behind_relation ts ≡ None
unfolding behind_relation
stop_relation ts stop = stop_relation_first (first_of ts) stop

pub stops_at : (t : Token) (ts rest : Tokens) → stops (Some (t, rest)) ≡ true → The t ts rest → Stops ts
stops_at t ts rest stop the = ap stops the ∙ stop

both_are : {name name' : List ℕ} {ts ts' : Tokens} → name ≡ name' → ts ≡ ts' → ◌≡◌ {A = List ℕ × Tokens} (name, ts) (name', ts')
both_are p q = cc

-- ---- [AS name]

pub header_is : (without name : List ℕ) (ts rest : Tokens) → Stops rest → Header without name ts rest → header_at without ts ≡ Ok (name, rest)
unfolding header_at
header_is without name ts rest stop (inl given) = rw (key_is keyword.As ts given.0 given.1) (name_is name given.0 rest given.2)
header_is without name ts rest stop (inr none) =
    let absent : behind_key keyword.As ts ≡ None = ap (behind_key keyword.As) none.1 ∙ stop_key keyword.As rest refl stop in
    rw absent (ap (λ (x : List ℕ × Tokens). Ok x) (both_are (sym none.0) none.1))

pub header_count : (without name : List ℕ) (ts rest : Tokens) → Header without name ts rest → count rest ≤ count ts
header_count without name ts rest (inl given) = omega (arith, the_count (key keyword.As) ts given.0 given.1, name_count name given.0 rest given.2)
header_count without name ts rest (inr none) = omega (arith, ap count none.1)

-- ---- lists

-- what may stand behind a list
pub record EndsList (rest : Tokens) : Type 0 where
  pub stop : Stops rest
  pub last : behind_sign signed.Comma rest ≡ None

pub ends_at_close : (ts rest : Tokens) → The (sign signed.Close) ts rest → EndsList ts
unfolding behind_sign
ends_at_close ts rest the = record { stop = stops_at (sign signed.Close) ts rest refl the; last = rw the refl }

listed_first : {X : Type 0} (part : ℕ → X → Tokens → Tokens → Type 0) (n : ℕ) (x : X) (xs : List X) (from to : Tokens) → Listed part n (x ∷ xs) from to → (middle : Tokens) × part n x from middle × Followed part (suc n) xs middle to
listed_first part n x [] from to list = (to, list, refl)
listed_first part n x (y ∷ xs) from to list = list

followed_stops : {X : Type 0} (part : ℕ → X → Tokens → Tokens → Type 0) (n : ℕ) (xs : List X) (from to : Tokens) → Followed part n xs from to → Stops to → Stops from
followed_stops part n [] from to same stop = subst Stops (sym same) stop
followed_stops part n (x ∷ xs) from to more stop = stops_at (sign signed.Comma) from more.0 refl more.1

module _ {X : Type 0} (part : ℕ → X → Tokens → Tokens → Type 0) (item : ℕ → Tokens → Read X)
    (each : (n : ℕ) (ts rest : Tokens) (x : X) → Stops rest → part n x ts rest → item n ts ≡ Ok (x, rest))
    (less : (n : ℕ) (ts rest : Tokens) (x : X) → part n x ts rest → count rest ≤ count ts) where
  further_is : (xs : List X) (most n : ℕ) (ts rest : Tokens) → EndsList rest → count ts ≤ most → Followed part n xs ts rest → further_within most item n ts ≡ Ok (xs, rest)
  further_is [] zero n ts rest ends enough same = ap (λ (r : Tokens). Ok ([], r)) same
  further_is [] (suc most) n ts rest ends enough same =
      let none : behind_sign signed.Comma ts ≡ None = ap (behind_sign signed.Comma) same ∙ ends.last in
      rw none (ap (λ (r : Tokens). Ok ([], r)) same)
  further_is (x ∷ xs) zero n ts rest ends enough more = absurd (omega (arith, enough, the_count (sign signed.Comma) ts more.0 more.1))
  further_is (x ∷ xs) (suc most) n ts rest ends enough more =
      let first = listed_first part n x xs more.0 rest more.2 in
      let one : item n more.0 ≡ Ok (x, first.0) = each n more.0 first.0 x (followed_stops part (suc n) xs first.0 rest first.2 ends.stop) first.1 in
      let others : further_within most item (suc n) first.0 ≡ Ok (xs, rest) = further_is xs most (suc n) first.0 rest ends (omega (arith, enough, the_count (sign signed.Comma) ts more.0 more.1, less n more.0 first.0 x first.1)) first.2 in
      rw (sign_is signed.Comma ts more.0 more.1, one, others) refl

  pub listed_is : (xs : List X) (ts rest : Tokens) → EndsList rest → Listed part 0 xs ts rest → separated item ts ≡ Ok (xs, rest)
  unfolding separated
  listed_is [] ts rest ends list = absurd list
  listed_is (x ∷ xs) ts rest ends list =
      let first = listed_first part 0 x xs ts rest list in
      let one : item 0 ts ≡ Ok (x, first.0) = each 0 ts first.0 x (followed_stops part 1 xs first.0 rest first.2 ends.stop) first.1 in
      let others : further_within (count first.0) item 1 first.0 ≡ Ok (xs, rest) = further_is xs (count first.0) 1 first.0 rest ends (omega arith) first.2 in
      rw (one, others) refl

  followed_count : (xs : List X) (n : ℕ) (ts rest : Tokens) → Followed part n xs ts rest → count rest ≤ count ts
  followed_count [] n ts rest same = omega (arith, ap count same)
  followed_count (x ∷ xs) n ts rest more =
      let first = listed_first part n x xs more.0 rest more.2 in
      omega (arith, the_count (sign signed.Comma) ts more.0 more.1, less n more.0 first.0 x first.1, followed_count xs (suc n) first.0 rest first.2)

  pub listed_count : (xs : List X) (ts rest : Tokens) → Listed part 0 xs ts rest → count rest ≤ count ts
  listed_count [] ts rest list = absurd list
  listed_count (x ∷ xs) ts rest list =
      let first = listed_first part 0 x xs ts rest list in
      omega (arith, less 0 ts first.0 x first.1, followed_count xs 1 first.0 rest first.2)
