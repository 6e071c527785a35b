-- A look at the next token: whether it is one that is asked for, stays so where it is the same.
use Rattle.std.proofs.Common.{◌≡◌, ◌⊎◌, ℕ, Bool, true, false, cond, List, [], ◌∷◌, ◌++◌, Option, Some, None, Ok, Err, refl, sym, ap, subst, ◌∙◌, inl, inr}
use Rattle.std.specs.Prelude.{nat_eq}
use Rattle.std.specs.Option.{option_map, option_map_or}
use Rattle.std.specs.Cmp.Lexicographic.{pointwise}
use Rattle.cal_ql.specs.Conds.{behind_relation, relation_of, with_rest}
use Rattle.cal_ql.specs.Grammar.{The}
use Rattle.cal_ql.specs.Names.{keyword_name}
use Rattle.cal_ql.specs.Reading.{Read, behind_key, behind_sign, behind_this_sign, first_of}
use Rattle.cal_ql.specs.Signs.{sign_text}
use Rattle.cal_ql.specs.Tokens.{Fault, Token, Tokens, end, broken, token, key, word, quoted, sign}
use Rattle.cal_ql.specs.declared.conds.Relation.{Relation}
use Rattle.cal_ql.specs.declared.token.Keyword.{Keyword}
use Rattle.cal_ql.specs.declared.token.Sign.{Sign}
use Rattle.cal_ql.specs.declared.token.Sign.TheVariants as signed
use Rattle.cal_ql.proofs.GrammarSound.{sign_found}
use Rattle.cal_ql.proofs.GrammarStops.{sign_is}
use Rattle.cal_ql_faults.specs.FaultPlaces.{IsSome, Row}
use Rattle.cal_ql_faults.proofs.Fores.{Ending, Failed, Fore, Gives, IsLed, LooksAhead, Sampled, Taken, gives_as, goes_on}
use Rattle.cal_ql_faults.proofs.Rows.{Calm, Like, led_like, like_wrong, row_like}

abbrev front : Option (Token × Tokens) → Option Token
front found = option_map (λ (q : Token × Tokens). q.0) found

like_first : (o o' : Option (Token × Tokens)) (t : Token) (r' : Tokens) → front o ≡ front o' → o' ≡ Some (t, r') → (r : Tokens) × (o ≡ Some (t, r))
like_first None o' t r' like is = absurd (let no : None ≡ Some t = like ∙ ap front is in cc)
like_first (Some q) o' t r' like is =
    let there : Some q.0 ≡ Some t = like ∙ ap front is in
    let same : q.0 ≡ t = cc in
    (q.1, ap (λ (u : Token). Some (u, q.1)) same)

-- the first token of what is alike
pub like_the : (t : Token) (ts other r : Tokens) → Like ts other → The t other r → (left : Tokens) × The t ts left
like_the t ts other r like the = like_first (first_of ts) (first_of other) t r like the

sign_stays_by : (s : Sign) (ts other : Tokens) (o : Option Tokens) → Like ts other → behind_sign s ts ≡ None → behind_sign s other ≡ o → behind_sign s other ≡ None
sign_stays_by s ts other None like none is = is
sign_stays_by s ts other (Some r) like none is =
    let found = like_the (sign s) ts other r like (sign_found s other r is) in
    absurd (let no : None ≡ Some found.0 = sym none ∙ sign_is s ts found.0 found.1 in cc)

pub sign_stays : (s : Sign) (ts other : Tokens) → Like ts other → behind_sign s ts ≡ None → behind_sign s other ≡ None
sign_stays s ts other like none = sign_stays_by s ts other (behind_sign s other) like none refl

calm_comma_first : (found : Option (Token × Tokens)) → (found ≡ None) ⊎ ((rest : Tokens) × (found ≡ Some (sign signed.Close, rest))) → behind_this_sign signed.Comma found ≡ None
calm_comma_first found (inl none) = ap (behind_this_sign signed.Comma) none
calm_comma_first found (inr (rest, the)) = ap (behind_this_sign signed.Comma) the

-- where it is calm, there is no comma
pub calm_comma : (ts : Tokens) → Calm ts → behind_sign signed.Comma ts ≡ None
unfolding behind_sign
calm_comma ts calm = calm_comma_first (first_of ts) calm

-- ---- one reading or another, by the next token

module _ {X Y : Type 0} (choose : Token → Option Y) (g : Y → Tokens → Read X) (h : Tokens → Read X) where
  abbrev pub turned : Tokens → Tokens → Option Y → Read X
  turned ts rest None = h ts
  turned ts rest (Some y) = g y rest

  abbrev pub look : Tokens → Read X
  look (end place) = h (end place)
  look (broken fault) = h (broken fault)
  look (token place t rest) = turned (token place t rest) rest (choose t)

  -- the next token isn't asked for
  abbrev Passed : Tokens → Type 0
  Passed ts = (t : Token) (rest : Tokens) → The t ts rest → choose t ≡ None

  record Asked (ts : Tokens) : Type 0 where
    t : Token
    rest : Tokens
    y : Y
    the : The t ts rest
    is : choose t ≡ Some y

  look_yes : (t : Token) (ts rest : Tokens) (y : Y) → The t ts rest → choose t ≡ Some y → look ts ≡ g y rest
  unfolding first_of
  look_yes t (end place) rest y the is = absurd cc
  look_yes t (broken fault) rest y the is = absurd cc
  look_yes t (token place u left) rest y the is =
      let same : (u, left) ≡ (t, rest) = cc in
      ap (λ (q : Token × Tokens). turned (token place u left) q.1 (choose q.0)) same ∙ ap (turned (token place u left) rest) is

  look_no : (ts : Tokens) → Passed ts → look ts ≡ h ts
  unfolding first_of
  look_no (end place) passed = refl
  look_no (broken fault) passed = refl
  look_no (token place t rest) passed = ap (turned (token place t rest) rest) (passed t rest refl)

  passed_stays : (ts other : Tokens) → Like ts other → Passed ts → Passed other
  passed_stays ts other like passed = λ t rest the. (let found = like_the t ts other rest like the in passed t found.0 found.1)

  asked_by : (place : ℕ) (t : Token) (rest : Tokens) (o : Option Y) → choose t ≡ o → Asked (token place t rest) ⊎ Passed (token place t rest)
  unfolding first_of
  asked_by place t rest (Some y) is = inl (record { t = t; rest = rest; y = y; the = refl; is = is })
  asked_by place t rest None is = inr (λ u left the. (let same : (t, rest) ≡ (u, left) = cc in ap (λ (q : Token × Tokens). choose q.0) (sym same) ∙ is))

  asked_or : (ts : Tokens) → Asked ts ⊎ Passed ts
  unfolding first_of
  asked_or (end place) = inr (λ t rest the. absurd cc)
  asked_or (broken fault) = inr (λ t rest the. absurd cc)
  asked_or (token place t rest) = asked_by place t rest (choose t) refl

  -- what is no such token, or calm, is passed
  the_passed : (t : Token) (ts rest : Tokens) → The t ts rest → choose t ≡ None → Passed ts
  the_passed t ts rest the none = λ u left the'. (
      let there : Some (t, rest) ≡ Some (u, left) = sym the ∙ the' in
      let same : (t, rest) ≡ (u, left) = cc in
      ap (λ (q : Token × Tokens). choose q.0) (sym same) ∙ none)

  calm_passed : choose (sign signed.Close) ≡ None → (ts : Tokens) → Calm ts → Passed ts
  calm_passed none ts (inl ended) = λ u left the. absurd (let lost : None ≡ Some (u, left) = sym ended ∙ the in cc)
  calm_passed none ts (inr (rest, the)) = the_passed (sign signed.Close) ts rest the none

  module _ (loose : X → Bool) (some_g some : Bool) (t_g t : Token)
      (quiet : some ≡ true → choose t ≡ None) (calms : some ≡ false → choose (sign signed.Close) ≡ None)
      (needs : (ts : Tokens) (x : X) (rest : Tokens) → h ts ≡ Ok (x, rest) → (some ≡ true) ⊎ (loose x ≡ true)) where
    -- a sample
    sample_passed : (flag : Bool) → some ≡ flag → (e : Ending h loose []) → IsLed h loose flag t e → (ts rest : Tokens) → Row e.more ts rest → (LooksAhead loose e.result → Calm rest) → Passed ts
    unfolding first_of
    sample_passed true is e led ts rest row calm =
        let first : Row (t ∷ led.0) ts rest = subst (λ (l : List Token). Row l ts rest) led.1 row in
        the_passed t ts first.0 first.1 (quiet is)
    sample_passed false is e led ts rest row calm =
        let last : Tokens = end 0 in
        let none : Row e.more last last = subst (λ (l : List Token). Row l last last) (sym led.0) refl in
        let read : h last ≡ Ok (led.1, last) = gives_as h loose [] e (Some led.1) led.2 last last none (λ looks. inl refl) in
        let same : ts ≡ rest = subst (λ (l : List Token). Row l ts rest) led.0 row in
        let ahead : loose led.1 ≡ true = elim (needs last led.1 last read) [
          | inl some_is ↦ absurd (let lost : true ≡ false = sym some_is ∙ is in cc)
          | inr looks ↦ looks
        ] in
        calm_passed (calms is) ts (subst Calm (sym same) (calm (subst (λ (o : Option X). LooksAhead loose o) (sym led.2) ahead)))

    look_ending : (e : Ending h loose []) → IsLed h loose some t e → Ending look loose []
    look_ending e led = record {
      more = e.more;
      result = e.result;
      readable = e.readable;
      gives = λ ts rest row calm.
          subst (λ (r : Read X). Gives e.result r rest) (sym (look_no ts (sample_passed some refl e led ts rest row calm))) (e.gives ts rest row calm);
    }

    look_led : (flag : Bool) (e : Ending h loose []) (led : IsLed h loose some t e) → IsLed h loose flag t e → IsLed look loose flag t (look_ending e led)
    unfolding look_ending
    look_led true e led is = is
    look_led false e led is = is

    pub look_sample : Sampled h loose some t → Sampled look loose some t
    look_sample s = record { ending = look_ending s.ending s.led; led = look_led some s.ending s.led s.led }

    module _ (S : (y : Y) → Sampled (g y) loose some_g t_g) (G : (y : Y) → Fore (g y) loose some_g) (H : Fore h loose some) where
      passed_by : (flag : Bool) → some ≡ flag → (some ≡ true → ⊥) → (ts : Tokens) → Calm ts → Passed ts
      passed_by true is takes ts calm = absurd (takes is)
      passed_by false is takes ts calm = calm_passed (calms is) ts calm

      passed_like : (ts rest other left : Tokens) → ts ≡ rest → other ≡ left → (some ≡ true → ⊥) → Passed ts → Like rest left ⊎ Calm left → Passed other
      passed_like ts rest other left row row' takes passed (inl like) =
          passed_stays ts other (subst (λ (u : Tokens). Like u other) (sym row) (subst (λ (u : Tokens). Like rest u) (sym row') like)) passed
      passed_like ts rest other left row row' takes passed (inr calm) = passed_by some refl takes other (subst Calm (sym row') calm)

      passed_too : (x : X) (b : List Token) (ts rest other left : Tokens) → (some ≡ true) ⊎ (loose x ≡ true) → (some ≡ true → IsSome b) → Row b ts rest → Row b other left
          → (loose x ≡ true → Like rest left ⊎ Calm left) → Passed ts → Passed other
      passed_too x b ts rest other left (inl is) takes row row' like passed = passed_stays ts other (row_like b ts rest other left (takes is) row row') passed
      passed_too x [] ts rest other left (inr is) takes row row' like passed = passed_like ts rest other left row row' takes passed (like is)
      passed_too x (u ∷ b) ts rest other left (inr is) takes row row' like passed = passed_stays ts other (led_like u b b ts rest other left row row') passed

      look_ok : (ts : Tokens) (x : X) (rest : Tokens) → Asked ts ⊎ Passed ts → look ts ≡ Ok (x, rest) → Taken look loose some ts x rest
      look_ok ts x rest (inl asked) e =
          let b = (G asked.y).ok asked.rest x rest (sym (look_yes asked.t ts asked.rest asked.y asked.the asked.is) ∙ e) in
          record {
            before = asked.t ∷ b.before;
            behind = (asked.rest, asked.the, b.behind);
            takes = λ go. tt;
            again = λ other left row like. look_yes asked.t other row.0 asked.y row.1 asked.is ∙ b.again row.0 left row.2 like;
          }
      look_ok ts x rest (inr passed) e =
          let read = sym (look_no ts passed) ∙ e in
          let a = H.ok ts x rest read in
          record {
            before = a.before;
            behind = a.behind;
            takes = a.takes;
            again = λ other left row like.
                look_no other (passed_too x a.before ts rest other left (needs ts x rest read) a.takes a.behind row like passed)
                ∙ a.again other left row like;
          }

      asked_ending : (u : Token) (y : Y) → choose u ≡ Some y → (b : List Token) → Ending (g y) loose b → Ending look loose (u ∷ b)
      asked_ending u y is b e = record {
        more = e.more;
        result = e.result;
        readable = e.readable;
        gives = λ ts rest row calm. subst (λ (r : Read X). Gives e.result r rest) (sym (look_yes u ts row.0 y row.1 is)) (e.gives row.0 rest row.2 calm);
      }

      passed_ending : (ts here : Tokens) (b : List Token) → IsSome b → Row b ts here → Passed ts → Ending h loose b → Ending look loose b
      passed_ending ts here [] some_b row passed e = absurd some_b
      passed_ending ts here (u ∷ b) some_b row passed e = record {
        more = e.more;
        result = e.result;
        readable = e.readable;
        gives = λ other rest row' calm.
            subst (λ (r : Read X). Gives e.result r rest)
            (sym (look_no other (passed_stays ts other (led_like u b (b ++ e.more) ts here other rest row row') passed)))
            (e.gives other rest row' calm);
      }

      look_err : (ts : Tokens) (fault : Fault) → Asked ts ⊎ Passed ts → look ts ≡ Err fault → Failed look loose some ts fault
      look_err ts fault (inl asked) e =
          let b = (G asked.y).err asked.rest fault (sym (look_yes asked.t ts asked.rest asked.y asked.the asked.is) ∙ e) in
          record {
            before = asked.t ∷ b.before;
            here = b.here;
            behind = (asked.rest, asked.the, b.behind);
            is = b.is;
            wrong = b.wrong;
            rest = b.rest;
            there = b.there;
            short = b.short;
            again = λ other at left row wrong filled. look_yes asked.t other row.0 asked.y row.1 asked.is ∙ b.again row.0 at left row.2 wrong filled;
            goes = λ filled. asked_ending asked.t asked.y asked.is b.before (goes_on (g asked.y) loose b.before (S asked.y).ending b.goes);
          }
      look_err ts fault (inr passed) e =
          let a = H.err ts fault (sym (look_no ts passed) ∙ e) in
          record {
            before = a.before;
            here = a.here;
            behind = a.behind;
            is = a.is;
            wrong = a.wrong;
            rest = a.rest;
            there = a.there;
            short = a.short;
            again = λ other at left row wrong filled.
                look_no other (passed_stays ts other (like_wrong a.before a.wrong ts a.here a.rest other at left filled a.behind a.there row wrong) passed)
                ∙ a.again other at left row wrong filled;
            goes = λ filled. passed_ending ts a.here a.before filled a.behind passed (a.goes filled);
          }

      pub look_fore : Fore look loose some
      look_fore = record { ok = λ ts x rest e. look_ok ts x rest (asked_or ts) e; err = λ ts fault e. look_err ts fault (asked_or ts) e }

-- ---- the looks of the reading

abbrev pub sign_choice : Sign → Token → Option (Unit {0})
sign_choice s (sign t) = cond (pointwise nat_eq (sign_text t) (sign_text s)) (Some tt) None
sign_choice s (key k) = None
sign_choice s (word text) = None
sign_choice s (quoted text) = None

abbrev pub key_choice : Keyword → Token → Option (Unit {0})
key_choice k (key t) = cond (pointwise nat_eq (keyword_name t) (keyword_name k)) (Some tt) None
key_choice k (sign s) = None
key_choice k (word text) = None
key_choice k (quoted text) = None

abbrev pub relation_choice : Token → Option Relation
relation_choice (sign s) = relation_of s
relation_choice (key k) = None
relation_choice (word text) = None
relation_choice (quoted text) = None

module _ {X : Type 0} (yes no : Tokens → Read X) where
  turned_by : (choose : Token → Option (Unit {0})) (ts rest : Tokens) (b : Bool)
      → option_map_or yes (cond b (Some rest) None) (no ts) ≡ turned choose (λ (u : Unit {0}). yes) no ts rest (cond b (Some tt) None)
  turned_by choose ts rest true = refl
  turned_by choose ts rest false = refl

  pub sign_look : (s : Sign) (ts : Tokens) → option_map_or yes (behind_sign s ts) (no ts) ≡ look (sign_choice s) (λ (u : Unit {0}). yes) no ts
  unfolding behind_sign first_of
  sign_look s (end place) = refl
  sign_look s (broken fault) = refl
  sign_look s (token place (key k) rest) = refl
  sign_look s (token place (word text) rest) = refl
  sign_look s (token place (quoted text) rest) = refl
  sign_look s (token place (sign t) rest) = turned_by (sign_choice s) (token place (sign t) rest) rest (pointwise nat_eq (sign_text t) (sign_text s))

  pub key_look : (k : Keyword) (ts : Tokens) → option_map_or yes (behind_key k ts) (no ts) ≡ look (key_choice k) (λ (u : Unit {0}). yes) no ts
  unfolding behind_key first_of
  key_look k (end place) = refl
  key_look k (broken fault) = refl
  key_look k (token place (sign s) rest) = refl
  key_look k (token place (word text) rest) = refl
  key_look k (token place (quoted text) rest) = refl
  key_look k (token place (key t) rest) = turned_by (key_choice k) (token place (key t) rest) rest (pointwise nat_eq (keyword_name t) (keyword_name k))

module _ {X : Type 0} (yes : Relation × Tokens → Read X) (no : Tokens → Read X) where
  related_by : (ts rest : Tokens) (o : Option Relation)
      → option_map_or yes (with_rest rest o) (no ts) ≡ turned relation_choice (λ (r : Relation) (left : Tokens). yes (r, left)) no ts rest o
  related_by ts rest None = refl
  related_by ts rest (Some r) = refl

  pub relation_look : (ts : Tokens) → option_map_or yes (behind_relation ts) (no ts) ≡ look relation_choice (λ (r : Relation) (left : Tokens). yes (r, left)) no ts
  unfolding behind_relation first_of
  relation_look (end place) = refl
  relation_look (broken fault) = refl
  relation_look (token place (key k) rest) = refl
  relation_look (token place (word text) rest) = refl
  relation_look (token place (quoted text) rest) = refl
  relation_look (token place (sign s) rest) = related_by (token place (sign s) rest) rest (relation_of s)
