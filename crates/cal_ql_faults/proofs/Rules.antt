-- Each rule of the reading looks at no more than its tokens.
use Rattle.std.proofs.Common.{◌≡◌, ◌⊎◌, ℕ, Bool, true, false, cond, List, [], Option, Some, None, Result, Ok, Err, refl, inl, inr, ap, lit≤, ◌++◌}
use Rattle.std.specs.Prelude.{ℤ, pos, nat_eq, codes}
use Rattle.std.specs.Fmt.{digits}
use Rattle.std.specs.Option.{ok_or, option_map, option_map_or}
use Rattle.std.specs.Cmp.Lexicographic.{pointwise}
use Rattle.cal_ql.specs.declared.kind.QueryKind.{QueryKind}
use Rattle.cal_ql.specs.declared.kind.QueryKind.TheVariants.{BadArity, BadNumber, ExpectedBy, ExpectedName, ExpectedSign, UnknownFormat, UnknownKernel, UnknownOp}
use Rattle.cal_ql.specs.declared.token.Keyword as keywords
use Rattle.cal_ql.specs.declared.token.Keyword.TheVariants as keyword
use Rattle.cal_ql.specs.declared.token.Sign as signs
use Rattle.cal_ql.specs.declared.token.Sign.TheVariants as signed
use Rattle.cal_ql.specs.declared.conds.Relation.{Relation}
use Rattle.cal_ql.specs.declared.lets.Argument.{Argument}
use Rattle.cal_ql.specs.declared.lets.Argument.TheVariants as argument
use Rattle.cal_ql.specs.declared.names.KernelName.{KernelName}
use Rattle.cal_ql.specs.declared.names.Op.{Op}
use Rattle.cal_ql.specs.declared.query.Agg.{Agg}
use Rattle.cal_ql.specs.declared.query.Cond.{Cond}
use Rattle.cal_ql.specs.declared.query.Let.{Let}
use Rattle.cal_ql.specs.declared.query.OrderKey.{OrderKey}
use Rattle.cal_ql.specs.declared.query.Test.TheVariants as test
use Rattle.cal_ql.specs.Conds.{behind_relation, compared, cond_at, direction_at, enclosed_test_at, format_at, negated_at, order_key_at, test_at, test_of}
use Rattle.cal_ql.specs.Kernels.{agg_at, any_name_at, attr_of, kernel_at, names_at, names_behind, result_name}
use Rattle.cal_ql.specs.Lets.{argument_at, arguments_at, is_number_place, let_at, let_of, number_at, number_in, op_at}
use Rattle.cal_ql.specs.Names.{format_named, kernel_named, keyword_name, op_named}
use Rattle.cal_ql.specs.Reading.{Read, ◌>>=◌, behind_key, behind_sign, first_of, header_at, name_at, or_fault, past_sign, refused, separated}
use Rattle.cal_ql.specs.Clauses.{past_by}
use Rattle.cal_ql.specs.Signs.{sign_text}
use Rattle.cal_ql.specs.Tokens.{Fault, Token, Tokens, end, broken, token, key, word, quoted, sign}
use Rattle.cal_ql_faults.proofs.Ahead.{key_choice, key_look, look, look_fore, look_sample, relation_choice, relation_look, sign_choice, sign_look}
use Rattle.cal_ql.proofs.Spelling.{IsRead, format_read, kernel_read, key_read, name_read, number_read, op_read, sign_read}
use Rattle.cal_ql.specs.declared.names.Op.TheVariants as op
use Rattle.cal_ql.specs.declared.names.KernelName.TheVariants as kernel
use Rattle.cal_ql.specs.declared.names.Format.TheVariants as format
use Rattle.cal_ql.specs.Names.{format_name, kernel_name, op_name}
use Rattle.std.specs.Cmp.Lexicographic.{bytes_decides}
use Rattle.cal_ql_faults.proofs.Fores.{Ending, Fore, IsLed, LooksAhead, Sampled, gives_as, both_fore, both_sample, done_fore, done_sample, given, judged, judged_fore, judged_sample, made_fore, made_sample, one, one_fore, one_sample, put, same_fore, same_sample}
use Rattle.cal_ql_faults.specs.FaultPlaces.{IsLater}
use Rattle.cal_ql_faults.proofs.Rows.{onto, row_onto}
use Rattle.cal_ql_faults.proofs.ForeLists.{separated_fore, separated_sample}

-- a rule, with tokens that it takes
pub record Rule {X : Type 0} (f : Tokens → Read X) (loose : X → Bool) (some : Bool) (t : Token) : Type 0 where
  pub fore : Fore f loose some
  pub sample : Sampled f loose some t

abbrev pub Firm : {X : Type 0} → (Tokens → Read X) → Token → Type 0
Firm {X} f t = Rule f (λ (x : X). false) true t

abbrev pub Loose : {X : Type 0} → (Tokens → Read X) → Token → Type 0
Loose {X} f t = Rule f (λ (x : X). true) true t

-- the tokens that stand for a name and for a number
abbrev pub name_token : Token
name_token = quoted (codes "a")

abbrev number_token : Token
number_token = word (codes "1")

pub same_rule : {X : Type 0} (f g : Tokens → Read X) (loose : X → Bool) (some : Bool) (t : Token) → ((ts : Tokens) → f ts ≡ g ts) → Rule g loose some t → Rule f loose some t
same_rule f g loose some t same r = record { fore = same_fore f g loose some same r.fore; sample = same_sample f g loose some t same r.sample }

one_rule : {X : Type 0} (choose : Token → Result X QueryKind) (kind : QueryKind) (t : Token) (x : X) → choose t ≡ Ok x → IsRead t → Firm (one choose kind) t
one_rule choose kind t x is read = record { fore = one_fore choose kind; sample = one_sample choose kind t x is read }

pub done_rule : {X : Type 0} (x : X) (loose : X → Bool) (t : Token) → Rule (λ (ts : Tokens). put x ts) loose false t
done_rule x loose t = record { fore = done_fore x loose; sample = done_sample x loose t }

-- ---- one token

abbrev name_choice : Token → Result (List ℕ) QueryKind
name_choice (word text) = Ok text
name_choice (quoted text) = Ok text
name_choice (key k) = Err ExpectedName
name_choice (sign s) = Err ExpectedName

name_same : (ts : Tokens) → name_at ts ≡ one name_choice ExpectedName ts
unfolding name_at first_of refused
name_same (end place) = refl
name_same (broken fault) = refl
name_same (token place (key k) rest) = refl
name_same (token place (word text) rest) = refl
name_same (token place (quoted text) rest) = refl
name_same (token place (sign s) rest) = refl

pub name_rule : Firm name_at name_token
name_rule =
    same_rule name_at (one name_choice ExpectedName) (λ (x : List ℕ). false) true name_token name_same
    (one_rule name_choice ExpectedName name_token (codes "a") refl (name_read (codes "a")))

module _ {X : Type 0} (find : List ℕ → Option X) (kind : QueryKind) where
  abbrev named_choice : Token → Result X QueryKind
  named_choice (word text) = ok_or (find text) kind
  named_choice (quoted text) = ok_or (find text) kind
  named_choice (key k) = Err ExpectedName
  named_choice (sign s) = Err ExpectedName

  abbrev named_at : Tokens → Read X
  named_at ts = name_at ts >>= (λ name. or_fault (find name.0) (refused kind ts) >>= (λ x. put x name.1))

  given_by : (place : ℕ) (rest : Tokens) (o : Option X)
      → (or_fault o (record { place = place; kind = kind }) >>= (λ x. put x rest)) ≡ given named_choice ExpectedName place rest (ok_or o kind)
  given_by place rest None = refl
  given_by place rest (Some x) = refl

  named_same : (ts : Tokens) → named_at ts ≡ one named_choice ExpectedName ts
  unfolding name_at first_of refused
  named_same (end place) = refl
  named_same (broken fault) = refl
  named_same (token place (key k) rest) = refl
  named_same (token place (word text) rest) = given_by place rest (find text)
  named_same (token place (quoted text) rest) = given_by place rest (find text)
  named_same (token place (sign s) rest) = refl

  named_rule : (name : List ℕ) (x : X) → find name ≡ Some x → IsRead (word name) → Firm named_at (word name)
  named_rule name x is read =
      same_rule named_at (one named_choice ExpectedName) (λ (y : X). false) true (word name) named_same
      (one_rule named_choice ExpectedName (word name) x (ap (λ (o : Option X). ok_or o kind) is) read)

op_rule : Firm op_at (word (op_name op.Sum))
unfolding op_at
op_rule = named_rule op_named UnknownOp (op_name op.Sum) op.Sum refl (op_read op.Sum)

kernel_rule : Firm kernel_at (word (kernel_name kernel.Sum))
unfolding kernel_at
kernel_rule = named_rule kernel_named UnknownKernel (kernel_name kernel.Sum) kernel.Sum refl (kernel_read kernel.Sum)

pub format_rule : Firm format_at (word (format_name format.Expand))
unfolding format_at
format_rule = named_rule format_named UnknownFormat (format_name format.Expand) format.Expand refl (format_read format.Expand)

one_read : IsRead number_token
unfolding digits
one_read = number_read (pos 1) (lit≤ tt)

one_in : (o : Op) → number_in o (codes "1") ≡ Some (pos 1)
unfolding number_in
one_in op.Truncate = refl
one_in op.Scale = refl
one_in op.Ratio = refl
one_in op.First = refl
one_in op.Sum = refl

module _ (o : Op) where
  abbrev number_choice : Token → Result ℤ QueryKind
  number_choice (word text) = ok_or (number_in o text) BadNumber
  number_choice (quoted text) = Err BadNumber
  number_choice (key k) = Err BadNumber
  number_choice (sign s) = Err BadNumber

  number_by : (place : ℕ) (rest : Tokens) (found : Option ℤ)
      → (or_fault found (record { place = place; kind = BadNumber }) >>= (λ x. put x rest)) ≡ given number_choice BadNumber place rest (ok_or found BadNumber)
  number_by place rest None = refl
  number_by place rest (Some x) = refl

  number_same : (ts : Tokens) → number_at o ts ≡ one number_choice BadNumber ts
  unfolding number_at first_of refused
  number_same (end place) = refl
  number_same (broken fault) = refl
  number_same (token place (key k) rest) = refl
  number_same (token place (word text) rest) = number_by place rest (number_in o text)
  number_same (token place (quoted text) rest) = refl
  number_same (token place (sign s) rest) = refl

  number_rule : Firm (number_at o) number_token
  number_rule =
      same_rule (number_at o) (one number_choice BadNumber) (λ (x : ℤ). false) true number_token number_same
      (one_rule number_choice BadNumber number_token (pos 1) (ap (λ (found : Option ℤ). ok_or found BadNumber) (one_in o)) one_read)

-- ---- a sign or a keyword, and what stands behind it

abbrev sign_given : signs.Sign → Token → Result (Unit {0}) QueryKind
sign_given s (sign t) = cond (pointwise nat_eq (sign_text t) (sign_text s)) (Ok tt) (Err ExpectedSign)
sign_given s (key k) = Err ExpectedSign
sign_given s (word text) = Err ExpectedSign
sign_given s (quoted text) = Err ExpectedSign

abbrev key_given : keywords.Keyword → QueryKind → Token → Result (Unit {0}) QueryKind
key_given k kind (key t) = cond (pointwise nat_eq (keyword_name t) (keyword_name k)) (Ok tt) (Err kind)
key_given k kind (sign s) = Err kind
key_given k kind (word text) = Err kind
key_given k kind (quoted text) = Err kind

module _ {X : Type 0} (g : Tokens → Read X) where
  past_by_test : (choose : Token → Result (Unit {0}) QueryKind) (kind : QueryKind) (place : ℕ) (rest : Tokens) (b : Bool)
      → (or_fault (cond b (Some rest) None) (record { place = place; kind = kind }) >>= g)
      ≡ (given choose kind place rest (cond b (Ok tt) (Err kind)) >>= (λ q. g q.1))
  past_by_test choose kind place rest true = refl
  past_by_test choose kind place rest false = refl

  sign_same : (s : signs.Sign) (ts : Tokens) → (past_sign s ts >>= g) ≡ (one (sign_given s) ExpectedSign ts >>= (λ q. g q.1))
  unfolding past_sign behind_sign first_of refused
  sign_same s (end place) = refl
  sign_same s (broken fault) = refl
  sign_same s (token place (key k) rest) = refl
  sign_same s (token place (word text) rest) = refl
  sign_same s (token place (quoted text) rest) = refl
  sign_same s (token place (sign t) rest) = past_by_test (sign_given s) ExpectedSign place rest (pointwise nat_eq (sign_text t) (sign_text s))

  by_same : (ts : Tokens) → (past_by ts >>= g) ≡ (one (key_given keyword.By ExpectedBy) ExpectedBy ts >>= (λ q. g q.1))
  unfolding past_by behind_key first_of refused
  by_same (end place) = refl
  by_same (broken fault) = refl
  by_same (token place (sign s) rest) = refl
  by_same (token place (word text) rest) = refl
  by_same (token place (quoted text) rest) = refl
  by_same (token place (key t) rest) = past_by_test (key_given keyword.By ExpectedBy) ExpectedBy place rest (pointwise nat_eq (keyword_name t) (keyword_name keyword.By))

sign_taken : (s : signs.Sign) → sign_given s (sign s) ≡ Ok tt
sign_taken s = ap (λ (b : Bool). cond b (Ok tt) (Err ExpectedSign)) ((bytes_decides (sign_text s) (sign_text s)).1 refl)

-- ---- readings behind one another

module _ {X Y : Type 0} (f : Tokens → Read X) (g : X → Tokens → Read Y) (loose : Y → Bool) (some : Bool) (t t_g : Token) where
  -- behind a reading that needs no look ahead
  pub then_rule : Firm f t → ((x : X) → Rule (g x) loose some t_g) → Rule (λ (ts : Tokens). f ts >>= (λ r. g r.0 r.1)) loose true t
  then_rule F G = record {
    fore = both_fore f g (λ (x : X). false) (λ (x : X). loose) (λ (x : X). some) (λ (x : X). t_g) loose
        (λ x y e. e) (λ x y m rest read none (no : false ≡ true). absurd cc) (λ x taken (no : false ≡ true). absurd cc) (λ x. (G x).sample) F.fore (λ x. (G x).fore);
    sample = both_sample f g (λ (x : X). false) (λ (x : X). loose) (λ (x : X). some) (λ (x : X). t_g) loose
        (λ x y e. e) (λ x y m rest read none (no : false ≡ true). absurd cc) (λ x taken (no : false ≡ true). absurd cc) (λ x. (G x).sample) t F.sample;
  }

module _ {X Y : Type 0} (f : Tokens → Read X) (make : X → Y) (flag some : Bool) (t : Token) where
  -- what was read is made into something
  pub made_rule : Rule f (λ (x : X). flag) some t → Rule (λ (ts : Tokens). f ts >>= (λ r. put (make r.0) r.1)) (λ (y : Y). flag) some t
  made_rule F = record { fore = made_fore f make flag some F.fore; sample = made_sample f make flag some t F.sample }

module _ {X : Type 0} (g : Tokens → Read X) (loose : X → Bool) (some : Bool) (t : Token) (G : Rule g loose some t) where
  pub sign_rule : (s : signs.Sign) → Rule (λ (ts : Tokens). past_sign s ts >>= g) loose true (sign s)
  sign_rule s =
      same_rule (λ (ts : Tokens). past_sign s ts >>= g) (λ (ts : Tokens). one (sign_given s) ExpectedSign ts >>= (λ q. g q.1)) loose true (sign s) (sign_same g s)
      (then_rule (one (sign_given s) ExpectedSign) (λ (u : Unit {0}). g) loose some (sign s) t (one_rule (sign_given s) ExpectedSign (sign s) tt (sign_taken s) (sign_read s)) (λ u. G))

  pub by_rule : Rule (λ (ts : Tokens). past_by ts >>= g) loose true (key keyword.By)
  by_rule =
      same_rule (λ (ts : Tokens). past_by ts >>= g) (λ (ts : Tokens). one (key_given keyword.By ExpectedBy) ExpectedBy ts >>= (λ q. g q.1)) loose true (key keyword.By) (by_same g)
      (then_rule (one (key_given keyword.By ExpectedBy) ExpectedBy) (λ (u : Unit {0}). g) loose some (key keyword.By) t
      (one_rule (key_given keyword.By ExpectedBy) ExpectedBy (key keyword.By) tt refl (key_read keyword.By)) (λ u. G))

module _ {X : Type 0} (f : Tokens → Read X) (t : Token) where
  abbrev close_behind : X → Tokens → Read X
  close_behind x rest = past_sign signed.Close rest >>= (λ close. put x close)

  close_one : (x : X) → Firm (close_behind x) (sign signed.Close)
  close_one x = sign_rule (λ (rest : Tokens). put x rest) (λ (y : X). false) false name_token (done_rule x (λ (y : X). false) name_token) signed.Close

  -- a closing parenthesis behind a reading that looks ahead
  pub close_rule : Loose f t → Firm (λ (ts : Tokens). f ts >>= (λ r. past_sign signed.Close r.1 >>= (λ close. put r.0 close))) t
  close_rule F = record {
    fore = both_fore f close_behind (λ (x : X). true) (λ (x : X) (y : X). false) (λ (x : X). true) (λ (x : X). sign signed.Close) (λ (y : X). false)
        (λ x y e. e) (λ x y m rest read (no : true ≡ false) e. absurd cc) (λ x taken e. refl) (λ x. (close_one x).sample) F.fore (λ x. (close_one x).fore);
    sample = both_sample f close_behind (λ (x : X). true) (λ (x : X) (y : X). false) (λ (x : X). true) (λ (x : X). sign signed.Close) (λ (y : X). false)
        (λ x y e. e) (λ x y m rest read (no : true ≡ false) e. absurd cc) (λ x taken e. refl) (λ x. (close_one x).sample) t F.sample;
  }

module _ {X : Type 0} (yes no : Tokens → Read X) (loose : X → Bool) (some_g some : Bool) (t_g t : Token) (G : Rule yes loose some_g t_g) (H : Rule no loose some t)
    (needs : (ts : Tokens) (x : X) (rest : Tokens) → no ts ≡ Ok (x, rest) → (some ≡ true) ⊎ (loose x ≡ true)) where
  pub sign_look_rule : (s : signs.Sign) → (some ≡ true → sign_choice s t ≡ None) → (some ≡ false → sign_choice s (sign signed.Close) ≡ None)
      → Rule (λ (ts : Tokens). option_map_or yes (behind_sign s ts) (no ts)) loose some t
  sign_look_rule s quiet calms =
      same_rule (λ (ts : Tokens). option_map_or yes (behind_sign s ts) (no ts)) (look (sign_choice s) (λ (u : Unit {0}). yes) no) loose some t (sign_look yes no s) (record {
        fore = look_fore (sign_choice s) (λ (u : Unit {0}). yes) no loose some_g some t_g t quiet calms needs (λ u. G.sample) (λ u. G.fore) H.fore;
        sample = look_sample (sign_choice s) (λ (u : Unit {0}). yes) no loose some_g some t_g t quiet calms needs H.sample;
      })

  pub key_look_rule : (k : keywords.Keyword) → (some ≡ true → key_choice k t ≡ None) → (some ≡ false → key_choice k (sign signed.Close) ≡ None)
      → Rule (λ (ts : Tokens). option_map_or yes (behind_key k ts) (no ts)) loose some t
  key_look_rule k quiet calms =
      same_rule (λ (ts : Tokens). option_map_or yes (behind_key k ts) (no ts)) (look (key_choice k) (λ (u : Unit {0}). yes) no) loose some t (key_look yes no k) (record {
        fore = look_fore (key_choice k) (λ (u : Unit {0}). yes) no loose some_g some t_g t quiet calms needs (λ u. G.sample) (λ u. G.fore) H.fore;
        sample = look_sample (key_choice k) (λ (u : Unit {0}). yes) no loose some_g some t_g t quiet calms needs H.sample;
      })

-- a reading may be called looser than it is
module _ {X : Type 0} (f : Tokens → Read X) (loose looser : X → Bool) (some : Bool) (t : Token)
    (wider : (ts : Tokens) (x : X) (rest : Tokens) → f ts ≡ Ok (x, rest) → loose x ≡ true → looser x ≡ true) where
  looser_by : (b : List Token) (e : Ending f loose b) (o : Option X) → e.result ≡ o → LooksAhead loose o → LooksAhead looser o
  unfolding first_of
  looser_by b e None is ahead = ahead
  looser_by b e (Some x) is ahead =
      let last : Tokens = end 0 in
      let all : List Token = b ++ e.more in
      wider (onto all last) x last (gives_as f loose b e (Some x) is (onto all last) last (row_onto all last) (λ looks. inl refl)) ahead

  looser_ending : (b : List Token) → Ending f loose b → Ending f looser b
  looser_ending b e = record {
    more = e.more;
    result = e.result;
    readable = e.readable;
    gives = λ ts rest row calm. e.gives ts rest row (λ ahead. calm (looser_by b e e.result refl ahead));
  }

  looser_led : (b : Bool) (e : Ending f loose []) → IsLed f loose b t e → IsLed f looser b t (looser_ending [] e)
  unfolding looser_ending
  looser_led true e led = led
  looser_led false e led = led

  pub reflagged : Rule f loose some t → Rule f looser some t
  reflagged R = record {
    fore = record {
      ok = λ ts x rest e. (let a = R.fore.ok ts x rest e in record {
        before = a.before;
        behind = a.behind;
        takes = a.takes;
        again = λ other left row like. a.again other left row (λ needs. like (wider ts x rest e needs));
      });
      err = λ ts fault e. (let a = R.fore.err ts fault e in record {
        before = a.before;
        here = a.here;
        behind = a.behind;
        is = a.is;
        wrong = a.wrong;
        rest = a.rest;
        there = a.there;
        short = a.short;
        again = a.again;
        goes = λ filled. looser_ending a.before (a.goes filled);
      });
    };
    sample = record { ending = looser_ending [] R.sample.ending; led = looser_led some R.sample.ending R.sample.led };
  }

pub loosened : {X : Type 0} (f : Tokens → Read X) (some : Bool) (t : Token) → Rule f (λ (x : X). false) some t → Rule f (λ (x : X). true) some t
loosened {X} f some t R = reflagged f (λ (x : X). false) (λ (x : X). true) some t (λ ts x rest e needs. refl) R

pub separated_rule : {X : Type 0} (item : ℕ → Tokens → Read X) (t : ℕ → Token) → ((n : ℕ) → Loose (item n) (t n)) → Loose (separated item) (t 0)
separated_rule item t each = record {
  fore = separated_fore item t (λ n. (each n).sample) (λ n. (each n).fore);
  sample = separated_sample item t (λ n. (each n).sample);
}

pub judged_rule : {X Y : Type 0} (f : Tokens → Read X) (judge : X → Option Y) (kind : QueryKind) (later : IsLater kind) (loose_f : X → Bool) (loose : Y → Bool) (t : Token)
    → ((x : X) (y : Y) → judge x ≡ Some y → loose_f x ≡ true → loose y ≡ true) → ((x : X) → judge x ≡ None → loose_f x ≡ false)
    → Rule f loose_f true t → Rule (judged f judge kind) loose true t
judged_rule f judge kind later loose_f loose t keeps firm R = record {
  fore = judged_fore f judge kind later loose_f loose R.fore keeps firm;
  sample = judged_sample f judge kind later loose_f loose R.fore keeps firm t R.sample;
}

-- ---- [AS name]

pub header_rule : (name : List ℕ) → Rule (header_at name) (λ (x : List ℕ). true) false name_token
unfolding header_at
header_rule name =
    key_look_rule name_at (λ (ts : Tokens). put name ts) (λ (x : List ℕ). true) true false name_token name_token
    (loosened name_at true name_token name_rule) (done_rule name (λ (x : List ℕ). true) name_token) (λ ts x rest e. inr refl) keyword.As (λ (taken : false ≡ true). absurd cc) (λ none. refl)

-- ---- LET

abbrev argument_token : Bool → Token
argument_token b = cond b number_token name_token

argument_by : (o : Op) (b : Bool)
    → Firm (λ (ts : Tokens). cond b (number_at o ts >>= (λ n. put (argument.Number n.0) n.1)) (name_at ts >>= (λ name. put (argument.Name name.0) name.1))) (argument_token b)
argument_by o true = made_rule (number_at o) (λ (n : ℤ). argument.Number n) false true number_token (number_rule o)
argument_by o false = made_rule name_at (λ (name : List ℕ). argument.Name name) false true name_token name_rule

argument_rule : (o : Op) (n : ℕ) → Firm (argument_at o n) (argument_token (is_number_place o n))
unfolding argument_at
argument_rule o n = argument_by o (is_number_place o n)

arguments_rule : (o : Op) → Firm (arguments_at o) (sign signed.Open)
unfolding arguments_at
arguments_rule o =
    sign_rule (λ (inside : Tokens). separated (argument_at o) inside >>= (λ r. past_sign signed.Close r.1 >>= (λ close. put r.0 close))) (λ (x : List Argument). false) true (argument_token (is_number_place o 0))
    (close_rule (separated (argument_at o)) (argument_token (is_number_place o 0)) (separated_rule (argument_at o) (λ n. argument_token (is_number_place o n)) (λ n. loosened (argument_at o n) true (argument_token (is_number_place o n)) (argument_rule o n)))) signed.Open

-- what an operator's call says
abbrev Called : Type 0
Called = Op × List Argument

abbrev called_at : Tokens → Read Called
called_at call = op_at call >>= (λ o. arguments_at o.0 o.1 >>= (λ found. put {Y = Called} (o.0, found.0) found.1))

called_rule : Firm called_at (word (op_name op.Sum))
called_rule =
    then_rule op_at (λ (o : Op) (rest : Tokens). arguments_at o rest >>= (λ found. put {Y = Called} (o, found.0) found.1)) (λ (x : Called). false) true (word (op_name op.Sum)) (sign signed.Open) op_rule
    (λ o. made_rule (arguments_at o) (λ (found : List Argument). (o, found)) false true (sign signed.Open) (arguments_rule o))

abbrev definition : List ℕ → Called → Option Let
definition name call = let_of name call.0 call.1

abbrev let_call : List ℕ → Tokens → Read Let
let_call name call = op_at call >>= (λ o. arguments_at o.0 o.1 >>= (λ found. or_fault (let_of name o.0 found.0) (refused BadArity call) >>= (λ d. put d found.1)))

call_inner : (name : List ℕ) (o : Op) (fault : Fault) (r : Read (List Argument))
    → (r >>= (λ found. or_fault (let_of name o found.0) fault >>= (λ d. put d found.1)))
    ≡ ((r >>= (λ found. put {Y = Called} (o, found.0) found.1)) >>= (λ q. or_fault (definition name q.0) fault >>= (λ d. put d q.1)))
call_inner name o fault (Err d) = refl
call_inner name o fault (Ok found) = refl

call_outer : (name : List ℕ) (fault : Fault) (r : Read Op)
    → (r >>= (λ o. arguments_at o.0 o.1 >>= (λ found. or_fault (let_of name o.0 found.0) fault >>= (λ d. put d found.1))))
    ≡ ((r >>= (λ o. arguments_at o.0 o.1 >>= (λ found. put {Y = Called} (o.0, found.0) found.1))) >>= (λ q. or_fault (definition name q.0) fault >>= (λ d. put d q.1)))
call_outer name fault (Err d) = refl
call_outer name fault (Ok o) = call_inner name o.0 fault (arguments_at o.0 o.1)

let_call_rule : (name : List ℕ) → Firm (let_call name) (word (op_name op.Sum))
let_call_rule name =
    same_rule (let_call name) (judged called_at (definition name) BadArity) (λ (x : Let). false) true (word (op_name op.Sum)) (λ call. call_outer name (refused BadArity call) (op_at call))
    (judged_rule called_at (definition name) BadArity (inl refl) (λ (x : Called). false) (λ (x : Let). false) (word (op_name op.Sum)) (λ x y is needs. needs) (λ x none. refl) called_rule)

pub let_rule : Firm let_at name_token
unfolding let_at
let_rule =
    then_rule name_at (λ (name : List ℕ) (rest : Tokens). past_sign signed.Equals rest >>= let_call name) (λ (x : Let). false) true name_token (sign signed.Equals) name_rule
    (λ name. sign_rule (let_call name) (λ (x : Let). false) true (word (op_name op.Sum)) (let_call_rule name) signed.Equals)

-- ---- AGGREGATE

pub any_name_rule : (n : ℕ) → Loose (any_name_at n) name_token
any_name_rule n = loosened name_at true name_token name_rule

names_behind_rule : Firm names_behind name_token
unfolding names_behind
names_behind_rule = close_rule (separated any_name_at) name_token (separated_rule any_name_at (λ n. name_token) any_name_rule)

-- what stands behind the parenthesis of a kernel's call
abbrev pub names_inside : Tokens → Read (List (List ℕ))
names_inside inside = option_map_or (λ close. put [] close) (behind_sign signed.Close inside) (names_behind inside)

pub names_inside_rule : Firm names_inside name_token
names_inside_rule =
    sign_look_rule (λ (close : Tokens). put {Y = List (List ℕ)} [] close) names_behind (λ (x : List (List ℕ)). false) false true name_token name_token
    (done_rule [] (λ (x : List (List ℕ)). false) name_token) names_behind_rule (λ ts x rest e. inl refl) signed.Close (λ taken. refl) (λ (none : true ≡ false). absurd cc)

names_rule : Firm names_at (sign signed.Open)
unfolding names_at
names_rule = sign_rule names_inside (λ (x : List (List ℕ)). false) true name_token names_inside_rule signed.Open

-- a kernel with its names, and with its attribute
abbrev Kernel : Type 0
Kernel = KernelName × List (List ℕ)

abbrev Aimed : Type 0
Aimed = KernelName × List ℕ

abbrev kernel_call : Tokens → Read Kernel
kernel_call ts = kernel_at ts >>= (λ k. names_at k.1 >>= (λ names. put {Y = Kernel} (k.0, names.0) names.1))

kernel_call_rule : Firm kernel_call (word (kernel_name kernel.Sum))
kernel_call_rule =
    then_rule kernel_at (λ (k : KernelName) (rest : Tokens). names_at rest >>= (λ names. put {Y = Kernel} (k, names.0) names.1)) (λ (x : Kernel). false) true (word (kernel_name kernel.Sum)) (sign signed.Open) kernel_rule
    (λ k. made_rule names_at (λ (names : List (List ℕ)). (k, names)) false true (sign signed.Open) names_rule)

abbrev aimed : Kernel → Option Aimed
aimed call = option_map (λ attr. (call.0, attr)) (attr_of call.0 call.1)

-- what is made of a kernel, with its name behind it
abbrev pub shown : Aimed → Tokens → Read Agg
shown a rest = header_at (result_name a.0 a.1) rest >>= (λ header. put (record { kernel = a.0; attr = a.1; name = header.0 }) header.1)

pub shown_rule : (a : Aimed) → Rule (shown a) (λ (x : Agg). true) false name_token
shown_rule a = made_rule (header_at (result_name a.0 a.1)) (λ (header : List ℕ). record { kernel = a.0; attr = a.1; name = header }) true false name_token (header_rule (result_name a.0 a.1))

agg_last : (k : KernelName) (rest : Tokens) (fault : Fault) (found : Option (List ℕ))
    → (or_fault found fault >>= (λ attr. shown (k, attr) rest))
    ≡ ((or_fault (option_map (λ attr. (k, attr)) found) fault >>= (λ a. put {Y = Aimed} a rest)) >>= (λ q. shown q.0 q.1))
agg_last k rest fault None = refl
agg_last k rest fault (Some attr) = refl

agg_inner : (k : KernelName) (fault : Fault) (r : Read (List (List ℕ)))
    → (r >>= (λ names. or_fault (attr_of k names.0) fault >>= (λ attr. shown (k, attr) names.1)))
    ≡ (((r >>= (λ names. put {Y = Kernel} (k, names.0) names.1)) >>= (λ q. or_fault (aimed q.0) fault >>= (λ a. put {Y = Aimed} a q.1))) >>= (λ q. shown q.0 q.1))
agg_inner k fault (Err d) = refl
agg_inner k fault (Ok names) = agg_last k names.1 fault (attr_of k names.0)

agg_outer : (fault : Fault) (r : Read KernelName)
    → (r >>= (λ k. names_at k.1 >>= (λ names. or_fault (attr_of k.0 names.0) fault >>= (λ attr. shown (k.0, attr) names.1))))
    ≡ (((r >>= (λ k. names_at k.1 >>= (λ names. put {Y = Kernel} (k.0, names.0) names.1))) >>= (λ q. or_fault (aimed q.0) fault >>= (λ a. put {Y = Aimed} a q.1))) >>= (λ q. shown q.0 q.1))
agg_outer fault (Err d) = refl
agg_outer fault (Ok k) = agg_inner k.0 fault (names_at k.1)

pub agg_rule : Loose agg_at (word (kernel_name kernel.Sum))
unfolding agg_at
agg_rule =
    same_rule agg_at (λ (ts : Tokens). judged kernel_call aimed BadArity ts >>= (λ q. shown q.0 q.1)) (λ (x : Agg). true) true (word (kernel_name kernel.Sum))
    (λ ts. agg_outer (refused BadArity ts) (kernel_at ts))
    (then_rule (judged kernel_call aimed BadArity) shown (λ (x : Agg). true) false (word (kernel_name kernel.Sum)) name_token
    (judged_rule kernel_call aimed BadArity (inl refl) (λ (x : Kernel). false) (λ (x : Aimed). false) (word (kernel_name kernel.Sum)) (λ x y is needs. needs) (λ x none. refl) kernel_call_rule)
    shown_rule)

-- ---- WHERE and ORDER BY

abbrev test_behind : Bool → List ℕ → Tokens → Read Cond
test_behind negated name rest =
    option_map_or (compared negated name) (behind_relation rest) (put (record { not = negated; name = name; test = test.Has }) rest)

compared_rule : (negated : Bool) (name : List ℕ) (r : Relation) → Rule (λ (rest : Tokens). compared negated name (r, rest)) (λ (x : Cond). true) true name_token
compared_rule negated name r =
    loosened (λ (rest : Tokens). compared negated name (r, rest)) true name_token
    (made_rule name_at (λ (value : List ℕ). record { not = negated; name = name; test = test_of r value }) false true name_token name_rule)

test_behind_rule : (negated : Bool) (name : List ℕ) → Rule (test_behind negated name) (λ (x : Cond). true) false name_token
test_behind_rule negated name =
    let has : Cond = record { not = negated; name = name; test = test.Has } in
    let yes : Relation → Tokens → Read Cond = λ r rest. compared negated name (r, rest) in
    let no : Tokens → Read Cond = λ rest. put has rest in
    let loose : Cond → Bool = λ x. true in
    same_rule (test_behind negated name) (look relation_choice yes no) loose false name_token (relation_look (compared negated name) no) (record {
      fore = look_fore relation_choice yes no loose true false name_token name_token (λ (taken : false ≡ true). absurd cc) (λ none. refl) (λ ts x rest e. inr refl)
          (λ r. (compared_rule negated name r).sample) (λ r. (compared_rule negated name r).fore) (done_rule has loose name_token).fore;
      sample = look_sample relation_choice yes no loose true false name_token name_token (λ (taken : false ≡ true). absurd cc) (λ none. refl) (λ ts x rest e. inr refl) (done_rule has loose name_token).sample;
    })

test_rule : (negated : Bool) → Loose (test_at negated) name_token
unfolding test_at
test_rule negated = then_rule name_at (test_behind negated) (λ (x : Cond). true) false name_token name_token name_rule (test_behind_rule negated)

enclosed_rule : Firm enclosed_test_at name_token
unfolding enclosed_test_at
enclosed_rule = close_rule (test_at true) name_token (test_rule true)

negated_rule : Loose negated_at name_token
unfolding negated_at
negated_rule =
    sign_look_rule enclosed_test_at (test_at true) (λ (x : Cond). true) true true name_token name_token (loosened enclosed_test_at true name_token enclosed_rule) (test_rule true) (λ ts x rest e. inl refl)
    signed.Open (λ taken. refl) (λ none. refl)

pub cond_rule : Loose cond_at name_token
unfolding cond_at
cond_rule =
    key_look_rule negated_at (test_at false) (λ (x : Cond). true) true true name_token name_token negated_rule (test_rule false) (λ ts x rest e. inl refl) keyword.Not (λ taken. refl) (λ none. refl)

direction_rule : Rule direction_at (λ (x : Bool). true) false name_token
unfolding direction_at
direction_rule =
    let loose : Bool → Bool = λ x. true in
    key_look_rule (λ (rest : Tokens). put true rest) (λ (ts : Tokens). option_map_or (λ rest. put false rest) (behind_key keyword.Asc ts) (put false ts)) loose false false name_token name_token
    (done_rule true loose name_token)
    (key_look_rule (λ (rest : Tokens). put false rest) (λ (ts : Tokens). put false ts) loose false false name_token name_token (done_rule false loose name_token) (done_rule false loose name_token)
    (λ ts x rest e. inr refl) keyword.Asc (λ (taken : false ≡ true). absurd cc) (λ none. refl))
    (λ ts x rest e. inr refl) keyword.Desc (λ (taken : false ≡ true). absurd cc) (λ none. refl)

pub order_key_rule : Loose order_key_at name_token
unfolding order_key_at
order_key_rule =
    then_rule name_at (λ (name : List ℕ) (rest : Tokens). direction_at rest >>= (λ down. put (record { name = name; down = down.0 }) down.1)) (λ (x : OrderKey). true) false name_token name_token name_rule
    (λ name. made_rule direction_at (λ (down : Bool). record { name = name; down = down }) true false name_token direction_rule)
