-- Each token of a text is one that a text can be written of.
use Rattle.std.proofs.Common.{◌≡◌, ℕ, zero, suc, ◌+◌, ◌-◌, ◌<◌, Bool, true, false, cond, eqb, List, [], ◌∷◌, ◌++◌, length, take, drop, Option, Some, None, Ok, Err, refl, sym, ap, subst, ◌∙◌, arith}
use Rattle.std.specs.Prelude.{codes, nat_eq, nat_lt, ◌||◌}
use Rattle.std.specs.List.{AllByRecursion, prefix_len, starts_with}
use Rattle.std.proofs.lemmas.Bool.{cond-true, eqb-true}
use Rattle.std.proofs.lemmas.Bool.Decides.{nat_tests}
use Rattle.std.proofs.Math.Seq.{take-append_seam}
use Rattle.cal_ql.specs.Grammar.{The}
use Rattle.cal_ql.specs.Names.{keyword_of}
use Rattle.cal_ql.specs.Reading.{first_of}
use Rattle.cal_ql.specs.Signs.{sign_at, sign_text}
use Rattle.cal_ql.specs.Tokens.{Lexeme, Token, Tokens, end, broken, token, word, quoted, sign, is_blank, is_word_byte, quoted_at, quoted_len, signed, token_at, tokens_from, tokens_of, tokens_with, unquoted, word_at, word_or_key}
use Rattle.cal_ql.specs.declared.token.Keyword.{Keyword}
use Rattle.cal_ql.specs.declared.token.Sign.{Sign}
use Rattle.cal_ql.proofs.Spelling.{IsRead, key_read, name_read, sign_read}
use Rattle.cal_ql_faults.specs.FaultPlaces.{Row}

-- ---- words

word_len : (text rest : List ℕ) → AllByRecursion (λ byte. is_word_byte byte ≡ true) text → prefix_len is_word_byte (text ++ 32 ∷ rest) ≡ length text
word_len [] rest all = refl
word_len (byte ∷ text) rest all = cond-true (is_word_byte byte) _ _ all.0 ∙ omega (arith, word_len text rest all.1)

word_found : (text : List ℕ) → 0 < length text → AllByRecursion (λ byte. is_word_byte byte ≡ true) text → keyword_of text ≡ None
    → (rest : List ℕ) → token_at (text ++ 32 ∷ rest) ≡ Ok (word text, length text)
unfolding token_at
word_found text some all none rest =
    let long : nat_lt 0 (length text) ≡ true = grind (arith, nat_tests) in
    rw (word_len text rest all, long, take-append_seam text (32 ∷ rest), none) refl

-- a byte of a word is no blank
equal_no : (blank byte : ℕ) (b : Bool) → eqb blank byte ≡ b → is_word_byte blank ≡ false → is_word_byte byte ≡ true → b ≡ false
equal_no blank byte false is none some = refl
equal_no blank byte true is none some =
    absurd (let same : blank ≡ byte = eqb-true blank byte is in
    let lost : false ≡ true = sym none ∙ ap is_word_byte same ∙ some in cc)

three : (a b c : Bool) → a ≡ false → b ≡ false → c ≡ false → (a || (b || (c || false))) ≡ false
three a b c p q r = λ i. p i || (q i || (r i || false))

word_no_blank : (byte : ℕ) → is_word_byte byte ≡ true → is_blank byte ≡ false
word_no_blank byte some =
    three (eqb 32 byte) (eqb 9 byte) (eqb 10 byte) (equal_no 32 byte (eqb 32 byte) refl refl some) (equal_no 9 byte (eqb 9 byte) refl refl some) (equal_no 10 byte (eqb 10 byte) refl refl some)

one_more : (n : ℕ) → suc n ≡ 1 + n
one_more n = omega arith

words_by : (byte : ℕ) (text : List ℕ) (b : Bool) → is_word_byte byte ≡ b → AllByRecursion (λ c. is_word_byte c ≡ true) (take (prefix_len is_word_byte text) text)
    → AllByRecursion (λ c. is_word_byte c ≡ true) (take (cond b (1 + prefix_len is_word_byte text) 0) (byte ∷ text))
words_by byte text true is all =
    subst (λ (m : ℕ). AllByRecursion (λ c. is_word_byte c ≡ true) (take m (byte ∷ text))) (one_more (prefix_len is_word_byte text)) (is, all)
words_by byte text false is all = tt

words_all : (text : List ℕ) → AllByRecursion (λ byte. is_word_byte byte ≡ true) (take (prefix_len is_word_byte text) text)
words_all [] = tt
words_all (byte ∷ text) = words_by byte text (is_word_byte byte) refl (words_all text)

front_read_by : (front : List ℕ) (found : Option Keyword) → keyword_of front ≡ found → 0 < length front → AllByRecursion (λ byte. is_word_byte byte ≡ true) front → IsRead (word_or_key front found)
front_read_by front (Some k) is some all = key_read k
front_read_by [] None is some all = absurd (omega arith)
front_read_by (byte ∷ front) None is some all = record {
  some = some;
  plain = word_no_blank byte all.0;
  found = word_found (byte ∷ front) some all is;
}

long_by : (byte : ℕ) (text : List ℕ) (b : Bool) → nat_lt 0 (cond b (1 + prefix_len is_word_byte text) 0) ≡ true → 0 < length (take (cond b (1 + prefix_len is_word_byte text) 0) (byte ∷ text))
long_by byte text true long = subst (λ (m : ℕ). 0 < length (take m (byte ∷ text))) (one_more (prefix_len is_word_byte text)) (omega arith)
long_by byte text false long = absurd cc

long_front : (text : List ℕ) → nat_lt 0 (prefix_len is_word_byte text) ≡ true → 0 < length (take (prefix_len is_word_byte text) text)
long_front [] long = absurd cc
long_front (byte ∷ text) long = long_by byte text (is_word_byte byte) long

-- ---- each token

abbrev lexed : Token → ℕ → Lexeme
lexed t n = Ok (t, n)

word_lexed : (text : List ℕ) (t : Token) (n : ℕ) → nat_lt 0 (prefix_len is_word_byte text) ≡ true → word_at text ≡ lexed t n → IsRead t
word_lexed text t n long is =
    let front : List ℕ = take (prefix_len is_word_byte text) text in
    let same : (word_or_key front (keyword_of front), prefix_len is_word_byte text) ≡ (t, n) = cc in
    subst IsRead (ap (λ (q : Token × ℕ). q.0) same) (front_read_by front (keyword_of front) refl (long_front text long) (words_all text))

quoted_lexed : (behind : List ℕ) (found : Option ℕ) (t : Token) (n : ℕ) → quoted_at behind found ≡ lexed t n → IsRead t
quoted_lexed behind None t n is = absurd cc
quoted_lexed behind (Some m) t n is =
    let same : (quoted (unquoted (take m behind)), m + 2) ≡ (t, n) = cc in
    subst IsRead (ap (λ (q : Token × ℕ). q.0) same) (name_read (unquoted (take m behind)))

sign_lexed : (found : Option Sign) (t : Token) (n : ℕ) → signed found ≡ lexed t n → IsRead t
sign_lexed None t n is = absurd cc
sign_lexed (Some s) t n is =
    let same : (sign s, length (sign_text s)) ≡ (t, n) = cc in
    subst IsRead (ap (λ (q : Token × ℕ). q.0) same) (sign_read s)

other_lexed : (text : List ℕ) (t : Token) (n : ℕ) (b : Bool)
    → cond b (quoted_at (drop 1 text) (quoted_len (drop 1 text))) (signed (sign_at text)) ≡ lexed t n → IsRead t
other_lexed text t n true is = quoted_lexed (drop 1 text) (quoted_len (drop 1 text)) t n is
other_lexed text t n false is = sign_lexed (sign_at text) t n is

lexed_by : (text : List ℕ) (t : Token) (n : ℕ) (b : Bool) → nat_lt 0 (prefix_len is_word_byte text) ≡ b
    → cond b (word_at text) (cond (starts_with nat_eq text (codes "\"")) (quoted_at (drop 1 text) (quoted_len (drop 1 text))) (signed (sign_at text))) ≡ lexed t n → IsRead t
lexed_by text t n true long is = word_lexed text t n long is
lexed_by text t n false long is = other_lexed text t n (starts_with nat_eq text (codes "\"")) is

lexed_read : (text : List ℕ) (t : Token) (n : ℕ) → token_at text ≡ lexed t n → IsRead t
unfolding token_at
lexed_read text t n is = lexed_by text t n (nat_lt 0 (prefix_len is_word_byte text)) refl is

-- ---- all tokens

abbrev AllRead : Tokens → Type 0
AllRead (end place) = Unit {0}
AllRead (broken fault) = Unit {0}
AllRead (token place t rest) = IsRead t × AllRead rest

with_read : (place : ℕ) (text : List ℕ) (found : Lexeme) (behind : ℕ → Tokens) → token_at text ≡ found → ((n : ℕ) → AllRead (behind n)) → AllRead (tokens_with place found behind)
with_read place text (Err kind) behind is all = tt
with_read place text (Ok found) behind is all = (lexed_read text found.0 found.1 is, all (found.1 - 1))

blank_read : (b : Bool) (one other : Tokens) → AllRead one → AllRead other → AllRead (cond b one other)
blank_read true one other p q = p
blank_read false one other p q = q

all_read : (whole : ℕ) (text : List ℕ) (inside : ℕ) → AllRead (tokens_from whole text inside)
unfolding tokens_from
all_read whole [] inside = tt
all_read whole (byte ∷ bytes) (suc inside) = all_read whole bytes inside
all_read whole (byte ∷ bytes) zero =
    blank_read (is_blank byte) (tokens_from whole bytes 0) (tokens_with (whole - length (byte ∷ bytes)) (token_at (byte ∷ bytes)) (λ n. tokens_from whole bytes n))
    (all_read whole bytes 0)
    (with_read (whole - length (byte ∷ bytes)) (byte ∷ bytes) (token_at (byte ∷ bytes)) (λ n. tokens_from whole bytes n) refl (λ n. all_read whole bytes n))

the_read : (t : Token) (ts rest : Tokens) → AllRead ts → The t ts rest → IsRead t × AllRead rest
unfolding first_of
the_read t (end place) rest all the = absurd cc
the_read t (broken fault) rest all the = absurd cc
the_read t (token place u left) rest all the =
    let same : (u, left) ≡ (t, rest) = cc in
    subst (λ (q : Token × Tokens). IsRead q.0 × AllRead q.1) same all

row_read : (before : List Token) (ts rest : Tokens) → AllRead ts → Row before ts rest → AllByRecursion IsRead before
row_read [] ts rest all row = tt
row_read (t ∷ before) ts rest all row =
    let one = the_read t ts row.0 all row.1 in
    (one.0, row_read before row.0 rest one.1 row.2)

-- the first tokens of a text
pub text_read : (text : List ℕ) (before : List Token) (rest : Tokens) → Row before (tokens_of text) rest → AllByRecursion IsRead before
text_read text before rest row = row_read before (tokens_of text) rest (all_read (length text) text 0) row
