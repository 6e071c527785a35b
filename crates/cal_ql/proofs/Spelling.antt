-- The text of tokens has these tokens.
use Rattle.std.proofs.Common.{◌≡◌, ℕ, ℤ, pos, negsuc, suc, ◌+◌, ◌<◌, ◌≤◌, ◌^◌, Bool, true, false, List, [], ◌∷◌, ◌++◌, length, get_or, Some, None, Ok, refl, sym, ap, ◌∙◌, arith, inl, inr, decimal, append_assoc, lit<}
use Rattle.std.specs.Prelude.{◌==◌, ◌||◌, nat_eq, nat_lt, option_map, unsigned_abs}
use Rattle.std.specs.Char.{to_ascii_lowercase}
use Rattle.std.specs.Fmt.{signed_decimal}
use Rattle.std.specs.List.{AllByRecursion, prefix_len}
use Rattle.std.specs.Str.Parse.{AllDigits}
use Rattle.std.proofs.Math.Seq.{drop-append_seam, take-append_seam}
use Rattle.std.proofs.lemmas.Grind.{common_steps}
use Rattle.std.proofs.lemmas.Bool.{cond-true}
use Rattle.std.proofs.lemmas.Bool.Decides.{nat_tests}
use Rattle.std.proofs.lemmas.Fmt.{decimal_is_IsNumeral_wide}
use Rattle.std.proofs.lemmas.List.{length-append}
use Rattle.std.proofs.lemmas.Str.Parse.{digit_from_value}
use Rattle.cal_ql.specs.declared.token.Keyword as keywords
use Rattle.cal_ql.specs.declared.token.Keyword.TheVariants as keyword
use Rattle.cal_ql.specs.declared.token.Sign as signs
use Rattle.cal_ql.specs.declared.token.Sign.TheVariants as signed
use Rattle.cal_ql.specs.declared.names.Op as ops
use Rattle.cal_ql.specs.declared.names.Op.TheVariants as op
use Rattle.cal_ql.specs.declared.names.KernelName as kernels
use Rattle.cal_ql.specs.declared.names.KernelName.TheVariants as kernel
use Rattle.cal_ql.specs.declared.names.Format as formats
use Rattle.cal_ql.specs.declared.names.Format.TheVariants as format
use Rattle.cal_ql.specs.Names.{keyword_of, op_name, kernel_name, format_name}
use Rattle.cal_ql.specs.Signs.{sign_at}
use Rattle.cal_ql.specs.Tokens.{Token, key, word, quoted, sign, Tokens, end, is_blank, is_word_byte, quoted_at, quoted_len, token_at, tokens_from, unquoted}
use Rattle.cal_ql.specs.Reading.{first_of}
use Rattle.cal_ql.specs.Grammar.{The}
use Rattle.cal_ql.specs.Writing.{escaped, text_of, token_text}
use Rattle.cal_ql.proofs.Choices.{either_way}
use Rattle.cal_ql.proofs.TokenSteps.{tokens_first_token}

-- a token's text is read as the token, where a blank stands behind it
pub record IsRead (t : Token) : Type 0 where
  pub some : 0 < length (token_text t)
  pub plain : is_blank (get_or (token_text t) 0 0) ≡ false
  pub found : (rest : List ℕ) → token_at (token_text t ++ 32 ∷ rest) ≡ Ok (t, length (token_text t))

-- ---- keywords, signs, names of the language

pub key_read : (k : keywords.Keyword) → IsRead (key k)
unfolding token_at keyword_of
key_read keyword.Let = record { some = omega arith; plain = refl; found = λ rest. refl }
key_read keyword.Select = record { some = omega arith; plain = refl; found = λ rest. refl }
key_read keyword.Aggregate = record { some = omega arith; plain = refl; found = λ rest. refl }
key_read keyword.Where = record { some = omega arith; plain = refl; found = λ rest. refl }
key_read keyword.Group = record { some = omega arith; plain = refl; found = λ rest. refl }
key_read keyword.Order = record { some = omega arith; plain = refl; found = λ rest. refl }
key_read keyword.By = record { some = omega arith; plain = refl; found = λ rest. refl }
key_read keyword.Format = record { some = omega arith; plain = refl; found = λ rest. refl }
key_read keyword.As = record { some = omega arith; plain = refl; found = λ rest. refl }
key_read keyword.Not = record { some = omega arith; plain = refl; found = λ rest. refl }
key_read keyword.Asc = record { some = omega arith; plain = refl; found = λ rest. refl }
key_read keyword.Desc = record { some = omega arith; plain = refl; found = λ rest. refl }

pub sign_read : (s : signs.Sign) → IsRead (sign s)
unfolding token_at sign_at
sign_read signed.Comma = record { some = omega arith; plain = refl; found = λ rest. refl }
sign_read signed.Open = record { some = omega arith; plain = refl; found = λ rest. refl }
sign_read signed.Close = record { some = omega arith; plain = refl; found = λ rest. refl }
sign_read signed.Star = record { some = omega arith; plain = refl; found = λ rest. refl }
sign_read signed.Equals = record { some = omega arith; plain = refl; found = λ rest. refl }
sign_read signed.Less = record { some = omega arith; plain = refl; found = λ rest. refl }
sign_read signed.Greater = record { some = omega arith; plain = refl; found = λ rest. refl }
sign_read signed.LessEqual = record { some = omega arith; plain = refl; found = λ rest. refl }
sign_read signed.GreaterEqual = record { some = omega arith; plain = refl; found = λ rest. refl }

pub op_read : (o : ops.Op) → IsRead (word (op_name o))
unfolding token_at keyword_of
op_read op.Truncate = record { some = omega arith; plain = refl; found = λ rest. refl }
op_read op.Scale = record { some = omega arith; plain = refl; found = λ rest. refl }
op_read op.Ratio = record { some = omega arith; plain = refl; found = λ rest. refl }
op_read op.First = record { some = omega arith; plain = refl; found = λ rest. refl }
op_read op.Sum = record { some = omega arith; plain = refl; found = λ rest. refl }

pub kernel_read : (k : kernels.KernelName) → IsRead (word (kernel_name k))
unfolding token_at keyword_of
kernel_read kernel.Count = record { some = omega arith; plain = refl; found = λ rest. refl }
kernel_read kernel.Sum = record { some = omega arith; plain = refl; found = λ rest. refl }
kernel_read kernel.Min = record { some = omega arith; plain = refl; found = λ rest. refl }
kernel_read kernel.Max = record { some = omega arith; plain = refl; found = λ rest. refl }
kernel_read kernel.Avg = record { some = omega arith; plain = refl; found = λ rest. refl }
kernel_read kernel.Inclusive = record { some = omega arith; plain = refl; found = λ rest. refl }
kernel_read kernel.Percent = record { some = omega arith; plain = refl; found = λ rest. refl }

pub format_read : (f : formats.Format) → IsRead (word (format_name f))
unfolding token_at keyword_of
format_read format.Table = record { some = omega arith; plain = refl; found = λ rest. refl }
format_read format.Tree = record { some = omega arith; plain = refl; found = λ rest. refl }
format_read format.Json = record { some = omega arith; plain = refl; found = λ rest. refl }
format_read format.Expand = record { some = omega arith; plain = refl; found = λ rest. refl }

-- ---- names in quotes

-- a byte that is neither a quote nor a backslash
plain_len : (byte : ℕ) (bytes : List ℕ) → (byte == 34) ≡ false → (byte == 92) ≡ false
    → quoted_len (byte ∷ bytes) ≡ option_map (λ n. 1 + n) (quoted_len bytes)
plain_len byte [] quote slash = rw quote refl
plain_len byte (next ∷ bytes) quote slash = rw (quote, slash) refl

plain_unquoted : (byte : ℕ) (bytes : List ℕ) → (byte == 92) ≡ false
    → unquoted (byte ∷ bytes) ≡ byte ∷ unquoted bytes
plain_unquoted byte [] slash = rw slash refl
plain_unquoted byte (next ∷ bytes) slash = rw slash refl

or_neither : (a b : Bool) → (a || b) ≡ false → (a ≡ false) × (b ≡ false)
or_neither true b e = absurd cc
or_neither false b e = (refl, e)

escaped_len : (name rest : List ℕ)
    → quoted_len (escaped name ++ 34 ∷ rest) ≡ Some (length (escaped name))
escaped_len [] [] = refl
escaped_len [] (next ∷ rest) = refl
escaped_len (byte ∷ name) rest =
    elim (either_way (byte == 34 || byte == 92)) [
      | inl special ↦ rw special
          (ap (option_map (λ n. 2 + n)) (escaped_len name rest) ∙ ap (λ (n : ℕ). Some n) (omega arith))
      | inr plain ↦ (
          let both = or_neither (byte == 34) (byte == 92) plain in
          rw plain (plain_len byte (escaped name ++ 34 ∷ rest) both.0 both.1
          ∙ ap (option_map (λ n. 1 + n)) (escaped_len name rest)
          ∙ ap (λ (n : ℕ). Some n) (omega arith)))
    ]

unquoted-escaped : (name : List ℕ) → unquoted (escaped name) ≡ name
unquoted-escaped [] = refl
unquoted-escaped (byte ∷ name) =
    elim (either_way (byte == 34 || byte == 92)) [
      | inl special ↦ rw special (ap (λ (bytes : List ℕ). byte ∷ bytes) (unquoted-escaped name))
      | inr plain ↦ (
          let both = or_neither (byte == 34) (byte == 92) plain in
          rw plain (plain_unquoted byte (escaped name) both.1
          ∙ ap (λ (bytes : List ℕ). byte ∷ bytes) (unquoted-escaped name)))
    ]

name_found : (name rest : List ℕ)
    → quoted_at (escaped name ++ 34 ∷ rest) (quoted_len (escaped name ++ 34 ∷ rest))
    ≡ Ok (quoted name, length (escaped name) + 2)
name_found name rest =
    rw (escaped_len name rest, take-append_seam (escaped name) (34 ∷ rest), unquoted-escaped name)
    refl

pub name_read : (name : List ℕ) → IsRead (quoted name)
unfolding token_at
name_read name =
    let long : length (token_text (quoted name)) ≡ length (escaped name) + 2 =
    omega (arith, length-append (escaped name) (34 ∷ [])) in
    record {
      some = omega (arith, long);
      plain = refl;
      found = λ rest.
          rw (append_assoc (escaped name) (34 ∷ []) (32 ∷ rest))
          (name_found name (32 ∷ rest)
          ∙ ap (λ (n : ℕ). Ok (quoted name, n)) (sym long));
    }

-- ---- numbers

word_len : (text rest : List ℕ) → AllByRecursion (λ byte. is_word_byte byte ≡ true) text
    → prefix_len is_word_byte (text ++ 32 ∷ rest) ≡ length text
word_len [] rest all = refl
word_len (byte ∷ text) rest all =
    cond-true (is_word_byte byte) _ _ all.0 ∙ omega (arith, word_len text rest all.1)

word_read : (text : List ℕ) → 0 < length text
    → AllByRecursion (λ byte. is_word_byte byte ≡ true) text → keyword_of text ≡ None
    → (rest : List ℕ) → token_at (text ++ 32 ∷ rest) ≡ Ok (word text, length text)
unfolding token_at
word_read text some all none rest =
    let long : nat_lt 0 (length text) ≡ true = grind (arith, nat_tests) in
    rw (word_len text rest all, long, take-append_seam text (32 ∷ rest), none) refl

-- a digit or a minus
digit_word : (c : ℕ) → 48 ≤ c → c ≤ 57 → is_word_byte c ≡ true
digit_word c low high = grind (arith, common_steps)

digits_word : (text : List ℕ) → AllDigits 10 text
    → AllByRecursion (λ byte. is_word_byte byte ≡ true) text
digits_word [] all = tt
digits_word (c ∷ text) all =
    let range = digit_from_value c all.0 in (digit_word c range.0 range.1, digits_word text all.1)

-- no keyword begins with a byte below the letters
no_key : (c : ℕ) (text : List ℕ) → c < 65 → keyword_of (c ∷ text) ≡ None
unfolding keyword_of
no_key c text low =
    let same : to_ascii_lowercase c ≡ c = grind (arith, common_steps) in
    let apart : (k : ℕ) → 65 ≤ k → nat_eq c k ≡ false = λ k high. grind (arith, nat_tests) in
    rw same rw (
      apart 108 (omega arith),
      apart 115 (omega arith),
      apart 97 (omega arith),
      apart 119 (omega arith),
      apart 103 (omega arith),
      apart 111 (omega arith),
      apart 98 (omega arith),
      apart 102 (omega arith),
      apart 110 (omega arith),
      apart 100 (omega arith),
    ) refl

not_blank : (c : ℕ) → 33 ≤ c → is_blank c ≡ false
not_blank c high = grind (arith, common_steps)

digits_plain : (text : List ℕ) → 0 < length text → AllDigits 10 text
    → is_blank (get_or text 0 0) ≡ false
digits_plain [] some all = absurd (omega arith)
digits_plain (c ∷ text) some all =
    let range = digit_from_value c all.0 in not_blank c (omega (arith, range.0))

digits_no_key : (text : List ℕ) → 0 < length text → AllDigits 10 text → keyword_of text ≡ None
digits_no_key [] some all = absurd (omega arith)
digits_no_key (c ∷ text) some all =
    let range = digit_from_value c all.0 in no_key c text (omega (arith, range.1))

pub number_read : (n : ℤ) → unsigned_abs n ≤ 2 ^ 86 → IsRead (word (signed_decimal n))
number_read (pos n) small =
    let is = (decimal_is_IsNumeral_wide n (omega arith)).0 in
    record {
      some = is.0;
      plain = digits_plain (decimal n) is.0 is.1;
      found = word_read (decimal n) is.0 (digits_word (decimal n) is.1)
          (digits_no_key (decimal n) is.0 is.1);
    }
number_read (negsuc n) small =
    let is = (decimal_is_IsNumeral_wide (suc n) (omega arith)).0 in
    record {
      some = omega arith;
      plain = refl;
      found = word_read (45 ∷ decimal (suc n)) (omega arith)
          (refl, digits_word (decimal (suc n)) is.1) (no_key 45 (decimal (suc n)) (lit< tt));
    }

-- ---- one token after another

-- these tokens come one after another
abbrev pub Come : List Token → Tokens → Tokens → Type 0
Come [] from to = from ≡ to
Come (t ∷ ts) from to = (next : Tokens) × The t from next × Come ts next to

first_byte : (text rest : List ℕ) → 0 < length text
    → get_or (text ++ rest) 0 0 ≡ get_or text 0 0
first_byte [] rest some = absurd (omega arith)
first_byte (byte ∷ text) rest some = refl

token_comes : (whole : ℕ) (t : Token) (rest : List ℕ) → IsRead t
    → The t (tokens_from whole (token_text t ++ 32 ∷ rest) 0) (tokens_from whole rest 0)
unfolding first_of tokens_from
token_comes whole t rest read =
    let text = token_text t in
    let some : 0 < length (text ++ 32 ∷ rest) =
    omega (arith, read.some, length-append text (32 ∷ rest)) in
    let plain : is_blank (get_or (text ++ 32 ∷ rest) 0 0) ≡ false =
    ap is_blank (first_byte text (32 ∷ rest) read.some) ∙ read.plain in
    ap first_of
    (tokens_first_token whole (text ++ 32 ∷ rest) t (length text) some plain (read.found rest)
    read.some)
    ∙ ap (λ (bytes : List ℕ). Some (t, tokens_from whole bytes 0))
    (drop-append_seam text (32 ∷ rest))

-- the text of tokens that are read has them, up to its end
pub text_comes : (whole : ℕ) (ts : List Token) → AllByRecursion IsRead ts
    → Come ts (tokens_from whole (text_of ts) 0) (end whole)
unfolding tokens_from
text_comes whole [] all = refl
text_comes whole (t ∷ ts) all =
    (tokens_from whole (text_of ts) 0, token_comes whole t (text_of ts) all.0, text_comes whole ts all.1)
