-- The words of printed lines are read as what was printed.
use Rattle.std.proofs.Common.{◌≡◌, ◌≢◌, ℕ, zero, suc, ◌<◌, ◌≤◌, ◌^◌, Bool, true, false, cond, eqb, List, [], ◌∷◌, ◌++◌, min, refl, sym, ap, subst, ◌∙◌, arith, lit≤, lit<}
use Rattle.std.specs.Prelude.{Option, Some, None, Result, Ok, codes, decimal, IfSome, nat_lt, nat_le, ◌&&◌, slice_index}
use Rattle.std.specs.List.{All, list_all}
use Rattle.std.specs.Option.{option_map}
use Rattle.std.specs.Str.{bytes_eq, is_utf8}
use Rattle.std.specs.Str.Parse.{AllDigits}
use Rattle.std.specs.Cmp.{first_so, second_so}
use Rattle.std.specs.Cmp.Lexicographic.{same_text}
use Rattle.std.proofs.lemmas.Bool.{ne_eqb, leb-true}
use borrow.Author.Tests.{ltb-true}
use Rattle.std.proofs.lemmas.Fmt.{decimal_is_IsNumeral}
use Rattle.std.proofs.lemmas.List.Elements.{All-nil, All-cons, All-head, All-tail, All-append, All-weaker}
use Rattle.std.proofs.lemmas.List.Splits.{slice_split_at, slice_split_none}
use Rattle.std.proofs.lemmas.Str.{IsUtf8-from_ascii, is_utf8-from_IsUtf8}
use Rattle.std.proofs.lemmas.Str.Parse.{digit_from_value}
use Rattle.cal_value.specs.Numerals.{at_most, number_of}
use Rattle.cal_value.specs.Reading.{uint_of}
use Rattle.cal_value.proofs.Numbers.{at_most-fits, number_of-digits}
use Rattle.cal_line.specs.FirstFault.{◌>>=◌, after_lines}
use Rattle.cal_line.specs.Lines.{HasNoNewline}
use Rattle.cal_script.specs.Lines.{joined, pieces, words_of}
use Rattle.cal_script.specs.declared.journal.Reply as replies
use Rattle.cal_script.specs.declared.journal.Reply.TheVariants as reply
use Rattle.cal_journal.specs.Words.{long_number, reading_said, reply_of, reply_said, short_number}
use Rattle.cal_journal.specs.ReadBack.{HoldsReply}

-- ---- bytes

-- a byte of a word: of ASCII, and no space
abbrev pub IsWordByte : ℕ → Type 0
IsWordByte byte = (33 ≤ byte) × (byte < 128)

abbrev pub is_word_byte : ℕ → Bool
is_word_byte byte = nat_le 33 byte && nat_lt byte 128

word_byte : (byte : ℕ) → is_word_byte byte ≡ true → IsWordByte byte
word_byte byte is =
    let low = first_so (nat_le 33 byte) (nat_lt byte 128) is in
    let high = second_so (nat_le 33 byte) (nat_lt byte 128) is in
    (leb-true 33 byte low, ltb-true byte 128 high)

pub word_bytes : (word : List ℕ) → list_all is_word_byte word ≡ true → All IsWordByte word
word_bytes [] is = All-nil IsWordByte
word_bytes (byte ∷ word) is =
    let first = first_so (is_word_byte byte) (list_all is_word_byte word) is in
    let rest = second_so (is_word_byte byte) (list_all is_word_byte word) is in
    All-cons IsWordByte byte word (word_byte byte first) (word_bytes word rest)

abbrev IsDigit : ℕ → Type 0
IsDigit byte = (48 ≤ byte) × (byte ≤ 57)

digits_are : (ds : List ℕ) → AllDigits 10 ds → All IsDigit ds
digits_are [] d = All-nil IsDigit
digits_are (c ∷ cs) d = All-cons IsDigit c cs (digit_from_value c d.0) (digits_are cs d.1)

decimal_digits : (n : ℕ) → n < 2 ^ 64 → All IsDigit (decimal n)
decimal_digits n small = digits_are (decimal n) (decimal_is_IsNumeral n small).0.1

pub decimal_word : (n : ℕ) → n < 2 ^ 64 → All IsWordByte (decimal n)
decimal_word n small =
    All-weaker IsDigit IsWordByte (λ byte is. (omega arith, omega arith)) (decimal n) (decimal_digits n small)

-- ---- words in a line

not_space : (byte : ℕ) → IsWordByte byte → eqb byte 32 ≡ false
not_space byte is = ne_eqb byte 32 (λ (same : byte ≡ 32). omega arith)

pub no_spaces : (word : List ℕ) → All IsWordByte word → All (λ byte. eqb byte 32 ≡ false) word
no_spaces word is = All-weaker IsWordByte (λ byte. eqb byte 32 ≡ false) not_space word is

-- words that were joined by spaces are the words of their line
pub words_joined : (first : List ℕ) (words : List (List ℕ)) → All IsWordByte first → All (All IsWordByte) words
    → words_of (joined (first ∷ words)) ≡ first ∷ words
words_joined first [] is all = slice_split_none (λ byte. eqb byte 32) first (no_spaces first is)
words_joined first (next ∷ words) is all =
    slice_split_at (λ byte. eqb byte 32) first 32 (joined (next ∷ words)) (no_spaces first is) refl
    ∙ ap (λ more. first ∷ more)
    (words_joined next words (All-head (All IsWordByte) next words all) (All-tail (All IsWordByte) next words all))

-- a byte of a line
abbrev pub IsLineByte : ℕ → Type 0
IsLineByte byte = (32 ≤ byte) × (byte < 128)

line_bytes : (word : List ℕ) → All IsWordByte word → All IsLineByte word
line_bytes word is = All-weaker IsWordByte IsLineByte (λ byte fine. (omega arith, omega arith)) word is

pub joined_bytes : (first : List ℕ) (words : List (List ℕ)) → All IsWordByte first → All (All IsWordByte) words
    → All IsLineByte (joined (first ∷ words))
joined_bytes first [] is all = line_bytes first is
joined_bytes first (next ∷ words) is all =
    let more = joined_bytes next words (All-head (All IsWordByte) next words all) (All-tail (All IsWordByte) next words all) in
    All-append IsLineByte first (32 ∷ joined (next ∷ words)) (line_bytes first is)
    (All-cons IsLineByte 32 (joined (next ∷ words)) (lit≤ tt, lit< tt) more)

ascii_at : (bytes : List ℕ) (i : ℕ) → All IsLineByte bytes → slice_index bytes i < 128
ascii_at [] i all = lit< tt
ascii_at (byte ∷ bytes) zero all = (All-head IsLineByte byte bytes all).1
ascii_at (byte ∷ bytes) (suc i) all = ascii_at bytes i (All-tail IsLineByte byte bytes all)

pub line_utf8 : (bytes : List ℕ) → All IsLineByte bytes → is_utf8 bytes ≡ true
line_utf8 bytes all = is_utf8-from_IsUtf8 bytes (IsUtf8-from_ascii bytes (λ i. ascii_at bytes i all))

pub line_whole : (bytes : List ℕ) → All IsLineByte bytes → HasNoNewline bytes
line_whole bytes all =
    All-weaker IsLineByte (λ byte. byte ≢ 10) (λ byte is. λ (same : byte ≡ 10). omega arith) bytes all

-- a first line that is read
pub after_first : {S K : Type 0} (step : S → List ℕ → Result S K) (state after : S) (line : List ℕ) (lines : List (List ℕ))
    → step state line ≡ Ok after → after_lines step state (line ∷ lines) ≡ after_lines step after lines
after_first {S} {K} step state after line lines said = ap (λ (found : Result S K). found >>= (λ s. after_lines step s lines)) said

-- ---- numbers

number_back : (n : ℕ) → n < 2 ^ 64 → number_of 10 (decimal n) ≡ Some n
number_back n small = number_of-digits 10 n (lit≤ tt) (lit≤ tt) (omega arith)

least : (n most : ℕ) → n ≤ most → min n most ≡ n
least n most le = omega arith

pub long_back : (n : ℕ) → n < 2 ^ 64 → long_number (decimal n) ≡ Some n
long_back n small =
    ap (option_map (λ m. min m 18446744073709551615)) (number_back n small) ∙ ap Some (least n 18446744073709551615 (omega arith))

pub short_back : (n : ℕ) → n < 2 ^ 32 → short_number (decimal n) ≡ Some n
short_back n small =
    ap (option_map (λ m. min m 4294967295)) (number_back n (omega arith)) ∙ ap Some (least n 4294967295 (omega arith))

uint_back : (n : ℕ) → n < 2 ^ 64 → uint_of (decimal n) ≡ Some n
uint_back n small =
    ap (at_most 18446744073709551615) (number_back n small) ∙ at_most-fits 18446744073709551615 n (omega arith)

-- ---- readings

abbrev pub reading_word : Option ℕ → List ℕ
reading_word None = codes "-"
reading_word (Some n) = decimal n

no_dash : (n : ℕ) (same : Bool) → n < 2 ^ 64 → bytes_eq (decimal n) (codes "-") ≡ same → same ≡ false
no_dash n false small is = refl
no_dash n true small is =
    let dash : decimal n ≡ 45 ∷ [] = same_text (decimal n) (45 ∷ []) (sym is) in
    let digits : All IsDigit (45 ∷ []) = subst (All IsDigit) dash (decimal_digits n small) in
    let first = All-head IsDigit 45 [] digits in
    absurd (omega arith)

pub reading_back : (reading : Option ℕ) → IfSome reading (λ n. n < 2 ^ 64) → reading_said (reading_word reading) ≡ Some reading
reading_back None small = refl
reading_back (Some n) small =
    let other = no_dash n (bytes_eq (decimal n) (codes "-")) small refl in
    ap (λ (dash : Bool). cond dash (Some None) (option_map (λ m. Some m) (uint_of (decimal n)))) other
    ∙ ap (option_map (λ m. Some m)) (uint_back n small)

pub reading_bytes : (reading : Option ℕ) → IfSome reading (λ n. n < 2 ^ 64) → All IsWordByte (reading_word reading)
reading_bytes None small = word_bytes (codes "-") refl
reading_bytes (Some n) small = decimal_word n small

-- ---- replies

abbrev pub reply_word : replies.Reply → List ℕ
reply_word reply.Done = codes "done"
reply_word (reply.Mismatch top) = codes "mismatch:" ++ decimal top
reply_word reply.NotOpen = codes "notopen"
reply_word reply.TooDeep = codes "toodeep"
reply_word reply.SlotsFull = codes "slotsfull"
reply_word reply.Merged = codes "merged"
reply_word (reply.Busy holder) = codes "busy:" ++ decimal holder

one_piece : (n : ℕ) → n < 2 ^ 64 → pieces 58 (decimal n) ≡ decimal n ∷ []
one_piece n small =
    slice_split_none (λ byte. eqb byte 58) (decimal n)
    (All-weaker IsDigit (λ byte. eqb byte 58 ≡ false) (λ byte is. ne_eqb byte 58 (λ (same : byte ≡ 58). omega arith)) (decimal n) (decimal_digits n small))

pub reply_back : (r : replies.Reply) → HoldsReply r → reply_said (reply_word r) ≡ Some r
reply_back reply.Done small = refl
reply_back (reply.Mismatch top) small =
    ap (λ more. reply_of (codes "mismatch" ∷ more)) (one_piece top (omega arith)) ∙ ap (option_map reply.Mismatch) (short_back top small)
reply_back reply.NotOpen small = refl
reply_back reply.TooDeep small = refl
reply_back reply.SlotsFull small = refl
reply_back reply.Merged small = refl
reply_back (reply.Busy holder) small =
    ap (λ more. reply_of (codes "busy" ∷ more)) (one_piece holder (omega arith)) ∙ ap (option_map reply.Busy) (short_back holder small)

pub reply_bytes : (r : replies.Reply) → HoldsReply r → All IsWordByte (reply_word r)
reply_bytes reply.Done small = word_bytes (codes "done") refl
reply_bytes (reply.Mismatch top) small =
    All-append IsWordByte (codes "mismatch:") (decimal top) (word_bytes (codes "mismatch:") refl) (decimal_word top (omega arith))
reply_bytes reply.NotOpen small = word_bytes (codes "notopen") refl
reply_bytes reply.TooDeep small = word_bytes (codes "toodeep") refl
reply_bytes reply.SlotsFull small = word_bytes (codes "slotsfull") refl
reply_bytes reply.Merged small = word_bytes (codes "merged") refl
reply_bytes (reply.Busy holder) small =
    All-append IsWordByte (codes "busy:") (decimal holder) (word_bytes (codes "busy:") refl) (decimal_word holder (omega arith))
