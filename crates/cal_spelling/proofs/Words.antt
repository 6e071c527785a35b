-- Words, and the lines that they make.
use Rattle.std.proofs.Common.{◌≡◌, ◌≢◌, ℕ, zero, suc, ◌<◌, ◌≤◌, ◌^◌, Bool, true, false, ◌&&◌, eqb}
use Rattle.std.proofs.Common.{List, [], ◌∷◌, ◌++◌, length, refl, ap, ◌∙◌, arith, lit<}
use Rattle.std.specs.Prelude.{codes, decimal, nat_le, nat_lt, slice_index}
use Rattle.std.specs.List.{All, list_all}
use Rattle.std.specs.Str.Parse.{AllDigits}
use Rattle.std.specs.Cmp.{first_so, second_so}
use Rattle.std.proofs.lemmas.Bool.{leb-true, ne_eqb}
use Rattle.std.proofs.lemmas.Bool.Decides.{nat_tests}
use borrow.Author.Tests.{ltb-true}
use Rattle.std.proofs.lemmas.Fmt.{decimal_is_IsNumeral}
use Rattle.std.proofs.lemmas.List.Elements.{All-nil, All-cons, All-head, All-tail, All-append}
use Rattle.std.proofs.lemmas.List.Elements.{All-weaker}
use Rattle.std.proofs.lemmas.List.Splits.{slice_split_at, slice_split_none}
use Rattle.std.proofs.lemmas.Str.{IsUtf8-from_ascii, IsUtf8-nil}
use Rattle.std.proofs.lemmas.Str.Parse.{digit_from_value}
use Rattle.cal_value.specs.Kinds.{kind_name}
use Rattle.cal_value.specs.declared.kind.Kind as kinds
use Rattle.cal_value.specs.declared.kind.Kind.TheVariants as kind
use Rattle.cal_script.specs.Lines.{is_word, joined, words_of}
use Rattle.cal_script.specs.Names.{is_name, is_name_byte}
use Rattle.cal_spelling.proofs.Utf8.{utf8_joined}
use Rattle.cal_spelling.proofs.Values.{IsText}

-- a byte of a word: of ASCII, and no space
abbrev pub IsWordByte : ℕ → Type 0
IsWordByte byte = (33 ≤ byte) × (byte < 128)

-- a word of a line
pub record IsWord (word : List ℕ) : Type 0 where
  pub some : is_word word ≡ true
  pub bytes : All IsWordByte word

-- ---- words

abbrev pub is_word_byte : ℕ → Bool
is_word_byte byte = nat_le 33 byte && nat_lt byte 128

word_byte : (byte : ℕ) → is_word_byte byte ≡ true → IsWordByte byte
word_byte byte is =
    let low = first_so (nat_le 33 byte) (nat_lt byte 128) is in
    let high = second_so (nat_le 33 byte) (nat_lt byte 128) is in
    (leb-true 33 byte low, ltb-true byte 128 high)

all_bytes : (test : ℕ → Bool) → ((byte : ℕ) → test byte ≡ true → IsWordByte byte) → (word : List ℕ)
    → list_all test word ≡ true → All IsWordByte word
all_bytes test each [] is = All-nil IsWordByte
all_bytes test each (byte ∷ word) is =
    let first = first_so (test byte) (list_all test word) is in
    let rest = second_so (test byte) (list_all test word) is in
    All-cons IsWordByte byte word (each byte first) (all_bytes test each word rest)

-- a word by its letters
pub literal : (word : List ℕ) → is_word word ≡ true → list_all is_word_byte word ≡ true
    → IsWord word
literal word some is = record { some = some; bytes = all_bytes is_word_byte word_byte word is }

name_byte : (byte : ℕ) → is_name_byte byte ≡ true → IsWordByte byte
name_byte byte is = grind (arith, nat_tests)

three : (a b c : Bool) → (a && b && c) ≡ true → (a ≡ true) × (b ≡ true) × (c ≡ true)
three false b c is = absurd cc
three true false c is = absurd cc
three true true c is = (refl, refl, is)

longer : (word : List ℕ) → 1 ≤ length word → is_word word ≡ true
longer word some = grind (arith, nat_tests)

pub name_word : (name : List ℕ) → is_name name ≡ true → IsWord name
name_word name is =
    let parts = three (nat_le 1 (length name)) (nat_le (length name) 200)
    (list_all is_name_byte name) is in
    record {
      some = longer name (leb-true 1 (length name) parts.0);
      bytes = all_bytes is_name_byte name_byte name parts.2;
    }

digits_bytes : (ds : List ℕ) → AllDigits 10 ds → All IsWordByte ds
digits_bytes [] d = All-nil IsWordByte
digits_bytes (c ∷ cs) d = let range = digit_from_value c d.0 in
    All-cons IsWordByte c cs (omega arith, omega arith) (digits_bytes cs d.1)

pub decimal_word : (n : ℕ) → n < 2 ^ 64 → IsWord (decimal n)
decimal_word n small =
    let is = decimal_is_IsNumeral n small in
    record { some = longer (decimal n) is.0.0; bytes = digits_bytes (decimal n) is.0.1 }

pub kind_word : (k : kinds.Kind) → IsWord (kind_name k)
kind_word kind.Usr = literal (codes "usr") refl refl
kind_word kind.Int = literal (codes "int") refl refl
kind_word kind.Uint = literal (codes "uint") refl refl
kind_word kind.Str = literal (codes "string") refl refl
kind_word kind.Addr = literal (codes "addr") refl refl
kind_word kind.Double = literal (codes "double") refl refl
kind_word kind.Bool = literal (codes "bool") refl refl
kind_word kind.TypeName = literal (codes "type") refl refl
kind_word kind.Ptr = literal (codes "ptr") refl refl

-- words with a byte between them
pub word_between : (front rest : List ℕ) (byte : ℕ) → IsWordByte byte → IsWord front → IsWord rest
    → IsWord (front ++ byte ∷ rest)
word_between [] rest byte is before behind = absurd (let bad = before.some in cc)
word_between (first ∷ front) rest byte is before behind =
    record {
      some = longer ((first ∷ front) ++ byte ∷ rest) (omega arith);
      bytes =
          All-append IsWordByte (first ∷ front) (byte ∷ rest) before.bytes
          (All-cons IsWordByte byte rest is behind.bytes);
    }

-- ---- words in a line

no_spaces : (word : List ℕ) → IsWord word → All (λ byte. eqb byte 32 ≡ false) word
no_spaces word is =
    All-weaker IsWordByte (λ byte. eqb byte 32 ≡ false)
    (λ byte fine. ne_eqb byte 32 (λ (same : byte ≡ 32). omega (arith, fine.0, same))) word is.bytes

-- words that were joined are the words of their line
pub words_joined : (first : List ℕ) (words : List (List ℕ)) → IsWord first → All IsWord words
    → words_of (joined (first ∷ words)) ≡ first ∷ words
words_joined first [] is all = slice_split_none (λ byte. eqb byte 32) first (no_spaces first is)
words_joined first (next ∷ words) is all =
    slice_split_at (λ byte. eqb byte 32) first 32 (joined (next ∷ words)) (no_spaces first is) refl
    ∙ ap (λ more. first ∷ more) (words_joined next words (All-head IsWord next words all)
    (All-tail IsWord next words all))

-- two words and a rest, which may have spaces
pub words_before : (first second rest : List ℕ) → IsWord first → IsWord second
    → words_of (joined (first ∷ second ∷ rest ∷ [])) ≡ first ∷ second ∷ words_of rest
words_before first second rest one two =
    slice_split_at (λ byte. eqb byte 32) first 32 (joined (second ∷ rest ∷ []))
    (no_spaces first one) refl
    ∙ ap (λ more. first ∷ more) (slice_split_at (λ byte. eqb byte 32) second 32 rest
    (no_spaces second two) refl)

-- ---- the text of a line

word_ascii : (word : List ℕ) (i : ℕ) → All IsWordByte word → slice_index word i < 128
word_ascii [] i all = lit< tt
word_ascii (byte ∷ word) zero all = (All-head IsWordByte byte word all).1
word_ascii (byte ∷ word) (suc i) all = word_ascii word i (All-tail IsWordByte byte word all)

pub word_text : (word : List ℕ) → IsWord word → IsText word
word_text word is = record {
  utf8 = IsUtf8-from_ascii word (λ i. word_ascii word i is.bytes);
  whole = All-weaker IsWordByte (λ byte. byte ≢ 10)
      (λ byte fine. λ (same : byte ≡ 10). omega (arith, fine.0, same)) word is.bytes;
}

pub joined_text : (words : List (List ℕ)) → All IsText words → IsText (joined words)
joined_text [] all = record { utf8 = IsUtf8-nil; whole = All-nil (λ byte. byte ≢ 10) }
joined_text (word ∷ []) all = All-head IsText word [] all
joined_text (word ∷ next ∷ words) all =
    let first = All-head IsText word (next ∷ words) all in
    let rest = joined_text (next ∷ words) (All-tail IsText word (next ∷ words) all) in
    record {
      utf8 = utf8_joined word (joined (next ∷ words)) 32 (lit< tt) first.utf8 rest.utf8;
      whole = All-append (λ byte. byte ≢ 10) word (32 ∷ joined (next ∷ words)) first.whole
          (All-cons (λ byte. byte ≢ 10) 32 (joined (next ∷ words)) (λ (same : 32 ≡ 10). omega arith)
          rest.whole);
    }

pub words_text : (words : List (List ℕ)) → All IsWord words → IsText (joined words)
words_text words all = joined_text words (All-weaker IsWord IsText word_text words all)
