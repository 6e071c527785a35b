-- Numbers that are kept as the greatest where they are too large.
use Rattle.std.proofs.Common.{◌≡◌, ℕ, Bool, true, false, cond, List, ◌∷◌, min, refl, sym, arith}
use Rattle.std.specs.Prelude.{Option, Some, None}
use Rattle.std.specs.Option.{option_map}
use Rattle.std.proofs.lemmas.Bool.Decides.{nat_tests}
use Rattle.cal_value.specs.Numerals.{at_most, is_numeral, number_of}
use Rattle.cal_value.specs.Reading.{uint_of}
use Rattle.cal_script.specs.Lines.{pieces, words_of}
use Rattle.cal_journal.specs.Reading.{State, end_after, five_words, op_said, start_said}
use Rattle.cal_script.proofs.Cuts.{more_pieces}
use Rattle.cal_journal.specs.Words.{clock_said, long_number, reply_of, short_number}

capped_within : (found : Option ℕ) (most n : ℕ) → at_most most found ≡ Some n → option_map (λ x. min x most) found ≡ Some n
capped_within None most n is = absurd cc
capped_within (Some x) most n is = grind (arith, nat_tests)

-- a number of 64 bits is read as it is
pub long_read : (word : List ℕ) (n : ℕ) → uint_of word ≡ Some n → long_number word ≡ Some n
long_read word n is = capped_within (number_of 10 word) 18446744073709551615 n is

capped_past : (b : Bool) (x most : ℕ) → b ≡ true → at_most most (cond b (Some x) None) ≡ None → option_map (λ x. min x most) (cond b (Some x) None) ≡ Some most
capped_past true x most is none = grind (arith, nat_tests)
capped_past false x most is none = absurd cc

-- a decimal that is none is greater
pub long_great : (word : List ℕ) → is_numeral 10 word ≡ true → uint_of word ≡ None → long_number word ≡ Some 18446744073709551615
long_great word is none = capped_past (is_numeral 10 word) _ 18446744073709551615 is none

-- what isn't a decimal is no number
pub long_none : (word : List ℕ) → is_numeral 10 word ≡ false → long_number word ≡ None
long_none word is = rw is refl

min_min : (x : ℕ) → min (min x 18446744073709551615) 4294967295 ≡ min x 4294967295
min_min x = grind arith

short_by : (found : Option ℕ) (n : ℕ) → option_map (λ x. min x 18446744073709551615) found ≡ Some n → option_map (λ x. min x 4294967295) found ≡ Some (min n 4294967295)
short_by None n is = absurd cc
short_by (Some x) n is = let same : min x 18446744073709551615 ≡ n = cc in rw (sym same, min_min x) refl

-- a number of 32 bits by one of 64
pub short_long : (word : List ℕ) (n : ℕ) → long_number word ≡ Some n → short_number word ≡ Some (min n 4294967295)
short_long word n is = short_by (number_of 10 word) n is

none_by : (found : Option ℕ) → option_map (λ x. min x 18446744073709551615) found ≡ None → option_map (λ x. min x 4294967295) found ≡ None
none_by None is = refl
none_by (Some x) is = absurd cc

pub short_none : (word : List ℕ) → long_number word ≡ None → short_number word ≡ None
short_none word is = none_by (number_of 10 word) is

-- a reply has one number at most
pub reply_more : (name number rest : List ℕ) → reply_of (name ∷ number ∷ pieces 58 rest) ≡ None
reply_more name number rest = let more = more_pieces 58 rest in rw more.2 refl

-- Words that go on where they must end have no form.
pub clock_more : (clock rest : List ℕ) → clock_said (clock ∷ words_of rest) ≡ None
clock_more clock rest = let more = more_pieces 32 rest in rw more.2 refl

pub op_more : (thread line rest : List ℕ) → op_said (thread ∷ line ∷ words_of rest) ≡ None
op_more thread line rest = let more = more_pieces 32 rest in rw more.2 refl

pub start_more : (thread reading rest : List ℕ) → start_said (thread ∷ reading ∷ words_of rest) ≡ None
start_more thread reading rest = let more = more_pieces 32 rest in rw more.2 refl

pub five_more : (a b c d e rest : List ℕ) → five_words (a ∷ b ∷ c ∷ d ∷ e ∷ words_of rest) ≡ None
five_more a b c d e rest = let more = more_pieces 32 rest in rw more.2 refl

pub end_more : (state : State) (rest : List ℕ) → end_after state (words_of rest) ≡ None
end_more state rest = let more = more_pieces 32 rest in rw more.2 refl
