use Rattle.std.proofs.Common.{◌≡◌, ◌+◌, ℕ, true, List, ◌++◌, ◌∷◌, [], length, rules, sym, ap, ◌∙◌, subst, arith}
use Rattle.cal_value.specs.declared.attribute.Attribute.{Attribute}
use Rattle.cal_words.specs.Words.{text_words}
use Rattle.cal_declarations.specs.Counts.{counted}
use Rattle.cal_declarations.specs.Layout.{record_words}
use Rattle.cal_declarations.specs.Reader.{IsReading, IsSmall, state_of}
use Rattle.cal_declarations.specs.Reading.{threads_of}
use Rattle.cal_declarations.specs.declared.reader.Reader.{Reader}
use Rattle.cal_declarations.proofs.Counting.{are_few, line_kept, line_small, words_of_name}
use Rattle.cal_declarations.proofs.reader.Reader.read_declare.Goals as goal
use Rattle.cal_declarations.proofs.reader.Reader.read_declare.Goals.{After-text_len-words}

-- the words that are counted are those of the declaration's record
words_are : (c : After-text_len-words) → 4 + c.text_len-words.result ≡ record_words c.in_ok-declared.declared
words_are c =
    let long = c.text_len-words.ensures.length in
    let same = ap (λ (n : List ℕ). length (text_words n)) c.in_ok-declared.ensures.name in
    omega arith

pub with_line-self-requires-clause-words : goal.with_line-self-requires-clause-words
with_line-self-requires-clause-words c =
    let words = words_are (goal.at.with_line-self-requires-clause-words c).After-text_len-words in
    let few = words_of_name c.in_ok-declared.declared c.in_ok-declared.ensures.named in
    omega arith

pub returns-clause-kept : goal.returns-clause-kept
returns-clause-kept c =
    let old : Reader = c.args.self.now in
    let d : Attribute = c.in_ok-declared.declared in
    let words = words_are (goal.at.returns-clause-kept c).After-text_len-words in
    let inside : old.in_thread ≡ true = search rules in
    let lines : old.lines ++ d ∷ [] ≡ c.push.new.self = sym c.in_ok-push.ensures.ok in
    let counts : counted (record_words d) old.counts ≡ c.with_line-self.result = ap (λ (n : ℕ). counted n old.counts) (sym words) ∙ sym c.with_line-self.ensures in
    subst (λ (r : Reader). IsReading r) (λ i. record { earlier = old.earlier; in_thread = old.in_thread; lines = lines i; counts = counts i })
    (line_kept old d c.requires.kept inside c.in_ok-declared.ensures.named)

pub returns-clause-small : goal.returns-clause-small
returns-clause-small c =
    let old : Reader = c.args.self.now in
    let d : Attribute = c.in_ok-declared.declared in
    let words = words_are (goal.at.returns-clause-small c).After-text_len-words in
    let inside : old.in_thread ≡ true = search rules in
    let lines : old.lines ++ d ∷ [] ≡ c.push.new.self = sym c.in_ok-push.ensures.ok in
    let counts : counted (record_words d) old.counts ≡ c.with_line-self.result = ap (λ (n : ℕ). counted n old.counts) (sym words) ∙ sym c.with_line-self.ensures in
    subst (λ (r : Reader). IsSmall r) (λ i. record { earlier = old.earlier; in_thread = old.in_thread; lines = lines i; counts = counts i })
    (line_small old d c.requires.kept inside (are_few (threads_of (state_of old)) c.requires.fits) (words_of_name d c.in_ok-declared.ensures.named))
