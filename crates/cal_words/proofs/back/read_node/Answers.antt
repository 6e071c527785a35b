use Rattle.std.proofs.Common.{◌≡◌, ◌∙◌, ◌-◌, ◌/◌, ◌%◌, ◌^◌, ℕ, List, length, get_or, take, drop, sym, ap, subst, arith, length-drop}
use Rattle.std.specs.Str.{IsUtf8}
use Rattle.std.proofs.lemmas.List.{take_all}
use Rattle.cal_words.specs.Back.{text_of, value_of}
use Rattle.cal_words.specs.Records.{IsValue}
use Rattle.cal_words.specs.Words.{node_words}
use Rattle.cal_words.proofs.Given.{node_back}
use Rattle.cal_words.proofs.back.read_node.Goals as goal

-- the words behind the first four
rest : (words : List ℕ) → take (length words - 4) (drop 4 words) ≡ drop 4 words
rest words = take_all (length words - 4) (drop 4 words) (omega (arith, length-drop 4 words))

pub read_value-requires : goal.read_value-requires
read_value-requires c =
    let words = c.args.words.now in
    subst (λ (l : List ℕ). IsUtf8 (text_of (get_or words 3 0 % 2 ^ 32) l)) (sym (rest words)) (node_back words c.requires).text

-- the value is the one that the words give
pub returns-clause-words : goal.returns-clause-words
returns-clause-words c =
    let words = c.args.words.now in
    let value = c.in_ok-value.ensures ∙ ap (value_of (get_or words 3 0 / 2 ^ 32) (get_or words 3 0 % 2 ^ 32)) (rest words) in
    (node_back words c.requires).whole ∙ ap (node_words (get_or words 0 0) (get_or words 1 0) (get_or words 2 0)) (sym value)

pub returns-clause-value : goal.returns-clause-value
returns-clause-value c =
    let words = c.args.words.now in
    let value = c.in_ok-value.ensures ∙ ap (value_of (get_or words 3 0 / 2 ^ 32) (get_or words 3 0 % 2 ^ 32)) (rest words) in
    subst (λ v. IsValue v) (sym value) (node_back words c.requires).is_value
