use Rattle.std.proofs.Common.{ℕ, ◌+◌, ◌*◌, ◌/◌, ◌<◌, List, length, drop, sym, ap, ◌∙◌, arith}
use Rattle.std.specs.Int.{from_le_bytes, w64}
use Rattle.cal_words.proofs.Bytes.{length-text_words, get_or-text_words}
use Rattle.cal_words.proofs.text.text_word.Goals as goal
use Rattle.cal_words.proofs.text.text_word.Goals.{After-as_bytes}

-- the word begins within the text
starts_inside : (c : After-as_bytes) → 8 * c.args.i < length c.as_bytes.result.now
starts_inside c =
    let text = c.as_bytes.ensures.value in
    omega (arith, length-text_words c.args.text.now, ap length text)

pub overflow_mul-i : goal.overflow_mul-i
overflow_mul-i c = let h = starts_inside c in omega arith

pub word_at-requires : goal.word_at-requires
word_at-requires c = starts_inside c

pub returns : goal.returns
returns c =
    let inside : c.args.i < (length c.args.text.now + 7) / 8 =
    omega (arith, length-text_words c.args.text.now) in
    let text = c.as_bytes.ensures.value in
    c.word_at.ensures
    ∙ ap (λ (bs : List ℕ). from_le_bytes w64 (drop (8 * c.args.i) bs)) text
    ∙ sym (get_or-text_words c.args.text.now c.args.i inside)
