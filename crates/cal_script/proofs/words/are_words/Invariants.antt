use Rattle.std.proofs.Common.{◌≡◌}
use Rattle.std.specs.List.{list_all}
use Rattle.cal_script.specs.Lines.{is_word, pieces}
use Rattle.cal_script.specs.Steps.{rest_length, words_behind}
use Rattle.cal_script.proofs.words.are_words.Given as goal

-- the words so far aren't empty, so all depends on the others
abbrev pub invariant-loop-rest : goal.invariant-loop-rest
invariant-loop-rest l = list_all is_word (words_behind l.rest) ≡ list_all is_word (pieces 32 l.fn.text)

abbrev pub decreases-loop-rest : goal.decreases-loop-rest
decreases-loop-rest l = rest_length l.rest
