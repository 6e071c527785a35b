use Rattle.std.proofs.Common.{◌≡◌, ◌+◌, ◌≤◌, drop, map}
use Rattle.std.specs.Prelude.{string_bytes}
use Rattle.cal_call.specs.GenWords.{count_given, gen_of, no_gen_options}
use Rattle.cal_call.proofs.gen_words.read_gen.Given as goal

-- the options so far, with the words that are left, are those of all words
abbrev pub invariant-loop-index : goal.invariant-loop-index
invariant-loop-index l = record {
  left : gen_of (l.index + 1) l.options (map string_bytes (drop l.index l.words))
      ≡ gen_of 1 no_gen_options (map string_bytes l.words);
  few : l.index ≤ count_given l.options;
}
