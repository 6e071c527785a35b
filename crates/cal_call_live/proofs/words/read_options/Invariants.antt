use Rattle.std.proofs.Common.{◌≡◌, ◌+◌, ◌≤◌, drop, map}
use Rattle.std.specs.Prelude.{string_bytes}
use Rattle.cal_call_live.specs.Words.{given, live_of, no_options}
use Rattle.cal_call_live.proofs.words.read_options.Given as goal

-- the options so far, with the words that are left, are those of all words
abbrev pub invariant-loop-index : goal.invariant-loop-index
invariant-loop-index l = record {
  left : live_of (l.index + 1) l.options (map string_bytes (drop l.index l.words))
      ≡ live_of 1 no_options (map string_bytes l.words);
  few : l.index ≤ given l.options;
}
