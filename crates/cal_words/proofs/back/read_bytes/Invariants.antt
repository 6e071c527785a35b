use Rattle.std.proofs.Common.{◌≡◌, ◌<◌, ℕ, length, get_or}
use Rattle.cal_words.specs.Back.{byte_of}
use Rattle.cal_words.proofs.back.read_bytes.Given as goal

-- the bytes so far are the text's
abbrev pub invariant-loop-k : goal.invariant-loop-k
invariant-loop-k l = record {
  long : length l.bytes.items ≡ l.k;
  each : (j : ℕ) → j < l.k → get_or l.bytes.items j 0 ≡ byte_of l.words j;
}
