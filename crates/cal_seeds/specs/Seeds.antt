-- The hash of bytes, from a start and by a factor that are given. (Ours, after the library's own.)
use Rattle.std.specs.Prelude.{ℕ, zero, suc, ◌+◌, ◌-◌, ◌*◌, ◌/◌, ◌%◌, ◌^◌, List, length}
use Rattle.std.specs.Prelude.{if◌then◌else◌, nat_le, bit_xor}
use Rattle.std.specs.Hash.FoldHasher.{folded_multiply, read_u64, read_short}
use Rattle.cal_seeds.specs.declared.hasher.SeededHasher.{SeededHasher}
use Rattle.cal_seeds.specs.declared.seeds.Seeds.{Seeds}

-- a word, mixed by two seeds
abbrev pub mixed : Seeds → ℕ → ℕ
mixed seeds word = folded_multiply (bit_xor word seeds.start) seeds.factor

-- the state after the words at i and at j
abbrev pub mix : List ℕ → ℕ → ℕ → ℕ → ℕ → ℕ
mix bs factor state i j =
    folded_multiply (bit_xor (read_u64 bs i) state) (bit_xor (read_u64 bs j) factor)

-- the state after the first n blocks of 16 bytes
unfoldable pub mix_blocks : List ℕ → ℕ → ℕ → ℕ → ℕ
mix_blocks bs factor state zero = state
mix_blocks bs factor state (suc n) =
    mix bs factor (mix_blocks bs factor state n) (16 * n) (16 * n + 8)

-- the hasher after some bytes
unfoldable pub write : SeededHasher → List ℕ → SeededHasher
write h bs =
    let n = length bs in
    let start = (h.state + n) % 2 ^ 64 in
    let short = folded_multiply (bit_xor start (read_short bs)) h.factor in
    let long = mix bs h.factor (mix_blocks bs h.factor start ((n - 1) / 16)) (n - 16) (n - 8) in
    record {
      state = if nat_le n 8 then short else long;
      factor = h.factor;
    }
