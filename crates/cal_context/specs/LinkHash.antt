use Rattle.std.specs.Prelude.{ℕ, ◌+◌, ◌*◌, ◌/◌, ◌%◌, ◌^◌, List, length, if◌then◌else◌, nat_lt}
use Rattle.std.specs.Prelude.{slice_index, bit_and, bit_or, bit_xor}
use Rattle.cal_seeds.specs.Seeds.{mixed}
use Rattle.cal_context.specs.declared.link_hasher.LinkHasher.{LinkHasher}

-- four bytes as a number, the lowest first; fewer are 0
unfoldable pub number : List ℕ → ℕ
number bytes = if nat_lt (length bytes) 4 then 0 else
    (slice_index bytes 0 + slice_index bytes 1 * 256 + slice_index bytes 2 * 65536
    + slice_index bytes 3 * 16777216)

-- the hasher after one more number
abbrev pub write : LinkHasher → List ℕ → LinkHasher
write h bytes = record {
  parent = h.attribute;
  attribute = h.value;
  value = number bytes;
  seeds = h.seeds;
}

-- two numbers as one word
abbrev pub word : ℕ → ℕ → ℕ
word high low = bit_or ((high * 2 ^ 32) % 2 ^ 64) low

-- what the links by an attribute and four values have in common
abbrev pub group : LinkHasher → ℕ
group h = mixed h.seeds (word h.attribute (h.value / 4))

-- and those of them below 32 parents
abbrev pub page : LinkHasher → ℕ
page h = mixed h.seeds ((group h + h.parent / 32) % 2 ^ 64)

-- The hash of a link: 24 bits of its place, and above them 8 of its tag.
unfoldable pub finish : LinkHasher → ℕ
finish h =
    let first = (bit_and (page h) 0x7_FFFF * 2 ^ 5) % 2 ^ 64 in
    let place = bit_or first ((group h + h.parent) % 2 ^ 64 % 32) in
    let numbers = bit_xor (bit_xor (page h / 2 ^ 40) (h.parent * 8)) (h.value * 2) in
    bit_or place ((bit_and numbers 0xFF * 2 ^ 24) % 2 ^ 64)
