use Rattle.std.specs.Prelude.{ℕ, ◌*◌, ◌%◌, ◌^◌, List, bit_xor}
use Rattle.std.specs.List.{fold}

-- one word more goes into a hash (Giltmoth's rule, after the hash of Fowler, Noll and Vo)
abbrev pub mixed : ℕ → ℕ → ℕ
mixed hash word = (bit_xor hash word * 1099511628211) % 2 ^ 64

-- the hash of a list of words
abbrev pub words_hash : List ℕ → ℕ
words_hash words = fold mixed 14695981039346656037 words

-- the slot at which the search for a node's record begins (Giltmoth's rule)
abbrev pub node_home : ℕ → List ℕ → ℕ
node_home homes words = words_hash words % homes
