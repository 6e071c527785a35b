-- What declarations by threads come to: which of each name is kept, and what each is replied.
use Rattle.std.specs.Prelude.{◌≡◌, ◌≢◌, ℕ, ◌<◌, Bool, List, All, Contains, Some, bytes_eq}
use Rattle.std.specs.Prelude.{find, flat_map, length, slice_index_or}
use Rattle.std.specs.List.{AllZip, IsDistinct}
use Rattle.cal_value.specs.declared.attribute.Attribute.{Attribute}
use Rattle.cal_naming.specs.declared.reply.NameReply.{NameReply}
use Rattle.cal_naming.specs.declared.reply.NameReply.TheVariants.{Same, Different}

-- the declarations of all threads
abbrev pub all_lines : List (List Attribute) → List Attribute
all_lines threads = flat_map (λ (lines : List Attribute). lines) threads

-- whether two declarations are of one name
abbrev pub same_name : Attribute → Attribute → Bool
same_name a b = bytes_eq a.name b.name

-- What is replied to a declaration whose name has this kept one: Same exactly where the two are
-- equal, and else Different with what the kept one says.
abbrev pub Says : (line kept : Attribute) → NameReply → Type 0
Says line kept Same = kept ≡ line
Says line kept (Different kind props) = (kept ≢ line)
    × (kept ≡ record { name = line.name; kind = kind; props = record { 0 = props } })

-- the reply to a declaration says what is kept of its name
abbrev pub IsAnswered : (kept : List Attribute) → Attribute → NameReply → Type 0
IsAnswered kept line reply = (k : Attribute) × Contains kept k × (k.name ≡ line.name)
    × Says line k reply

-- no thread but the one of this number declares the name
abbrev pub IsAlone : List (List Attribute) → ℕ → List ℕ → Type 0
IsAlone threads n name = (m : ℕ) (d : List Attribute) → m < length threads → m ≢ n
    → All (λ (line : Attribute). line.name ≢ name) (slice_index_or threads m d)

-- Of each name that is declared one declaration is kept, and no other one. Each declaration is
-- replied what is kept of its name. Where one thread has all declarations of a name, the first of
-- them is kept.
pub record IsNaming (threads : List (List Attribute)) (kept : List Attribute)
    (replies : List (List NameReply)) : Type 0 where
  pub once : IsDistinct same_name kept
  pub declared : All (λ (k : Attribute). Contains (all_lines threads) k) kept
  pub answered : AllZip (AllZip (IsAnswered kept)) threads replies
  pub first : All (λ (k : Attribute). (n : ℕ) (d : List Attribute) → n < length threads
      → IsAlone threads n k.name → find (same_name k) (slice_index_or threads n d) ≡ Some k) kept
