-- AGGREGATE agg {, agg}, and the items of SELECT
use Rattle.std.specs.Prelude.{ℕ, Bool, true, false, List, [], ◌∷◌, ◌++◌, Option, Some, None, Ok, codes, is_some, not, filter, nat_eq, ◌&&◌, if◌then◌else◌}
use Rattle.std.specs.Option.{option_map_or}
use Rattle.std.specs.Cmp.Lexicographic.{pointwise}
use Rattle.cal_ql.specs.declared.kind.QueryKind.TheVariants.{UnknownKernel, BadArity}
use Rattle.cal_ql.specs.declared.token.Sign.TheVariants as signed
use Rattle.cal_ql.specs.declared.names.KernelName as kernels
use Rattle.cal_ql.specs.declared.names.KernelName.TheVariants as kernel
use Rattle.cal_ql.specs.declared.query.Item.{Item}
use Rattle.cal_ql.specs.declared.query.Agg.{Agg}
use Rattle.cal_ql.specs.declared.select.Picked as picks
use Rattle.cal_ql.specs.declared.select.Picked.TheVariants as picked
use Rattle.cal_ql.specs.Names.{kernel_named}
use Rattle.cal_ql.specs.Tokens.{Token, word, quoted, Tokens}
use Rattle.cal_ql.specs.Reading.{Read, ◌>>=◌, or_fault, refused, first_of, behind_sign, past_sign, name_at, header_at, separated}

-- kernel: the name of a kernel
unfoldable pub kernel_at : Tokens → Read kernels.KernelName
kernel_at ts = do
  name ← name_at ts
  k ← or_fault (kernel_named name.0) (refused UnknownKernel ts)
  Ok (k, name.1)

-- name, wherever it stands in a list
abbrev pub any_name_at : ℕ → Tokens → Read (List ℕ)
any_name_at number ts = name_at ts

unfoldable pub names_behind : Tokens → Read (List (List ℕ))
names_behind ts = do
  names ← separated any_name_at ts
  close ← past_sign signed.Close names.1
  Ok (names.0, close)

-- ( [name {, name}] )
unfoldable pub names_at : Tokens → Read (List (List ℕ))
names_at ts = do
  inside ← past_sign signed.Open ts
  option_map_or (λ close. Ok ([], close)) (behind_sign signed.Close inside) (names_behind inside)

-- the name of a kernel's result, where AS gives none
abbrev pub result_name : kernels.KernelName → List ℕ → List ℕ
result_name kernel.Count attr = codes "count"
result_name kernel.Sum attr = codes "sum#" ++ attr
result_name kernel.Min attr = codes "min#" ++ attr
result_name kernel.Max attr = codes "max#" ++ attr
result_name kernel.Avg attr = codes "avg#" ++ attr
result_name kernel.Inclusive attr = codes "inclusive#" ++ attr
result_name kernel.Percent attr = codes "percent_total#" ++ attr

abbrev pub one_name : List (List ℕ) → Option (List ℕ)
one_name (name ∷ []) = Some name
one_name _ = None

-- count has no name, and each other kernel one
abbrev pub attr_of : kernels.KernelName → List (List ℕ) → Option (List ℕ)
attr_of kernel.Count [] = Some []
attr_of kernel.Count (name ∷ names) = None
attr_of _ names = one_name names

-- agg = kernel ( [name {, name}] ) [AS name]
unfoldable pub agg_at : Tokens → Read Agg
agg_at ts = do
  k ← kernel_at ts
  names ← names_at k.1
  attr ← or_fault (attr_of k.0 names.0) (refused BadArity ts)
  header ← header_at (result_name k.0 attr) names.1
  Ok (record { kernel = k.0; attr = attr; name = header.0 }, header.1)

abbrev pub is_name : Token → Bool
is_name (word text) = true
is_name (quoted text) = true
is_name _ = false

abbrev pub call_first : Option (Token × Tokens) → Bool
call_first (Some (t, rest)) = is_name t && is_some (behind_sign signed.Open rest)
call_first None = false

-- a name, and `(` behind it
unfoldable pub begins_call : Tokens → Bool
begins_call ts = call_first (first_of ts)

-- name [AS name]
unfoldable pub column_at : Tokens → Read Item
column_at ts = do
  name ← name_at ts
  header ← header_at name.0 name.1
  Ok (record { name = name.0; header = header.0 }, header.1)

-- item = name [AS name] | agg
unfoldable pub item_at : Tokens → Read picks.Picked
item_at ts =
    if begins_call ts then (agg_at ts >>= λ agg. Ok (picked.Kernel agg.0, agg.1))
    else (column_at ts >>= λ item. Ok (picked.Column item.0, item.1))

-- what an item shows: a kernel's has its result name in both
abbrev pub item_of : picks.Picked → Item
item_of (picked.Column item) = item
item_of (picked.Kernel agg) = record { name = agg.name; header = agg.name }

abbrev pub kernel_of : picks.Picked → Option Agg
kernel_of (picked.Column item) = None
kernel_of (picked.Kernel agg) = Some agg

-- each result name once, the first kept
abbrev pub first_of_each : List Agg → List Agg
first_of_each [] = []
first_of_each (agg ∷ aggs) =
    agg ∷ filter (λ other. not (pointwise nat_eq other.name agg.name)) (first_of_each aggs)
