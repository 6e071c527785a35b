-- The names of the language.
use Rattle.std.specs.Prelude.{ℕ, List, [], ◌∷◌, Option, codes, find, map, nat_eq}
use Rattle.std.specs.Char.{to_ascii_lowercase}
use Rattle.std.specs.Cmp.Lexicographic.{pointwise}
use Rattle.cal_ql.specs.declared.names.Op.{Op}
use Rattle.cal_ql.specs.declared.names.Op.TheVariants as op
use Rattle.cal_ql.specs.declared.names.KernelName.{KernelName}
use Rattle.cal_ql.specs.declared.names.KernelName.TheVariants as kernel
use Rattle.cal_ql.specs.declared.names.Format.{Format}
use Rattle.cal_ql.specs.declared.names.Format.TheVariants as format
use Rattle.cal_ql.specs.declared.token.Keyword.{Keyword}
use Rattle.cal_ql.specs.declared.token.Keyword.TheVariants as keyword

-- the operators of LET
abbrev pub op_name : Op → List ℕ
op_name op.Truncate = codes "truncate"
op_name op.Scale = codes "scale"
op_name op.Ratio = codes "ratio"
op_name op.First = codes "first"
op_name op.Sum = codes "sum"

abbrev pub every_op : List Op
every_op = op.Truncate ∷ op.Scale ∷ op.Ratio ∷ op.First ∷ op.Sum ∷ []

abbrev pub op_named : List ℕ → Option Op
op_named name = find (λ o. pointwise nat_eq name (op_name o)) every_op

-- the kernels of SELECT and AGGREGATE
abbrev pub kernel_name : KernelName → List ℕ
kernel_name kernel.Count = codes "count"
kernel_name kernel.Sum = codes "sum"
kernel_name kernel.Min = codes "min"
kernel_name kernel.Max = codes "max"
kernel_name kernel.Avg = codes "avg"
kernel_name kernel.Inclusive = codes "inclusive_sum"
kernel_name kernel.Percent = codes "percent_total"

abbrev pub every_kernel : List KernelName
every_kernel =
    kernel.Count ∷ kernel.Sum ∷ kernel.Min ∷ kernel.Max ∷ kernel.Avg ∷ kernel.Inclusive
    ∷ kernel.Percent ∷ []

abbrev pub kernel_named : List ℕ → Option KernelName
kernel_named name = find (λ k. pointwise nat_eq name (kernel_name k)) every_kernel

-- the layouts of FORMAT
abbrev pub format_name : Format → List ℕ
format_name format.Table = codes "table"
format_name format.Tree = codes "tree"
format_name format.Json = codes "json"
format_name format.Expand = codes "expand"

abbrev pub every_format : List Format
every_format = format.Table ∷ format.Tree ∷ format.Json ∷ format.Expand ∷ []

abbrev pub format_named : List ℕ → Option Format
format_named name = find (λ f. pointwise nat_eq name (format_name f)) every_format

-- the keywords, which stand in any case
abbrev pub keyword_name : Keyword → List ℕ
keyword_name keyword.Let = codes "let"
keyword_name keyword.Select = codes "select"
keyword_name keyword.Aggregate = codes "aggregate"
keyword_name keyword.Where = codes "where"
keyword_name keyword.Group = codes "group"
keyword_name keyword.Order = codes "order"
keyword_name keyword.By = codes "by"
keyword_name keyword.Format = codes "format"
keyword_name keyword.As = codes "as"
keyword_name keyword.Not = codes "not"
keyword_name keyword.Asc = codes "asc"
keyword_name keyword.Desc = codes "desc"

abbrev pub every_keyword : List Keyword
every_keyword =
    keyword.Let ∷ keyword.Select ∷ keyword.Aggregate ∷ keyword.Where ∷ keyword.Group ∷ keyword.Order
    ∷ keyword.By ∷ keyword.Format ∷ keyword.As ∷ keyword.Not ∷ keyword.Asc ∷ keyword.Desc ∷ []

unfoldable pub keyword_of : List ℕ → Option Keyword
keyword_of word =
    find (λ k. pointwise nat_eq (map to_ascii_lowercase word) (keyword_name k)) every_keyword
