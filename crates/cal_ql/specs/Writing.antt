-- The canonical text of a query: its clauses in one order, each name in quotes, and a blank behind
-- each token (Giltmoth's rule).
use Rattle.std.specs.Prelude.{ℕ, ℤ, Bool, true, false, List, [], ◌∷◌, ◌++◌, Option, Some, None, map, ◌==◌, ◌||◌, if◌then◌else◌}
use Rattle.std.specs.Fmt.{signed_decimal}
use Rattle.cal_ql.specs.declared.token.Sign.TheVariants as signed
use Rattle.cal_ql.specs.declared.token.Keyword.TheVariants as keyword
use Rattle.cal_ql.specs.declared.names.Op as ops
use Rattle.cal_ql.specs.declared.names.Op.TheVariants as op
use Rattle.cal_ql.specs.declared.names.KernelName as kernels
use Rattle.cal_ql.specs.declared.names.KernelName.TheVariants as kernel
use Rattle.cal_ql.specs.declared.lets.Argument as arguments
use Rattle.cal_ql.specs.declared.lets.Argument.TheVariants as argument
use Rattle.cal_ql.specs.declared.query.Let.{Let}
use Rattle.cal_ql.specs.declared.query.Item.{Item}
use Rattle.cal_ql.specs.declared.query.Agg.{Agg}
use Rattle.cal_ql.specs.declared.query.Cond.{Cond}
use Rattle.cal_ql.specs.declared.query.Test as tests
use Rattle.cal_ql.specs.declared.query.Test.TheVariants as test
use Rattle.cal_ql.specs.declared.query.OrderKey.{OrderKey}
use Rattle.cal_ql.specs.declared.query.Query.{Query}
use Rattle.cal_ql.specs.Names.{op_name, kernel_name, format_name, keyword_name}
use Rattle.cal_ql.specs.Signs.{sign_text}
use Rattle.cal_ql.specs.Tokens.{Token, key, word, quoted, sign}

-- ---- tokens as text

-- a name between quotes: a backslash stands before each quote and each backslash
abbrev pub escaped : List ℕ → List ℕ
escaped [] = []
escaped (byte ∷ bytes) =
    if byte == 34 || byte == 92 then 92 ∷ byte ∷ escaped bytes else byte ∷ escaped bytes

abbrev pub token_text : Token → List ℕ
token_text (key k) = keyword_name k
token_text (word text) = text
token_text (quoted name) = 34 ∷ escaped name ++ 34 ∷ []
token_text (sign s) = sign_text s

-- tokens, with a blank behind each
abbrev pub text_of : List Token → List ℕ
text_of [] = []
text_of (t ∷ ts) = token_text t ++ 32 ∷ text_of ts

-- ---- the parts of a query as tokens

-- item {, item}
abbrev pub listed : {X : Type 0} → (X → List Token) → List X → List Token
listed item [] = []
listed item (x ∷ []) = item x
listed item (x ∷ y ∷ xs) = item x ++ sign signed.Comma ∷ listed item (y ∷ xs)

abbrev pub name_tokens : List ℕ → List Token
name_tokens name = quoted name ∷ []

-- the number of a definition, where its operator takes one
abbrev pub number_argument : ops.Op → ℤ → List arguments.Argument
number_argument op.First n = []
number_argument op.Sum n = []
number_argument _ n = argument.Number n ∷ []

abbrev pub arguments_of : Let → List arguments.Argument
arguments_of l = map argument.Name l.args ++ number_argument l.op l.n

abbrev pub argument_tokens : arguments.Argument → List Token
argument_tokens (argument.Name name) = quoted name ∷ []
argument_tokens (argument.Number n) = word (signed_decimal n) ∷ []

-- name = op ( arg {, arg} )
abbrev pub let_tokens : Let → List Token
let_tokens l =
    quoted l.name ∷ sign signed.Equals ∷ word (op_name l.op) ∷ sign signed.Open
    ∷ (listed argument_tokens (arguments_of l) ++ sign signed.Close ∷ [])

-- the attribute of a kernel, which count has not
abbrev pub attr_tokens : kernels.KernelName → List ℕ → List Token
attr_tokens kernel.Count attr = []
attr_tokens _ attr = quoted attr ∷ []

-- kernel ( [name] ) AS name
abbrev pub agg_tokens : Agg → List Token
agg_tokens agg =
    word (kernel_name agg.kernel) ∷ sign signed.Open
    ∷ (attr_tokens agg.kernel agg.attr
    ++ sign signed.Close ∷ key keyword.As ∷ quoted agg.name ∷ [])

-- name AS name
abbrev pub item_tokens : Item → List Token
item_tokens item = quoted item.name ∷ key keyword.As ∷ quoted item.header ∷ []

abbrev pub not_tokens : Bool → List Token
not_tokens true = key keyword.Not ∷ []
not_tokens false = []

abbrev pub test_tokens : tests.Test → List Token
test_tokens test.Has = []
test_tokens (test.Eq value) = sign signed.Equals ∷ quoted value ∷ []
test_tokens (test.Lt value) = sign signed.Less ∷ quoted value ∷ []
test_tokens (test.Gt value) = sign signed.Greater ∷ quoted value ∷ []
test_tokens (test.Le value) = sign signed.LessEqual ∷ quoted value ∷ []
test_tokens (test.Ge value) = sign signed.GreaterEqual ∷ quoted value ∷ []

-- [NOT] name [rel name]
abbrev pub cond_tokens : Cond → List Token
cond_tokens cond = not_tokens cond.not ++ quoted cond.name ∷ test_tokens cond.test

abbrev pub direction_tokens : Bool → List Token
direction_tokens true = key keyword.Desc ∷ []
direction_tokens false = key keyword.Asc ∷ []

-- name ASC | name DESC
abbrev pub key_tokens : OrderKey → List Token
key_tokens k = quoted k.name ∷ direction_tokens k.down

-- ---- clauses

-- a clause, where it has items
abbrev pub clause_tokens : {X : Type 0} → List Token → (X → List Token) → List X → List Token
clause_tokens keys item [] = []
clause_tokens keys item (x ∷ xs) = keys ++ listed item (x ∷ xs)

-- a clause, where it is there
abbrev pub there_tokens :
    {X : Type 0} → List Token → (X → List Token) → Option (List X) → List Token
there_tokens keys item None = []
there_tokens keys item (Some xs) = keys ++ listed item xs

-- The columns of SELECT, each with its header, stand without kernels: all kernels stand in
-- AGGREGATE. So a result's column is named by its name.
abbrev pub query_tokens : Query → List Token
query_tokens query =
    clause_tokens (key keyword.Let ∷ []) let_tokens query.lets
    ++ (there_tokens (key keyword.Select ∷ []) item_tokens query.select
    ++ (clause_tokens (key keyword.Aggregate ∷ []) agg_tokens query.aggs
    ++ (clause_tokens (key keyword.Where ∷ []) cond_tokens query.conds
    ++ (there_tokens (key keyword.Group ∷ key keyword.By ∷ []) name_tokens query.group
    ++ (clause_tokens (key keyword.Order ∷ key keyword.By ∷ []) key_tokens query.order
    ++ key keyword.Format ∷ word (format_name query.format) ∷ [])))))

-- the canonical text of a query
abbrev pub query_text : Query → List ℕ
query_text query = text_of (query_tokens query)
