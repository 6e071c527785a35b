-- The grammar of CalQL, as parts of a text: a part begins at some tokens and ends at others.
use Rattle.std.specs.Prelude.{◌≡◌, ◌⊎◌, ℕ, suc, Bool, true, false, List, [], ◌∷◌, Option, Some, None, is_some}
use Rattle.cal_ql.specs.declared.token.Sign as signs
use Rattle.cal_ql.specs.declared.token.Sign.TheVariants as signed
use Rattle.cal_ql.specs.declared.token.Keyword.TheVariants as keyword
use Rattle.cal_ql.specs.declared.names.Op as ops
use Rattle.cal_ql.specs.declared.names.Format as formats
use Rattle.cal_ql.specs.declared.query.Let.{Let}
use Rattle.cal_ql.specs.declared.query.Agg.{Agg}
use Rattle.cal_ql.specs.declared.query.Cond.{Cond}
use Rattle.cal_ql.specs.declared.query.Test.TheVariants as test
use Rattle.cal_ql.specs.declared.query.OrderKey.{OrderKey}
use Rattle.cal_ql.specs.declared.query.Query.{Query}
use Rattle.cal_ql.specs.declared.conds.Relation as relations
use Rattle.cal_ql.specs.declared.lets.Argument as arguments
use Rattle.cal_ql.specs.declared.lets.Argument.TheVariants as argument
use Rattle.cal_ql.specs.declared.select.Picked as picks
use Rattle.cal_ql.specs.declared.select.Picked.TheVariants as picked
use Rattle.cal_ql.specs.declared.clauses.Clauses.{Clauses}
use Rattle.cal_ql.specs.Names.{op_named, kernel_named, format_named}
use Rattle.cal_ql.specs.Tokens.{Token, key, word, quoted, sign, Tokens, tokens_of}
use Rattle.cal_ql.specs.Reading.{first_of, is_end}
use Rattle.cal_ql.specs.Lets.{is_number_place, let_of, number_in}
use Rattle.cal_ql.specs.Kernels.{attr_of, result_name}
use Rattle.cal_ql.specs.Conds.{relation_of, test_of}
use Rattle.cal_ql.specs.Clauses.{no_clauses, query_of, selected_all, selection_of}

-- ---- parts

-- where a part begins and ends
abbrev pub Part : Type 1
Part = Tokens → Tokens → Type 0

-- this token alone
abbrev pub The : Token → Part
The t from to = first_of from ≡ Some (t, to)

-- one part, and another one behind it
infixr 5 ◌⨾◌
abbrev pub ◌⨾◌ : Part → Part → Part
(p ⨾ q) from to = (middle : Tokens) × p from middle × q middle to

-- name: a word that is no keyword, or a quoted text
abbrev pub Name : List ℕ → Part
Name name from to = The (word name) from to ⊎ The (quoted name) from to

-- item {, item}, the first of this number
abbrev pub Listed : {X : Type 0} → (ℕ → X → Part) → ℕ → List X → Part
Listed item number [] from to = ⊥
Listed item number (x ∷ []) from to = item number x from to
Listed item number (x ∷ y ∷ xs) from to =
    (item number x ⨾ The (sign signed.Comma) ⨾ Listed item (suc number) (y ∷ xs)) from to

-- [AS name], where the first name is the one without it
abbrev pub Header : List ℕ → List ℕ → Part
Header without name from to =
    (The (key keyword.As) ⨾ Name name) from to ⊎ ((name ≡ without) × (from ≡ to))

-- ---- let = name = op ( arg {, arg} )

abbrev pub Argument : ops.Op → ℕ → arguments.Argument → Part
Argument o number (argument.Name name) from to =
    (is_number_place o number ≡ false) × Name name from to
Argument o number (argument.Number n) from to =
    (is_number_place o number ≡ true) × (text : List ℕ) × (number_in o text ≡ Some n)
    × The (word text) from to

-- what a definition says before it is made
pub record Call (l : Let) : Type 0 where
  pub op : List ℕ
  pub arguments : List arguments.Argument
  pub is_op : op_named op ≡ Some l.op
  pub makes : let_of l.name l.op arguments ≡ Some l

abbrev pub LetPart : Let → Part
LetPart l from to = (call : Call l)
    × (Name l.name ⨾ The (sign signed.Equals) ⨾ Name call.op ⨾ The (sign signed.Open)
    ⨾ Listed (Argument l.op) 0 call.arguments ⨾ The (sign signed.Close)) from to

-- ---- agg = kernel ( [name {, name}] ) [AS name]

abbrev pub Names : List (List ℕ) → Part
Names [] from to = from ≡ to
Names (name ∷ names) from to = Listed (λ number. Name) 0 (name ∷ names) from to

pub record KernelCall (agg : Agg) : Type 0 where
  pub kernel : List ℕ
  pub names : List (List ℕ)
  pub is_kernel : kernel_named kernel ≡ Some agg.kernel
  pub is_attr : attr_of agg.kernel names ≡ Some agg.attr

abbrev pub AggPart : Agg → Part
AggPart agg from to = (call : KernelCall agg)
    × (Name call.kernel ⨾ The (sign signed.Open) ⨾ Names call.names ⨾ The (sign signed.Close)
    ⨾ Header (result_name agg.kernel agg.attr) agg.name) from to

-- item = name [AS name] | agg
abbrev pub ItemPart : picks.Picked → Part
ItemPart (picked.Column item) from to = (Name item.name ⨾ Header item.name item.header) from to
ItemPart (picked.Kernel agg) from to = AggPart agg from to

-- ---- cond = test | NOT test | NOT ( test )

-- rel = = | < | > | <= | >=
abbrev pub Rel : relations.Relation → Part
Rel relation from to = (s : signs.Sign) × (relation_of s ≡ Some relation) × The (sign s) from to

-- test = name | name rel name
abbrev pub TestPart : Bool → Cond → Part
TestPart negated cond from to =
    (Name cond.name from to × (cond ≡ record { not = negated; name = cond.name; test = test.Has }))
    ⊎ ((relation : relations.Relation) × (value : List ℕ)
    × (cond ≡ record { not = negated; name = cond.name; test = test_of relation value })
    × (Name cond.name ⨾ Rel relation ⨾ Name value) from to)

abbrev pub CondPart : Cond → Part
CondPart cond from to =
    TestPart false cond from to
    ⊎ ((The (key keyword.Not) ⨾ TestPart true cond) from to
    ⊎ (The (key keyword.Not) ⨾ The (sign signed.Open) ⨾ TestPart true cond
    ⨾ The (sign signed.Close)) from to)

-- ---- key = name [ASC | DESC]

abbrev pub Direction : Bool → Part
Direction true from to = The (key keyword.Desc) from to
Direction false from to = The (key keyword.Asc) from to ⊎ (from ≡ to)

abbrev pub KeyPart : OrderKey → Part
KeyPart k from to = (Name k.name ⨾ Direction k.down) from to

-- ---- clauses

-- what a clause says
pub data Clause : Type 0 where
  lets : List Let → Clause
  every : Clause
  select : List picks.Picked → Clause
  aggregate : List Agg → Clause
  conds : List Cond → Clause
  group : List (List ℕ) → Clause
  order : List OrderKey → Clause
  format : formats.Format → Clause

-- LET let {, let} | SELECT * | SELECT item {, item} | AGGREGATE agg {, agg} | WHERE cond {, cond}
-- | GROUP BY name {, name} | ORDER BY key {, key} | FORMAT name
abbrev pub ClausePart : Clause → Part
ClausePart (lets list) from to =
    (The (key keyword.Let) ⨾ Listed (λ number. LetPart) 0 list) from to
ClausePart every from to = (The (key keyword.Select) ⨾ The (sign signed.Star)) from to
ClausePart (select list) from to =
    (The (key keyword.Select) ⨾ Listed (λ number. ItemPart) 0 list) from to
ClausePart (aggregate list) from to =
    (The (key keyword.Aggregate) ⨾ Listed (λ number. AggPart) 0 list) from to
ClausePart (conds list) from to =
    (The (key keyword.Where) ⨾ Listed (λ number. CondPart) 0 list) from to
ClausePart (group list) from to =
    (The (key keyword.Group) ⨾ The (key keyword.By) ⨾ Listed (λ number. Name) 0 list) from to
ClausePart (order list) from to =
    (The (key keyword.Order) ⨾ The (key keyword.By) ⨾ Listed (λ number. KeyPart) 0 list) from to
ClausePart (format f) from to =
    (name : List ℕ) × (format_named name ≡ Some f) × (The (key keyword.Format) ⨾ Name name) from to

-- clauses, unless one of this kind is among those before
abbrev pub if_new : Bool → Clauses → Option Clauses
if_new true clauses = None
if_new false clauses = Some clauses

-- clauses with one more, unless one of its kind is among them
abbrev pub with_clause : Clause → Clauses → Option Clauses
with_clause (lets list) before = if_new (is_some before.lets) (record before { lets = Some list })
with_clause every before =
    if_new (is_some before.select) (record before { select = Some selected_all })
with_clause (select list) before =
    if_new (is_some before.select) (record before { select = Some (selection_of list) })
with_clause (aggregate list) before =
    if_new (is_some before.aggs) (record before { aggs = Some list })
with_clause (conds list) before =
    if_new (is_some before.conds) (record before { conds = Some list })
with_clause (group list) before =
    if_new (is_some before.group) (record before { group = Some list })
with_clause (order list) before =
    if_new (is_some before.order) (record before { order = Some list })
with_clause (format f) before =
    if_new (is_some before.format) (record before { format = Some f })

-- The rest of a text are these clauses, up to its end, and with those before they make all.
abbrev pub AreClauses : List Clause → Clauses → Clauses → Tokens → Type 0
AreClauses [] before all ts = (before ≡ all) × (is_end ts ≡ true)
AreClauses (clause ∷ clauses) before all ts =
    (next : Clauses) × (rest : Tokens)
    × (with_clause clause before ≡ Some next) × ClausePart clause ts rest
    × AreClauses clauses next all rest

-- A text means a query: its clauses, each kind at most once, in any order, make it.
pub record Means (text : List ℕ) (query : Query) : Type 0 where
  pub clauses : List Clause
  pub all : Clauses
  pub are : AreClauses clauses no_clauses all (tokens_of text)
  pub makes : query_of all ≡ query
