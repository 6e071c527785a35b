-- What is of the grammar is read: each rule.
use Rattle.std.proofs.Common.{◌≡◌, ℕ, ◌<◌, ◌≤◌, Bool, true, false, cond, List, [], ◌∷◌, Some, None, Ok, refl, sym, ap, ◌∙◌, arith, inl, inr}
use Rattle.cal_ql.specs.declared.token.Sign.TheVariants as signed
use Rattle.cal_ql.specs.declared.token.Keyword.TheVariants as keyword
use Rattle.cal_ql.specs.declared.names.Op as ops
use Rattle.cal_ql.specs.declared.names.KernelName as kernels
use Rattle.cal_ql.specs.declared.names.Format as formats
use Rattle.cal_ql.specs.declared.query.Let.{Let}
use Rattle.cal_ql.specs.declared.query.Agg.{Agg}
use Rattle.cal_ql.specs.declared.query.Cond.{Cond}
use Rattle.cal_ql.specs.declared.query.OrderKey.{OrderKey}
use Rattle.cal_ql.specs.declared.conds.Relation as relations
use Rattle.cal_ql.specs.declared.lets.Argument as arguments
use Rattle.cal_ql.specs.declared.lets.Argument.TheVariants as argument
use Rattle.cal_ql.specs.declared.select.Picked as picks
use Rattle.cal_ql.specs.declared.select.Picked.TheVariants as picked
use Rattle.cal_ql.specs.Names.{op_named, kernel_named, format_named}
use Rattle.cal_ql.specs.Tokens.{key, word, sign, Tokens}
use Rattle.cal_ql.specs.Reading.{count, behind_sign, behind_key}
use Rattle.cal_ql.specs.Lets.{argument_at, arguments_at, let_at, number_at, op_at}
use Rattle.cal_ql.specs.Kernels.{agg_at, any_name_at, begins_call, column_at, item_at, kernel_at, names_at, names_behind, result_name}
use Rattle.cal_ql.specs.Conds.{behind_relation, cond_at, direction_at, enclosed_test_at, format_at, negated_at, order_key_at, test_at}
use Rattle.cal_ql.specs.Grammar.{The, ◌⨾◌, Name, Listed, Header, Argument, LetPart, Names, AggPart, ItemPart, Rel, TestPart, CondPart, Direction, KeyPart}
use Rattle.cal_ql.proofs.GrammarStops.{Stops, ends_at_close, header_count, header_is, key_is, listed_count, listed_is, name_count, name_is, name_no_key, name_no_sign, past_is, sign_is, stop_key, stop_relation, stop_sign, stops_at, the_count}

-- ---- LET

argument_is : (o : ops.Op) (n : ℕ) (ts rest : Tokens) (a : arguments.Argument) → Stops rest → Argument o n a ts rest → argument_at o n ts ≡ Ok (a, rest)
unfolding argument_at number_at
argument_is o n ts rest (argument.Name name) stop part = rw (part.0, name_is name ts rest part.1) refl
argument_is o n ts rest (argument.Number m) stop part = rw (part.0, part.3, part.2) refl

argument_count : (o : ops.Op) (n : ℕ) (ts rest : Tokens) (a : arguments.Argument) → Argument o n a ts rest → count rest ≤ count ts
argument_count o n ts rest (argument.Name name) part = omega (arith, name_count name ts rest part.1)
argument_count o n ts rest (argument.Number m) part = omega (arith, the_count (word part.1) ts rest part.3)

op_is : (o : ops.Op) (call : List ℕ) (ts rest : Tokens) → op_named call ≡ Some o → Name call ts rest → op_at ts ≡ Ok (o, rest)
unfolding op_at
op_is o call ts rest named part = rw (name_is call ts rest part, named) refl

arguments_is : (o : ops.Op) (found : List arguments.Argument) (ts rest : Tokens) → (The (sign signed.Open) ⨾ Listed (Argument o) 0 found ⨾ The (sign signed.Close)) ts rest → arguments_at o ts ≡ Ok (found, rest)
unfolding arguments_at
arguments_is o found ts rest part =
    let list = listed_is (Argument o) (argument_at o) (argument_is o) (argument_count o) found part.0 part.2.0 (ends_at_close part.2.0 rest part.2.2) part.2.1 in
    rw (past_is signed.Open ts part.0 part.1, list, past_is signed.Close part.2.0 rest part.2.2) refl

pub let_is : (n : ℕ) (ts rest : Tokens) (l : Let) → Stops rest → LetPart l ts rest → let_at ts ≡ Ok (l, rest)
unfolding let_at
let_is n ts rest l stop (call, (r1, name, (r2, equals, (r3, op_name, inside)))) =
    rw (name_is l.name ts r1 name, past_is signed.Equals r1 r2 equals, op_is l.op call.op r2 r3 call.is_op op_name, arguments_is l.op call.arguments r3 rest inside, call.makes) refl

pub let_count : (n : ℕ) (ts rest : Tokens) (l : Let) → LetPart l ts rest → count rest ≤ count ts
let_count n ts rest l (call, (r1, name, (r2, equals, (r3, op_name, (r4, open_, (r5, list, close)))))) =
    omega (
      arith,
      name_count l.name ts r1 name,
      the_count (sign signed.Equals) r1 r2 equals,
      name_count call.op r2 r3 op_name,
      the_count (sign signed.Open) r3 r4 open_,
      listed_count (Argument l.op) (argument_at l.op) (argument_is l.op) (argument_count l.op) call.arguments r4 r5 list,
      the_count (sign signed.Close) r5 rest close,
    )

-- ---- kernels

pub any_name_is : (n : ℕ) (ts rest : Tokens) (name : List ℕ) → Stops rest → Name name ts rest → any_name_at n ts ≡ Ok (name, rest)
any_name_is n ts rest name stop part = name_is name ts rest part

pub any_name_count : (n : ℕ) (ts rest : Tokens) (name : List ℕ) → Name name ts rest → count rest ≤ count ts
any_name_count n ts rest name part = omega (arith, name_count name ts rest part)

kernel_is : (k : kernels.KernelName) (call : List ℕ) (ts rest : Tokens) → kernel_named call ≡ Some k → Name call ts rest → kernel_at ts ≡ Ok (k, rest)
unfolding kernel_at
kernel_is k call ts rest named part = rw (name_is call ts rest part, named) refl

list_no_close : (name : List ℕ) (names : List (List ℕ)) (ts rest : Tokens) → Listed (λ number. Name) 0 (name ∷ names) ts rest → behind_sign signed.Close ts ≡ None
list_no_close name [] ts rest list = name_no_sign signed.Close name ts rest list
list_no_close name (next ∷ names) ts rest list = name_no_sign signed.Close name ts list.0 list.1

names_are : (names : List (List ℕ)) (ts rest : Tokens) → (The (sign signed.Open) ⨾ Names names ⨾ The (sign signed.Close)) ts rest → names_at ts ≡ Ok (names, rest)
unfolding names_at names_behind
names_are [] ts rest (inside, open_, (middle, same, close)) =
    let there : behind_sign signed.Close inside ≡ Some rest = ap (behind_sign signed.Close) same ∙ sign_is signed.Close middle rest close in
    rw (past_is signed.Open ts inside open_, there) refl
names_are (name ∷ names) ts rest (inside, open_, (middle, list, close)) =
    let all = listed_is (λ number. Name) any_name_at any_name_is any_name_count (name ∷ names) inside middle (ends_at_close middle rest close) list in
    rw (past_is signed.Open ts inside open_, list_no_close name names inside middle list, all, past_is signed.Close middle rest close) refl

names_count : (names : List (List ℕ)) (ts rest : Tokens) → Names names ts rest → count rest ≤ count ts
names_count [] ts rest same = omega (arith, ap count same)
names_count (name ∷ names) ts rest list = listed_count (λ number. Name) any_name_at any_name_is any_name_count (name ∷ names) ts rest list

pub agg_is : (n : ℕ) (ts rest : Tokens) (agg : Agg) → Stops rest → AggPart agg ts rest → agg_at ts ≡ Ok (agg, rest)
unfolding agg_at
agg_is n ts rest agg stop (call, (r1, name, (r2, open_, (r3, names, (r4, close, header))))) =
    rw (kernel_is agg.kernel call.kernel ts r1 call.is_kernel name, names_are call.names r1 r4 (r2, open_, (r3, names, close)), call.is_attr, header_is (result_name agg.kernel agg.attr) agg.name r4 rest stop header) refl

pub agg_count : (n : ℕ) (ts rest : Tokens) (agg : Agg) → AggPart agg ts rest → count rest ≤ count ts
agg_count n ts rest agg (call, (r1, name, (r2, open_, (r3, names, (r4, close, header))))) =
    omega (arith, name_count call.kernel ts r1 name, the_count (sign signed.Open) r1 r2 open_, names_count call.names r2 r3 names, the_count (sign signed.Close) r3 r4 close, header_count (result_name agg.kernel agg.attr) agg.name r4 rest header)

-- ---- SELECT

calls : (name : List ℕ) (ts middle rest : Tokens) → Name name ts middle → The (sign signed.Open) middle rest → begins_call ts ≡ true
unfolding begins_call
calls name ts middle rest (inl the) open_ = rw (the, sign_is signed.Open middle rest open_) refl
calls name ts middle rest (inr the) open_ = rw (the, sign_is signed.Open middle rest open_) refl

calls_not : (name : List ℕ) (ts middle : Tokens) → Name name ts middle → behind_sign signed.Open middle ≡ None → begins_call ts ≡ false
unfolding begins_call
calls_not name ts middle (inl the) none = rw (the, none) refl
calls_not name ts middle (inr the) none = rw (the, none) refl

header_no_open : (without name : List ℕ) (ts rest : Tokens) → Stops rest → Header without name ts rest → behind_sign signed.Open ts ≡ None
unfolding behind_sign
header_no_open without name ts rest stop (inl given) = rw given.1 refl
header_no_open without name ts rest stop (inr none) = ap (behind_sign signed.Open) none.1 ∙ stop_sign signed.Open rest refl stop

pub item_is : (n : ℕ) (ts rest : Tokens) (item : picks.Picked) → Stops rest → ItemPart item ts rest → item_at ts ≡ Ok (item, rest)
unfolding item_at column_at
item_is n ts rest (picked.Column item) stop (middle, name, header) =
    rw (calls_not item.name ts middle name (header_no_open item.name item.header middle rest stop header), name_is item.name ts middle name, header_is item.name item.header middle rest stop header) refl
item_is n ts rest (picked.Kernel agg) stop (call, (r1, name, (r2, open_, inside))) =
    rw (calls call.kernel ts r1 r2 name open_, agg_is n ts rest agg stop (call, (r1, name, (r2, open_, inside)))) refl

pub item_count : (n : ℕ) (ts rest : Tokens) (item : picks.Picked) → ItemPart item ts rest → count rest ≤ count ts
item_count n ts rest (picked.Column item) (middle, name, header) = omega (arith, name_count item.name ts middle name, header_count item.name item.header middle rest header)
item_count n ts rest (picked.Kernel agg) part = agg_count n ts rest agg part

-- ---- WHERE

relation_is : (relation : relations.Relation) (ts rest : Tokens) → Rel relation ts rest → behind_relation ts ≡ Some (relation, rest)
unfolding behind_relation
relation_is relation ts rest (s, is, the) = rw (the, is) refl

test_is : (negated : Bool) (ts rest : Tokens) (cond : Cond) → Stops rest → TestPart negated cond ts rest → test_at negated ts ≡ Ok (cond, rest)
unfolding test_at
test_is negated ts rest cond stop (inl has) =
    rw (name_is cond.name ts rest has.0, stop_relation rest stop) (ap (λ (c : Cond). Ok (c, rest)) (sym has.1))
test_is negated ts rest cond stop (inr (relation, value, is, (r1, name, (r2, rel, value_there)))) =
    rw (name_is cond.name ts r1 name, relation_is relation r1 r2 rel, name_is value r2 rest value_there) (ap (λ (c : Cond). Ok (c, rest)) (sym is))

test_count : (negated : Bool) (ts rest : Tokens) (cond : Cond) → TestPart negated cond ts rest → count rest < count ts
test_count negated ts rest cond (inl has) = omega (arith, name_count cond.name ts rest has.0)
test_count negated ts rest cond (inr (relation, value, is, (r1, name, (r2, rel, there)))) =
    omega (arith, name_count cond.name ts r1 name, the_count (sign rel.0) r1 r2 rel.2, name_count value r2 rest there)

test_no_key : (negated : Bool) (ts rest : Tokens) (cond : Cond) → TestPart negated cond ts rest → behind_key keyword.Not ts ≡ None
test_no_key negated ts rest cond (inl has) = name_no_key keyword.Not cond.name ts rest has.0
test_no_key negated ts rest cond (inr (relation, value, is, (r1, name, others))) = name_no_key keyword.Not cond.name ts r1 name

test_no_open : (negated : Bool) (ts rest : Tokens) (cond : Cond) → TestPart negated cond ts rest → behind_sign signed.Open ts ≡ None
test_no_open negated ts rest cond (inl has) = name_no_sign signed.Open cond.name ts rest has.0
test_no_open negated ts rest cond (inr (relation, value, is, (r1, name, others))) = name_no_sign signed.Open cond.name ts r1 name

pub cond_is : (n : ℕ) (ts rest : Tokens) (cond : Cond) → Stops rest → CondPart cond ts rest → cond_at ts ≡ Ok (cond, rest)
unfolding cond_at negated_at enclosed_test_at
cond_is n ts rest cond stop (inl part) = rw (test_no_key false ts rest cond part) (test_is false ts rest cond stop part)
cond_is n ts rest cond stop (inr (inl (middle, not_, part))) =
    rw (key_is keyword.Not ts middle not_, test_no_open true middle rest cond part) (test_is true middle rest cond stop part)
cond_is n ts rest cond stop (inr (inr (r1, not_, (r2, open_, (r3, part, close))))) =
    rw (key_is keyword.Not ts r1 not_, sign_is signed.Open r1 r2 open_, test_is true r2 r3 cond (stops_at (sign signed.Close) r3 rest refl close) part, past_is signed.Close r3 rest close) refl

pub cond_count : (n : ℕ) (ts rest : Tokens) (cond : Cond) → CondPart cond ts rest → count rest ≤ count ts
cond_count n ts rest cond (inl part) = omega (arith, test_count false ts rest cond part)
cond_count n ts rest cond (inr (inl (middle, not_, part))) = omega (arith, the_count (key keyword.Not) ts middle not_, test_count true middle rest cond part)
cond_count n ts rest cond (inr (inr (r1, not_, (r2, open_, (r3, part, close))))) =
    omega (arith, the_count (key keyword.Not) ts r1 not_, the_count (sign signed.Open) r1 r2 open_, test_count true r2 r3 cond part, the_count (sign signed.Close) r3 rest close)

-- ---- ORDER BY

direction_is : (down : Bool) (ts rest : Tokens) → Stops rest → Direction down ts rest → direction_at ts ≡ Ok (down, rest)
unfolding direction_at behind_key
direction_is true ts rest stop the = rw the refl
direction_is false ts rest stop (inl the) = rw the refl
direction_is false ts rest stop (inr same) =
    rw (ap (behind_key keyword.Desc) same ∙ stop_key keyword.Desc rest refl stop, ap (behind_key keyword.Asc) same ∙ stop_key keyword.Asc rest refl stop) (ap (λ (r : Tokens). Ok (false, r)) same)

direction_count : (down : Bool) (ts rest : Tokens) → Direction down ts rest → count rest ≤ count ts
direction_count true ts rest the = omega (arith, the_count (key keyword.Desc) ts rest the)
direction_count false ts rest (inl the) = omega (arith, the_count (key keyword.Asc) ts rest the)
direction_count false ts rest (inr same) = omega (arith, ap count same)

pub order_key_is : (n : ℕ) (ts rest : Tokens) (k : OrderKey) → Stops rest → KeyPart k ts rest → order_key_at ts ≡ Ok (k, rest)
unfolding order_key_at
order_key_is n ts rest k stop (middle, name, down) = rw (name_is k.name ts middle name, direction_is k.down middle rest stop down) refl

pub order_key_count : (n : ℕ) (ts rest : Tokens) (k : OrderKey) → KeyPart k ts rest → count rest ≤ count ts
order_key_count n ts rest k (middle, name, down) = omega (arith, name_count k.name ts middle name, direction_count k.down middle rest down)

-- ---- FORMAT

pub format_is : (f : formats.Format) (name : List ℕ) (ts rest : Tokens) → format_named name ≡ Some f → Name name ts rest → format_at ts ≡ Ok (f, rest)
unfolding format_at
format_is f name ts rest named part = rw (name_is name ts rest part, named) refl
