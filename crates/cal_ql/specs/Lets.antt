-- LET let {, let}, with let = name = op ( arg {, arg} )
use Rattle.std.specs.Prelude.{ℕ, ℤ, pos, neg_ℤ, int_lt, Bool, false, List, [], ◌∷◌, length, Option, Some, None, Ok, Err, is_some, unwrap_or, nat_le, ◌==◌, ◌&&◌, ◌||◌, if◌then◌else◌}
use Rattle.std.specs.List.{filter_map}
use Rattle.cal_value.specs.Reading.{value_of}
use Rattle.cal_value.specs.declared.kind.Kind.TheVariants as value_kind
use Rattle.cal_value.specs.declared.variant.Variant as variants
use Rattle.cal_value.specs.declared.variant.Variant.TheVariants as variant
use Rattle.cal_ql.specs.declared.kind.QueryKind.TheVariants.{UnknownOp, BadArity, BadNumber}
use Rattle.cal_ql.specs.declared.token.Sign.TheVariants as signed
use Rattle.cal_ql.specs.declared.names.Op as ops
use Rattle.cal_ql.specs.declared.names.Op.TheVariants as op
use Rattle.cal_ql.specs.declared.query.Let.{Let}
use Rattle.cal_ql.specs.declared.lets.Argument as arguments
use Rattle.cal_ql.specs.declared.lets.Argument.TheVariants as argument
use Rattle.cal_ql.specs.Names.{op_named}
use Rattle.cal_ql.specs.Tokens.{Token, word, Tokens}
use Rattle.cal_ql.specs.Reading.{Read, ◌>>=◌, or_fault, refused, first_of, past_sign, name_at, separated}

-- op: the name of an operator
unfoldable pub op_at : Tokens → Read ops.Op
op_at ts = do
  name ← name_at ts
  op ← or_fault (op_named name.0) (refused UnknownOp ts)
  Ok (op, name.1)

-- the least number that an operator takes
abbrev pub least_number : ops.Op → ℤ
least_number op.Truncate = pos 1
least_number _ = neg_ℤ (pos 2147483647)

-- a whole number within an operator's bounds
abbrev pub in_bounds : ops.Op → Option variants.Variant → Option ℤ
in_bounds o (Some (variant.Int n)) =
    if int_lt n (least_number o) || int_lt (pos 2147483647) n then None else Some n
in_bounds o _ = None

-- the number that a word writes, as a value of kind `int` is written
unfoldable pub number_in : ops.Op → List ℕ → Option ℤ
number_in o text = in_bounds o (value_of value_kind.Int text)

abbrev pub number_first : ops.Op → Tokens → Option (Token × Tokens) → Read ℤ
number_first o ts (Some (word text, rest)) = do
  n ← or_fault (number_in o text) (refused BadNumber ts)
  Ok (n, rest)
number_first o ts _ = Err (refused BadNumber ts)

-- a number: a word
unfoldable pub number_at : ops.Op → Tokens → Read ℤ
number_at o ts = number_first o ts (first_of ts)

-- whether the argument of this number, counted from 0, is a number
abbrev pub is_number_place : ops.Op → ℕ → Bool
is_number_place op.Truncate index = index == 1
is_number_place op.Scale index = index == 1
is_number_place op.Ratio index = index == 2
is_number_place op.First index = false
is_number_place op.Sum index = false

-- arg: a name, or in its place a number
unfoldable pub argument_at : ops.Op → ℕ → Tokens → Read arguments.Argument
argument_at o index ts =
    if is_number_place o index then (number_at o ts >>= λ n. Ok (argument.Number n.0, n.1))
    else (name_at ts >>= λ name. Ok (argument.Name name.0, name.1))

abbrev pub name_in : arguments.Argument → Option (List ℕ)
name_in (argument.Name name) = Some name
name_in (argument.Number n) = None

abbrev pub number_of : List arguments.Argument → Option ℤ
number_of [] = None
number_of (argument.Name name ∷ others) = number_of others
number_of (argument.Number n ∷ others) = Some n

abbrev pub names_in : List arguments.Argument → List (List ℕ)
names_in = filter_map name_in

-- whether an operator takes so many names, and a number or none:
-- truncate(A), truncate(A,n), scale(A,n), ratio(A,B), ratio(A,B,n), first and sum of 1 to 16 names
abbrev pub takes : ops.Op → ℕ → Option ℤ → Bool
takes op.Truncate names number = names == 1
takes op.Scale names number = names == 1 && is_some number
takes op.Ratio names number = names == 2
takes op.First names number = nat_le 1 names && nat_le names 16
takes op.Sum names number = nat_le 1 names && nat_le names 16

-- ( arg {, arg} )
unfoldable pub arguments_at : ops.Op → Tokens → Read (List arguments.Argument)
arguments_at o ts = do
  inside ← past_sign signed.Open ts
  found ← separated (argument_at o) inside
  close ← past_sign signed.Close found.1
  Ok (found.0, close)

-- the definition of a call, where its arguments are as many as the operator takes
abbrev pub let_of : List ℕ → ops.Op → List arguments.Argument → Option Let
let_of name o found =
    if takes o (length (names_in found)) (number_of found)
    then Some (record {
      name = name;
      op = o;
      args = names_in found;
      n = unwrap_or (number_of found) (pos 1);
    })
    else None

-- let = name = op ( arg {, arg} )
unfoldable pub let_at : Tokens → Read Let
let_at ts = do
  name ← name_at ts
  call ← past_sign signed.Equals name.1
  o ← op_at call
  found ← arguments_at o.0 o.1
  definition ← or_fault (let_of name.0 o.0 found.0) (refused BadArity call)
  Ok (definition, found.1)
