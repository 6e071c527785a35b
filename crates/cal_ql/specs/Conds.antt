-- WHERE cond {, cond}, ORDER BY key {, key} and FORMAT name
use Rattle.std.specs.Prelude.{ℕ, Bool, true, false, List, Option, Some, None, Ok}
use Rattle.std.specs.Option.{option_map_or}
use Rattle.cal_ql.specs.declared.kind.QueryKind.TheVariants.{UnknownFormat}
use Rattle.cal_ql.specs.declared.token.Sign as signs
use Rattle.cal_ql.specs.declared.token.Sign.TheVariants as signed
use Rattle.cal_ql.specs.declared.token.Keyword.TheVariants as keyword
use Rattle.cal_ql.specs.declared.names.Format as formats
use Rattle.cal_ql.specs.declared.query.Cond.{Cond}
use Rattle.cal_ql.specs.declared.query.Test as tests
use Rattle.cal_ql.specs.declared.query.Test.TheVariants as test
use Rattle.cal_ql.specs.declared.query.OrderKey.{OrderKey}
use Rattle.cal_ql.specs.declared.conds.Relation as relations
use Rattle.cal_ql.specs.declared.conds.Relation.TheVariants as relation
use Rattle.cal_ql.specs.Names.{format_named}
use Rattle.cal_ql.specs.Tokens.{Token, sign, Tokens}
use Rattle.cal_ql.specs.Reading.{Read, ◌>>=◌, or_fault, refused, first_of, behind_sign, behind_key, past_sign, name_at}

-- rel = = | < | > | <= | >=
abbrev pub relation_of : signs.Sign → Option relations.Relation
relation_of signed.Equals = Some relation.Eq
relation_of signed.Less = Some relation.Lt
relation_of signed.Greater = Some relation.Gt
relation_of signed.LessEqual = Some relation.Le
relation_of signed.GreaterEqual = Some relation.Ge
relation_of _ = None

abbrev pub test_of : relations.Relation → List ℕ → tests.Test
test_of relation.Eq value = test.Eq value
test_of relation.Lt value = test.Lt value
test_of relation.Gt value = test.Gt value
test_of relation.Le value = test.Le value
test_of relation.Ge value = test.Ge value

abbrev pub with_rest : Tokens → Option relations.Relation → Option (relations.Relation × Tokens)
with_rest rest (Some r) = Some (r, rest)
with_rest rest None = None

abbrev pub relation_first : Option (Token × Tokens) → Option (relations.Relation × Tokens)
relation_first (Some (sign s, rest)) = with_rest rest (relation_of s)
relation_first _ = None

-- a rel, where one comes first
unfoldable pub behind_relation : Tokens → Option (relations.Relation × Tokens)
behind_relation ts = relation_first (first_of ts)

abbrev pub compared : Bool → List ℕ → relations.Relation × Tokens → Read Cond
compared negated name r = do
  value ← name_at r.1
  Ok (record { not = negated; name = name; test = test_of r.0 value.0 }, value.1)

-- test = name | name rel name
unfoldable pub test_at : Bool → Tokens → Read Cond
test_at negated ts = do
  name ← name_at ts
  option_map_or (compared negated name.0) (behind_relation name.1)
      (Ok (record { not = negated; name = name.0; test = test.Has }, name.1))

unfoldable pub enclosed_test_at : Tokens → Read Cond
enclosed_test_at ts = do
  cond ← test_at true ts
  close ← past_sign signed.Close cond.1
  Ok (cond.0, close)

-- test | ( test ), behind NOT
unfoldable pub negated_at : Tokens → Read Cond
negated_at ts = option_map_or enclosed_test_at (behind_sign signed.Open ts) (test_at true ts)

-- cond = test | NOT test | NOT ( test )
unfoldable pub cond_at : Tokens → Read Cond
cond_at ts = option_map_or negated_at (behind_key keyword.Not ts) (test_at false ts)

-- [ASC | DESC]
unfoldable pub direction_at : Tokens → Read Bool
direction_at ts =
    option_map_or (λ rest. Ok (true, rest)) (behind_key keyword.Desc ts)
    (option_map_or (λ rest. Ok (false, rest)) (behind_key keyword.Asc ts) (Ok (false, ts)))

-- key = name [ASC | DESC]
unfoldable pub order_key_at : Tokens → Read OrderKey
order_key_at ts = do
  name ← name_at ts
  down ← direction_at name.1
  Ok (record { name = name.0; down = down.0 }, down.1)

-- FORMAT name: the name of a format
unfoldable pub format_at : Tokens → Read formats.Format
format_at ts = do
  name ← name_at ts
  format ← or_fault (format_named name.0) (refused UnknownFormat ts)
  Ok (format, name.1)
