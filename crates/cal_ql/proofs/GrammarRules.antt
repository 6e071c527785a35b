-- What each rule reads is of the grammar.
use Rattle.std.proofs.Common.{◌≡◌, ℕ, Bool, true, false, cond, List, [], ◌∷◌, Option, Some, None, Ok, refl, ap, subst, ◌∙◌, inl, inr}
use Rattle.std.specs.Prelude.{ℤ, pos, length, unwrap_or}
use Rattle.std.specs.Option.{option_map_or}
use Rattle.cal_ql.specs.declared.kind.QueryKind.TheVariants.{UnknownOp, UnknownKernel, UnknownFormat, BadArity, BadNumber}
use Rattle.cal_ql.specs.declared.token.Sign as signs
use Rattle.cal_ql.specs.declared.token.Sign.TheVariants as signed
use Rattle.cal_ql.specs.declared.token.Keyword.TheVariants as keyword
use Rattle.cal_ql.specs.declared.names.Op as ops
use Rattle.cal_ql.specs.declared.names.KernelName as kernels
use Rattle.cal_ql.specs.declared.names.Format as formats
use Rattle.cal_ql.specs.declared.query.Let.{Let}
use Rattle.cal_ql.specs.declared.query.Item.{Item}
use Rattle.cal_ql.specs.declared.query.Agg.{Agg}
use Rattle.cal_ql.specs.declared.query.Cond.{Cond}
use Rattle.cal_ql.specs.declared.query.OrderKey.{OrderKey}
use Rattle.cal_ql.specs.declared.query.Test.TheVariants as test
use Rattle.cal_ql.specs.declared.conds.Relation as relations
use Rattle.cal_ql.specs.declared.lets.Argument as arguments
use Rattle.cal_ql.specs.declared.lets.Argument.TheVariants as argument
use Rattle.cal_ql.specs.declared.select.Picked as picks
use Rattle.cal_ql.specs.declared.select.Picked.TheVariants as picked
use Rattle.cal_ql.specs.Names.{op_named, kernel_named, format_named}
use Rattle.cal_ql.specs.Tokens.{Token, key, word, quoted, sign, Tokens}
use Rattle.cal_ql.specs.Reading.{Read, or_fault, refused, first_of, behind_sign, behind_key, past_sign, name_at, header_at, separated}
use Rattle.cal_ql.specs.Lets.{argument_at, arguments_at, is_number_place, let_at, let_of, number_at, names_in, number_at, number_first, number_in, number_of, op_at, takes}
use Rattle.cal_ql.specs.Kernels.{agg_at, any_name_at, attr_of, begins_call, column_at, item_at, kernel_at, names_at, names_behind, result_name}
use Rattle.cal_ql.specs.Conds.{behind_relation, compared, cond_at, direction_at, enclosed_test_at, format_at, negated_at, order_key_at, relation_first, relation_of, test_at, test_of, with_rest}
use Rattle.cal_ql.specs.Grammar.{The, ◌⨾◌, Name, Listed, Header, Argument, LetPart, Names, AggPart, ItemPart, Rel, TestPart, CondPart, Direction, KeyPart}
use Rattle.cal_ql.proofs.Choices.{chosen}
use Rattle.cal_ql.proofs.Binds.{bind_ok, or_fault_ok, ok_is}
use Rattle.cal_ql.proofs.GrammarSound.{sign_found, key_found, past_found, name_found, header_found, listed_found}

-- ---- LET

number_first_found : (o : ops.Op) (ts rest : Tokens) (found : Option (Token × Tokens)) (n : ℤ) → number_first o ts found ≡ Ok (n, rest) → (text : List ℕ) × (number_in o text ≡ Some n) × (found ≡ Some (word text, rest))
number_first_found o ts rest None n e = absurd cc
number_first_found o ts rest (Some (key k, behind)) n e = absurd cc
number_first_found o ts rest (Some (quoted text, behind)) n e = absurd cc
number_first_found o ts rest (Some (sign s, behind)) n e = absurd cc
number_first_found o ts rest (Some (word text, behind)) n e =
    let one = bind_ok (or_fault (number_in o text) (refused BadNumber ts)) (λ m. Ok (m, behind)) (n, rest) e in
    let same : (one.0, behind) ≡ (n, rest) = ok_is (one.0, behind) (n, rest) one.2 in
    (text, or_fault_ok _ _ one.0 one.1 ∙ ap (λ (x : ℤ × Tokens). Some x.0) same, ap (λ (x : ℤ × Tokens). Some (word text, x.1)) same)

argument_found : (o : ops.Op) (index : ℕ) (ts rest : Tokens) (a : arguments.Argument) → argument_at o index ts ≡ Ok (a, rest) → Argument o index a ts rest
unfolding argument_at number_at
argument_found o index ts rest a e =
    elim (chosen (is_number_place o index) _ _ (Ok (a, rest)) e) [
      | inl number ↦ (
          let one = bind_ok (number_at o ts) (λ n. Ok (argument.Number n.0, n.1)) (a, rest) number.1 in
          let there = number_first_found o ts one.0.1 (first_of ts) one.0.0 one.1 in
          subst (λ (x : arguments.Argument × Tokens). Argument o index x.0 ts x.1) (ok_is (argument.Number one.0.0, one.0.1) (a, rest) one.2) (number.0, there.0, there.1, there.2))
      | inr name ↦ (
          let one = bind_ok (name_at ts) (λ n. Ok (argument.Name n.0, n.1)) (a, rest) name.1 in
          subst (λ (x : arguments.Argument × Tokens). Argument o index x.0 ts x.1) (ok_is (argument.Name one.0.0, one.0.1) (a, rest) one.2) (name.0, name_found ts one.0.1 one.0.0 one.1))
    ]

-- a definition has the name and the operator that it was made of
let_of_is : (name : List ℕ) (o : ops.Op) (found : List arguments.Argument) (l : Let) → let_of name o found ≡ Some l → (name ≡ l.name) × (o ≡ l.op)
let_of_is name o found l e =
    elim (chosen (takes o (length (names_in found)) (number_of found)) _ None (Some l) e) [
      | inl taken ↦ (
          let made : Let = record { name = name; op = o; args = names_in found; n = unwrap_or (number_of found) (pos 1) } in
          let there : Some made ≡ Some l = taken.1 in
          let same : made ≡ l = cc in
          (ap (λ (d : Let). d.name) same, ap (λ (d : Let). d.op) same))
      | inr wrong ↦ absurd (let none : None ≡ Some l = wrong.1 in cc)
    ]

pair_is : {name name' : List ℕ} {o o' : ops.Op} → name ≡ name' → o ≡ o' → ◌≡◌ {A = List ℕ × ops.Op} (name, o) (name', o')
pair_is p q = cc

-- the parts of a definition
record LetParts (l : Let) (ts rest : Tokens) : Type 0 where
  name : List ℕ
  o : ops.Op
  call : List ℕ
  arguments : List arguments.Argument
  is_op : op_named call ≡ Some o
  makes : let_of name o arguments ≡ Some l
  parts : (Name name ⨾ The (sign signed.Equals) ⨾ Name call ⨾ The (sign signed.Open) ⨾ Listed (Argument o) 0 arguments ⨾ The (sign signed.Close)) ts rest

let_parts : (l : Let) (ts rest : Tokens) → LetParts l ts rest → LetPart l ts rest
let_parts l ts rest p =
    let is = let_of_is p.name p.o p.arguments l p.makes in
    let makes = subst (λ (x : List ℕ × ops.Op). let_of x.0 x.1 p.arguments ≡ Some l) (pair_is is.0 is.1) p.makes in (
      record { op = p.call; arguments = p.arguments; is_op = p.is_op ∙ ap (λ (o : ops.Op). Some o) is.1; makes = makes },
      subst (λ (x : List ℕ × ops.Op). (Name x.0 ⨾ The (sign signed.Equals) ⨾ Name p.call ⨾ The (sign signed.Open) ⨾ Listed (Argument x.1) 0 p.arguments ⨾ The (sign signed.Close)) ts rest) (pair_is is.0 is.1) p.parts,
    )

op_found : (ts rest : Tokens) (o : ops.Op) → op_at ts ≡ Ok (o, rest) → (call : List ℕ) × (op_named call ≡ Some o) × Name call ts rest
unfolding op_at
op_found ts rest o e =
    let call = bind_ok (name_at ts) _ (o, rest) e in
    let named = bind_ok (or_fault (op_named call.0.0) (refused UnknownOp ts)) (λ p. Ok (p, call.0.1)) (o, rest) call.2 in
    subst (λ (x : ops.Op × Tokens). (call : List ℕ) × (op_named call ≡ Some x.0) × Name call ts x.1) (ok_is (named.0, call.0.1) (o, rest) named.2)
    (call.0.0, or_fault_ok _ _ named.0 named.1, name_found ts call.0.1 call.0.0 call.1)

arguments_found : (o : ops.Op) (ts rest : Tokens) (found : List arguments.Argument) → arguments_at o ts ≡ Ok (found, rest) → (The (sign signed.Open) ⨾ Listed (Argument o) 0 found ⨾ The (sign signed.Close)) ts rest
unfolding arguments_at
arguments_found o ts rest found e =
    let inside = bind_ok (past_sign signed.Open ts) _ (found, rest) e in
    let items = bind_ok (separated (argument_at o) inside.0) _ (found, rest) inside.2 in
    let close = bind_ok (past_sign signed.Close items.0.1) (λ close. Ok (items.0.0, close)) (found, rest) items.2 in
    subst (λ (x : List arguments.Argument × Tokens). (The (sign signed.Open) ⨾ Listed (Argument o) 0 x.0 ⨾ The (sign signed.Close)) ts x.1) (ok_is (items.0.0, close.0) (found, rest) close.2)
    (inside.0, past_found signed.Open ts inside.0 inside.1, (items.0.1, listed_found (Argument o) (argument_at o) (argument_found o) inside.0 items.0.1 items.0.0 items.1, past_found signed.Close items.0.1 close.0 close.1))

pub let_found : (ts rest : Tokens) (l : Let) → let_at ts ≡ Ok (l, rest) → LetPart l ts rest
unfolding let_at
let_found ts rest l e =
    let name = bind_ok (name_at ts) _ (l, rest) e in
    let equals = bind_ok (past_sign signed.Equals name.0.1) _ (l, rest) name.2 in
    let o = bind_ok (op_at equals.0) _ (l, rest) equals.2 in
    let found = bind_ok (arguments_at o.0.0 o.0.1) _ (l, rest) o.2 in
    let made = bind_ok (or_fault (let_of name.0.0 o.0.0 found.0.0) (refused BadArity equals.0)) (λ d. Ok (d, found.0.1)) (l, rest) found.2 in
    let call = op_found equals.0 o.0.1 o.0.0 o.1 in
    subst (λ (x : Let × Tokens). LetPart x.0 ts x.1) (ok_is (made.0, found.0.1) (l, rest) made.2)
    (let_parts made.0 ts found.0.1 (record {
      name = name.0.0;
      o = o.0.0;
      call = call.0;
      arguments = found.0.0;
      is_op = call.1;
      makes = or_fault_ok _ _ made.0 made.1;
      parts = (name.0.1, name_found ts name.0.1 name.0.0 name.1, (equals.0, past_found signed.Equals name.0.1 equals.0 equals.1, (o.0.1, call.2, arguments_found o.0.0 o.0.1 found.0.1 found.0.0 found.1)));
    }))

-- ---- kernels

pub any_name_found : (number : ℕ) (ts rest : Tokens) (name : List ℕ) → any_name_at number ts ≡ Ok (name, rest) → Name name ts rest
any_name_found number ts rest name e = name_found ts rest name e

kernel_found : (ts rest : Tokens) (k : kernels.KernelName) → kernel_at ts ≡ Ok (k, rest) → (call : List ℕ) × (kernel_named call ≡ Some k) × Name call ts rest
unfolding kernel_at
kernel_found ts rest k e =
    let call = bind_ok (name_at ts) _ (k, rest) e in
    let named = bind_ok (or_fault (kernel_named call.0.0) (refused UnknownKernel ts)) (λ p. Ok (p, call.0.1)) (k, rest) call.2 in
    subst (λ (x : kernels.KernelName × Tokens). (call : List ℕ) × (kernel_named call ≡ Some x.0) × Name call ts x.1) (ok_is (named.0, call.0.1) (k, rest) named.2)
    (call.0.0, or_fault_ok _ _ named.0 named.1, name_found ts call.0.1 call.0.0 call.1)

names_part : (names : List (List ℕ)) (from to : Tokens) → Listed (λ number. Name) 0 names from to → Names names from to
names_part [] from to list = absurd list
names_part (name ∷ names) from to list = list

names_behind_found : (ts rest : Tokens) (names : List (List ℕ)) → names_behind ts ≡ Ok (names, rest) → (Names names ⨾ The (sign signed.Close)) ts rest
unfolding names_behind
names_behind_found ts rest names e =
    let items = bind_ok (separated any_name_at ts) _ (names, rest) e in
    let close = bind_ok (past_sign signed.Close items.0.1) (λ close. Ok (items.0.0, close)) (names, rest) items.2 in
    subst (λ (x : List (List ℕ) × Tokens). (Names x.0 ⨾ The (sign signed.Close)) ts x.1) (ok_is (items.0.0, close.0) (names, rest) close.2)
    (items.0.1, names_part items.0.0 ts items.0.1 (listed_found (λ number. Name) any_name_at any_name_found ts items.0.1 items.0.0 items.1), past_found signed.Close items.0.1 close.0 close.1)

names_choice : (inside rest : Tokens) (names : List (List ℕ)) (o : Option Tokens) → behind_sign signed.Close inside ≡ o → option_map_or (λ close. Ok ([], close)) o (names_behind inside) ≡ Ok (names, rest) → (Names names ⨾ The (sign signed.Close)) inside rest
names_choice inside rest names None is e = names_behind_found inside rest names e
names_choice inside rest names (Some close) is e =
    subst (λ (x : List (List ℕ) × Tokens). (Names x.0 ⨾ The (sign signed.Close)) inside x.1) (ok_is ([], close) (names, rest) e) (inside, refl, sign_found signed.Close inside close is)

names_found : (ts rest : Tokens) (names : List (List ℕ)) → names_at ts ≡ Ok (names, rest) → (The (sign signed.Open) ⨾ Names names ⨾ The (sign signed.Close)) ts rest
unfolding names_at
names_found ts rest names e =
    let inside = bind_ok (past_sign signed.Open ts) _ (names, rest) e in
    (inside.0, past_found signed.Open ts inside.0 inside.1, names_choice inside.0 rest names (behind_sign signed.Close inside.0) refl inside.2)

pub agg_found : (ts rest : Tokens) (agg : Agg) → agg_at ts ≡ Ok (agg, rest) → AggPart agg ts rest
unfolding agg_at
agg_found ts rest agg e =
    let k = bind_ok (kernel_at ts) _ (agg, rest) e in
    let names = bind_ok (names_at k.0.1) _ (agg, rest) k.2 in
    let attr = bind_ok (or_fault (attr_of k.0.0 names.0.0) (refused BadArity ts)) _ (agg, rest) names.2 in
    let header = bind_ok (header_at (result_name k.0.0 attr.0) names.0.1) (λ h. Ok (record { kernel = k.0.0; attr = attr.0; name = h.0 }, h.1)) (agg, rest) attr.2 in
    let call = kernel_found ts k.0.1 k.0.0 k.1 in
    let parts = names_found k.0.1 names.0.1 names.0.0 names.1 in
    let made : Agg = record { kernel = k.0.0; attr = attr.0; name = header.0.0 } in
    subst (λ (x : Agg × Tokens). AggPart x.0 ts x.1) (ok_is (made, header.0.1) (agg, rest) header.2) (
      record { kernel = call.0; names = names.0.0; is_kernel = call.1; is_attr = or_fault_ok _ _ attr.0 attr.1 },
      (k.0.1, call.2, (parts.0, parts.1, (parts.2.0, parts.2.1, (names.0.1, parts.2.2, header_found (result_name k.0.0 attr.0) header.0.0 names.0.1 header.0.1 header.1)))),
    )

-- ---- SELECT

column_found : (ts rest : Tokens) (item : Item) → column_at ts ≡ Ok (item, rest) → (Name item.name ⨾ Header item.name item.header) ts rest
unfolding column_at
column_found ts rest item e =
    let name = bind_ok (name_at ts) _ (item, rest) e in
    let header = bind_ok (header_at name.0.0 name.0.1) (λ h. Ok (record { name = name.0.0; header = h.0 }, h.1)) (item, rest) name.2 in
    let made : Item = record { name = name.0.0; header = header.0.0 } in
    subst (λ (x : Item × Tokens). (Name x.0.name ⨾ Header x.0.name x.0.header) ts x.1) (ok_is (made, header.0.1) (item, rest) header.2)
    (name.0.1, name_found ts name.0.1 name.0.0 name.1, header_found name.0.0 header.0.0 name.0.1 header.0.1 header.1)

pub item_found : (ts rest : Tokens) (item : picks.Picked) → item_at ts ≡ Ok (item, rest) → ItemPart item ts rest
unfolding item_at
item_found ts rest item e =
    elim (chosen (begins_call ts) _ _ (Ok (item, rest)) e) [
      | inl call ↦ (
          let one = bind_ok (agg_at ts) (λ agg. Ok (picked.Kernel agg.0, agg.1)) (item, rest) call.1 in
          subst (λ (x : picks.Picked × Tokens). ItemPart x.0 ts x.1) (ok_is (picked.Kernel one.0.0, one.0.1) (item, rest) one.2) (agg_found ts one.0.1 one.0.0 one.1))
      | inr column ↦ (
          let one = bind_ok (column_at ts) (λ c. Ok (picked.Column c.0, c.1)) (item, rest) column.1 in
          subst (λ (x : picks.Picked × Tokens). ItemPart x.0 ts x.1) (ok_is (picked.Column one.0.0, one.0.1) (item, rest) one.2) (column_found ts one.0.1 one.0.0 one.1))
    ]

-- ---- WHERE

with_rest_is : (behind rest : Tokens) (o : Option relations.Relation) (relation : relations.Relation) → with_rest behind o ≡ Some (relation, rest) → (o ≡ Some relation) × (behind ≡ rest)
with_rest_is behind rest None relation e = absurd cc
with_rest_is behind rest (Some r) relation e =
    let same : (r, behind) ≡ (relation, rest) = cc in
    (ap (λ (x : relations.Relation × Tokens). Some x.0) same, ap (λ (x : relations.Relation × Tokens). x.1) same)

relation_found_first : (found : Option (Token × Tokens)) (relation : relations.Relation) (rest : Tokens) → relation_first found ≡ Some (relation, rest) → (s : signs.Sign) × (relation_of s ≡ Some relation) × (found ≡ Some (sign s, rest))
relation_found_first None relation rest e = absurd cc
relation_found_first (Some (key k, behind)) relation rest e = absurd cc
relation_found_first (Some (word text, behind)) relation rest e = absurd cc
relation_found_first (Some (quoted text, behind)) relation rest e = absurd cc
relation_found_first (Some (sign s, behind)) relation rest e =
    let there = with_rest_is behind rest (relation_of s) relation e in
    (s, there.0, ap (λ (r : Tokens). Some (sign s, r)) there.1)

relation_found : (ts rest : Tokens) (relation : relations.Relation) → behind_relation ts ≡ Some (relation, rest) → Rel relation ts rest
unfolding behind_relation
relation_found ts rest relation e = relation_found_first (first_of ts) relation rest e

test_choice : (negated : Bool) (ts middle rest : Tokens) (name : List ℕ) (cond : Cond) (o : Option (relations.Relation × Tokens)) → Name name ts middle → behind_relation middle ≡ o
    → option_map_or (compared negated name) o (Ok (record { not = negated; name = name; test = test.Has }, middle)) ≡ Ok (cond, rest) → TestPart negated cond ts rest
test_choice negated ts middle rest name cond None named is e =
    let made : Cond = record { not = negated; name = name; test = test.Has } in
    subst (λ (x : Cond × Tokens). TestPart negated x.0 ts x.1) (ok_is (made, middle) (cond, rest) e) (inl (named, refl))
test_choice negated ts middle rest name cond (Some r) named is e =
    let value = bind_ok (name_at r.1) (λ v. Ok (record { not = negated; name = name; test = test_of r.0 v.0 }, v.1)) (cond, rest) e in
    let made : Cond = record { not = negated; name = name; test = test_of r.0 value.0.0 } in
    subst (λ (x : Cond × Tokens). TestPart negated x.0 ts x.1) (ok_is (made, value.0.1) (cond, rest) value.2)
    (inr (r.0, value.0.0, refl, (middle, named, (r.1, relation_found middle r.1 r.0 is, name_found r.1 value.0.1 value.0.0 value.1))))

test_found : (negated : Bool) (ts rest : Tokens) (cond : Cond) → test_at negated ts ≡ Ok (cond, rest) → TestPart negated cond ts rest
unfolding test_at
test_found negated ts rest cond e =
    let name = bind_ok (name_at ts) _ (cond, rest) e in
    test_choice negated ts name.0.1 rest name.0.0 cond (behind_relation name.0.1) (name_found ts name.0.1 name.0.0 name.1) refl name.2

enclosed_found : (ts rest : Tokens) (cond : Cond) → enclosed_test_at ts ≡ Ok (cond, rest) → (TestPart true cond ⨾ The (sign signed.Close)) ts rest
unfolding enclosed_test_at
enclosed_found ts rest cond e =
    let one = bind_ok (test_at true ts) _ (cond, rest) e in
    let close = bind_ok (past_sign signed.Close one.0.1) (λ close. Ok (one.0.0, close)) (cond, rest) one.2 in
    subst (λ (x : Cond × Tokens). (TestPart true x.0 ⨾ The (sign signed.Close)) ts x.1) (ok_is (one.0.0, close.0) (cond, rest) close.2)
    (one.0.1, test_found true ts one.0.1 one.0.0 one.1, past_found signed.Close one.0.1 close.0 close.1)

negated_choice : (ts middle rest : Tokens) (cond : Cond) (o : Option Tokens) → The (key keyword.Not) ts middle → behind_sign signed.Open middle ≡ o → option_map_or enclosed_test_at o (test_at true middle) ≡ Ok (cond, rest) → CondPart cond ts rest
negated_choice ts middle rest cond None not_ is e = inr (inl (middle, not_, test_found true middle rest cond e))
negated_choice ts middle rest cond (Some inside) not_ is e =
    inr (inr (middle, not_, (inside, sign_found signed.Open middle inside is, enclosed_found inside rest cond e)))

cond_choice : (ts rest : Tokens) (cond : Cond) (o : Option Tokens) → behind_key keyword.Not ts ≡ o → option_map_or negated_at o (test_at false ts) ≡ Ok (cond, rest) → CondPart cond ts rest
unfolding negated_at
cond_choice ts rest cond None is e = inl (test_found false ts rest cond e)
cond_choice ts rest cond (Some behind) is e =
    negated_choice ts behind rest cond (behind_sign signed.Open behind) (key_found keyword.Not ts behind is) refl e

pub cond_found : (ts rest : Tokens) (cond : Cond) → cond_at ts ≡ Ok (cond, rest) → CondPart cond ts rest
unfolding cond_at
cond_found ts rest cond e = cond_choice ts rest cond (behind_key keyword.Not ts) refl e

-- ---- ORDER BY

direction_choice : (ts rest : Tokens) (down : Bool) (desc asc : Option Tokens) → behind_key keyword.Desc ts ≡ desc → behind_key keyword.Asc ts ≡ asc
    → option_map_or {U = Read Bool} (λ after. Ok (true, after)) desc (option_map_or {U = Read Bool} (λ after. Ok (false, after)) asc (Ok (false, ts))) ≡ Ok (down, rest) → Direction down ts rest
direction_choice ts rest down (Some after) asc is_desc is_asc e =
    subst (λ (x : Bool × Tokens). Direction x.0 ts x.1) (ok_is (true, after) (down, rest) e) (key_found keyword.Desc ts after is_desc)
direction_choice ts rest down None (Some after) is_desc is_asc e =
    subst (λ (x : Bool × Tokens). Direction x.0 ts x.1) (ok_is (false, after) (down, rest) e) (inl (key_found keyword.Asc ts after is_asc))
direction_choice ts rest down None None is_desc is_asc e =
    subst (λ (x : Bool × Tokens). Direction x.0 ts x.1) (ok_is (false, ts) (down, rest) e) (inr refl)

pub order_key_found : (ts rest : Tokens) (k : OrderKey) → order_key_at ts ≡ Ok (k, rest) → KeyPart k ts rest
unfolding order_key_at direction_at
order_key_found ts rest k e =
    let name = bind_ok (name_at ts) _ (k, rest) e in
    let down = bind_ok (direction_at name.0.1) (λ d. Ok (record { name = name.0.0; down = d.0 }, d.1)) (k, rest) name.2 in
    let made : OrderKey = record { name = name.0.0; down = down.0.0 } in
    subst (λ (x : OrderKey × Tokens). KeyPart x.0 ts x.1) (ok_is (made, down.0.1) (k, rest) down.2)
    (name.0.1, name_found ts name.0.1 name.0.0 name.1, direction_choice name.0.1 down.0.1 down.0.0 (behind_key keyword.Desc name.0.1) (behind_key keyword.Asc name.0.1) refl refl down.1)

-- ---- FORMAT

pub format_found : (ts rest : Tokens) (f : formats.Format) → format_at ts ≡ Ok (f, rest) → (name : List ℕ) × (format_named name ≡ Some f) × Name name ts rest
unfolding format_at
format_found ts rest f e =
    let name = bind_ok (name_at ts) _ (f, rest) e in
    let named = bind_ok (or_fault (format_named name.0.0) (refused UnknownFormat ts)) (λ p. Ok (p, name.0.1)) (f, rest) name.2 in
    subst (λ (x : formats.Format × Tokens). (name : List ℕ) × (format_named name ≡ Some x.0) × Name name ts x.1) (ok_is (named.0, name.0.1) (f, rest) named.2)
    (name.0.0, or_fault_ok _ _ named.0 named.1, name_found ts name.0.1 name.0.0 name.1)
