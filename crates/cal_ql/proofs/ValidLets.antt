-- Each definition that is read has what its operator takes.
use Rattle.std.proofs.Common.{◌≡◌, ℕ, ◌≤◌, Bool, true, false, T, not, ◌&&◌, ◌||◌, eqb, leb, List, [], ◌∷◌, length, Option, Some, None, Ok, refl, sym, subst, inl, inr}
use Rattle.std.specs.Prelude.{ℤ, pos, ◌≤ℤ◌, int_lt, unwrap_or, is_some}
use Rattle.std.specs.List.{AllByRecursion}
use Rattle.std.proofs.lemmas.Bool.{eqb-true, leb-true}
use lib.Signed.{lt_z_no}
use Rattle.cal_value.specs.Reading.{value_of}
use Rattle.cal_value.specs.declared.kind.Kind.TheVariants as value_kind
use Rattle.cal_value.specs.declared.variant.Variant as variants
use Rattle.cal_value.specs.declared.variant.Variant.TheVariants as variant
use Rattle.cal_ql.specs.declared.kind.QueryKind.TheVariants.{BadArity, BadNumber}
use Rattle.cal_ql.specs.declared.token.Sign.TheVariants as signed
use Rattle.cal_ql.specs.declared.names.Op as ops
use Rattle.cal_ql.specs.declared.names.Op.TheVariants as op
use Rattle.cal_ql.specs.declared.lets.Argument as arguments
use Rattle.cal_ql.specs.declared.lets.Argument.TheVariants as argument
use Rattle.cal_ql.specs.declared.query.Let.{Let}
use Rattle.cal_ql.specs.Tokens.{Token, Tokens, key, word, quoted, sign}
use Rattle.cal_ql.specs.Reading.{or_fault, first_of, name_at, past_sign, refused, separated}
use Rattle.cal_ql.specs.Lets.{argument_at, arguments_at, in_bounds, is_number_place, least_number, let_at, let_of, names_in, number_at, number_first, number_in, number_of, op_at, takes}
use Rattle.cal_ql.specs.Valid.{IsLet, TakesNames}
use Rattle.cal_ql.proofs.Choices.{chosen}
use Rattle.cal_ql.proofs.Binds.{bind_ok, or_fault_ok, ok_is}
use Rattle.cal_ql.proofs.ReadLists.{all_separated}

-- a number within the bounds of an operator
record IsBounded (o : ops.Op) (n : ℤ) : Type 0 where
  least : least_number o ≤ℤ n
  most : n ≤ℤ pos 2147483647

abbrev IsArgument : ops.Op → arguments.Argument → Type 0
IsArgument o (argument.Name name) = Unit {0}
IsArgument o (argument.Number n) = IsBounded o n

not_below : (a b : ℤ) → int_lt a b ≡ false → b ≤ℤ a
not_below a b e = lt_z_no (subst (λ (t : Bool). T (not t)) (sym e) tt)

or_none : (a b : Bool) → (a || b) ≡ false → (a ≡ false) × (b ≡ false)
or_none true b e = absurd cc
or_none false b e = (refl, e)

bounded : (o : ops.Op) (found : Option variants.Variant) (n : ℤ) → in_bounds o found ≡ Some n → IsBounded o n
bounded o (Some (variant.Int m)) n e =
    elim (chosen (int_lt m (least_number o) || int_lt (pos 2147483647) m) None (Some m) (Some n) e) [
      | inl past ↦ absurd (let none : None ≡ Some n = past.1 in cc)
      | inr kept ↦ (
          let both = or_none (int_lt m (least_number o)) (int_lt (pos 2147483647) m) kept.0 in
          let found : Some m ≡ Some n = kept.1 in
          let same : m ≡ n = cc in
          subst (λ (k : ℤ). IsBounded o k) same (record { least = not_below m (least_number o) both.0; most = not_below (pos 2147483647) m both.1 }))
    ]
bounded o None n e = absurd cc
bounded o (Some _) n e = absurd cc

-- ---- arguments

number_bounded : (o : ops.Op) (ts rest : Tokens) (found : Option (Token × Tokens)) (n : ℤ) → number_first o ts found ≡ Ok (n, rest) → IsBounded o n
unfolding number_in
number_bounded o ts rest (Some (word text, behind)) n e =
    let one = bind_ok (or_fault (number_in o text) (refused BadNumber ts)) (λ m. Ok (m, behind)) (n, rest) e in
    let there : number_in o text ≡ Some one.0 = or_fault_ok (number_in o text) (refused BadNumber ts) one.0 one.1 in
    subst (λ (x : ℤ × Tokens). IsBounded o x.0) (ok_is (one.0, behind) (n, rest) one.2) (bounded o (value_of value_kind.Int text) one.0 there)
number_bounded o ts rest None n e = absurd cc
number_bounded o ts rest (Some (key k, behind)) n e = absurd cc
number_bounded o ts rest (Some (quoted text, behind)) n e = absurd cc
number_bounded o ts rest (Some (sign s, behind)) n e = absurd cc

argument_bounded : (o : ops.Op) (index : ℕ) (ts rest : Tokens) (found : arguments.Argument) → argument_at o index ts ≡ Ok (found, rest) → IsArgument o found
unfolding argument_at number_at
argument_bounded o index ts rest found e =
    elim (chosen (is_number_place o index) _ _ (Ok (found, rest)) e) [
      | inl number ↦ (
          let one = bind_ok (number_at o ts) (λ n. Ok (argument.Number n.0, n.1)) (found, rest) number.1 in
          subst (λ (x : arguments.Argument × Tokens). IsArgument o x.0) (ok_is (argument.Number one.0.0, one.0.1) (found, rest) one.2) (number_bounded o ts one.0.1 (first_of ts) one.0.0 one.1))
      | inr name ↦ (
          let one = bind_ok (name_at ts) (λ n. Ok (argument.Name n.0, n.1)) (found, rest) name.1 in
          subst (λ (x : arguments.Argument × Tokens). IsArgument o x.0) (ok_is (argument.Name one.0.0, one.0.1) (found, rest) one.2) tt)
    ]

one_bounded : (o : ops.Op) → IsBounded o (pos 1)
one_bounded op.Truncate = record { least = not_below (pos 1) (pos 1) refl; most = not_below (pos 2147483647) (pos 1) refl }
one_bounded o = record { least = not_below (pos 1) (least_number o) refl; most = not_below (pos 2147483647) (pos 1) refl }

chosen_bounded : (o : ops.Op) (found : List arguments.Argument) → AllByRecursion (IsArgument o) found → IsBounded o (unwrap_or (number_of found) (pos 1))
chosen_bounded o [] each = one_bounded o
chosen_bounded o (argument.Name name ∷ others) each = chosen_bounded o others each.1
chosen_bounded o (argument.Number n ∷ others) each = each.0

and_both : (a b : Bool) → (a && b) ≡ true → (a ≡ true) × (b ≡ true)
and_both true b e = (refl, e)
and_both false b e = absurd cc

few_names : (names : ℕ) → (leb 1 names && leb names 16) ≡ true → (1 ≤ names) × (names ≤ 16)
few_names names e = let both = and_both (leb 1 names) (leb names 16) e in (leb-true 1 names both.0, leb-true names 16 both.1)

takes_names : (o : ops.Op) (names : ℕ) (number : Option ℤ) → takes o names number ≡ true → TakesNames o names
takes_names op.Truncate names number e = eqb-true names 1 e
takes_names op.Scale names number e = eqb-true names 1 (and_both (eqb names 1) (is_some number) e).0
takes_names op.Ratio names number e = eqb-true names 2 e
takes_names op.First names number e = few_names names e
takes_names op.Sum names number e = few_names names e

-- ---- definitions

let_valid : (name : List ℕ) (o : ops.Op) (found : List arguments.Argument) (l : Let) → AllByRecursion (IsArgument o) found → let_of name o found ≡ Some l → IsLet l
let_valid name o found l each e =
    elim (chosen (takes o (length (names_in found)) (number_of found)) _ None (Some l) e) [
      | inl taken ↦ (
          let made : Let = record { name = name; op = o; args = names_in found; n = unwrap_or (number_of found) (pos 1) } in
          let there : Some made ≡ Some l = taken.1 in
          let same : made ≡ l = cc in
          let bounds = chosen_bounded o found each in
          subst IsLet same (record { names = takes_names o (length (names_in found)) (number_of found) taken.0; least = bounds.least; most = bounds.most }))
      | inr wrong ↦ absurd (let none : None ≡ Some l = wrong.1 in cc)
    ]

arguments_bounded : (o : ops.Op) (ts rest : Tokens) (found : List arguments.Argument) → arguments_at o ts ≡ Ok (found, rest) → AllByRecursion (IsArgument o) found
unfolding arguments_at
arguments_bounded o ts rest found e =
    let open_ = bind_ok (past_sign signed.Open ts) _ (found, rest) e in
    let items = bind_ok (separated (argument_at o) open_.0) _ (found, rest) open_.2 in
    let close = bind_ok (past_sign signed.Close items.0.1) (λ close. Ok (items.0.0, close)) (found, rest) items.2 in
    subst (λ (x : List arguments.Argument × Tokens). AllByRecursion (IsArgument o) x.0) (ok_is (items.0.0, close.0) (found, rest) close.2)
    (all_separated (IsArgument o) (argument_at o) (λ n ts rest x. argument_bounded o n ts rest x) open_.0 items.0.1 items.0.0 items.1)

pub let_at_valid : (ts rest : Tokens) (l : Let) → let_at ts ≡ Ok (l, rest) → IsLet l
unfolding let_at
let_at_valid ts rest l e =
    let name = bind_ok (name_at ts) _ (l, rest) e in
    let call = bind_ok (past_sign signed.Equals name.0.1) _ (l, rest) name.2 in
    let o = bind_ok (op_at call.0) _ (l, rest) call.2 in
    let found = bind_ok (arguments_at o.0.0 o.0.1) _ (l, rest) o.2 in
    let made = bind_ok (or_fault (let_of name.0.0 o.0.0 found.0.0) (refused BadArity call.0)) (λ definition. Ok (definition, found.0.1)) (l, rest) found.2 in
    subst (λ (x : Let × Tokens). IsLet x.0) (ok_is (made.0, found.0.1) (l, rest) made.2)
    (let_valid name.0.0 o.0.0 found.0.0 made.0 (arguments_bounded o.0.0 o.0.1 found.0.1 found.0.0 found.1) (or_fault_ok _ _ made.0 made.1))
