-- The tokens of a query's canonical text are parts of the grammar.
use Rattle.std.proofs.Common.{◌≡◌, ℕ, ℤ, pos, suc, ◌≤◌, ◌^◌, Bool, true, false, cond, List, [], ◌∷◌, ◌++◌, length, Some, None, refl, sym, ap, subst, arith, inl, inr}
use Rattle.std.specs.Prelude.{map, unsigned_abs, int_lt, nat_le, ◌≤ℤ◌, ◌&&◌}
use Rattle.std.specs.Fmt.{signed_decimal}
use Rattle.std.specs.List.{AllByRecursion}
use Rattle.std.proofs.lemmas.Int.{ints}
use Rattle.std.proofs.lemmas.Bool.Decides.{nat_tests}
use Rattle.cal_value.specs.declared.variant.Variant.TheVariants as variant
use Rattle.cal_value.proofs.RoundTrip.{reads_back}
use Rattle.cal_ql.specs.declared.token.Sign as signs
use Rattle.cal_ql.specs.declared.token.Sign.TheVariants as signed
use Rattle.cal_ql.specs.declared.token.Keyword.TheVariants as keyword
use Rattle.cal_ql.specs.declared.names.Op as ops
use Rattle.cal_ql.specs.declared.names.Op.TheVariants as op
use Rattle.cal_ql.specs.declared.names.KernelName as kernels
use Rattle.cal_ql.specs.declared.names.KernelName.TheVariants as kernel
use Rattle.cal_ql.specs.declared.names.Format as formats
use Rattle.cal_ql.specs.declared.names.Format.TheVariants as format
use Rattle.cal_ql.specs.declared.lets.Argument as arguments
use Rattle.cal_ql.specs.declared.lets.Argument.TheVariants as argument
use Rattle.cal_ql.specs.declared.query.Let.{Let}
use Rattle.cal_ql.specs.declared.query.Item.{Item}
use Rattle.cal_ql.specs.declared.query.Agg.{Agg}
use Rattle.cal_ql.specs.declared.query.Cond.{Cond}
use Rattle.cal_ql.specs.declared.query.Test as tests
use Rattle.cal_ql.specs.declared.query.Test.TheVariants as test
use Rattle.cal_ql.specs.declared.query.OrderKey.{OrderKey}
use Rattle.cal_ql.specs.declared.conds.Relation as relations
use Rattle.cal_ql.specs.declared.conds.Relation.TheVariants as relation
use Rattle.cal_ql.specs.declared.select.Picked.TheVariants as picked
use Rattle.cal_ql.specs.Names.{op_name, op_named, kernel_name, kernel_named, format_name, format_named}
use Rattle.cal_ql.specs.Tokens.{Token, key, word, quoted, sign, Tokens}
use Rattle.cal_ql.specs.Lets.{is_number_place, least_number, let_of, names_in, number_in, number_of, takes}
use Rattle.cal_ql.specs.Kernels.{attr_of}
use Rattle.cal_ql.specs.Conds.{relation_of, test_of}
use Rattle.cal_ql.specs.Grammar.{The, Part, Name, Listed, Argument, Call, LetPart, Names, KernelCall, AggPart, ItemPart, TestPart, CondPart, Direction, KeyPart}
use Rattle.cal_ql.specs.Valid.{IsLet, SaysAttribute, SaysNumber, TakesNames}
use Rattle.cal_ql.specs.Writing.{agg_tokens, argument_tokens, arguments_of, attr_tokens, cond_tokens, direction_tokens, item_tokens, key_tokens, let_tokens, listed, name_tokens, not_tokens, number_argument, test_tokens}
use Rattle.cal_ql.proofs.Spelling.{Come, IsRead, key_read, kernel_read, name_read, number_read, op_read, sign_read}

-- ---- tokens that come, and that are read

pub come_split : (ts us : List Token) (from to : Tokens) → Come (ts ++ us) from to
    → (middle : Tokens) × Come ts from middle × Come us middle to
come_split [] us from to come = (from, refl, come)
come_split (t ∷ ts) us from to (next, the, come) =
    let both = come_split ts us next to come in
    (both.0, (next, the, both.1), both.2)

pub all_append : {X : Type 0} (P : X → Type 0) (xs ys : List X) → AllByRecursion P xs
    → AllByRecursion P ys → AllByRecursion P (xs ++ ys)
all_append P [] ys all others = others
all_append P (x ∷ xs) ys all others = (all.0, all_append P xs ys all.1 others)

-- what is listed is read where each item is
pub listed_read : {X : Type 0} (item : X → List Token) (xs : List X)
    → AllByRecursion (λ x. AllByRecursion IsRead (item x)) xs
    → AllByRecursion IsRead (listed item xs)
listed_read item [] all = tt
listed_read item (x ∷ []) all = all.0
listed_read item (x ∷ y ∷ xs) all =
    all_append IsRead (item x) (sign signed.Comma ∷ listed item (y ∷ xs)) all.0
    (sign_read signed.Comma, listed_read item (y ∷ xs) all.1)

-- items that come are listed; from this number on, each is the part that it must be there
abbrev pub Parts : {X : Type 0} → (ℕ → X → Part) → (X → List Token) → ℕ → List X → Type 0
Parts part item n [] = Unit {0}
Parts part item n (x ∷ xs) =
    ((from to : Tokens) → Come (item x) from to → part n x from to) × Parts part item (suc n) xs

pub listed_come : {X : Type 0} (part : ℕ → X → Part) (item : X → List Token) (n : ℕ) (x : X)
    (xs : List X) (from to : Tokens) → Parts part item n (x ∷ xs)
    → Come (listed item (x ∷ xs)) from to → Listed part n (x ∷ xs) from to
listed_come part item n x [] from to parts come = parts.0 from to come
listed_come part item n x (y ∷ xs) from to parts come =
    let both = come_split (item x) (sign signed.Comma ∷ listed item (y ∷ xs)) from to come in
    let comma = both.2 in (
      both.0,
      parts.0 from both.0 both.1,
      (
        comma.0,
        comma.1,
        listed_come part item (suc n) y xs comma.0 to parts.1 comma.2,
      ),
    )

-- where the place in the list doesn't matter
pub each_part : {X : Type 0} (part : X → Part) (item : X → List Token) (P : X → Type 0)
    → ((x : X) → P x → (from to : Tokens) → Come (item x) from to → part x from to)
    → (n : ℕ) (xs : List X) → AllByRecursion P xs → Parts (λ number. part) item n xs
each_part part item P is n [] all = tt
each_part part item P is n (x ∷ xs) all = (is x all.0, each_part part item P is (suc n) xs all.1)

-- ---- LET

op_named-name : (o : ops.Op) → op_named (op_name o) ≡ Some o
op_named-name op.Truncate = refl
op_named-name op.Scale = refl
op_named-name op.Ratio = refl
op_named-name op.First = refl
op_named-name op.Sum = refl

not_less : (a b : ℤ) → b ≤ℤ a → int_lt a b ≡ false
not_less a b h = grind (arith, ints)

number_small : (o : ops.Op) (n : ℤ) → least_number o ≤ℤ n → n ≤ℤ pos 2147483647
    → unsigned_abs n ≤ 2 ^ 86
number_small op.Truncate n least most = grind (arith, ints)
number_small op.Scale n least most = grind (arith, ints)
number_small op.Ratio n least most = grind (arith, ints)
number_small op.First n least most = grind (arith, ints)
number_small op.Sum n least most = grind (arith, ints)

number_is : (l : Let) → IsLet l → number_in l.op (signed_decimal l.n) ≡ Some l.n
unfolding number_in
number_is l is =
    rw (
      reads_back (variant.Int l.n) tt
          (record { small = number_small l.op l.n is.least is.most; proper = tt }),
      not_less l.n (least_number l.op) is.least,
      not_less (pos 2147483647) l.n is.most,
    ) refl

-- names and nothing else
names_of_names : (names : List (List ℕ)) → names_in (map argument.Name names) ≡ names
names_of_names [] = refl
names_of_names (name ∷ names) =
    ap (λ (others : List (List ℕ)). name ∷ others) (names_of_names names)

no_number : (names : List (List ℕ)) → number_of (map argument.Name names) ≡ None
no_number [] = refl
no_number (name ∷ names) = no_number names

nil_append : (names : List (List ℕ))
    → map argument.Name names ++ [] ≡ map argument.Name names
nil_append [] = refl
nil_append (name ∷ names) =
    ap (λ (others : List arguments.Argument). argument.Name name ∷ others) (nil_append names)

pub the_to : (t : Token) (from next to : Tokens) → The t from next → next ≡ to → The t from to
the_to t from next to the same = subst (λ (r : Tokens). The t from r) same the

name_to : (name : List ℕ) (from to : Tokens) → Come (quoted name ∷ []) from to
    → Name name from to
name_to name from to (next, the, same) = inr (the_to (quoted name) from next to the same)

name_part : (o : ops.Op) (number : ℕ) (name : List ℕ) → is_number_place o number ≡ false
    → (from to : Tokens) → Come (argument_tokens (argument.Name name)) from to
    → Argument o number (argument.Name name) from to
name_part o number name none from to come = (none, name_to name from to come)

number_part : (o : ops.Op) (number : ℕ) (n : ℤ) → is_number_place o number ≡ true
    → number_in o (signed_decimal n) ≡ Some n
    → (from to : Tokens) → Come (argument_tokens (argument.Number n)) from to
    → Argument o number (argument.Number n) from to
number_part o number n place is from to (next, the, same) =
    (place, signed_decimal n, is, the_to (word (signed_decimal n)) from next to the same)

name_parts : (o : ops.Op) (n : ℕ) (names : List (List ℕ))
    → ((number : ℕ) → is_number_place o number ≡ false)
    → Parts (Argument o) argument_tokens n (map argument.Name names)
name_parts o n [] none = tt
name_parts o n (name ∷ names) none =
    (name_part o n name (none n), name_parts o (suc n) names none)

-- a call of names alone
names_come : (o : ops.Op) (names : List (List ℕ)) (from to : Tokens) → 1 ≤ length names
    → ((number : ℕ) → is_number_place o number ≡ false)
    → Come (listed argument_tokens (map argument.Name names ++ [])) from to
    → Listed (Argument o) 0 (map argument.Name names ++ []) from to
names_come o [] from to some none come = absurd (omega arith)
names_come o (name ∷ names) from to some none come =
    subst
    (λ (xs : List arguments.Argument). Come (listed argument_tokens xs) from to
    → Listed (Argument o) 0 xs from to)
    (sym (nil_append (name ∷ names)))
    (listed_come (Argument o) argument_tokens 0 (argument.Name name) (map argument.Name names)
    from to (name_parts o 0 (name ∷ names) none))
    come

arguments_come : (o : ops.Op) (names : List (List ℕ)) (n : ℤ) (from to : Tokens)
    → TakesNames o (length names) → number_in o (signed_decimal n) ≡ Some n
    → Come (listed argument_tokens (map argument.Name names ++ number_argument o n)) from to
    → Listed (Argument o) 0 (map argument.Name names ++ number_argument o n) from to
arguments_come op.Truncate [] n from to takes is come = absurd (omega arith)
arguments_come op.Truncate (a ∷ []) n from to takes is come =
    listed_come (Argument op.Truncate) argument_tokens 0 (argument.Name a)
    (argument.Number n ∷ []) from to
    (name_part op.Truncate 0 a refl, (number_part op.Truncate 1 n refl is, tt)) come
arguments_come op.Truncate (a ∷ b ∷ names) n from to takes is come = absurd (omega arith)
arguments_come op.Scale [] n from to takes is come = absurd (omega arith)
arguments_come op.Scale (a ∷ []) n from to takes is come =
    listed_come (Argument op.Scale) argument_tokens 0 (argument.Name a)
    (argument.Number n ∷ []) from to
    (name_part op.Scale 0 a refl, (number_part op.Scale 1 n refl is, tt)) come
arguments_come op.Scale (a ∷ b ∷ names) n from to takes is come = absurd (omega arith)
arguments_come op.Ratio [] n from to takes is come = absurd (omega arith)
arguments_come op.Ratio (a ∷ []) n from to takes is come = absurd (omega arith)
arguments_come op.Ratio (a ∷ b ∷ []) n from to takes is come =
    listed_come (Argument op.Ratio) argument_tokens 0 (argument.Name a)
    (argument.Name b ∷ argument.Number n ∷ []) from to (
      name_part op.Ratio 0 a refl,
      (name_part op.Ratio 1 b refl, (number_part op.Ratio 2 n refl is, tt)),
    )
    come
arguments_come op.Ratio (a ∷ b ∷ c ∷ names) n from to takes is come = absurd (omega arith)
arguments_come op.First names n from to takes is come =
    names_come op.First names from to takes.0 (λ number. refl) come
arguments_come op.Sum names n from to takes is come =
    names_come op.Sum names from to takes.0 (λ number. refl) come

-- the definition of a call of names alone
names_make : (name : List ℕ) (o : ops.Op) (names : List (List ℕ)) (n : ℤ)
    → takes o (length names) None ≡ true → n ≡ pos 1
    → let_of name o (map argument.Name names ++ [])
    ≡ Some (record { name = name; op = o; args = names; n = n })
names_make name o names n taken one =
    rw (nil_append names, names_of_names names, no_number names, taken, one) refl

within : (names : ℕ) → 1 ≤ names → names ≤ 16 → (nat_le 1 names && nat_le names 16) ≡ true
within names low high = grind (arith, nat_tests)

arguments_make : (name : List ℕ) (o : ops.Op) (names : List (List ℕ)) (n : ℤ)
    → TakesNames o (length names) → SaysNumber o n
    → let_of name o (map argument.Name names ++ number_argument o n)
    ≡ Some (record { name = name; op = o; args = names; n = n })
arguments_make name op.Truncate [] n takes says = absurd (omega arith)
arguments_make name op.Truncate (a ∷ []) n takes says = refl
arguments_make name op.Truncate (a ∷ b ∷ names) n takes says = absurd (omega arith)
arguments_make name op.Scale [] n takes says = absurd (omega arith)
arguments_make name op.Scale (a ∷ []) n takes says = refl
arguments_make name op.Scale (a ∷ b ∷ names) n takes says = absurd (omega arith)
arguments_make name op.Ratio [] n takes says = absurd (omega arith)
arguments_make name op.Ratio (a ∷ []) n takes says = absurd (omega arith)
arguments_make name op.Ratio (a ∷ b ∷ []) n takes says = refl
arguments_make name op.Ratio (a ∷ b ∷ c ∷ names) n takes says = absurd (omega arith)
arguments_make name op.First names n takes says =
    names_make name op.First names n (within (length names) takes.0 takes.1) says
arguments_make name op.Sum names n takes says =
    names_make name op.Sum names n (within (length names) takes.0 takes.1) says

pub let_come : (l : Let) → IsLet l → SaysNumber l.op l.n → (from to : Tokens)
    → Come (let_tokens l) from to → LetPart l from to
let_come l is says from to (r1, name, (r2, equals, (r3, op, (r4, open_, behind)))) =
    let both =
    come_split (listed argument_tokens (arguments_of l)) (sign signed.Close ∷ []) r4 to behind in
    let call : Call l = record {
      op = op_name l.op;
      arguments = arguments_of l;
      is_op = op_named-name l.op;
      makes = arguments_make l.name l.op l.args l.n is.names says;
    } in (
      call,
      (
        r1,
        inr name,
        (
          r2,
          equals,
          (
            r3,
            inl op,
            (
              r4,
              open_,
              (
                both.0,
                arguments_come l.op l.args l.n r4 both.0 is.names (number_is l is) both.1,
                the_to (sign signed.Close) both.0 both.2.0 to both.2.1 both.2.2,
              ),
            ),
          ),
        ),
      ),
    )

names_read : (names : List (List ℕ))
    → AllByRecursion (λ a. AllByRecursion IsRead (argument_tokens a)) (map argument.Name names)
names_read [] = tt
names_read (name ∷ names) = ((name_read name, tt), names_read names)

number_argument_read : (o : ops.Op) (n : ℤ) → unsigned_abs n ≤ 2 ^ 86
    → AllByRecursion (λ a. AllByRecursion IsRead (argument_tokens a)) (number_argument o n)
number_argument_read op.Truncate n small = ((number_read n small, tt), tt)
number_argument_read op.Scale n small = ((number_read n small, tt), tt)
number_argument_read op.Ratio n small = ((number_read n small, tt), tt)
number_argument_read op.First n small = tt
number_argument_read op.Sum n small = tt

pub let_read : (l : Let) → IsLet l → AllByRecursion IsRead (let_tokens l)
let_read l is =
    let arguments =
    all_append (λ a. AllByRecursion IsRead (argument_tokens a)) (map argument.Name l.args)
    (number_argument l.op l.n) (names_read l.args)
    (number_argument_read l.op l.n (number_small l.op l.n is.least is.most)) in (
      name_read l.name,
      (
        sign_read signed.Equals,
        (
          op_read l.op,
          (
            sign_read signed.Open,
            all_append IsRead (listed argument_tokens (arguments_of l)) (sign signed.Close ∷ [])
                (listed_read argument_tokens (arguments_of l) arguments) (sign_read signed.Close, tt),
          ),
        ),
      ),
    )

-- ---- kernels

kernel_named-name : (k : kernels.KernelName) → kernel_named (kernel_name k) ≡ Some k
kernel_named-name kernel.Count = refl
kernel_named-name kernel.Sum = refl
kernel_named-name kernel.Min = refl
kernel_named-name kernel.Max = refl
kernel_named-name kernel.Avg = refl
kernel_named-name kernel.Inclusive = refl
kernel_named-name kernel.Percent = refl

-- a kernel's attribute, and the names of its call
record Attribute (k : kernels.KernelName) (attr : List ℕ) : Type 0 where
  names : List (List ℕ)
  is : attr_of k names ≡ Some attr
  come : (from to : Tokens) → Come (attr_tokens k attr) from to → Names names from to
  read : AllByRecursion IsRead (attr_tokens k attr)

attribute : (k : kernels.KernelName) (attr : List ℕ) → SaysAttribute k attr → Attribute k attr
attribute kernel.Count attr says = record {
  names = [];
  is = ap (λ (name : List ℕ). Some name) (sym says);
  come = λ from to come. come;
  read = tt;
}
attribute kernel.Sum attr says =
    record { names = attr ∷ []; is = refl; come = name_to attr; read = (name_read attr, tt) }
attribute kernel.Min attr says =
    record { names = attr ∷ []; is = refl; come = name_to attr; read = (name_read attr, tt) }
attribute kernel.Max attr says =
    record { names = attr ∷ []; is = refl; come = name_to attr; read = (name_read attr, tt) }
attribute kernel.Avg attr says =
    record { names = attr ∷ []; is = refl; come = name_to attr; read = (name_read attr, tt) }
attribute kernel.Inclusive attr says =
    record { names = attr ∷ []; is = refl; come = name_to attr; read = (name_read attr, tt) }
attribute kernel.Percent attr says =
    record { names = attr ∷ []; is = refl; come = name_to attr; read = (name_read attr, tt) }

pub agg_come : (agg : Agg) → SaysAttribute agg.kernel agg.attr → (from to : Tokens)
    → Come (agg_tokens agg) from to → AggPart agg from to
agg_come agg says from to (r1, kernel, (r2, open_, behind)) =
    let attr = attribute agg.kernel agg.attr says in
    let both =
    come_split (attr_tokens agg.kernel agg.attr)
    (sign signed.Close ∷ key keyword.As ∷ quoted agg.name ∷ []) r2 to behind in
    let close = both.2 in
    let as_ = close.2 in
    let call : KernelCall agg = record {
      kernel = kernel_name agg.kernel;
      names = attr.names;
      is_kernel = kernel_named-name agg.kernel;
      is_attr = attr.is;
    } in (
      call,
      (
        r1,
        inl kernel,
        (
          r2,
          open_,
          (
            both.0,
            attr.come r2 both.0 both.1,
            (
              close.0,
              close.1,
              inl (as_.0, as_.1, name_to agg.name as_.0 to as_.2),
            ),
          ),
        ),
      ),
    )

pub agg_read : (agg : Agg) → SaysAttribute agg.kernel agg.attr
    → AllByRecursion IsRead (agg_tokens agg)
agg_read agg says = (
  kernel_read agg.kernel,
  (
    sign_read signed.Open,
    all_append IsRead (attr_tokens agg.kernel agg.attr)
        (sign signed.Close ∷ key keyword.As ∷ quoted agg.name ∷ [])
        (attribute agg.kernel agg.attr says).read
        (sign_read signed.Close, (key_read keyword.As, (name_read agg.name, tt))),
  ),
)

-- ---- SELECT

pub item_come : (item : Item) (from to : Tokens) → Come (item_tokens item) from to
    → ItemPart (picked.Column item) from to
item_come item from to (r1, name, (r2, as_, header)) =
    (r1, inr name, inl (r2, as_, name_to item.header r2 to header))

pub item_read : (item : Item) → AllByRecursion IsRead (item_tokens item)
item_read item = (name_read item.name, (key_read keyword.As, (name_read item.header, tt)))

-- ---- WHERE

compared : (negated : Bool) (name : List ℕ) (r : relations.Relation) (s : signs.Sign)
    (value : List ℕ) (from to : Tokens) → relation_of s ≡ Some r
    → Come (quoted name ∷ sign s ∷ quoted value ∷ []) from to
    → TestPart negated (record { not = negated; name = name; test = test_of r value }) from to
compared negated name r s value from to is (r1, the, (r2, rel, there)) =
    inr (r, value, refl, (r1, inr the, (r2, (s, is, rel), name_to value r2 to there)))

test_come : (negated : Bool) (name : List ℕ) (t : tests.Test) (from to : Tokens)
    → Come (quoted name ∷ test_tokens t) from to
    → TestPart negated (record { not = negated; name = name; test = t }) from to
test_come negated name test.Has from to come = inl (name_to name from to come, refl)
test_come negated name (test.Eq value) from to come =
    compared negated name relation.Eq signed.Equals value from to refl come
test_come negated name (test.Lt value) from to come =
    compared negated name relation.Lt signed.Less value from to refl come
test_come negated name (test.Gt value) from to come =
    compared negated name relation.Gt signed.Greater value from to refl come
test_come negated name (test.Le value) from to come =
    compared negated name relation.Le signed.LessEqual value from to refl come
test_come negated name (test.Ge value) from to come =
    compared negated name relation.Ge signed.GreaterEqual value from to refl come

cond_comes : (negated : Bool) (name : List ℕ) (t : tests.Test) (from to : Tokens)
    → Come (not_tokens negated ++ quoted name ∷ test_tokens t) from to
    → CondPart (record { not = negated; name = name; test = t }) from to
cond_comes false name t from to come = inl (test_come false name t from to come)
cond_comes true name t from to (r1, not_, come) =
    inr (inl (r1, not_, test_come true name t r1 to come))

pub cond_come : (cond : Cond) (from to : Tokens) → Come (cond_tokens cond) from to
    → CondPart cond from to
cond_come cond from to come = cond_comes cond.not cond.name cond.test from to come

test_read : (t : tests.Test) → AllByRecursion IsRead (test_tokens t)
test_read test.Has = tt
test_read (test.Eq value) = (sign_read signed.Equals, (name_read value, tt))
test_read (test.Lt value) = (sign_read signed.Less, (name_read value, tt))
test_read (test.Gt value) = (sign_read signed.Greater, (name_read value, tt))
test_read (test.Le value) = (sign_read signed.LessEqual, (name_read value, tt))
test_read (test.Ge value) = (sign_read signed.GreaterEqual, (name_read value, tt))

not_read : (negated : Bool) → AllByRecursion IsRead (not_tokens negated)
not_read true = (key_read keyword.Not, tt)
not_read false = tt

pub cond_read : (cond : Cond) → AllByRecursion IsRead (cond_tokens cond)
cond_read cond =
    all_append IsRead (not_tokens cond.not) (quoted cond.name ∷ test_tokens cond.test)
    (not_read cond.not) (name_read cond.name, test_read cond.test)

-- ---- GROUP BY, ORDER BY, FORMAT

pub name_come : (name : List ℕ) (from to : Tokens) → Come (name_tokens name) from to
    → Name name from to
name_come name from to come = name_to name from to come

direction_come : (down : Bool) (from to : Tokens) → Come (direction_tokens down) from to
    → Direction down from to
direction_come true from to (next, the, same) = the_to (key keyword.Desc) from next to the same
direction_come false from to (next, the, same) =
    inl (the_to (key keyword.Asc) from next to the same)

pub key_come : (k : OrderKey) (from to : Tokens) → Come (key_tokens k) from to
    → KeyPart k from to
key_come k from to (next, the, come) = (next, inr the, direction_come k.down next to come)

direction_read : (down : Bool) → AllByRecursion IsRead (direction_tokens down)
direction_read true = (key_read keyword.Desc, tt)
direction_read false = (key_read keyword.Asc, tt)

pub order_read : (k : OrderKey) → AllByRecursion IsRead (key_tokens k)
order_read k = (name_read k.name, direction_read k.down)

pub format_named-name : (f : formats.Format) → format_named (format_name f) ≡ Some f
format_named-name format.Table = refl
format_named-name format.Tree = refl
format_named-name format.Json = refl
format_named-name format.Expand = refl
