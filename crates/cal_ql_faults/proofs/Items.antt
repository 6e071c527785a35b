-- An item of SELECT: a name, and behind it a parenthesis or not.
use Rattle.std.proofs.Common.{◌≡◌, ℕ, Bool, true, false, cond, List, Option, Some, None, Ok, Err, refl, sym, ap, ◌∙◌, inl, inr}
use Rattle.std.specs.Prelude.{is_some}
use Rattle.std.specs.Option.{option_map, option_map_or}
use Rattle.cal_ql.specs.declared.kind.QueryKind.TheVariants.{BadArity, UnknownKernel}
use Rattle.cal_ql.specs.declared.names.KernelName.{KernelName}
use Rattle.cal_ql.specs.declared.query.Agg.{Agg}
use Rattle.cal_ql.specs.declared.query.Item.{Item}
use Rattle.cal_ql.specs.declared.select.Picked.{Picked}
use Rattle.cal_ql.specs.declared.select.Picked.TheVariants as picked
use Rattle.cal_ql.specs.declared.token.Sign.TheVariants as signed
use Rattle.cal_ql.specs.Kernels.{agg_at, attr_of, begins_call, column_at, item_at, kernel_at, names_at}
use Rattle.cal_ql.specs.Names.{kernel_named}
use Rattle.cal_ql.specs.Reading.{Read, ◌>>=◌, behind_sign, first_of, header_at, name_at, or_fault, past_sign, refused}
use Rattle.cal_ql.specs.Tokens.{Fault, Tokens, end, broken, token, key, word, quoted, sign}
use Rattle.cal_ql.proofs.Binds.{bind_ok, ok_is}
use Rattle.cal_ql_faults.proofs.Fores.{both_fore, both_sample, judged, put}
use Rattle.cal_ql_faults.proofs.Rules.{Loose, Rule, done_rule, header_rule, judged_rule, made_rule, name_rule, name_token, names_inside, names_inside_rule, reflagged, same_rule, shown, shown_rule, sign_look_rule, then_rule}

-- a name with a parenthesis behind it, or a column
data Begun : Type 0 where
  call : List ℕ → Begun
  column : Item → Begun

data Named : Type 0 where
  kernel : KernelName → Named
  plain : Item → Named

data Aim : Type 0 where
  names : KernelName → List (List ℕ) → Aim
  none : Item → Aim

data Made : Type 0 where
  made : KernelName × List ℕ → Made
  other : Item → Made

abbrev begun_loose : Begun → Bool
begun_loose (call name) = false
begun_loose (column item) = true

abbrev named_loose : Named → Bool
named_loose (kernel k) = false
named_loose (plain item) = true

abbrev aim_loose : Aim → Bool
aim_loose (names k list) = false
aim_loose (none item) = true

abbrev made_loose : Made → Bool
made_loose (made a) = false
made_loose (other item) = true

-- ---- what begins

abbrev column_behind : List ℕ → Tokens → Read Begun
column_behind name rest = header_at name rest >>= (λ header. put (column (record { name = name; header = header.0 })) header.1)

is_column : (name : List ℕ) (ts : Tokens) (x : Begun) (rest : Tokens) → column_behind name ts ≡ Ok (x, rest) → begun_loose x ≡ true
is_column name ts x rest e =
    let step = bind_ok (header_at name ts) (λ header. put (column (record { name = name; header = header.0 })) header.1) (x, rest) e in
    let same : (column (record { name = name; header = step.0.0 }), step.0.1) ≡ (x, rest) = ok_is (column (record { name = name; header = step.0.0 }), step.0.1) (x, rest) step.2 in
    sym (ap (λ (q : Begun × Tokens). begun_loose q.0) same)

column_rule : (name : List ℕ) → Rule (column_behind name) begun_loose false name_token
column_rule name =
    reflagged (column_behind name) (λ (x : Begun). true) begun_loose false name_token (λ ts x rest read needs. is_column name ts x rest read)
    (made_rule (header_at name) (λ (header : List ℕ). column (record { name = name; header = header })) true false name_token (header_rule name))

abbrev begun : List ℕ → Tokens → Read Begun
begun name rest = option_map_or (λ r. put (call name) r) (behind_sign signed.Open rest) (column_behind name rest)

begun_rule : (name : List ℕ) → Rule (begun name) begun_loose false name_token
begun_rule name =
    sign_look_rule (λ (r : Tokens). put (call name) r) (column_behind name) begun_loose false false name_token name_token (done_rule (call name) begun_loose name_token) (column_rule name)
    (λ ts x rest read. inr (is_column name ts x rest read)) signed.Open (λ (taken : false ≡ true). absurd cc) (λ none. refl)

abbrev begun_at : Tokens → Read Begun
begun_at ts = name_at ts >>= (λ name. begun name.0 name.1)

begun_at_rule : Rule begun_at begun_loose true name_token
begun_at_rule = then_rule name_at begun begun_loose false name_token name_token name_rule begun_rule

-- ---- the kernel

abbrev named : Begun → Option Named
named (call name) = option_map kernel (kernel_named name)
named (column item) = Some (plain item)

some_is : {A : Type 0} (x y : A) → Some x ≡ Some y → x ≡ y
some_is x y e = cc

named_keeps : (x : Begun) (y : Named) → named x ≡ Some y → begun_loose x ≡ true → named_loose y ≡ true
named_keeps (call name) y is needs = absurd cc
named_keeps (column item) y is needs = sym (ap named_loose (some_is (plain item) y is))

named_firm : (x : Begun) → named x ≡ None → begun_loose x ≡ false
named_firm (call name) lost = refl
named_firm (column item) lost = absurd cc

abbrev named_at : Tokens → Read Named
named_at = judged begun_at named UnknownKernel

named_at_rule : Rule named_at named_loose true name_token
named_at_rule = judged_rule begun_at named UnknownKernel (inr refl) begun_loose named_loose name_token named_keeps named_firm begun_at_rule

-- ---- its names

abbrev inside : Named → Tokens → Read Aim
inside (kernel k) rest = names_inside rest >>= (λ list. put (names k list.0) list.1)
inside (plain item) rest = put (none item) rest

abbrev inside_some : Named → Bool
inside_some (kernel k) = true
inside_some (plain item) = false

inside_rule : (x : Named) → Rule (inside x) aim_loose (inside_some x) name_token
inside_rule (kernel k) =
    reflagged (inside (kernel k)) (λ (x : Aim). false) aim_loose true name_token (λ ts x rest read (needs : false ≡ true). absurd cc)
    (made_rule names_inside (λ (list : List (List ℕ)). names k list) false true name_token names_inside_rule)
inside_rule (plain item) = done_rule (none item) aim_loose name_token

inside_early : (x : Named) (y : Aim) (m rest : Tokens) → inside x m ≡ Ok (y, rest) → inside_some x ≡ false → named_loose x ≡ true → aim_loose y ≡ true
inside_early (kernel k) y m rest read lost needs = absurd cc
inside_early (plain item) y m rest read lost needs =
    sym (ap (λ (q : Aim × Tokens). aim_loose q.0) (ok_is (none item, m) (y, rest) read))

abbrev aim_at : Tokens → Read Aim
aim_at ts = named_at ts >>= (λ q. inside q.0 q.1)

inside_closes : (x : Named) → inside_some x ≡ true → named_loose x ≡ true → name_token ≡ sign signed.Close
inside_closes (kernel k) taken needs = absurd cc
inside_closes (plain item) taken needs = absurd cc

aim_at_rule : Rule aim_at aim_loose true name_token
aim_at_rule = record {
  fore = both_fore named_at inside named_loose (λ (x : Named). aim_loose) inside_some (λ (x : Named). name_token) aim_loose
      (λ x y needs. needs) inside_early inside_closes (λ x. (inside_rule x).sample) named_at_rule.fore (λ x. (inside_rule x).fore);
  sample = both_sample named_at inside named_loose (λ (x : Named). aim_loose) inside_some (λ (x : Named). name_token) aim_loose
      (λ x y needs. needs) inside_early inside_closes (λ x. (inside_rule x).sample) name_token named_at_rule.sample;
}

-- ---- its attribute

abbrev fitting : Aim → Option Made
fitting (names k list) = option_map (λ attr. made (k, attr)) (attr_of k list)
fitting (none item) = Some (other item)

fitting_keeps : (x : Aim) (y : Made) → fitting x ≡ Some y → aim_loose x ≡ true → made_loose y ≡ true
fitting_keeps (names k list) y is needs = absurd cc
fitting_keeps (none item) y is needs = sym (ap made_loose (some_is (other item) y is))

fitting_firm : (x : Aim) → fitting x ≡ None → aim_loose x ≡ false
fitting_firm (names k list) lost = refl
fitting_firm (none item) lost = absurd cc

abbrev made_at : Tokens → Read Made
made_at = judged aim_at fitting BadArity

made_at_rule : Rule made_at made_loose true name_token
made_at_rule = judged_rule aim_at fitting BadArity (inl refl) aim_loose made_loose name_token fitting_keeps fitting_firm aim_at_rule

abbrev ends : Made → Tokens → Read Picked
ends (made a) rest = shown a rest >>= (λ agg. put (picked.Kernel agg.0) agg.1)
ends (other item) rest = put (picked.Column item) rest

ends_rule : (x : Made) → Rule (ends x) (λ (y : Picked). true) false name_token
ends_rule (made a) = made_rule (shown a) (λ (agg : Agg). picked.Kernel agg) true false name_token (shown_rule a)
ends_rule (other item) = done_rule (picked.Column item) (λ (y : Picked). true) name_token

abbrev picked_at : Tokens → Read Picked
picked_at ts = made_at ts >>= (λ q. ends q.0 q.1)

picked_at_rule : Loose picked_at name_token
picked_at_rule = record {
  fore = both_fore made_at ends made_loose (λ (x : Made) (y : Picked). true) (λ (x : Made). false) (λ (x : Made). name_token) (λ (y : Picked). true)
      (λ x y needs. refl) (λ x y m rest read lost needs. refl) (λ x (taken : false ≡ true) needs. absurd cc) (λ x. (ends_rule x).sample) made_at_rule.fore (λ x. (ends_rule x).fore);
  sample = both_sample made_at ends made_loose (λ (x : Made) (y : Picked). true) (λ (x : Made). false) (λ (x : Made). name_token) (λ (y : Picked). true)
      (λ x y needs. refl) (λ x y m rest read lost needs. refl) (λ x (taken : false ≡ true) needs. absurd cc) (λ x. (ends_rule x).sample) name_token made_at_rule.sample;
}

-- ---- the same as an item is read

abbrev from_begun : Fault → Fault → Read Begun → Read Picked
from_begun unknown arity r =
    (((r >>= (λ q. or_fault (named q.0) unknown >>= (λ y. put y q.1))) >>= (λ q. inside q.0 q.1))
    >>= (λ q. or_fault (fitting q.0) arity >>= (λ y. put y q.1))) >>= (λ q. ends q.0 q.1)

abbrev kernel_end : Read Agg → Read Picked
kernel_end r = r >>= (λ agg. put (picked.Kernel agg.0) agg.1)

column_by : (unknown arity : Fault) (name : List ℕ) (r : Read (List ℕ))
    → ((r >>= (λ header. put {Y = Item} (record { name = name; header = header.0 }) header.1)) >>= (λ item. put (picked.Column item.0) item.1))
    ≡ from_begun unknown arity (r >>= (λ header. put (column (record { name = name; header = header.0 })) header.1))
column_by unknown arity name (Err d) = refl
column_by unknown arity name (Ok header) = refl

fitting_by : (unknown arity : Fault) (k : KernelName) (rest : Tokens) (found : Option (List ℕ))
    → kernel_end (or_fault found arity >>= (λ attr. shown (k, attr) rest))
    ≡ ((or_fault (option_map (λ attr. made (k, attr)) found) arity >>= (λ y. put y rest)) >>= (λ q. ends q.0 q.1))
fitting_by unknown arity k rest None = refl
fitting_by unknown arity k rest (Some attr) = refl

inside_by : (unknown arity : Fault) (k : KernelName) (r : Read (List (List ℕ)))
    → kernel_end (r >>= (λ list. or_fault (attr_of k list.0) arity >>= (λ attr. shown (k, attr) list.1)))
    ≡ (((r >>= (λ list. put (names k list.0) list.1)) >>= (λ q. or_fault (fitting q.0) arity >>= (λ y. put y q.1))) >>= (λ q. ends q.0 q.1))
inside_by unknown arity k (Err d) = refl
inside_by unknown arity k (Ok list) = fitting_by unknown arity k list.1 (attr_of k list.0)

abbrev agg_of : Fault → Read KernelName → Read Agg
agg_of arity r = r >>= (λ k. names_at k.1 >>= (λ list. or_fault (attr_of k.0 list.0) arity >>= (λ attr. shown (k.0, attr) list.1)))

names_open : (rest r : Tokens) → behind_sign signed.Open rest ≡ Some r → names_at rest ≡ names_inside r
unfolding names_at past_sign
names_open rest r is = rw is refl

call_by : (unknown arity : Fault) (name : List ℕ) (rest r : Tokens) (found : Option KernelName) → behind_sign signed.Open rest ≡ Some r
    → kernel_end (agg_of arity (or_fault found unknown >>= (λ k. put k rest)))
    ≡ ((((or_fault (option_map kernel found) unknown >>= (λ y. put y r)) >>= (λ q. inside q.0 q.1))
    >>= (λ q. or_fault (fitting q.0) arity >>= (λ y. put y q.1))) >>= (λ q. ends q.0 q.1))
call_by unknown arity name rest r None is = refl
call_by unknown arity name rest r (Some k) is =
    ap (λ (s : Read (List (List ℕ))). kernel_end (s >>= (λ list. or_fault (attr_of k list.0) arity >>= (λ attr. shown (k, attr) list.1)))) (names_open rest r is)
    ∙ inside_by unknown arity k (names_inside r)

item_by : (unknown arity : Fault) (name : List ℕ) (rest : Tokens) (o : Option Tokens) → behind_sign signed.Open rest ≡ o
    → cond (is_some o) (kernel_end (agg_of arity (or_fault (kernel_named name) unknown >>= (λ k. put k rest))))
    ((header_at name rest >>= (λ header. put {Y = Item} (record { name = name; header = header.0 }) header.1)) >>= (λ item. put (picked.Column item.0) item.1))
    ≡ from_begun unknown arity (option_map_or (λ r. put (call name) r) o (column_behind name rest))
item_by unknown arity name rest None is = column_by unknown arity name (header_at name rest)
item_by unknown arity name rest (Some r) is = call_by unknown arity name rest r (kernel_named name) is

item_same : (ts : Tokens) → item_at ts ≡ picked_at ts
unfolding item_at begins_call agg_at kernel_at column_at name_at first_of refused
item_same (end place) = refl
item_same (broken fault) = refl
item_same (token place (key k) rest) = refl
item_same (token place (sign s) rest) = refl
item_same (token place (word name) rest) =
    item_by (record { place = place; kind = UnknownKernel }) (record { place = place; kind = BadArity }) name rest (behind_sign signed.Open rest) refl
item_same (token place (quoted name) rest) =
    item_by (record { place = place; kind = UnknownKernel }) (record { place = place; kind = BadArity }) name rest (behind_sign signed.Open rest) refl

pub item_rule : Loose item_at name_token
item_rule = same_rule item_at picked_at (λ (x : Picked). true) true name_token item_same picked_at_rule
