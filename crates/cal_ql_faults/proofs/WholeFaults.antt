-- Clauses up to the end of a text, and where its fault is.
use Rattle.std.proofs.Common.{◌≡◌, ◌⊎◌, ℕ, zero, suc, ◌≤◌, Bool, true, false, cond, List, [], ◌∷◌, ◌++◌, length, Some, Result, Ok, Err, refl, sym, ap, ◌∙◌, arith, inl, None, Option, subst, inr, append_assoc}
use Rattle.std.specs.Prelude.{is_some}
use Rattle.cal_ql.specs.Clauses.{all_clauses, clause_at, clause_behind, clauses_within, has_clause, listed_at, no_clauses, past_by, query_of, selected_all, selection_at, selection_of, reading}
use Rattle.cal_ql.specs.Conds.{cond_at, format_at, order_key_at}
use Rattle.cal_ql.specs.FirstFault.{HasFault}
use Rattle.cal_ql.specs.Kernels.{agg_at, any_name_at, item_at}
use Rattle.cal_ql.specs.Lets.{let_at}
use Rattle.cal_ql.specs.Reading.{Read, ◌>>=◌, count, first_of, is_end, refused, separated}
use Rattle.cal_ql.specs.Tokens.{Fault, Token, Tokens, end, broken, token, key, word, quoted, sign, tokens_of}
use Rattle.cal_ql.specs.declared.clauses.Clauses.{Clauses}
use Rattle.cal_ql.specs.declared.kind.QueryKind.{QueryKind}
use Rattle.cal_ql.specs.declared.kind.QueryKind.TheVariants.{DuplicateClause, ExpectedClause}
use Rattle.cal_ql.specs.declared.names.Format.{Format}
use Rattle.cal_ql.specs.declared.query.Query.{Query}
use Rattle.cal_ql.specs.declared.select.Picked.{Picked}
use Rattle.cal_ql.specs.declared.select.Selection.{Selection}
use Rattle.cal_ql.specs.declared.token.Keyword as keywords
use Rattle.cal_ql.specs.declared.token.Keyword.TheVariants as keyword
use Rattle.cal_ql.specs.declared.token.Sign.TheVariants as signed
use Rattle.cal_ql.proofs.Lists.{first_count}
use Rattle.cal_ql.specs.Grammar.{Means}
use Rattle.cal_ql.proofs.GrammarWhole.{means_reading}
use Rattle.cal_ql_faults.specs.FaultPlaces.{BeginSome, IsFoundAt, IsLater, IsSome, Row, first_tokens}
use Rattle.cal_ql_faults.proofs.Fores.{Ending, Failed, Fore, Gives, Taken, both_fore, err_is, failing, given, gives_as, one, one_fore, put, same_fore}
use Rattle.cal_ql_faults.proofs.Items.{item_rule}
use Rattle.cal_ql_faults.proofs.Rows.{Calm, Like, led_like, like_wrong, row_append, row_count, row_split}
use Rattle.cal_ql_faults.proofs.ReadTokens.{text_read}
use Rattle.cal_ql_faults.proofs.Fores.{all_append}
use Rattle.cal_ql.proofs.Spelling.{Come, IsRead, text_comes}
use Rattle.cal_ql.proofs.GrammarClauses.{reading_means}
use Rattle.cal_ql.specs.Writing.{text_of}
use Rattle.cal_ql.specs.Names.{format_name, kernel_name}
use Rattle.cal_ql.specs.declared.names.KernelName.TheVariants as kernel
use Rattle.cal_ql.specs.declared.names.Format.TheVariants as formats
use Rattle.std.specs.List.{AllByRecursion}
use Rattle.cal_ql_faults.proofs.Rules.{Loose, agg_rule, any_name_rule, by_rule, cond_rule, done_rule, format_rule, let_rule, loosened, made_rule, name_token, order_key_rule, separated_rule, sign_look_rule}

-- ---- one clause

-- what a clause begins with
data Lead : Type 0 where
  lets : Lead
  select : Lead
  aggs : Lead
  conds : Lead
  group : Lead
  order : Lead
  format : Lead

module _ (clauses : Clauses) where
  -- what stands behind it
  abbrev behind : Lead → Tokens → Read Clauses
  behind lets ts = separated (λ number. let_at) ts >>= (λ r. put (record clauses { lets = Some r.0 }) r.1)
  behind select ts = selection_at ts >>= (λ r. put (record clauses { select = Some r.0 }) r.1)
  behind aggs ts = separated (λ number. agg_at) ts >>= (λ r. put (record clauses { aggs = Some r.0 }) r.1)
  behind conds ts = separated (λ number. cond_at) ts >>= (λ r. put (record clauses { conds = Some r.0 }) r.1)
  behind group ts = past_by ts >>= (λ by. separated any_name_at by >>= (λ r. put (record clauses { group = Some r.0 }) r.1))
  behind order ts = past_by ts >>= (λ by. separated (λ number. order_key_at) by >>= (λ r. put (record clauses { order = Some r.0 }) r.1))
  behind format ts = format_at ts >>= (λ r. put (record clauses { format = Some r.0 }) r.1)

  selection_rule : Loose selection_at name_token
  unfolding selection_at listed_at
  selection_rule =
      sign_look_rule (λ (rest : Tokens). put selected_all rest) (λ (ts : Tokens). separated (λ number. item_at) ts >>= (λ r. put (selection_of r.0) r.1)) (λ (x : Selection). true) false true name_token name_token
      (done_rule selected_all (λ (x : Selection). true) name_token)
      (made_rule (separated (λ number. item_at)) (λ (list : List Picked). selection_of list) true true name_token (separated_rule (λ number. item_at) (λ n. name_token) (λ n. item_rule)))
      (λ ts x rest e. inl refl) signed.Star (λ taken. refl) (λ (none : true ≡ false). absurd cc)

  -- what a clause may go on with, behind what it begins with
  abbrev lead_token : Lead → Token
  lead_token lets = name_token
  lead_token select = name_token
  lead_token aggs = word (kernel_name kernel.Sum)
  lead_token conds = name_token
  lead_token group = key keyword.By
  lead_token order = key keyword.By
  lead_token format = word (format_name formats.Expand)

  behind_rule : (lead : Lead) → Loose (behind lead) (lead_token lead)
  behind_rule lets =
      made_rule (separated (λ number. let_at)) (λ list. record clauses { lets = Some list }) true true name_token (separated_rule (λ number. let_at) (λ n. name_token) (λ n. loosened let_at true name_token let_rule))
  behind_rule select = made_rule selection_at (λ (selection : Selection). record clauses { select = Some selection }) true true name_token selection_rule
  behind_rule aggs =
      made_rule (separated (λ number. agg_at)) (λ list. record clauses { aggs = Some list }) true true (word (kernel_name kernel.Sum)) (separated_rule (λ number. agg_at) (λ n. word (kernel_name kernel.Sum)) (λ n. agg_rule))
  behind_rule conds = made_rule (separated (λ number. cond_at)) (λ list. record clauses { conds = Some list }) true true name_token (separated_rule (λ number. cond_at) (λ n. name_token) (λ n. cond_rule))
  behind_rule group =
      by_rule (λ (by : Tokens). separated any_name_at by >>= (λ r. put (record clauses { group = Some r.0 }) r.1)) (λ (x : Clauses). true) true name_token
      (made_rule (separated any_name_at) (λ list. record clauses { group = Some list }) true true name_token (separated_rule any_name_at (λ n. name_token) any_name_rule))
  behind_rule order =
      by_rule (λ (by : Tokens). separated (λ number. order_key_at) by >>= (λ r. put (record clauses { order = Some r.0 }) r.1)) (λ (x : Clauses). true) true name_token
      (made_rule (separated (λ number. order_key_at)) (λ list. record clauses { order = Some list }) true true name_token (separated_rule (λ number. order_key_at) (λ n. name_token) (λ n. order_key_rule)))
  behind_rule format =
      loosened (behind format) true (word (format_name formats.Expand)) (made_rule format_at (λ (f : Format). record clauses { format = Some f }) false true (word (format_name formats.Expand)) format_rule)

  abbrev lead_of : keywords.Keyword → Result Lead QueryKind
  lead_of keyword.Let = Ok lets
  lead_of keyword.Select = Ok select
  lead_of keyword.Aggregate = Ok aggs
  lead_of keyword.Where = Ok conds
  lead_of keyword.Group = Ok group
  lead_of keyword.Order = Ok order
  lead_of keyword.Format = Ok format
  lead_of _ = Err ExpectedClause

  abbrev clause_choice : Token → Result Lead QueryKind
  clause_choice (key k) = cond (has_clause clauses k) (Err DuplicateClause) (lead_of k)
  clause_choice (word text) = Err ExpectedClause
  clause_choice (quoted text) = Err ExpectedClause
  clause_choice (sign s) = Err ExpectedClause

  abbrev led : Tokens → Read Clauses
  led ts = one clause_choice ExpectedClause ts >>= (λ q. behind q.0 q.1)

  new_by : (place : ℕ) (rest : Tokens) (lead : Lead) (read : Read Clauses) (b : Bool) → read ≡ behind lead rest
      → cond b (Err (record { place = place; kind = DuplicateClause })) read
      ≡ (given clause_choice ExpectedClause place rest (cond b (Err DuplicateClause) (Ok lead)) >>= (λ q. behind q.0 q.1))
  new_by place rest lead read true is = refl
  new_by place rest lead read false is = is

  led_same : (ts : Tokens) → clause_at clauses ts ≡ led ts
  unfolding clause_at clause_behind first_of refused
  led_same (end place) = refl
  led_same (broken fault) = refl
  led_same (token place (word text) rest) = refl
  led_same (token place (quoted text) rest) = refl
  led_same (token place (sign s) rest) = refl
  led_same (token place (key keyword.Let) rest) = new_by place rest lets (behind lets rest) (is_some clauses.lets) refl
  led_same (token place (key keyword.Select) rest) = new_by place rest select (behind select rest) (is_some clauses.select) refl
  led_same (token place (key keyword.Aggregate) rest) = new_by place rest aggs (behind aggs rest) (is_some clauses.aggs) refl
  led_same (token place (key keyword.Where) rest) = new_by place rest conds (behind conds rest) (is_some clauses.conds) refl
  led_same (token place (key keyword.Group) rest) = new_by place rest group (behind group rest) (is_some clauses.group) refl
  led_same (token place (key keyword.Order) rest) = new_by place rest order (behind order rest) (is_some clauses.order) refl
  led_same (token place (key keyword.Format) rest) = new_by place rest format (behind format rest) (is_some clauses.format) refl
  led_same (token place (key keyword.By) rest) = refl
  led_same (token place (key keyword.As) rest) = refl
  led_same (token place (key keyword.Not) rest) = refl
  led_same (token place (key keyword.Asc) rest) = refl
  led_same (token place (key keyword.Desc) rest) = refl

  clause_fore : Fore (clause_at clauses) (λ (x : Clauses). true) true
  clause_fore =
      same_fore (clause_at clauses) led (λ (x : Clauses). true) true led_same
      (both_fore (one clause_choice ExpectedClause) behind (λ (x : Lead). false) (λ (x : Lead) (y : Clauses). true) (λ (x : Lead). true) lead_token (λ (y : Clauses). true)
      (λ x y needs. refl) (λ x y m rest read (none : true ≡ false) needs. refl) (λ x taken (no : false ≡ true). absurd cc)
      (λ x. (behind_rule x).sample) (one_fore clause_choice ExpectedClause) (λ x. (behind_rule x).fore))

-- ---- all clauses

-- all is read, or a fault is found later
abbrev EndsWell : Result Clauses Fault → Type 0
EndsWell (Ok clauses) = Unit {0}
EndsWell (Err fault) = IsLater fault.kind

record AllEnding (clauses : Clauses) (before : List Token) : Type 0 where
  more : List Token
  readable : AllByRecursion IsRead more
  gives : (most : ℕ) (other rest : Tokens) → count other ≤ most → Row (before ++ more) other rest → is_end rest ≡ true → EndsWell (clauses_within most clauses other)

record AllFailed (clauses : Clauses) (ts : Tokens) (fault : Fault) : Type 0 where
  before : List Token
  here : Tokens
  row : Row before ts here
  is : fault ≡ refused fault.kind here
  wrong : List Token
  rest : Tokens
  there : Row wrong here rest
  short : (wrong ≡ first_tokens here) ⊎ (IsLater fault.kind × IsSome wrong)
  again : (most : ℕ) (other at left : Tokens) → count other ≤ most → Row before other at → Row wrong at left → IsSome wrong
      → clauses_within most clauses other ≡ Err (refused fault.kind at)
  goes : AllEnding clauses before

abbrev next_clauses : ℕ → Read Clauses → Result Clauses Fault
next_clauses most r = r >>= (λ next. clauses_within most next.0 next.1)

some_length : (a : List Token) → IsSome a → 1 ≤ length a
some_length [] some = absurd some
some_length (t ∷ a) some = omega arith

some_there : (a b : List Token) (x y z : Tokens) → IsSome b → Row a x y → Row b y z → 1 ≤ count x
some_there a b x y z some row more = omega (arith, some_length b some, row_count a x y row, row_count b y z more)

-- where there are tokens, a clause is read, with room for those behind it
record Steps (most : ℕ) (clauses : Clauses) (ts : Tokens) : Type 0 where
  left : ℕ
  one : most ≡ suc left
  reads : clauses_within most clauses ts ≡ next_clauses left (clause_at clauses ts)

steps : (most : ℕ) (clauses : Clauses) (ts : Tokens) → 1 ≤ count ts → count ts ≤ most → Steps most clauses ts
steps most clauses (end place) some enough = absurd (omega arith)
steps most clauses (broken fault) some enough = absurd (omega arith)
steps zero clauses (token place t rest) some enough = absurd (omega arith)
steps (suc left) clauses (token place t rest) some enough = record { left = left; one = refl; reads = refl }

end_well : (most : ℕ) (clauses : Clauses) (ts : Tokens) → is_end ts ≡ true → EndsWell (clauses_within most clauses ts)
end_well most clauses (end place) is = tt
end_well most clauses (broken fault) is = absurd cc
end_well most clauses (token place t rest) is = absurd cc

end_calm : (ts : Tokens) → is_end ts ≡ true → Calm ts
unfolding first_of
end_calm (end place) is = inl refl
end_calm (broken fault) is = absurd cc
end_calm (token place t rest) is = absurd cc

later_well : (left : ℕ) (r : Read Clauses) (rest : Tokens) → Gives None r rest → EndsWell (next_clauses left r)
later_well left (Ok q) rest later = absurd later
later_well left (Err fault) rest later = later

-- nothing more is needed where a clause may begin
nothing_more : (clauses : Clauses) → AllEnding clauses []
nothing_more clauses = record {
  more = [];
  readable = tt;
  gives = λ most other rest enough row is. end_well most clauses other (ap is_end row ∙ is);
}

some_count : (t : Token) (a : List Token) (x y : Tokens) → Row (t ∷ a) x y → 1 ≤ count x
some_count t a x y row = omega (arith, first_count x row.0 t row.1)

clause_goes : (clauses : Clauses) (t : Token) (b : List Token) (e : Ending (clause_at clauses) (λ (x : Clauses). true) (t ∷ b)) (o : Option Clauses) → e.result ≡ o → AllEnding clauses (t ∷ b)
clause_goes clauses t b e (Some next) is = record {
  more = e.more;
  readable = e.readable;
  gives = λ most other rest enough row ended. (
      let one : clause_at clauses other ≡ Ok (next, rest) = gives_as (clause_at clauses) (λ (x : Clauses). true) (t ∷ b) e (Some next) is other rest row (λ ahead. end_calm rest ended) in
      let s = steps most clauses other (some_count t (b ++ e.more) other rest row) enough in
      subst EndsWell (sym (s.reads ∙ ap (next_clauses s.left) one)) (end_well s.left next rest ended));
}
clause_goes clauses t b e None is = record {
  more = e.more;
  readable = e.readable;
  gives = λ most other rest enough row ended. (
      let one : Gives None (clause_at clauses other) rest = gives_as (clause_at clauses) (λ (x : Clauses). true) (t ∷ b) e None is other rest row (λ (no : ⊥). absurd no) in
      let s = steps most clauses other (some_count t (b ++ e.more) other rest row) enough in
      subst EndsWell (sym s.reads) (later_well s.left (clause_at clauses other) rest one));
}

here_goes : (clauses : Clauses) (b : List Token) → (IsSome b → Ending (clause_at clauses) (λ (x : Clauses). true) b) → AllEnding clauses b
here_goes clauses [] goes = nothing_more clauses
here_goes clauses (t ∷ b) goes = (let e = goes tt in clause_goes clauses t b e e.result refl)

-- clauses behind one that was read go on
behind_goes : (clauses next : Clauses) (ts mid here : Tokens) (a : Taken (clause_at clauses) (λ (x : Clauses). true) true ts next mid) (b : List Token) → Row b mid here
    → (e : AllEnding next b) → ((at rest : Tokens) → Row (b ++ e.more) at rest → is_end rest ≡ true → Like mid at ⊎ Calm at) → AllEnding clauses (a.before ++ b)
behind_goes clauses next ts mid here a b row e alike = record {
  more = e.more;
  readable = e.readable;
  gives = λ most other rest enough whole ended. (
      let all : Row (a.before ++ (b ++ e.more)) other rest = subst (λ (l : List Token). Row l other rest) (append_assoc a.before b e.more) whole in
      let s = row_split a.before (b ++ e.more) other rest all in
      let one = a.again other s.0 s.1 (λ needs. alike s.0 rest s.2 ended) in
      let some = some_length a.before (a.takes refl) in
      let counted = row_count a.before other s.0 s.1 in
      let goes = steps most clauses other (omega (arith, some, counted)) enough in
      subst EndsWell (sym (goes.reads ∙ ap (next_clauses goes.left) one))
      (e.gives goes.left s.0 rest (omega (arith, some, counted, enough, goes.one)) s.2 ended));
}

behind_by : (clauses next : Clauses) (ts mid here : Tokens) (a : Taken (clause_at clauses) (λ (x : Clauses). true) true ts next mid) (b : List Token) → Row b mid here
    → AllEnding next b → AllEnding clauses (a.before ++ b)
unfolding nothing_more
behind_by clauses next ts mid here a [] row e =
    behind_goes clauses next ts mid here a [] row (nothing_more next) (λ at rest same ended. inr (end_calm at (ap is_end same ∙ ended)))
behind_by clauses next ts mid here a (t ∷ b) row e =
    behind_goes clauses next ts mid here a (t ∷ b) row e (λ at rest other ended. inl (led_like t b (b ++ e.more) mid here at rest row other))

failed_here : (clauses : Clauses) (ts : Tokens) (fault : Fault) → Failed (clause_at clauses) (λ (x : Clauses). true) true ts fault → AllFailed clauses ts fault
failed_here clauses ts fault a = record {
  before = a.before;
  here = a.here;
  row = a.behind;
  is = a.is;
  wrong = a.wrong;
  rest = a.rest;
  there = a.there;
  short = a.short;
  again = λ most other at left enough row wrong filled. (
      let s = steps most clauses other (some_there a.before a.wrong other at left filled row wrong) enough in
      s.reads ∙ ap (next_clauses s.left) (a.again other at left row wrong filled));
  goes = here_goes clauses a.before a.goes;
}

failed_behind : (clauses next : Clauses) (ts mid : Tokens) (fault : Fault) → Taken (clause_at clauses) (λ (x : Clauses). true) true ts next mid → AllFailed next mid fault → AllFailed clauses ts fault
failed_behind clauses next ts mid fault a c = record {
  before = a.before ++ c.before;
  here = c.here;
  row = row_append a.before c.before ts mid c.here a.behind c.row;
  is = c.is;
  wrong = c.wrong;
  rest = c.rest;
  there = c.there;
  short = c.short;
  again = λ most other at left enough row wrong filled. (
      let s = row_split a.before c.before other at row in
      let one = a.again other s.0 s.1 (λ needs. inl (like_wrong c.before c.wrong mid c.here c.rest s.0 at left filled c.row c.there s.2 wrong)) in
      let some = some_length a.before (a.takes refl) in
      let counted = row_count a.before other s.0 s.1 in
      let goes = steps most clauses other (omega (arith, some, counted)) enough in
      goes.reads ∙ ap (next_clauses goes.left) one
      ∙ c.again goes.left s.0 at left (omega (arith, some, counted, enough, goes.one)) s.2 wrong filled);
  goes = behind_by clauses next ts mid c.here a c.before c.row c.goes;
}

module _ (most : ℕ) (clauses : Clauses) (ts : Tokens) (fault : Fault)
    (others : (next : Clauses) (mid : Tokens) → count mid ≤ most → clauses_within most next mid ≡ Err fault → AllFailed next mid fault) where
  failed_by : (r : Read Clauses) → count ts ≤ suc most → clause_at clauses ts ≡ r → next_clauses most r ≡ Err fault → AllFailed clauses ts fault
  failed_by (Err d) enough is e = failed_here clauses ts fault ((clause_fore clauses).err ts fault (is ∙ ap failing (err_is d fault e)))
  failed_by (Ok next) enough is e =
      let a = (clause_fore clauses).ok ts next.0 next.1 is in
      let some = some_length a.before (a.takes refl) in
      failed_behind clauses next.0 ts next.1 fault a
      (others next.0 next.1 (omega (arith, some, enough, row_count a.before ts next.1 a.behind)) e)

-- a fault where no token begins
lexical : (clauses : Clauses) (found fault : Fault) → found ≡ fault → AllFailed clauses (broken found) fault
unfolding first_of refused
lexical clauses found fault same = record {
  before = [];
  here = broken found;
  row = refl;
  is = sym same;
  wrong = [];
  rest = broken found;
  there = refl;
  short = inl refl;
  again = λ most other at left enough row wrong filled. absurd filled;
  goes = nothing_more clauses;
}

within_failed : (most : ℕ) (clauses : Clauses) (ts : Tokens) (fault : Fault) → count ts ≤ most → clauses_within most clauses ts ≡ Err fault → AllFailed clauses ts fault
unfolding refused
within_failed most clauses (end place) fault enough e = absurd cc
within_failed zero clauses (broken found) fault enough e = lexical clauses found fault (err_is found fault e)
within_failed zero clauses (token place t rest) fault enough e = absurd (omega arith)
within_failed (suc most) clauses (broken found) fault enough e =
    failed_by most clauses (broken found) fault (λ next mid few read. within_failed most next mid fault few read) (clause_at clauses (broken found)) enough refl e
within_failed (suc most) clauses (token place t rest) fault enough e =
    failed_by most clauses (token place t rest) fault (λ next mid few read. within_failed most next mid fault few read) (clause_at clauses (token place t rest)) enough refl e

-- ---- the whole text

abbrev query_read : Result Clauses Fault → Result Query Fault
query_read r = r >>= (λ clauses. Ok (query_of clauses))

all_failed : (fault : Fault) (r : Result Clauses Fault) → query_read r ≡ Err fault → r ≡ Err fault
all_failed fault (Err d) e = ap failing (err_is d fault e)
all_failed fault (Ok clauses) e = absurd cc

row_of : (ts : List Token) (from to : Tokens) → Come ts from to → Row ts from to
row_of [] from to come = come
row_of (t ∷ ts) from to (next, the, come) = (next, the, row_of ts next to come)

says_by : (text : List ℕ) (r : Result Clauses Fault) → reading text ≡ query_read r → EndsWell r
    → ((query : Query) × Means text query) ⊎ ((fault : Fault) × HasFault text fault × IsLater fault.kind)
says_by text (Ok clauses) is well = inl (query_of clauses, reading_means text (query_of clauses) is)
says_by text (Err fault) is well = inr (fault, is, well)

-- the text of tokens that go on well
begins : (before : List Token) → AllByRecursion IsRead before → AllEnding no_clauses before → BeginSome before
unfolding all_clauses
begins before readable e =
    let all : List Token = before ++ e.more in
    let text : List ℕ = text_of all in
    let last : Tokens = end (length text) in
    let row : Row all (tokens_of text) last = row_of all (tokens_of text) last (text_comes (length text) all (all_append before e.more readable e.readable)) in
    let s = row_split before e.more (tokens_of text) last row in
    record {
      text = text;
      rest = s.0;
      row = s.1;
      says = says_by text (clauses_within (count (tokens_of text)) no_clauses (tokens_of text)) refl
          (e.gives (count (tokens_of text)) (tokens_of text) last (omega arith) row refl);
    }

-- where the fault of a text is
pub found_at : (text : List ℕ) (fault : Fault) → HasFault text fault → IsFoundAt (tokens_of text) fault
unfolding all_clauses
found_at text fault has =
    let ts = tokens_of text in
    let a = within_failed (count ts) no_clauses ts fault (omega arith) (all_failed fault (all_clauses ts) has) in
    record {
      before = a.before;
      here = a.here;
      behind = a.row;
      front = begins a.before (text_read text a.before a.here a.row) a.goes;
      place = a.is;
      wrong = a.wrong;
      rest = a.rest;
      there = a.there;
      short = a.short;
      none = λ filled other rest query row means. (
          let these = tokens_of other in
          let s = row_split a.before a.wrong these rest row in
          let failed : clauses_within (count these) no_clauses these ≡ Err (refused fault.kind s.0) =
          a.again (count these) these s.0 rest (omega arith) s.1 s.2 filled in
          let both : Ok query ≡ Err (refused fault.kind s.0) = sym (means_reading other query means) ∙ ap query_read failed in
          cc);
    }
