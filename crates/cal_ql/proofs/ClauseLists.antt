-- Reading the clauses one after another.
use Rattle.std.proofs.Common.{◌≡◌, ℕ, zero, suc, ◌-◌, ◌<◌, ◌≤◌, true, false, Result, Ok, Err, refl, sym, ap, ◌∙◌, arith}
use Rattle.cal_ql.specs.declared.clauses.Clauses.{Clauses}
use Rattle.cal_ql.specs.declared.end.QueryEnd.{QueryEnd}
use Rattle.cal_ql.specs.declared.end.QueryEnd.TheVariants as ends
use Rattle.cal_ql.specs.declared.kind.QueryKind.TheVariants.{ExpectedClause}
use Rattle.cal_ql.specs.declared.token.Keyword as keywords
use Rattle.cal_ql.specs.declared.token.Keyword.TheVariants as keyword
use Rattle.cal_ql.specs.Clauses.{all_clauses, clause_at, clause_behind, clauses_within, no_clauses}
use Rattle.cal_ql.specs.Reading.{Read, count, first_of, is_end, refused}
use Rattle.cal_ql.specs.Steps.{Fails}
use Rattle.cal_ql.specs.Tokens.{Fault, Token, Tokens, end, broken, token}

-- the clauses so far, and those that are left, are all
pub record Remains (clauses : Clauses) (ts : Tokens) (total : Result Clauses Fault) : Type 0 where
  pub most : ℕ
  pub enough : count ts ≤ most
  pub all : clauses_within most clauses ts ≡ total

pub Remains-all : (ts : Tokens) → Remains no_clauses ts (all_clauses ts)
unfolding all_clauses
Remains-all ts = record { most = count ts; enough = omega arith; all = refl }

within_token : (most : ℕ) (clauses : Clauses) (place : ℕ) (t : Token) (rest : Tokens) → count (token place t rest) ≤ most → (k : ℕ) × (most ≡ suc k)
within_token most clauses place t rest enough = (most - 1, omega (arith, enough))

broken_fails : (most : ℕ) (clauses : Clauses) (fault : Fault) → clauses_within most clauses (broken fault) ≡ Err fault
unfolding clause_at first_of refused
broken_fails zero clauses fault = refl
broken_fails (suc most) clauses fault = refl

abbrev failing : Fault → Result Clauses Fault
failing fault = Err fault

abbrev unread : Fault → Read Clauses
unread fault = Err fault

fault_is : (fault other : Fault) → unread fault ≡ unread other → fault ≡ other
fault_is fault other e = cc

clause_broken : (clauses : Clauses) (fault : Fault) → clause_at clauses (broken fault) ≡ Err fault
unfolding clause_at first_of refused
clause_broken clauses fault = refl

pub Remains-fails : (e : QueryEnd) (clauses : Clauses) (ts : Tokens) (total : Result Clauses Fault) → is_end ts ≡ false → Fails e (clause_at clauses ts) → Remains clauses ts total → Fails e total
Remains-fails ends.OutOfMemory clauses ts total more failed remains = tt
Remains-fails (ends.BadQuery place kind) clauses (end p) total more failed remains = absurd cc
Remains-fails (ends.BadQuery place kind) clauses (broken fault) total more failed remains =
    sym remains.all ∙ broken_fails remains.most clauses fault ∙ ap failing (fault_is fault (record { place = place; kind = kind }) (sym (clause_broken clauses fault) ∙ failed))
Remains-fails (ends.BadQuery place kind) clauses (token p t rest) total more failed remains =
    let one = within_token remains.most clauses p t rest remains.enough in
    sym remains.all ∙ rw (one.1, failed) refl

-- a keyword that begins no clause
pub no_clause : (clauses : Clauses) (here ts : Tokens) (k : keywords.Keyword) → (k ≡ keyword.Let → ⊥) → (k ≡ keyword.Select → ⊥) → (k ≡ keyword.Aggregate → ⊥) → (k ≡ keyword.Where → ⊥) → (k ≡ keyword.Group → ⊥) → (k ≡ keyword.Order → ⊥) → (k ≡ keyword.Format → ⊥)
    → clause_behind clauses here k ts ≡ Err (refused ExpectedClause here)
unfolding clause_behind
no_clause clauses here ts keyword.Let a b c d e f g = absurd (a refl)
no_clause clauses here ts keyword.Select a b c d e f g = absurd (b refl)
no_clause clauses here ts keyword.Aggregate a b c d e f g = absurd (c refl)
no_clause clauses here ts keyword.Where a b c d e f g = absurd (d refl)
no_clause clauses here ts keyword.Group a b c d e f g = absurd (e refl)
no_clause clauses here ts keyword.Order a b c d e f g = absurd (f refl)
no_clause clauses here ts keyword.Format a b c d e f g = absurd (g refl)
no_clause clauses here ts keyword.By a b c d e f g = refl
no_clause clauses here ts keyword.As a b c d e f g = refl
no_clause clauses here ts keyword.Not a b c d e f g = refl
no_clause clauses here ts keyword.Asc a b c d e f g = refl
no_clause clauses here ts keyword.Desc a b c d e f g = refl
