-- A step whose refusal is passed on.
use Rattle.std.proofs.Common.{◌≡◌, sym, ap, ◌∙◌, subst}
use Rattle.std.specs.Prelude.{Result, Ok, Err, IsErr, OnOk, false}
use Rattle.std.specs.Result.{IsErrAnd, is_err}
use Rattle.std.proofs.lemmas.Result.{err_from_is_err_and}
use Rattle.cal_read.specs.Steps.{Answers, AnswersFor}
use Rattle.cal_read.specs.declared.end.LineEnd as ends
use Rattle.cal_read.specs.declared.end.LineEnd.TheVariants as end
use Rattle.cal_read.specs.declared.kind.StreamKind.{StreamKind}

-- the same refusal of two steps
pub same_refusal : {A B C D : Type 0} (P : A → B → Type 0) (Q : C → D → Type 0) (e : ends.LineEnd) (one : Result B StreamKind) (other : Result D StreamKind)
    → ((k : StreamKind) → one ≡ Err k → other ≡ Err k) → AnswersFor {A = A} P (Err e) one → AnswersFor {A = C} Q (Err e) other
same_refusal P Q (end.Bad k) one other falls is = falls k is
same_refusal P Q end.OutOfMemory one other falls is = tt

passed : {C : Type 0} (e : ends.LineEnd) (r : Result C ends.LineEnd) → IsErr r × IsErrAnd r (λ y. y ≡ e) → r ≡ Err e
passed e r h = let p = err_from_is_err_and r h.1 in p.1 ∙ ap Err p.2

pub refusal_passes : {A B C D : Type 0} (P : A → B → Type 0) (Q : C → D → Type 0) (e : ends.LineEnd) (one : Result B StreamKind) (other : Result D StreamKind)
    → ((k : StreamKind) → one ≡ Err k → other ≡ Err k) → AnswersFor {A = A} P (Err e) one
    → (r : Result C ends.LineEnd) → IsErr r × IsErrAnd r (λ y. y ≡ e) → AnswersFor {A = C} Q r other
refusal_passes {C = C} P Q e one other falls is r h = subst (λ x. AnswersFor Q x other) (sym (passed e r h)) (same_refusal {C = C} P Q e one other falls is)

-- a refusal of this kind
pub bad_refusal : {A B : Type 0} (P : A → B → Type 0) (e : ends.LineEnd) (k : StreamKind) (given : Result B StreamKind) → e ≡ end.Bad k → AnswersFor {A = A} P (Err e) given → given ≡ Err k
bad_refusal {A} P e k given is h = subst (λ x. AnswersFor {A = A} P (Err x) given) is h

-- what holds of an answer that is no refusal
pub of_ok : {A E P : Type 0} (r : Result A E) → OnOk r P → false ≡ is_err r → P
of_ok (Ok x) h e = h
of_ok (Err y) h e = cc
