-- What a seat knows of its thread's declarations, one more at a time.
use Rattle.std.proofs.Common.{◌≡◌, ◌⊎◌, ℕ, zero, suc, ◌+◌, ◌<◌, ◌≤◌, List, [], ◌∷◌, ◌++◌}
use Rattle.std.proofs.Common.{length, take, get_or, sym, ap, subst, inl, inr, ⊎_elim, arith}
use mathlib.Core.Logic.{dite}
use native.Mathlib.Decide.{ℕ_discrete}
use Rattle.std.proofs.lemmas.Bool.{cases_lt}
use Rattle.std.proofs.lemmas.Bool.{ne_eqb}
use Rattle.std.proofs.lemmas.List.Sums.{sum_by-cons, sum_by_push}
use Rattle.std.proofs.lemmas.Option.{slice_get_within}
use Rattle.cal_declarations.specs.Layout.{record_words, thread_words}
use Rattle.cal_names.proofs.Reading.{kept_later}
use Rattle.cal_names.specs.Answers as names
use Rattle.cal_names.specs.Answers.{PublishesNothing, PublishesOne}
use Rattle.cal_names.specs.Declarations.{Declaration, name_words}
use Rattle.cal_names.specs.declared.declare.Declared.{Declared}
use Rattle.cal_names.specs.declared.declare.Declared.TheVariants.{Same, Different}
use Rattle.cal_names.specs.declared.record.NameSort.{NameSort}
use Rattle.cal_naming.proofs.Lists.{get-before, get-front, get-last, zip-left, zip-long, zip-more}
use Rattle.cal_naming.proofs.Lists.{zip-push}
use Rattle.cal_naming.specs.Told.{HasDeclared, IsOwn, IsTold, declaration_of, place_of}
use Rattle.cal_once.proofs.Learning.{holds_later}
use Rattle.cal_once.proofs.Seen.{times-append, was_seen_from}
use Rattle.cal_once.specs.Layout.{times}
use Rattle.cal_once.specs.Views.{Knows, KnowsMore}
use Rattle.cal_once.specs.declared.view.Plan.{Plan}
use Rattle.cal_once.specs.declared.view.View.{View}
use Rattle.cal_value.specs.declared.attribute.Attribute.{Attribute}

-- an answer tells the place of what is kept
pub told-place : (d kept : Declaration) (place : ℕ) (answer : Declared)
    → names.Says d kept place answer → place_of answer ≡ place
told-place d kept place (Same p) says = says.0
told-place d kept place (Different p k props) says = says.0

-- a place in a list of one is that one
only-one : (p place : ℕ) → 0 < times place (p ∷ []) → p ≡ place
only-one p place some = dite (ℕ_discrete p place) (λ e. e)
    (λ other. let no = ne_eqb p place other in absurd (grind (arith, some, no)))

-- a list with one place more
pub one-more : (ps : List ℕ) (p place : ℕ) → 0 < times place (ps ++ p ∷ [])
    → (0 < times place ps) ⊎ (p ≡ place)
one-more ps p place some = ⊎_elim inl
    (λ (none : times place ps ≤ 0).
    let sum = times-append place ps (p ∷ []) in
    inr (only-one p place (omega (arith, some, sum, none))))
    (cases_lt 0 (times place ps))

module _ (plan : Plan NameSort) where
  -- what a seat was told it is told later too
  pub told-later : (v w : View NameSort) (line : Attribute) (answer : Declared) → KnowsMore v w
      → IsTold plan v line answer → IsTold plan w line answer
  told-later v w line answer more t =
      (t.0, t.1, t.2, kept_later plan v w t.0 t.1 more t.3, t.4)

  -- a seat knows the place that it was told
  pub told-known : (v : View NameSort) (line : Attribute) (answer : Declared)
      → IsTold plan v line answer → Knows v (place_of answer)
  told-known v line answer t =
      subst (λ (p : ℕ). Knows v p)
      (sym (told-place (declaration_of line) t.0 t.1 answer t.4))
      (was_seen_from v.seen (t.1 + 1) t.3.holds.slot t.3.holds.known)

  -- before the first line
  pub declared-none : (v : View NameSort) → v.used ≡ 0 → v.published ≡ []
      → HasDeclared plan v [] []
  declared-none v used none = record {
    told = tt;
    used = omega (arith, used);
    own = λ place some.
        let no : times place v.published ≡ 0 = ap (times place) none in
        absurd (omega (arith, some, no));
  }

  module _ (v w : View NameSort) (lines : List Attribute) (answers : List Declared)
      (line : Attribute) (answer : Declared) (was : HasDeclared plan v lines answers)
      (more : KnowsMore v w) where
    long : length answers ≡ length lines
    long = zip-long (IsTold plan v) lines answers was.told

    -- what was published stays
    own-stays : (place : ℕ) → IsOwn v lines answers place
        → IsOwn w (lines ++ line ∷ []) (answers ++ answer ∷ []) place
    own-stays place own = record {
      at = own.at;
      line = own.line;
      line_is = get-front lines (line ∷ []) own.at own.line own.line_is;
      holds = holds_later v w place (name_words (declaration_of own.line)) more own.holds;
      before = λ i a less is.
          let inside = slice_get_within lines own.at own.line own.line_is in
          own.before i a less
          (get-before answers answer i a (omega (arith, less, inside, long)) is);
    }

    -- what is published now wasn't told before
    own-now : (one : PublishesOne plan (declaration_of line) v w)
        → IsOwn w (lines ++ line ∷ []) (answers ++ answer ∷ []) one.place
    own-now one = record {
      at = length lines;
      line = line;
      line_is = get-last lines line;
      holds = one.holds;
      before = λ i a less is same.
          let there = get-before answers answer i a (omega (arith, less, long)) is in
          let t = zip-left (IsTold plan v) lines answers i a was.told there in
          one.fresh.unknown
          (subst (λ (p : ℕ). Knows v p) same (told-known v t.0 a t.2));
    }

    words : length (name_words (declaration_of line)) ≡ record_words line
    words = omega arith

    pub declared-more : IsTold plan w line answer
        → PublishesNothing plan v w ⊎ PublishesOne plan (declaration_of line) v w
        → HasDeclared plan w (lines ++ line ∷ []) (answers ++ answer ∷ [])
    declared-more told (inl nothing) = record {
      told = zip-push (IsTold plan w) lines answers line answer
          (zip-more (IsTold plan v) (IsTold plan w) lines answers
          (λ l a t. told-later v w l a more t) was.told) told;
      used =
          let sum = sum_by_push record_words lines line in
          omega (arith, nothing.used, was.used, sum);
      own = λ place some. own-stays place
          (was.own place (subst (λ (ps : List ℕ). 0 < times place ps) nothing.published some));
    }
    declared-more told (inr one) = record {
      told = zip-push (IsTold plan w) lines answers line answer
          (zip-more (IsTold plan v) (IsTold plan w) lines answers
          (λ l a t. told-later v w l a more t) was.told) told;
      used =
          let sum = sum_by_push record_words lines line in
          omega (arith, one.used, was.used, sum, words);
      own = λ place some. ⊎_elim
          (λ (old : 0 < times place v.published). own-stays place (was.own place old))
          (λ (same : one.place ≡ place).
          subst (λ (p : ℕ). IsOwn w (lines ++ line ∷ []) (answers ++ answer ∷ []) p) same
          (own-now one))
          (one-more v.published one.place place
          (subst (λ (ps : List ℕ). 0 < times place ps) one.published some));
    }

-- the words of a line and of those before it
pub words-so-far : (lines : List Attribute) (i : ℕ) (d : Attribute) → i < length lines
    → thread_words (take i lines) + record_words (get_or lines i d) ≤ thread_words lines
words-so-far [] i d less = absurd (omega (arith, less))
words-so-far (x ∷ xs) zero d less = let all = sum_by-cons record_words x xs in omega (arith, all)
words-so-far (x ∷ xs) (suc i) d less =
    let rest = words-so-far xs i d (omega (arith, less)) in
    let all = sum_by-cons record_words x xs in
    let so_far = sum_by-cons record_words x (take i xs) in
    omega (arith, rest, all, so_far)
