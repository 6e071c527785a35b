-- What the words of a declaration tell a seat that has read them.
use Rattle.std.proofs.Common.{◌≡◌, ◌≢◌, ℕ, suc, ◌+◌, ◌*◌, ◌/◌, ◌%◌, ◌^◌, ◌<◌, List, ◌∷◌, length, get_or, sym, refl, ap, ◌∙◌, subst, inl, inr, ⊎_elim, arith}
use Rattle.std.specs.Prelude.{IfNone, IfSome, None, Option, Some}
use mathlib.Core.Logic.{dite}
use native.Mathlib.Decide.{ℕ_discrete}
use Rattle.std.proofs.lemmas.List.{ext_get_or}
use Rattle.cal_value.specs.Kinds.{kind_node}
use Rattle.cal_value.specs.declared.kind.Kind as kinds
use Rattle.cal_value.specs.declared.kind.Kind.TheVariants as kind
use Rattle.cal_words.specs.Back.{kind_from}
use Rattle.cal_words.specs.Homes.{words_hash}
use Rattle.cal_words.specs.Words.{text_words}
use Rattle.cal_once.specs.Layout.{size_in, start_in, probe}
use Rattle.cal_once.specs.Sound.{IsSound}
use Rattle.cal_once.specs.Views.{Saw, Begins, Holds, HoldsOther, KnowsMore}
use Rattle.cal_once.specs.declared.view.Plan.{Plan}
use Rattle.cal_once.specs.declared.view.View.{View}
use Rattle.cal_once.proofs.Learning.{holds_later}
use Rattle.cal_names.specs.Answers.{name_ask}
use Rattle.cal_names.specs.Declarations.{Declaration, IsDeclaration, IsName, name_hash, name_home, name_words}
use Rattle.cal_names.specs.Kept.{HasOtherName, IsKept, PassesOtherNames, name_law, name_place}
use Rattle.cal_names.specs.declared.record.NameSort.{NameSort}
use Rattle.cal_names.proofs.Differing.{equal_declarations, first_difference}

-- the home of a declaration is that of its name
pub home_of_name : (homes : ℕ) (d : Declaration) → IsDeclaration d → name_home homes (name_words d) ≡ name_hash d.name % homes
home_of_name homes d is =
    let short = is.text.short in
    let low : (kind_node d.kind * 2 ^ 32 + length d.name) % 2 ^ 32 ≡ length d.name = omega arith in
    ap (λ (n : ℕ). words_hash (n ∷ text_words d.name) % homes) low

-- the properties in the words of a declaration are in their range
pub small_props : (d : Declaration) → IsName (name_words d) → d.props < 2 ^ 32
small_props d is =
    let same : d.props ≡ is.declaration.props = ap (λ (ws : List ℕ). get_or ws 3 0) is.spelled in
    let small = is.is_declaration.props in omega arith

pub other_name_later : (v w : View NameSort) (name : List ℕ) (place : ℕ) → KnowsMore v w → HasOtherName v name place → HasOtherName w name place
other_name_later v w name place more h = record {
  slot = h.slot;
  known = more (place + 1) h.slot h.known;
  differs = ⊎_elim inl (λ t. inr (t.0, t.1, holds_later v w place (name_words t.0) more t.2, t.3)) h.differs;
}

module _ (plan : Plan NameSort) where
  -- the places that the rows go through are those of the name
  pub place_of_name : (d : Declaration) → IsDeclaration d → (e : ℕ) → name_place plan d.name e ≡ probe plan.shape (name_ask plan d).home e
  place_of_name d is e = ap (λ (home : ℕ). probe plan.shape home e) (sym (home_of_name plan.shape.homes d is))

  pub passes_later : (v w : View NameSort) (name : List ℕ) (n : ℕ) → KnowsMore v w → PassesOtherNames plan v name n → PassesOtherNames plan w name n
  passes_later v w name n more before e l = other_name_later v w name (name_place plan name e) more (before e l)

  pub kept_later : (v w : View NameSort) (d : Declaration) (place : ℕ) → KnowsMore v w → IsKept plan v d place → IsKept plan w d place
  kept_later v w d place more k = record {
    is_declaration = k.is_declaration;
    distance = k.distance;
    near = k.near;
    at = k.at;
    before = passes_later v w d.name k.distance more k.before;
    holds = holds_later v w place (name_words d) more k.holds;
  }

-- a declaration of another name is another record
pub other_of_name : (v : View NameSort) (d : Declaration) (place : ℕ) → IsDeclaration d → HasOtherName v d.name place → HoldsOther v place (name_words d)
other_of_name v d place is h = ⊎_elim
    (λ size. record { slot = h.slot; known = h.known; differs = inl (λ e. size (omega arith)) })
    (λ t. by_words t.0 t.1 t.2 t.3) h.differs
  where
    by_words : (o : Declaration) → IsDeclaration o → Holds v place (name_words o) → o.name ≢ d.name → HoldsOther v place (name_words d)
    by_words o is_o holds other =
        let apart : name_words o ≢ name_words d = λ e. other (ap (λ (x : Declaration). x.name) (equal_declarations o d is_o is e)) in
        dite (ℕ_discrete (length (name_words o)) (length (name_words d)))
        (λ long.
        let first = first_difference (name_words o) (name_words d) long apart in
        let size = holds.size in
        let inside = first.inside in
        record {
          slot = holds.slot;
          known = holds.known;
          differs = inr (
            first.place,
            record {
              size = size ∙ long;
              inside = subst (λ (n : ℕ). first.place < n) (sym size) inside;
              before = λ j l. subst (λ (x : ℕ). Saw v.seen (start_in holds.slot + j) x) (first.before j l) (holds.each j (omega arith));
              word = get_or (name_words o) first.place 0;
              here = holds.each first.place inside;
              differs = first.differs;
            },
          );
        })
        (λ long. record { slot = holds.slot; known = holds.known; differs = inl (λ e. long (sym holds.size ∙ e)) })

module _ (plan : Plan NameSort) (v : View NameSort) (sound : IsSound name_law plan v) where
  -- the words that were read of a place, all of them, are a declaration's
  pub whole_of : (place slot : ℕ) (front : List ℕ) → place < plan.shape.slots → Saw v.seen (place + 1) slot → size_in slot ≡ length front → Begins v place front → IsName front × Holds v place front
  whole_of place slot front h known size b =
      let same_slot : slot ≡ b.slot = sound.one_word (place + 1) slot b.slot known b.known in
      let size_b : size_in b.slot ≡ length front = ap size_in (sym same_slot) ∙ size in
      let there = sound.there place b.slot h b.known in
      let there_size = there.size in
      let same : front ≡ there.words = ext_get_or 0 front there.words (sym size_b ∙ there_size) (λ i l. sym (there.seen i (get_or front i 0) (subst (λ (n : ℕ). i < n) (sym size_b ∙ there_size) l) (b.each i l))) in
      (subst (λ (ws : List ℕ). IsName ws) (sym same) there.lawful.is_record, record { slot = b.slot; known = b.known; size = size_b; each = b.each })

  -- a place doesn't hold both a declaration of a name and one of another name
  pub not_other : (d : Declaration) (place : ℕ) → place < plan.shape.slots → IsDeclaration d → Holds v place (name_words d) → HasOtherName v d.name place → ⊥
  not_other d place h is holds other = ⊎_elim
      (λ size.
      let same : holds.slot ≡ other.slot = sound.one_word (place + 1) holds.slot other.slot holds.known other.known in
      let long = holds.size in
      size (ap size_in (sym same) ∙ long ∙ omega arith))
      (λ t. t.3 (ap (λ (x : Declaration). x.name) (equal_declarations t.0 d t.1 is (sound.one_record place (name_words t.0) (name_words d) h t.2 holds))))
      other.differs

-- a kind comes back from its node
kind_back : (k : kinds.Kind) → kind_from (kind_node k) ≡ k
kind_back kind.Usr = refl
kind_back kind.Int = refl
kind_back kind.Uint = refl
kind_back kind.Str = refl
kind_back kind.Addr = refl
kind_back kind.Double = refl
kind_back kind.Bool = refl
kind_back kind.TypeName = refl
kind_back kind.Ptr = refl

-- words of a declaration that have a name's length and words are one of this name
pub content_back : (words name : List ℕ) (k : kinds.Kind) → IsName words → length words ≡ 4 + length (text_words name) → get_or words 2 0 % 2 ^ 32 ≡ length name → ((i : ℕ) → i < length (text_words name) → get_or words (4 + i) 0 ≡ get_or (text_words name) i 0) → k ≡ kind_from (get_or words 2 0 / 2 ^ 32) → words ≡ name_words (record { name = name; kind = k; props = get_or words 3 0 })
content_back words name k is size low each kind_is =
    let d : Declaration = is.declaration in
    let short = is.is_declaration.text.short in
    let second : get_or words 2 0 ≡ kind_node d.kind * 2 ^ 32 + length d.name = ap (λ (ws : List ℕ). get_or ws 2 0) is.spelled in
    let third : get_or words 3 0 ≡ d.props = ap (λ (ws : List ℕ). get_or ws 3 0) is.spelled in
    let high : get_or words 2 0 / 2 ^ 32 ≡ kind_node d.kind = omega arith in
    let lengths : length d.name ≡ length name = omega arith in
    let same_kind : d.kind ≡ k = sym (kind_back d.kind) ∙ ap kind_from (sym high) ∙ sym kind_is in
    let long : length words ≡ 4 + length (text_words d.name) = ap (λ (ws : List ℕ). length ws) is.spelled ∙ (omega arith) in
    let texts : text_words d.name ≡ text_words name = ext_get_or 0 (text_words d.name) (text_words name) (omega arith) (λ i l.
    let at : suc (suc (suc (suc i))) ≡ 4 + i = omega arith in
    ap (λ (ws : List ℕ). get_or ws (suc (suc (suc (suc i)))) 0) (sym is.spelled) ∙ ap (λ (n : ℕ). get_or words n 0) at ∙ each i (omega arith)) in
    is.spelled ∙ (λ i. 0 ∷ 1 ∷ (kind_node (same_kind i) * 2 ^ 32 + lengths i) ∷ sym third i ∷ texts i)

-- what holds of an answer holds of it in other words
pub if_some : {A : Type 0} (o : Option A) (P Q : A → Type 0) → ((x : A) → P x → Q x) → IfSome o P → IfSome o Q
if_some None P Q f h = tt
if_some (Some x) P Q f h = f x h

pub if_none : {A : Type 0} (o : Option A) (P Q : Type 0) → (P → Q) → IfNone o P → IfNone o Q
if_none None P Q f h = f h
if_none (Some x) P Q f h = tt
