-- Immediates behind others, one step after another.
use Rattle.std.proofs.Common.{◌≡◌, ℕ, ◌<◌, ◌≤◌, take, List, [], ◌∷◌, ◌++◌, length, ap, sym}
use Rattle.std.proofs.Common.{◌∙◌, refl, append_assoc, arith}
use Rattle.std.proofs.Math.Seq.{take-append_seam}
use Rattle.std.proofs.lemmas.List.{append-nil, length-append, map-append}
use Rattle.std.proofs.lemmas.List.Elements.{All-append, All-push}
use Rattle.cal_context.specs.Snapshots.{entry_of}
use Rattle.cal_context.specs.Tree.{Tree}
use Rattle.cal_context.specs.declared.snapshot.Immediate.{Immediate}
use Rattle.cal_value.specs.declared.attribute.Entry.{Entry}
use Rattle.cal_groups.specs.Appended.{Appends}

-- none
pub appends_none : (t : Tree) (imms : List Immediate) → Appends t imms imms []
appends_none t imms = record {
  more = [];
  new_is = sym (append-nil imms);
  means = record { within = λ k d l. absurd (omega arith); means = refl };
}

-- one
pub appends_one : (t : Tree) (old new : List Immediate) (i : Immediate) (e : Entry)
    → new ≡ old ++ i ∷ [] → i.attribute.0 < length t.attributes → entry_of t i ≡ e
    → Appends t old new (e ∷ [])
appends_one t old new i e is within means = record {
  more = i ∷ [];
  new_is = is;
  means = record {
    within = All-push (λ (x : Immediate). x.attribute.0 < length t.attributes) [] i
        (λ k d l. absurd (omega arith)) within;
    means = ap (λ x. x ∷ []) means;
  };
}

-- some, and then others
pub appends_then : (t : Tree) (a b c : List Immediate) (xs ys : List Entry) → Appends t a b xs
    → Appends t b c ys → Appends t a c (xs ++ ys)
appends_then t a b c xs ys h g = record {
  more = h.more ++ g.more;
  new_is = g.new_is ∙ ap (λ l. l ++ g.more) h.new_is ∙ append_assoc a h.more g.more;
  means = record {
    within = All-append (λ (x : Immediate). x.attribute.0 < length t.attributes)
        h.more g.more h.means.within g.means.within;
    means = map-append (entry_of t) h.more g.more
        ∙ (λ i. h.means.means i ++ g.means.means i);
  };
}

-- what they were put behind is still their front
pub front_is : (t : Tree) (old new : List Immediate) (xs : List Entry) (own : ℕ)
    (front : List Immediate) → Appends t old new xs → own ≡ length old → front ≡ take own new
    → front ≡ old
front_is t old new xs own front h long is =
    is ∙ (λ i. take (long i) (h.new_is i)) ∙ take-append_seam old h.more

pub front_within : (t : Tree) (old new : List Immediate) (xs : List Entry) → Appends t old new xs
    → length old ≤ length new
front_within t old new xs h =
    let long = ap length h.new_is ∙ length-append old h.more in omega arith
