-- What a seeker is told of the attributes that it lacks.
use Rattle.std.proofs.Common.{◌≡◌, ℕ, ◌+◌, ◌-◌, ◌<◌, ◌≤◌, ◌⊎◌, inl, inr, Bool, false, List, [], ◌∷◌, ◌++◌}
use Rattle.std.proofs.Common.{length, map, drop, get_or, slice_get, Option, None, Some, refl, sym, ◌∙◌, ap, arith}
use Rattle.std.specs.Ordering.{eq_by_cmp}
use Rattle.std.proofs.lemmas.Bool.{cases_lt}
use Rattle.std.proofs.lemmas.List.{get_or-append_right, get_or-drop, get_or-map, get_or_append_left}
use Rattle.std.proofs.lemmas.List.{length-append, length-drop, length-map}
use Rattle.cal_context.specs.Tree.{Tree, attribute_at}
use Rattle.cal_context.specs.declared.numbers.AttributeNumber.{AttributeNumber}
use Rattle.cal_value.specs.Texts.{text_cmp}
use Rattle.cal_filter.specs.Known.{IsKnownAttribute, Knows, KnowsAttributes}
use Rattle.cal_filter.specs.Latest.{KnowsAllNames, number_at}
use Rattle.cal_filter.specs.Memo.{is_of}
use Rattle.cal_filter.specs.declared.latest.Latest.{Latest}
use Rattle.cal_filter.specs.declared.seeker.Seeker.{Seeker}
use Rattle.cal_filter.proofs.LatestLemmas.{numbered-same, unnumbered-other}

module _ (t : Tree) (l : Latest) (names : KnowsAllNames t l) (n : ℕ) (s : Seeker)
    (at : slice_get l.names.keys n ≡ Some s.name) where
  abbrev truth : List Bool
  truth = map (is_of n) l.named

  -- whether an attribute's number is the name's
  is_name : (a : AttributeNumber) → a.0 < length t.attributes
      → is_of n (number_at l a) ≡ eq_by_cmp text_cmp (attribute_at t a).name s.name
  is_name a inside = by (number_at l a) refl
    where
      by : (o : Option ℕ) → number_at l a ≡ o
          → is_of n (number_at l a) ≡ eq_by_cmp text_cmp (attribute_at t a).name s.name
      by None e = ap (is_of n) e ∙ sym (unnumbered-other t l names a inside n s.name at e)
      by (Some m) e = ap (is_of n) e ∙ numbered-same t l names a inside n s.name at m e

  module _ (named : List Bool) (told : named ≡ s.named ++ drop (length s.named) truth) where
    abbrev new : Seeker
    new = record { name = s.name; wanted = s.wanted; named = named; nearest = s.nearest }

    long : length named ≡ length s.named + (length l.named - length s.named)
    long = ap length told ∙ length-append s.named (drop (length s.named) truth)
        ∙ ap (λ m. length s.named + m) (length-drop (length s.named) truth
        ∙ ap (λ m. m - length s.named) (length-map l.named (is_of n)))

    -- what is known stays, and what is told is right
    pub told_attributes : Knows t s → KnowsAttributes t new
    told_attributes h = record {
      knows = record {
        attributes = λ a short. by a short (cases_lt a.0 (length s.named));
        nodes = h.nodes;
      };
      attributes = (let all = names.attributes in omega (arith, all, long));
    }
      where
        by : (a : AttributeNumber) → a.0 < length named
            → (a.0 < length s.named) ⊎ (length s.named ≤ a.0) → IsKnownAttribute t new a
        by a short (inl less) =
            let known = h.attributes a less in
            record {
              within = known.within;
              named = ap (λ xs. get_or xs a.0 false) told
                  ∙ get_or_append_left s.named (drop (length s.named) truth) false a.0 less
                  ∙ known.named;
            }
        by a short (inr late) =
            let less : a.0 < length l.named = omega (arith, short, long, late) in
            let within = (names.knows.attributes a less).within in
            let same : length s.named + (a.0 - length s.named) ≡ a.0 = omega (arith, late) in
            record {
              within = within;
              named = ap (λ xs. get_or xs a.0 false) told
                  ∙ get_or-append_right s.named (drop (length s.named) truth) (length s.named) a.0 false
                  refl late
                  ∙ get_or-drop (length s.named) truth (a.0 - length s.named) false
                  ∙ ap (λ k. get_or truth k false) same
                  ∙ get_or-map (is_of n) l.named a.0 None false less
                  ∙ is_name a within;
            }
