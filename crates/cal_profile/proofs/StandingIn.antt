-- Records that stand for the parts of a list answer as the list does.
use Rattle.std.proofs.Common.{◌≡◌, ◌<◌, Bool, true, false, ◌||◌, List, [], ◌∷◌, ◌++◌, length}
use Rattle.std.proofs.Common.{filter, map, refl, sym, ap, subst, ◌∙◌, arith, Contains}
use Rattle.std.specs.Prelude.{if◌then◌else◌}
use Rattle.std.specs.List.{AllByRecursion, AllZip}
use Rattle.std.proofs.Math.Bool.{or-false}
use Rattle.std.proofs.lemmas.List.Elements.{filter-append}
use Rattle.cal_keys.specs.Groups.{group_of, is_group}
use Rattle.cal_parts.specs.Kernels.{contributed, contributions}
use Rattle.cal_engine.specs.Rows.{is_below, results}
use Rattle.cal_parts.proofs.Merging.{contributed-append}
use Rattle.cal_filter.specs.Conditions.{where_holds}
use Rattle.cal_profile.specs.Answers.{AnswerAlike, SameGroups}
use Rattle.cal_profile.specs.StandIns.{IsAddable, IsAlike, StandsFor, all_of, brought}
use Rattle.cal_profile.proofs.Bringing.{bringing, brought-append}
use Rattle.cal_profile.proofs.Lists.{all_weaker, filter_all, filter_none}
use Rattle.cal_profile.proofs.Seeing.{alike-from_kept, results_same, same_groups, seen, seen-append}
use Rattle.cal_ql.specs.declared.query.Agg.{Agg}
use Rattle.cal_ql.specs.declared.query.Query.{Query}
use Rattle.cal_value.specs.declared.record.Rec.{Rec}

module _ (q : Query) where
  abbrev AreStandIns : List Rec → List (List Rec) → Type 0
  AreStandIns rs parts = AllZip (StandsFor q) rs parts

  -- a test can't tell a record from those for which it stands
  abbrev IsBlind : (Rec → Bool) → Type 0
  IsBlind p = (r m : Rec) → IsAlike q r m → p m ≡ p r

  module _ (p : Rec → Bool) (blind : IsBlind p) where
    -- the parts whose records pass it
    sifted : List Rec → List (List Rec) → List (List Rec)
    sifted [] parts = []
    sifted (r ∷ rs) [] = []
    sifted (r ∷ rs) (members ∷ parts) =
        if p r then members ∷ sifted rs parts else sifted rs parts

    sifted-stand : (rs : List Rec) (parts : List (List Rec)) → AreStandIns rs parts
        → AreStandIns (filter p rs) (sifted rs parts)
    unfolding sifted
    sifted-stand [] [] h = tt
    sifted-stand [] (members ∷ parts) h = absurd h
    sifted-stand (r ∷ rs) [] h = absurd h
    sifted-stand (r ∷ rs) (members ∷ parts) h = by (p r) refl (sifted-stand rs parts h.1)
      where
        by : (b : Bool) → p r ≡ b → AreStandIns (filter p rs) (sifted rs parts)
            → AreStandIns (filter p (r ∷ rs)) (sifted (r ∷ rs) (members ∷ parts))
        by true e rest = rw e (h.0, rest)
        by false e rest = rw e rest

    answered : (r : Rec) (b : Bool) → p r ≡ b → (members : List Rec)
        → AllByRecursion (IsAlike q r) members → AllByRecursion (λ m. p m ≡ b) members
    answered r b is members all =
        all_weaker (IsAlike q r) (λ m. p m ≡ b) (λ m alike. blind r m alike ∙ is) members all

    sifted-all : (rs : List Rec) (parts : List (List Rec)) → AreStandIns rs parts
        → filter p (all_of parts) ≡ all_of (sifted rs parts)
    unfolding sifted
    sifted-all [] [] h = refl
    sifted-all [] (members ∷ parts) h = absurd h
    sifted-all (r ∷ rs) [] h = absurd h
    sifted-all (r ∷ rs) (members ∷ parts) h =
        filter-append p members (all_of parts) ∙ by (p r) refl (sifted-all rs parts h.1)
      where
        by : (b : Bool) → p r ≡ b → filter p (all_of parts) ≡ all_of (sifted rs parts)
            → filter p members ++ filter p (all_of parts)
            ≡ all_of (sifted (r ∷ rs) (members ∷ parts))
        by true e rest = rw e
            (λ i. filter_all p members (answered r true e members h.0.alike) i ++ rest i)
        by false e rest = rw e
            (λ i. filter_none p members (answered r false e members h.0.alike) i ++ rest i)

  -- ---- what they bring

  brought_all : (agg : Agg) → Contains q.aggs agg → (rs : List Rec) (parts : List (List Rec))
      → AreStandIns rs parts
      → brought agg.kernel (contributed agg rs)
      ≡ brought agg.kernel (contributed agg (all_of parts))
  brought_all agg there [] [] h = refl
  brought_all agg there [] (members ∷ parts) h = absurd h
  brought_all agg there (r ∷ rs) [] h = absurd h
  brought_all agg there (r ∷ rs) (members ∷ parts) h =
      brought-append agg.kernel (contributions agg.kernel agg.attr r) (contributed agg rs)
      ∙ (λ i. bringing agg.kernel ((h.0.brings agg there).same i)
      (brought_all agg there rs parts h.1 i))
      ∙ sym (brought-append agg.kernel (contributed agg members) (contributed agg (all_of parts)))
      ∙ ap (brought agg.kernel) (sym (contributed-append agg members (all_of parts)))

  brought_where : (agg : Agg) → Contains q.aggs agg → (p : Rec → Bool) → IsBlind p
      → (rs : List Rec) (parts : List (List Rec)) → AreStandIns rs parts
      → brought agg.kernel (contributed agg (filter p rs))
      ≡ brought agg.kernel (contributed agg (filter p (all_of parts)))
  brought_where agg there p blind rs parts h =
      brought_all agg there (filter p rs) (sifted p blind rs parts)
      (sifted-stand p blind rs parts h)
      ∙ ap (λ xs. brought agg.kernel (contributed agg xs)) (sym (sifted-all p blind rs parts h))

  same_results : IsAddable q → (group : Rec) (rs : List Rec) (parts : List (List Rec))
      → AreStandIns rs parts → results q rs group ≡ results q (all_of parts) group
  same_results addable group rs parts h = results_same q group rs (all_of parts)
      (λ agg there. record {
        own = brought_where agg there (λ r. is_group (group_of q.group r) group)
            (λ r m a. ap (λ g. is_group g group) a.group) rs parts h;
        all = brought_all agg there rs parts h;
        below = brought_where agg there (λ r. is_below group (group_of q.group r))
            (λ r m a. ap (is_below group) a.group) rs parts h;
      }) addable.added

  -- ---- the groups

  seen_alike : (group r m : Rec) (members : List Rec) → AllByRecursion (IsAlike q r) (m ∷ members)
      → seen q group (m ∷ members) ≡ is_group group (group_of q.group r)
  seen_alike group r m [] h =
      or-false (is_group group (group_of q.group m)) ∙ ap (is_group group) h.0.group
  seen_alike group r m (n ∷ members) h =
      (λ i. is_group group (h.0.group i) || seen_alike group r n members h.1 i)
      ∙ twice (is_group group (group_of q.group r))
    where
      twice : (b : Bool) → (b || b) ≡ b
      twice true = refl
      twice false = refl

  seen_all : (group : Rec) (rs : List Rec) (parts : List (List Rec)) → AreStandIns rs parts
      → seen q group rs ≡ seen q group (all_of parts)
  seen_all group [] [] h = refl
  seen_all group [] (members ∷ parts) h = absurd h
  seen_all group (r ∷ rs) [] h = absurd h
  seen_all group (r ∷ rs) ([] ∷ parts) h = absurd (omega (arith, h.0.some))
  seen_all group (r ∷ rs) ((m ∷ members) ∷ parts) h =
      (λ i. sym (seen_alike group r m members h.0.alike) i || seen_all group rs parts h.1 i)
      ∙ sym (seen-append q group (m ∷ members) (all_of parts))

  -- each kernel can be added up, where anything stands for anything
  pub stand_ins_answer : IsAddable q → (rs : List Rec) (parts : List (List Rec))
      → AreStandIns rs parts → AnswerAlike q rs (all_of parts)
  stand_ins_answer addable rs parts h =
      let blind : IsBlind (where_holds q.conds) = λ r m a. a.kept in
      let some = sifted (where_holds q.conds) blind rs parts in
      let stand = sifted-stand (where_holds q.conds) blind rs parts h in
      let left = filter (where_holds q.conds) rs in
      alike-from_kept q addable.plain rs (all_of parts)
      (subst (SameGroups q left) (sym (sifted-all (where_holds q.conds) blind rs parts h))
      (same_groups q left (all_of some)
      (λ group. seen_all group left some stand)
      (λ group. same_results addable group left some stand)))
