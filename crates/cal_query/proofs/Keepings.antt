-- Snapshots that are kept, and handed on.
use Rattle.std.proofs.Common.{◌≡◌, ◌<◌, List, [], ◌∷◌, ◌++◌, length, map, sym, ap, subst, ◌∙◌, arith}
use Rattle.std.specs.List.{All}
use Rattle.std.proofs.lemmas.List.{map-append}
use Rattle.std.proofs.lemmas.List.Elements.{All-append, All-push, All-tail}
use Rattle.cal_value.specs.declared.record.Rec.{Rec}
use Rattle.cal_context.specs.Snapshots.{IsBelowRoot, IsIn, entry_of, meaning}
use Rattle.cal_context.specs.Tree.{Tree, path_at}
use Rattle.cal_context.specs.declared.numbers.NodeNumber.{NodeNumber}
use Rattle.cal_context.specs.declared.snapshot.Immediate.{Immediate}
use Rattle.cal_context.specs.declared.snapshot.Snapshot.{Snapshot}
use Rattle.cal_query.specs.Joining.{with_entries}

-- a copy of a snapshot has its nodes and its immediates
pub record IsCopy (copy s : Snapshot) : Type 0 where
  pub nodes : copy.nodes.items ≡ s.nodes.items
  pub imms : copy.imms.items ≡ s.imms.items

copy_in : (t : Tree) (copy s : Snapshot) → IsCopy copy s → IsIn t s → IsIn t copy
copy_in t copy s is has = record {
  nodes = subst (λ (ns : List NodeNumber). All (IsBelowRoot t) ns) (sym is.nodes) has.nodes;
  imms = subst (λ (is : List Immediate). All (λ i. i.attribute.0 < length t.attributes) is)
      (sym is.imms) has.imms;
}

copy_means : (t : Tree) (copy s : Snapshot) → IsCopy copy s → meaning t copy ≡ meaning t s
copy_means t copy s is = λ j. record {
  paths = map (path_at t) (is.nodes j);
  imms = map (entry_of t) (is.imms j);
}

-- one snapshot more is kept
pub all_more : (t : Tree) (old new : List Snapshot) (copy s : Snapshot) → All (IsIn t) old
    → new ≡ old ++ copy ∷ [] → IsCopy copy s → IsIn t s → All (IsIn t) new
all_more t old new copy s all pushed is has =
    subst (All (IsIn t)) (sym pushed) (All-push (IsIn t) old copy all (copy_in t copy s is has))

pub means_more : (t : Tree) (old new : List Snapshot) (copy s : Snapshot) (rs : List Rec)
    → map (meaning t) old ≡ rs → new ≡ old ++ copy ∷ [] → IsCopy copy s
    → map (meaning t) new ≡ rs ++ meaning t s ∷ []
means_more t old new copy s rs mean pushed is =
    ap (map (meaning t)) pushed ∙ map-append (meaning t) old (copy ∷ [])
    ∙ (λ j. mean j ++ copy_means t copy s is j ∷ [])

-- a snapshot with the immediates of globals behind its own
module _ (t : Tree) (full s : Snapshot) (globals : List Immediate)
    (nodes : full.nodes.items ≡ s.nodes.items) (imms : full.imms.items ≡ s.imms.items ++ globals) where
  pub full_in : IsIn t s → All (λ i. i.attribute.0 < length t.attributes) globals → IsIn t full
  full_in has within = record {
    nodes = subst (λ (ns : List NodeNumber). All (IsBelowRoot t) ns) (sym nodes) has.nodes;
    imms = subst (λ (is : List Immediate). All (λ i. i.attribute.0 < length t.attributes) is)
        (sym imms)
        (All-append (λ i. i.attribute.0 < length t.attributes) s.imms.items globals has.imms
        within);
  }

  pub full_means : meaning t full ≡ with_entries (map (entry_of t) globals) (meaning t s)
  full_means = λ j. record {
    paths = map (path_at t) (nodes j);
    imms = (ap (map (entry_of t)) imms ∙ map-append (entry_of t) s.imms.items globals) j;
  }

pub all_first : {X : Type 0} (P : X → Type 0) (xs : List X) (x : X) (rest : List X)
    → xs ≡ x ∷ rest → All P xs → P x
all_first P xs x rest e all = subst (All P) e all 0 x (omega arith)

pub all_rest : {X : Type 0} (P : X → Type 0) (xs : List X) (x : X) (rest : List X)
    → xs ≡ x ∷ rest → All P xs → All P rest
all_rest P xs x rest e all = All-tail P x rest (subst (All P) e all)
