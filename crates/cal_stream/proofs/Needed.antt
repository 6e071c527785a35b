-- The lines of needed nodes are read as these nodes.
use Rattle.std.proofs.Common.{◌≡◌, ◌+◌, ◌≤◌, ◌^◌, ◌∙◌, ℕ, Bool, true, false, List, [], ◌∷◌, ◌++◌}
use Rattle.std.proofs.Common.{length, fold, refl, sym, ap, subst, arith, if◌then◌else◌}
use Rattle.std.specs.List.{list_any}
use Rattle.std.proofs.lemmas.List.{append-nil, length-append, length_push}
use Rattle.std.proofs.lemmas.List.Sums.{fold-append}
use Rattle.cal_context.specs.Lists.{IsFront}
use Rattle.cal_value.specs.declared.attribute.Entry.{Entry}
use Rattle.cal_write.specs.CanonicalText.{lines_of_new, line_of_node}
use Rattle.cal_write.specs.Nodes.{Node, same_node}
use Rattle.cal_write.specs.Nodes.{needed_by_attribute, with_node}
use Rattle.cal_write.specs.Places.{HasAll, IsThere}
use Rattle.cal_write.proofs.AfterLemmas.{lines_of_new-append}
use Rattle.cal_write.proofs.PlaceLemmas.{fold-front}
use Rattle.cal_read.specs.Nodes.{Named}
use Rattle.cal_read.specs.Stream.{Stream}
use Rattle.cal_stream.proofs.Knows.{Knows, pushed, with_named, knows-more}
use Rattle.cal_stream.proofs.NewNodes.{CanRead, reads-new}
use Rattle.cal_stream.proofs.Steps.{Reads, reads-more, reads-nothing}

-- the lines of needed nodes are read, and the reader knows these nodes then
pub record ReadsNeeded (ns : List Node) (s : Stream) (needed : List Node) : Type 0 where
  pub nodes : List Named
  pub reads : Reads s (lines_of_new ns needed) (record s { nodes = nodes })
  pub knows : Knows (fold with_node ns needed) nodes

-- 64 bits hold the ids of the nodes, once these were needed
abbrev pub HasRoom : List Node → List Node → Type 0
HasRoom ns needed = length (fold with_node ns needed) ≤ 2 ^ 64

pub length-front : (old new : List Node) → IsFront old new → length old ≤ length new
length-front old new g = let longer = ap length g.1 ∙ length-append old g.0 in omega arith

pub room-left : (ns xs ys : List Node) → HasRoom ns (xs ++ ys) → HasRoom ns xs
room-left ns xs ys room =
    let same = ap length (fold-append with_node ns xs ys) in
    let less = length-front (fold with_node ns xs) (fold with_node (fold with_node ns xs) ys)
    (fold-front (fold with_node ns xs) ys) in
    omega arith

pub room-right : (ns xs ys : List Node) → HasRoom ns (xs ++ ys) → HasRoom (fold with_node ns xs) ys
room-right ns xs ys room = subst (λ (all : List Node). length all ≤ 2 ^ 64)
    (fold-append with_node ns xs ys) room

-- ---- none, one list after another, and one node

pub needed-none : (ns : List Node) (s : Stream) → Knows ns s.nodes → ReadsNeeded ns s []
needed-none ns s k = record { nodes = s.nodes; reads = reads-nothing s; knows = k }

pub needed-append : (ns : List Node) (s : Stream) (xs ys : List Node)
    → (first : ReadsNeeded ns s xs)
    → ReadsNeeded (fold with_node ns xs) (record s { nodes = first.nodes }) ys
    → ReadsNeeded ns s (xs ++ ys)
needed-append ns s xs ys first next = record {
  nodes = next.nodes;
  reads = subst (λ (l : List ℕ). Reads s l (record s { nodes = next.nodes }))
      (sym (lines_of_new-append ns xs ys))
      (reads-more s (record s { nodes = first.nodes }) (record s { nodes = next.nodes })
      (lines_of_new ns xs) (lines_of_new (fold with_node ns xs) ys) first.reads next.reads);
  knows = subst (λ (l : List Node). Knows l next.nodes)
      (sym (fold-append with_node ns xs ys)) next.knows;
}

pub needed-one : (ns : List Node) (s : Stream) (up : Node) (e : Entry) → Knows ns s.nodes
    → CanRead up e → IsThere ns up → HasAll ns (needed_by_attribute e.attr)
    → HasRoom ns ((up ++ e ∷ []) ∷ []) → ReadsNeeded ns s ((up ++ e ∷ []) ∷ [])
needed-one ns s up e k can there needed room = by (list_any (same_node (up ++ e ∷ [])) ns) refl
  where
    line : Bool → List ℕ
    line b = if b then [] else line_of_node (pushed ns up e) (up ++ e ∷ [])

    nodes : Bool → List Node
    nodes b = if b then ns else ns ++ (up ++ e ∷ []) ∷ []

    by : (b : Bool) → list_any (same_node (up ++ e ∷ [])) ns ≡ b
        → ReadsNeeded ns s ((up ++ e ∷ []) ∷ [])
    by true is = record {
      nodes = s.nodes;
      reads = subst (λ (b : Bool). Reads s (line b ++ []) s) (sym is) (reads-nothing s);
      knows = subst (λ (b : Bool). Knows (nodes b) s.nodes) (sym is) k;
    }
    by false is =
        let longer : length ns + 1 ≤ 2 ^ 64 = subst (λ (n : ℕ). n ≤ 2 ^ 64)
        (ap (λ (b : Bool). length (nodes b)) is ∙ length_push ns (up ++ e ∷ [])) room in
        let t : Stream = record s { nodes = with_named ns s.nodes up e } in
        record {
          nodes = with_named ns s.nodes up e;
          reads = subst (λ (b : Bool). Reads s (line b ++ []) t) (sym is)
              (subst (λ (l : List ℕ). Reads s l t) (sym (append-nil (line false)))
              (reads-new ns s up e k can there needed is (omega arith)));
          knows = subst (λ (b : Bool). Knows (nodes b) (with_named ns s.nodes up e)) (sym is)
              (knows-more ns s.nodes up e k there needed is);
        }
