-- A walk from a node up to the root.
use Rattle.std.proofs.Common.{◌≡◌, ℕ, zero, suc, ◌+◌, ◌-◌, ◌<◌, ◌≤◌, List, get_or, [], ◌∷◌, ◌++◌, length, map, reverse, All, sym, refl, ap, ◌∙◌, subst, inl, inr, ⊎_elim, arith, length-append}
use Rattle.std.proofs.lemmas.List.{append_assoc, append-nil, reverse-reverse}
use Rattle.std.proofs.lemmas.Grind.{common_steps}
use Rattle.cal_value.specs.WellFormed.{IsEntry, IsPath}
use Rattle.cal_value.specs.declared.attribute.Attribute.{Attribute}
use Rattle.cal_value.specs.declared.attribute.Entry.{Entry}
use Rattle.cal_words.specs.declared.sort.NodeSort.{NodeSort}
use Rattle.cal_words.specs.Words.{node_words}
use Rattle.cal_once.specs.declared.view.View.{View}
use Rattle.cal_once.specs.declared.view.Plan.{Plan}
use Rattle.cal_once.specs.Views.{KnowsMore}
use Rattle.cal_once.specs.Sound.{IsSound}
use Rattle.cal_once.proofs.Seen.{was_seen_from}
use Rattle.cal_tree.specs.Paths.{NodeEntry, HasPath, IsChild, IsDepthOf, KnowsNode, Fits, entry_of, entries_of}
use Rattle.cal_tree.specs.Seats.{CanSpell, node_law, slots_of}
use Rattle.cal_tree.specs.declared.tree.Tree.{Tree}
use Rattle.cal_once.specs.declared.seat.RowSeat.{RowSeat}
use Rattle.cal_once.specs.Seats.{view}
use Rattle.cal_words.specs.declared.node.NodeId.{NodeId}
use Rattle.std.proofs.Math.Seq.{get_or-append_seam}
use Rattle.std.proofs.Math.ListN.{get_or-append}
use Rattle.std.proofs.lemmas.Bool.{cases_lt}
use Rattle.cal_tree.proofs.Ways.{last_split, leads_last, leads_later, one_parent, one_path}
use Rattle.cal_tree.proofs.Nodes.{depth_of_path}

-- The walk from a node has come to another one: the entries so far are those behind it, the last
-- one first.
pub record IsWalked (slots : ℕ) (v : View NodeSort) (attrs : List Attribute) (node at left : ℕ) (entries : List Entry) : Type 0 where
  pub above : List NodeEntry
  pub behind : List NodeEntry
  pub whole : HasPath slots v (above ++ behind) node
  pub here : HasPath slots v above at
  pub length_left : length above ≡ left
  pub walked : entries_of attrs behind ≡ reverse entries
  pub fits : All (Fits attrs) (above ++ behind)

-- the seat knows a node of which it knows the path
pub known_of_path : (slots : ℕ) (v : View NodeSort) (path : List NodeEntry) (node : ℕ) → HasPath slots v path node → KnowsNode slots v node
known_of_path slots v [] node l = inl l
known_of_path slots v (e ∷ es) node l =
    let s = last_split e es in
    let c = (leads_last slots v 0 0 s.0 s.1 node (subst (λ (p : List NodeEntry). HasPath slots v p node) s.2 l)).2 in
    inr (c.place, c.node_is, c.within, was_seen_from v.seen (c.place + 1) c.holds.slot c.holds.known)

-- a node with entries above it is below the root
pub below_root : (slots : ℕ) (v : View NodeSort) (path : List NodeEntry) (node : ℕ) → HasPath slots v path node → 0 < length path → 0 < node
below_root slots v [] node l some = absurd (omega arith)
below_root slots v (e ∷ es) node l some =
    let s = last_split e es in
    let c = (leads_last slots v 0 0 s.0 s.1 node (subst (λ (p : List NodeEntry). HasPath slots v p node) s.2 l)).2 in
    let is = c.node_is in omega arith

pub walk_later : (slots : ℕ) (v w : View NodeSort) (attrs : List Attribute) (node at left : ℕ) (entries : List Entry) → KnowsMore v w → IsWalked slots v attrs node at left entries → IsWalked slots w attrs node at left entries
walk_later slots v w attrs node at left entries more k = record {
  above = k.above;
  behind = k.behind;
  whole = leads_later slots v w 0 0 (k.above ++ k.behind) node more k.whole;
  here = leads_later slots v w 0 0 k.above at more k.here;
  length_left = k.length_left;
  walked = k.walked;
  fits = k.fits;
}

pub walk_begins : (plan : Plan NodeSort) (v : View NodeSort) (sound : IsSound node_law plan v) (attrs : List Attribute) (path : List NodeEntry) (node depth : ℕ) → HasPath plan.shape.slots v path node → IsDepthOf plan.shape.slots v node depth → All (Fits attrs) path → IsWalked plan.shape.slots v attrs node node depth []
walk_begins plan v sound attrs path node depth l is fits =
    let same : path ≡ path ++ [] = sym (append-nil path) in
    record {
      above = path;
      behind = [];
      whole = subst (λ (p : List NodeEntry). HasPath plan.shape.slots v p node) same l;
      here = l;
      length_left = sym (depth_of_path plan v sound path node depth is l);
      walked = refl;
      fits = subst (λ (p : List NodeEntry). All (Fits attrs) p) same fits;
    }

-- the element between two lists
fits_between : (attrs : List Attribute) (front : List NodeEntry) (e : NodeEntry) (back : List NodeEntry) → All (Fits attrs) (front ++ e ∷ back) → Fits attrs e
fits_between attrs [] e back all = all 0 e (omega arith)
fits_between attrs (x ∷ front) e back all = fits_between attrs front e back (λ k d l. all (suc k) d (omega arith))

reverse_more : (entry : Entry) (entries : List Entry) → entry ∷ reverse entries ≡ reverse (entries ++ entry ∷ [])
reverse_more entry entries = grind (arith, common_steps)

-- the walk goes from a node to its parent
pub walk_goes : (plan : Plan NodeSort) (v : View NodeSort) (sound : IsSound node_law plan v) (attrs : List Attribute) (node at left : ℕ) (entries : List Entry) → IsWalked plan.shape.slots v attrs node at left entries → 0 < left
    → (parent depth : ℕ) (e : NodeEntry) → IsChild plan.shape.slots v parent depth e at
    → Fits attrs e × ((rest : ℕ) → rest + 1 ≡ left → IsWalked plan.shape.slots v attrs node parent rest (entries ++ entry_of attrs e ∷ []))
walk_goes plan v sound attrs node at left entries k some parent depth e c = go k.above refl
  where
    go : (above : List NodeEntry) → above ≡ k.above → Fits attrs e × ((rest : ℕ) → rest + 1 ≡ left → IsWalked plan.shape.slots v attrs node parent rest (entries ++ entry_of attrs e ∷ []))
    go [] is = let n = k.length_left in let z = ap (λ (l : List NodeEntry). length l) is in absurd (omega arith)
    go (x ∷ xs) is =
        let s = last_split x xs in
        let split : k.above ≡ s.0 ++ s.1 ∷ [] = sym is ∙ s.2 in
        let r = leads_last plan.shape.slots v 0 0 s.0 s.1 at (subst (λ (p : List NodeEntry). HasPath plan.shape.slots v p at) split k.here) in
        let same = one_parent plan v sound r.0 parent (0 + length s.0 + 1) depth s.1 e at r.2 c in
        let path : k.above ++ k.behind ≡ s.0 ++ e ∷ k.behind = (λ i. split i ++ k.behind) ∙ append_assoc s.0 (s.1 ∷ []) k.behind ∙ (λ i. s.0 ++ same.2 i ∷ k.behind) in
        let fits = subst (λ (p : List NodeEntry). All (Fits attrs) p) path k.fits in
        let n = k.length_left in
        let long = ap (λ (l : List NodeEntry). length l) split ∙ length-append s.0 (s.1 ∷ []) in (
          fits_between attrs s.0 e k.behind fits,
          λ rest one. record {
            above = s.0;
            behind = e ∷ k.behind;
            whole = subst (λ (p : List NodeEntry). HasPath plan.shape.slots v p node) path k.whole;
            here = subst (λ (m : ℕ). HasPath plan.shape.slots v s.0 m) same.0 r.1;
            length_left = omega arith;
            walked = (λ i. entry_of attrs e ∷ k.walked i) ∙ reverse_more (entry_of attrs e) entries;
            fits = fits;
          },
        )

-- the walk has come to the root
pub walk_ends : (slots : ℕ) (v : View NodeSort) (attrs : List Attribute) (node at : ℕ) (entries : List Entry) → IsWalked slots v attrs node at 0 entries → (path : List NodeEntry) × HasPath slots v path node × (reverse entries ≡ entries_of attrs path) × All (Fits attrs) path
walk_ends slots v attrs node at entries k = go k.above refl
  where
    go : (above : List NodeEntry) → above ≡ k.above → (path : List NodeEntry) × HasPath slots v path node × (reverse entries ≡ entries_of attrs path) × All (Fits attrs) path
    go [] is = let path : k.above ++ k.behind ≡ k.behind = (λ i. sym is i ++ k.behind) in
        (k.behind, subst (λ (p : List NodeEntry). HasPath slots v p node) path k.whole, sym k.walked, subst (λ (p : List NodeEntry). All (Fits attrs) p) path k.fits)
    go (x ∷ xs) is = let n = k.length_left in let z = ap (λ (l : List NodeEntry). length l) is in absurd (omega arith)

all_entries : (attrs : List Attribute) (path : List NodeEntry) → All (Fits attrs) path → All IsEntry (entries_of attrs path)
all_entries attrs [] all k d l = absurd (omega arith)
all_entries attrs (e ∷ es) all zero d l = (all 0 e (omega arith)).is_entry
all_entries attrs (e ∷ es) all (suc k) d l = all_entries attrs es (λ j x h. all (suc j) x (omega arith)) k d (omega arith)

pub path_of_fits : (attrs : List Attribute) (path : List NodeEntry) → 0 < length path → All (Fits attrs) path → IsPath (entries_of attrs path)
path_of_fits attrs [] some all = absurd (omega arith)
path_of_fits attrs (e ∷ es) some all = record { some = λ none. absurd cc; entries = all_entries attrs (e ∷ es) all }

pub some_path : (slots : ℕ) (v : View NodeSort) (path : List NodeEntry) (node : ℕ) → HasPath slots v path node → 0 < node → 0 < length path
some_path slots v [] node l below = absurd (omega (arith, l))
some_path slots v (e ∷ es) node l below = omega arith

-- a node can still be spelled when the seat has learned more
pub spell_later : (tree : Tree) (old new : RowSeat NodeSort) (attrs : List Attribute) (node : ℕ) → KnowsMore (view old) (view new) → CanSpell tree old attrs node → CanSpell tree new attrs node
spell_later tree old new attrs node more s = record { below = s.below; path = s.path; known = leads_later (slots_of tree) (view old) (view new) 0 0 s.path node more s.known; fits = s.fits }

-- the paths so far, and one more
pub paths_more : (plan : Plan NodeSort) (v w : View NodeSort) (sound : IsSound node_law plan w) (more : KnowsMore v w) (attrs : List Attribute) (refs : List NodeId) (n : ℕ) (paths : List (List Entry)) (entries : List Entry) → length paths ≡ n → n < length refs
    → ((k : ℕ) → k < n → (path : List NodeEntry) × HasPath plan.shape.slots v path (get_or refs k (record { 0 = 0 })).0)
    → ((k : ℕ) (path : List NodeEntry) → k < n → HasPath plan.shape.slots v path (get_or refs k (record { 0 = 0 })).0 → get_or paths k [] ≡ entries_of attrs path)
    → ((path : List NodeEntry) → HasPath plan.shape.slots w path (get_or refs n (record { 0 = 0 })).0 → entries ≡ entries_of attrs path)
    → (k : ℕ) (path : List NodeEntry) → k < n + 1 → HasPath plan.shape.slots w path (get_or refs k (record { 0 = 0 })).0 → get_or (paths ++ entries ∷ []) k [] ≡ entries_of attrs path
paths_more plan v w sound more attrs refs n paths entries long below known so_far this k path less l = ⊎_elim
    (λ (before : k < n).
    let p = known k before in
    let node : ℕ = (get_or refs k (record { 0 = 0 })).0 in
    let same = one_path plan w sound path p.0 node l (leads_later plan.shape.slots v w 0 0 p.0 node more p.1) in
    get_or-append paths (entries ∷ []) [] k (omega arith) ∙ so_far k p.0 before p.1 ∙ ap (entries_of attrs) (sym same))
    (λ (last : n ≤ k).
    let at : k ≡ n = omega arith in
    ap (λ (i : ℕ). get_or (paths ++ entries ∷ []) i []) (at ∙ sym long) ∙ get_or-append_seam paths entries [] [] ∙ this path (subst (λ (i : ℕ). HasPath plan.shape.slots w path (get_or refs i (record { 0 = 0 })).0) at l))
    (cases_lt k n)
