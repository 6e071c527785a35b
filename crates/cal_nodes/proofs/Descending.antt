-- The way down, step by step.
use Rattle.std.proofs.Common.{◌≡◌, ◌≢◌, ℕ, zero, suc, ◌<◌, ◌≤◌, ◌++◌, List, [], ◌∷◌, length, get_or}
use Rattle.std.proofs.Common.{Option, Some, None, Result, Ok, Err, IfOk, refl, sym, ap, ◌∙◌, subst}
use Rattle.std.proofs.Common.{inr, ⊎_elim, arith, length-append}
use Rattle.std.specs.Prelude.{slice_set}
use Rattle.std.specs.List.{All}
use mathlib.Core.Logic.{dite}
use native.Mathlib.Decide.{ℕ_discrete}
use Rattle.std.proofs.lemmas.Bool.{cases_lt}
use Rattle.std.proofs.Math.ListN.{get_or-append}
use Rattle.std.proofs.Math.Seq.{get_or-append_seam}
use Rattle.std.proofs.lemmas.List.{get_or-set_other, get_or-set_same, length-set}
use Rattle.cal_board.proofs.ContextLemmas.{child_stands}
use Rattle.cal_board.specs.ContextGrowth.{NodeStands-Grows}
use Rattle.cal_board.specs.Contexts.{NodeStands}
use Rattle.cal_board.specs.declared.opened.Opened.{Opened}
use Rattle.cal_context.proofs.CallerLemmas.{one_node, root_within}
use Rattle.cal_context.specs.Children.{AddsChild, IsChild}
use Rattle.cal_context.specs.Lists.{Adds, IsFront}
use Rattle.cal_context.specs.Tree as contexts
use Rattle.cal_context.specs.Tree.{Grows, IsContext, path_at}
use Rattle.cal_context.specs.declared.numbers.NodeNumber.{NodeNumber}
use Rattle.cal_hand.specs.Nodes.{NodeAt}
use Rattle.cal_nodes.proofs.Climbing.{climbs_front, climbs_last}
use Rattle.cal_nodes.proofs.Numbering.{known_node, one_node_at, place_within, stands_for}
use Rattle.cal_nodes.specs.Numbers.{KeepsNumbers, StandsFor, number_in}
use Rattle.cal_nodes.specs.Ways.{AddsFronts, CanDescend, Climbs, HasNumber, IsPut, IsWay, opened_of}
use Rattle.cal_nodes.specs.declared.way.Step.{Step}
use Rattle.cal_once.specs.declared.seat.RowSeat.{RowSeat}
use Rattle.cal_tree.specs.Seats.{IsTreeSeat, slots_of}
use Rattle.cal_tree.specs.declared.tree.Tree.{Tree}
use Rattle.cal_value.specs.declared.attribute.Attribute.{Attribute}
use Rattle.cal_value.specs.declared.memory.OutOfMemory.{OutOfMemory}
use Rattle.cal_value.specs.declared.variant.Variant.{Variant}
use Rattle.cal_words.specs.declared.node.NodeId.{NodeId}
use Rattle.cal_words.specs.declared.sort.NodeSort.{NodeSort}

pub all_front : {A : Type 0} (P : A → Type 0) (xs : List A) (x : A) → All P (xs ++ x ∷ [])
    → All P xs
all_front P xs x all k d l = subst P (get_or-append xs (x ∷ []) d k l)
    (all k d (omega (arith, length-append xs (x ∷ []))))

pub all_last : {A : Type 0} (P : A → Type 0) (xs : List A) (x : A) → All P (xs ++ x ∷ []) → P x
all_last P xs x all = subst P (get_or-append_seam xs x [] x)
    (all (length xs) x (omega (arith, length-append xs (x ∷ []))))

-- From these numbers to those whatever is a way goes on, each number stays, and the context has
-- more
-- for the way alone.
pub record GoesDown (t₀ : contexts.Tree) (numbers₀ : List (Option NodeNumber)) (n₀ : NodeNumber)
    (steps₀ : List Step) (t : contexts.Tree) (numbers : List (Option NodeNumber)) (n : NodeNumber)
    (steps : List Step) : Type 0 where
  pub way : (tree : Tree) (seat : RowSeat NodeSort) (path : List (Opened Variant))
      → IsWay tree seat t₀ numbers₀ n₀ steps₀ path → IsWay tree seat t numbers n steps path
      × KeepsNumbers numbers₀ numbers × AddsFronts t₀ t path

pub goes_down-none : (t : contexts.Tree) (numbers : List (Option NodeNumber)) (n : NodeNumber)
    (steps : List Step) → GoesDown t numbers n steps t numbers n steps
goes_down-none t numbers n steps =
    record { way = λ tree seat path w. (w, λ node m e. e, λ m late within. absurd (omega arith)) }

module _ (tree : Tree) (seat : RowSeat NodeSort) (old new : contexts.Tree) (grows : Grows old new)
    (is : IsContext old) (becomes : IsContext new) where
  -- the child stands for the path that is known of its step
  child_at : (numbers : List (Option NodeNumber)) (parent n : NodeNumber) (s : Step)
      (rest : List Step) (path : List (Opened Variant))
      → IsChild new parent (record { 0 = s.attr }) s.value n
      → (w : IsWay tree seat old numbers parent (rest ++ s ∷ []) path)
      → NodeStands new n (w.above ++ opened_of s ∷ [])
  child_at numbers parent n s rest path child w = ⊎_elim
      (λ root. child_stands is grows None parent (record { 0 = s.attr }) s.value n w.above root.1
      child root.0)
      (λ t. child_stands is grows (Some parent) parent (record { 0 = s.attr }) s.value n w.above
      refl child (stands_for tree seat w.is_seat old numbers t.0 parent w.above w.numbered t.2
      t.1))
      w.start

  pub way_goes : (numbers : List (Option NodeNumber)) (parent n : NodeNumber) (s : Step)
      (rest : List Step) (path : List (Opened Variant))
      → IsChild new parent (record { 0 = s.attr }) s.value n
      → IsWay tree seat old numbers parent (rest ++ s ∷ []) path
      → IsWay tree seat new (slice_set numbers s.node.0 (Some n)) n rest path
      × KeepsNumbers numbers (slice_set numbers s.node.0 (Some n))
      × (front : List (Opened Variant)) × IsFront front path × NodeStands new n
      front
  way_goes numbers parent n s rest path child w = (
    record {
      is_seat = w.is_seat;
      numbered = record {
        long = omega (arith, long, length-set numbers s.node.0 (Some n));
        each =
            each;
      };
      above = there;
      climbs = last.1;
      start = inr (s.node, last.0, here);
    },
    keeps,
    there,
    climbs_front tree seat path rest there last.1,
    stands,
  )
    where
      there : List (Opened Variant)
      there = w.above ++ opened_of s ∷ []

      last : NodeAt tree seat s.node (w.above ++ opened_of s ∷ []) × Climbs tree seat path rest
          (w.above ++ opened_of s ∷ [])
      last = climbs_last tree seat path rest w.above s w.climbs

      long : slots_of tree < length numbers
      long = w.numbered.long

      stands : NodeStands new n (w.above ++ opened_of s ∷ [])
      stands = child_at numbers parent n s rest path child w

      here : number_in (slice_set numbers s.node.0 (Some n)) s.node ≡ Some n
      here = get_or-set_same numbers s.node.0 (Some n) None (place_within tree seat s.node.0
          (length numbers) (known_node tree seat s.node (w.above ++ opened_of s ∷ []) last.0) long)

      other : (node : NodeId) → node.0 ≢ s.node.0 → number_in (slice_set numbers s.node.0 (Some n))
          node ≡ number_in numbers node
      other node apart = get_or-set_other numbers s.node.0 node.0 (Some n) None apart

      each : (node : NodeId) (m : NodeNumber) → number_in (slice_set numbers s.node.0 (Some n))
          node ≡ Some m → StandsFor tree seat new m node
      each node m e = dite (ℕ_discrete node.0 s.node.0)
          (λ same.
          let is_node : s.node ≡ node = (λ i. record { 0 = sym same i }) in
          let number : Some n ≡ Some m =
          sym here ∙ ap (λ (i : ℕ). get_or (slice_set numbers s.node.0 (Some n)) i None)
          (sym same) ∙ e in
          let is_number : n ≡ m = (cc) in
          subst (λ (k : NodeNumber). StandsFor tree seat new k node) is_number
          (subst (λ (k : NodeId). StandsFor tree seat new n k) is_node (record {
            path =
                w.above ++ opened_of s ∷ [];
            node_at = last.0;
            stands = stands;
          })))
          (λ apart.
          let had = w.numbered.each node m (sym (other node apart) ∙ e) in
          record {
            path = had.path;
            node_at = had.node_at;
            stands =
                NodeStands-Grows grows m had.path had.stands;
          })

      keeps : (node : NodeId) (m : NodeNumber) → number_in numbers node ≡ Some m
          → number_in (slice_set numbers s.node.0 (Some n)) node ≡ Some m
      keeps node m e = dite (ℕ_discrete node.0 s.node.0)
          (λ same.
          let had = stands_for tree seat w.is_seat old numbers s.node m (w.above ++ opened_of
          s ∷ []) w.numbered (ap (λ (i : ℕ). get_or numbers i None) (sym same) ∙ e) last.0 in
          let has : NodeStands new m (w.above ++ opened_of s ∷ []) =
          NodeStands-Grows grows m (w.above ++ opened_of s ∷ []) had in
          let is_number : n ≡ m = one_node becomes n m stands.within has.within (stands.entries
          ∙ sym has.entries) in
          ap (λ (i : ℕ). get_or (slice_set numbers s.node.0 (Some n)) i None) same ∙ here
          ∙ ap (λ (k : NodeNumber). Some k) is_number)
          (λ apart. other node apart ∙ e)

-- a node more that stands for a beginning of the path
adds_more : (t₀ old new : contexts.Tree) (path front : List (Opened Variant)) (n : NodeNumber)
    → AddsFronts t₀ old path → Grows old new → IsContext old → IsFront front path
    → NodeStands new n front → Adds old.paths (path_at new n) new.paths → AddsFronts t₀ new path
adds_more t₀ old new path front n adds grows is begins stands added m late within = ⊎_elim
    (λ (before : m.0 < length old.paths). let h = adds m late before in
    (h.0, h.1, NodeStands-Grows grows m h.0 h.2))
    (λ (last : length old.paths ≤ m.0). ⊎_elim
    (λ had. let long = ap (λ ps. length ps) had.1 in absurd (omega arith))
    (λ more.
    let at : m.0 ≡ length old.paths = omega (
      arith,
      ap (λ ps. length ps) more.1,
      length-append
          old.paths (path_at new n ∷ []),
    ) in
    let same : path_at new m ≡ path_at new n = ap (λ (i : ℕ). get_or new.paths i []) at
    ∙ ap (λ ps. get_or ps (length old.paths) []) more.1 ∙ get_or-append_seam old.paths
    (path_at new n) [] [] in
    let some = root_within is in (
      front,
      begins,
      record {
        below = omega arith;
        within = within;
        known = stands.known;
        entries =
            same ∙ stands.entries;
      },
    ))
    added)
    (cases_lt m.0 (length old.paths))

-- one step of the way down
pub goes_down-more : (t₀ : contexts.Tree) (numbers₀ : List (Option NodeNumber)) (n₀ : NodeNumber)
    (steps₀ : List Step) (old new : contexts.Tree) (numbers : List (Option NodeNumber))
    (parent n : NodeNumber) (s : Step) (rest : List Step)
    → Grows old new → IsContext old → IsContext new → AddsChild old parent (record { 0 = s.attr })
    s.value new n → GoesDown t₀ numbers₀ n₀ steps₀ old numbers parent (rest ++ s ∷ [])
    → GoesDown t₀ numbers₀ n₀ steps₀ new (slice_set numbers s.node.0 (Some n)) n rest
goes_down-more t₀ numbers₀ n₀ steps₀ old new numbers parent n s rest grows is becomes added g =
    record {
      way = λ tree seat path w.
          let was = g.way tree seat path w in
          let goes = way_goes tree seat old new grows is becomes numbers parent n s rest path
          added.child was.0 in (
            goes.0,
            λ node m e. goes.1 node m (was.1 node m e),
            adds_more t₀ old new path goes.2 n was.2
                grows is goes.3 goes.4 added.paths,
          );
    }

-- what is left of the steps can be put below the child
pub can_descend-more : (old new : contexts.Tree) (numbers : List (Option NodeNumber))
    (parent n : NodeNumber) (s : Step) (rest : List Step) → new.attributes ≡ old.attributes
    → n.0 < length new.paths → CanDescend old numbers parent (rest ++ s ∷ [])
    → CanDescend new (slice_set numbers s.node.0 (Some n)) n rest
can_descend-more old new numbers parent n s rest same within can = record {
  start = within;
  attributes = λ k d l. subst (λ (attributes : List Attribute). (get_or rest k d).attr < length
      attributes) (sym same) (all_front (λ (x : Step). x.attr < length old.attributes) rest s
      can.attributes k d l);
  places = λ k d l. subst (λ (i : ℕ). (get_or rest k d).node.0 < i)
      (sym (length-set numbers s.node.0 (Some n))) (all_front (λ (x : Step). x.node.0 < length
      numbers) rest s can.places k d l);
}

-- the steps of a way are of nodes that have a place, by attributes of its path
steps_listed : (tree : Tree) (seat : RowSeat NodeSort) (count : ℕ) (path : List (Opened Variant))
    (steps : List Step) (above : List (Opened Variant)) → Climbs tree seat path steps above
    → All (λ (o : Opened Variant). o.attribute < count) path
    → All (λ (s : Step). s.attr < count) steps
steps_listed tree seat count path [] above c all k d l = absurd (omega arith)
steps_listed tree seat count path (s ∷ steps) above c all zero d l =
    all_last (λ (o : Opened Variant). o.attribute < count) c.0 (opened_of s)
    (subst (λ (p : List (Opened Variant)). All (λ (o : Opened Variant). o.attribute < count) p)
    c.2 all)
steps_listed tree seat count path (s ∷ steps) above c all (suc k) d l =
    steps_listed tree seat count c.0 steps above c.3
    (all_front (λ (o : Opened Variant). o.attribute < count) c.0 (opened_of s)
    (subst (λ (p : List (Opened Variant)). All (λ (o : Opened Variant). o.attribute < count)
    p) c.2 all)) k d (omega arith)

steps_placed : (tree : Tree) (seat : RowSeat NodeSort) (places : ℕ) → slots_of tree < places
    → (path : List (Opened Variant)) (steps : List Step) (above : List (Opened Variant))
    → Climbs tree seat path steps above → All (λ (s : Step). s.node.0 < places) steps
steps_placed tree seat places long path [] above c k d l = absurd (omega arith)
steps_placed tree seat places long path (s ∷ steps) above c zero d l =
    place_within tree seat s.node.0 places (known_node tree seat s.node path c.1) long
steps_placed tree seat places long path (s ∷ steps) above c (suc k) d l =
    steps_placed tree seat places long c.0 steps above c.3 k d (omega arith)

pub way_can : (tree : Tree) (seat : RowSeat NodeSort) (t : contexts.Tree)
    (numbers : List (Option NodeNumber)) (n : NodeNumber) (steps : List Step)
    (path : List (Opened Variant)) → IsContext t → IsWay tree seat t numbers n steps path
    → All (λ (o : Opened Variant). o.attribute < length t.attributes) path
    → CanDescend t numbers n steps
way_can tree seat t numbers n steps path is w listed = record {
  start = ⊎_elim (λ root. subst (λ (m : NodeNumber). m.0 < length t.paths) (sym root.1)
      (root_within is)) (λ h. (w.numbered.each h.0 n h.2).stands.within) w.start;
  attributes = steps_listed tree seat (length t.attributes) path steps w.above w.climbs listed;
  places = steps_placed tree seat (length numbers) w.numbered.long path steps w.above w.climbs;
}

-- the way down ended, or stopped
pub put_all : (tree : Tree) (seat : RowSeat NodeSort) (before t : contexts.Tree)
    (old numbers : List (Option NodeNumber)) (n : NodeNumber) (steps : List Step)
    (path : List (Opened Variant)) → steps ≡ [] → IsWay tree seat t numbers n steps path
    → KeepsNumbers old numbers → AddsFronts before t path
    → IsPut tree seat t numbers before old path (Ok n)
put_all tree seat before t old numbers n steps path none w keeps only =
    let end : path ≡ w.above = subst (λ (st : List Step). Climbs tree seat path st w.above) none
    w.climbs in
    record {
      numbered = w.numbered;
      keeps = keeps;
      only = only;
      number = subst (λ (p : List (Opened Variant)). HasNumber tree seat numbers p n) (sym end)
          w.start;
    }

pub put_some : (tree : Tree) (seat : RowSeat NodeSort) (before t : contexts.Tree)
    (old numbers : List (Option NodeNumber)) (n : NodeNumber) (steps : List Step)
    (path : List (Opened Variant)) (given : Result NodeNumber OutOfMemory) (e : OutOfMemory)
    → given ≡ Err e → IsWay tree seat t numbers n steps path → KeepsNumbers old numbers
    → AddsFronts before t path → IsPut tree seat t numbers before old path given
put_some tree seat before t old numbers n steps path given e stopped w keeps only = record {
  numbered = w.numbered;
  keeps = keeps;
  only = only;
  number = subst (λ (r : Result NodeNumber OutOfMemory). IfOk r (HasNumber tree seat numbers path))
      (sym stopped) tt;
}

-- the number that the node of a path has
pub number_of_node : (tree : Tree) (seat : RowSeat NodeSort) → IsTreeSeat tree seat
    → (numbers : List (Option NodeNumber)) (node : NodeId) (path : List (Opened Variant))
    (n : NodeNumber) → NodeAt tree seat node path → HasNumber tree seat numbers path n
    → number_in numbers node ≡ Some n
number_of_node tree seat is numbers node path n at = ⊎_elim
    (λ root.
    let none = (subst (λ (p : List (Opened Variant)). NodeAt tree seat node p) root.0
    at).has_path in
    let below = at.below in
    absurd (omega arith))
    (λ h.
    let same : h.0 ≡ node = one_node_at tree seat is h.0 node path h.1 at in
    subst (λ (m : NodeId). number_in numbers m ≡ Some n) same h.2)
