-- Cells that stand at a node of a context.
use Rattle.std.proofs.Common.{◌≡◌, ℕ, ◌<◌, zero, suc, List, [], ◌∷◌, ◌++◌, length, map, take, refl, sym, ap, ◌∙◌, subst, append_assoc}
use Rattle.std.specs.Prelude.{slice_index_or}
use Rattle.std.proofs.Math.Seq.{take-append_seam}
use Rattle.std.specs.Global.{Vec}
use Rattle.cal_value.specs.Flat.{joined}
use Rattle.cal_value.specs.declared.attribute.Entry.{Entry}
use Rattle.cal_context.specs.declared.numbers.Link.{Link}
use Rattle.cal_context.specs.Tree.{Tree, IsContext, path_at}
use Rattle.cal_context.specs.declared.numbers.NodeNumber.{NodeNumber}
use Rattle.cal_context.proofs.CallerLemmas.{root_path}
use Rattle.cal_tabfmt.specs.Snapshots.{AreFilled, AreReady, KnowsAll, KnowsPlaces, StandAt, StandKnowing, path_numbered, path_to}
use Rattle.cal_rowset.specs.Filling.{Holds, names}
use Rattle.cal_rowset.specs.Trails.{IsTrail}
use Rattle.cal_tabfmt.specs.declared.snapshot_cells.SnapshotCells.{SnapshotCells}
use Rattle.cal_rowset.specs.declared.cells.Cells.{Cells}
use Rattle.cal_rowset.proofs.Trails.{GoesBack-holds}

-- the path of the root
pub path_at-root : (t : Tree) → IsContext t → (n : NodeNumber) → n.0 ≡ 0 → path_at t n ≡ []
path_at-root t is n root = ap (λ (k : ℕ). slice_index_or t.paths k []) root ∙ root_path is

path_numbered-is : (t : Tree) → IsContext t → (n : ℕ) → path_numbered t n ≡ slice_index_or t.paths n []
path_numbered-is t is zero = sym (root_path is)
path_numbered-is t is (suc n) = refl

pub path_to-is : (t : Tree) → IsContext t → (n : NodeNumber) → path_to t n ≡ path_at t n
path_to-is t is n = path_numbered-is t is n.0

-- what is kept of a trail that is as long as a path
pub IsTrail-path : (t : Tree) (trail : Cells) (n : NodeNumber) (depth : ℕ) (more : List Entry) → IsContext t → depth ≡ length (path_to t n)
    → IsTrail trail (take depth (path_to t n ++ more)) → IsTrail trail (path_at t n)
IsTrail-path t trail n depth more is counted has =
    subst (IsTrail trail) (ap (λ (k : ℕ). take k (path_to t n ++ more)) counted ∙ take-append_seam (path_to t n) more ∙ path_to-is t is n) has

-- cells that are filled show their entries, and are ready for others
pub HoldsRow-filled : (t : Tree) (s : SnapshotCells) (entries : List Entry) → AreFilled t s entries → Holds s.trail entries
HoldsRow-filled t s entries filled = GoesBack-holds _ _ _ filled.trail

pub AreReady-filled : (t : Tree) (s : SnapshotCells) (entries : List Entry) → AreFilled t s entries → AreReady t s
AreReady-filled t s entries filled = record {
  within = λ below. filled.within;
  more = filled.more;
  trail = subst (IsTrail s.trail) filled.front filled.trail;
  depth = filled.depth;
  places = filled.places.each;
}

-- cells that stand at the first of some nodes, and have taken the paths of the others
pub filled-paths : (t : Tree) (s : SnapshotCells) (trail : Cells) (links : Vec Link) (first : NodeNumber) (nodes others : List NodeNumber) → IsContext t → first.0 < length t.paths → StandKnowing t s
    → s.node ≡ first → nodes ≡ first ∷ others → (names trail) ≡ (names s.trail) → IsTrail trail (path_at t s.node ++ joined (map (path_at t) others))
    → AreFilled t (record { trail = trail; places = s.places; node = s.node; depth = s.depth; links = links }) (joined (map (path_at t) nodes))
filled-paths t s trail links first nodes others is within knowing at list names has = record {
  within = subst (λ (n : NodeNumber). n.0 < length t.paths) (sym at) within;
  more = joined (map (path_at t) others);
  front = all ∙ ap (λ (p : List Entry). p ++ joined (map (path_at t) others)) (sym (path_to-is t is s.node));
  trail = subst (IsTrail trail) (sym all) has;
  depth = knowing.stand.depth ∙ ap length (sym (path_to-is t is s.node));
  places = subst (λ (ns : List (List ℕ)). KnowsAll t ns s.places.items) (sym names) knowing.places;
}
  where
    all : joined (map (path_at t) nodes) ≡ path_at t s.node ++ joined (map (path_at t) others)
    all = ap (λ (ns : List NodeNumber). joined (map (path_at t) ns)) list ∙ ap (λ (n : NodeNumber). path_at t n ++ joined (map (path_at t) others)) (sym at)

-- cells that have given up all but the path of their node, and cells that have given up all
pub stand-kept : (t : Tree) (s : SnapshotCells) (trail : Cells) → IsContext t → AreReady t s → (names trail) ≡ (names s.trail)
    → ((entries : List Entry) → IsTrail s.trail entries → IsTrail trail (take s.depth entries)) → StandAt t (record { trail = trail; places = s.places; node = s.node; depth = s.depth; links = s.links })
stand-kept t s trail is ready names kept = record {
  trail = IsTrail-path t trail s.node s.depth ready.more is ready.depth (kept _ ready.trail);
  depth = ready.depth ∙ ap length (path_to-is t is s.node);
  places = subst (λ (ns : List (List ℕ)). KnowsPlaces t ns s.places.items) (sym names) ready.places;
}

pub stand-root : (t : Tree) (s : SnapshotCells) → IsContext t → s.node.0 ≡ 0 → s.depth ≡ 0 → IsTrail s.trail [] → KnowsPlaces t (names s.trail) s.places.items → StandAt t s
stand-root t s is root none has knows =
    let empty = path_at-root t is s.node root in
    record {
      trail = subst (IsTrail s.trail) (sym empty) has;
      depth = none ∙ ap length (sym empty);
      places = knows;
    }

-- filled cells with further entries
pub filled-more : (t : Tree) (s : SnapshotCells) (trail : Cells) (entries others : List Entry) → AreFilled t s entries → (names trail) ≡ (names s.trail) → IsTrail trail (entries ++ others)
    → AreFilled t (record { trail = trail; places = s.places; node = s.node; depth = s.depth; links = s.links }) (entries ++ others)
filled-more t s trail entries others filled names has = record {
  within = filled.within;
  more = filled.more ++ others;
  front = ap (λ (front : List Entry). front ++ others) filled.front ∙ append_assoc (path_to t s.node) filled.more others;
  trail = has;
  depth = filled.depth;
  places = subst (λ (ns : List (List ℕ)). KnowsAll t ns s.places.items) (sym names) filled.places;
}
