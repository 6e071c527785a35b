use Rattle.std.specs.Prelude.{◌≡◌, ℕ, zero, suc, ◌<◌, ◌++◌, List, length}
use Rattle.std.proofs.Common.{◌∙◌, ap, sym, subst, refl, arith, Some}
use Rattle.cal_context.specs.Tree.{Tree, Grows}
use Rattle.cal_context.proofs.CallerLemmas.{attribute_at-Grows, path_at-Grows, within_paths}
use Rattle.cal_context.proofs.ListLemmas.{length-IsFront}
use Rattle.cal_value.specs.declared.attribute.Attribute.{Attribute}
use Rattle.cal_value.specs.declared.record.Rec.{Rec}
use Rattle.cal_value.specs.declared.attribute.Entry.{Entry}
use Rattle.cal_tabfmt.specs.Snapshots.{AreReady, KnowsPlaces, path_numbered}
use Rattle.cal_rowset.specs.Trails.{IsTrail}
use Rattle.cal_tabfmt.specs.Writer.{HasTaken}
use Rattle.cal_tabfmt.specs.declared.snapshot_cells.SnapshotCells.{SnapshotCells}
use Rattle.cal_tabfmt.specs.declared.writer.ExpandWriter.{ExpandWriter}

-- what is noted of attributes stays right while the context grows
pub KnowsPlaces-Grows : (old new : Tree) (names : List (List ℕ)) (places : List ℕ)
    → KnowsPlaces old names places → Grows old new → KnowsPlaces new names places
KnowsPlaces-Grows old new names places knows grows = record {
  within = omega (arith, knows.within, length-IsFront old.attributes new.attributes grows.attributes);
  known = λ n l. knows.known n l ∙ ap (λ (a : Attribute). Some a.name)
      (sym (attribute_at-Grows grows n (omega (arith, l, knows.within))));
}

path_numbered-Grows : (old new : Tree) (n : ℕ) → (0 < n → n < length old.paths) → Grows old new
    → path_numbered new n ≡ path_numbered old n
path_numbered-Grows old new zero within grows = refl
path_numbered-Grows old new (suc n) within grows =
    path_at-Grows grows (record { 0 = suc n }) (within (omega arith))

-- and cells that are ready stay so
AreReady-Grows : (old new : Tree) (s : SnapshotCells) → AreReady old s → Grows old new
    → AreReady new s
AreReady-Grows old new s ready grows =
    let same = path_numbered-Grows old new s.node.0 ready.within grows in
    record {
      within = λ below. within_paths grows s.node.0 (ready.within below);
      more = ready.more;
      trail = subst (λ (p : List Entry). IsTrail s.trail (p ++ ready.more)) (sym same) ready.trail;
      depth = ready.depth ∙ ap length (sym same);
      places = KnowsPlaces-Grows old new _ _ ready.places grows;
    }

-- what a writer has taken stays so while the context grows
pub HasTaken-stays : (w : ExpandWriter) (old new : Tree) (rows : List Rec)
    → HasTaken w old rows → Grows old new → HasTaken w new rows
HasTaken-stays w old new rows has grows = record {
  text = has.text;
  ready = AreReady-Grows old new w.cells has.ready grows;
}
