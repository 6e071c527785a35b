-- What tables stand for: the rows of snapshots, and of two lists of them.
use Rattle.std.proofs.Common.{◌≡◌, ◌+◌, Bool, true, false, None, Some, List, [], ◌∷◌, ◌++◌, length-append, map, filter, sym, refl, ap, ◌∙◌}
use Rattle.std.specs.Prelude.{if◌then◌else◌, pos}
use Rattle.std.proofs.lemmas.List.{map-append}
use Rattle.std.proofs.lemmas.List.Elements.{filter_map-append}
use Rattle.cal_agg.specs.Rows.{cell_over, merged_cells-map, merged_row}
use Rattle.cal_snap.specs.declared.numbered.NumberedSnap.{NumberedSnap}
use Rattle.cal_table.specs.declared.key.TableKey.{TableKey}
use Rattle.cal_table.specs.declared.shape.TableShape.{TableShape}
use Rattle.cal_table.specs.Rows.{both_held, held_at, tally}
use Rattle.cal_table.specs.Snapshots.{StandsFor, held_of_keys, held_over, key_of, last_number, numbers_of, row_of, some_held}
use Rattle.cal_table.specs.TableLaws.{tally-append}
use Rattle.cal_table.specs.Tables.{Same, TableValue, merged_tables}

-- what two lists of snapshots come to is what each comes to, merged
pub held_over-append : (shape : TableShape) (xs ys : List NumberedSnap) → held_over shape (xs ++ ys) ≡ merged_row (held_over shape xs) (held_over shape ys)
held_over-append shape xs ys = λ i. record {
  count = pos (length-append xs ys i);
  cells = ((λ j. map (λ (flags : List Bool). cell_over (filter_map-append (λ (s : NumberedSnap). last_number flags s.imms.items) xs ys j)) shape.values) ∙ sym (merged_cells-map (λ (flags : List Bool). numbers_of flags xs) (λ (flags : List Bool). numbers_of flags ys) shape.values)) i;
}

some_held-cons : (shape : TableShape) (snap : NumberedSnap) (snaps : List NumberedSnap) → both_held (Some (held_over shape (snap ∷ []))) (some_held shape snaps) ≡ Some (held_over shape (snap ∷ snaps))
some_held-cons shape snap [] = refl
some_held-cons shape snap (s ∷ snaps) = ap Some (sym (held_over-append shape (snap ∷ []) (s ∷ snaps)))

-- the rows of snapshots come to what the snapshots come to
pub tally-snaps : (shape : TableShape) (asked : TableKey → Bool) (snaps : List NumberedSnap) → tally asked (map (row_of shape) snaps) ≡ held_of_keys shape asked snaps
tally-snaps shape asked [] = refl
tally-snaps shape asked (snap ∷ snaps) =
    ap (both_held (held_at asked (row_of shape snap))) (tally-snaps shape asked snaps) ∙ by (asked (key_of shape snap))
  where
    by : (b : Bool) → both_held (if b then Some (held_over shape (snap ∷ [])) else None) (some_held shape (filter (λ s. asked (key_of shape s)) snaps)) ≡ some_held shape (if b then snap ∷ filter (λ s. asked (key_of shape s)) snaps else filter (λ s. asked (key_of shape s)) snaps)
    by true = some_held-cons shape snap (filter (λ s. asked (key_of shape s)) snaps)
    by false = refl

pub StandsFor-tally : (snaps : List NumberedSnap) (table : TableValue) → StandsFor snaps table → (asked : TableKey → Bool) → tally asked table.rows ≡ held_of_keys table.shape asked snaps
StandsFor-tally snaps table h asked = h.tally asked ∙ tally-snaps table.shape asked snaps

-- a merge of two tables stands for the snapshots of both
pub StandsFor-merged : (snaps more : List NumberedSnap) (one other merged : TableValue) → StandsFor snaps one → StandsFor more other → other.shape ≡ one.shape → Same merged (merged_tables one other) → StandsFor (snaps ++ more) merged
StandsFor-merged snaps more one other merged h k same m = record {
  shape = refl;
  snapshots = m.snapshots ∙ (λ i. h.snapshots i + k.snapshots i) ∙ sym (length-append snaps more);
  tally = λ asked. m.tally asked ∙ tally-append asked one.rows other.rows
      ∙ (λ i. both_held (h.tally asked i) (k.tally asked i))
      ∙ (λ i. both_held (tally asked (map (row_of (sym m.shape i)) snaps)) (tally asked (map (row_of ((same ∙ sym m.shape) i)) more)))
      ∙ sym (tally-append asked (map (row_of merged.shape) snaps) (map (row_of merged.shape) more))
      ∙ ap (tally asked) (sym (map-append (row_of merged.shape) snaps more));
}
