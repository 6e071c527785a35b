-- The snapshots of a trace are those that were added, one behind another.
use Rattle.std.proofs.Common.{◌≡◌, ℕ, zero, suc, ◌-◌, ◌<◌, ◌≤◌, List, [], ◌∷◌, ◌++◌, length}
use Rattle.std.proofs.Common.{get_or, take, drop, ap, refl, ◌∙◌, arith, length-append}
use Rattle.std.specs.Prelude.{slice_range}
use Rattle.std.proofs.lemmas.List.{drop-append-le, length-drop, take-append-le, take_all}
use Rattle.std.proofs.Math.Seq.{drop-append_seam}
use Rattle.cal_channel.specs.Traces.{CoverFrom, ShownSnap, snap_between, snaps_from}
use Rattle.cal_channel.specs.declared.ends.TraceEnd.{TraceEnd}
use Rattle.cal_channel.specs.declared.shown.ShownEntry.{ShownEntry}
use Rattle.cal_words.specs.declared.node.NodeId.{NodeId}

-- what lies within a list, lies there when more stands behind it
range-append : {A : Type 0} (xs ys : List A) (from to : ℕ) → from ≤ to → to ≤ length xs
    → slice_range (xs ++ ys) from to ≡ slice_range xs from to
range-append xs ys from to rises within =
    let l = length-drop from xs in
    ap (take (to - from)) (drop-append-le from xs ys (omega (arith, rises, within)))
    ∙ take-append-le (to - from) (drop from xs) ys (omega (arith, l, rises, within))

-- what lies behind the first item
pub get_or-later : {A : Type 0} (x : A) (xs : List A) (k : ℕ) (d : A) → 0 < k
    → get_or (x ∷ xs) k d ≡ get_or xs (k - 1) d
get_or-later x xs zero d later = absurd (omega (arith, later))
get_or-later x xs (suc k) d later = let e : k ≡ suc k - 1 = omega arith in
    ap (λ n. get_or xs n d) e

-- what was added stands from the end of a list on
range-added : {A : Type 0} (xs ys : List A) (from : ℕ) → from ≡ length xs
    → slice_range (xs ++ ys) from (length (xs ++ ys)) ≡ ys
range-added xs ys from at =
    let l = length-append xs ys in
    ap (λ n. slice_range (xs ++ ys) n (length (xs ++ ys))) at
    ∙ ap (take (length (xs ++ ys) - length xs)) (drop-append_seam xs ys)
    ∙ take_all (length (xs ++ ys) - length xs) ys (omega (arith, l))

module _ (nodes : List NodeId) (entries : List ShownEntry) where
  -- no end lies behind the lists
  pub cover-within : (from : TraceEnd) (ends : List TraceEnd) → CoverFrom nodes entries from ends
      → (from.nodes ≤ length nodes) × (from.entries ≤ length entries)
  cover-within from [] c = let n = c.0 in let e = c.1 in (omega (arith, n), omega (arith, e))
  cover-within from (to ∷ ends) c =
      let r = cover-within to ends c.2 in
      let n = c.0 in
      let e = c.1 in
      let m = r.0 in
      let f = r.1 in
      (omega (arith, n, m), omega (arith, e, f))

  pub snaps-long : (from : TraceEnd) (ends : List TraceEnd)
      → length (snaps_from nodes entries from ends) ≡ length ends
  snaps-long from [] = refl
  snaps-long from (to ∷ ends) = ap suc (snaps-long to ends)

  -- a snapshot lies between the end before it and its own
  pub snap-at : (from : TraceEnd) (ends : List TraceEnd) (k : ℕ) (d : ShownSnap) (e : TraceEnd)
      → k < length ends → get_or (snaps_from nodes entries from ends) k d
      ≡ snap_between nodes entries (get_or (from ∷ ends) k e) (get_or ends k e)
  snap-at from [] k d e l = absurd (omega (arith, l))
  snap-at from (to ∷ ends) zero d e l = refl
  snap-at from (to ∷ ends) (suc k) d e l = snap-at to ends k d e (omega (arith, l))

  -- and both are within the lists
  pub ends-within : (from : TraceEnd) (ends : List TraceEnd) (k : ℕ) (e : TraceEnd)
      → CoverFrom nodes entries from ends → k < length ends
      → ((get_or (from ∷ ends) k e).nodes ≤ (get_or ends k e).nodes)
      × ((get_or (from ∷ ends) k e).entries ≤ (get_or ends k e).entries)
      × ((get_or ends k e).nodes ≤ length nodes) × ((get_or ends k e).entries ≤ length entries)
  ends-within from [] k e c l = absurd (omega (arith, l))
  ends-within from (to ∷ ends) zero e c l =
      let r = cover-within to ends c.2 in (c.0, c.1, r.0, r.1)
  ends-within from (to ∷ ends) (suc k) e c l = ends-within to ends k e c.2 (omega (arith, l))

  module _ (more : List NodeId) (others : List ShownEntry) where
    abbrev pub end_behind : TraceEnd
    end_behind =
        record { nodes = length (nodes ++ more); entries = length (entries ++ others) }

    abbrev pub added_snap : ShownSnap
    added_snap = record { nodes = more; entries = others }

    -- one snapshot more
    pub snaps-more : (from : TraceEnd) (ends : List TraceEnd) → CoverFrom nodes entries from ends
        → snaps_from (nodes ++ more) (entries ++ others) from (ends ++ end_behind ∷ [])
        ≡ snaps_from nodes entries from ends ++ added_snap ∷ []
    snaps-more from [] c = λ i. record {
      nodes = range-added nodes more from.nodes c.0 i;
      entries = range-added entries others from.entries c.1 i;
    } ∷ []
    snaps-more from (to ∷ ends) c =
        let w = cover-within to ends c.2 in λ i. record {
          nodes = range-append nodes more from.nodes to.nodes c.0 w.0 i;
          entries = range-append entries others from.entries to.entries c.1 w.1 i;
        } ∷ snaps-more to ends c.2 i

    pub cover-more : (from : TraceEnd) (ends : List TraceEnd) → CoverFrom nodes entries from ends
        → CoverFrom (nodes ++ more) (entries ++ others) from (ends ++ end_behind ∷ [])
    cover-more from [] c =
        let n = c.0 in
        let e = c.1 in
        let l = length-append nodes more in
        let m = length-append entries others in
        (omega (arith, n, l), omega (arith, e, m), (refl, refl))
    cover-more from (to ∷ ends) c = (c.0, c.1, cover-more to ends c.2)
