-- The snapshots of a trace so far, and one more.
use Rattle.std.proofs.Common.{◌≡◌, ℕ, suc, zero, ◌+◌, ◌<◌, List, [], ◌∷◌, ◌++◌, length, get_or}
use Rattle.std.proofs.Common.{take, sym, subst, arith}
use Rattle.std.specs.List.{AllZip}
use Rattle.std.proofs.lemmas.List.{take_more}
use Rattle.std.proofs.lemmas.Slice.Zip.{AllZip-long}
use Rattle.cal_channel.specs.Channels.{IsTraced}
use Rattle.cal_channel.specs.Traces.{ShownSnap}
use Rattle.cal_context.proofs.CallerLemmas.{TakesMore-trans}
use Rattle.cal_context.specs.Lists.{IsFront}
use Rattle.cal_context.specs.Taking.{TakesMore}
use Rattle.cal_context.specs.Tree as contexts
use Rattle.cal_once.specs.Seats.{view}
use Rattle.cal_once.specs.Views.{KnowsMore}
use Rattle.cal_once.specs.declared.seat.RowSeat.{RowSeat}
use Rattle.cal_results.proofs.Meanings.{record_later}
use Rattle.cal_results.specs.Tracing.{TraceMeans, SnapMeans}
use Rattle.cal_script.specs.declared.script.Script.{Script}
use Rattle.cal_tree.specs.declared.tree.Tree.{Tree}
use Rattle.cal_value.specs.declared.record.Rec.{Rec}
use Rattle.cal_words.specs.declared.sort.NodeSort.{NodeSort}

-- what holds of two lists item by item holds at a place
zip_at : {A B : Type 0} (R : A → B → Type 0) (xs : List A) (ys : List B) (k : ℕ) (d : A) (e : B)
    → AllZip R xs ys → k < length xs → R (get_or xs k d) (get_or ys k e)
zip_at R [] ys k d e h l = absurd (omega (arith, l))
zip_at R (x ∷ xs) [] k d e h l = absurd h
zip_at R (x ∷ xs) (y ∷ ys) zero d e h l = h.0
zip_at R (x ∷ xs) (y ∷ ys) (suc k) d e h l = zip_at R xs ys k d e h.1 (omega (arith, l))

-- there are as many snapshots as records
pub means_long : (t : contexts.Tree) (script : Script) (tree : Tree) (seat : RowSeat NodeSort)
    (snaps : List ShownSnap) (recs : List Rec) → TraceMeans t script tree seat snaps recs
    → length recs ≡ length snaps
means_long t script tree seat snaps recs m =
    AllZip-long (IsTraced m.attributes script tree seat) snaps recs m.traced

-- The snapshot at a place means the record there, however much a seat has learned since, and
-- whatever attributes came behind the others.
pub record_at : (script : Script) (tree : Tree) (old new : contexts.Tree)
    → IsFront old.attributes new.attributes → (was is : RowSeat NodeSort)
    → KnowsMore (view was) (view is) → (snaps : List ShownSnap) (recs : List Rec) (k : ℕ)
    → TraceMeans old script tree was snaps recs → k < length snaps → (shown : ShownSnap)
    → ((d : ShownSnap) → get_or snaps k d ≡ shown) → (e : Rec)
    → SnapMeans new script tree is shown (get_or recs k e)
record_at script tree old new more was is learned snaps recs k m l shown at e =
    record_later script tree shown old new more was is learned (get_or recs k e) (record {
      attributes = m.attributes;
      front = m.front;
      traced = subst (λ (s : ShownSnap). IsTraced m.attributes script tree was s (get_or recs k e))
          (at shown)
          (zip_at (IsTraced m.attributes script tree was) snaps recs k shown e m.traced l);
    })

-- one record more was taken
pub taken_more : (had then has : List Rec → Type 0) (recs : List Rec) (i : ℕ) (d : Rec)
    → i < length recs → TakesMore had then (take i recs) → TakesMore then has (get_or recs i d ∷ [])
    → TakesMore had has (take (i + 1) recs)
taken_more had then has recs i d l so_far next = subst (TakesMore had has)
    (sym (take_more recs i d l))
    (TakesMore-trans had then has (take i recs) (get_or recs i d ∷ []) so_far next)

-- A record was taken that is this one, from a context that had grown.
pub hands_on : (had then has : List Rec → Type 0) (made rec : Rec) → made ≡ rec
    → ((rs : List Rec) → had rs → then rs) → TakesMore then has (made ∷ [])
    → TakesMore had has (rec ∷ [])
hands_on had then has made rec same stays taken rs is =
    subst (λ (r : Rec). has (rs ++ r ∷ [])) same (taken rs (stays rs is))
