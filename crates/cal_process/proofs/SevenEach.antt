-- A seat of the history uses seven words for each operation that it appended, whatever it does.
use Rattle.std.proofs.Common.{◌≡◌, ℕ, ◌+◌, ◌*◌, List, [], ◌∷◌, ◌++◌, length, ap, ◌∙◌}
use Rattle.std.proofs.Common.{subst, sym, ⊎_elim, arith}
use Rattle.std.specs.Prelude.{None}
use Rattle.std.proofs.lemmas.List.{length-append}
use Rattle.cal_once.specs.Views.{Learns, noting}
use Rattle.cal_once.specs.declared.view.Plan.{Plan}
use Rattle.cal_once.specs.declared.view.View.{View}
use Rattle.cal_plog.specs.Answers.{IsAppended, Reads}
use Rattle.cal_process.specs.Rooms.{UsesSevenEach}
use Rattle.cal_words.specs.declared.op.OpRec.{OpRec}
use Rattle.cal_words.specs.declared.sort.OpSort.{OpSort}

-- it keeps this as it stays
pub seven-same : (v w : View OpSort) → w.used ≡ v.used → w.published ≡ v.published
    → UsesSevenEach v → UsesSevenEach w
seven-same v w used published uses =
    used ∙ uses ∙ ap (λ (ps : List ℕ). 7 * length ps) (sym published)

-- as it learns
pub seven-learns : (v w : View OpSort) → Learns v w → UsesSevenEach v → UsesSevenEach w
seven-learns v w learns = seven-same v w (ap (λ (x : View OpSort). x.used) learns.same)
    (ap (λ (x : View OpSort). x.published) learns.same)

-- as it looks at an empty slot, or at none
pub seven-looks : (plan : Plan OpSort) (v w : View OpSort) (k : ℕ)
    → Reads plan v w k None → UsesSevenEach v → UsesSevenEach w
seven-looks plan v w k reads uses = ⊎_elim
    (λ e. subst (λ (x : View OpSort). UsesSevenEach x) (sym e.1) uses)
    (λ e. seven-learns (noting k v) w e.2 uses) reads

-- and as it appends one more
pub seven-appended : (plan : Plan OpSort) (op : OpRec) (v w : View OpSort) (place : ℕ)
    → IsAppended plan op v w place → UsesSevenEach v → UsesSevenEach w
seven-appended plan op v w place appended uses =
    let used : w.used ≡ v.used + 7 = ap (λ (x : View OpSort). x.used) appended.learns.same in
    let published : length w.published ≡ length (v.published ++ place ∷ []) =
    ap (λ (x : View OpSort). length x.published) appended.learns.same in
    let more = length-append v.published (place ∷ []) in
    omega (arith, used, published, more, uses)
