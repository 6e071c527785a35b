-- What a seat has appended, behind an answer.
use Rattle.std.proofs.Common.{◌≡◌, ℕ, ◌+◌, ◌<◌, List, Result, Ok, Err, ap, subst, arith}
use Rattle.cal_once.specs.declared.view.Plan.{Plan}
use Rattle.cal_once.specs.declared.view.View.{View}
use Rattle.cal_once.specs.Layout.{times}
use Rattle.cal_once.specs.Views.{IsLater, KnowsMore}
use Rattle.cal_plog.proofs.Reading.{has_op_later, knows_below_later}
use Rattle.cal_plog.specs.Answers.{Appends}
use Rattle.cal_plog.specs.History.{OwnBefore}
use Rattle.cal_plog.specs.declared.append.LogFull.{LogFull}
use Rattle.cal_plog.specs.declared.append.LogFull.TheVariants as full
use Rattle.cal_words.specs.declared.op.OpRec.{OpRec}
use Rattle.cal_words.specs.declared.sort.OpSort.{OpSort}

-- what a seat appended before a line it appended before the next one, however much it learns
own-later : (slots : ℕ) (v w : View OpSort) (n : ℕ) → KnowsMore v w
    → w.published ≡ v.published → OwnBefore slots v n → OwnBefore slots w (n + 1)
own-later slots v w n more same own p some =
    let o = own p (subst (λ (ps : List ℕ). 0 < times p ps) same some) in
    record {
      op = o.op;
      has_op = has_op_later slots v w p o.op more o.has_op;
      earlier = omega (arith, o.earlier);
      below = knows_below_later slots v w p more o.below;
    }

-- behind each answer all that the seat appended are of lines before the next one
pub own-answered : (plan : Plan OpSort) (op : OpRec) (v w : View OpSort) (r : Result ℕ LogFull)
    → IsLater v w → OwnBefore plan.shape.slots v op.line → Appends plan op v w r
    → OwnBefore plan.shape.slots w (op.line + 1)
own-answered plan op v w (Ok place) later own a = a.own
own-answered plan op v w (Err full.RowsFull) later own a =
    own-later plan.shape.slots v w op.line later.3
    (ap (λ (x : View OpSort). x.published) a.1.same) own
own-answered plan op v w (Err (full.ArenaFull used need)) later own a =
    own-later plan.shape.slots v w op.line later.3
    (ap (λ (x : View OpSort). x.published) a.learns.same) own
