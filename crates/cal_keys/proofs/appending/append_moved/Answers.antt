use Rattle.std.proofs.Common.{◌++◌, length, sym, subst, ap, arith, append-nil}
use Rattle.std.proofs.lemmas.List.{length-map, take_all}
use Rattle.cal_rowset.specs.NumberedRows.{meant}
use Rattle.cal_keys.specs.SnapshotRows.{AreRows}
use Rattle.cal_keys.proofs.MovedKeys.{rows_next}
use Rattle.cal_keys.proofs.appending.append_moved.Goals as goal

pub loop-place-init : goal.loop-place-init
loop-place-init c = λ t u ks ls one two attributes nodes h k. subst (AreRows u c.args.rows.now) (sym (append-nil ks)) h

pub loop-place-preserved : goal.loop-place-preserved
loop-place-preserved c = λ t u ks ls one two attributes nodes h k.
    rows_next t u one two ks ls c.loop-place.rows c.push.new.self c.args.others.now c.loop-place.place c.in_ok-row.row
    (omega (arith, c.loop-place-test.true, c.len-place-end.ensures)) (c.in_ok-row.ensures t u attributes nodes) k
    (c.loop-place.invariant t u ks ls one two attributes nodes h k) c.in_ok-push.ensures

pub returns : goal.returns
returns c = λ t u ks ls one two attributes nodes h k.
    subst (λ rs. AreRows u c.loop-place.rows (ks ++ rs))
    (take_all c.loop-place.place ls
    (omega (arith, c.loop-place-test.false, c.len-place-end.ensures, length-map c.args.others.now (meant t), ap length k.mean)))
    (c.loop-place.invariant t u ks ls one two attributes nodes h k)
