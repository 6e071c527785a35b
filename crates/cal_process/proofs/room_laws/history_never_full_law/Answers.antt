use Rattle.std.proofs.Common.{◌≡◌, ◌<◌, List, [], ◌∷◌, ◌++◌, length, arith, ⊎_elim}
use Rattle.cal_once.specs.Seats.{view}
use Rattle.cal_plog.specs.Seats.{plan_of, slots_of}
use Rattle.cal_process.specs.Replicas.{HasTaken, IsCommon}
use Rattle.cal_process.specs.declared.common.Common.{Common}
use Rattle.cal_process.specs.declared.replica.Replica.{Replica}
use Rattle.cal_once.specs.declared.seat.RowSeat.{RowSeat}
use Rattle.cal_process.proofs.Arenas.{appends-ok}
use Rattle.cal_process.proofs.Slots.{seen-fewer}
use Rattle.cal_process.proofs.room_laws.history_never_full_law.Goals as goal
use Rattle.cal_script.specs.Shapes.{greatest, process_lines}
use Rattle.cal_words.specs.declared.op.OpRec.{OpRec}
use Rattle.cal_words.specs.declared.sort.NodeSort.{NodeSort}

-- a replica has taken in fewer operations than there are slots
taken-fewer : (common : Common) (seat : RowSeat NodeSort) (p : Replica) (h : List OpRec)
    → IsCommon common → HasTaken common seat p h → p.seen < slots_of common.log
taken-fewer common seat p h history t =
    let few = seen-fewer (plan_of common.log) (view p.log) t.at_log.sound
    (length common.script.now.threads)
    (greatest (process_lines common.script.now) common.script.now.threads) history.shape_of_log
    h t.read in
    let long = t.long in
    omega (arith, few, long)

pub returns-clause-seen : goal.returns-clause-seen
returns-clause-seen c = λ common seat ops history at seen.
    seen-fewer (plan_of common.log) (view seat) at.sound (length common.script.now.threads)
    (greatest (process_lines common.script.now) common.script.now.threads) history.shape_of_log ops seen

pub returns-clause-taken : goal.returns-clause-taken
returns-clause-taken c = taken-fewer

pub returns-clause-looked : goal.returns-clause-looked
returns-clause-looked c = λ common was is old new h history all.
    let few = taken-fewer common is new (h ++ all.more.ops) history all.more.taken in
    ⊎_elim
    (λ (end : new.seen ≡ slots_of common.log). absurd (omega (arith, few, end)))
    (λ (end : (view new.log).looks ≡ (view old.log).looks ++ new.seen ∷ []). end)
    all.end

pub returns-clause-appended : goal.returns-clause-appended
returns-clause-appended c = λ common old new op result history at later may appends.
    appends-ok common history (view old) at.sound op may (view new) later.sound result appends
