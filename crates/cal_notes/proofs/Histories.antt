-- What the whole history says of one thread, once all seats were joined.
use Rattle.std.proofs.Common.{◌≡◌, ◌≢◌, ℕ, ◌+◌, ◌<◌, ◌≤◌, List, ◌++◌, take, drop, length, get_or}
use Rattle.std.proofs.Common.{sym, ap, ◌∙◌, arith}
use Rattle.std.specs.List.{All}
use Rattle.std.proofs.lemmas.List.{ext_get_or, get_or-drop, get_or-take, length-drop}
use Rattle.std.proofs.lemmas.List.{length-take-le, map-append, take-append-drop}
use Rattle.std.proofs.lemmas.List.Elements.{All-contains, All-map}
use Rattle.cal_notes.specs.Together.{Begins}
use Rattle.cal_once.specs.Layout.{times}
use Rattle.cal_once.specs.Sound.{IsSound}
use Rattle.cal_once.specs.declared.view.Plan.{Plan}
use Rattle.cal_once.specs.declared.view.View.{View}
use Rattle.cal_plog.proofs.Joins.{published_own}
use Rattle.cal_plog.proofs.Reading.{is_among, one_op}
use Rattle.cal_plog.specs.History.{HasJoined, HasSeen}
use Rattle.cal_plog.specs.Seats.{op_law}
use Rattle.cal_process.specs.Operations.{IsOpOf, history_of, placed_as}
use Rattle.cal_run.specs.Lawful.{IsKnown}
use Rattle.cal_script.specs.declared.journal.Placed.{Placed}
use Rattle.cal_script.specs.declared.script.Script.{Script}
use Rattle.cal_words.specs.declared.op.OpCode.TheVariants as code
use Rattle.cal_words.specs.declared.op.OpRec.{OpRec}
use Rattle.cal_words.specs.declared.sort.OpSort.{OpSort}

-- what a seat has seen of a script's history are process lines of the script
pub seen-known : (script : Script) (plan : Plan OpSort) (v : View OpSort) (all : List OpRec)
    → IsSound op_law plan v → HasSeen plan.shape.slots v all → All (IsOpOf script) plan.sort.ops
    → All (IsKnown script) (history_of all)
seen-known script plan v all sound seen ops = All-map (IsKnown script) placed_as all (λ k d below.
    let is : IsOpOf script (get_or all k d) =
    All-contains (IsOpOf script) plan.sort.ops (get_or all k d) ops
    (is_among plan v sound k (get_or all k d) (seen k d below)) in
    is.known)

no_op : OpRec
no_op = record { thread = 0; line = 0; code = code.End; attr = 0; value = 0 }

module _ (plan : Plan OpSort) (v : View OpSort) (thread : ℕ) (places : List ℕ)
    (h all : List OpRec) (sound : IsSound op_law plan v) (first : v.number ≡ 0)
    (joined : HasJoined v thread places) (seen : HasSeen plan.shape.slots v h)
    (whole : HasSeen plan.shape.slots v all) (long : length h ≤ length all)
    (below : (place : ℕ) → 0 < times place places → place < length h) where
  abbrev rest : List OpRec
  rest = drop (length h) all

  -- what a thread has seen is a front of the whole history
  front-seen : take (length h) all ≡ h
  front-seen =
      let d = no_op in
      let n = length-take-le (length h) all long in
      ext_get_or d (take (length h) all) h (omega (arith, n))
      (λ i l.
      let m : i < length h = omega (arith, l, n) in
      get_or-take (length h) all i d m
      ∙ one_op plan v sound i (get_or all i d) (get_or h i d) (whole i d (omega (arith, m, long)))
      (seen i d m))

  -- and behind it no operation is the thread's
  rest-others : (k : ℕ) (d : OpRec) → k < length rest → (get_or rest k d).thread ≢ thread
  rest-others k d less same =
      let n = length-drop (length h) all in
      let at = get_or-drop (length h) all k d in
      let has = whole (length h + k) d (omega (arith, less, n)) in
      let once = published_own plan v thread places sound first joined (length h + k)
      (get_or all (length h + k) d) has (ap (λ (op : OpRec). op.thread) (sym at) ∙ same) in
      let inside = below (length h + k) (omega (arith, once)) in
      omega (arith, inside)

  pub begins-with : Begins thread (history_of h) (history_of all)
  begins-with = record {
    more = history_of rest;
    whole = ap history_of (sym (take-append-drop (length h) all))
        ∙ ap (λ (ops : List OpRec). history_of (ops ++ rest)) front-seen
        ∙ map-append placed_as h rest;
    others = All-map (λ (p : Placed). p.thread ≢ thread) placed_as rest rest-others;
  }
