-- Taking in operation after operation of the history.
use Rattle.std.proofs.Common.{◌≡◌, ◌⊎◌, ℕ, ◌+◌, ◌<◌, ◌≤◌, List, [], ◌∷◌, ◌++◌, length}
use Rattle.std.proofs.Common.{get_or, append-nil, append_assoc, refl, sym, ap, ◌∙◌, subst, arith}
use Rattle.std.proofs.Common.{inl, inr, ⊎_elim, Bool, true, false, if◌then◌else◌}
use Rattle.std.specs.Prelude.{Option, slice_index_or}
use Rattle.std.proofs.lemmas.Bool.{cases_lt}
use Rattle.std.proofs.lemmas.List.{get_or_append_left, get_or_push, length-append, length-map}
use Rattle.std.proofs.lemmas.List.{map-append}
use Rattle.std.proofs.lemmas.List.Sums.{sum_by_push}
use Rattle.cal_board.specs.Blackboard.{Blackboard}
use Rattle.cal_once.proofs.Seen.{was_seen_from}
use Rattle.cal_once.specs.Seats.{view}
use Rattle.cal_once.specs.Views.{KnowsMore, Learns, noting}
use Rattle.cal_once.specs.declared.seat.RowSeat.{RowSeat}
use Rattle.cal_once.specs.declared.view.View.{View}
use Rattle.cal_plog.proofs.Reading.{has_op_later}
use Rattle.cal_plog.specs.History.{HasOp, HasSeen, KnowsBelow}
use Rattle.cal_plog.specs.Seats.{slots_of}
use Rattle.cal_process.specs.Operations.{IsOpOf, history_of, operation_in, placed_as, words_made}
use Rattle.cal_process.specs.Replicas.{AddsWords, HasTaken, Takes, TakesNone, TakesOne}
use Rattle.cal_process.specs.Takings.{KeepsLooks, MayTake, OnlyLearns, TakesAll, TakesMore}
use Rattle.cal_process.specs.Takings.{words_of_ops}
use Rattle.cal_process.specs.declared.common.Common.{Common}
use Rattle.cal_process.specs.declared.replica.Replica.{Replica}
use Rattle.cal_run.proofs.FrontLemmas.{process_board-push}
use Rattle.cal_run.specs.History.{board_placed, board_with, placed_operation, process_board}
use Rattle.cal_run.specs.declared.operation.Operation.{Operation}
use Rattle.cal_script.specs.declared.journal.Placed.{Placed}
use Rattle.cal_script.specs.declared.script.Script.{Script}
use Rattle.cal_value.specs.declared.variant.Variant.{Variant}
use Rattle.cal_words.specs.declared.op.OpRec.{OpRec}
use Rattle.cal_words.specs.declared.sort.NodeSort.{NodeSort}
use Rattle.cal_words.specs.declared.sort.OpSort.{OpSort}

-- ---- what was read

-- a seat has seen no more operations than there are slots
pub seen-within : (slots : ℕ) (v : View OpSort) (h : List OpRec) → HasSeen slots v h
    → length h ≤ slots
seen-within slots v [] seen = omega arith
seen-within slots v (op ∷ ops) seen =
    let l : length ops < length (op ∷ ops) = omega arith in
    let has = (seen (length ops) op l).0 in omega (arith, has)

pub seen-later : (slots : ℕ) (v w : View OpSort) (h : List OpRec) → KnowsMore v w
    → HasSeen slots v h → HasSeen slots w h
seen-later slots v w h more seen k d l =
    has_op_later slots v w k (slice_index_or h k d) more (seen k d l)

-- one more
pub seen-more : (slots : ℕ) (v w : View OpSort) (h : List OpRec) (op : OpRec) (k : ℕ)
    → KnowsMore v w → HasSeen slots v h → length h ≡ k → HasOp slots w k op
    → HasSeen slots w (h ++ op ∷ [])
seen-more slots v w h op k more seen long has i d l = by (cases_lt i (length h))
  where
    by : (i < length h) ⊎ (length h ≤ i) → HasOp slots w i (get_or (h ++ op ∷ []) i d)
    by (inl m) = subst (λ (o : OpRec). HasOp slots w i o)
        (sym (get_or_append_left h (op ∷ []) d i m)) (seen-later slots v w h more seen i d m)
    by (inr m) =
        let at : length h ≡ i = omega (arith, l, m, length-append h (op ∷ [])) in
        let here : k ≡ i = sym long ∙ at in
        subst (λ (o : OpRec). HasOp slots w i o) (sym (get_or_push h op d i at))
        (subst (λ (p : ℕ). HasOp slots w p op) here has)

-- the process's board behind one operation more
pub board-more : (script : Script) (h : List OpRec) (op : OpRec) → IsOpOf script op
    → process_board script (history_of (h ++ op ∷ [])) (length h + 1)
    ≡ board_with script (process_board script (history_of h) (length h)) (operation_in op)
board-more script h op is =
    let long : length (history_of h) ≡ length h = length-map h placed_as in
    let before : Blackboard Variant = process_board script (history_of h) (length h) in
    ap (λ (ps : List Placed). process_board script ps (length h + 1))
    (map-append placed_as h (op ∷ []))
    ∙ ap (λ (n : ℕ). process_board script (history_of h ++ placed_as op ∷ []) (n + 1)) (sym long)
    ∙ process_board-push script (history_of h) (placed_as op)
    ∙ ap (λ (n : ℕ). board_placed script (process_board script (history_of h) n)
    (placed_operation script (placed_as op))) long
    ∙ ap (λ (o : Option Operation). board_placed script before o) is.does

-- ---- what a seat learned

learns-nothing : (v : View OpSort) → OnlyLearns v v
learns-nothing v = record {
  number = refl;
  used = refl;
  published = refl;
  others = refl;
  more = λ i x s. s;
}

learns-then : (u v w : View OpSort) → OnlyLearns u v → OnlyLearns v w → OnlyLearns u w
learns-then u v w a b = record {
  number = b.number ∙ a.number;
  used = b.used ∙ a.used;
  published = b.published ∙ a.published;
  others = b.others ∙ a.others;
  more = λ i x s. b.more i x (a.more i x s);
}

pub only-learns : (v w : View OpSort) → Learns v w → OnlyLearns v w
only-learns v w l = record {
  number = ap (λ (x : View OpSort). x.number) l.same;
  used = ap (λ (x : View OpSort). x.used) l.same;
  published = ap (λ (x : View OpSort). x.published) l.same;
  others = ap (λ (x : View OpSort). x.others) l.same;
  more = l.more;
}

only-notes : (k : ℕ) (v w : View OpSort) → Learns (noting k v) w → OnlyLearns v w
only-notes k v w l = record {
  number = ap (λ (x : View OpSort). x.number) l.same;
  used = ap (λ (x : View OpSort). x.used) l.same;
  published = ap (λ (x : View OpSort). x.published) l.same;
  others = ap (λ (x : View OpSort). x.others) l.same;
  more = λ i x s. l.more i x s;
}

-- ---- operation after operation

module _ (common : Common) where
  pub takes-nothing : (s : RowSeat NodeSort) (p : Replica) (h : List OpRec)
      → HasTaken common s p h → TakesMore common s s p p h
  takes-nothing s p h t = record {
    ops = [];
    learns = learns-nothing (view p.log);
    taken = subst (HasTaken common s p) (sym (append-nil h)) t;
    words = omega arith;
  }

  -- one more
  pub takes-then : (s t u : RowSeat NodeSort) (old mid new : Replica) (h : List OpRec)
      → TakesMore common s t old mid h
      → ((g : List OpRec) → HasTaken common t mid g → TakesOne common t u mid new g)
      → TakesMore common s u old new h
  takes-then s t u old mid new h m step =
      let o = step (h ++ m.ops) m.taken in
      let had = m.words in
      let has = o.words in
      let sum = sum_by_push (λ (op : OpRec). words_made common.script.now (operation_in op)) m.ops
      o.op in
      record {
        ops = m.ops ++ o.op ∷ [];
        learns = learns-then (view old.log) (view mid.log) (view new.log) m.learns
            (only-learns (view mid.log) (view new.log) o.learns);
        taken = subst (HasTaken common u new) (append_assoc h m.ops (o.op ∷ [])) o.taken;
        words = omega (arith, had, has, sum);
      }

  pub takes-looks : (t u : RowSeat NodeSort) (mid new : Replica) (g : List OpRec)
      → TakesOne common t u mid new g → KeepsLooks mid new
  takes-looks t u mid new g o = ap (λ (x : View OpSort). x.looks) o.learns.same

  -- and none more
  pub takes-end : (s t u : RowSeat NodeSort) (old mid new : Replica) (h : List OpRec)
      → KeepsLooks old mid → TakesMore common s t old mid h
      → ((g : List OpRec) → HasTaken common t mid g → TakesNone common t u mid new g)
      → new.seen ≡ mid.seen → TakesAll common s u old new h
  takes-end s t u old mid new h kept m step count =
      let n = step (h ++ m.ops) m.taken in
      let v = view mid.log in
      let w = view new.log in
      let learns : OnlyLearns v w = ⊎_elim
      (λ e. subst (λ (x : View OpSort). OnlyLearns v x) (sym e.1) (learns-nothing v))
      (λ e. only-notes mid.seen v w e.2) n.end in
      record {
        more = record {
          ops = m.ops;
          learns = learns-then (view old.log) v w m.learns learns;
          taken = n.taken;
          words = subst (λ (r : RowSeat NodeSort). AddsWords common s r
              (words_of_ops common.script.now m.ops)) (sym n.seat) m.words;
        };
        end = ⊎_elim (λ e. inl (count ∙ e.0))
            (λ e. inr (ap (λ (x : View OpSort). x.looks) e.2.same
            ∙ (λ j. kept j ++ sym count j ∷ []))) n.end;
      }

  takes-as : (t u : RowSeat NodeSort) (mid new : Replica) (b d : Bool) → b ≡ d
      → ((g : List OpRec) → HasTaken common t mid g → Takes common t u mid new g b)
      → (g : List OpRec) → HasTaken common t mid g → Takes common t u mid new g d
  takes-as t u mid new b d e f = subst (λ (x : Bool). (g : List OpRec) → HasTaken common t mid g
      → Takes common t u mid new g x) e f

  pub takes-one : (t u : RowSeat NodeSort) (mid new : Replica) (b : Bool) → b ≡ true
      → ((g : List OpRec) → HasTaken common t mid g → Takes common t u mid new g b)
      → (g : List OpRec) → HasTaken common t mid g → TakesOne common t u mid new g
  takes-one t u mid new b e f = takes-as t u mid new b true e f

  -- and there is room for all that are still to come
  pub may-take-more : (t u : RowSeat NodeSort) (mid new : Replica) (h : List OpRec)
      → MayTake common t mid h → (one : TakesOne common t u mid new h)
      → MayTake common u new (h ++ one.op ∷ [])
  may-take-more t u mid new h may one = record {
    taken = one.taken;
    thread = may.thread;
    done = may.done;
    uses =
        let push = sum_by_push (λ (op : OpRec). words_made common.script.now (operation_in op)) h
        one.op in
        let uses = may.uses in
        let adds = one.words in
        omega (arith, push, uses, adds);
  }

  pub takes-none : (t u : RowSeat NodeSort) (mid new : Replica) (b : Bool) → b ≡ false
      → ((g : List OpRec) → HasTaken common t mid g → Takes common t u mid new g b)
      → (g : List OpRec) → HasTaken common t mid g → TakesNone common t u mid new g
  takes-none t u mid new b e f = takes-as t u mid new b false e f

-- how many were seen, by whether one more was
pub count-more : (b : Bool) (n k : ℕ) → b ≡ true → n ≡ (if b then k + 1 else k) → n ≡ k + 1
count-more b n k e is = is ∙ ap (λ (x : Bool). if x then k + 1 else k) e

pub count-same : (b : Bool) (n k : ℕ) → b ≡ false → n ≡ (if b then k + 1 else k) → n ≡ k
count-same b n k e is = is ∙ ap (λ (x : Bool). if x then k + 1 else k) e

is-true : (b : Bool) → (b ≡ false → ⊥) → b ≡ true
is-true true f = refl
is-true false f = absurd (f refl)

-- a place that is known is taken in
pub must-take : (common : Common) (t u : RowSeat NodeSort) (mid new : Replica) (b : Bool)
    (place : ℕ) → mid.seen < place → place ≤ slots_of common.log
    → KnowsBelow (slots_of common.log) (view mid.log) place
    → (g : List OpRec) → HasTaken common t mid g
    → ((g : List OpRec) → HasTaken common t mid g → Takes common t u mid new g b) → b ≡ true
must-take common t u mid new b place less inside known g taken takes = is-true b (λ e.
    let n = takes-none common t u mid new b e takes g taken in
    ⊎_elim (λ x. let at = x.0 in absurd (omega (arith, at, less, inside)))
    (λ x.
    let r = (known mid.seen less).1 in
    x.1.unknown (was_seen_from (view mid.log).seen (mid.seen + 1) r.slot r.known)) n.end)
