use Rattle.std.proofs.Common.{◌≡◌, ◌+◌, ◌<◌, ◌≤◌, ℕ, List, ◌∷◌, [], ◌++◌, length}
use Rattle.std.proofs.Common.{append_assoc, append-nil, refl, sym, ap, ◌∙◌, subst, ⊎_elim, arith}
use Rattle.std.proofs.Common.{rules}
use Rattle.std.specs.Prelude.{slice_index_or}
use Rattle.std.specs.Vec.Iter.{into_iter_items}
use Rattle.std.proofs.lemmas.Bool.{cases_lt}
use Rattle.std.proofs.lemmas.List.{get_or_append_left, get_or_push, length-append, map-append}
use Rattle.std.proofs.lemmas.List.{nil_from_length}
use Rattle.std.proofs.Math.Seq.{get_or-append_seam}
use Rattle.cal_names.specs.Kept.{plan_of}
use Rattle.cal_names.specs.declared.declare.Declared.{Declared}
use Rattle.cal_naming.proofs.Settling.{settled}
use Rattle.cal_naming.specs.Settled.{IsSettled}
use Rattle.cal_naming.specs.Workers.{HasJoined, IsDone, answers_of, lines_of}
use Rattle.cal_naming.specs.declared.worker.Worker.{Worker}
use Rattle.cal_once.specs.Seats.{view}
use Rattle.cal_naming.proofs.join.join_all.Goals as goal
use Rattle.cal_naming.proofs.join.join_all.Goals.{In-Some}

pub loop-worker-init : goal.loop-worker-init
loop-worker-init c = record {
  whole = search rules;
  left = search rules;
  first = c.requires.first;
  joined = λ k d less. absurd (omega (arith, less));
  answers = c.in_ok-answers.ensures.items;
}

-- the workers so far, the next one, and the rest
split : (c : In-Some) → c.loop-worker.yielded ++ c.in-Some.worker ∷ into_iter_items c.next.new.self
    ≡ c.args.workers.items
split c = rw (← c.in-Some.ensures.steps.0) c.loop-worker.invariant.whole

-- the next one stands behind those so far
here : (c : In-Some) (d : Worker)
    → slice_index_or c.args.workers.items (length c.loop-worker.yielded) d ≡ c.in-Some.worker
here c d = ap (λ xs. slice_index_or xs (length c.loop-worker.yielded) d) (sym (split c))
    ∙ get_or-append_seam c.loop-worker.yielded c.in-Some.worker (into_iter_items c.next.new.self) d

within : (c : In-Some) → length c.loop-worker.yielded < length c.args.workers.items
within c =
    let all = ap length (split c) in
    let sum = length-append c.loop-worker.yielded
    (c.in-Some.worker ∷ into_iter_items c.next.new.self) in
    omega (arith, all, sum)

number : (c : In-Some) → (view c.in-Some.worker.seat).number ≡ length c.loop-worker.yielded + 1
number c = subst (λ (w : Worker). (view w.seat).number ≡ length c.loop-worker.yielded + 1)
    (here c c.in-Some.worker)
    (c.requires.numbers (length c.loop-worker.yielded) c.in-Some.worker (within c))

pub join_one-own-requires-clause-first : goal.join_one-own-requires-clause-first
join_one-own-requires-clause-first c =
    let was = c.loop-worker.invariant.first in
    record { at = was.at; number = was.number; published = was.published; others = refl }

pub join_one-own-requires-clause-done : goal.join_one-own-requires-clause-done
join_one-own-requires-clause-done c =
    let s = (goal.at.join_one-own-requires-clause-done c).In-Some in
    subst (λ (w : Worker). IsDone c.args.names.now w) (here s c.in-Some.worker)
    (c.requires.done (length c.loop-worker.yielded) c.in-Some.worker (within s))

pub join_one-own-requires-clause-number : goal.join_one-own-requires-clause-number
join_one-own-requires-clause-number c =
    let s = (goal.at.join_one-own-requires-clause-number c).In-Some in
    let less = within s in
    let others = c.loop-worker.invariant.first.others in
    (length c.loop-worker.yielded, omega (arith, less, others), number s)

pub loop-worker-preserved : goal.loop-worker-preserved
loop-worker-preserved c =
    let s = (goal.at.loop-worker-preserved c).In-Some in
    let at = c.loop-worker in
    let worker = c.in-Some.worker in
    let was = at.invariant in
    let new = c.join_one-own.new.first in
    let does = c.join_one-own.ensures in
    let is_number = number s in
    record {
      whole = append_assoc at.yielded (worker ∷ []) (into_iter_items c.next.new.self) ∙ split s;
      left =
          let long = was.left in
          let gone = c.in-Some.ensures.steps.1 in
          let short = ap length c.in-Some.ensures.steps.0 in
          omega arith;
      first = record {
        at = does.first.at;
        number = does.first.number;
        published = does.first.published;
        others = does.first.others ∙ was.first.others;
      };
      joined = λ k d less. ⊎_elim
          (λ (l : k < length at.yielded).
          subst (λ (w : Worker). HasJoined new w k)
          (sym (get_or_append_left at.yielded (worker ∷ []) d k l))
          (does.others k (slice_index_or at.yielded k d)
          (λ e. absurd (omega (arith, e, is_number, l))) (was.joined k d l)))
          (λ (m : length at.yielded ≤ k).
          let sum = length-append at.yielded (worker ∷ []) in
          let place : length at.yielded ≡ k = omega (arith, m, less, sum) in
          subst (λ (w : Worker). HasJoined new w k)
          (sym (get_or_push at.yielded worker d k place))
          (does.joined k (is_number ∙ ap (λ n. n + 1) place)))
          (cases_lt k (length at.yielded));
      answers = c.in_ok-push.ensures.items
          ∙ (λ i. was.answers i ++ does.answers i ∷ [])
          ∙ sym (map-append (λ (w : Worker). w.answers.items) at.yielded (worker ∷ []));
    }

pub returns : goal.returns
returns c =
    let at = c.loop-worker in
    let none = c.in-None.ensures.steps in
    let left : List Worker = into_iter_items at.worker-iterator in
    let empty : left ≡ [] = nil_from_length left (sym at.invariant.left ∙ none.0) in
    let all : at.yielded ≡ c.args.workers.items = sym (append-nil at.yielded)
    ∙ ap (λ (xs : List Worker). at.yielded ++ xs) (sym empty) ∙ at.invariant.whole in
    let joined = subst (λ (ws : List Worker). (k : ℕ) (d : Worker) → k < length ws
    → HasJoined at.first (slice_index_or ws k d) k) all at.invariant.joined in
    subst (λ (own : List (List Declared)). IsSettled (plan_of c.args.names.now) (view at.first)
    (lines_of c.args.workers.items) own)
    (sym (at.invariant.answers ∙ ap answers_of all))
    (settled c.args.names.now at.first c.args.workers.items at.invariant.first c.requires.done
    joined)
