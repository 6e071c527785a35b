use Rattle.std.proofs.Common.{◌≡◌, ◌+◌, ◌<◌, ℕ, List, ◌∷◌, [], ◌++◌, length}
use Rattle.std.proofs.Common.{append_assoc, append-nil, refl, sym, ap, ◌∙◌, subst, arith, rules}
use Rattle.std.specs.Vec.Iter.{into_iter_items}
use Rattle.std.proofs.lemmas.List.{length_push, nil_from_length}
use Rattle.cal_collect.specs.declared.sender.PartSender.{PartSender}
use Rattle.cal_keeping.specs.declared.runner.Runner.{Runner}
use Rattle.cal_live.specs.declared.sending.SenderHand.{SenderHand}
use Rattle.cal_live_run.proofs.HiredSenders.{hired-more, hired-none, next-sender}
use Rattle.cal_live_run.proofs.NextItem.{within-all}
use Rattle.cal_live_run.specs.Hired.{AreHiredBelow, IsHiredToSend}
use Rattle.cal_mail.specs.Ends.{IsSenderOf, mailbox_of, sent_by}
use Rattle.cal_replay.specs.Workers.{script_of}
use Rattle.cal_thread.specs.Hiring.{HasHired}
use Rattle.cal_live_run.proofs.hiring.hire_all.Goals as goal
use Rattle.cal_live_run.proofs.hiring.hire_all.Goals.{In-None, In-Some}

pub loop-sender-init : goal.loop-sender-init
loop-sender-init g c = record {
  whole = search rules;
  left = search rules;
  number = refl;
  hired = hired-none g.S.Shapes.shapes c.args.run.now
      (mailbox_of c.args._collector.now.collector) 0 refl c.in_ok-runners.runners.items
      c.in_ok-runners.ensures.items;
  first = c.requires.first;
}

-- the senders so far, the next one, and the rest
split : (g : _) (c : In-Some g)
    → c.loop-sender.yielded ++ c.in-Some.sender ∷ into_iter_items c.next.new.self
    ≡ c.args.senders.items
split g c = rw (← c.in-Some.ensures.steps.0) c.loop-sender.invariant.whole

-- the next one is that of the number
next : (g : _) (c : In-Some g)
    → IsSenderOf (mailbox_of c.args._collector.now.collector) c.loop-sender.number
    c.in-Some.sender.sender × (sent_by c.in-Some.sender.sender ≡ [])
next g c = subst (λ (n : ℕ). IsSenderOf (mailbox_of c.args._collector.now.collector) n
    c.in-Some.sender.sender × (sent_by c.in-Some.sender.sender ≡ []))
    (sym c.loop-sender.invariant.number)
    (next-sender (mailbox_of c.args._collector.now.collector) c.args.senders.items
    c.loop-sender.yielded (into_iter_items c.next.new.self) c.in-Some.sender (split g c)
    c.requires.senders)

within : (g : _) (c : In-Some g)
    → c.loop-sender.number < length (script_of c.args.run.now.shared).threads
within g c =
    let less = within-all c.args.senders.items c.loop-sender.yielded
    (into_iter_items c.next.new.self) c.in-Some.sender (split g c) in
    let many = c.requires.many in
    let number = c.loop-sender.invariant.number in
    omega (arith, less, many, number)

pub hire_one-requires-clause-thread : goal.hire_one-requires-clause-thread
hire_one-requires-clause-thread g c =
    within g (goal.at.hire_one-requires-clause-thread g c).In-Some

pub hire_one-requires-clause-sender : goal.hire_one-requires-clause-sender
hire_one-requires-clause-sender g c =
    (next g (goal.at.hire_one-requires-clause-sender g c).In-Some).0

pub hire_one-requires-clause-nothing : goal.hire_one-requires-clause-nothing
hire_one-requires-clause-nothing g c =
    (next g (goal.at.hire_one-requires-clause-nothing g c).In-Some).1

pub hire_one-requires-clause-first : goal.hire_one-requires-clause-first
hire_one-requires-clause-first g c =
    subst (λ (n : ℕ). HasHired c.args.run.now.shared.common c.loop-sender.first.tree
    c.loop-sender.first.log n) (sym c.loop-sender.invariant.number) c.loop-sender.invariant.first

pub overflow_add-number : goal.overflow_add-number
overflow_add-number g c =
    let less = within g (goal.at.overflow_add-number g c).In-Some in
    let few = c.requires.run.shared.common.runnable.few_threads in
    omega (arith, less, few)

pub loop-sender-preserved : goal.loop-sender-preserved
loop-sender-preserved g c =
    let s = (goal.at.loop-sender-preserved g c).In-Some in
    let at = c.loop-sender in
    let mailbox = mailbox_of c.args._collector.now.collector in
    let shapes = g.S.Shapes.shapes in
    let long = length_push at.yielded c.in-Some.sender in
    let next_number = ap (λ (n : ℕ). n + 1) at.invariant.number ∙ sym long in
    let one = c.in_ok-runner.runner in
    let here = subst (λ (n : ℕ). IsHiredToSend shapes c.args.run.now mailbox n one)
    at.invariant.number c.in_ok-runner.ensures.hired in
    record {
      whole = append_assoc at.yielded (c.in-Some.sender ∷ []) (into_iter_items c.next.new.self)
          ∙ split g s;
      left =
          let was = at.invariant.left in
          let gone = c.in-Some.ensures.steps.1 in
          let short = ap length c.in-Some.ensures.steps.0 in
          omega arith;
      number = next_number;
      hired = subst (λ (n : ℕ). AreHiredBelow shapes c.args.run.now mailbox
          c.push.new.self.items n) (sym long)
          (subst (λ (rs : List (Runner _ (SenderHand _ _))).
          AreHiredBelow shapes c.args.run.now mailbox rs (length at.yielded + 1))
          (sym c.in_ok-push.ensures.items)
          (hired-more shapes c.args.run.now mailbox at.runners.items (length at.yielded) one
          at.invariant.hired here));
      first = subst (λ (n : ℕ). HasHired c.args.run.now.shared.common c.hire_one.new.first.tree
          c.hire_one.new.first.log n) next_number c.in_ok-runner.ensures.first;
    }

-- all senders were taken
all : (g : _) (c : In-None g)
    → length c.loop-sender.yielded ≡ length (script_of c.args.run.now.shared).threads
all g c =
    let at = c.loop-sender in
    let none = c.in-None.ensures.steps in
    let left : List (PartSender _ _) = into_iter_items at.sender-iterator in
    let empty : left ≡ [] = nil_from_length left (sym at.invariant.left ∙ none.0) in
    ap length (sym (append-nil at.yielded)
    ∙ ap (λ (xs : List (PartSender _ _)). at.yielded ++ xs) (sym empty) ∙ at.invariant.whole)
    ∙ c.requires.many

pub returns-clause-hired : goal.returns-clause-hired
returns-clause-hired g c =
    subst (λ (n : ℕ). AreHiredBelow g.S.Shapes.shapes c.args.run.now
    (mailbox_of c.args._collector.now.collector) c.loop-sender.runners.items n)
    (all g (goal.at.returns-clause-hired g c).In-None) c.loop-sender.invariant.hired

pub returns-clause-first : goal.returns-clause-first
returns-clause-first g c =
    subst (λ (n : ℕ). HasHired c.args.run.now.shared.common c.loop-sender.first.tree
    c.loop-sender.first.log n)
    (all g (goal.at.returns-clause-first g c).In-None) c.loop-sender.invariant.first
