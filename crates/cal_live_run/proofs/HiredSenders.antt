-- The running threads of a run, each with a sender of its own.
use Rattle.std.proofs.Common.{◌≡◌, ℕ, ◌+◌, ◌<◌, ◌≤◌, ◌^◌, Bool, true, List, [], ◌∷◌, ◌++◌}
use Rattle.std.proofs.Common.{length, map, refl, sym, ap, ◌∙◌, subst, arith, ⊎_elim}
use Rattle.std.specs.Prelude.{All, Option, Some, option_map, slice_index_or}
use Rattle.std.proofs.lemmas.List.{length_push, length-map}
use Rattle.cal_book.proofs.Lists.{at_end}
use Rattle.cal_book.specs.Accounts.{blank}
use Rattle.cal_collect.specs.Collecting.{senders_in}
use Rattle.cal_collect.specs.Parts.{tables_for}
use Rattle.cal_collect.specs.declared.law.PartLaw.{PartLaw}
use Rattle.cal_collect.specs.declared.part.Part.{Part}
use Rattle.cal_collect.specs.declared.sender.PartSender.{PartSender}
use Rattle.cal_keeping.specs.Hands.{AccountOf}
use Rattle.cal_keeping.specs.Kept.{AreFresh, AreReady}
use Rattle.cal_keeping.specs.Runners.{lines_left}
use Rattle.cal_keeping.specs.declared.runner.Runner.{Runner}
use Rattle.cal_live.specs.Sending.{Home, IsSendingFor, account_of, sent_by_either}
use Rattle.cal_live.specs.declared.sending.SenderHand.{SenderHand}
use Rattle.cal_start.proofs.ScriptLimits.{few-lines, timed-channels}
use Rattle.cal_live_run.proofs.NextItem.{within-all}
use Rattle.cal_live_run.specs.Hired.{AreHiredBelow, IsHiredToSend}
use Rattle.cal_mail.specs.Ends.{AreNewSenders, IsSenderOf, Mailbox, mailbox_of_sender, number_of}
use Rattle.cal_mail.specs.Ends.{sent_by}
use Rattle.cal_mail.specs.declared.sender.Sender.{Sender}
use Rattle.cal_replay.specs.Workers.{IsHired, lines_of, script_of}
use Rattle.cal_script.specs.declared.script.Channel.{Channel}
use Rattle.cal_start.specs.Runs.{IsRun}
use Rattle.cal_start.specs.declared.run.Run.{Run}
use Rattle.cal_table.specs.declared.shape.TableShape.{TableShape}

-- a hand that has sent nothing has done nothing
pub nothing-done : {Q S : Type 0} (hand : SenderHand Q S) (one : PartSender Q S)
    → hand.sender ≡ Some one → sent_by one.sender ≡ [] → (place : ℕ)
    → account_of hand place ≡ blank
nothing-done {Q} {S} hand one is none place =
    let sent = ap (λ (o : Option (PartSender Q S)). sent_by_either o hand.ended) is ∙ none in
    let given : List Part → AccountOf =
    λ parts. record { given = tables_for place parts; met = []; given_up = 0 } in
    ap given sent

-- what stands behind some items
behind : {A B : Type 0} (f : A → B) (xs ys : List A) (x : A) (d : B)
    → slice_index_or (map f (xs ++ x ∷ ys)) (length xs) d ≡ f x
behind f [] ys x d = refl
behind f (z ∷ xs) ys x d = behind f xs ys x d

-- the next sender is that of its number
pub next-sender : {Q S : Type 0} (mailbox : Mailbox Part (PartLaw S))
    (all done rest : List (PartSender Q S)) (one : PartSender Q S) → done ++ one ∷ rest ≡ all
    → AreNewSenders mailbox (senders_in all)
    → IsSenderOf mailbox (length done) one.sender × (sent_by one.sender ≡ [])
next-sender {Q} {S} mailbox all done rest one split new =
    let sender : PartSender Q S → Sender Q Part (PartLaw S) = λ p. p.sender in
    let there = subst (λ (xs : List (PartSender Q S)).
    IsSenderOf mailbox (length done) (slice_index_or (senders_in xs) (length done) one.sender)
    × (sent_by (slice_index_or (senders_in xs) (length done) one.sender) ≡ [])) (sym split)
    (new (length done) one.sender
    (subst (λ (n : ℕ). length done < n) (sym (length-map all sender))
    (within-all all done rest one split))) in
    subst (λ (s : Sender Q Part (PartLaw S)).
    IsSenderOf mailbox (length done) s × (sent_by s ≡ []))
    (behind sender done rest one one.sender) there

module _ {P Q S : Type 0} (shapes : List TableShape) (run : Run)
    (mailbox : Mailbox Part (PartLaw S)) where
  -- its runner may be started
  pub hired-to-send : IsRun run → (number : ℕ) → number < length (script_of run.shared).threads
      → (r : Runner P (SenderHand Q S)) (one : PartSender Q S) → IsHired run.shared r.worker
      → r.worker.thread.number ≡ number
      → AreFresh account_of (script_of run.shared) r.channels
      → ((timed : Bool) (left : ℕ) → left ≤ 2 ^ 20
      → All (λ (channel : Channel). channel.timer ≡ true → timed ≡ true)
      (script_of run.shared).channels
      → AreReady account_of (IsSendingFor shapes) (script_of run.shared) r.channels timed left)
      → r.channels.thread ≡ number → r.channels.numbers.now ≡ run.numbers
      → r.channels.hand.sender ≡ Some one → IsSenderOf mailbox number one.sender
      → IsHiredToSend shapes run mailbox number r
  hired-to-send is number within r one hired own fresh ready thread numbers sender of =
      let few : length (lines_of (script_of run.shared) r.worker.thread.number) ≤ 2 ^ 20 =
      subst (λ (n : ℕ). length (lines_of (script_of run.shared) n) ≤ 2 ^ 20) (sym own)
      (few-lines (script_of run.shared) number is.shared.common.runnable within) in
      let home : Mailbox Part (PartLaw S) → ℕ → Option (Home S) =
      λ m n. Some (record { mailbox = m; number = n }) in
      record {
        hired = record {
          worker = hired;
          fresh = fresh;
          thread = thread ∙ sym own;
          ready = ready run.shared.timers.some (lines_left run.shared r.worker)
              (omega (arith, few))
              (timed-channels (script_of run.shared) run.shared.timers is.shared.timers);
        };
        own = own;
        numbers = numbers;
        home = ap (option_map (λ (s : PartSender Q S). record {
          mailbox = mailbox_of_sender s.sender;
          number = number_of s.sender;
        })) sender
            ∙ ap (λ m. home m (number_of one.sender)) of.mailbox_is
            ∙ ap (home mailbox) of.number_is;
      }

  -- no runner yet
  pub hired-none : (number : ℕ) → number ≡ 0 → (runners : List (Runner P (SenderHand Q S)))
      → runners ≡ [] → AreHiredBelow shapes run mailbox runners number
  hired-none number is_zero runners none = subst
      (λ (rs : List (Runner P (SenderHand Q S))). AreHiredBelow shapes run mailbox rs number)
      (sym none) (record { many = sym is_zero; each = λ k r at. cc })

  -- one more
  pub hired-more : (runners : List (Runner P (SenderHand Q S))) (number : ℕ)
      (r : Runner P (SenderHand Q S)) → AreHiredBelow shapes run mailbox runners number
      → IsHiredToSend shapes run mailbox number r
      → AreHiredBelow shapes run mailbox (runners ++ r ∷ []) (number + 1)
  hired-more runners number r below here = record {
    many = length_push runners r ∙ ap (λ (n : ℕ). n + 1) below.many;
    each = λ k s at. ⊎_elim (λ was. below.each k s was)
        (λ end. subst (λ (n : ℕ). IsHiredToSend shapes run mailbox n s)
        (sym (end.1 ∙ below.many))
        (subst (λ (x : Runner P (SenderHand Q S)). IsHiredToSend shapes run mailbox number x) end.0
        here))
        (at_end runners r s k at);
  }
