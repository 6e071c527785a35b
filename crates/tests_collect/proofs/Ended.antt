-- One sender: it has sent nothing, and then it has ended.
use Rattle.std.proofs.Common.{◌≡◌, ℕ, zero, suc, List, [], ◌∷◌, ◌++◌, length, sym, ap, subst, arith, length-append}
use Rattle.cal_mail.specs.declared.ended.Ended.{Ended}
use Rattle.cal_mail.specs.Ends.{Mailbox, AreEndedOf, AreNewSenders, IsEndedOf, IsSenderOf, mailbox_of_sender, number_of, sent_by}
use Rattle.cal_collect.specs.Collecting.{senders_in}
use Rattle.cal_collect.specs.declared.law.PartLaw.{PartLaw}
use Rattle.cal_collect.specs.declared.part.Part.{Part}
use Rattle.cal_collect.specs.declared.sender.PartSender.{PartSender}

module _ {S : Type 0} (mailbox : Mailbox Part (PartLaw S)) where
  only : (one : Ended Part) → IsEndedOf mailbox 0 one → AreEndedOf mailbox (one ∷ [])
  only one is zero d below = is
  only one is (suc number) d below = absurd (omega arith)

alone : {Q S : Type 0} (senders left : List (PartSender Q S)) (sender : PartSender Q S) → length senders ≡ 1 → senders ≡ left ++ sender ∷ [] → senders ≡ sender ∷ []
alone senders [] sender one split = split
alone senders (x ∷ left) sender one split =
    let long = ap length split in
    let rest = length-append left (sender ∷ []) in
    absurd (omega (arith, one, long, rest))

module _ {Q S : Type 0} (mailbox : Mailbox Part (PartLaw S)) where
  new_one : (senders left : List (PartSender Q S)) (sender : PartSender Q S) → length senders ≡ 1 → AreNewSenders mailbox (senders_in senders) → senders ≡ left ++ sender ∷ [] → IsSenderOf mailbox 0 sender.sender × (sent_by sender.sender ≡ [])
  new_one senders left sender one are split =
      subst (λ (l : List (PartSender Q S)). AreNewSenders mailbox (senders_in l)) (alone senders left sender one split) are 0 sender.sender (omega arith)

  pub fresh_one : (senders left : List (PartSender Q S)) (sender : PartSender Q S) → length senders ≡ 1 → AreNewSenders mailbox (senders_in senders) → senders ≡ left ++ sender ∷ [] → sent_by sender.sender ≡ []
  fresh_one senders left sender one are split = let new = new_one senders left sender one are split in new.1

  pub one_ended : (senders left : List (PartSender Q S)) (sender : PartSender Q S) (one : Ended Part) (ended : List (Ended Part)) → length senders ≡ 1 → AreNewSenders mailbox (senders_in senders) → senders ≡ left ++ sender ∷ [] → IsEndedOf (mailbox_of_sender sender.sender) (number_of sender.sender) one → ended ≡ one ∷ [] → AreEndedOf mailbox ended
  one_ended senders left sender one ended count are split is all =
      let new = new_one senders left sender count are split in
      subst (λ (l : List (Ended Part)). AreEndedOf mailbox l) (sym all)
      (only mailbox one (subst (λ (n : ℕ). IsEndedOf mailbox n one) new.0.number_is
      (subst (λ (m : Mailbox Part (PartLaw S)). IsEndedOf m (number_of sender.sender) one) new.0.mailbox_is is)))
