-- One sender that has ended, and two.
use Rattle.std.proofs.Common.{◌≡◌, ℕ, zero, suc, ◌+◌, ◌<◌, List, [], ◌∷◌, ◌++◌, length, sym, ap, ◌∙◌, subst, arith, length-append}
use Rattle.std.proofs.lemmas.List.{get_or_append_left}
use Rattle.std.proofs.Math.Seq.{get_or-append_seam}
use Rattle.cal_mail.specs.declared.ended.Ended.{Ended}
use Rattle.cal_mail.specs.declared.sender.Sender.{Sender}
use Rattle.cal_mail.specs.Ends.{Mailbox, AreEndedOf, AreNewSenders, IsEndedOf, IsSenderOf, mailbox_of_sender, number_of}

module _ {L : Type 0} (mailbox : Mailbox ℕ L) where
  only : (one : Ended ℕ) → IsEndedOf mailbox 0 one → AreEndedOf mailbox (one ∷ [])
  only one is zero d below = is
  only one is (suc number) d below = absurd (omega arith)

  both : (one two : Ended ℕ) → IsEndedOf mailbox 0 one → IsEndedOf mailbox 1 two → AreEndedOf mailbox (one ∷ two ∷ [])
  both one two is next zero d below = is
  both one two is next (suc zero) d below = next
  both one two is next (suc (suc number)) d below = absurd (omega arith)

module _ {Q L : Type 0} (mailbox : Mailbox ℕ L) where
  -- whoever has ended has the number of its sender
  ended_of : (number : ℕ) (sender : Sender Q ℕ L) (one : Ended ℕ) → IsSenderOf mailbox number sender → IsEndedOf (mailbox_of_sender sender) (number_of sender) one → IsEndedOf mailbox number one
  ended_of number sender one is ended = subst (λ (n : ℕ). IsEndedOf mailbox n one) is.number_is
      (subst (λ (m : Mailbox ℕ L). IsEndedOf m (number_of sender) one) is.mailbox_is ended)

  -- the last of some senders
  last_of : (left : List (Sender Q ℕ L)) (sender : Sender Q ℕ L) → AreNewSenders mailbox (left ++ sender ∷ []) → IsSenderOf mailbox (length left) sender
  last_of left sender are = let long = length-append left (sender ∷ []) in
      let last = are (length left) sender (omega arith) in
      subst (IsSenderOf mailbox (length left)) (get_or-append_seam left sender [] sender) last.0

  -- the last but one
  last_but_one : (left : List (Sender Q ℕ L)) (first second : Sender Q ℕ L) → AreNewSenders mailbox ((left ++ first ∷ []) ++ second ∷ []) → IsSenderOf mailbox (length left) first
  last_but_one left first second are =
      let one : List (Sender Q ℕ L) = left ++ first ∷ [] in
      let long = length-append left (first ∷ []) in
      let longer = length-append one (second ∷ []) in
      let there = are (length left) first (omega arith) in
      subst (IsSenderOf mailbox (length left))
      (get_or_append_left one (second ∷ []) first (length left) (omega arith) ∙ get_or-append_seam left first [] first) there.0

  pub one_ended : (senders left : List (Sender Q ℕ L)) (sender : Sender Q ℕ L) (one : Ended ℕ) (ended : List (Ended ℕ)) → length senders ≡ 1 → AreNewSenders mailbox senders → senders ≡ left ++ sender ∷ [] → IsEndedOf (mailbox_of_sender sender) (number_of sender) one → ended ≡ one ∷ [] → AreEndedOf mailbox ended
  one_ended senders left sender one ended count are split is all =
      let long = ap length split ∙ length-append left (sender ∷ []) in
      let none : length left ≡ 0 = omega arith in
      let here = ended_of (length left) sender one (last_of left sender (subst (λ (l : List (Sender Q ℕ L)). AreNewSenders mailbox l) split are)) is in
      subst (λ (l : List (Ended ℕ)). AreEndedOf mailbox l) (sym all)
      (only mailbox one (subst (λ (n : ℕ). IsEndedOf mailbox n one) none here))

  pub two_ended : (senders left rest : List (Sender Q ℕ L)) (first second : Sender Q ℕ L) (one two : Ended ℕ) (ended : List (Ended ℕ)) → length senders ≡ 2 → AreNewSenders mailbox senders → senders ≡ left ++ second ∷ [] → left ≡ rest ++ first ∷ [] → IsEndedOf (mailbox_of_sender first) (number_of first) one → IsEndedOf (mailbox_of_sender second) (number_of second) two → ended ≡ one ∷ two ∷ [] → AreEndedOf mailbox ended
  two_ended senders left rest first second one two ended count are split split_left is_one is_two all =
      let long = ap length split ∙ length-append left (second ∷ []) in
      let longer = ap length split_left ∙ length-append rest (first ∷ []) in
      let none : length rest ≡ 0 = omega arith in
      let single : length left ≡ 1 = omega arith in
      let senders_are = subst (λ (l : List (Sender Q ℕ L)). AreNewSenders mailbox l) split are in
      let last = ended_of (length left) second two (last_of left second senders_are) is_two in
      let front = ended_of (length rest) first one (last_but_one rest first second (subst (λ (l : List (Sender Q ℕ L)). AreNewSenders mailbox (l ++ second ∷ [])) split_left senders_are)) is_one in
      subst (λ (l : List (Ended ℕ)). AreEndedOf mailbox l) (sym all)
      (both mailbox one two (subst (λ (n : ℕ). IsEndedOf mailbox n one) none front) (subst (λ (n : ℕ). IsEndedOf mailbox n two) single last))
