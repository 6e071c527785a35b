-- What was received of senders that have ended.
use Rattle.std.proofs.Common.{◌≡◌, ℕ, zero, suc, ◌<◌, ◌≤◌, true, Option, Some, IsSome, All, List, [], ◌∷◌, ◌++◌, map, length, get_or, set, take, drop, refl, sym, ap, ◌∙◌, subst, arith, length-append}
use Rattle.std.proofs.lemmas.List.{get_or_append_left, append_assoc}
use Rattle.std.proofs.lemmas.List.Elements.{All-cons, All-nil}
use Rattle.std.proofs.Math.Seq.{get_or-append_seam, drop-append_seam}
use Rattle.crossbeam_channel.specs.Claims.{view}
use Rattle.cal_mail.specs.declared.ended.Ended.{Ended}
use Rattle.cal_mail.specs.declared.mail.Mail.{Mail}
use Rattle.cal_mail.specs.Ends.{Mailbox, AreEndedOf, IsEndedOf, IsWhole, sent_in}
use Rattle.cal_mail.specs.Messages.{has_last, of, parts_among, parts_in}
use Rattle.cal_mail.specs.Rule.{sent_at}
use Rattle.cal_mail.proofs.Sending.{parts_among-ended_with, parts_of-parts_in}
use Rattle.cal_mail.proofs.Steps.{of-append}
use Rattle.cal_mail.proofs.Whole.{whole}

module _ {A : Type 0} where
  none_left : (xs ys : List A) → xs ++ ys ≡ [] → xs ≡ []
  none_left [] ys e = refl
  none_left (x ∷ xs) ys e = absurd cc

  set-take : (others : List A) (n : ℕ) (a : A) (rest : List A) → suc n ≤ length others → set (take (suc n) others ++ rest) n a ≡ take n others ++ a ∷ rest
  set-take [] n a rest below = absurd (omega arith)
  set-take (o ∷ others) zero a rest below = refl
  set-take (o ∷ others) (suc n) a rest below = ap (λ (l : List A). o ∷ l) (set-take others n a rest (omega arith))

module _ {T : Type 0} where
  -- what an ended sender sent, as the collector keeps it
  abbrev pub told_of : Ended T → Option (List (Option T))
  told_of one = Some (view one.pass).sent

  pub all_told : (ended : List (Ended T)) → All IsSome (map told_of ended)
  all_told [] = All-nil IsSome
  all_told (one ∷ ended) = All-cons IsSome (told_of one) (map told_of ended) refl (all_told ended)

  -- the messages of one sender
  whole_one : (ended : List (Ended T)) (number : ℕ) (got left : List (Option T)) → got ++ left ≡ sent_at (map told_of ended) number → (number < length ended → has_last got ≡ true) → parts_among got ≡ get_or (map sent_in ended) number []
  whole_one [] zero got left e came = ap (λ (l : List (Option T)). parts_among l) (none_left got left e)
  whole_one [] (suc number) got left e came = ap (λ (l : List (Option T)). parts_among l) (none_left got left e)
  whole_one (one ∷ ended) zero got left e came =
      ap (λ (l : List (Option T)). parts_among l) (whole got left (sent_in one) (e ∙ one.ended) (came (omega arith)))
      ∙ parts_among-ended_with (sent_in one)
  whole_one (one ∷ ended) (suc number) got left e came = whole_one ended number got left e (λ below. came (omega arith))

  -- of all senders
  pub whole_all : (got items : List (Mail T)) (ended : List (Ended T)) → ((number : ℕ) → of number (got ++ items) ≡ sent_at (map told_of ended) number) → ((number : ℕ) → number < length ended → has_last (of number got) ≡ true) → IsWhole (parts_in got) ended
  whole_all got items ended sums came number =
      parts_of-parts_in number got
      ∙ whole_one ended number (of number got) (of number items) (sym (of-append number got items) ∙ sums number) (came number)

  -- one more is taken in, from the last one on
  pub taken-more : (others : List (Option (List (Option T)))) (all left : List (Ended T)) (one : Ended T)
      → length all ≡ length others
      → all ≡ (left ++ one ∷ []) ++ drop (length (left ++ one ∷ [])) all
      → (all ≡ left ++ drop (length left) all)
      × (set (take (length (left ++ one ∷ [])) others ++ map told_of (drop (length (left ++ one ∷ [])) all)) (length left) (told_of one)
      ≡ take (length left) others ++ map told_of (drop (length left) all))
  taken-more others all left one long split =
      let behind : List (Ended T) = drop (length (left ++ one ∷ [])) all in
      let split_before : all ≡ left ++ one ∷ behind = split ∙ append_assoc left (one ∷ []) behind in
      let now : drop (length left) all ≡ one ∷ behind = ap (drop (length left)) split_before ∙ drop-append_seam left (one ∷ behind) in
      let longer = ap length split_before ∙ length-append left (one ∷ behind) in
      let count : length (left ++ one ∷ []) ≡ suc (length left) = length-append left (one ∷ []) ∙ omega arith in (
        split_before ∙ ap (λ (l : List (Ended T)). left ++ l) (sym now),
        ap (λ (n : ℕ). set (take n others ++ map told_of behind) (length left) (told_of one)) count
            ∙ set-take others (length left) (told_of one) (map told_of behind) (omega arith)
            ∙ ap (λ (l : List (Ended T)). take (length left) others ++ map told_of l) (sym now),
      )

  pub AreEndedOf-front : {L : Type 0} (mailbox : Mailbox T L) (left : List (Ended T)) (one : Ended T) → AreEndedOf mailbox (left ++ one ∷ []) → AreEndedOf mailbox left
  AreEndedOf-front mailbox left one are number d below = let long = length-append left (one ∷ []) in
      subst (IsEndedOf mailbox number) (get_or_append_left left (one ∷ []) d number below) (are number d (omega arith))

  pub AreEndedOf-last : {L : Type 0} (mailbox : Mailbox T L) (left : List (Ended T)) (one : Ended T) → AreEndedOf mailbox (left ++ one ∷ []) → IsEndedOf mailbox (length left) one
  AreEndedOf-last mailbox left one are = let long = length-append left (one ∷ []) in
      subst (IsEndedOf mailbox (length left)) (get_or-append_seam left one [] one) (are (length left) one (omega arith))
