-- What contracts see of a mailbox: whose a sender is, what senders sent, and what the collector
-- received.
use Rattle.std.specs.Prelude.{◌≡◌, ℕ, ◌<◌, true, Option, Some, List, [], length}
use Rattle.std.specs.Prelude.{map, slice_index_or}
use Rattle.std.specs.declared.alloc.Global.{Global}
use Rattle.atomic_table.specs.declared.badge.Badge.{Badge}
use Rattle.crossbeam_channel.specs.Claims.{IsSeatAt, view}
use Rattle.crossbeam_channel.specs.Ends.{sends_on}
use Rattle.crossbeam_channel.specs.declared.flavors.array.Doing.{Doing}
use Rattle.crossbeam_channel.specs.declared.flavors.array.Key.{Key}
use Rattle.crossbeam_channel.specs.declared.flavors.array.Lockers.{Lockers}
use Rattle.crossbeam_channel.specs.declared.flavors.array.Rounds.{Rounds}
use Rattle.crossbeam_channel.specs.declared.flavors.array.Rows.{Rows}
use Rattle.crossbeam_channel.specs.declared.flavors.array.Whole.{Whole}
use Rattle.cal_mail.specs.declared.collector.Collector.{Collector}
use Rattle.cal_mail.specs.declared.ended.Ended.{Ended}
use Rattle.cal_mail.specs.declared.mail.Mail.{Mail}
use Rattle.cal_mail.specs.declared.mail.Received.{Received}
use Rattle.cal_mail.specs.declared.rule.InOrder.{InOrder}
use Rattle.cal_mail.specs.declared.sender.Sender.{Sender}
use Rattle.cal_mail.specs.declared.view.View.{View}
use Rattle.cal_mail.specs.Messages.{has_last, of, parts_among, parts_in, parts_of}

-- the channel of a mailbox
abbrev pub Mailbox : Type 0 → Type 0 → Type 0
Mailbox T L = Rows (Badge (Key (Mail T))) (Doing (Mail T) (View T)) (Rounds (InOrder L))
    (Option (Mail T)) (Key (Mail T)) (Lockers Whole) Global

module _ {Q T L : Type 0} where
  -- the mailbox of a sender, its number, and the parts that it sent, in order
  abbrev pub mailbox_of_sender : Sender Q T L → Mailbox T L
  mailbox_of_sender sender = sends_on sender.end

  abbrev pub number_of : Sender Q T L → ℕ
  number_of sender = sender.number

  abbrev pub sent_by : Sender Q T L → List T
  sent_by sender = parts_among (view sender.pass).sent

  -- the sender is that of a number of a mailbox
  pub record IsSenderOf (mailbox : Mailbox T L) (number : ℕ) (sender : Sender Q T L) : Type 0 where
    pub mailbox_is : mailbox_of_sender sender ≡ mailbox
    pub number_is : number_of sender ≡ number

  -- the mailbox of a collector, how many senders it has, and the parts that were received, in order
  abbrev pub mailbox_of : Collector Q T L → Mailbox T L
  mailbox_of collector = sends_on collector.own

  abbrev pub senders_of : Collector Q T L → ℕ
  senders_of collector = length (view collector.pass).others

  abbrev pub received_by : Collector Q T L → List (Received T)
  received_by collector = parts_in (view collector.pass).got

  -- each sender's last message was received
  abbrev pub AllLastCame : Collector Q T L → Type 0
  AllLastCame collector = (number : ℕ) → number < senders_of collector
      → has_last (of number (view collector.pass).got) ≡ true

-- the parts that a sender had sent when it ended
abbrev pub sent_in : {T : Type 0} → Ended T → List T
sent_in ended = parts_among (view ended.pass).sent

-- the sender of a number of a mailbox has ended
pub record IsEndedOf {T L : Type 0} (mailbox : Mailbox T L) (number : ℕ) (ended : Ended T)
    : Type 0 where
  pub at : IsSeatAt mailbox ended.pass
  pub sender_is : (view ended.pass).sender ≡ Some number

-- the ended senders of a mailbox, in the order of their numbers
abbrev pub AreEndedOf : {T L : Type 0} → Mailbox T L → List (Ended T) → Type 0
AreEndedOf mailbox ended = (number : ℕ) (one : Ended _) → number < length ended
    → IsEndedOf mailbox number (slice_index_or ended number one)

-- what was received of each sender is what it had sent, in its order, and nothing of another one
abbrev pub IsWhole : {T : Type 0} → List (Received T) → List (Ended T) → Type 0
IsWhole received ended = (number : ℕ)
    → parts_of number received ≡ slice_index_or (map sent_in ended) number []

-- the passes of all ended senders were taken in
pub record TakesAll {T : Type 0} (ended : List (Ended T)) (v w : View T) : Type 0 where
  pub live : w.live ≡ v.live
  pub sender : w.sender ≡ v.sender
  pub got : w.got ≡ v.got
  pub others : w.others ≡ map (λ (one : Ended T). Some (view one.pass).sent) ended

-- the senders of a mailbox, in the order of their numbers, which have sent nothing
abbrev pub AreNewSenders : {Q T L : Type 0} → Mailbox T L → List (Sender Q T L) → Type 0
AreNewSenders {Q} {T} {L} mailbox senders = (number : ℕ) (one : Sender Q T L)
    → number < length senders
    → IsSenderOf mailbox number (slice_index_or senders number one)
    × (sent_by (slice_index_or senders number one) ≡ [])
