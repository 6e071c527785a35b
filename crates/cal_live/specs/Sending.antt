-- What contracts see of a thread's hand whose parts are collected.
use Rattle.std.proofs.Common.{refl, ◌∙◌}
use Rattle.std.specs.Prelude.{◌≡◌, ℕ, Option, Some, None, List, [], All, slice_get}
use Rattle.std.specs.Option.{option_map}
use Rattle.cal_collect.specs.Parts.{tables_for}
use Rattle.cal_collect.specs.declared.law.PartLaw.{PartLaw}
use Rattle.cal_collect.specs.declared.part.Part.{Part}
use Rattle.cal_collect.specs.declared.sender.PartSender.{PartSender}
use Rattle.cal_keeping.specs.Hands.{AccountOf}
use Rattle.cal_live.specs.declared.sending.SenderHand.{SenderHand}
use Rattle.cal_mail.specs.Ends.{IsEndedOf, Mailbox, mailbox_of_sender, number_of, sent_by, sent_in}
use Rattle.cal_mail.specs.declared.ended.Ended.{Ended}
use Rattle.cal_table.specs.declared.shape.TableShape.{TableShape}

-- a mailbox, and the number of a sender there
pub record Home (S : Type 0) : Type 0 where
  pub mailbox : Mailbox Part (PartLaw S)
  pub number : ℕ

-- each part's table is of the shape of its channel
abbrev pub AreMade : List TableShape → List Part → Type 0
AreMade own sent = All (λ (part : Part). slice_get own part.channel ≡ Some part.table.shape) sent

module _ {Q S : Type 0} where
  -- the parts that a sender sent, or else those of an ended one
  abbrev pub sent_by_either : Option (PartSender Q S) → Option (Ended Part) → List Part
  sent_by_either (Some sender) ended = sent_by sender.sender
  sent_by_either None (Some ended) = sent_in ended
  sent_by_either None None = []

  abbrev pub sent_of : SenderHand Q S → List Part
  sent_of hand = sent_by_either hand.sender hand.ended

  -- for the channel at a place the tables of these parts were given; no turn was met
  abbrev pub account_of : SenderHand Q S → ℕ → AccountOf
  account_of hand place = record {
    given = tables_for place (sent_of hand);
    met = [];
    given_up = 0;
  }

  -- It sends tables of the mailbox's shapes, with the thread's number; and all that it sent are.
  pub record IsSendingFor (own : List TableShape) (hand : SenderHand Q S) (thread : ℕ)
      (shapes : List TableShape) : Type 0 where
    pub sender : PartSender Q S
    pub sender_is : hand.sender ≡ Some sender
    pub shapes_are : own ≡ shapes
    pub number_is : number_of sender.sender ≡ thread
    pub made : AreMade own (sent_by sender.sender)

  -- where it sends to, and with which number
  abbrev pub home_of : SenderHand Q S → Option (Home S)
  home_of hand = option_map (λ (one : PartSender Q S). record {
    mailbox = mailbox_of_sender one.sender;
    number = number_of one.sender;
  }) hand.sender

  abbrev pub HasSameHome : (old new : SenderHand Q S) → Type 0
  HasSameHome old new = home_of new ≡ home_of old

  pub home_same : (hand : SenderHand Q S) → HasSameHome hand hand
  home_same hand = refl

  pub home_later : (one two three : SenderHand Q S) → HasSameHome one two
      → HasSameHome two three → HasSameHome one three
  home_later one two three first second = second ∙ first

  -- A sender has ended, with all that it sent.
  pub record HasEndedAs (sender : PartSender Q S) (hand : SenderHand Q S) : Type 0 where
    pub gone : hand.sender ≡ None
    pub ended : Ended Part
    pub ended_is : hand.ended ≡ Some ended
    pub sent : sent_in ended ≡ sent_by sender.sender
    pub at : IsEndedOf (mailbox_of_sender sender.sender) (number_of sender.sender) ended

  -- where there was a sender it has ended, and else nothing is changed
  abbrev pub EndsEither : Option (PartSender Q S) → (old new : SenderHand Q S) → Type 0
  EndsEither (Some sender) old new = HasEndedAs sender new
  EndsEither None old new = new ≡ old

  abbrev pub HasEnded : (old new : SenderHand Q S) → Type 0
  HasEnded old new = EndsEither old.sender old new
