-- The rule of the channel, which holds between any two steps of any threads: what was received of
-- a sender, and then what the channel holds of it, is what it sent, and each part might be sent.
use Rattle.std.specs.Prelude.{◌≡◌, ◌⊎◌, ℕ, zero, suc, ◌<◌, Bool, true, false, Option, Some, None}
use Rattle.std.specs.Prelude.{List, [], ◌∷◌, ◌++◌, ⊤, length, slice_index_or, All, IsSome}
use mathlib.Core.Option.{some}
use lib.ListN.{get_elem?}
use Rattle.cal_mail.specs.declared.mail.Mail.{Mail}
use Rattle.cal_mail.specs.declared.view.View.{View}
use Rattle.cal_mail.specs.Messages.{of, parts_among}

-- what a sender sent, once its pass was taken in
abbrev pub sent_at : {A : Type 0} → List (Option (List A)) → ℕ → List A
sent_at [] sender = []
sent_at (None ∷ others) zero = []
sent_at (Some sent ∷ others) zero = sent
sent_at (one ∷ others) (suc sender) = sent_at others sender

module _ {T : Type 0} where
  -- what the collector is told of the senders: what each sent, once its pass was taken in
  abbrev pub told_by : Bool → List (Option T) → Option (List (Option T))
  told_by false sent = Some sent
  told_by true sent = None

  abbrev pub told : List (View T) → List (List (Option T)) → List (Option (List (Option T)))
  told [] sents = []
  told (v ∷ vs) [] = []
  told (v ∷ vs) (sent ∷ sents) = told_by v.live sent ∷ told vs sents

  -- the sender of a number knows what it sent
  pub record Sits (sender : ℕ) (v : View T) (sent : List (Option T)) : Type 0 where
    pub live : v.live ≡ true
    pub sender_is : v.sender ≡ Some sender
    pub sent_is : v.sent ≡ sent

  -- where each sender's pass was taken in: what was received and what the channel holds is what
  -- they sent
  abbrev pub Accounts : View T → List (Mail T) → Type 0
  Accounts v items = v.sender ≡ None → All IsSome v.others
      → (sender : ℕ) → of sender (v.got ++ items) ≡ sent_at v.others sender

module _ {T : Type 0} (may_send : List T → T → Type 0) where
  -- after these messages of a sender this one may follow: the last one always
  abbrev pub MayFollow : List (Option T) → Option T → Type 0
  MayFollow sent None = ⊤
  MayFollow sent (Some part) = may_send (parts_among sent) part

  -- each message might follow those before it
  abbrev pub IsLawful : List (Option T) → Type 0
  IsLawful sent = (before : List (Option T)) (message : Option T) (after : List (Option T))
      → before ++ message ∷ after ≡ sent → MayFollow before message

  -- what the collector learns of a mail: a sender of the mailbox sent it, and it might follow what
  -- was received of that sender
  abbrev pub Tells : View T → Mail T → Type 0
  Tells v mail = (mail.sender < length v.others) × MayFollow (of mail.sender v.got) mail.part

  pub record Kept (items : List (Mail T)) (views : List (View T)) : Type 0 where
    pub first : View T
    pub rest : List (View T)
    pub views_are : views ≡ first ∷ rest
    -- what each sender sent
    pub sents : List (List (Option T))
    pub long : length sents ≡ length rest
    pub live : first.live ≡ true
    pub collects : first.sender ≡ None
    pub others_are : first.others ≡ told rest sents
    pub seats : (sender : ℕ) (v : View T) (sent : List (Option T))
        → get_elem? rest sender ≡ some v → get_elem? sents sender ≡ some sent
        → (v.live ≡ false) ⊎ Sits sender v sent
    pub lawful : (sender : ℕ) (sent : List (Option T)) → get_elem? sents sender ≡ some sent
        → IsLawful sent
    pub sums : (sender : ℕ) → of sender (first.got ++ items) ≡ slice_index_or sents sender []
