-- Messages and mails. A message is a part, or (None) a sender's last message; a mail is a message
-- with its sender's number.
use Rattle.std.specs.Prelude.{ℕ, ◌==◌, if◌then◌else◌, Bool, true, false, Option, Some, None, List}
use Rattle.std.specs.Prelude.{[], ◌∷◌, filter_map}
use Rattle.std.specs.Option.{option_map}
use Rattle.cal_mail.specs.declared.mail.Mail.{Mail}
use Rattle.cal_mail.specs.declared.mail.Received.{Received}

-- the parts among some messages
abbrev pub parts_among : {T : Type 0} → List (Option T) → List T
parts_among messages = filter_map (λ message. message) messages

-- whether the last message is among some
abbrev pub has_last : {T : Type 0} → List (Option T) → Bool
has_last [] = false
has_last (None ∷ messages) = true
has_last (Some part ∷ messages) = has_last messages

-- some parts, and then the last message
abbrev pub ended_with : {T : Type 0} → List T → List (Option T)
ended_with [] = None ∷ []
ended_with (part ∷ parts) = Some part ∷ ended_with parts

module _ {T : Type 0} where
  -- the messages of a sender among some mails, in order
  abbrev pub of : ℕ → List (Mail T) → List (Option T)
  of sender [] = []
  of sender (mail ∷ mails) =
      if mail.sender == sender then mail.part ∷ of sender mails else of sender mails

  -- the part that a mail brings, with its sender
  abbrev pub part_in : Mail T → Option (Received T)
  part_in mail = option_map (λ part. record { sender = mail.sender; part = part }) mail.part

  -- the parts that some mails bring, each with its sender
  abbrev pub parts_in : List (Mail T) → List (Received T)
  parts_in mails = filter_map part_in mails

  -- the parts of a sender among those received, in order
  abbrev pub parts_of : ℕ → List (Received T) → List T
  parts_of sender [] = []
  parts_of sender (one ∷ received) =
      if one.sender == sender then one.part ∷ parts_of sender received else parts_of sender received
