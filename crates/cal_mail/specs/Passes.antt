-- What each step makes of what a pass knows.
use Rattle.std.specs.Prelude.{ℕ, true, false, Option, Some, None, List, [], ◌∷◌, ◌++◌}
use Rattle.std.specs.Prelude.{length, slice_set}
use Rattle.cal_mail.specs.declared.mail.Mail.{Mail}
use Rattle.cal_mail.specs.declared.view.View.{View}

-- what a sender sent is kept, now that its pass was taken in
abbrev pub with_sent : {A : Type 0} → List (Option A) → Option ℕ → A → List (Option A)
with_sent others None sent = others
with_sent others (Some sender) sent = slice_set others sender (Some sent)

module _ {T : Type 0} where
  -- a sender sent a message
  abbrev pub posting : Mail T → View T → View T
  posting mail v = record v { sent = v.sent ++ mail.part ∷ [] }

  -- the collector received a mail
  abbrev pub getting : Mail T → View T → View T
  getting mail v = record v { got = v.got ++ mail ∷ [] }

  -- the collector of a new mailbox
  abbrev pub collecting : View T
  collecting = record { live = true; sender = None; sent = []; got = []; others = [] }

  -- the collector once it gave a pass away, and that pass, which is the next sender's
  abbrev pub cut_off : View T → View T
  cut_off v = record v { others = v.others ++ None ∷ [] }

  abbrev pub new_sender : View T → View T
  new_sender v = record {
    live = true;
    sender = Some (length v.others);
    sent = [];
    got = [];
    others = [];
  }

  -- the collector once it took a pass in
  abbrev pub joined : View T → View T → View T
  joined v w = record v { others = with_sent v.others w.sender w.sent }

  -- a pass that was taken in says nothing more
  abbrev pub spent : View T
  spent = record { live = false; sender = None; sent = []; got = []; others = [] }
