-- What a sender sent, message by message.
use Rattle.std.proofs.Common.{◌≡◌, ℕ, true, false, Bool, cond, eqb, Option, Some, None, List, [], ◌∷◌, ◌++◌, map, get_or, set, refl, sym, ap, ◌∙◌}
use mathlib.Core.Logic.{dite}
use native.Mathlib.Decide.{ℕ_discrete}
use Rattle.std.proofs.lemmas.List.{append-nil, map-append}
use Rattle.std.proofs.lemmas.List.Elements.{filter_map-append}
use Rattle.cal_mail.specs.declared.mail.Mail.{Mail}
use Rattle.cal_mail.specs.Messages.{ended_with, has_last, of, part_in, parts_among, parts_in, parts_of}
use Rattle.cal_mail.proofs.Places.{get_or-set-else}
use Rattle.cal_mail.proofs.Steps.{of-append, of-more}

module _ {T : Type 0} where
  -- a part is sent
  pub parts_among-more : (sent : List (Option T)) (part : T) → parts_among (sent ++ Some part ∷ []) ≡ parts_among sent ++ part ∷ []
  parts_among-more sent part = filter_map-append (λ message. message) sent (Some part ∷ [])

  -- the last message is sent
  pub parts_among-last : (sent : List (Option T)) → parts_among (sent ++ None ∷ []) ≡ parts_among sent
  parts_among-last sent = filter_map-append (λ message. message) sent (None ∷ []) ∙ append-nil (parts_among sent)

  -- as long as the last message wasn't sent, the messages are the parts
  pub going-more : (sent : List (Option T)) (part : T) → sent ≡ map Some (parts_among sent) → sent ++ Some part ∷ [] ≡ map Some (parts_among (sent ++ Some part ∷ []))
  going-more sent part going = ap (λ (l : List (Option T)). l ++ Some part ∷ []) going
      ∙ sym (map-append Some (parts_among sent) (part ∷ [])) ∙ ap (λ (l : List T). map Some l) (sym (parts_among-more sent part))

  ended_with-map : (parts : List T) → map Some parts ++ None ∷ [] ≡ ended_with parts
  ended_with-map [] = refl
  ended_with-map (part ∷ parts) = ap (λ (l : List (Option T)). Some part ∷ l) (ended_with-map parts)

  -- the last message ends them
  pub ended-last : (sent : List (Option T)) → sent ≡ map Some (parts_among sent) → sent ++ None ∷ [] ≡ ended_with (parts_among (sent ++ None ∷ []))
  ended-last sent going = ap (λ (l : List (Option T)). l ++ None ∷ []) going
      ∙ ended_with-map (parts_among sent) ∙ ap (λ (l : List T). ended_with l) (sym (parts_among-last sent))

  pub parts_among-ended_with : (parts : List T) → parts_among (ended_with parts) ≡ parts
  parts_among-ended_with [] = refl
  parts_among-ended_with (part ∷ parts) = ap (λ (l : List T). part ∷ l) (parts_among-ended_with parts)

  -- what was received, once a part more came, or a last message
  pub parts_in-part : (got : List (Mail T)) (mail : Mail T) (part : T) → mail.part ≡ Some part → parts_in (got ++ mail ∷ []) ≡ parts_in got ++ record { sender = mail.sender; part = part } ∷ []
  parts_in-part got mail part is = filter_map-append part_in got (mail ∷ [])
      ∙ ap (λ (p : Option T). parts_in got ++ parts_in (record { sender = mail.sender; part = p } ∷ [])) is

  pub parts_in-last : (got : List (Mail T)) (mail : Mail T) → mail.part ≡ None → parts_in (got ++ mail ∷ []) ≡ parts_in got
  parts_in-last got mail is = filter_map-append part_in got (mail ∷ [])
      ∙ ap (λ (p : Option T). parts_in got ++ parts_in (record { sender = mail.sender; part = p } ∷ [])) is
      ∙ append-nil (parts_in got)

  one_part : (b : Bool) (part : T) (rest : List T) (messages : List (Option T)) → rest ≡ parts_among messages → cond b (part ∷ rest) rest ≡ parts_among (cond b (Some part ∷ messages) messages)
  one_part true part rest messages same = ap (λ (l : List T). part ∷ l) same
  one_part false part rest messages same = same

  no_part : (b : Bool) (rest : List T) (messages : List (Option T)) → rest ≡ parts_among messages → rest ≡ parts_among (cond b (None ∷ messages) messages)
  no_part true rest messages same = same
  no_part false rest messages same = same

  one_mail : (sender from : ℕ) (part : Option T) (got : List (Mail T)) → parts_of sender (parts_in got) ≡ parts_among (of sender got) → parts_of sender (parts_in (record { sender = from; part = part } ∷ got)) ≡ parts_among (of sender (record { sender = from; part = part } ∷ got))
  one_mail sender from None got same = no_part (eqb from sender) (parts_of sender (parts_in got)) (of sender got) same
  one_mail sender from (Some part) got same = one_part (eqb from sender) part (parts_of sender (parts_in got)) (of sender got) same

  -- the parts of a sender are those among its messages
  pub parts_of-parts_in : (sender : ℕ) (got : List (Mail T)) → parts_of sender (parts_in got) ≡ parts_among (of sender got)
  parts_of-parts_in sender [] = refl
  parts_of-parts_in sender (mail ∷ got) = one_mail sender mail.sender mail.part got (parts_of-parts_in sender got)

  has_last-append : (xs ys : List (Option T)) → has_last xs ≡ true → has_last (xs ++ ys) ≡ true
  has_last-append [] ys last = absurd cc
  has_last-append (None ∷ xs) ys last = refl
  has_last-append (Some x ∷ xs) ys last = has_last-append xs ys last

  has_last-end : (xs : List (Option T)) → has_last (xs ++ None ∷ []) ≡ true
  has_last-end [] = refl
  has_last-end (None ∷ xs) = refl
  has_last-end (Some x ∷ xs) = has_last-end xs

  -- a last message that came stays so
  pub came-stays : (sender : ℕ) (got : List (Mail T)) (mail : Mail T) → has_last (of sender got) ≡ true → has_last (of sender (got ++ mail ∷ [])) ≡ true
  came-stays sender got mail last = ap has_last (of-append sender got (mail ∷ [])) ∙ has_last-append (of sender got) (of sender (mail ∷ [])) last

  -- the last message of a sender comes
  came-now : (got : List (Mail T)) (mail : Mail T) → mail.part ≡ None → has_last (of mail.sender (got ++ mail ∷ [])) ≡ true
  came-now got mail is = ap has_last (of-more got mail) ∙ ap (λ (p : Option T). has_last (of mail.sender got ++ p ∷ [])) is ∙ has_last-end (of mail.sender got)

  -- that it came is noted
  pub came-noted : (came : List Bool) (got : List (Mail T)) (mail : Mail T) → mail.part ≡ None → ((number : ℕ) → get_or came number false ≡ true → has_last (of number got) ≡ true) → (number : ℕ) → get_or (set came mail.sender true) number false ≡ true → has_last (of number (got ++ mail ∷ [])) ≡ true
  came-noted came got mail is before number now = dite (ℕ_discrete number mail.sender)
      (λ e. ap (λ (n : ℕ). has_last (of n (got ++ mail ∷ []))) e ∙ came-now got mail is)
      (λ ne. came-stays number got mail (before number (sym (get_or-set-else came mail.sender number true false ne) ∙ now)))
