-- What came of each sender, when one part more comes.
use Rattle.std.proofs.Common.{◌≡◌, ◌≢◌, ℕ, ◌<◌, true, false, Bool, cond, eqb, List, [], ◌∷◌, ◌++◌, length, get_or, set, refl, sym, ap, ◌∙◌, subst, eq-eqb, ne_eqb}
use mathlib.Core.Logic.{dite}
use native.Mathlib.Decide.{ℕ_discrete}
use Rattle.std.proofs.lemmas.List.{append-nil, get_or_default, get_or-set_other, get_or-set_same, same_lists}
use Rattle.cal_mail.specs.declared.mail.Received.{Received}
use Rattle.cal_mail.specs.Messages.{parts_of}

module _ {T : Type 0} where
  parts_of-by : (b : Bool) (x : T) (l m n : List T) → l ≡ m ++ n → cond b (x ∷ l) l ≡ cond b (x ∷ m) m ++ n
  parts_of-by true x l m n e = ap (λ (z : List T). x ∷ z) e
  parts_of-by false x l m n e = e

  -- the parts of a sender among some that were received, and then among some more
  parts_of-append : (s : ℕ) (xs ys : List (Received T)) → parts_of s (xs ++ ys) ≡ parts_of s xs ++ parts_of s ys
  parts_of-append s [] ys = refl
  parts_of-append s (x ∷ xs) ys = parts_of-by (eqb x.sender s) x.part (parts_of s (xs ++ ys)) (parts_of s xs) (parts_of s ys) (parts_of-append s xs ys)

  parts_of-more : (xs : List (Received T)) (one : Received T) → parts_of one.sender (xs ++ one ∷ []) ≡ parts_of one.sender xs ++ one.part ∷ []
  parts_of-more xs one = parts_of-append one.sender xs (one ∷ []) ∙ ap (λ (b : Bool). parts_of one.sender xs ++ cond b (one.part ∷ []) []) (eq-eqb one.sender one.sender refl)

  parts_of-other : (s : ℕ) (xs : List (Received T)) (one : Received T) → one.sender ≢ s → parts_of s (xs ++ one ∷ []) ≡ parts_of s xs
  parts_of-other s xs one ne = parts_of-append s xs (one ∷ []) ∙ ap (λ (b : Bool). parts_of s xs ++ cond b (one.part ∷ []) []) (ne_eqb one.sender s ne) ∙ append-nil (parts_of s xs)

  -- the lists of the senders, when a part of one of them comes
  abbrev pub more_sent : List (List T) → Received T → List (List T)
  more_sent sents one = set sents one.sender (get_or sents one.sender [] ++ one.part ∷ [])

  -- at a sender's number, and at another one's
  pub more_sent-here : (sents : List (List T)) (one : Received T) → one.sender < length sents → get_or (more_sent sents one) one.sender [] ≡ get_or sents one.sender [] ++ one.part ∷ []
  more_sent-here sents one below = get_or-set_same sents one.sender (get_or sents one.sender [] ++ one.part ∷ []) [] below

  pub more_sent-other : (sents : List (List T)) (one : Received T) (s : ℕ) → s ≢ one.sender → get_or (more_sent sents one) s [] ≡ get_or sents s []
  more_sent-other sents one s ne = get_or-set_other sents one.sender s (get_or sents one.sender [] ++ one.part ∷ []) [] ne

  -- they are what came of each sender
  pub came-more : (received : List (Received T)) (sents : List (List T)) (one : Received T) → one.sender < length sents → ((s : ℕ) → parts_of s received ≡ get_or sents s []) → (s : ℕ) → parts_of s (received ++ one ∷ []) ≡ get_or (more_sent sents one) s []
  came-more received sents one below came s = dite (ℕ_discrete s one.sender)
      (λ e. ap (λ (n : ℕ). parts_of n (received ++ one ∷ [])) e ∙ parts_of-more received one
      ∙ ap (λ (l : List T). l ++ one.part ∷ []) (came one.sender)
      ∙ sym (more_sent-here sents one below) ∙ ap (λ (n : ℕ). get_or (more_sent sents one) n []) (sym e))
      (λ ne. parts_of-other s received one (λ e. ne (sym e)) ∙ came s ∙ sym (more_sent-other sents one s ne))

  -- lists of lists are the same where they are at each place
  pub lists_same : (xs ys : List (List T)) → length xs ≡ length ys → ((n : ℕ) → get_or xs n [] ≡ get_or ys n []) → xs ≡ ys
  lists_same xs ys long same = same_lists xs ys long
      (λ k d below. get_or_default xs k d [] below ∙ same k
      ∙ get_or_default ys k [] d (subst (λ (n : ℕ). k < n) long below))
