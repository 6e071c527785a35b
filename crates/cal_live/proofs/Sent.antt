-- What a thread has given for each channel, when its sender has sent one part more.
use Rattle.std.proofs.Common.{◌≡◌, ◌≢◌, ℕ, Bool, true, false, cond, eqb, List, [], ◌∷◌, ◌++◌}
use Rattle.std.proofs.Common.{refl, sym, ap, ◌∙◌, subst, eq-eqb, ne_eqb}
use Rattle.std.specs.Prelude.{Option, Some, slice_get}
use Rattle.std.proofs.lemmas.List.{append-nil}
use Rattle.std.proofs.lemmas.List.Elements.{All-append, All-cons, All-nil}
use Rattle.cal_book.specs.Accounts.{more_given}
use Rattle.cal_collect.specs.Parts.{part_of, tables_for}
use Rattle.cal_collect.specs.declared.part.Part.{Part}
use Rattle.cal_collect.specs.declared.sender.PartSender.{PartSender}
use Rattle.cal_keeping.specs.Hands.{AccountOf}
use Rattle.cal_live.specs.Sending.{AreMade, account_of, sent_by_either, sent_of}
use Rattle.cal_live.specs.declared.sending.SenderHand.{SenderHand}
use Rattle.cal_mail.specs.Ends.{sent_by}
use Rattle.cal_table.specs.Tables.{TableValue}
use Rattle.cal_table.specs.declared.shape.TableShape.{TableShape}

-- ---- the tables for a channel among parts

longer-by : (b : Bool) (table : TableValue) (new old more : List TableValue) → new ≡ old ++ more
    → cond b (table ∷ new) new ≡ cond b (table ∷ old) old ++ more
longer-by true table new old more is = ap (λ (ts : List TableValue). table ∷ ts) is
longer-by false table new old more is = is

tables_for-append : (place : ℕ) (sent more : List Part)
    → tables_for place (sent ++ more) ≡ tables_for place sent ++ tables_for place more
tables_for-append place [] more = refl
tables_for-append place (part ∷ sent) more =
    longer-by (eqb part.channel place) part.table (tables_for place (sent ++ more))
    (tables_for place sent) (tables_for place more) (tables_for-append place sent more)

one-here : (channel : ℕ) (table : TableValue)
    → tables_for channel (part_of channel table ∷ []) ≡ table ∷ []
one-here channel table = ap (λ (b : Bool). cond b (table ∷ []) []) (eq-eqb channel channel refl)

one-away : (place channel : ℕ) (table : TableValue) → place ≢ channel
    → tables_for place (part_of channel table ∷ []) ≡ []
one-away place channel table away = ap (λ (b : Bool). cond b (table ∷ []) [])
    (ne_eqb channel place (λ same. away (sym same)))

-- ---- the shapes of the tables

-- one part more is of the shape of its channel
pub made-more : (own : List TableShape) (sent all : List Part) (channel : ℕ) (table : TableValue)
    → all ≡ sent ++ part_of channel table ∷ [] → slice_get own channel ≡ Some table.shape
    → AreMade own sent → AreMade own all
made-more own sent all channel table all_are shape made =
    let of_channel : Part → Type 0 =
    λ part. slice_get own part.channel ≡ Some part.table.shape in
    subst (AreMade own) (sym all_are)
    (All-append of_channel sent (part_of channel table ∷ []) made
    (All-cons of_channel (part_of channel table) [] shape (All-nil of_channel)))

-- ---- what a thread has given

-- for a channel, these tables
abbrev given : List TableValue → AccountOf
given tables = record { given = tables; met = []; given_up = 0 }

module _ {Q S : Type 0} (old new : SenderHand Q S) (was is : PartSender Q S) (channel : ℕ)
    (table : TableValue) (was_is : old.sender ≡ Some was) (new_is : new.sender ≡ Some is)
    (sent : sent_by is.sender ≡ sent_by was.sender ++ part_of channel table ∷ []) where
  sent-more : sent_of new ≡ sent_of old ++ part_of channel table ∷ []
  sent-more =
      ap (λ (one : Option (PartSender Q S)). sent_by_either one new.ended) new_is ∙ sent
      ∙ ap (λ (one : Option (PartSender Q S)).
      sent_by_either one old.ended ++ part_of channel table ∷ []) (sym was_is)

  tables-more : (place : ℕ) → tables_for place (sent_of new)
      ≡ tables_for place (sent_of old) ++ tables_for place (part_of channel table ∷ [])
  tables-more place = ap (tables_for place) sent-more
      ∙ tables_for-append place (sent_of old) (part_of channel table ∷ [])

  -- for the part's channel one table more
  pub given-more : account_of new channel ≡ more_given (account_of old channel) table
  given-more = ap given (tables-more channel
      ∙ ap (λ (ts : List TableValue). tables_for channel (sent_of old) ++ ts)
      (one-here channel table))

  -- and for another one none
  pub given-same : (place : ℕ) → place ≢ channel → account_of new place ≡ account_of old place
  given-same place away = ap given (tables-more place
      ∙ ap (λ (ts : List TableValue). tables_for place (sent_of old) ++ ts)
      (one-away place channel table away) ∙ append-nil (tables_for place (sent_of old)))
