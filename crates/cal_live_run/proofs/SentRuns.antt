-- Runners that were hired with senders, have run, and have ended these.
use Rattle.std.proofs.Common.{◌≡◌, ℕ, ◌≤◌, Bor, true, List, drop, length}
use Rattle.std.proofs.Common.{map, refl, sym, ap, ◌∙◌, subst, arith}
use Rattle.std.specs.Prelude.{All, Option, Some, None, is_some, option_map, slice_get}
use Rattle.std.proofs.lemmas.List.{length-map}
use Rattle.std.proofs.lemmas.Option.{get_or_from_slice_get, same_Some, slice_get_within}
use Rattle.cal_book.proofs.Lists.{at_map, at_mapped}
use Rattle.cal_collect.specs.declared.law.PartLaw.{PartLaw}
use Rattle.cal_collect.specs.declared.part.Part.{Part}
use Rattle.cal_collect.specs.declared.sender.PartSender.{PartSender}
use Rattle.cal_crew.specs.Ran.{HasToldAll}
use Rattle.cal_finish.proofs.LawfulRuns.{at-below}
use Rattle.cal_finish.specs.Ended.{notes_of, threads_of}
use Rattle.cal_keeping.specs.Runners.{IsHiredRunner}
use Rattle.cal_keeping.specs.declared.runner.Runner.{Runner}
use Rattle.cal_live.specs.Ran.{HaveRunAndEnded}
use Rattle.cal_live.specs.Sending.{EndsEither, Home, IsSendingFor, account_of}
use Rattle.cal_live.specs.Sending.{sent_by_either, sent_of}
use Rattle.cal_live.specs.declared.sending.SenderHand.{SenderHand}
use Rattle.cal_live_run.proofs.Chosen.{Chosen, chosen, map-alike}
use Rattle.cal_live_run.specs.Collected.{HasSent, HaveSent, IsHandedOver}
use Rattle.cal_live_run.specs.Hired.{AreHiredToSend}
use Rattle.cal_live_run.specs.declared.handing.Sent.{Sent}
use Rattle.cal_mail.specs.Ends.{AreEndedOf, IsEndedOf, Mailbox, mailbox_of_sender, number_of}
use Rattle.cal_mail.specs.Ends.{sent_in}
use Rattle.cal_mail.specs.declared.ended.Ended.{Ended}
use Rattle.cal_ran.specs.Told.{AreToldAll}
use Rattle.cal_replay.specs.Workers.{lines_of, script_of}
use Rattle.cal_replay.specs.declared.worker.Worker.{Worker}
use Rattle.cal_run.specs.declared.numbers.Numbers.{Numbers}
use Rattle.cal_script.specs.declared.journal.ThreadNote.{ThreadNote}
use Rattle.cal_start.specs.declared.run.Run.{Run}
use Rattle.cal_table.specs.declared.shape.TableShape.{TableShape}

-- What threads of a run that have run have left, whose senders to a mailbox have ended.
pub record AreSentOf (P Q S : Type 0) (shapes : List TableShape) (run : Run)
    (mailbox : Mailbox Part (PartLaw S)) (sent : Sent) : Type 0 where
  pub from : List (Runner P (SenderHand Q S))
  pub have : HaveSent shapes run from
  pub threads : sent.threads.items ≡ threads_of from
  pub notes : sent.notes ≡ notes_of from
  pub channels : sent.channels.items
      ≡ map (λ (r : Runner P (SenderHand Q S)). r.channels.channels) from
  pub many : length sent.ended.items ≡ length (script_of run.shared).threads
  pub ended : AreEndedOf mailbox sent.ended.items
  pub sents : map sent_in sent.ended.items
      ≡ map (λ (r : Runner P (SenderHand Q S)). sent_of r.channels.hand) from

-- where a sender sends to, and with which number
abbrev home_by : {Q S : Type 0} → PartSender Q S → Home S
home_by one = record { mailbox = mailbox_of_sender one.sender; number = number_of one.sender }

module _ {Q S : Type 0} (mailbox : Mailbox Part (PartLaw S)) (number : ℕ) where
  -- the sender of a number of the mailbox has ended, with all that it sent
  pub record HasEndedThere (old new : SenderHand Q S) : Type 0 where
    pub ended : Ended Part
    pub ended_is : new.ended ≡ Some ended
    pub sent : sent_in ended ≡ sent_of old
    pub at : IsEndedOf mailbox number ended

  -- so it has where it was that one's
  ended-there : (had : Option (PartSender Q S)) (old new : SenderHand Q S) → old.sender ≡ had
      → option_map home_by had ≡ Some (record { mailbox = mailbox; number = number })
      → EndsEither had old new → HasEndedThere old new
  ended-there None old new had_is home ends = absurd cc
  ended-there (Some one) old new had_is home ends =
      let same = same_Some (home_by one) (record { mailbox = mailbox; number = number }) home in
      record {
        ended = ends.ended;
        ended_is = ends.ended_is;
        sent = ends.sent
            ∙ sym (ap (λ (o : Option (PartSender Q S)). sent_by_either o old.ended) had_is);
        at = subst (λ (h : Home S). IsEndedOf h.mailbox h.number ends.ended) same ends.at;
      }

module _ {P Q S : Type 0} (shapes : List TableShape) (run : Run)
    (mailbox : Mailbox Part (PartLaw S)) where
  -- A runner has run all its lines before its sender ended, and nothing else of it changed then.
  record HasSentBefore (number : ℕ) (now before : Runner P (SenderHand Q S)) : Type 0 where
    sent : HasSent shapes run number before
    worker : now.worker ≡ before.worker
    channels : now.channels.channels ≡ before.channels.channels
    ended : HasEndedThere mailbox number before.channels.hand now.channels.hand

  module _ (old : List (Runner P (SenderHand Q S)))
      (hired : AreHiredToSend shapes run mailbox old) where
    -- each of those that are hired may be started
    pub all-hired : All (IsHiredRunner account_of (IsSendingFor shapes) run.shared) old
    all-hired k d below =
        let found = at-below old k below in
        subst (IsHiredRunner account_of (IsSendingFor shapes) run.shared)
        (sym (get_or_from_slice_get old k found.item d found.there))
        (hired.each k found.item found.there).hired

    module _ {K : Type 0} (given : K → Option (List ℕ)) (new : List (Runner P (SenderHand Q S)))
        (was is : List K) (ran : HaveRunAndEnded shapes run.shared given old new was is)
        (enough : length (script_of run.shared).threads ≤ length was) where
      sent-before : (number : ℕ) (now : Runner P (SenderHand Q S))
          → slice_get new number ≡ Some now
          → (before : Runner P (SenderHand Q S)) × HasSentBefore number now before
      sent-before number now at =
          let less = slice_get_within new number now at in
          let many = ran.many in
          let hired_many = hired.many in
          let clocks = ran.clocks in
          let had = at-below old number (omega (arith, less, many)) in
          let first = at-below was number (omega (arith, less, many, hired_many, enough)) in
          let last = at-below is number
          (omega (arith, less, many, hired_many, enough, clocks)) in
          let one = ran.each number had.item now first.item last.item had.there at first.there
          last.there in
          let was_hired = hired.each number had.item had.there in
          let own = one.ran.number ∙ was_hired.own in
          let home = one.ran.services.hand ∙ was_hired.home in (
            one.before,
            record {
              sent = record {
                ran = record {
                  h = one.ran.ran.ops;
                  is = one.ran.ran.kept;
                  number = own;
                  all = one.ran.ran.all ∙ ap (λ (n : ℕ). lines_of (script_of run.shared) n) own;
                };
                numbers = ap (λ (n : Bor Numbers). n.now) one.ran.services.numbers
                    ∙ was_hired.numbers;
              };
              worker = ap (λ (r : Runner P (SenderHand Q S)). r.worker) one.same;
              channels = ap (λ (r : Runner P (SenderHand Q S)). r.channels.channels)
                  one.same;
              ended = ended-there mailbox number one.before.channels.hand.sender
                  one.before.channels.hand now.channels.hand refl home one.ended;
            },
          )

      -- the runners before their senders ended
      all-before : Chosen HasSentBefore new
      all-before = chosen HasSentBefore new sent-before

      have-sent : HaveSent shapes run all-before.ys
      have-sent = record {
        many = all-before.many ∙ ran.many ∙ hired.many;
        each = λ number before at.
            let less = slice_get_within all-before.ys number before at in
            let many = all-before.many in
            let now = at-below new number (omega (arith, less, many)) in
            (all-before.each number now.item before now.there at).sent;
      }

      -- of each sender it is known how it ended
      pub all-ended : All (λ (r : Runner P (SenderHand Q S)).
          is_some r.channels.hand.ended ≡ true) new
      all-ended k d below =
          let now = at-below new k below in
          let ended = (sent-before k now.item now.there).1.ended in
          subst (λ (r : Runner P (SenderHand Q S)). is_some r.channels.hand.ended ≡ true)
          (sym (get_or_from_slice_get new k now.item d now.there))
          (ap (λ (o : Option (Ended Part)). is_some o) ended.ended_is)

      same-threads : threads_of new ≡ threads_of all-before.ys
      same-threads = map-alike (λ (r : Runner P (SenderHand Q S)). r.worker.thread)
          (λ (r : Runner P (SenderHand Q S)). r.worker.thread) new all-before.ys all-before.many
          (λ k now before at at_before. ap (λ (w : Worker). w.thread)
          (all-before.each k now before at at_before).worker)

      same-notes : notes_of new ≡ notes_of all-before.ys
      same-notes = map-alike (λ (r : Runner P (SenderHand Q S)). r.worker.note)
          (λ (r : Runner P (SenderHand Q S)). r.worker.note) new all-before.ys all-before.many
          (λ k now before at at_before. ap (λ (w : Worker). w.note)
          (all-before.each k now before at at_before).worker)

      same-channels : map (λ (r : Runner P (SenderHand Q S)). r.channels.channels) new
          ≡ map (λ (r : Runner P (SenderHand Q S)). r.channels.channels) all-before.ys
      same-channels = map-alike (λ (r : Runner P (SenderHand Q S)). r.channels.channels)
          (λ (r : Runner P (SenderHand Q S)). r.channels.channels) new all-before.ys
          all-before.many
          (λ k now before at at_before. (all-before.each k now before at at_before).channels)

      -- what each clock was asked is by what is noted of its thread
      told-at : (thread : ℕ) (note : ThreadNote) (before behind : K)
          → slice_get (notes_of new) thread ≡ Some note → slice_get was thread ≡ Some before
          → slice_get is thread ≡ Some behind
          → HasToldAll given run.shared.real before behind note
      told-at thread note before behind at at_was at_is =
          let r = at_map (λ (x : Runner P (SenderHand Q S)). x.worker.note) new thread note at in
          let less = slice_get_within new thread r.0 r.1 in
          let many = ran.many in
          let had = at-below old thread (omega (arith, less, many)) in
          let one = ran.each thread had.item r.0 before behind had.there r.1 at_was at_is in
          subst (λ (n : ThreadNote). HasToldAll given run.shared.real before behind n)
          (sym (ap (λ (x : Runner P (SenderHand Q S)). x.worker.note) one.same) ∙ r.2)
          one.ran.told

      told-all : AreToldAll given run.shared.real (notes_of new) was is
      told-all =
          let long = length-map new (λ (r : Runner P (SenderHand Q S)). r.worker.note)
          ∙ ran.many in
          record {
            many = ran.clocks;
            each = told-at;
            others = ap (λ (n : ℕ). drop n is) long ∙ ran.others
                ∙ ap (λ (n : ℕ). drop n was) (sym long);
          }

      -- what they have handed over
      module _ (sent : Sent) (parts : IsHandedOver new sent) where
        ended-many : length sent.ended.items ≡ length new
        ended-many = sym (length-map sent.ended.items (λ (e : Ended Part). Some e))
            ∙ ap length parts.ended
            ∙ length-map new (λ (r : Runner P (SenderHand Q S)). r.channels.hand.ended)

        -- there is an ended sender for each thread of the script
        ended-all : length sent.ended.items ≡ length (script_of run.shared).threads
        ended-all = ended-many ∙ ran.many ∙ hired.many

        -- at a place it is that of the runner there
        own-ended : (number : ℕ) (e : Ended Part) (now : Runner P (SenderHand Q S))
            → slice_get sent.ended.items number ≡ Some e → slice_get new number ≡ Some now
            → now.channels.hand.ended ≡ Some e
        own-ended number e now at_e at =
            same_Some now.channels.hand.ended (Some e)
            (sym (at_mapped (λ (r : Runner P (SenderHand Q S)). r.channels.hand.ended) new number
            now at) ∙ ap (λ es. slice_get es number) (sym parts.ended)
            ∙ at_mapped (λ (x : Ended Part). Some x) sent.ended.items number e at_e)

        ended-at : (number : ℕ) (e : Ended Part) (before : Runner P (SenderHand Q S))
            → slice_get sent.ended.items number ≡ Some e
            → slice_get all-before.ys number ≡ Some before
            → (sent_in e ≡ sent_of before.channels.hand) × IsEndedOf mailbox number e
        ended-at number e before at_e at =
            let less = slice_get_within sent.ended.items number e at_e in
            let many = ended-many in
            let now = at-below new number (omega (arith, less, many)) in
            let there = (all-before.each number now.item before now.there at).ended in
            let same = same_Some there.ended e
            (sym there.ended_is ∙ own-ended number e now.item at_e now.there) in
            subst (λ (x : Ended Part). (sent_in x ≡ sent_of before.channels.hand)
            × IsEndedOf mailbox number x) same (there.sent, there.at)

        are-ended : AreEndedOf mailbox sent.ended.items
        are-ended number d below =
            let many = ended-many in
            let before_many = all-before.many in
            let e = at-below sent.ended.items number below in
            let before = at-below all-before.ys number (omega (arith, below, many, before_many)) in
            subst (λ (x : Ended Part). IsEndedOf mailbox number x)
            (sym (get_or_from_slice_get sent.ended.items number e.item d e.there))
            (ended-at number e.item before.item e.there before.there).1

        same-sent : map sent_in sent.ended.items
            ≡ map (λ (r : Runner P (SenderHand Q S)). sent_of r.channels.hand) all-before.ys
        same-sent = map-alike (λ (e : Ended Part). sent_in e)
            (λ (r : Runner P (SenderHand Q S)). sent_of r.channels.hand) sent.ended.items
            all-before.ys
            (all-before.many ∙ sym ended-many)
            (λ k e before at_e at. (ended-at k e before at_e at).0)

        -- they have sent and left what is asked of them
        pub sent-of : AreSentOf P Q S shapes run mailbox sent
        sent-of = record {
          from = all-before.ys;
          have = have-sent;
          threads = parts.threads ∙ same-threads;
          notes = parts.notes ∙ same-notes;
          channels = parts.channels ∙ same-channels;
          many = ended-all;
          ended = are-ended;
          sents = same-sent;
        }

        -- and so it is by what they noted
        pub told-sent : AreToldAll given run.shared.real sent.notes was is
        told-sent = subst (λ (notes : List ThreadNote).
            AreToldAll given run.shared.real notes was is) (sym parts.notes) told-all
