-- What the threads of a run sent and have left is what the run's law asks for.
use Rattle.std.proofs.Common.{◌≡◌, ℕ, Bool, cond, List, [], ◌∷◌}
use Rattle.std.proofs.Common.{length, map, get_or, sym, ap, ◌∙◌, subst, arith, eq-eqb, ne_eqb}
use mathlib.Core.Logic.{dite}
use native.Mathlib.Decide.{ℕ_discrete}
use Rattle.std.specs.Prelude.{All, Option, Some, slice_get}
use Rattle.std.proofs.lemmas.List.{length-map}
use Rattle.std.proofs.lemmas.List.Elements.{All-cons, All-head, All-map, All-nil, All-tail}
use Rattle.std.proofs.lemmas.List.Folds.{flat_map-map}
use Rattle.std.proofs.lemmas.Option.{same_Some, slice_get-get_or, slice_get_within}
use Rattle.cal_book.specs.Accounts.{ThreadHadTurn}
use Rattle.cal_channel.specs.Values.{ChannelValue}
use Rattle.cal_closing.specs.Parts.{AreMadeFor, AreOfShape, all_of}
use Rattle.cal_closing.specs.Seats.{given_by}
use Rattle.cal_collect.specs.Parts.{AreMergesOf, sent_for, tables_for}
use Rattle.cal_collect.specs.declared.part.Part.{Part}
use Rattle.cal_collect.specs.declared.sender.PartSender.{PartSender}
use Rattle.cal_finish.proofs.LawfulRuns.{at-below}
use Rattle.cal_finish.specs.Ended.{HaveAllRun, accounts_at}
use Rattle.cal_handover.specs.Places.{tables_at}
use Rattle.cal_keeping.specs.Hands.{AccountOf}
use Rattle.cal_keeping.specs.declared.runner.Runner.{Runner}
use Rattle.cal_live.specs.Sending.{AreMade, IsSendingFor, account_of, sent_by_either, sent_of}
use Rattle.cal_live.specs.declared.sending.SenderHand.{SenderHand}
use Rattle.cal_live_run.specs.Collected.{HaveSent}
use Rattle.cal_live_run.specs.Gathering.{AreGathered, MayGatherAll}
use Rattle.cal_ran.proofs.Places.{all-lists, channels_of}
use Rattle.cal_ran.proofs.TakenLines.{GoByRun}
use Rattle.cal_ran.proofs.TakenShares.{AreCounted, IsCounted}
use Rattle.cal_replay.specs.Workers.{script_of}
use Rattle.cal_start.specs.Runs.{IsRun, shape_for}
use Rattle.cal_start.specs.declared.run.Run.{Run}
use Rattle.cal_table.specs.Tables.{Same, TableValue}
use Rattle.cal_table.specs.declared.shape.TableShape.{TableShape}

-- of parts that are of their channels' shapes the tables for one are of its shape
tables_for-made : (own : List TableShape) (place : ℕ) (shape : TableShape)
    → slice_get own place ≡ Some shape → (sent : List Part) → AreMade own sent
    → AreOfShape shape (tables_for place sent)
tables_for-made own place shape at [] made = All-nil (λ (t : TableValue). t.shape ≡ shape)
tables_for-made own place shape at (part ∷ sent) made =
    let of_channel : Part → Type 0 = λ p. slice_get own p.channel ≡ Some p.table.shape in
    let behind = tables_for-made own place shape at sent (All-tail of_channel part sent made) in
    let by : Bool → Type 0 =
    λ b. AreOfShape shape (cond b (part.table ∷ tables_for place sent) (tables_for place sent)) in
    dite (ℕ_discrete part.channel place)
    (λ e. subst by (sym (eq-eqb part.channel place e))
    (All-cons (λ (t : TableValue). t.shape ≡ shape) part.table (tables_for place sent)
    (same_Some part.table.shape shape
    (sym (All-head of_channel part sent made) ∙ ap (λ (n : ℕ). slice_get own n) e ∙ at)) behind))
    (λ ne. subst by (sym (ne_eqb part.channel place ne)) behind)

module _ {P Q S : Type 0} (shapes : List TableShape) (run : Run) (is : IsRun run)
    (shapes_are : shapes ≡ run.shapes.items) (from : List (Runner P (SenderHand Q S)))
    (sent : HaveSent shapes run from) where
  -- what each sent
  abbrev pub sents : List (List Part)
  sents = map (λ (r : Runner P (SenderHand Q S)). sent_of r.channels.hand) from

  -- the runners go by the run
  pub go-by-run : GoByRun (IsSendingFor shapes) run from
  go-by-run = record {
    numbers = λ thread r at. (sent.each thread r at).numbers;
    shapes = λ thread r at some takes. sym takes.shapes_are ∙ shapes_are;
  }

  -- The threads have run as it is asked of a run; no one has met another one's turn.
  pub all-run : HaveAllRun account_of (IsSendingFor shapes) run.shared from
  all-run = record {
    many = sent.many;
    ran = λ thread r at. (sent.each thread r at).ran;
    met = λ place below.
        All-map (λ (a : AccountOf). All (ThreadHadTurn (accounts_at account_of place from)) a.met)
        (λ (r : Runner P (SenderHand Q S)). account_of r.channels.hand place) from
        (λ k d less. All-nil (ThreadHadTurn (accounts_at account_of place from)));
  }

  -- there is a shape for each channel of the script
  shapes-long : length shapes ≡ length (script_of run.shared).channels
  shapes-long = ap length (shapes_are ∙ is.shapes)
      ∙ length-map (script_of run.shared).channels (shape_for is.hashers run.context.attributes)

  module _ (place : ℕ) (shape : TableShape) (at_shape : slice_get shapes place ≡ Some shape) where
    -- what a thread sent is of the shape
    made-by : (k : ℕ) (r : Runner P (SenderHand Q S)) → slice_get from k ≡ Some r
        → AreOfShape shape (account_of r.channels.hand place).given
    made-by k r at =
        let takes = (sent.each k r at).ran.is.ready.takes_them in
        tables_for-made shapes place shape at_shape (sent_of r.channels.hand)
        (subst (λ (parts : List Part). AreMade shapes parts)
        (sym (ap (λ (o : Option (PartSender Q S)). sent_by_either o r.channels.hand.ended)
        takes.sender_is)) takes.made)

    sent-made : AreMadeFor shape (accounts_at account_of place from)
    sent-made =
        All-map (λ (a : AccountOf). AreOfShape shape a.given)
        (λ (r : Runner P (SenderHand Q S)). account_of r.channels.hand place) from
        (λ k d less. made-by k (get_or from k d) (slice_get-get_or from k d less))

    -- what all have given is what they sent
    given-sent : given_by (accounts_at account_of place from) ≡ sent_for place sents
    given-sent =
        flat_map-map (λ (a : AccountOf). a.given)
        (λ (r : Runner P (SenderHand Q S)). account_of r.channels.hand place) from
        ∙ sym (flat_map-map (tables_for place)
        (λ (r : Runner P (SenderHand Q S)). sent_of r.channels.hand) from)

  module _ (tables : List TableValue) (merged : AreMergesOf shapes sents tables) where
    -- the table at a place has all that was sent
    table-of : (place : ℕ) (shape : TableShape) (table : TableValue)
        → slice_get shapes place ≡ Some shape → slice_get tables place ≡ Some table
        → Same table (all_of shape (given_by (accounts_at account_of place from)))
    table-of place shape table at_shape at_table =
        subst (λ (given : List TableValue). Same table (all_of shape given))
        (sym (given-sent place shape at_shape))
        (merged.each place shape table at_shape at_table)

    -- what is left may be put beside the tables
    pub may-gather-all : MayGatherAll tables (channels_of from)
    may-gather-all = all-lists (λ (r : Runner P (SenderHand Q S)). r.channels.channels)
        (λ (own : List ChannelValue). length own ≡ length tables) from
        (λ k r at. (sent.each k r at).ran.is.ready.many ∙ sym (merged.many ∙ shapes-long))

    module _ (alls : List (List TableValue)) (gathered : AreGathered tables (channels_of from) alls)
      where
        counted-at : (place : ℕ) (shape : TableShape) (own : List TableValue)
            → slice_get run.shapes.items place ≡ Some shape → slice_get alls place ≡ Some own
            → IsCounted shape (accounts_at account_of place from)
            (tables_at place (channels_of from)) own
        counted-at place shape own at_run at_own =
            let within = slice_get_within alls place own at_own in
            let many = gathered.many in
            let at_shape : slice_get shapes place ≡ Some shape =
            ap (λ (some : List TableShape). slice_get some place) shapes_are ∙ at_run in
            let table = at-below tables place (omega (arith, within, many)) in
            record {
              closed = record {
                book = table.item;
                tables_are = gathered.each place table.item own table.there at_own;
                merged = table-of place shape table.item at_shape table.there;
              };
              made = sent-made place shape at_shape;
            }

        -- and then those of each place count what the threads sent and have left
        pub all-counted : AreCounted account_of run.shapes.items from alls
        all-counted = record {
          many = gathered.many ∙ merged.many ∙ ap length shapes_are;
          each = counted-at;
        }
