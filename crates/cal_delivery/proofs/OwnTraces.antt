-- The traces of all threads in one channel, one behind another.
use Rattle.std.proofs.Common.{◌≡◌, ℕ, ◌+◌, ◌<◌, ◌≤◌, true, List, [], length, get_or, take, sym, ap}
use Rattle.std.proofs.Common.{◌∙◌, subst, arith, true≢false}
use Rattle.std.specs.Prelude.{IfSome, None, Option, Some, is_some}
use Rattle.std.specs.List.{All, AllZip, flat_map}
use Rattle.std.specs.declared.vec.Vec.{Vec}
use Rattle.std.proofs.lemmas.List.{take_all}
use Rattle.std.proofs.lemmas.Option.{IfSome_then}
use Rattle.cal_channel.specs.Channels.{IsTraced}
use Rattle.cal_channel.specs.Places.{at_place, lists_of}
use Rattle.cal_channel.specs.Traces.{ShownSnap}
use Rattle.cal_channel.specs.Values.{ChannelValue}
use Rattle.cal_context.proofs.ListLemmas.{IsFront-trans}
use Rattle.cal_context.specs.Lists.{IsFront}
use Rattle.cal_context.specs.Taking.{TakesMore}
use Rattle.cal_context.specs.Tree as contexts
use Rattle.cal_delivery.proofs.AtPlace.{many_there, there}
use Rattle.cal_delivery.proofs.OneChannel.{trace_later}
use Rattle.cal_delivery.specs.OneChannel.{IsOwnTrace, IsTakenIn}
use Rattle.cal_delivery.specs.Taken.{HasTrace}
use Rattle.cal_filter.proofs.Zips.{get_or-inside, zip_length}
use Rattle.cal_once.specs.Seats.{view}
use Rattle.cal_once.specs.Views.{KnowsMore}
use Rattle.cal_once.specs.declared.seat.RowSeat.{RowSeat}
use Rattle.cal_records.proofs.TakingLemmas.{taken-more}
use Rattle.cal_results.specs.Tracing.{TraceMeans}
use Rattle.cal_script.specs.declared.script.Channel.{Channel}
use Rattle.cal_script.specs.declared.script.Script.{Script}
use Rattle.cal_table.specs.Tables.{TableValue}
use Rattle.cal_tree.specs.declared.tree.Tree.{Tree}
use Rattle.cal_value.specs.declared.record.Rec.{Rec}
use Rattle.cal_words.specs.declared.sort.NodeSort.{NodeSort}

-- what threads have taken so far was taken, and so was what the next one has
pub parts_more : (had then has : List Rec → Type 0) (parts : List (List Rec)) (i : ℕ)
    → i < length parts
    → TakesMore had then (flat_map (λ (part : List Rec). part) (take i parts))
    → TakesMore then has (get_or parts i [])
    → TakesMore had has (flat_map (λ (part : List Rec). part) (take (i + 1) parts))
parts_more had then has parts i less so_far next = taken-more (λ (part : List Rec). part) had then
    has parts i (get_or parts i []) less (get_or-inside parts i [] (get_or parts i []) less) so_far
    next

-- a channel has no trace and means one
pub no_trace : (own : ChannelValue) → is_some own.trace ≡ true → None ≡ own.trace → ⊥
no_trace own has is = true≢false (sym has ∙ ap is_some (sym is))

-- a trace that is there means the records
pub trace_means : (context : contexts.Tree) (script : Script) (tree : Tree)
    (seat : RowSeat NodeSort) (own : ChannelValue) (recs : List Rec) (snaps : List ShownSnap)
    → IsOwnTrace context script tree seat own recs → Some snaps ≡ own.trace
    → TraceMeans context script tree seat snaps recs
trace_means context script tree seat own recs snaps h is =
    subst (λ (o : Option (List ShownSnap)). IfSome o
    (λ (s : List ShownSnap). TraceMeans context script tree seat s recs)) (sym is) h.means

module _ (script : Script) (tree : Tree) (was : RowSeat NodeSort) (old : contexts.Tree)
    (channel : Channel) (on : channel.trace ≡ true) {Z : Type 0} (place : ℕ)
    (lists : List (Vec ChannelValue Z)) (tables : List TableValue) (recs : List Rec)
    (reach : All (λ (own : List ChannelValue). place < length own) (lists_of lists))
    (h : IsTakenIn old script tree was channel (at_place place (lists_of lists)) tables
    recs) where
  -- a thread's trace means its part, also when a seat has learned and the context has grown
  pub own_trace : (is : RowSeat NodeSort) → KnowsMore (view was) (view is)
      → (new : contexts.Tree) → IsFront old.attributes new.attributes
      → (i : ℕ) (own : Vec ChannelValue Z) (x : ChannelValue) → i < length lists
      → own ≡ get_or lists i own → x ≡ get_or own.items place x
      → IsOwnTrace new script tree is x (get_or h.taken.takens i [])
  own_trace is more new front i own x less own_is x_is =
      let part = get_or h.taken.takens i [] in
      let has = trace_later script tree was is more h.attributes channel x part
      (there place (HasTrace h.attributes script tree was channel) lists h.taken.takens i own x []
      reach h.taken.traces less own_is x_is) in
      record {
        has = has.has ∙ on;
        means = IfSome_then x.trace
            {P = λ (snaps : List ShownSnap).
            AllZip (IsTraced h.attributes script tree is) snaps part}
            {Q = λ (snaps : List ShownSnap). TraceMeans new script tree is snaps part}
            has.means
            (λ snaps traced. record {
              attributes = h.attributes;
              front = IsFront-trans h.attributes old.attributes new.attributes h.numbered front;
              traced = traced;
            });
      }

  -- each thread has one
  pub many_parts : length h.taken.takens ≡ length lists
  many_parts =
      let none : ChannelValue = record { previous = 0; trace = None; table = None } in
      sym (zip_length (HasTrace h.attributes script tree was channel)
      (at_place place (lists_of lists)) h.taken.takens h.taken.traces)
      ∙ many_there place lists none reach

  -- and all of them are the whole
  pub all_parts : (i : ℕ) → length lists ≤ i
      → flat_map (λ (part : List Rec). part) (take i h.taken.takens) ≡ recs
  all_parts i all =
      let many = many_parts in
      ap (flat_map (λ (part : List Rec). part))
      (take_all i h.taken.takens (omega (arith, many, all))) ∙ h.taken.whole
