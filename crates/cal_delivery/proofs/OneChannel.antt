-- What was taken in one channel stays so.
use Rattle.std.proofs.Common.{◌≡◌, ℕ, ◌<◌, List, [], length, get_or, sym, ap}
use Rattle.std.proofs.Common.{◌∙◌, subst, arith, refl}
use Rattle.std.specs.Prelude.{None, Some, slice_get}
use Rattle.std.specs.List.{All}
use Rattle.std.specs.declared.vec.Vec.{Vec}
use Rattle.std.proofs.lemmas.List.{get_or-map, length-map}
use Rattle.std.proofs.lemmas.List.Elements.{All-weaker}
use Rattle.std.proofs.lemmas.Option.{slice_get_read}
use Rattle.cal_channel.proofs.LawLemmas.{counts-later, taken-later}
use Rattle.cal_channel.specs.Channels.{Counts}
use Rattle.cal_channel.specs.Places.{at_place, lists_of}
use Rattle.cal_channel.specs.Values.{ChannelValue}
use Rattle.cal_context.proofs.ListLemmas.{IsFront-trans}
use Rattle.cal_context.specs.Lists.{IsFront}
use Rattle.cal_context.specs.Tree as contexts
use Rattle.cal_delivery.specs.OneChannel.{IsTakenIn}
use Rattle.cal_delivery.specs.Taken.{HasTables, HasTrace, IsTaken}
use Rattle.cal_filter.proofs.Zips.{zip_weaker}
use Rattle.cal_once.specs.Seats.{view}
use Rattle.cal_once.specs.Views.{KnowsMore}
use Rattle.cal_once.specs.declared.seat.RowSeat.{RowSeat}
use Rattle.cal_script.specs.declared.script.Channel.{Channel}
use Rattle.cal_script.specs.declared.script.Script.{Script}
use Rattle.cal_table.specs.Tables.{TableValue}
use Rattle.cal_tree.specs.declared.tree.Tree.{Tree}
use Rattle.cal_value.specs.declared.attribute.Attribute.{Attribute}
use Rattle.cal_value.specs.declared.record.Rec.{Rec}
use Rattle.cal_words.specs.declared.sort.NodeSort.{NodeSort}

-- ---- a seat that learns, and a context that grows

module _ (script : Script) (tree : Tree) (was is : RowSeat NodeSort)
    (more : KnowsMore (view was) (view is)) where
  module _ (attributes : List Attribute) (channel : Channel) where
    pub trace_later : (c : ChannelValue) (taken : List Rec)
        → HasTrace attributes script tree was channel c taken
        → HasTrace attributes script tree is channel c taken
    trace_later c taken h =
        let alone : ChannelValue =
        record { previous = c.previous; trace = c.trace; table = None } in
        record {
          has = h.has;
          means = (taken-later attributes script tree was is more alone taken []
              (record { trace = h.means; table = tt })).trace;
        }

    tables_later : (tables : List TableValue) (recs : List Rec)
        → HasTables attributes script tree was channel tables recs
        → HasTables attributes script tree is channel tables recs
    tables_later tables recs h = record {
      hashers = h.hashers;
      shape = h.shape;
      counts = record {
        parts = h.counts.parts;
        each = zip_weaker (Counts attributes script tree was) (Counts attributes script tree is)
            (λ table part. counts-later attributes script tree was is more part table) tables
            h.counts.parts h.counts.each;
        whole = h.counts.whole;
      };
    }

  pub taken_in_later : (old new : contexts.Tree) → IsFront old.attributes new.attributes
      → (channel : Channel) (kept : List ChannelValue) (tables : List TableValue) (recs : List Rec)
      → IsTakenIn old script tree was channel kept tables recs
      → IsTakenIn new script tree is channel kept tables recs
  taken_in_later old new front channel kept tables recs h = record {
    attributes = h.attributes;
    declared = h.declared;
    numbered = IsFront-trans h.attributes old.attributes new.attributes h.numbered front;
    apart = h.apart;
    taken = record {
      takens = h.taken.takens;
      whole = h.taken.whole;
      traces = zip_weaker (HasTrace h.attributes script tree was channel)
          (HasTrace h.attributes script tree is channel) (trace_later h.attributes channel) kept
          h.taken.takens h.taken.traces;
      counted = λ on. tables_later h.attributes channel tables recs (h.taken.counted on);
      known = h.taken.known;
      trace = h.taken.trace;
      few = h.taken.few;
      small = h.taken.small;
      sums = h.taken.sums;
    };
  }

-- ---- one of the channels

module _ (script : Script) (tree : Tree) (seat : RowSeat NodeSort) (context : contexts.Tree)
    (of : Channel → List Rec) (channels : List (List ChannelValue)) {Z : Type 0}
    (tables : List (Vec TableValue Z))
    (h : IsTaken script tree seat context of channels (lists_of tables)) where
  taken_at : (place : ℕ) (channel : Channel) (own : List TableValue)
      → slice_get script.channels place ≡ Some channel
      → slice_get (lists_of tables) place ≡ Some own
      → IsTakenIn context script tree seat channel (at_place place channels) own (of channel)
  taken_at place channel own at_channel at_tables = record {
    attributes = h.attributes;
    declared = h.declared;
    numbered = h.numbered;
    apart = h.apart;
    taken = h.taken.each place channel own at_channel at_tables;
  }

  -- there is a list of tables for each channel
  pub many_tables : length tables ≡ length script.channels
  many_tables = sym (length-map tables (λ (own : Vec TableValue Z). own.items)) ∙ h.taken.many

  -- what was taken in the channel that is read at a place, with the tables there
  pub taken_read : (declared : List Channel) → declared ≡ script.channels → (place : ℕ)
      (channel : Channel) (own : Vec TableValue Z) (items : List TableValue)
      → place < length declared → channel ≡ get_or declared place channel
      → own ≡ get_or tables place own → items ≡ own.items
      → IsTakenIn context script tree seat channel (at_place place channels) items (of channel)
  taken_read declared same place channel own items within channel_is own_is items_are =
      let less : place < length script.channels =
      subst (λ (cs : List Channel). place < length cs) same within in
      let many = many_tables in
      let there : place < length tables = omega (arith, less, many) in
      let read : Vec TableValue Z → List TableValue = λ (v : Vec TableValue Z). v.items in
      let is : items ≡ get_or (lists_of tables) place items = items_are ∙ ap read own_is
      ∙ sym (get_or-map read tables place own items there) in
      taken_at place channel items
      (slice_get_read script.channels (length script.channels) place channel refl less
      (channel_is ∙ ap (λ (cs : List Channel). get_or cs place channel) same))
      (slice_get_read (lists_of tables) (length script.channels) place items (sym h.taken.many)
      less is)

  -- each thread has it
  pub each_reaches : (place : ℕ) → place < length script.channels
      → All (λ (own : List ChannelValue). place < length own) channels
  each_reaches place less = All-weaker
      (λ (own : List ChannelValue). length own ≡ length script.channels)
      (λ (own : List ChannelValue). place < length own)
      (λ own long. omega (arith, long, less)) channels h.taken.own

-- the script's attributes are the first of the context
pub script_named : (context : contexts.Tree) (script : Script) (tree : Tree)
    (seat : RowSeat NodeSort) (channel : Channel) (kept : List ChannelValue)
    (tables : List TableValue) (recs : List Rec)
    → IsTakenIn context script tree seat channel kept tables recs
    → IsFront script.attributes context.attributes
script_named context script tree seat channel kept tables recs h =
    IsFront-trans script.attributes h.attributes context.attributes h.declared h.numbered
