-- What a collector has merged: at first, when a part comes, and in the end.
use Rattle.std.proofs.Common.{◌≡◌, ◌≢◌, ℕ, zero, suc, ◌<◌, ◌≤◌, ◌^◌, Some, List, [], ◌∷◌, ◌++◌, map, length, get_or, refl, sym, ap, ◌∙◌, subst, arith, length-set}
use mathlib.Core.Logic.{dite}
use native.Mathlib.Decide.{ℕ_discrete}
use Rattle.std.specs.List.{slice_get}
use Rattle.std.proofs.lemmas.List.{get_or-set_other, get_or-set_same, length-map}
use Rattle.std.proofs.lemmas.Option.{get_or_from_slice_get, slice_get-get_or, slice_get_within}
use Rattle.cal_mail.specs.declared.mail.Received.{Received}
use Rattle.cal_mail.specs.Messages.{parts_of}
use Rattle.cal_table.specs.Tables.{Same, TableValue, empty_table}
use Rattle.cal_table.specs.TableLaws.{Same-refl}
use Rattle.cal_table.specs.declared.shape.TableShape.{TableShape}
use Rattle.cal_collect.specs.Collecting.{AreMerged, FitsAt, MergedAt}
use Rattle.cal_collect.specs.Parts.{AreMergesOf, MaySend, merge_of, sent_for, snapshots_of, tables_for}
use Rattle.cal_collect.specs.declared.part.Part.{Part}
use Rattle.cal_collect.proofs.Came.{came-more, lists_same, more_sent, more_sent-here, more_sent-other}
use Rattle.cal_collect.proofs.Sums.{count-here, count-most, count-snoc-here, count-snoc-other, same-here, same-other}

-- so many senders that have sent nothing
abbrev nobody : ℕ → List (List Part)
nobody zero = []
nobody (suc n) = [] ∷ nobody n

nobody-long : (n : ℕ) → length (nobody n) ≡ n
nobody-long zero = refl
nobody-long (suc n) = ap suc (nobody-long n)

nobody-at : (n s : ℕ) → get_or (nobody n) s [] ≡ []
nobody-at zero s = refl
nobody-at (suc n) zero = refl
nobody-at (suc n) (suc s) = nobody-at n s

nobody-sent : (c n : ℕ) → sent_for c (nobody n) ≡ []
nobody-sent c zero = refl
nobody-sent c (suc n) = nobody-sent c n

empty-at : (shapes : List TableShape) (c : ℕ) (shape : TableShape) (table : TableValue) → slice_get shapes c ≡ Some shape → slice_get (map empty_table shapes) c ≡ Some table → empty_table shape ≡ table
empty-at [] c shape table at is = absurd cc
empty-at (x ∷ shapes) zero shape table at is =
    let one : x ≡ shape = cc in
    let two : empty_table x ≡ table = cc in
    ap empty_table (sym one) ∙ two
empty-at (x ∷ shapes) (suc c) shape table at is = empty-at shapes c shape table at is

pub opened : (shapes : List TableShape) (senders : ℕ) → senders ≤ 64 → AreMerged shapes senders [] (map empty_table shapes)
opened shapes senders few = record {
  sents = nobody senders;
  long = nobody-long senders;
  few_senders = few;
  came = λ number. sym (nobody-at senders number);
  few = λ number channel.
      let none = ap (λ (l : List Part). snapshots_of (tables_for channel l)) (nobody-at senders number) in
      let zero_is : snapshots_of [] ≡ 0 = refl in
      omega (arith, none, zero_is);
  merges = record {
    many = length-map shapes empty_table;
    each = λ c shape table at is. subst (λ (ts : List TableValue). Same table (merge_of shape ts)) (sym (nobody-sent c senders))
        (subst (λ (t : TableValue). Same t (empty_table shape)) (empty-at shapes c shape table at is) (Same-refl (empty_table shape)));
  };
}

module _ (shapes : List TableShape) (senders : ℕ) (received : List (Received Part)) (tables : List TableValue) (one : Received Part)
    (before : AreMerged shapes senders received tables) (sender : one.sender < senders)
    (may : MaySend shapes (parts_of one.sender received) one.part) where
  below : one.sender < length before.sents
  below = subst (λ (n : ℕ). one.sender < n) (sym before.long) sender

  few_here : (c : ℕ) → snapshots_of (tables_for c (get_or before.sents one.sender [] ++ one.part ∷ [])) ≤ 2 ^ 20
  few_here c = dite (ℕ_discrete one.part.channel c)
      (λ e. subst (λ (n : ℕ). snapshots_of (tables_for n (get_or before.sents one.sender [] ++ one.part ∷ [])) ≤ 2 ^ 20) e
      (let same = ap (λ (l : List Part). snapshots_of (tables_for one.part.channel l)) (before.came one.sender) in
      let more = count-snoc-here (get_or before.sents one.sender []) one.part in
      let most = may.few in
      omega (arith, same, more, most)))
      (λ ne. let same = count-snoc-other c (get_or before.sents one.sender []) one.part ne in
      let most = before.few one.sender c in
      omega (arith, same, most))

  few_more : (s c : ℕ) → snapshots_of (tables_for c (get_or (more_sent before.sents one) s [])) ≤ 2 ^ 20
  few_more s c = dite (ℕ_discrete s one.sender)
      (λ e. subst (λ (l : List Part). snapshots_of (tables_for c l) ≤ 2 ^ 20)
      (sym (more_sent-here before.sents one below) ∙ ap (λ (n : ℕ). get_or (more_sent before.sents one) n []) (sym e)) (few_here c))
      (λ ne. subst (λ (l : List Part). snapshots_of (tables_for c l) ≤ 2 ^ 20) (sym (more_sent-other before.sents one s ne)) (before.few s c))

  within : one.part.channel < length tables
  within = subst (λ (n : ℕ). one.part.channel < n) (sym before.merges.many) (slice_get_within shapes one.part.channel one.part.table.shape may.shape)

  -- the part that comes may be merged
  pub fits : FitsAt tables one.part
  fits =
      let table : TableValue = get_or tables one.part.channel one.part.table in
      let at : slice_get tables one.part.channel ≡ Some table = slice_get-get_or tables one.part.channel one.part.table within in
      let same : Same table (merge_of one.part.table.shape (sent_for one.part.channel before.sents)) =
      before.merges.each one.part.channel one.part.table.shape table may.shape at in
      record {
        table = table;
        at = at;
        shape = sym same.shape;
        few =
            let most = count-most one.part.channel (more_sent before.sents one) (λ s. few_more s one.part.channel) in
            let sum = count-here before.sents one.sender one.part below in
            let long = length-set before.sents one.sender (get_or before.sents one.sender [] ++ one.part ∷ []) ∙ before.long in
            let few = before.few_senders in
            let is = same.snapshots in
            omega (arith, most, sum, long, few, is);
      }

  module _ (new : List TableValue) (merged : MergedAt tables one.part new) where
    merges_here : (shape : TableShape) (table : TableValue) → slice_get shapes one.part.channel ≡ Some shape → slice_get new one.part.channel ≡ Some table → Same table (merge_of shape (sent_for one.part.channel (more_sent before.sents one)))
    merges_here shape table at is =
        let put : merged.is ≡ table = sym (get_or-set_same tables one.part.channel merged.is table within)
        ∙ ap (λ (l : List TableValue). get_or l one.part.channel table) (sym merged.put)
        ∙ get_or_from_slice_get new one.part.channel table table is in
        subst (λ (t : TableValue). Same t (merge_of shape (sent_for one.part.channel (more_sent before.sents one)))) put
        (same-here shape before.sents one.sender one.part merged.was merged.is below
        (before.merges.each one.part.channel shape merged.was at merged.at) merged.merged)

    new_long : length new ≡ length tables
    new_long = ap length merged.put ∙ length-set tables one.part.channel merged.is

    merges_other : (c : ℕ) (shape : TableShape) (table : TableValue) → one.part.channel ≢ c → slice_get shapes c ≡ Some shape → slice_get new c ≡ Some table → Same table (merge_of shape (sent_for c (more_sent before.sents one)))
    merges_other c shape table ne at is =
        let inside : c < length tables = subst (λ (n : ℕ). c < n) new_long (slice_get_within new c table is) in
        let stays : get_or tables c table ≡ table = sym (get_or-set_other tables one.part.channel c merged.is table (λ e. ne (sym e)))
        ∙ ap (λ (l : List TableValue). get_or l c table) (sym merged.put)
        ∙ get_or_from_slice_get new c table table is in
        same-other c shape before.sents one.sender one.part table below ne
        (before.merges.each c shape table at (slice_get-get_or tables c table inside ∙ ap Some stays))

    -- and when it was, all that came is merged
    pub next : AreMerged shapes senders (received ++ one ∷ []) new
    next = record {
      sents = more_sent before.sents one;
      long = length-set before.sents one.sender (get_or before.sents one.sender [] ++ one.part ∷ []) ∙ before.long;
      few_senders = before.few_senders;
      came = came-more received before.sents one below before.came;
      few = few_more;
      merges = record {
        many = new_long ∙ before.merges.many;
        each = λ c shape table at is. dite (ℕ_discrete one.part.channel c)
            (λ e. subst (λ (n : ℕ). Same table (merge_of shape (sent_for n (more_sent before.sents one)))) e
            (merges_here shape table (ap (slice_get shapes) e ∙ at) (ap (slice_get new) e ∙ is)))
            (λ ne. merges_other c shape table ne at is);
      };
    }

-- in the end the tables are what the senders sent
pub finished : (shapes : List TableShape) (senders : ℕ) (received : List (Received Part)) (tables : List TableValue) (sents : List (List Part)) → AreMerged shapes senders received tables → length sents ≡ senders → ((number : ℕ) → parts_of number received ≡ get_or sents number []) → AreMergesOf shapes sents tables
finished shapes senders received tables sents merged long whole =
    subst (λ (l : List (List Part)). AreMergesOf shapes l tables)
    (lists_same merged.sents sents (merged.long ∙ sym long) (λ n. sym (merged.came n) ∙ whole n)) merged.merges
