-- What the tables of a channel come to, when a sender sends one part more.
use Rattle.std.proofs.Common.{◌≡◌, ◌≢◌, ℕ, zero, suc, ◌+◌, ◌*◌, ◌<◌, ◌≤◌, ◌^◌, true, false, Bool, cond, eqb, Option, List, [], ◌∷◌, ◌++◌, length, get_or, set, refl, sym, ap, ◌∙◌, arith, eq-eqb, ne_eqb}
use Rattle.std.specs.List.{flat_map}
use Rattle.std.proofs.lemmas.List.{append-nil}
use Rattle.std.proofs.lemmas.List.Concat.{flat_map-append}
use Rattle.std.proofs.lemmas.List.Sums.{sum_by-append, sum_by-cons}
use Rattle.cal_agg.specs.declared.row.AggRow.{AggRow}
use Rattle.cal_table.specs.Rows.{Row, both_held, tally}
use Rattle.cal_table.specs.TableLaws.{both_held-assoc, both_held-comm, both_held-none, tally-append}
use Rattle.cal_table.specs.Tables.{Same, TableValue, merged_tables}
use Rattle.cal_table.specs.declared.key.TableKey.{TableKey}
use Rattle.cal_table.specs.declared.shape.TableShape.{TableShape}
use Rattle.cal_collect.specs.Parts.{merge_of, sent_for, snapshots_of, tables_for}
use Rattle.cal_collect.specs.declared.part.Part.{Part}

abbrev rows : TableValue → List Row
rows table = table.rows

abbrev count : TableValue → ℕ
count table = table.snapshots

for-by : (b : Bool) (x : TableValue) (l m n : List TableValue) → l ≡ m ++ n → cond b (x ∷ l) l ≡ cond b (x ∷ m) m ++ n
for-by true x l m n e = ap (λ (z : List TableValue). x ∷ z) e
for-by false x l m n e = e

-- the tables for a channel among some parts, and then among some more
tables_for-append : (c : ℕ) (xs ys : List Part) → tables_for c (xs ++ ys) ≡ tables_for c xs ++ tables_for c ys
tables_for-append c [] ys = refl
tables_for-append c (x ∷ xs) ys = for-by (eqb x.channel c) x.table (tables_for c (xs ++ ys)) (tables_for c xs) (tables_for c ys) (tables_for-append c xs ys)

tables_for-here : (part : Part) → tables_for part.channel (part ∷ []) ≡ part.table ∷ []
tables_for-here part = ap (λ (b : Bool). cond b (part.table ∷ []) []) (eq-eqb part.channel part.channel refl)

tables_for-other : (c : ℕ) (part : Part) → part.channel ≢ c → tables_for c (part ∷ []) ≡ []
tables_for-other c part ne = ap (λ (b : Bool). cond b (part.table ∷ []) []) (ne_eqb part.channel c ne)

-- for how many snapshots they stand
count-snoc : (c : ℕ) (sent : List Part) (part : Part) → snapshots_of (tables_for c (sent ++ part ∷ [])) ≡ snapshots_of (tables_for c sent) + snapshots_of (tables_for c (part ∷ []))
count-snoc c sent part = ap snapshots_of (tables_for-append c sent (part ∷ [])) ∙ sum_by-append count (tables_for c sent) (tables_for c (part ∷ []))

count-one : (table : TableValue) → snapshots_of (table ∷ []) ≡ table.snapshots
count-one table = let one = sum_by-cons count table [] in let none : snapshots_of [] ≡ 0 = refl in omega (arith, one, none)

pub count-snoc-here : (sent : List Part) (part : Part) → snapshots_of (tables_for part.channel (sent ++ part ∷ [])) ≡ snapshots_of (tables_for part.channel sent) + part.table.snapshots
count-snoc-here sent part = count-snoc part.channel sent part
    ∙ ap (λ (ts : List TableValue). snapshots_of (tables_for part.channel sent) + snapshots_of ts) (tables_for-here part)
    ∙ ap (λ (n : ℕ). snapshots_of (tables_for part.channel sent) + n) (count-one part.table)

pub count-snoc-other : (c : ℕ) (sent : List Part) (part : Part) → part.channel ≢ c → snapshots_of (tables_for c (sent ++ part ∷ [])) ≡ snapshots_of (tables_for c sent)
count-snoc-other c sent part ne = ap snapshots_of (tables_for-append c sent (part ∷ [])
    ∙ ap (λ (ts : List TableValue). tables_for c sent ++ ts) (tables_for-other c part ne)
    ∙ append-nil (tables_for c sent))

-- a sender's list gets one part more
abbrev pub with_part : List (List Part) → ℕ → Part → List (List Part)
with_part sents s part = set sents s (get_or sents s [] ++ part ∷ [])

count-more : (c : ℕ) (sents : List (List Part)) (s : ℕ) (part : Part) → s < length sents → snapshots_of (sent_for c (with_part sents s part)) ≡ snapshots_of (sent_for c sents) + snapshots_of (tables_for c (part ∷ []))
count-more c [] s part below = absurd (omega arith)
count-more c (x ∷ sents) zero part below =
    let now = sum_by-append count (tables_for c (x ++ part ∷ [])) (sent_for c sents) in
    let before = sum_by-append count (tables_for c x) (sent_for c sents) in
    let more = count-snoc c x part in
    omega (arith, now, before, more)
count-more c (x ∷ sents) (suc s) part below =
    let now = sum_by-append count (tables_for c x) (sent_for c (with_part sents s part)) in
    let before = sum_by-append count (tables_for c x) (sent_for c sents) in
    let more = count-more c sents s part (omega arith) in
    omega (arith, now, before, more)

-- all senders together stand for as many as each may, times their number
pub count-most : (c : ℕ) (sents : List (List Part)) → ((s : ℕ) → snapshots_of (tables_for c (get_or sents s [])) ≤ 2 ^ 20) → snapshots_of (sent_for c sents) ≤ length sents * 2 ^ 20
count-most c [] each = omega arith
count-most c (x ∷ sents) each =
    let sum = sum_by-append count (tables_for c x) (sent_for c sents) in
    let here = each zero in
    let rest = count-most c sents (λ s. each (suc s)) in
    omega (arith, sum, here, rest)

module _ (asked : TableKey → Bool) where
  -- what tables hold together
  abbrev held : List TableValue → Option AggRow
  held tables = tally asked (flat_map rows tables)

  held-append : (xs ys : List TableValue) → held (xs ++ ys) ≡ both_held (held xs) (held ys)
  held-append xs ys = ap (tally asked) (flat_map-append rows xs ys) ∙ tally-append asked (flat_map rows xs) (flat_map rows ys)

  held-more : (c : ℕ) (sents : List (List Part)) (s : ℕ) (part : Part) → s < length sents → held (sent_for c (with_part sents s part)) ≡ both_held (held (sent_for c sents)) (held (tables_for c (part ∷ [])))
  held-more c [] s part below = absurd (omega arith)
  held-more c (x ∷ sents) zero part below =
      let mine : Option AggRow = held (tables_for c x) in
      let new : Option AggRow = held (tables_for c (part ∷ [])) in
      let rest : Option AggRow = held (sent_for c sents) in
      held-append (tables_for c (x ++ part ∷ [])) (sent_for c sents)
      ∙ ap (λ (h : Option AggRow). both_held h rest) (ap held (tables_for-append c x (part ∷ [])) ∙ held-append (tables_for c x) (tables_for c (part ∷ [])))
      ∙ both_held-assoc mine new rest
      ∙ ap (both_held mine) (both_held-comm new rest)
      ∙ sym (both_held-assoc mine rest new)
      ∙ ap (λ (h : Option AggRow). both_held h new) (sym (held-append (tables_for c x) (sent_for c sents)))
  held-more c (x ∷ sents) (suc s) part below =
      let mine : Option AggRow = held (tables_for c x) in
      let new : Option AggRow = held (tables_for c (part ∷ [])) in
      let rest : Option AggRow = held (sent_for c sents) in
      held-append (tables_for c x) (sent_for c (with_part sents s part))
      ∙ ap (both_held mine) (held-more c sents s part (omega arith))
      ∙ sym (both_held-assoc mine rest new)
      ∙ ap (λ (h : Option AggRow). both_held h new) (sym (held-append (tables_for c x) (sent_for c sents)))

-- the part's channel: the table with the part merged
pub same-here : (shape : TableShape) (sents : List (List Part)) (s : ℕ) (part : Part) (was is : TableValue) → s < length sents → Same was (merge_of shape (sent_for part.channel sents)) → Same is (merged_tables was part.table) → Same is (merge_of shape (sent_for part.channel (with_part sents s part)))
same-here shape sents s part was is below same merged = record {
  shape = merged.shape ∙ same.shape;
  snapshots =
      let one = merged.snapshots in
      let two = same.snapshots in
      let more = count-more part.channel sents s part below ∙ ap (λ (ts : List TableValue). snapshots_of (sent_for part.channel sents) + snapshots_of ts) (tables_for-here part) in
      let last = count-one part.table in
      omega (arith, one, two, more, last);
  tally = λ asked. merged.tally asked ∙ tally-append asked was.rows part.table.rows
      ∙ (λ i. both_held (same.tally asked i) (tally asked (sym (append-nil part.table.rows) i)))
      ∙ ap (λ (ts : List TableValue). both_held (held asked (sent_for part.channel sents)) (held asked ts)) (sym (tables_for-here part))
      ∙ sym (held-more asked part.channel sents s part below);
}

-- another channel: as before
pub same-other : (c : ℕ) (shape : TableShape) (sents : List (List Part)) (s : ℕ) (part : Part) (table : TableValue) → s < length sents → part.channel ≢ c → Same table (merge_of shape (sent_for c sents)) → Same table (merge_of shape (sent_for c (with_part sents s part)))
same-other c shape sents s part table below ne same = record {
  shape = same.shape;
  snapshots =
      let two = same.snapshots in
      let more = count-more c sents s part below ∙ ap (λ (ts : List TableValue). snapshots_of (sent_for c sents) + snapshots_of ts) (tables_for-other c part ne) in
      let none : snapshots_of [] ≡ 0 = refl in
      omega (arith, two, more, none);
  tally = λ asked. same.tally asked
      ∙ sym (both_held-none (held asked (sent_for c sents)))
      ∙ ap (λ (ts : List TableValue). both_held (held asked (sent_for c sents)) (held asked ts)) (sym (tables_for-other c part ne))
      ∙ sym (held-more asked c sents s part below);
}

-- what all have sent for the part's channel, with the part
pub count-here : (sents : List (List Part)) (s : ℕ) (part : Part) → s < length sents → snapshots_of (sent_for part.channel (with_part sents s part)) ≡ snapshots_of (sent_for part.channel sents) + part.table.snapshots
count-here sents s part below = count-more part.channel sents s part below
    ∙ ap (λ (ts : List TableValue). snapshots_of (sent_for part.channel sents) + snapshots_of ts) (tables_for-here part)
    ∙ ap (λ (n : ℕ). snapshots_of (sent_for part.channel sents) + n) (count-one part.table)
