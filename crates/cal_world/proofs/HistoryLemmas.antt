-- In the order of what lines have seen, each finds the history that it has seen.
use Rattle.std.proofs.Common.{◌≡◌, ℕ, suc, zero, ◌+◌, ◌-◌, ◌<◌, ◌≤◌, Bool, true, false, List, []}
use Rattle.std.proofs.Common.{◌∷◌, ◌++◌, length, take, ap, subst, sym, refl, ◌∙◌, arith}
use Rattle.std.proofs.Common.{cond, append-nil}
use Rattle.std.specs.Prelude.{Some, filter, not, slice_get, ◌==◌}
use Rattle.std.proofs.lemmas.Bool.{and_parts, eqb-true, not-true}
use Rattle.std.proofs.lemmas.List.{length-take-le, take_all, take_more}
use Rattle.std.proofs.lemmas.Option.{get_or_from_slice_get, slice_get_within}
use Rattle.cal_run.specs.Lines.{is_process_line}
use Rattle.cal_script.specs.declared.journal.Journal.{Journal}
use Rattle.cal_script.specs.declared.journal.Placed.{Placed}
use Rattle.cal_script.specs.declared.script.Script.{Script}
use Rattle.cal_world.proofs.EventLemmas.{FindsAs, HistoryFinds, history_behind, placed_by}
use Rattle.cal_world.proofs.EventLemmas.{placed_if}
use Rattle.cal_world.specs.Turns.{has_seen, turns_by_seen}
use Rattle.cal_world.specs.declared.turn.Turn.{Turn}

module _ (script : Script) (journal : Journal) where
  -- lines find their histories, from one to another
  pub record HistoryRun (h : List Placed) (xs : List Turn) (g : List Placed) : Type 0 where
    pub finds : HistoryFinds script journal h xs
    pub ends : history_behind script journal h xs ≡ g

  finds-append : (h : List Placed) (xs ys : List Turn) → HistoryFinds script journal h xs
      → HistoryFinds script journal (history_behind script journal h xs) ys
      → HistoryFinds script journal h (xs ++ ys)
  finds-append h [] ys one two = two
  finds-append h (x ∷ xs) ys one two =
      (one.0, finds-append (h ++ placed_by script x) xs ys one.1 two)

  behind-append : (h : List Placed) (xs ys : List Turn) → history_behind script journal h (xs ++ ys)
      ≡ history_behind script journal (history_behind script journal h xs) ys
  behind-append h [] ys = refl
  behind-append h (x ∷ xs) ys = behind-append (h ++ placed_by script x) xs ys

  history-append : (h g f : List Placed) (xs ys : List Turn) → HistoryRun h xs g
      → HistoryRun g ys f → HistoryRun h (xs ++ ys) f
  history-append h g f xs ys one two = record {
    finds = finds-append h xs ys one.finds
        (subst (λ k. HistoryFinds script journal k ys) (sym one.ends) two.finds);
    ends = behind-append h xs ys
        ∙ ap (λ k. history_behind script journal k ys) one.ends ∙ two.ends;
  }

  -- lines that are no process lines leave it
  others-run : (h : List Placed) (s : ℕ) (ts : List Turn) → length h ≡ s
      → HistoryRun h (filter (has_seen script false s) ts) h
  others-run h s [] long = record { finds = tt; ends = refl }
  others-run h s (x ∷ ts) long = by (others-run h s ts long) (has_seen script false s x) refl
    where
      by : HistoryRun h (filter (has_seen script false s) ts) h
          → (b : Bool) → has_seen script false s x ≡ b
          → HistoryRun h (cond b (x ∷ filter (has_seen script false s) ts)
          (filter (has_seen script false s) ts)) h
      by rest true e =
          let parts = and_parts (x.note.seen == s) (not (is_process_line script x.line)) e in
          let other : is_process_line script x.line ≡ false = not-true _ parts.1 in
          let seen : x.note.seen ≡ s = eqb-true x.note.seen s parts.0 in
          let same : h ++ placed_by script x ≡ h =
          ap (λ b. h ++ placed_if x b) other ∙ append-nil h in
          let finds : FindsAs script h x = record {
            own = λ is. absurd (let no : false ≡ true = sym other ∙ is in cc);
            looks = λ is looks. long ∙ sym seen;
          } in
          record {
            finds = (
              finds,
              subst (λ k. HistoryFinds script journal k
                  (filter (has_seen script false s) ts)) (sym same) rest.finds,
            );
            ends = ap (λ k. history_behind script journal k (filter (has_seen script false s) ts))
                same ∙ rest.ends;
          }
      by rest false e = rest

  -- of the lines that have seen so much, one is a process line, and it is the last that they have
  -- seen
  pub record HasRow (ops : List Placed) (ts : List Turn) (s : ℕ) : Type 0 where
    pub turn : Turn
    pub only : filter (has_seen script true s) ts ≡ turn ∷ []
    pub shared : is_process_line script turn.line ≡ true
    pub seen : turn.note.seen ≡ s
    pub placed : slice_get ops (s - 1)
        ≡ Some (record { thread = turn.thread; line = turn.number })

  placed-run : (ops : List Placed) (ts : List Turn) (s : ℕ) → 0 < s → HasRow ops ts s
      → HistoryRun (take (s - 1) ops) (filter (has_seen script true s) ts) (take s ops)
  placed-run ops ts s some row =
      let x : Turn = row.turn in
      let p : Placed = record { thread = x.thread; line = x.number } in
      let within : s - 1 < length ops = slice_get_within ops (s - 1) p row.placed in
      let long = length-take-le (s - 1) ops (omega (arith, within)) in
      let seen = row.seen in
      let whole : s - 1 + 1 ≡ s = omega (arith, some) in
      subst (λ xs. HistoryRun (take (s - 1) ops) xs (take s ops)) (sym row.only)
      (record {
        finds = (
          record {
            own = λ is. omega (arith, long, seen);
            looks = λ is looks. absurd (let no : true ≡ false = sym row.shared ∙ is in cc);
          },
          tt,
        );
        ends = ap (λ b. take (s - 1) ops ++ placed_if x b) row.shared
            ∙ ap (λ q. take (s - 1) ops ++ q ∷ [])
            (sym (get_or_from_slice_get ops (s - 1) p p row.placed))
            ∙ sym (take_more ops (s - 1) p within)
            ∙ ap (λ n. take n ops) whole;
      })

  module _ (ops : List Placed) (ts : List Turn) (none : filter (has_seen script true 0) ts ≡ [])
      (rows : (s : ℕ) → 0 < s → s ≤ length ops → HasRow ops ts s) where
    row-run : (s : ℕ) → s ≤ length ops
        → HistoryRun (take (s - 1) ops) (filter (has_seen script true s) ts) (take s ops)
    row-run zero less = subst (λ xs. HistoryRun [] xs []) (sym none)
        (record { finds = tt; ends = refl })
    row-run (suc s) less = placed-run ops ts (suc s) (omega arith) (rows (suc s) (omega arith) less)

    pub history-run : (s count : ℕ) → s + count ≡ length ops + 1
        → HistoryRun (take (s - 1) ops) (turns_by_seen script ts s count) ops
    history-run s zero long = record {
      finds = tt;
      ends = take_all (s - 1) ops (omega (arith, long));
    }
    history-run s (suc count) long =
        let less : s ≤ length ops = omega (arith, long) in
        let back : s + 1 - 1 ≡ s = omega arith in
        history-append (take (s - 1) ops) (take s ops) ops
        (filter (has_seen script true s) ts ++ filter (has_seen script false s) ts)
        (turns_by_seen script ts (s + 1) count)
        (history-append (take (s - 1) ops) (take s ops) (take s ops)
        (filter (has_seen script true s) ts) (filter (has_seen script false s) ts)
        (row-run s less) (others-run (take s ops) s ts (length-take-le s ops less)))
        (subst (λ n. HistoryRun (take n ops) (turns_by_seen script ts (s + 1) count) ops) back
        (history-run (s + 1) count (omega (arith, long))))
