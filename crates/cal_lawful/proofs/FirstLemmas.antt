-- One thing is said of a journal: which rule it breaks first, and on which line.
use Rattle.std.proofs.Common.{◌≡◌, ℕ, suc, zero, ◌+◌, ◌<◌, ◌≤◌, List, [], ◌∷◌, ◌++◌, take, drop}
use Rattle.std.proofs.Common.{map}
use Rattle.std.proofs.Common.{ap, subst, sym, refl, ◌∙◌, append_assoc, append-nil, arith, inl, inr}
use Rattle.std.proofs.Common.{if◌then◌else◌}
use Rattle.std.specs.Prelude.{flat_map, zip, Some, None, slice_get, ◌==◌}
use Rattle.std.specs.List.{All, enumerate_from}
use Rattle.std.proofs.lemmas.List.{take-append-drop}
use Rattle.std.proofs.lemmas.List.Elements.{All-append, All-cons, All-nil, filter_map-append}
use Rattle.std.proofs.lemmas.Option.{slice_get_within}
use Rattle.cal_context.specs.Lists.{IsFront}
use Rattle.cal_journal.specs.declared.kind.JournalKind.{JournalKind}
use Rattle.cal_journal.specs.declared.kind.JournalKind.TheVariants as kind
use Rattle.cal_run.proofs.LawLemmas.{all-back, all-front}
use Rattle.cal_lawful.specs.Broken.{BreaksAt, BreaksOrder, BreaksRule, BreaksShape, HasBegun, HoldAll}
use Rattle.cal_lawful.specs.Broken.{HoldsRule, IsFirstBroken, IsLawfulText, KeepsLine, KeepsRow}
use Rattle.cal_lawful.specs.Broken.{KeepsStart}
use Rattle.cal_lawful.specs.Broken.{Noted, Row, Start}
use Rattle.cal_lawful.specs.Broken.{all_rows, op_line, row_line, rules, thread_rows, wanted_rows}
use Rattle.cal_lawful.specs.Broken.{written_rows}
use Rattle.cal_run.specs.Lawful.{HasOrder, IsKnown, NotedLine, noted_lines, noted_of, placed_of}
use Rattle.cal_run.specs.Lawful.{process_lines}
use Rattle.cal_script.specs.declared.journal.Journal.{Journal}
use Rattle.cal_script.specs.declared.journal.JournalText.{JournalText}
use Rattle.cal_script.specs.declared.journal.Placed.{Placed}
use Rattle.cal_script.specs.declared.journal.ThreadNote.{ThreadNote}
use Rattle.cal_script.specs.declared.script.Line.{Line}
use Rattle.cal_script.specs.declared.script.Script.{Script}

-- two numbers of which neither is below the other
neither : (i j : ℕ) → ¬ (i < j) → ¬ (j < i) → i ≡ j
neither i j low high =
    let least : i < j → j ≤ i = λ before. absurd (low before) in
    let most : j < i → i ≤ j = λ before. absurd (high before) in
    grind (arith, least, most)

-- ---- the place at which a list breaks a rule is one

-- What holds of a list holds of its fronts.
abbrev OfFronts : {A : Type 0} → (List A → Type 0) → Type 0
OfFronts {A} Keeps = (xs ys : List A) → Keeps (xs ++ ys) → Keeps xs

-- what is taken first is a front of what is taken further
take-front : {A : Type 0} (xs : List A) (i j : ℕ) → i ≤ j → IsFront (take i xs) (take j xs)
take-front xs zero j l = (take j xs, refl)
take-front [] (suc i) zero l = absurd (omega (arith, l))
take-front [] (suc i) (suc j) l = ([], refl)
take-front (x ∷ xs) (suc i) zero l = absurd (omega (arith, l))
take-front (x ∷ xs) (suc i) (suc j) l =
    let rest : IsFront (take i xs) (take j xs) = take-front xs i j (omega (arith, l)) in
    (rest.0, ap (λ zs. x ∷ zs) rest.1)

module _ {A : Type 0} (Keeps : List A → Type 0) (fronts : OfFronts Keeps) where
  breaks-whole : (xs : List A) (i : ℕ) → BreaksAt Keeps xs i → ¬ Keeps xs
  breaks-whole xs i breaks whole =
      breaks.broken (fronts (take (i + 1) xs) (drop (i + 1) xs)
      (subst Keeps (sym (take-append-drop (i + 1) xs)) whole))

  breaks-before : (xs : List A) (i j : ℕ) → BreaksAt Keeps xs i → BreaksAt Keeps xs j → ¬ (i < j)
  breaks-before xs i j one other before =
      let front : IsFront (take (i + 1) xs) (take j xs) = take-front xs (i + 1) j
      (omega (arith, before)) in
      one.broken (fronts (take (i + 1) xs) front.0 (subst Keeps front.1 other.kept))

  breaks-once : (xs : List A) (i j : ℕ) → BreaksAt Keeps xs i → BreaksAt Keeps xs j → i ≡ j
  breaks-once xs i j one other =
      neither i j (breaks-before xs i j one other) (breaks-before xs j i other one)

  -- and so is the line on which that place stands
  line-once : (xs : List A) (line_of : ℕ → ℕ) (l m : ℕ)
      → (i : ℕ) × BreaksAt Keeps xs i × (l ≡ line_of i) → (j : ℕ) × BreaksAt Keeps xs j
      × (m ≡ line_of j) → l ≡ m
  line-once xs line_of l m one other = one.2 ∙ ap line_of
      (breaks-once xs one.0 other.0 one.1 other.1) ∙ sym other.2

-- ---- the rules hold of fronts

front-less : {A : Type 0} (ws xs ys : List A) → IsFront (xs ++ ys) ws → IsFront xs ws
front-less ws xs ys front = (ys ++ front.0, front.1 ∙ append_assoc xs ys front.0)

begun-less : (script : Script) (xs ys : List Placed) → HasBegun script (xs ++ ys)
    → HasBegun script xs
begun-less script xs ys begun t ls is =
    front-less (process_lines script ls) (placed_of t xs) (placed_of t ys)
    (subst (λ ns. IsFront ns (process_lines script ls))
    (filter_map-append (λ (op : Placed). if op.thread == t then Some op.line else None) xs ys)
    (begun t ls is))

order-begun : (script : Script) (history : List Placed) → HasOrder script history
    → HasBegun script history
order-begun script history order t ls is =
    ([], sym (order t ls is) ∙ sym (append-nil (placed_of t history)))

module _ (script : Script) (text : JournalText) where
  shape-broken : (line : ℕ) → BreaksShape text (written_rows text) (wanted_rows script) line
      → ¬ (written_rows text ≡ wanted_rows script)
  shape-broken line (inl at) same =
      breaks-whole (λ rows. IsFront rows (wanted_rows script)) (front-less (wanted_rows script))
      (written_rows text) at.0 at.1
      ([], sym same ∙ sym (append-nil (written_rows text)))
  shape-broken line (inr missing) same = missing.1 same

  shape-once : (l m : ℕ) → BreaksShape text (written_rows text) (wanted_rows script) l
      → BreaksShape text (written_rows text) (wanted_rows script) m → l ≡ m
  shape-once l m (inl one) (inl other) =
      line-once (λ rows. IsFront rows (wanted_rows script)) (front-less (wanted_rows script))
      (written_rows text) (row_line text) l m
      one other
  shape-once l m (inl one) (inr missing) =
      absurd (breaks-whole (λ rows. IsFront rows (wanted_rows script))
      (front-less (wanted_rows script)) (written_rows text)
      one.0 one.1 missing.0)
  shape-once l m (inr missing) (inl other) =
      absurd (breaks-whole (λ rows. IsFront rows (wanted_rows script))
      (front-less (wanted_rows script)) (written_rows text)
      other.0 other.1 missing.0)
  shape-once l m (inr missing) (inr also) = missing.2 ∙ sym also.2

  order-broken : (line : ℕ) → BreaksOrder script text line → ¬ HasOrder script text.journal.ops
  order-broken line (inl at) order =
      breaks-whole (HasBegun script) (begun-less script) text.journal.ops at.0 at.1
      (order-begun script text.journal.ops order)
  order-broken line (inr missing) order = missing.1 order

  order-once : (l m : ℕ) → BreaksOrder script text l → BreaksOrder script text m → l ≡ m
  order-once l m (inl one) (inl other) =
      line-once (HasBegun script) (begun-less script) text.journal.ops (op_line text) l m one other
  order-once l m (inl one) (inr missing) =
      absurd (breaks-whole (HasBegun script) (begun-less script) text.journal.ops one.0 one.1
      missing.0)
  order-once l m (inr missing) (inl other) =
      absurd (breaks-whole (HasBegun script) (begun-less script) text.journal.ops other.0 other.1
      missing.0)
  order-once l m (inr missing) (inr also) = missing.2 ∙ sym also.2

  -- a rule that some item breaks
  abbrev Tested : {A : Type 0} → (A → Type 0) → List A → (ℕ → ℕ) → ℕ → Type 0
  Tested Keeps xs line_of line = (i : ℕ) × BreaksAt (All Keeps) xs i × (line ≡ line_of i)

  item-broken : {A : Type 0} (Keeps : A → Type 0) (xs : List A) (line_of : ℕ → ℕ) (line : ℕ)
      → Tested Keeps xs line_of line → ¬ All Keeps xs
  item-broken Keeps xs line_of line at = breaks-whole (All Keeps) (all-front Keeps) xs at.0 at.1

  item-once : {A : Type 0} (Keeps : A → Type 0) (xs : List A) (line_of : ℕ → ℕ) (l m : ℕ)
      → Tested Keeps xs line_of l → Tested Keeps xs line_of m → l ≡ m
  item-once Keeps xs line_of l m one other = line-once (All Keeps)
      (all-front Keeps) xs line_of l m one other

  abbrev rows : List Row
  rows = all_rows script text.journal

  abbrev Keeps : JournalKind → Row → Type 0
  Keeps rule = KeepsRow script text.journal rule

  -- a rule that is broken doesn't hold
  broken-rule : (rule : JournalKind) (line : ℕ) → BreaksRule script text rule line
      → ¬ HoldsRule script text rule
  broken-rule kind.Form line broken = absurd broken
  broken-rule kind.Cut line broken = absurd broken
  broken-rule kind.After line broken = absurd broken
  broken-rule kind.Shape line broken = shape-broken line broken
  broken-rule kind.OpStranger line broken = item-broken (IsKnown script) text.journal.ops
      (op_line text) line broken
  broken-rule kind.OpOrder line broken = order-broken line broken
  broken-rule kind.SeenFalls line broken = item-broken (Keeps kind.SeenFalls) rows
      (row_line text) line broken
  broken-rule kind.SeenPast line broken = item-broken (Keeps kind.SeenPast) rows
      (row_line text) line broken
  broken-rule kind.SeenOwn line broken = item-broken (Keeps kind.SeenOwn) rows
      (row_line text) line broken
  broken-rule kind.SeenFixed line broken = item-broken (Keeps kind.SeenFixed) rows
      (row_line text) line broken
  broken-rule kind.Reading line broken = item-broken (Keeps kind.Reading) rows
      (row_line text) line broken
  broken-rule kind.Reply line broken = item-broken (Keeps kind.Reply) rows
      (row_line text) line broken

  -- and is broken first on one line
  rule-once : (rule : JournalKind) (l m : ℕ) → BreaksRule script text rule l
      → BreaksRule script text rule m → l ≡ m
  rule-once kind.Form l m one other = absurd one
  rule-once kind.Cut l m one other = absurd one
  rule-once kind.After l m one other = absurd one
  rule-once kind.Shape l m one other = shape-once l m one other
  rule-once kind.OpStranger l m one other = item-once (IsKnown script) text.journal.ops
      (op_line text) l m one other
  rule-once kind.OpOrder l m one other = order-once l m one other
  rule-once kind.SeenFalls l m one other = item-once (Keeps kind.SeenFalls) rows
      (row_line text) l m one other
  rule-once kind.SeenPast l m one other = item-once (Keeps kind.SeenPast) rows
      (row_line text) l m one other
  rule-once kind.SeenOwn l m one other = item-once (Keeps kind.SeenOwn) rows
      (row_line text) l m one other
  rule-once kind.SeenFixed l m one other = item-once (Keeps kind.SeenFixed) rows
      (row_line text) l m one other
  rule-once kind.Reading l m one other = item-once (Keeps kind.Reading) rows
      (row_line text) l m one other
  rule-once kind.Reply l m one other = item-once (Keeps kind.Reply) rows
      (row_line text) l m one other

  -- ---- the first rule is one

  holds-at : (rs : List JournalKind) (i j : ℕ) (rule : JournalKind) → i < j
      → slice_get rs i ≡ Some rule
      → HoldAll script text (take j rs) → HoldsRule script text rule
  holds-at [] i j rule before is held = absurd (let none = slice_get_within [] i rule is in omega
      (arith, none))
  holds-at (r ∷ rs) zero zero rule before is held = absurd (omega (arith, before))
  holds-at (r ∷ rs) zero (suc j) rule before is held =
      let first : Some r ≡ Some rule = is in
      let same : r ≡ rule = cc in
      subst (HoldsRule script text) same held.0
  holds-at (r ∷ rs) (suc i) zero rule before is held = absurd (omega (arith, before))
  holds-at (r ∷ rs) (suc i) (suc j) rule before is held = holds-at rs i j rule
      (omega (arith, before)) is held.1

  not-before : (first second : JournalKind) (l m : ℕ) (one : IsFirstBroken script text first l)
      (other : IsFirstBroken script text second m) → ¬ (one.place < other.place)
  not-before first second l m one other before =
      broken-rule first l one.here (holds-at rules one.place other.place first before one.is
      other.before)

  pub broken-once : (first second : JournalKind) (l m : ℕ) → IsFirstBroken script text first l
      → IsFirstBroken script text second m → (first ≡ second) × (l ≡ m)
  broken-once first second l m one other =
      let place : one.place ≡ other.place =
      neither one.place other.place (not-before first second l m one other)
      (not-before second first m l other one) in
      let at : Some first ≡ Some second = sym one.is ∙ ap (slice_get rules) place ∙ other.is in
      let same : first ≡ second = cc in (
        same,
        rule-once first l m one.here (subst (λ rule. BreaksRule script text rule m)
            (sym same) other.here),
      )

-- ---- a lawful journal breaks none

module _ (script : Script) (journal : Journal) (Q : Row → Type 0) where
  noted-all : (ns : List NotedLine) → All (λ (n : NotedLine). Q (Noted n)) ns → All Q (map Noted ns)
  noted-all [] all = All-nil Q
  noted-all (n ∷ ns) all =
      All-cons Q (Noted n) (map Noted ns) (all 0 n (omega arith))
      (noted-all ns (all-back (λ (m : NotedLine). Q (Noted m)) (n ∷ []) ns all))

  -- a rule that all starts and lines keep is kept by all rows
  rows-all : (k : ℕ) (threads : List (List Line)) (notes : List ThreadNote)
      → All (λ (note : ThreadNote). Q (Start note)) notes
      → All (λ (n : NotedLine). Q (Noted n)) (flat_map (noted_of script journal.ops)
      (enumerate_from k (zip threads notes)))
      → All Q (flat_map (thread_rows script journal) (enumerate_from k (zip threads notes)))
  rows-all k [] notes starts lines = All-nil Q
  rows-all k (ls ∷ threads) [] starts lines = All-nil Q
  rows-all k (ls ∷ threads) (note ∷ notes) starts lines =
      let one : List NotedLine = noted_of script journal.ops (k, (ls, note)) in
      let more : List NotedLine = flat_map (noted_of script journal.ops)
      (enumerate_from (k + 1) (zip threads notes)) in
      let rest : List Row = flat_map (thread_rows script journal)
      (enumerate_from (k + 1) (zip threads notes)) in
      All-cons Q (Start note) (map Noted one ++ rest) (starts 0 note (omega arith))
      (All-append Q (map Noted one) rest
      (noted-all one (all-front (λ (n : NotedLine). Q (Noted n)) one more lines))
      (rows-all (k + 1) threads notes (all-back (λ (n : ThreadNote). Q (Start n))
      (note ∷ []) notes starts)
      (all-back (λ (n : NotedLine). Q (Noted n)) one more lines)))

module _ (script : Script) (text : JournalText) (is : IsLawfulText script text) where
  abbrev journal : Journal
  journal = text.journal

  by-rows : (rule : JournalKind) → All (KeepsStart script journal rule) journal.threads
      → All (KeepsLine script journal rule) (noted_lines script journal)
      → All (KeepsRow script journal rule) (all_rows script journal)
  by-rows rule starts lines =
      rows-all script journal (KeepsRow script journal rule) 0 script.threads journal.threads starts
      lines

  every-rule : (rule : JournalKind) → HoldsRule script text rule
  every-rule kind.Form = by-rows kind.Form (λ k d l. tt) (λ k d l. tt)
  every-rule kind.Cut = by-rows kind.Cut (λ k d l. tt) (λ k d l. tt)
  every-rule kind.After = by-rows kind.After (λ k d l. tt) (λ k d l. tt)
  every-rule kind.Shape = is.rows
  every-rule kind.OpStranger = is.lawful.known
  every-rule kind.OpOrder = is.lawful.order
  every-rule kind.SeenFalls = by-rows kind.SeenFalls (λ k d l. tt) is.lawful.rises
  every-rule kind.SeenPast = by-rows kind.SeenPast (λ k d l. tt) is.lawful.within
  every-rule kind.SeenOwn = by-rows kind.SeenOwn (λ k d l. tt) is.lawful.own
  every-rule kind.SeenFixed = by-rows kind.SeenFixed (λ k d l. tt) is.lawful.fixed
  every-rule kind.Reading = by-rows kind.Reading is.lawful.starts is.lawful.read
  every-rule kind.Reply = by-rows kind.Reply (λ k d l. tt) is.lawful.answered

  pub lawful-unbroken : (rule : JournalKind) (line : ℕ) → ¬ IsFirstBroken script text rule line
  lawful-unbroken rule line first = broken-rule script text rule line first.here (every-rule rule)
