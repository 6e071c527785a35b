-- The rows of a table in a context.
use Rattle.std.proofs.Common.{◌≡◌, ℕ, zero, suc, ◌+◌, ◌<◌, ◌≤◌, List, [], ◌∷◌, ◌++◌, length, map}
use Rattle.std.proofs.Common.{take, drop, get_or, ap, subst, sym, ◌∙◌, refl, arith, length-append}
use Rattle.std.proofs.Math.Seq.{drop-append_seam, take-append_seam}
use Rattle.std.proofs.Common.{Option}
use Rattle.std.specs.Prelude.{unwrap_or}
use Rattle.std.specs.List.{All, AllByRecursion, AllZip, flat_map}
use Rattle.std.proofs.lemmas.List.{drop-drop, drop_more, length-drop, length-map, map-append}
use Rattle.std.proofs.lemmas.List.Elements.{All-append, All-from_recursion, All-weaker}
use Rattle.std.proofs.lemmas.List.Elements.{recursion_from_All}
use Rattle.cal_agg.specs.declared.row.AggRow.{AggRow}
use Rattle.cal_context.proofs.CallerLemmas.{attribute_at-Grows, path_at-Grows, within_attributes}
use Rattle.cal_context.proofs.CallerLemmas.{within_paths}
use Rattle.cal_context.proofs.ListLemmas.{map-alike}
use Rattle.cal_context.specs.Snapshots.{IsBelowRoot}
use Rattle.cal_context.specs.Snapshots.{entry_of as entry_in}
use Rattle.cal_context.specs.Tree.{Grows, Tree, path_at}
use Rattle.cal_context.specs.declared.numbers.NodeNumber.{NodeNumber}
use Rattle.cal_context.specs.declared.snapshot.Immediate.{Immediate}
use Rattle.cal_filter.proofs.Zips.{zip_at, zip_length, zip_weaker}
use Rattle.cal_groups.specs.Appended.{Appends, record_of}
use Rattle.cal_groups.specs.ContextRows.{HasPath, MayTake, MayTakeRow, RowMeans}
use Rattle.cal_groups.specs.Keys.{IsKeyNumbered, immediate_of, number_at, numbers_of}
use Rattle.cal_nodes.specs.Numbers.{IsNumbered}
use Rattle.cal_profile.specs.TableRows.{KeyedRow, row_entries, row_record}
use Rattle.cal_script.specs.declared.script.ChannelQuery.{ChannelQuery}
use Rattle.cal_snap.specs.Numbered.{IsKnown, entry_of}
use Rattle.cal_snap.specs.declared.numbered.NumberedEntry.{NumberedEntry}
use Rattle.cal_table.specs.Rows.{Row, rows_of}
use Rattle.cal_table.specs.declared.key.TableKey.{TableKey}
use Rattle.cal_value.specs.declared.attribute.Entry.{Entry}
use Rattle.cal_words.specs.declared.node.NodeId.{NodeId}

-- ---- a key

module _ (nodes : List (Option NodeNumber)) (t : Tree) where
  numbered_each : (refs : List NodeId) (paths : List (List Entry))
      → AllZip (HasPath nodes t) refs paths → AllByRecursion (IsNumbered nodes) refs
  numbered_each [] paths h = tt
  numbered_each (x ∷ xs) [] h = elim h [ ]
  numbered_each (x ∷ xs) (p ∷ ps) h =
      ((h.0.number, h.0.numbered), numbered_each xs ps h.1)

  number_is : (node : NodeId) (path : List Entry) (h : HasPath nodes t node path)
      → number_at nodes node ≡ h.number
  number_is node path h = ap (λ o. unwrap_or o (record { 0 = 0 })) h.numbered

  below_each : (refs : List NodeId) (paths : List (List Entry))
      → AllZip (HasPath nodes t) refs paths
      → AllByRecursion (IsBelowRoot t) (map (number_at nodes) refs)
  below_each [] paths h = tt
  below_each (x ∷ xs) [] h = elim h [ ]
  below_each (x ∷ xs) (p ∷ ps) h =
      (subst (IsBelowRoot t) (sym (number_is x p h.0)) h.0.below, below_each xs ps h.1)

  paths_are : (refs : List NodeId) (paths : List (List Entry))
      → AllZip (HasPath nodes t) refs paths
      → map (path_at t) (map (number_at nodes) refs) ≡ paths
  paths_are [] [] h = refl
  paths_are [] (p ∷ ps) h = elim h [ ]
  paths_are (x ∷ xs) [] h = elim h [ ]
  paths_are (x ∷ xs) (p ∷ ps) h =
      λ i. (ap (path_at t) (number_is x p h.0) ∙ h.0.path) i ∷ paths_are xs ps h.1 i

  entries_are : (es : List NumberedEntry)
      → map (entry_in t) (map immediate_of es) ≡ map (entry_of t.attributes) es
  entries_are [] = refl
  entries_are (e ∷ es) = ap (λ l. entry_of t.attributes e ∷ l) (entries_are es)

  known_each : (es : List NumberedEntry) → AllByRecursion (IsKnown t.attributes) es
      → AllByRecursion (λ (i : Immediate). i.attribute.0 < length t.attributes)
      (map immediate_of es)
  known_each [] h = tt
  known_each (e ∷ es) h = (h.0, known_each es h.1)

  -- the nodes and immediates of a row's key
  pub record AreOfKey (row : Row) (keyed : KeyedRow) (numbers : List NodeNumber)
      (imms : List Immediate) : Type 0 where
    pub below : All (IsBelowRoot t) numbers
    pub within : All (λ (i : Immediate). i.attribute.0 < length t.attributes) imms
    pub key : record_of t numbers imms ≡ keyed.key

  pub key_numbered : (row : Row) (keyed : KeyedRow) → RowMeans nodes t row keyed
      → All (IsNumbered nodes) row.key.refs
  key_numbered row keyed means =
      All-from_recursion (IsNumbered nodes) row.key.refs
      (numbered_each row.key.refs keyed.key.paths means.paths)

  pub key_put : (row : Row) (keyed : KeyedRow) (numbers : List NodeNumber)
      (imms : List Immediate) → RowMeans nodes t row keyed
      → numbers ≡ map (number_at nodes) row.key.refs → imms ≡ map immediate_of row.key.imms
      → AreOfKey row keyed numbers imms
  key_put row keyed numbers imms means ns is = record {
    below = subst (All (IsBelowRoot t)) (sym ns)
        (All-from_recursion (IsBelowRoot t) (map (number_at nodes) row.key.refs)
        (below_each row.key.refs keyed.key.paths means.paths));
    within = subst (All (λ (i : Immediate). i.attribute.0 < length t.attributes)) (sym is)
        (All-from_recursion (λ (i : Immediate). i.attribute.0 < length t.attributes)
        (map immediate_of row.key.imms)
        (known_each row.key.imms
        (recursion_from_All (IsKnown t.attributes) row.key.imms means.known)));
    key = λ i. record {
      paths = (ap (map (path_at t)) ns
          ∙ paths_are row.key.refs keyed.key.paths means.paths) i;
      imms = (ap (map (entry_in t)) is ∙ entries_are row.key.imms ∙ means.imms) i;
    };
  }

-- ---- the record in place of a row

pub filled_means : (t : Tree) (channel : ChannelQuery) (keyed : KeyedRow) (held : AggRow)
    (numbers : List NodeNumber) (imms new : List Immediate)
    → record_of t numbers imms ≡ keyed.key → held ≡ keyed.held
    → Appends t imms new
    (row_entries channel (record { key = record_of t numbers imms; held = held }))
    → record_of t numbers new ≡ row_record channel keyed
filled_means t channel keyed held numbers imms new key same h =
    let row : KeyedRow = record { key = record_of t numbers imms; held = held } in
    let is : row ≡ keyed = λ i. record { key = key i; held = same i } in
    let results : map (entry_in t) h.more ≡ row_entries channel keyed =
    h.means.means ∙ ap (row_entries channel) is in
    let all : map (entry_in t) new ≡ keyed.key.imms ++ row_entries channel keyed =
    ap (map (entry_in t)) h.new_is ∙ map-append (entry_in t) imms h.more
    ∙ (λ i. (key i).imms ++ results i) in
    λ i. record { paths = (key i).paths; imms = all i }

pub filled_within : (t : Tree) (imms new : List Immediate) (es : List Entry)
    → All (λ (i : Immediate). i.attribute.0 < length t.attributes) imms → Appends t imms new es
    → All (λ (i : Immediate). i.attribute.0 < length t.attributes) new
filled_within t imms new es within h =
    subst (All (λ (i : Immediate). i.attribute.0 < length t.attributes)) (sym h.new_is)
    (All-append (λ (i : Immediate). i.attribute.0 < length t.attributes) imms h.more within
    h.means.within)

-- ---- rows one after another

pub length-rows_of : (keys : List TableKey) (helds : List AggRow) → length keys ≡ length helds
    → length (rows_of keys helds) ≡ length keys
length-rows_of [] helds long = refl
length-rows_of (key ∷ keys) [] long = absurd (omega arith)
length-rows_of (key ∷ keys) (held ∷ helds) long =
    ap suc (length-rows_of keys helds (omega arith))

row_at : (keys : List TableKey) (helds : List AggRow) (i : ℕ) (k : TableKey) (h : AggRow)
    (d : Row) → length keys ≡ length helds → i < length keys
    → get_or (rows_of keys helds) i d ≡ record { key = get_or keys i k; held = get_or helds i h }
row_at [] helds i k h d long short = absurd (omega arith)
row_at (key ∷ keys) [] i k h d long short = absurd (omega arith)
row_at (key ∷ keys) (held ∷ helds) zero k h d long short = refl
row_at (key ∷ keys) (held ∷ helds) (suc i) k h d long short =
    row_at keys helds i k h d (omega arith) (omega arith)

-- the nodes of keys of rows that mean some have numbers
numbered_keys : (nodes : List (Option NodeNumber)) (t : Tree) (keys : List TableKey)
    (helds : List AggRow) (keyed : List KeyedRow) → length keys ≡ length helds
    → AllZip (RowMeans nodes t) (rows_of keys helds) keyed
    → AllByRecursion (IsKeyNumbered nodes) keys
numbered_keys nodes t [] helds keyed long means = tt
numbered_keys nodes t (key ∷ keys) [] keyed long means = absurd (omega arith)
numbered_keys nodes t (key ∷ keys) (held ∷ helds) [] long means = elim means [ ]
numbered_keys nodes t (key ∷ keys) (held ∷ helds) (k ∷ ks) long means = (
  key_numbered nodes t (record { key = key; held = held }) k means.0,
  numbered_keys nodes t keys helds ks (omega arith) means.1,
)

-- what a keyed row past the end is
abbrev pub no_row : AggRow → KeyedRow
no_row held = record { key = record { paths = []; imms = [] }; held = held }

module _ (nodes : List (Option NodeNumber)) (t : Tree) (keys : List TableKey)
    (helds : List AggRow) (long : length keys ≡ length helds) where
  pub keyed_long : (keyed : List KeyedRow)
      → AllZip (RowMeans nodes t) (rows_of keys helds) keyed → length keyed ≡ length keys
  keyed_long keyed means =
      sym (zip_length (RowMeans nodes t) (rows_of keys helds) keyed means)
      ∙ length-rows_of keys helds long

  pub row_means_at : (keyed : List KeyedRow) (i : ℕ) (key : TableKey) (held : AggRow)
      → AllZip (RowMeans nodes t) (rows_of keys helds) keyed → i < length keys
      → key ≡ get_or keys i key → held ≡ get_or helds i held
      → RowMeans nodes t (record { key = key; held = held }) (get_or keyed i (no_row held))
  row_means_at keyed i key held means short key_is held_is =
      let d : Row = record { key = key; held = held } in
      let same : get_or (rows_of keys helds) i d ≡ d =
      row_at keys helds i key held d long short
      ∙ (λ j. record { key = sym key_is j; held = sym held_is j }) in
      subst (λ r. RowMeans nodes t r (get_or keyed i (no_row held))) same
      (zip_at (RowMeans nodes t) (rows_of keys helds) keyed i d (no_row held) means
      (subst (λ n. i < n) (sym (keyed_long keyed means)) short))

  pub keys_numbered : (keyed : List KeyedRow)
      → AllZip (RowMeans nodes t) (rows_of keys helds) keyed → All (IsKeyNumbered nodes) keys
  keys_numbered keyed means = All-from_recursion (IsKeyNumbered nodes) keys
      (numbered_keys nodes t keys helds keyed long means)

  pub may_take_at : (i : ℕ) (key : TableKey) (held : AggRow)
      → MayTake nodes t (rows_of keys helds) → i < length keys
      → key ≡ get_or keys i key → held ≡ get_or helds i held
      → MayTakeRow nodes t (record { key = key; held = held })
  may_take_at i key held may short key_is held_is = record {
    keyed = get_or may.keyed i (no_row held);
    means = row_means_at may.keyed i key held may.means short key_is held_is;
    room = may.room i (no_row held)
        (subst (λ n. i < n) (sym (keyed_long may.keyed may.means)) short);
  }

-- ---- the numbers of the nodes of keys, one key's behind another's

module _ (nodes : List (Option NodeNumber)) (keys : List TableKey) (i : ℕ) (key : TableKey)
    (short : i < length keys) (key_is : key ≡ get_or keys i key)
    (many : ℕ) (long : many ≡ length key.refs) (numbers : List NodeNumber) (from : ℕ)
    (left : drop from numbers ≡ flat_map (numbers_of nodes) (drop i keys)) where
  left_is : drop from numbers
      ≡ numbers_of nodes key ++ flat_map (numbers_of nodes) (drop (i + 1) keys)
  left_is = left ∙ ap (flat_map (numbers_of nodes)) (drop_more keys i key short)
      ∙ ap (λ k. numbers_of nodes k ++ flat_map (numbers_of nodes) (drop (i + 1) keys)) (sym key_is)

  own_long : length (numbers_of nodes key) ≡ many
  own_long = length-map key.refs (number_at nodes) ∙ sym long

  pub own_within : from ≤ length numbers → from + many ≤ length numbers
  own_within within =
      let all = sym (length-drop from numbers) ∙ ap length left_is
      ∙ length-append (numbers_of nodes key) (flat_map (numbers_of nodes) (drop (i + 1) keys)) in
      let own = own_long in
      omega (arith, all, own, within)

  pub own_is : take many (drop from numbers) ≡ numbers_of nodes key
  own_is = ap (take many) left_is
      ∙ ap (λ n. take n (numbers_of nodes key
      ++ flat_map (numbers_of nodes) (drop (i + 1) keys))) (sym own_long)
      ∙ take-append_seam (numbers_of nodes key) (flat_map (numbers_of nodes) (drop (i + 1) keys))

  pub left_more : drop (from + many) numbers ≡ flat_map (numbers_of nodes) (drop (i + 1) keys)
  left_more = sym (drop-drop many from numbers) ∙ ap (drop many) left_is
      ∙ ap (λ n. drop n (numbers_of nodes key
      ++ flat_map (numbers_of nodes) (drop (i + 1) keys))) (sym own_long)
      ∙ drop-append_seam (numbers_of nodes key) (flat_map (numbers_of nodes) (drop (i + 1) keys))

-- ---- rows mean the same while the context grows

module _ {old new : Tree} (grows : Grows old new) (nodes : List (Option NodeNumber)) where
  path-Grows : (node : NodeId) (path : List Entry) → HasPath nodes old node path
      → HasPath nodes new node path
  path-Grows node path h = record {
    number = h.number;
    numbered = h.numbered;
    below = record {
      below = h.below.below;
      within = within_paths grows h.number.0 h.below.within;
    };
    path = path_at-Grows grows h.number h.below.within ∙ h.path;
  }

  pub row-Grows : (row : Row) (keyed : KeyedRow) → RowMeans nodes old row keyed
      → RowMeans nodes new row keyed
  row-Grows row keyed h = record {
    paths = zip_weaker (HasPath nodes old) (HasPath nodes new) path-Grows row.key.refs
        keyed.key.paths h.paths;
    known = All-weaker (IsKnown old.attributes) (IsKnown new.attributes)
        (λ e l. within_attributes grows e.attribute l) row.key.imms h.known;
    imms = map-alike (entry_of new.attributes) (entry_of old.attributes) row.key.imms
        (λ k d l j. record {
          attr = attribute_at-Grows grows (record { 0 = (get_or row.key.imms k d).attribute })
              (h.known k d l) j;
          value = (get_or row.key.imms k d).value;
        }) ∙ h.imms;
    held = h.held;
  }

  pub rows-Grows : (rows : List Row) (keyed : List KeyedRow)
      → AllZip (RowMeans nodes old) rows keyed → AllZip (RowMeans nodes new) rows keyed
  rows-Grows rows keyed h =
      zip_weaker (RowMeans nodes old) (RowMeans nodes new) row-Grows rows keyed h

  pub may_take-Grows : (rows : List Row) → MayTake nodes old rows → MayTake nodes new rows
  may_take-Grows rows h = record {
    keyed = h.keyed;
    means = rows-Grows rows h.keyed h.means;
    room = h.room;
  }
