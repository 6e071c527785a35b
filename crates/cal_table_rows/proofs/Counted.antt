-- What snapshots by numbers come to in a table is what the records come to that they mean.
use Rattle.std.proofs.Common.{◌≡◌, ℕ, ◌||◌, Bool, true, false, None, List, [], ◌∷◌}
use Rattle.std.proofs.Common.{map, refl, sym, ap, ◌∙◌, pos, All, filter}
use Rattle.std.specs.Cmp.Lexicographic.{bytes_decides}
use Rattle.std.specs.List.{AllByRecursion, AllZip, cons_option, filter_map, last_or, list_any}
use Rattle.std.specs.Ordering.{eq_by_cmp}
use Rattle.std.proofs.lemmas.Bool.Decides.{same_from_decides}
use Rattle.std.proofs.lemmas.List.{get_or-map}
use Rattle.std.proofs.lemmas.List.Elements.{All-filter, All-weaker, recursion_from_All}
use Rattle.std.proofs.lemmas.Slice.Zip.{AllZip-long}
use Rattle.std.specs.declared.random_state.RandomState.{RandomState}
use Rattle.cal_agg.specs.Rows.{cell_over}
use Rattle.cal_channel.specs.Channels.{IsCounted}
use Rattle.cal_filter.specs.Named.{is_named}
use Rattle.cal_filter.specs.Numbers.{number_in}
use Rattle.cal_once.specs.declared.seat.RowSeat.{RowSeat}
use Rattle.cal_profile.specs.TableRows.{last_among, row_over, table_key}
use Rattle.cal_profile.specs.TableRows as keyed_rows
use Rattle.cal_rowset.specs.Texts.{is_same}
use Rattle.cal_script.specs.declared.script.ChannelQuery.{ChannelQuery}
use Rattle.cal_script.specs.declared.script.Script.{Script}
use Rattle.cal_snap.specs.Numbered.{IsKnown, entry_of, no_attribute}
use Rattle.cal_snap.specs.declared.numbered.NumberedEntry.{NumberedEntry}
use Rattle.cal_snap.specs.declared.numbered.NumberedSnap.{NumberedSnap}
use Rattle.cal_table.specs.Shapes.{flags_of, is_among, shape_of}
use Rattle.cal_table.specs.Snapshots.{held_over, is_flagged, key_of, last_number, numbers_of}
use Rattle.cal_table.specs.declared.shape.TableShape.{TableShape}
use Rattle.cal_table_rows.proofs.OneMeaning.{KeyMeans}
use Rattle.cal_tree.specs.declared.tree.Tree.{Tree}
use Rattle.cal_value.specs.ExactOrder.{exact_decides, text_exact}
use Rattle.cal_value.specs.Texts.{text_cmp}
use Rattle.cal_value.specs.declared.attribute.Attribute.{Attribute}
use Rattle.cal_value.specs.declared.attribute.Entry.{Entry}
use Rattle.cal_value.specs.declared.record.Rec.{Rec}
use Rattle.cal_words.specs.declared.sort.NodeSort.{NodeSort}

-- ---- names

-- both tests of texts answer alike
texts_alike : (x y : List ℕ) → eq_by_cmp text_cmp x y ≡ is_same x y
texts_alike x y = same_from_decides (eq_by_cmp text_cmp x y) (is_same x y)
    (exact_decides text_exact x y) (bytes_decides x y)

among_alike : (names : List (List ℕ)) (name : List ℕ)
    → is_among names name ≡ list_any (is_same name) names
among_alike [] name = refl
among_alike (n ∷ names) name = λ i. texts_alike name n i || among_alike names name i

alone : (b : Bool) → (b || false) ≡ b
alone true = refl
alone false = refl

module _ (attributes : List Attribute) where
  -- ---- flags

  -- an entry is flagged where its attribute's name is one of the names
  flagged : (names : List (List ℕ)) (e : NumberedEntry) → IsKnown attributes e
      → is_flagged (flags_of names attributes) e
      ≡ is_among names (entry_of attributes e).attr.name
  flagged names e known = get_or-map (λ (a : Attribute). is_among names a.name) attributes
      e.attribute no_attribute false known

  -- two tests that agree on entries keep the same
  kept_alike : (p : NumberedEntry → Bool) (q : Entry → Bool) (es : List NumberedEntry)
      → AllByRecursion (λ e. p e ≡ q (entry_of attributes e)) es
      → map (entry_of attributes) (filter p es) ≡ filter q (map (entry_of attributes) es)
  kept_alike p q [] all = refl
  kept_alike p q (e ∷ es) all = by (p e) (q (entry_of attributes e)) all.0 refl refl
      (kept_alike p q es all.1)
    where
      by : (a b : Bool) → a ≡ b → p e ≡ a → q (entry_of attributes e) ≡ b
          → map (entry_of attributes) (filter p es) ≡ filter q (map (entry_of attributes) es)
          → map (entry_of attributes) (filter p (e ∷ es))
          ≡ filter q (map (entry_of attributes) (e ∷ es))
      by true true same one other rest =
          rw (one, other) (ap (λ l. entry_of attributes e ∷ l) rest)
      by false false same one other rest = rw (one, other) rest
      by true false same one other rest = absurd cc
      by false true same one other rest = absurd cc

  numbers_alike : (es : List NumberedEntry)
      → filter_map (λ (e : NumberedEntry). number_in e.value) es
      ≡ filter_map (λ (e : Entry). number_in e.value) (map (entry_of attributes) es)
  numbers_alike [] = refl
  numbers_alike (e ∷ es) = ap (cons_option (number_in e.value)) (numbers_alike es)

  -- the last number of a value attribute is that of its name
  last_alike : (name : List ℕ) (es : List NumberedEntry) → All (IsKnown attributes) es
      → last_number (flags_of (name ∷ []) attributes) es
      ≡ last_among name (map (entry_of attributes) es)
  last_alike name es known = ap (last_or None)
      (numbers_alike (filter (is_flagged (flags_of (name ∷ []) attributes)) es)
      ∙ ap (filter_map (λ (e : Entry). number_in e.value))
      (kept_alike (is_flagged (flags_of (name ∷ []) attributes)) (is_named name) es
      (recursion_from_All (λ e. is_flagged (flags_of (name ∷ []) attributes) e
      ≡ is_named name (entry_of attributes e)) es
      (All-weaker (IsKnown attributes) (λ e. is_flagged (flags_of (name ∷ []) attributes) e
      ≡ is_named name (entry_of attributes e))
      (λ e within. flagged (name ∷ []) e within
      ∙ alone (is_named name (entry_of attributes e))) es known))))

  -- ---- what snapshots come to

  module _ (script : Script) (tree : Tree) (seat : RowSeat NodeSort) (channel : ChannelQuery)
      (hashers : RandomState) where
    -- the shape of the channel's table
    abbrev pub shape : TableShape
    shape = shape_of hashers channel.keys channel.values attributes

    abbrev pub IsOf : NumberedSnap → Rec → Type 0
    IsOf = IsCounted attributes script tree seat

    abbrev is_key : Entry → Bool
    is_key e = list_any (is_same e.attr.name) channel.keys

    -- a snapshot's key means the key of the record
    pub key_alike : (snap : NumberedSnap) (rec : Rec) → IsOf snap rec
        → KeyMeans attributes script tree seat (key_of shape snap) (table_key channel rec)
    key_alike snap rec means = record {
      paths = means.paths;
      within = All-filter (is_flagged shape.keys) (IsKnown attributes) snap.imms.items means.within;
      imms = kept_alike (is_flagged shape.keys) is_key snap.imms.items
          (recursion_from_All
          (λ e. is_flagged shape.keys e ≡ is_key (entry_of attributes e)) snap.imms.items
          (All-weaker (IsKnown attributes)
          (λ e. is_flagged shape.keys e ≡ is_key (entry_of attributes e))
          (λ e within. flagged channel.keys e within
          ∙ among_alike channel.keys (entry_of attributes e).attr.name) snap.imms.items
          means.within))
          ∙ ap (filter is_key) means.imms;
    }

    numbers_over : (name : List ℕ) (snaps : List NumberedSnap) (recs : List Rec)
        → AllZip IsOf snaps recs
        → numbers_of (flags_of (name ∷ []) attributes) snaps ≡ keyed_rows.numbers_of name recs
    numbers_over name [] [] all = refl
    numbers_over name [] (r ∷ recs) all = absurd all
    numbers_over name (s ∷ snaps) [] all = absurd all
    numbers_over name (s ∷ snaps) (r ∷ recs) all =
        let first = last_alike name s.imms.items all.0.within ∙ ap (last_among name) all.0.imms in
        λ i. cons_option (first i) (numbers_over name snaps recs all.1 i)

    cells_over : (names : List (List ℕ)) (snaps : List NumberedSnap) (recs : List Rec)
        → AllZip IsOf snaps recs
        → map (λ flags. cell_over (numbers_of flags snaps))
        (map (λ name. flags_of (name ∷ []) attributes) names)
        ≡ map (λ name. cell_over (keyed_rows.numbers_of name recs)) names
    cells_over [] snaps recs all = refl
    cells_over (name ∷ names) snaps recs all =
        λ i. cell_over (numbers_over name snaps recs all i) ∷ cells_over names snaps recs all i

    -- snapshots come to what their records do
    pub held_alike : (snaps : List NumberedSnap) (recs : List Rec) → AllZip IsOf snaps recs
        → held_over shape snaps ≡ row_over channel recs
    held_alike snaps recs all =
        let long = AllZip-long IsOf snaps recs all in
        let cells = cells_over channel.values snaps recs all in
        λ i. record { count = pos (sym long i); cells = cells i }
