-- What lines of each sort make.
use Rattle.std.proofs.Common.{◌≢◌, ◌≡◌, ◌<◌, ℕ, true, false, not, Some, None, List, [], ◌∷◌, ◌++◌, length, map, refl, sym, ap, ◌∙◌, subst, if◌then◌else◌, arith}
use Rattle.std.specs.Prelude.{Result, Ok, Err}
use Rattle.std.specs.List.{All}
use Rattle.std.specs.Str.{IsUtf8, is_utf8}
use Rattle.std.proofs.lemmas.Bool.{false_from_ne_true}
use Rattle.std.proofs.lemmas.List.{map-append}
use Rattle.std.proofs.lemmas.List.Elements.{All-append}
use Rattle.std.proofs.lemmas.Str.{IsUtf8-from_is_utf8, is_utf8-from_IsUtf8}
use Rattle.cal_context.specs.Snapshots.{IsIn, IsBelowRoot, meaning, entry_of}
use Rattle.cal_context.specs.Tree.{Tree, Grows, path_at}
use Rattle.cal_context.specs.declared.snapshot.Snapshot.{Snapshot}
use Rattle.cal_line.specs.FirstFault.{◌>>=◌}
use Rattle.cal_line.specs.Fields.{fields_of}
use Rattle.cal_line.specs.declared.field.Field.{Field}
use Rattle.cal_value.specs.declared.record.Rec.{Rec}
use Rattle.cal_read.specs.Fields.{or_fault, repeats_key, sort_of}
use Rattle.cal_read.specs.Held.{AreHeld}
use Rattle.cal_read.specs.NodeLines.{node_step}
use Rattle.cal_read.specs.Nodes.{Named}
use Rattle.cal_read.specs.RecordLines.{record_of}
use Rattle.cal_context.proofs.CallerLemmas.{IsIn-Grows, meaning-Grows}
use Rattle.cal_read.proofs.ReadLemmas.{TakesUpTo-none}
use Rattle.cal_read.specs.Steps.{AnswersFor}
use Rattle.cal_read.specs.declared.end.LineEnd as ends
use Rattle.cal_read.specs.declared.end.LineEnd.TheVariants as end
use Rattle.cal_read.specs.Standing.{Stands, TakesLine}
use Rattle.cal_read.specs.Stream as streams
use Rattle.cal_read.specs.Stream.{no_lines, with_record, step_by_sort, step_by_fields, step_by_list, step_by_text, line_step}
use Rattle.cal_read.specs.declared.kind.StreamKind.{StreamKind}
use Rattle.cal_read.specs.declared.kind.StreamKind.TheVariants as kind
use Rattle.cal_read.specs.declared.sort.Sort.{Sort}
use Rattle.cal_read.specs.declared.sort.Sort.TheVariants.{OfNode, OfRow, OfGlobals}
use Rattle.cal_read.specs.declared.stream.Stream.{Stream}

module _ (s : streams.Stream) (fields : List Field) where
  pub row_made : (r : Rec) → record_of s.nodes fields ≡ Ok r → step_by_sort s fields OfRow ≡ Ok (record s { rows = s.rows ++ r ∷ [] })
  row_made r e = ap (λ o. o >>= (λ row. Ok (record s { rows = s.rows ++ row ∷ [] }))) e

  pub globals_made : (r : Rec) → record_of s.nodes fields ≡ Ok r → step_by_sort s fields OfGlobals ≡ Ok (record s { globals = with_record s.globals r })
  globals_made r e = ap (λ o. o >>= (λ more. Ok (record s { globals = with_record s.globals more }))) e

  pub nodes_made : (nodes : List Named) → node_step s.nodes fields ≡ Ok nodes → step_by_sort s fields OfNode ≡ Ok (record s { nodes = nodes })
  nodes_made nodes e = ap (λ o. o >>= (λ more. Ok (record s { nodes = more }))) e

  pub nodes_faulty : (k : StreamKind) → node_step s.nodes fields ≡ Err k → step_by_sort s fields OfNode ≡ Err k
  nodes_faulty k e = ap (λ o. o >>= (λ more. Ok (record s { nodes = more }))) e

  pub fields_sorted : (sort : Sort) → repeats_key fields ≡ false → sort_of fields ≡ Ok sort → step_by_fields s fields ≡ step_by_sort s fields sort
  fields_sorted sort once e =
      ap (λ b. if b then Err kind.BadField else (sort_of fields >>= (λ o. step_by_sort s fields o))) once
      ∙ ap (λ o. o >>= (λ p. step_by_sort s fields p)) e

-- ---- a line

pub list_made : (s : streams.Stream) (line : List ℕ) (fields : List Field) → fields_of line ≡ Some fields → step_by_list s line ≡ step_by_fields s fields
list_made s line fields e = ap (λ o. or_fault kind.BadField o >>= (λ f. step_by_fields s f)) e

pub line_text : (s : streams.Stream) (line : List ℕ) → IsUtf8 line → line_step s line ≡ step_by_text s line
line_text s line is = ap (λ b. if not b then Err kind.NotText else step_by_text s line) (is_utf8-from_IsUtf8 line is)

pub line_no_text : (s : streams.Stream) (line : List ℕ) → (IsUtf8 line → ⊥) → line_step s line ≡ Err kind.NotText
line_no_text s line isnt =
    ap (λ b. if not b then Err kind.NotText else step_by_text s line) (false_from_ne_true (is_utf8 line) (λ is. isnt (IsUtf8-from_is_utf8 line is)))

pub text_blank : (s : streams.Stream) (line : List ℕ) → length line ≡ 0 → step_by_text s line ≡ Ok s
text_blank s [] none = refl
text_blank s (byte ∷ line) none = absurd cc

pub text_list : (s : streams.Stream) (line : List ℕ) → (length line ≡ 0 → ⊥) → step_by_text s line ≡ step_by_list s line
text_list s [] some = absurd (some refl)
text_list s (byte ∷ line) some = refl

no_bytes : (line : List ℕ) → length line ≡ 0 → line ≡ []
no_bytes [] none = refl
no_bytes (byte ∷ line) none = absurd (omega (arith, none))

-- a text whose fields are known
pub fields_step : (s : streams.Stream) (line : List ℕ) (fields : List Field) → IsUtf8 line → line ≢ [] → fields_of line ≡ Some fields → line_step s line ≡ step_by_fields s fields
fields_step s line fields is some are = line_text s line is ∙ text_list s line (λ none. some (no_bytes line none)) ∙ list_made s line fields are

-- ---- the globals

pub globals_more : (t : Tree) (held old new : Snapshot) (globals r : Rec) → IsIn t old → meaning t old ≡ globals → IsIn t held → meaning t held ≡ r
    → new.nodes.items ≡ old.nodes.items ++ held.nodes.items → new.imms.items ≡ old.imms.items ++ held.imms.items
    → IsIn t new × (meaning t new ≡ with_record globals r)
globals_more t held old new globals r in_old old_is in_held held_is nodes imms = (
  record {
    nodes = subst (All (IsBelowRoot t)) (sym nodes) (All-append (IsBelowRoot t) old.nodes.items held.nodes.items in_old.nodes in_held.nodes);
    imms = subst (All (λ i. i.attribute.0 < length t.attributes)) (sym imms) (All-append (λ i. i.attribute.0 < length t.attributes) old.imms.items held.imms.items in_old.imms in_held.imms);
  },
  (λ j. record {
    paths = (ap (map (path_at t)) nodes ∙ map-append (path_at t) old.nodes.items held.nodes.items) j;
    imms = (ap (map (entry_of t)) imms ∙ map-append (entry_of t) old.imms.items held.imms.items) j;
  })
      ∙ (λ j. with_record (old_is j) (held_is j)),
)

-- ---- what is taken with a line

pub nodes_taken : (t u : Tree) → Grows t u → (old new : Stream) (had has : List Rec → Type 0) (s : streams.Stream) (fields : List Field) → Stands t old s → new.globals ≡ old.globals
    → ((rs : List Rec) → had rs → has rs) → (r : Result (Unit {0}) ends.LineEnd) → AnswersFor (λ _. AreHeld u new.nodes) r (node_step s.nodes fields)
    → AnswersFor (λ _. TakesLine u new had has s) r (step_by_sort s fields OfNode)
nodes_taken t u grows old new had has s fields stands same keeps (Ok x) h = (
  record s { nodes = h.0 },
  nodes_made s fields h.0 h.1,
  record {
    stands = record {
      nodes = h.2;
      within = subst (IsIn u) (sym same) (IsIn-Grows grows old.globals stands.within);
      globals = ap (meaning u) same ∙ meaning-Grows grows old.globals stands.within ∙ stands.globals;
    };
    taken = TakesUpTo-none had has s.rows s.rows refl keeps;
  },
)
nodes_taken t u grows old new had has s fields stands same keeps (Err (end.Bad k)) h = nodes_faulty s fields k h
nodes_taken t u grows old new had has s fields stands same keeps (Err end.OutOfMemory) h = tt

pub node_line_taken : (t u : Tree) → Grows t u → (old new : Stream) (had has : List Rec → Type 0) (s : streams.Stream) (fields : List Field) → Stands t old s → new.globals ≡ old.globals
    → ((rs : List Rec) → had rs → has rs) → repeats_key fields ≡ false → sort_of fields ≡ Ok OfNode → (r : Result (Unit {0}) ends.LineEnd)
    → AnswersFor (λ _. AreHeld u new.nodes) r (node_step s.nodes fields) → AnswersFor (λ _. TakesLine u new had has s) r (step_by_fields s fields)
node_line_taken t u grows old new had has s fields stands same keeps once sorted r h =
    subst (λ (o : Result streams.Stream StreamKind). AnswersFor (λ _. TakesLine u new had has s) r o) (sym (fields_sorted s fields OfNode once sorted))
    (nodes_taken t u grows old new had has s fields stands same keeps r h)

pub blank_taken : (t : Tree) (held : Stream) (had : List Rec → Type 0) (s : streams.Stream) (line : List ℕ) → Stands t held s → length line ≡ 0
    → (x : streams.Stream) × (step_by_text s line ≡ Ok x) × TakesLine t held had had s x
blank_taken t held had s line stands none = (s, text_blank s line none, record { stands = stands; taken = TakesUpTo-none had had s.rows s.rows refl (λ rs h. h) })
