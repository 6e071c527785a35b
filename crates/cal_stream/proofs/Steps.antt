-- What the reader makes of the lines that the writer writes, one after another.
use Rattle.std.proofs.Common.{◌≡◌, ◌<◌, ◌^◌, ◌∙◌, ℕ, Bool, true, false, not, List, [], ◌∷◌, ◌++◌}
use Rattle.std.proofs.Common.{length, map, refl, ap}
use Rattle.std.specs.Prelude.{◌==◌, codes, decimal, Option, Some, None, Result, Ok, Err}
use Rattle.std.specs.Prelude.{option_to_list, if◌then◌else◌}
use Rattle.std.specs.List.{AllByRecursion}
use Rattle.std.specs.Option.{option_map}
use Rattle.std.specs.Str.{IsUtf8}
use Rattle.std.proofs.lemmas.List.{append_assoc}
use Rattle.std.proofs.lemmas.Str.{is_utf8-from_IsUtf8}
use Rattle.cal_line.specs.FirstFault.{◌>>=◌, after_lines}
use Rattle.cal_line.specs.Lines.{lines_of}
use Rattle.cal_line.specs.declared.field.Field.{Field}
use Rattle.cal_line.proofs.FieldSteps.{fields_of-IsFields}
use Rattle.cal_line.proofs.Inputs.{lines_of-newline}
use Rattle.cal_value.specs.declared.record.Rec.{Rec}
use Rattle.cal_read.specs.Fields.{or_fault, each, id_of, if_there, repeats_key, sort_of}
use Rattle.cal_read.specs.NodeLines.{ids_of, texts_of, with_ids}
use Rattle.cal_read.specs.Nodes.{Named}
use Rattle.cal_read.specs.RecordLines.{record_of, record_of_ids}
use Rattle.cal_read.specs.Stream.{Stream, line_step, step_by_fields, step_by_sort, step_by_text}
use Rattle.cal_read.specs.Stream.{with_record}
use Rattle.cal_read.specs.declared.kind.StreamKind.{StreamKind}
use Rattle.cal_read.specs.declared.kind.StreamKind.TheVariants as kind
use Rattle.cal_stream.proofs.Texts.{uint_of-decimal}
use Rattle.cal_stream.proofs.Fields.{IsTextField, first_field, line_text, node_fields}
use Rattle.cal_stream.proofs.Fields.{record_fields, line-IsFields, no_newline-line, utf8-line}

-- a text takes the reader from one state to another, whatever follows it
abbrev pub Reads : Stream → List ℕ → Stream → Type 0
Reads before text after =
    (rest : List ℕ) → after_lines line_step before (lines_of (text ++ rest))
    ≡ after_lines line_step after (lines_of rest)

pub reads-nothing : (s : Stream) → Reads s [] s
reads-nothing s = λ rest. refl

pub reads-more : (a b c : Stream) (text more : List ℕ) → Reads a text b → Reads b more c
    → Reads a (text ++ more) c
reads-more a b c text more first next = λ rest.
    ap (λ (l : List ℕ). after_lines line_step a (lines_of l)) (append_assoc text more rest)
    ∙ first (more ++ rest) ∙ next rest

-- ---- one line

step-line : (s t : Stream) (sort : List ℕ) (fields : List Field)
    → AllByRecursion IsTextField fields → IsUtf8 sort
    → step_by_fields s (first_field sort ∷ fields) ≡ Ok t
    → line_step s (line_text sort fields) ≡ Ok t
step-line s t sort fields are is stepped =
    let text = is_utf8-from_IsUtf8 (line_text sort fields) (utf8-line sort fields is are) in
    let read = fields_of-IsFields (line_text sort fields) (first_field sort ∷ fields)
    (line-IsFields sort fields are) in
    ap (λ (b : Bool). if not b then Err kind.NotText else step_by_text s (line_text sort fields))
    text
    ∙ (λ i. or_fault kind.BadField (read i) >>= (λ found. step_by_fields s found))
    ∙ stepped

pub reads-line : (s t : Stream) (sort : List ℕ) (fields : List Field)
    → AllByRecursion IsTextField fields → IsUtf8 sort
    → step_by_fields s (first_field sort ∷ fields) ≡ Ok t
    → Reads s (line_text sort fields ++ 10 ∷ []) t
reads-line s t sort fields are is stepped = λ rest.
    let line = line_text sort fields in
    ap (λ (l : List ℕ). after_lines line_step s (lines_of l)) (append_assoc line (10 ∷ []) rest)
    ∙ ap (after_lines line_step s) (lines_of-newline line rest (no_newline-line sort fields))
    ∙ (λ i. step-line s t sort fields are is stepped i
    >>= (λ next. after_lines line_step next (lines_of rest)))

-- ---- the line of a node

id_of-decimal : (n : ℕ) → n < 2 ^ 64 → id_of (decimal n) ≡ Ok n
id_of-decimal n small = ap (or_fault kind.BadNumber) (uint_of-decimal n small)

parent-decimal : (p : Option ℕ) → AllByRecursion (λ n. n < 2 ^ 64) (option_to_list p)
    → if_there id_of (option_map decimal p) ≡ Ok p
parent-decimal None small = refl
parent-decimal (Some n) small = λ i. id_of-decimal n small.0 i >>= (λ given. Ok (Some given))

ids-read : (id a : ℕ) (text : List ℕ) (p : Option ℕ) → id < 2 ^ 64 → a < 2 ^ 64
    → AllByRecursion (λ n. n < 2 ^ 64) (option_to_list p)
    → ids_of (record {
      id = decimal id;
      attribute = decimal a;
      value = text;
      parent = option_map decimal p;
    })
    ≡ Ok (record { id = id; attribute = a; parent = p })
ids-read id a text p small_id small_a small_p =
    (λ i. id_of-decimal id small_id i
    >>= (λ (n : ℕ). id_of (decimal a)
    >>= (λ (m : ℕ). if_there id_of (option_map decimal p)
    >>= (λ (q : Option ℕ). Ok (record { id = n; attribute = m; parent = q })))))
    ∙ (λ i. id_of-decimal a small_a i
    >>= (λ (m : ℕ). if_there id_of (option_map decimal p)
    >>= (λ (q : Option ℕ). Ok (record { id = id; attribute = m; parent = q }))))
    ∙ (λ i. parent-decimal p small_p i
    >>= (λ (q : Option ℕ). Ok (record { id = id; attribute = a; parent = q })))

node_texts : (id a : ℕ) (text : List ℕ) (p : Option ℕ)
    → texts_of (first_field (codes "node") ∷ node_fields id a text p)
    ≡ Ok (record {
      id = decimal id;
      attribute = decimal a;
      value = text;
      parent = option_map decimal p;
    })
node_texts id a text None = refl
node_texts id a text (Some n) = refl

node-once : (id a : ℕ) (text : List ℕ) (p : Option ℕ)
    → repeats_key (first_field (codes "node") ∷ node_fields id a text p) ≡ false
node-once id a text None = refl
node-once id a text (Some n) = refl

pub step-node : (s : Stream) (id a : ℕ) (text : List ℕ) (p : Option ℕ) (nodes : List Named)
    → id < 2 ^ 64 → a < 2 ^ 64 → AllByRecursion (λ n. n < 2 ^ 64) (option_to_list p)
    → with_ids s.nodes (record { id = id; attribute = a; parent = p }) text ≡ Ok nodes
    → step_by_fields s (first_field (codes "node") ∷ node_fields id a text p)
    ≡ Ok (record s { nodes = nodes })
step-node s id a text p nodes small_id small_a small_p made =
    ap (λ (b : Bool). if b then Err kind.BadField else
    (sort_of fields >>= (λ sort. step_by_sort s fields sort))) (node-once id a text p)
    ∙ (λ i. (node_texts id a text p i
    >>= (λ found. ids_of found >>= (λ ids. with_ids s.nodes ids found.value))) >>= with_nodes)
    ∙ (λ i. (ids-read id a text p small_id small_a small_p i
    >>= (λ ids. with_ids s.nodes ids text)) >>= with_nodes)
    ∙ (λ i. made i >>= with_nodes)
  where
    fields : List Field
    fields = first_field (codes "node") ∷ node_fields id a text p

    with_nodes : List Named → Result Stream StreamKind
    with_nodes found = Ok (record s { nodes = found })

-- ---- the line of a record

-- the record of the values of the three fields
abbrev record_of_values : List Named → List (List ℕ) → List (List ℕ) → List (List ℕ)
    → Result Rec StreamKind
record_of_values nodes of_refs of_columns texts =
    if length of_columns == length texts then (do
      refs ← each id_of of_refs
      columns ← each id_of of_columns
      record_of_ids nodes refs columns texts)
    else Err kind.Uneven

record-once : (sort : List ℕ) (refs columns texts : List (List ℕ))
    → repeats_key (first_field sort ∷ record_fields refs columns texts) ≡ false
record-once sort [] [] [] = refl
record-once sort [] [] (t ∷ texts) = refl
record-once sort [] (c ∷ columns) [] = refl
record-once sort [] (c ∷ columns) (t ∷ texts) = refl
record-once sort (r ∷ refs) [] [] = refl
record-once sort (r ∷ refs) [] (t ∷ texts) = refl
record-once sort (r ∷ refs) (c ∷ columns) [] = refl
record-once sort (r ∷ refs) (c ∷ columns) (t ∷ texts) = refl

record-values : (nodes : List Named) (sort : List ℕ) (refs columns texts : List (List ℕ))
    → record_of nodes (first_field sort ∷ record_fields refs columns texts)
    ≡ record_of_values nodes refs columns texts
record-values nodes sort [] [] [] = refl
record-values nodes sort [] [] (t ∷ texts) = refl
record-values nodes sort [] (c ∷ columns) [] = refl
record-values nodes sort [] (c ∷ columns) (t ∷ texts) = refl
record-values nodes sort (r ∷ refs) [] [] = refl
record-values nodes sort (r ∷ refs) [] (t ∷ texts) = refl
record-values nodes sort (r ∷ refs) (c ∷ columns) [] = refl
record-values nodes sort (r ∷ refs) (c ∷ columns) (t ∷ texts) = refl

ids-each : (ids : List ℕ) → AllByRecursion (λ n. n < 2 ^ 64) ids
    → each id_of (map decimal ids) ≡ Ok ids
ids-each [] small = refl
ids-each (id ∷ ids) small =
    (λ i. id_of-decimal id small.0 i
    >>= (λ (first : ℕ). each id_of (map decimal ids)
    >>= (λ (more : List ℕ). Ok (first ∷ more))))
    ∙ (λ i. ids-each ids small.1 i >>= (λ (more : List ℕ). Ok (id ∷ more)))

-- a line whose ids mean a record says this record
pub record-read : (nodes : List Named) (sort : List ℕ) (refs columns : List ℕ)
    (texts : List (List ℕ)) (r : Rec)
    → AllByRecursion (λ n. n < 2 ^ 64) refs → AllByRecursion (λ n. n < 2 ^ 64) columns
    → (length (map decimal columns) == length texts) ≡ true
    → record_of_ids nodes refs columns texts ≡ Ok r
    → record_of nodes (first_field sort ∷ record_fields (map decimal refs)
    (map decimal columns) texts) ≡ Ok r
record-read nodes sort refs columns texts r small_refs small_columns even means =
    record-values nodes sort (map decimal refs) (map decimal columns) texts
    ∙ ap (λ (b : Bool). if b then
    (each id_of (map decimal refs)
    >>= (λ (found : List ℕ). each id_of (map decimal columns)
    >>= (λ (kept : List ℕ). record_of_ids nodes found kept texts))) else Err kind.Uneven) even
    ∙ (λ i. ids-each refs small_refs i
    >>= (λ (found : List ℕ). each id_of (map decimal columns)
    >>= (λ (kept : List ℕ). record_of_ids nodes found kept texts)))
    ∙ (λ i. ids-each columns small_columns i
    >>= (λ (kept : List ℕ). record_of_ids nodes refs kept texts))
    ∙ means

pub step-row : (s : Stream) (refs columns texts : List (List ℕ)) (r : Rec)
    → record_of s.nodes (first_field (codes "ctx") ∷ record_fields refs columns texts) ≡ Ok r
    → step_by_fields s (first_field (codes "ctx") ∷ record_fields refs columns texts)
    ≡ Ok (record s { rows = s.rows ++ r ∷ [] })
step-row s refs columns texts r means =
    ap (λ (b : Bool). if b then Err kind.BadField else
    (sort_of (first_field (codes "ctx") ∷ record_fields refs columns texts)
    >>= (λ sort. step_by_sort s
    (first_field (codes "ctx") ∷ record_fields refs columns texts) sort)))
    (record-once (codes "ctx") refs columns texts)
    ∙ (λ i. means i >>= (λ (row : Rec). Ok (record s { rows = s.rows ++ row ∷ [] })))

pub step-globals : (s : Stream) (refs columns texts : List (List ℕ)) (r : Rec)
    → record_of s.nodes (first_field (codes "globals") ∷ record_fields refs columns texts) ≡ Ok r
    → step_by_fields s (first_field (codes "globals") ∷ record_fields refs columns texts)
    ≡ Ok (record s { globals = with_record s.globals r })
step-globals s refs columns texts r means =
    ap (λ (b : Bool). if b then Err kind.BadField else
    (sort_of (first_field (codes "globals") ∷ record_fields refs columns texts)
    >>= (λ sort. step_by_sort s
    (first_field (codes "globals") ∷ record_fields refs columns texts) sort)))
    (record-once (codes "globals") refs columns texts)
    ∙ (λ i. means i >>= (λ (more : Rec). Ok (record s { globals = with_record s.globals more })))
