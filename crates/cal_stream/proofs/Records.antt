-- The lines of records are read as these records.
use Rattle.std.proofs.Common.{◌≡◌, ◌<◌, ◌≤◌, ◌^◌, ◌∙◌, ℕ, true, List, [], ◌∷◌, ◌++◌, length, map}
use Rattle.std.proofs.Common.{refl, sym, ap, subst}
use Rattle.std.specs.Prelude.{◌==◌, codes, decimal, filter, Result, Ok}
use Rattle.std.specs.List.{AllByRecursion, flat_map, zip}
use Rattle.std.specs.Str.{IsUtf8}
use Rattle.std.proofs.lemmas.Bool.Decides.{Decides-eqb}
use Rattle.std.proofs.lemmas.List.{length-map}
use Rattle.cal_line.specs.FirstFault.{◌>>=◌}
use Rattle.cal_line.specs.Escapes.{escaped}
use Rattle.cal_value.specs.Values.{value_text}
use Rattle.cal_value.specs.declared.attribute.Attribute.{Attribute}
use Rattle.cal_value.specs.declared.attribute.Entry.{Entry}
use Rattle.cal_value.specs.declared.record.Rec.{Rec}
use Rattle.cal_value.specs.declared.variant.Variant.{Variant}
use Rattle.cal_write.specs.CanonicalText.{has_entry, id_in, line_of_record, lines_of_new}
use Rattle.cal_write.specs.CanonicalText.{record_text}
use Rattle.cal_write.specs.Lines.{record_line}
use Rattle.cal_write.specs.Nodes.{Node, node_of_attribute, needed_by_attribute, needed_by_record}
use Rattle.cal_write.specs.Nodes.{needed_below, with_record}
use Rattle.cal_write.specs.Places.{HasAll}
use Rattle.cal_write.proofs.PlaceLemmas.{HasAll-fold, HasAll-left, HasAll-right}
use Rattle.cal_write.proofs.StreamLemmas.{needed-described, needed-there}
use Rattle.cal_read.specs.Fields.{each, or_fault}
use Rattle.cal_read.specs.NodeLines.{as_attribute, known}
use Rattle.cal_read.specs.Nodes as reader
use Rattle.cal_read.specs.Nodes.{Named, Step, path_of}
use Rattle.cal_read.specs.RecordLines.{entry_of, record_of, record_of_ids}
use Rattle.cal_read.specs.Stream as streams
use Rattle.cal_read.specs.Stream.{Stream, step_by_fields}
use Rattle.cal_read.specs.declared.kind.StreamKind.{StreamKind}
use Rattle.cal_read.specs.declared.kind.StreamKind.TheVariants as kind
use Rattle.cal_stream.proofs.Attributes.{attribute-known, path-known}
use Rattle.cal_stream.proofs.Fields.{first_field, is_utf8_key, line_text, record_fields}
use Rattle.cal_stream.proofs.Fields.{record_fields-texts, record_line-is}
use Rattle.cal_stream.proofs.Knows.{Knows, steps_of}
use Rattle.cal_stream.proofs.Needed.{HasRoom}
use Rattle.cal_stream.proofs.NeededLists.{needed-record, readable-value}
use Rattle.cal_stream.proofs.NewNodes.{small_id}
use Rattle.cal_stream.proofs.Premises.{IsGoodEntry, IsGoodPath, IsGoodRecord}
use Rattle.cal_stream.proofs.Steps.{Reads, reads-line, reads-more, record-read, step-globals}
use Rattle.cal_stream.proofs.Steps.{step-row}
use Rattle.cal_stream.proofs.Values.{utf8-value}

-- ---- the paths of a record

entries-of : (ns : List Node) (path : Node) → map (λ (s : Step). s.entry) (steps_of ns path) ≡ path
entries-of ns [] = refl
entries-of ns (e ∷ path) = ap (λ (l : Node). e ∷ l) (entries-of ns path)

record ArePathsRead (ns : List Node) (named : List Named) (paths : List Node) : Type 0 where
  nodes : List reader.Node
  known_by : each (known named) (map (id_in ns) paths) ≡ Ok nodes
  are : map path_of nodes ≡ paths
  small : AllByRecursion (λ id. id < 2 ^ 64) (map (id_in ns) paths)

paths-read : (ns : List Node) (named : List Named) → Knows ns named → length ns ≤ 2 ^ 64
    → (paths : List Node) → AllByRecursion IsGoodPath paths
    → HasAll ns (flat_map (needed_below []) paths) → ArePathsRead ns named paths
paths-read ns named k room [] are there = record {
  nodes = [];
  known_by = refl;
  are = refl;
  small = tt;
}
paths-read ns named k room ([] ∷ paths) are there = absurd (are.0.some refl)
paths-read ns named k room ((d ∷ up) ∷ paths) are there =
    let here = needed-there ns (d ∷ up)
    (HasAll-left ns (needed_below [] (d ∷ up)) (flat_map (needed_below []) paths) there) in
    let is = path-known ns named k d up here in
    let rest = paths-read ns named k room paths are.1
    (HasAll-right ns (needed_below [] (d ∷ up)) (flat_map (needed_below []) paths) there) in
    let path : path_of is.node ≡ d ∷ up = ap (map (λ (s : Step). s.entry)) is.steps
    ∙ entries-of ns (d ∷ up) in
    record {
      nodes = is.node ∷ rest.nodes;
      known_by = (λ i. is.known_by i
          >>= (λ (first : reader.Node). each (known named) (map (id_in ns) paths)
          >>= (λ (more : List reader.Node). Ok (first ∷ more))))
          ∙ (λ i. rest.known_by i >>= (λ (more : List reader.Node). Ok (is.node ∷ more)));
      are = λ i. path i ∷ rest.are i;
      small = (small_id ns (d ∷ up) here room, rest.small);
    }

pub ends-all : (paths : List Node) → AllByRecursion IsGoodPath paths
    → filter has_entry paths ≡ paths
ends-all [] are = refl
ends-all ([] ∷ paths) are = absurd (are.0.some refl)
ends-all ((d ∷ up) ∷ paths) are = ap (λ (l : List Node). (d ∷ up) ∷ l) (ends-all paths are.1)

-- ---- its immediates

abbrev columns_of : List Node → List Entry → List ℕ
columns_of ns imms = map (λ (e : Entry). id_in ns (node_of_attribute e.attr)) imms

abbrev texts_of : List Entry → List (List ℕ)
texts_of imms = map value_text (map (λ (e : Entry). e.value) imms)

record AreImmsRead (ns : List Node) (named : List Named) (imms : List Entry) : Type 0 where
  nodes : List reader.Node
  known_by : each (known named) (columns_of ns imms) ≡ Ok nodes
  attributes : each as_attribute nodes ≡ Ok (map (λ (e : Entry). e.attr) imms)
  entries : each entry_of (zip (map (λ (e : Entry). e.attr) imms) (texts_of imms)) ≡ Ok imms
  small : AllByRecursion (λ id. id < 2 ^ 64) (columns_of ns imms)
  texts : AllByRecursion IsUtf8 (texts_of imms)

imms-read : (ns : List Node) (named : List Named) → Knows ns named → length ns ≤ 2 ^ 64
    → (imms : List Entry) → AllByRecursion IsGoodEntry imms
    → HasAll ns (flat_map (λ (e : Entry). needed_by_attribute e.attr) imms)
    → AreImmsRead ns named imms
imms-read ns named k room [] are there =
    record {
      nodes = [];
      known_by = refl;
      attributes = refl;
      entries = refl;
      small = tt;
      texts = tt;
    }
imms-read ns named k room (e ∷ imms) are there =
    let of_rest = flat_map (λ (d : Entry). needed_by_attribute d.attr) imms in
    let here = needed-described ns e (HasAll-left ns (needed_by_attribute e.attr) of_rest there) in
    let is = attribute-known ns named k e.attr are.0.held.props here in
    let rest = imms-read ns named k room imms are.1
    (HasAll-right ns (needed_by_attribute e.attr) of_rest there) in
    record {
      nodes = is.node ∷ rest.nodes;
      known_by = (λ i. or_fault kind.UnknownNode (is.at i)
          >>= (λ (first : reader.Node). each (known named) (columns_of ns imms)
          >>= (λ (more : List reader.Node). Ok (first ∷ more))))
          ∙ (λ i. rest.known_by i >>= (λ (more : List reader.Node). Ok (is.node ∷ more)));
      attributes = (λ i. or_fault kind.NotAttribute (is.is i)
          >>= (λ (first : Attribute). each as_attribute rest.nodes
          >>= (λ (more : List Attribute). Ok (first ∷ more))))
          ∙ (λ i. rest.attributes i >>= (λ (more : List Attribute). Ok (e.attr ∷ more)));
      entries = (λ i. (or_fault kind.BadValue (readable-value e are.0 i)
          >>= (λ (v : Variant). as_entry e.attr v))
          >>= (λ (first : Entry). each entry_of
          (zip (map (λ (d : Entry). d.attr) imms) (texts_of imms))
          >>= (λ (more : List Entry). Ok (first ∷ more))))
          ∙ (λ i. rest.entries i >>= (λ (more : List Entry). Ok (e ∷ more)));
      small = (small_id ns (node_of_attribute e.attr) here room, rest.small);
      texts = (
        utf8-value e.value are.0.held.range are.0.readable.small are.0.held.text,
        rest.texts,
      );
    }
  where
    as_entry : Attribute → Variant → Result Entry StreamKind
    as_entry a v = Ok (record { attr = a; value = v })

-- ---- the line of a record

-- as many ids of attributes as texts
even : (ns : List Node) (imms : List Entry)
    → (length (map decimal (columns_of ns imms)) == length (texts_of imms)) ≡ true
even ns imms =
    (Decides-eqb (length (map decimal (columns_of ns imms))) (length (texts_of imms))).1
    (length-map (columns_of ns imms) decimal
    ∙ length-map imms (λ (e : Entry). id_in ns (node_of_attribute e.attr))
    ∙ sym (length-map (map (λ (e : Entry). e.value) imms) value_text
    ∙ length-map imms (λ (e : Entry). e.value)))

reads-record_line : (ns : List Node) (s t : Stream) (sort : List ℕ) (r : Rec) → Knows ns s.nodes
    → length ns ≤ 2 ^ 64 → IsGoodRecord r → HasAll ns (needed_by_record r)
    → escaped sort ≡ sort → IsUtf8 sort
    → ((refs columns texts : List (List ℕ))
    → record_of s.nodes (first_field sort ∷ record_fields refs columns texts) ≡ Ok r
    → step_by_fields s (first_field sort ∷ record_fields refs columns texts) ≡ Ok t)
    → Reads s (line_of_record sort ns r) t
reads-record_line ns s t sort r k room is there plain text step =
    let of_paths = flat_map (needed_below []) r.paths in
    let of_imms = flat_map (λ (e : Entry). needed_by_attribute e.attr) r.imms in
    let paths = paths-read ns s.nodes k room r.paths is.paths
    (HasAll-left ns of_paths of_imms there) in
    let imms = imms-read ns s.nodes k room r.imms is.imms
    (HasAll-right ns of_paths of_imms there) in
    let refs = map (id_in ns) r.paths in
    let columns = columns_of ns r.imms in
    let texts = texts_of r.imms in
    let means : record_of_ids s.nodes refs columns texts ≡ Ok r =
    (λ i. paths.known_by i
    >>= (λ (found : List reader.Node). each (known s.nodes) columns
    >>= (λ (named : List reader.Node). each as_attribute named
    >>= (λ (attributes : List Attribute). each entry_of (zip attributes texts)
    >>= (λ (entries : List Entry). as_record found entries)))))
    ∙ (λ i. imms.known_by i
    >>= (λ (named : List reader.Node). each as_attribute named
    >>= (λ (attributes : List Attribute). each entry_of (zip attributes texts)
    >>= (λ (entries : List Entry). as_record paths.nodes entries))))
    ∙ (λ i. imms.attributes i
    >>= (λ (attributes : List Attribute). each entry_of (zip attributes texts)
    >>= (λ (entries : List Entry). as_record paths.nodes entries)))
    ∙ (λ i. imms.entries i >>= (λ (entries : List Entry). as_record paths.nodes entries))
    ∙ (λ i. Ok (record { paths = paths.are i; imms = r.imms }))
    in
    let line : line_of_record sort ns r
    ≡ line_text sort (record_fields (map decimal refs) (map decimal columns) texts)
    ++ 10 ∷ [] =
    (λ i. record_line sort (map (id_in ns) (ends-all r.paths is.paths i)) columns
    (map (λ (e : Entry). e.value) r.imms))
    ∙ record_line-is sort refs columns (map (λ (e : Entry). e.value) r.imms) plain
    in
    subst (λ (l : List ℕ). Reads s l t) (sym line)
    (reads-line s t sort (record_fields (map decimal refs) (map decimal columns) texts)
    (record_fields-texts refs columns texts paths.small imms.small imms.texts) text
    (step (map decimal refs) (map decimal columns) texts
    (record-read s.nodes sort refs columns texts r paths.small imms.small
    (even ns r.imms) means)))
  where
    as_record : List reader.Node → List Entry → Result Rec StreamKind
    as_record found entries = Ok (record { paths = map path_of found; imms = entries })

-- ---- a record with what it needs

pub record IsRecordRead (ns : List Node) (s : Stream) (sort : List ℕ) (r : Rec)
    (t : List Named → Stream) : Type 0 where
  pub nodes : List Named
  pub reads : Reads s (record_text sort ns r) (t nodes)
  pub knows : Knows (with_record ns r) nodes

reads-record : (ns : List Node) (s : Stream) (sort : List ℕ) (r : Rec) (t : List Named → Stream)
    → Knows ns s.nodes → IsGoodRecord r → HasRoom ns (needed_by_record r)
    → escaped sort ≡ sort → IsUtf8 sort
    → ((nodes : List Named) (refs columns texts : List (List ℕ))
    → record_of nodes (first_field sort ∷ record_fields refs columns texts) ≡ Ok r
    → step_by_fields (record s { nodes = nodes })
    (first_field sort ∷ record_fields refs columns texts) ≡ Ok (t nodes))
    → IsRecordRead ns s sort r t
reads-record ns s sort r t k is room plain text step =
    let first = needed-record ns s r k is room in
    let now = with_record ns r in
    record {
      nodes = first.nodes;
      reads = reads-more s (record s { nodes = first.nodes }) (t first.nodes)
          (lines_of_new ns (needed_by_record r)) (line_of_record sort now r) first.reads
          (reads-record_line now (record s { nodes = first.nodes })
          (t first.nodes) sort r first.knows room is
          (HasAll-fold ns (needed_by_record r)) plain text (step first.nodes));
      knows = first.knows;
    }

abbrev pub with_row : Stream → Rec → List Named → Stream
with_row s r nodes = record s { nodes = nodes; rows = s.rows ++ r ∷ [] }

pub reads-row : (ns : List Node) (s : Stream) (r : Rec) → Knows ns s.nodes → IsGoodRecord r
    → HasRoom ns (needed_by_record r) → IsRecordRead ns s (codes "ctx") r (with_row s r)
reads-row ns s r k is room =
    reads-record ns s (codes "ctx") r (with_row s r) k is room refl (is_utf8_key (codes "ctx") refl)
    (λ nodes refs columns texts means. step-row
    (record s { nodes = nodes }) refs columns texts r means)

abbrev pub with_globals : Stream → Rec → List Named → Stream
with_globals s r nodes = record s { nodes = nodes; globals = streams.with_record s.globals r }

pub reads-globals : (ns : List Node) (s : Stream) (r : Rec) → Knows ns s.nodes → IsGoodRecord r
    → HasRoom ns (needed_by_record r) → IsRecordRead ns s (codes "globals") r (with_globals s r)
reads-globals ns s r k is room =
    reads-record ns s (codes "globals") r (with_globals s r) k is room refl
    (is_utf8_key (codes "globals") refl)
    (λ nodes refs columns texts means. step-globals
    (record s { nodes = nodes }) refs columns texts r means)
