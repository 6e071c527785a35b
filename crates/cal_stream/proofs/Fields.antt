-- The lines that the writer writes, as lists of fields.
use Rattle.std.proofs.Common.{◌≡◌, ◌≢◌, ◌<◌, ◌^◌, ◌∙◌, ℕ, Bool, true, ◌&&◌, List, [], ◌∷◌, ◌++◌}
use Rattle.std.proofs.Common.{map, refl, sym, ap, subst, lit<}
use Rattle.std.specs.Prelude.{codes, decimal, Option, option_to_list, nat_lt}
use Rattle.std.specs.List.{AllByRecursion, flat_map}
use Rattle.std.specs.Str.{IsUtf8, IsAscii}
use borrow.Author.Tests.{ltb-true}
use Rattle.std.proofs.lemmas.Bool.{and_parts, eqb-false}
use Rattle.std.proofs.lemmas.List.{append_assoc, append-nil}
use Rattle.std.proofs.lemmas.List.Elements.{All-nil, All-cons, All-append}
use Rattle.std.proofs.lemmas.Simd.{map-map}
use Rattle.std.proofs.lemmas.Str.{IsUtf8-append, IsUtf8-nil, IsUtf8-from_ascii}
use Rattle.std.proofs.lemmas.Str.Ascii.{IsAscii-nil, IsAscii-cons}
use Rattle.cal_line.specs.Escapes.{escaped}
use Rattle.cal_line.specs.Fields.{IsFields}
use Rattle.cal_line.specs.Lines.{HasNoNewline}
use Rattle.cal_line.specs.WrittenFields.{IsWritable, written_pieces, written_fields}
use Rattle.cal_line.specs.declared.field.Field.{Field}
use Rattle.cal_line.proofs.Written.{IsFields-written}
use Rattle.cal_value.specs.Values.{value_text}
use Rattle.cal_value.specs.declared.variant.Variant.{Variant}
use Rattle.cal_write.specs.Lines.{field, node_line, record_line, written_value}
use Rattle.cal_stream.proofs.Texts.{no_newline-escaped, utf8-escaped, utf8-decimal, plain-decimal}

-- the first field of a line, which names its sort
abbrev pub first_field : List ℕ → Field
first_field sort = record { key = codes "__rec"; values = sort ∷ [] }

-- a field, where it has values
abbrev pub fields_if : List ℕ → List (List ℕ) → List Field
fields_if key [] = []
fields_if key (v ∷ vs) = record { key = key; values = v ∷ vs } ∷ []

-- fields as they are written behind others
abbrev pub further_text : List Field → List ℕ
further_text [] = []
further_text (f ∷ fields) = 44 ∷ written_pieces f.key f.values ++ further_text fields

-- the line of these fields behind its first
abbrev pub line_text : List ℕ → List Field → List ℕ
line_text sort fields = written_pieces (codes "__rec") (sort ∷ []) ++ further_text fields

-- a field of texts that can be written
pub record IsTextField (f : Field) : Type 0 where
  pub writable : IsWritable f
  pub key : IsUtf8 f.key
  pub values : AllByRecursion IsUtf8 f.values

-- ---- the line has these fields

written-further : (f : Field) (fields : List Field)
    → written_fields f fields ≡ written_pieces f.key f.values ++ further_text fields
written-further f [] = sym (append-nil (written_pieces f.key f.values))
written-further f (g ∷ fields) = ap (λ (l : List ℕ). written_pieces f.key f.values ++ 44 ∷ l)
    (written-further g fields)

all-writable : (fields : List Field) → AllByRecursion IsTextField fields
    → AllByRecursion IsWritable fields
all-writable [] are = tt
all-writable (f ∷ fields) are = (are.0.writable, all-writable fields are.1)

pub line-IsFields : (sort : List ℕ) (fields : List Field) → AllByRecursion IsTextField fields
    → IsFields (line_text sort fields) (first_field sort ∷ fields)
line-IsFields sort fields are =
    let first : IsWritable (first_field sort) = record { key = λ e. cc; values = λ e. cc } in
    subst (λ (l : List ℕ). IsFields l (first_field sort ∷ fields))
    (written-further (first_field sort) fields)
    (IsFields-written (first_field sort) fields (first, all-writable fields are))

-- a key of ASCII is text
abbrev pub is_ascii : List ℕ → Bool
is_ascii [] = true
is_ascii (b ∷ bytes) = nat_lt b 128 && is_ascii bytes

pub is_utf8_key : (key : List ℕ) → is_ascii key ≡ true → IsUtf8 key
is_utf8_key key is = IsUtf8-from_ascii key (ascii key is)
  where
    ascii : (bytes : List ℕ) → is_ascii bytes ≡ true → IsAscii bytes
    ascii [] h = IsAscii-nil
    ascii (b ∷ bytes) h =
        let parts = and_parts (nat_lt b 128) (is_ascii bytes) h in
        IsAscii-cons b bytes (ltb-true b 128 parts.0) (ascii bytes parts.1)

-- ---- and no newline in it, and is text

no_newline-pieces : (piece : List ℕ) (pieces : List (List ℕ))
    → HasNoNewline (written_pieces piece pieces)
no_newline-pieces piece [] = no_newline-escaped piece
no_newline-pieces piece (next ∷ pieces) =
    All-append (λ b. b ≢ 10) (escaped piece) (61 ∷ written_pieces next pieces)
    (no_newline-escaped piece)
    (All-cons (λ b. b ≢ 10) 61 (written_pieces next pieces) (eqb-false 61 10 refl)
    (no_newline-pieces next pieces))

no_newline-further : (fields : List Field) → HasNoNewline (further_text fields)
no_newline-further [] = All-nil (λ b. b ≢ 10)
no_newline-further (f ∷ fields) =
    All-cons (λ b. b ≢ 10) 44 (written_pieces f.key f.values ++ further_text fields)
    (eqb-false 44 10 refl)
    (All-append (λ b. b ≢ 10) (written_pieces f.key f.values) (further_text fields)
    (no_newline-pieces f.key f.values) (no_newline-further fields))

pub no_newline-line : (sort : List ℕ) (fields : List Field) → HasNoNewline (line_text sort fields)
no_newline-line sort fields =
    All-append (λ b. b ≢ 10) (written_pieces (codes "__rec") (sort ∷ [])) (further_text fields)
    (no_newline-pieces (codes "__rec") (sort ∷ [])) (no_newline-further fields)

utf8-mark : (b : ℕ) → b < 128 → (text : List ℕ) → IsUtf8 text → IsUtf8 (b ∷ text)
utf8-mark b low text is = IsUtf8-append (b ∷ []) text
    (IsUtf8-from_ascii (b ∷ []) (IsAscii-cons b [] low IsAscii-nil)) is

utf8-pieces : (piece : List ℕ) (pieces : List (List ℕ)) → IsUtf8 piece
    → AllByRecursion IsUtf8 pieces → IsUtf8 (written_pieces piece pieces)
utf8-pieces piece [] is are = utf8-escaped piece is
utf8-pieces piece (next ∷ pieces) is are =
    IsUtf8-append (escaped piece) (61 ∷ written_pieces next pieces) (utf8-escaped piece is)
    (utf8-mark 61 (lit< tt) (written_pieces next pieces) (utf8-pieces next pieces are.0 are.1))

utf8-further : (fields : List Field) → AllByRecursion IsTextField fields
    → IsUtf8 (further_text fields)
utf8-further [] are = IsUtf8-nil
utf8-further (f ∷ fields) are =
    utf8-mark 44 (lit< tt) (written_pieces f.key f.values ++ further_text fields)
    (IsUtf8-append (written_pieces f.key f.values) (further_text fields)
    (utf8-pieces f.key f.values are.0.key are.0.values) (utf8-further fields are.1))

pub utf8-line : (sort : List ℕ) (fields : List Field) → IsUtf8 sort
    → AllByRecursion IsTextField fields → IsUtf8 (line_text sort fields)
utf8-line sort fields is are =
    IsUtf8-append (written_pieces (codes "__rec") (sort ∷ [])) (further_text fields)
    (utf8-pieces (codes "__rec") (sort ∷ []) (is_utf8_key (codes "__rec") refl) (is, tt))
    (utf8-further fields are)

-- ---- fields as the writer writes them

joined-pieces : (key : List ℕ) (values : List (List ℕ))
    → written_pieces key values ≡ escaped key
    ++ flat_map (λ w. codes "=" ++ w) (map escaped values)
joined-pieces key [] = sym (append-nil (escaped key))
joined-pieces key (v ∷ vs) = ap (λ (l : List ℕ). escaped key ++ 61 ∷ l) (joined-pieces v vs)

field-written : (key : List ℕ) (values : List (List ℕ)) → escaped key ≡ key
    → field key (map escaped values) ≡ further_text (fields_if key values)
field-written key [] plain = refl
field-written key (v ∷ vs) plain =
    sym (ap (λ (l : List ℕ). 44 ∷ l)
    (append-nil (written_pieces key (v ∷ vs)) ∙ joined-pieces key (v ∷ vs)
    ∙ ap (λ (k : List ℕ). k ++ flat_map (λ w. codes "=" ++ w) (map escaped (v ∷ vs))) plain))

plain-decimals : (ids : List ℕ) → map escaped (map decimal ids) ≡ map decimal ids
plain-decimals [] = refl
plain-decimals (id ∷ ids) = λ j. plain-decimal id j ∷ plain-decimals ids j

decimals-written : (key : List ℕ) (ids : List ℕ) → escaped key ≡ key
    → field key (map decimal ids) ≡ further_text (fields_if key (map decimal ids))
decimals-written key ids plain = ap (field key) (sym (plain-decimals ids))
    ∙ field-written key (map decimal ids) plain

values-written : (key : List ℕ) (values : List Variant) → escaped key ≡ key
    → field key (map written_value values) ≡ further_text (fields_if key (map value_text values))
values-written key values plain = ap (field key) (sym (map-map escaped value_text values))
    ∙ field-written key (map value_text values) plain

further-append : (fs gs : List Field) → further_text (fs ++ gs) ≡ further_text fs ++ further_text gs
further-append [] gs = refl
further-append (f ∷ fs) gs =
    ap (λ (l : List ℕ). 44 ∷ written_pieces f.key f.values ++ l) (further-append fs gs)
    ∙ ap (λ (l : List ℕ). 44 ∷ l)
    (sym (append_assoc (written_pieces f.key f.values) (further_text fs) (further_text gs)))

-- ---- the line of a node

abbrev pub node_fields : ℕ → ℕ → List ℕ → Option ℕ → List Field
node_fields id attribute text parent =
    fields_if (codes "id") (decimal id ∷ []) ++ fields_if (codes "attr") (decimal attribute ∷ [])
    ++ fields_if (codes "data") (text ∷ [])
    ++ fields_if (codes "parent") (map decimal (option_to_list parent))

regroup4 : (h i a d p : List ℕ) → h ++ i ++ a ++ d ++ p ≡ h ++ (i ++ a ++ d ++ p)
regroup4 h i a d p = simp append_assoc

pub node_line-is : (id attribute : ℕ) (v : Variant) (parent : Option ℕ)
    → node_line id attribute v parent
    ≡ line_text (codes "node") (node_fields id attribute (value_text v) parent) ++ 10 ∷ []
node_line-is id attribute v parent =
    (λ j. codes "__rec=node" ++ decimals-written (codes "id") (id ∷ []) refl j
    ++ decimals-written (codes "attr") (attribute ∷ []) refl j
    ++ values-written (codes "data") (v ∷ []) refl j
    ++ decimals-written (codes "parent") (option_to_list parent) refl j ++ codes "\n")
    ∙ ap (λ (l : List ℕ). l ++ codes "\n")
    (regroup4 (codes "__rec=node") (further_text of_id) (further_text of_attribute)
    (further_text of_value) (further_text of_parent)
    ∙ ap (λ (l : List ℕ). codes "__rec=node" ++ l) (sym joined))
  where
    of_id : List Field
    of_id = fields_if (codes "id") (decimal id ∷ [])

    of_attribute : List Field
    of_attribute = fields_if (codes "attr") (decimal attribute ∷ [])

    of_value : List Field
    of_value = fields_if (codes "data") (value_text v ∷ [])

    of_parent : List Field
    of_parent = fields_if (codes "parent") (map decimal (option_to_list parent))

    joined : further_text (of_id ++ of_attribute ++ of_value ++ of_parent) ≡ further_text of_id
        ++ further_text of_attribute ++ further_text of_value ++ further_text of_parent
    joined =
        further-append (of_id ++ of_attribute ++ of_value) of_parent
        ∙ ap (λ (l : List ℕ). l ++ further_text of_parent)
        (further-append (of_id ++ of_attribute) of_value
        ∙ ap (λ (l : List ℕ). l ++ further_text of_value) (further-append of_id of_attribute))

-- ---- the line of a record

abbrev pub record_fields : List (List ℕ) → List (List ℕ) → List (List ℕ) → List Field
record_fields refs columns texts =
    fields_if (codes "ref") refs ++ fields_if (codes "attr") columns
    ++ fields_if (codes "data") texts

regroup3 : (h r a d : List ℕ) → h ++ r ++ a ++ d ≡ h ++ (r ++ a ++ d)
regroup3 h r a d = simp append_assoc

pub record_line-is : (sort : List ℕ) (refs columns : List ℕ) (values : List Variant)
    → escaped sort ≡ sort
    → record_line sort refs columns values
    ≡ line_text sort (record_fields (map decimal refs) (map decimal columns)
    (map value_text values)) ++ 10 ∷ []
record_line-is sort refs columns values plain =
    (λ j. codes "__rec=" ++ sym plain j ++ decimals-written (codes "ref") refs refl j
    ++ decimals-written (codes "attr") columns refl j
    ++ values-written (codes "data") values refl j ++ codes "\n")
    ∙ ap (λ (l : List ℕ). l ++ codes "\n")
    (regroup3 (codes "__rec=" ++ escaped sort) (further_text of_refs) (further_text of_columns)
    (further_text of_values)
    ∙ ap (λ (l : List ℕ). (codes "__rec=" ++ escaped sort) ++ l) (sym joined))
  where
    of_refs : List Field
    of_refs = fields_if (codes "ref") (map decimal refs)

    of_columns : List Field
    of_columns = fields_if (codes "attr") (map decimal columns)

    of_values : List Field
    of_values = fields_if (codes "data") (map value_text values)

    joined : further_text (of_refs ++ of_columns ++ of_values) ≡ further_text of_refs
        ++ further_text of_columns ++ further_text of_values
    joined =
        further-append (of_refs ++ of_columns) of_values
        ∙ ap (λ (l : List ℕ). l ++ further_text of_values) (further-append of_refs of_columns)

-- ---- their fields are texts

texts-append : (fs gs : List Field) → AllByRecursion IsTextField fs
    → AllByRecursion IsTextField gs → AllByRecursion IsTextField (fs ++ gs)
texts-append [] gs are more = more
texts-append (f ∷ fs) gs are more = (are.0, texts-append fs gs are.1 more)

texts-if : (key : List ℕ) (values : List (List ℕ)) → key ≢ [] → IsUtf8 key
    → AllByRecursion IsUtf8 values → AllByRecursion IsTextField (fields_if key values)
texts-if key [] some is are = tt
texts-if key (v ∷ vs) some is are =
    (record { writable = record { key = some; values = λ e. cc }; key = is; values = are }, tt)

utf8-decimals : (ids : List ℕ) → AllByRecursion (λ id. id < 2 ^ 64) ids
    → AllByRecursion IsUtf8 (map decimal ids)
utf8-decimals [] small = tt
utf8-decimals (id ∷ ids) small = (utf8-decimal id small.0, utf8-decimals ids small.1)

pub node_fields-texts : (id attribute : ℕ) (text : List ℕ) (parent : Option ℕ) → id < 2 ^ 64
    → attribute < 2 ^ 64 → IsUtf8 text
    → AllByRecursion (λ p. p < 2 ^ 64) (option_to_list parent)
    → AllByRecursion IsTextField (node_fields id attribute text parent)
node_fields-texts id attribute text parent small_id small_attribute is small_parent =
    texts-append (of_id ++ of_attribute ++ of_value) of_parent
    (texts-append (of_id ++ of_attribute) of_value
    (texts-append of_id of_attribute
    (texts-if (codes "id") (decimal id ∷ []) (λ e. cc) (is_utf8_key (codes "id") refl)
    (utf8-decimal id small_id, tt))
    (texts-if (codes "attr") (decimal attribute ∷ []) (λ e. cc) (is_utf8_key (codes "attr") refl)
    (utf8-decimal attribute small_attribute, tt)))
    (texts-if (codes "data") (text ∷ []) (λ e. cc) (is_utf8_key (codes "data") refl) (is, tt)))
    (texts-if (codes "parent") (map decimal (option_to_list parent)) (λ e. cc)
    (is_utf8_key (codes "parent") refl)
    (utf8-decimals (option_to_list parent) small_parent))
  where
    of_id : List Field
    of_id = fields_if (codes "id") (decimal id ∷ [])

    of_attribute : List Field
    of_attribute = fields_if (codes "attr") (decimal attribute ∷ [])

    of_value : List Field
    of_value = fields_if (codes "data") (text ∷ [])

    of_parent : List Field
    of_parent = fields_if (codes "parent") (map decimal (option_to_list parent))

pub record_fields-texts : (refs columns : List ℕ) (texts : List (List ℕ))
    → AllByRecursion (λ id. id < 2 ^ 64) refs → AllByRecursion (λ id. id < 2 ^ 64) columns
    → AllByRecursion IsUtf8 texts
    → AllByRecursion IsTextField
    (record_fields (map decimal refs) (map decimal columns) texts)
record_fields-texts refs columns texts small_refs small_columns are =
    texts-append (of_refs ++ of_columns) of_values
    (texts-append of_refs of_columns
    (texts-if (codes "ref") (map decimal refs) (λ e. cc) (is_utf8_key (codes "ref") refl)
    (utf8-decimals refs small_refs))
    (texts-if (codes "attr") (map decimal columns) (λ e. cc) (is_utf8_key (codes "attr") refl)
    (utf8-decimals columns small_columns)))
    (texts-if (codes "data") texts (λ e. cc) (is_utf8_key (codes "data") refl) are)
  where
    of_refs : List Field
    of_refs = fields_if (codes "ref") (map decimal refs)

    of_columns : List Field
    of_columns = fields_if (codes "attr") (map decimal columns)

    of_values : List Field
    of_values = fields_if (codes "data") texts
