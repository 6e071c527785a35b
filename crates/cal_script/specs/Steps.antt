-- What the steps of the reader answer (private).
use Rattle.std.specs.Prelude.{◌≡◌, ℕ, ◌+◌, List, [], length, Option, Some, None, Result, Ok, Err}
use Rattle.std.specs.Borrow.{Bor}
use Rattle.std.specs.Option.{ok_or}
use Rattle.cal_line.specs.FirstFault.{◌>>=◌}
use Rattle.cal_value.specs.declared.attribute.Attribute.{Attribute}
use Rattle.cal_value.specs.declared.variant.Variant as variants
use Rattle.cal_value.specs.declared.variant.Variant.TheVariants as variant
use Rattle.cal_script.specs.declared.end.LineEnd as ends
use Rattle.cal_script.specs.declared.end.LineEnd.TheVariants as end
use Rattle.cal_script.specs.declared.kind.ScriptKind.{ScriptKind}
use Rattle.cal_script.specs.declared.kind.ScriptKind.TheVariants as kind
use Rattle.cal_script.specs.Lines.{one_word, pieces, word_and_rest, words_of}
use Rattle.cal_script.specs.Parts.{attribute_named}
use Rattle.cal_script.specs.declared.recent.Declared as declareds
use Rattle.cal_script.specs.declared.recent.Naming as namings

-- A step fails as a definition says, unless memory ran out.
abbrev pub Fails : {Y : Type 0} → ends.LineEnd → Result Y ScriptKind → Type 0
Fails (end.Bad kind) said = said ≡ Err kind
Fails end.OutOfMemory said = Unit {0}

-- A step answers, seen by view, what a definition gives, unless memory ran out.
abbrev pub Gives : {X Y : Type 0} → (X → Y) → Result X ends.LineEnd → Result Y ScriptKind → Type 0
Gives view (Ok x) said = said ≡ Ok (view x)
Gives view (Err e) said = Fails e said

-- the pieces behind a mark, where a text has one
abbrev pub pieces_behind : ℕ → Option (Bor (List ℕ)) → List (List ℕ)
pieces_behind mark None = []
pieces_behind mark (Some rest) = pieces mark rest.now

-- the words behind a line's first space, where it has one
abbrev pub words_behind : Option (Bor (List ℕ)) → List (List ℕ)
words_behind rest = pieces_behind 32 rest

-- what is left of a text that is cut
abbrev pub rest_length : Option (Bor (List ℕ)) → ℕ
rest_length None = 0
rest_length (Some rest) = length rest.now + 1

-- the number in a value of the kind `uint`
abbrev pub uint_inside : variants.Variant → Option ℕ
uint_inside (variant.Uint n) = Some n
uint_inside _ = None

-- a service that is unknown or named twice
abbrev pub bad_service : ends.LineEnd
bad_service = end.Bad kind.BadService

-- the words of a line's names, or what is wrong with them
abbrev pub names_seen : Result (Bor (List ℕ)) ScriptKind → Result (List (List ℕ)) ScriptKind
names_seen (Ok names) = Ok (words_of names.now)
names_seen (Err kind) = Err kind

-- The attribute that a line names before a value, with its place, and what stands behind the name.
abbrev pub naming_said :
    List Attribute → List (List ℕ) → Result ((ℕ × Attribute) × List ℕ) ScriptKind
naming_said attributes words = do
  two ← ok_or (word_and_rest words) kind.WrongArity
  named ← attribute_named attributes two.0
  Ok (named, two.1)

abbrev pub naming_seen :
    Result namings.Naming ScriptKind → Result ((ℕ × Attribute) × List ℕ) ScriptKind
naming_seen (Ok n) = Ok ((n.named.place, n.named.attribute.now), n.rest.now)
naming_seen (Err kind) = Err kind

-- the attribute that a line names and nothing behind it, with its place
abbrev pub alone_said : List Attribute → List (List ℕ) → Result (ℕ × Attribute) ScriptKind
alone_said attributes words = do
  name ← ok_or (one_word words) kind.WrongArity
  attribute_named attributes name

abbrev pub alone_seen : Result declareds.Declared ScriptKind → Result (ℕ × Attribute) ScriptKind
alone_seen (Ok named) = Ok (named.place, named.attribute.now)
alone_seen (Err kind) = Err kind
