-- What each line of an input of declarations makes of what stands before it, or what kind of fault
-- it has there. The tests of a line stand in their order, as for the `attribute` lines of a script.
use Rattle.std.specs.Prelude.{◌≡◌, ℕ, List, [], ◌∷◌, ◌++◌, Option, Some, None, Result, Ok, Err}
use Rattle.std.specs.Prelude.{codes, is_some, not, if◌then◌else◌, unwrap_or, option_to_list}
use Rattle.std.specs.Option.{ok_or}
use Rattle.std.specs.Str.{bytes_eq, is_utf8}
use Rattle.cal_line.specs.FirstFault.{◌>>=◌, IsFirstFault, after_lines}
use Rattle.cal_script.specs.Lines.{is_skipped, lines_of, no_word, three_words, words_of}
use Rattle.cal_script.specs.Parts.{attribute_of}
use Rattle.cal_script.specs.declared.kind.ScriptKind.{ScriptKind}
use Rattle.cal_script.specs.declared.kind.ScriptKind.TheVariants.{NotText, UnknownWord}
use Rattle.cal_script.specs.declared.kind.ScriptKind.TheVariants.{Misplaced, WrongArity, TooMany}
use Rattle.cal_value.specs.declared.attribute.Attribute.{Attribute}
use Rattle.cal_declarations.specs.Layout.{fits}
use Rattle.cal_declarations.specs.declared.end.DeclarationsEnd as ends
use Rattle.cal_declarations.specs.declared.end.DeclarationsEnd.TheVariants as end

-- What stands between two lines: the threads before the last, and the last, whose lines go on.
pub record State : Type 0 where
  pub earlier : List (List Attribute)
  pub thread : Option (List Attribute)

-- before the first line
abbrev pub no_lines : State
no_lines = record { earlier = []; thread = None }

-- the declarations of each thread so far
abbrev pub threads_of : State → List (List Attribute)
threads_of state = state.earlier ++ option_to_list state.thread

-- `thread`
abbrev pub thread_after : State → List (List ℕ) → Result State ScriptKind
thread_after state words =
    if no_word words then Ok (record { earlier = threads_of state; thread = Some [] })
    else Err WrongArity

-- the last thread with one declaration more
abbrev pub with_declaration : State → Attribute → State
with_declaration state declared =
    record state { thread = Some (unwrap_or state.thread [] ++ declared ∷ []) }

-- `declare NAME KIND PROPS`, behind a `thread` line: any name that a script may declare for an
-- attribute, also one that was declared before
abbrev pub declare_after : State → List (List ℕ) → Result State ScriptKind
declare_after state words = if is_some state.thread then (do
  three ← ok_or (three_words words) WrongArity
  declared ← attribute_of [] three
  Ok (with_declaration state declared))
    else Err Misplaced

-- a line goes by its first word
abbrev pub words_after : State → List (List ℕ) → Result State ScriptKind
words_after state [] = Err UnknownWord
words_after state (word ∷ words) =
    if bytes_eq word (codes "thread") then thread_after state words
    else (if bytes_eq word (codes "declare") then declare_after state words else Err UnknownWord)

-- A line that passes a limit has no other fault.
abbrev pub limited : State → Result State ScriptKind
limited next = if fits (threads_of next) then Ok next else Err TooMany

-- a line that says something
abbrev pub text_after : State → List ℕ → Result State ScriptKind
text_after state line = do
  next ← words_after state (words_of line)
  limited next

-- A line is UTF-8. One that says nothing leaves what stands.
unfoldable pub line_after : State → List ℕ → Result State ScriptKind
line_after state line =
    if not (is_utf8 line) then Err NotText
    else (if is_skipped line then Ok state else text_after state line)

-- The bytes mean these declarations of threads.
abbrev pub Means : List ℕ → List (List Attribute) → Type 0
Means bytes threads = (state : State)
    × (after_lines line_after no_lines (lines_of bytes) ≡ Ok state) × (threads ≡ threads_of state)

-- the first fault of bytes: its line, counted from 1, and its kind
abbrev pub HasFault : List ℕ → ℕ → ScriptKind → Type 0
HasFault bytes line kind = IsFirstFault line_after no_lines (lines_of bytes) line kind

-- What a refusal says of the bytes: their first fault. Running out of memory says nothing.
abbrev pub IsRefusalOf : List ℕ → ends.DeclarationsEnd → Type 0
IsRefusalOf bytes (end.BadLine line kind) = HasFault bytes line kind
IsRefusalOf bytes end.OutOfMemory = Unit {0}
