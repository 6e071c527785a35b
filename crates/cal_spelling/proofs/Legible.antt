-- What holds of all that stands between two lines, so that it can be written and read again.
use Rattle.std.proofs.Common.{◌≡◌, ℕ, ◌+◌, ◌≤◌, Bool, true, false, ◌||◌, ◌&&◌, List, []}
use Rattle.std.proofs.Common.{◌∷◌, ◌++◌, length, All, refl, sym, ap, subst, ◌∙◌, append-nil}
use Rattle.std.specs.Prelude.{Option, Some, None, Ok, decimal, unwrap_or, slice_get}
use Rattle.std.specs.Option.{option_to_list}
use Rattle.cal_line.specs.FirstFault.{after_lines}
use Rattle.cal_value.specs.Kinds.{kind_name}
use Rattle.cal_value.specs.Props.{is_global}
use Rattle.cal_value.specs.declared.attribute.Attribute.{Attribute}
use Rattle.cal_value.specs.declared.attribute.Entry.{Entry}
use Rattle.cal_value.specs.declared.variant.Variant.{Variant}
use Rattle.cal_script.specs.declared.script.Channel.{Channel}
use Rattle.cal_script.specs.declared.script.Script.{Script}
use Rattle.cal_script.specs.declared.script.Line as lines
use Rattle.cal_script.specs.declared.script.Line.TheVariants as line
use Rattle.cal_script.specs.Names.{is_name}
use Rattle.cal_script.specs.Parts.{attribute_named, attribute_names, attribute_of, channel_named}
use Rattle.cal_script.specs.Parts.{channel_names, is_among, new_name, with_name}
use Rattle.cal_script.specs.Reading.{global_names}
use Rattle.cal_script.specs.State.{State}
use Rattle.cal_script.specs.Ticks.{AreHalves}
use Rattle.cal_valid.proofs.Counting.{slice_get-more}
use Rattle.cal_spelling.proofs.Chains.{Chain}
use Rattle.cal_spelling.proofs.Services.{are_probes}
use Rattle.cal_spelling.proofs.Values.{IsSpoken}
use Rattle.cal_spelling.proofs.Words.{IsWord}

-- ---- the header

-- an attribute that its line declares behind those before it
pub record IsNewAttribute (done : List Attribute) (attribute : Attribute) : Type 0 where
  pub said : attribute_of done (attribute.name, kind_name attribute.kind, decimal attribute.props.0)
      ≡ Ok attribute
  pub small : attribute.props.0 ≤ 65535

abbrev pub IsNamed : Attribute → Type 0
IsNamed attribute = IsWord attribute.name

-- a channel whose name and services its line says
pub record IsNewChannel (done : List Channel) (channel : Channel) : Type 0 where
  pub new : new_name (is_name channel.name) (channel_names done) channel.name ≡ Ok channel.name
  pub word : IsWord channel.name
  pub probes : are_probes channel.probes ≡ true
  pub kept : (channel.trace || channel.aggregate) ≡ true

-- keys and values that their lines say, or that there is none
module _ (names : List (List ℕ)) (channel : Channel) where
  pub record AreSaid (is_key : Bool) (said : List (List ℕ)) : Type 0 where
    pub aggregates : channel.aggregate ≡ true
    pub taken : after_lines (with_name is_key names) [] said ≡ Ok said
    pub words : All IsWord said

  abbrev pub HasKeys : List (List ℕ) → Type 0
  HasKeys [] = channel.query.by_default ≡ true
  HasKeys (key ∷ keys) = (channel.query.by_default ≡ false) × AreSaid true (key ∷ keys)

  abbrev pub HasValues : List (List ℕ) → Type 0
  HasValues [] = (channel.aggregate && channel.timer) ≡ false
  HasValues (value ∷ values) = AreSaid false (value ∷ values)

pub record IsQueried (names : List (List ℕ)) (channel : Channel) : Type 0 where
  pub keys : HasKeys names channel channel.query.keys
  pub values : HasValues names channel channel.query.values

-- a global that its line says behind those before it
pub record IsNewGlobal (attributes : List Attribute) (done : List Entry) (entry : Entry) : Type 0
  where
    pub fresh : is_among (global_names done) entry.attr.name ≡ false
    pub place : ℕ
    pub named : attribute_named attributes entry.attr.name ≡ Ok (place, entry.attr)
    pub allowed : is_global entry.attr.props ≡ true
    pub spoken : IsSpoken entry.attr.kind entry.value
    pub word : IsWord entry.attr.name

pub record IsHeader (attributes : List Attribute) (channels : List Channel)
    (globals : List Entry) : Type 0 where
  pub each_attribute : Chain IsNewAttribute [] attributes
  pub names : All IsNamed attributes
  pub each_channel : Chain IsNewChannel [] channels
  pub queries : All (IsQueried (attribute_names attributes)) channels
  pub each_global : Chain (IsNewGlobal attributes) [] globals

-- ---- the lines of threads

module _ (attributes : List Attribute) (channels : List Channel) (values : List Variant) where
  -- a line that opens the next value, which its own text says
  pub record IsOpened (next attr value : ℕ) : Type 0 where
    pub attribute : Attribute
    pub opened : Variant
    pub place : value ≡ next
    pub named : attribute_named attributes attribute.name ≡ Ok (attr, attribute)
    pub kept : slice_get values value ≡ Some opened
    pub spoken : IsSpoken attribute.kind opened
    pub word : IsWord attribute.name

  pub record IsEnded (attr : ℕ) : Type 0 where
    pub attribute : Attribute
    pub named : attribute_named attributes attribute.name ≡ Ok (attr, attribute)
    pub word : IsWord attribute.name

  pub record IsFlush (place : ℕ) : Type 0 where
    pub channel : Channel
    pub named : channel_named channels channel.name ≡ Ok (place, channel)
    pub aggregates : channel.aggregate ≡ true
    pub word : IsWord channel.name

  -- a line behind which the next value has this number
  abbrev pub IsNext : ℕ → lines.Line → Type 0
  IsNext next (line.Begin attr value) = IsOpened next attr value
  IsNext next (line.Set attr value) = IsOpened next attr value
  IsNext next (line.End attr) = IsEnded attr
  IsNext next line.Snapshot = Unit {0}
  IsNext next (line.Flush channel) = IsFlush channel
  IsNext next (line.Tick n) = AreHalves n

-- the number of the next value behind a line, behind lines, and behind threads
abbrev pub behind_line : ℕ → lines.Line → ℕ
behind_line next (line.Begin attr value) = next + 1
behind_line next (line.Set attr value) = next + 1
behind_line next _ = next

abbrev pub behind_lines : ℕ → List lines.Line → ℕ
behind_lines next [] = next
behind_lines next (l ∷ ls) = behind_lines (behind_line next l) ls

abbrev pub behind_threads : ℕ → List (List lines.Line) → ℕ
behind_threads next [] = next
behind_threads next (thread ∷ threads) = behind_threads (behind_lines next thread) threads

module _ (attributes : List Attribute) (channels : List Channel) (values : List Variant) where
  abbrev pub AreNext : ℕ → List lines.Line → Type 0
  AreNext next [] = Unit {0}
  AreNext next (l ∷ ls) = IsNext attributes channels values next l × AreNext (behind_line next l) ls

  abbrev pub AreThreads : ℕ → List (List lines.Line) → Type 0
  AreThreads next [] = Unit {0}
  AreThreads next (thread ∷ threads) = AreNext next thread × AreThreads (behind_lines next thread)
      threads

  pub next-push : (next : ℕ) (ls : List lines.Line) (l : lines.Line) → AreNext next ls
      → IsNext attributes channels values (behind_lines next ls) l → AreNext next (ls ++ l ∷ [])
  next-push next [] l are is = (is, tt)
  next-push next (x ∷ ls) l are is = (are.0, next-push (behind_line next x) ls l are.1 is)

  pub threads-push : (next : ℕ) (threads : List (List lines.Line)) (thread : List lines.Line)
      → AreThreads next threads → AreNext (behind_threads next threads) thread
      → AreThreads next (threads ++ thread ∷ [])
  threads-push next [] thread are is = (is, tt)
  threads-push next (x ∷ threads) thread are is = (
    are.0,
    threads-push (behind_lines next x) threads
        thread are.1 is,
  )

pub behind-push : (next : ℕ) (ls : List lines.Line) (l : lines.Line)
    → behind_lines next (ls ++ l ∷ []) ≡ behind_line (behind_lines next ls) l
behind-push next [] l = refl
behind-push next (x ∷ ls) l = behind-push (behind_line next x) ls l

pub threads_behind-push : (next : ℕ) (threads : List (List lines.Line)) (thread : List lines.Line)
    → behind_threads next (threads ++ thread ∷ []) ≡ behind_lines (behind_threads next threads)
    thread
threads_behind-push next [] thread = refl
threads_behind-push next (x ∷ threads) thread = threads_behind-push (behind_lines next x) threads
    thread

-- ---- more values

module _ (attributes : List Attribute) (channels : List Channel) (values more : List Variant) where
  opened_more : (next attr value : ℕ) → IsOpened attributes channels values next attr value
      → IsOpened attributes channels (values ++ more) next attr value
  opened_more next attr value is = record {
    attribute = is.attribute;
    opened = is.opened;
    place = is.place;
    named = is.named;
    kept = slice_get-more values more value is.opened is.kept;
    spoken = is.spoken;
    word = is.word;
  }

  line_more : (next : ℕ) (l : lines.Line) → IsNext attributes channels values next l
      → IsNext attributes channels (values ++ more) next l
  line_more next (line.Begin attr value) is = opened_more next attr value is
  line_more next (line.Set attr value) is = opened_more next attr value is
  line_more next (line.End attr) is = record {
    attribute = is.attribute;
    named = is.named;
    word = is.word;
  }
  line_more next line.Snapshot is = is
  line_more next (line.Flush channel) is = record {
    channel = is.channel;
    named = is.named;
    aggregates = is.aggregates;
    word = is.word;
  }
  line_more next (line.Tick n) is = is

  pub lines_more : (next : ℕ) (ls : List lines.Line) → AreNext attributes channels values next ls
      → AreNext attributes channels (values ++ more) next ls
  lines_more next [] are = are
  lines_more next (l ∷ ls) are = (line_more next l are.0, lines_more (behind_line next l) ls are.1)

  pub threads_more : (next : ℕ) (threads : List (List lines.Line))
      → AreThreads attributes channels values next threads
      → AreThreads attributes channels (values ++ more) next threads
  threads_more next [] are = are
  threads_more next (thread ∷ threads) are = (
    lines_more next thread are.0,
    threads_more
        (behind_lines next thread) threads are.1,
  )

-- ---- what stands

-- The lines of the threads before the last, and of the last.
pub record AreLines (attributes : List Attribute) (channels : List Channel) (values : List Variant)
    (earlier : List (List lines.Line))
    (thread : Option (List lines.Line)) : Type 0 where
  pub threads : AreThreads attributes channels values 0 earlier
  pub last : AreNext attributes channels values (behind_threads 0 earlier) (unwrap_or thread [])
  pub counted : behind_lines (behind_threads 0 earlier) (unwrap_or thread []) ≡ length values

pub record IsLegible (state : State) : Type 0 where
  pub header : IsHeader state.attributes state.channels state.globals
  pub lines : AreLines state.attributes state.channels state.values state.earlier state.thread
  pub idle : state.thread ≡ None → (state.earlier ≡ []) × (state.values ≡ [])

-- all threads of what stands
pub threads_legible : (state : State) → IsLegible state → AreThreads state.attributes state.channels
    state.values 0 (state.earlier ++ option_to_list state.thread)
threads_legible state is = by_thread state.thread is.lines.last
  where
    by_thread : (thread : Option (List lines.Line)) → AreNext state.attributes state.channels
        state.values (behind_threads 0 state.earlier) (unwrap_or thread [])
        → AreThreads state.attributes state.channels state.values 0
        (state.earlier ++ option_to_list thread)
    by_thread None last = subst (λ (ts : List (List lines.Line)). AreThreads state.attributes
        state.channels state.values 0 ts) (sym (append-nil state.earlier)) is.lines.threads
    by_thread (Some thread) last = threads-push state.attributes state.channels state.values 0
        state.earlier thread is.lines.threads last

pub threads_counted : (state : State) → IsLegible state
    → behind_threads 0 (state.earlier ++ option_to_list state.thread) ≡ length state.values
threads_counted state is = by_thread state.thread is.lines.counted
  where
    by_thread : (thread : Option (List lines.Line)) → behind_lines (behind_threads 0 state.earlier)
        (unwrap_or thread []) ≡ length state.values
        → behind_threads 0 (state.earlier ++ option_to_list thread) ≡ length state.values
    by_thread None counted = ap (behind_threads 0) (append-nil state.earlier) ∙ counted
    by_thread (Some thread) counted = threads_behind-push 0 state.earlier thread ∙ counted

-- ---- what a script is, so that it can be written

pub record IsWritable (script : Script) : Type 0 where
  pub header : IsHeader script.attributes script.channels script.globals
  pub threads : AreThreads script.attributes script.channels script.values 0 script.threads
  pub counted : behind_threads 0 script.threads ≡ length script.values
