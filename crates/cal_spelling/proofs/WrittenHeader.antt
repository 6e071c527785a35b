-- The lines of a written header are read, one from what the lines before it made.
use Rattle.std.proofs.Common.{◌≡◌, ℕ, ◌≤◌, Bool, true, false, ◌||◌, ◌&&◌, cond, List, [], ◌∷◌, ◌++◌}
use Rattle.std.proofs.Common.{length, map, refl, sym, ap, subst, ◌∙◌, append_assoc, append-nil}
use Rattle.std.proofs.Common.{arith}
use Rattle.std.specs.Prelude.{Option, Some, None, Result, Ok, Err, codes, decimal}
use Rattle.std.specs.List.{All, flat_map, join_with_byte, list_all}
use Rattle.std.specs.Option.{ok_or}
use Rattle.std.proofs.lemmas.List.{length_push}
use Rattle.std.proofs.lemmas.List.Elements.{All-nil, All-cons, All-head, All-tail}
use Rattle.cal_line.specs.FirstFault.{◌>>=◌, after_lines}
use Rattle.cal_value.specs.Kinds.{kind_name}
use Rattle.cal_value.specs.Props.{is_global}
use Rattle.cal_value.specs.declared.attribute.Attribute.{Attribute}
use Rattle.cal_value.specs.declared.attribute.Entry.{Entry}
use Rattle.cal_value.specs.declared.variant.Variant.{Variant}
use Rattle.cal_script.specs.Lines.{is_skipped, is_word, joined, pieces, words_of}
use Rattle.cal_script.specs.Parts.{attribute_named, attribute_names, attribute_of, bare_channel}
use Rattle.cal_script.specs.Parts.{channel_of, value_said, with_default_values, with_name}
use Rattle.cal_script.specs.Parts.{with_service}
use Rattle.cal_script.specs.Reading.{earlier_channels, global_of, keyed, names_said, with_values}
use Rattle.cal_script.specs.Reading.{words_after}
use Rattle.cal_script.specs.State.{State}
use Rattle.cal_script.specs.declared.kind.ScriptKind.{ScriptKind}
use Rattle.cal_script.specs.declared.kind.ScriptKind.TheVariants.{BadService, DuplicateName}
use Rattle.cal_script.specs.declared.kind.ScriptKind.TheVariants.{Misplaced, NotAggregate}
use Rattle.cal_script.specs.declared.kind.ScriptKind.TheVariants.{NotGlobal, WrongArity}
use Rattle.cal_script.specs.declared.script.Channel.{Channel}
use Rattle.cal_script.specs.declared.script.Line.{Line}
use Rattle.cal_script.specs.declared.tally.Tally.{Tally}
use Rattle.cal_script.proofs.Cuts.{word_and_rest_of}
use Rattle.cal_script.proofs.LastChannel.{earlier_pushed, last_pushed}
use Rattle.cal_spelling.specs.CanonicalText.{Words, attribute_line, channel_line, channel_lines}
use Rattle.cal_spelling.specs.CanonicalText.{global_line, names_line, services, spelled}
use Rattle.cal_spelling.proofs.Chains.{Chain}
use Rattle.cal_spelling.proofs.Growth.{Grows}
use Rattle.cal_spelling.proofs.Legible.{AreSaid, HasKeys, HasValues, IsNamed, IsNewAttribute}
use Rattle.cal_spelling.proofs.Legible.{IsNewChannel, IsNewGlobal, IsQueried}
use Rattle.cal_spelling.proofs.Services.{are_services, bare_query}
use Rattle.cal_spelling.proofs.Values.{IsText}
use Rattle.cal_spelling.proofs.Words.{IsWord, decimal_word, joined_text, kind_word, literal}
use Rattle.cal_spelling.proofs.Words.{word_text, words_before, words_joined, words_text}

-- a line is read, and what is counted has not become less
pub record IsStep (state : State) (words : Words) (next : State) : Type 0 where
  pub text : IsText (joined words)
  pub says : is_skipped (joined words) ≡ false
  pub said : words_after state (words_of (joined words)) ≡ Ok next
  pub grows : Grows state next

pub data Steps : State → List Words → State → Type 0 where
  none : {state : State} → Steps state [] state
  more : {state next last : State} {words : Words} {lines : List Words} → IsStep state words next
      → Steps next lines last → Steps state (words ∷ lines) last

pub steps-append : {one two three : State} {front back : List Words} → Steps one front two
    → Steps two back three → Steps one (front ++ back) three
steps-append none second = second
steps-append (more step first) second = more step (steps-append first second)

-- what stands, part by part
abbrev pub standing : List Attribute → List Channel → Bool → List Entry → List Variant
    → List (List Line) → Option (List Line) → Tally → State
standing attributes channels valued globals values earlier thread tally = record {
  attributes = attributes;
  channels = channels;
  valued = valued;
  globals = globals;
  values = values;
  earlier = earlier;
  thread = thread;
  tally = tally;
}

-- a header so far
abbrev pub heading : List Attribute → List Channel → Bool → List Entry → State
heading attributes channels valued globals =
    standing attributes channels valued globals [] [] None
    (record { lines = 0; process_lines = 0; shared = 0; own = 0; most = 0 })

heading_grows : (attributes longer : List Attribute) (channels others : List Channel)
    (valued later : Bool) (globals rest : List Entry)
    → length attributes ≤ length longer → length channels ≤ length others
    → Grows (heading attributes channels valued globals) (heading longer others later rest)
heading_grows attributes longer channels others valued later globals rest fewer less = record {
  attributes = fewer;
  channels = less;
  threads = omega arith;
  lines = omega arith;
  process_lines = omega arith;
  arena = omega arith;
}

all_words : (words : List (List ℕ)) → All IsWord words → list_all is_word words ≡ true
all_words [] all = refl
all_words (word ∷ words) all = λ i. (All-head IsWord word words all).some i
    && all_words words (All-tail IsWord word words all) i

-- ---- attributes

attribute_step : (done : List Attribute) (a : Attribute) → IsNewAttribute done a → IsNamed a
    → IsStep (heading done [] false []) (attribute_line a) (heading (done ++ a ∷ []) [] false [])
attribute_step done a new named =
    let kind : List ℕ = kind_name a.kind in
    let props : List ℕ = decimal a.props.0 in
    let kinds = kind_word a.kind in
    let number = decimal_word a.props.0 (omega (arith, new.small)) in
    let words = All-cons IsWord a.name (kind ∷ props ∷ []) named
    (All-cons IsWord kind (props ∷ []) kinds (All-cons IsWord props [] number
    (All-nil IsWord))) in
    let first = literal (codes "attribute") refl refl in
    let three : List ℕ × List ℕ × List ℕ = (a.name, kind, props) in
    let make : Attribute → Result State ScriptKind =
    λ b. Ok (heading (done ++ b ∷ []) [] false []) in
    record {
      text = words_text (attribute_line a) (All-cons IsWord (codes "attribute")
          (a.name ∷ kind ∷ props ∷ []) first words);
      says = refl;
      said =
          ap (words_after (heading done [] false []))
          (words_joined (codes "attribute") (a.name ∷ kind ∷ props ∷ []) first words)
          ∙ ap (λ (some : Bool). ok_or (cond some (Some three) None) WrongArity
          >>= (λ (three : List ℕ × List ℕ × List ℕ). attribute_of done three >>= make))
          (λ i. named.some i && kinds.some i && number.some i)
          ∙ ap (λ (found : Result Attribute ScriptKind). found >>= make) new.said;
      grows = heading_grows done (done ++ a ∷ []) [] [] false false [] []
          (omega (arith, length_push done a)) (omega arith);
    }

pub attributes_read : (done rest : List Attribute) → Chain IsNewAttribute done rest
    → All IsNamed rest → Steps (heading done [] false []) (map attribute_line rest)
    (heading (done ++ rest) [] false [])
attributes_read done [] chain named = subst (λ (d : List Attribute). Steps
    (heading done [] false []) [] (heading d [] false [])) (sym (append-nil done)) none
attributes_read done (a ∷ rest) chain named =
    more (attribute_step done a chain.0 (All-head IsNamed a rest named))
    (subst (λ (d : List Attribute). Steps (heading (done ++ a ∷ []) [] false [])
    (map attribute_line rest) (heading d [] false [])) (append_assoc done (a ∷ []) rest)
    (attributes_read (done ++ a ∷ []) rest chain.1 (All-tail IsNamed a rest named)))

-- ---- channels

-- a channel that is asked so
abbrev asked : Channel → Bool → List (List ℕ) → List (List ℕ) → Channel
asked channel by_default keys values = record channel
    { query = record { by_default = by_default; keys = keys; values = values } }

abbrev default_values : Bool → List (List ℕ)
default_values sums = cond sums (codes "time.duration.ns" ∷ []) []

defaults_are : (channel : Channel) (sums : Bool)
    → cond sums (record channel {
      query = record {
        by_default = true;
        keys = [];
        values = []
            ++ codes "time.duration.ns" ∷ [];
      };
    }) (record channel { query = bare_query })
    ≡ asked channel true [] (default_values sums)
defaults_are channel true = refl
defaults_are channel false = refl

channel_said : (done : List Channel) (c : Channel) → IsNewChannel done c
    → channel_of done (c.name, join_with_byte 44 (services c))
    ≡ Ok (asked c true [] (default_values (c.aggregate && c.timer)))
channel_said done c new =
    let text : List ℕ = join_with_byte 44 (services c) in
    let are = are_services c new.probes new.kept in
    let finish : Channel → Result Channel ScriptKind = λ made. cond (made.trace || made.aggregate)
    (Ok (with_default_values made)) (Err BadService) in
    ap (λ (found : Result (List ℕ) ScriptKind). found
    >>= (λ (name : List ℕ). after_lines with_service (bare_channel name) (pieces 44 text)
    >>= finish)) new.new
    ∙ ap (λ (found : Result Channel ScriptKind). found >>= finish) are.said
    ∙ ap (λ (kept : Bool). cond kept (Ok (with_default_values (record c { query = bare_query })))
    (Err BadService)) new.kept
    ∙ ap Ok (defaults_are c (c.aggregate && c.timer))

module _ (attributes : List Attribute) (channels : List Channel) (c : Channel) where
  abbrev with_last : Channel → Bool → State
  with_last last valued = heading attributes (channels ++ last ∷ []) valued []

  channel_step : (valued : Bool) → IsNewChannel channels c
      → IsStep (heading attributes channels valued []) (channel_line c)
      (with_last (asked c true [] (default_values (c.aggregate && c.timer))) false)
  channel_step valued new =
      let text : List ℕ = join_with_byte 44 (services c) in
      let are = are_services c new.probes new.kept in
      let words = All-cons IsWord c.name (text ∷ []) new.word
      (All-cons IsWord text [] are.word (All-nil IsWord)) in
      let first = literal (codes "channel") refl refl in
      let two : List ℕ × List ℕ = (c.name, text) in
      let make : Channel → Result State ScriptKind = λ b. Ok (with_last b false) in
      record {
        text = words_text (channel_line c) (All-cons IsWord (codes "channel") (c.name ∷ text ∷ [])
            first words);
        says = refl;
        said =
            ap (words_after (heading attributes channels valued []))
            (words_joined (codes "channel") (c.name ∷ text ∷ []) first words)
            ∙ ap (λ (some : Bool). ok_or (cond some (Some two) None) WrongArity
            >>= (λ (two : List ℕ × List ℕ). channel_of channels two >>= make))
            (λ i. new.word.some i && are.word.some i)
            ∙ ap (λ (found : Result Channel ScriptKind). found >>= make)
            (channel_said channels c new);
        grows = heading_grows attributes attributes channels
            (channels ++ asked c true [] (default_values (c.aggregate && c.timer)) ∷ []) valued
            false [] [] (omega arith)
            (omega (
              arith,
              length_push channels (asked c true []
                  (default_values (c.aggregate && c.timer))),
            ));
      }

  -- the last channel is asked otherwise
  asked_grows : (one two : Channel) (valued later : Bool)
      → Grows (with_last one valued) (with_last two later)
  asked_grows one two valued later =
      heading_grows attributes attributes (channels ++ one ∷ []) (channels ++ two ∷ []) valued later
      [] [] (omega arith) (omega (arith, length_push channels one, length_push channels two))

  names_are : (words : List (List ℕ)) (b : Bool) (keys values : List (List ℕ)) → c.aggregate ≡ true
      → All IsWord words → (first : List ℕ) (rest : List (List ℕ)) → words ≡ first ∷ rest
      → names_said (asked c b keys values) words ≡ Ok words
  names_are words b keys values aggregates all first rest is =
      subst (λ (ws : List (List ℕ)). All IsWord ws → names_said (asked c b keys values) ws ≡ Ok ws)
      (sym is)
      (λ all.
      ap (λ (fine : Bool). ok_or (cond fine (Some (first ∷ rest)) None) WrongArity
      >>= (λ (said : List (List ℕ)). cond c.aggregate (Ok said) (Err NotAggregate)))
      (all_words (first ∷ rest) all)
      ∙ ap (λ (has : Bool). cond has (Ok (first ∷ rest)) (Err NotAggregate)) aggregates) all

  key_step : (key : List ℕ) (keys values : List (List ℕ)) → AreSaid (attribute_names attributes) c
      true (key ∷ keys)
      → IsStep (with_last (asked c true [] values) false) (codes "key" ∷ key ∷ keys)
      (with_last (asked c false (key ∷ keys) values) false)
  key_step key keys values said =
      let words : List (List ℕ) = key ∷ keys in
      let first = literal (codes "key") refl refl in
      let old : Channel = asked c true [] values in
      let new : Channel = asked c false words values in
      let taken : List (List ℕ) → Result Channel ScriptKind =
      λ names. after_lines (with_name true (attribute_names attributes)) [] names
      >>= (λ (keys : List (List ℕ)). Ok (asked c false keys values)) in
      let make : Channel → Result State ScriptKind =
      λ b. Ok (heading attributes (earlier_channels (channels ++ old ∷ []) ++ b ∷ []) false []) in
      let changed : keyed (attribute_names attributes) old words ≡ Ok new =
      ap (λ (found : Result (List (List ℕ)) ScriptKind). found >>= taken)
      (names_are words true [] values said.aggregates said.words key keys refl)
      ∙ ap (λ (found : Result (List (List ℕ)) ScriptKind). found
      >>= (λ (keys : List (List ℕ)). Ok (asked c false keys values))) said.taken in
      record {
        text = words_text (codes "key" ∷ words) (All-cons IsWord (codes "key") words first
            said.words);
        says = refl;
        said =
            ap (words_after (with_last old false))
            (words_joined (codes "key") words first said.words)
            ∙ ap (λ (found : Option Channel). ok_or found Misplaced
            >>= (λ (b : Channel). keyed (attribute_names attributes) b words >>= make))
            (last_pushed (channels ++ old ∷ []) channels old refl)
            ∙ ap (λ (found : Result Channel ScriptKind). found >>= make) changed
            ∙ ap (λ (front : List Channel). Ok (heading attributes (front ++ new ∷ []) false []))
            (earlier_pushed (channels ++ old ∷ []) channels old refl);
        grows = asked_grows old new false false;
      }

  value_step : (by_default : Bool) (keys before : List (List ℕ)) (value : List ℕ)
      (values : List (List ℕ)) → AreSaid (attribute_names attributes) c false (value ∷ values)
      → IsStep (with_last (asked c by_default keys before) false) (codes "value" ∷ value ∷ values)
      (with_last (asked c by_default keys (value ∷ values)) true)
  value_step by_default keys before value values said =
      let words : List (List ℕ) = value ∷ values in
      let first = literal (codes "value") refl refl in
      let old : Channel = asked c by_default keys before in
      let new : Channel = asked c by_default keys words in
      let taken : List (List ℕ) → Result Channel ScriptKind =
      λ names. after_lines (with_name false (attribute_names attributes)) [] names
      >>= (λ (values : List (List ℕ)). Ok (asked c by_default keys values)) in
      let make : Channel → Result State ScriptKind =
      λ b. Ok (heading attributes (earlier_channels (channels ++ old ∷ []) ++ b ∷ []) true []) in
      let changed : with_values (attribute_names attributes) old words ≡ Ok new =
      ap (λ (found : Result (List (List ℕ)) ScriptKind). found >>= taken)
      (names_are words by_default keys before said.aggregates said.words value values refl)
      ∙ ap (λ (found : Result (List (List ℕ)) ScriptKind). found
      >>= (λ (values : List (List ℕ)). Ok (asked c by_default keys values))) said.taken in
      record {
        text = words_text (codes "value" ∷ words) (All-cons IsWord (codes "value") words first
            said.words);
        says = refl;
        said =
            ap (words_after (with_last old false))
            (words_joined (codes "value") words first said.words)
            ∙ ap (λ (found : Option Channel). ok_or found Misplaced
            >>= (λ (b : Channel). with_values (attribute_names attributes) b words >>= make))
            (last_pushed (channels ++ old ∷ []) channels old refl)
            ∙ ap (λ (found : Result Channel ScriptKind). found >>= make) changed
            ∙ ap (λ (front : List Channel). Ok (heading attributes (front ++ new ∷ []) true []))
            (earlier_pushed (channels ++ old ∷ []) channels old refl);
        grows = asked_grows old new false true;
      }

  keys_read : (keys values : List (List ℕ)) → HasKeys (attribute_names attributes) c keys
      → Steps (with_last (asked c true [] values) false) (names_line (codes "key") keys)
      (with_last (asked c c.query.by_default keys values) false)
  keys_read [] values is = subst (λ (b : Bool). Steps (with_last (asked c true [] values) false) []
      (with_last (asked c b [] values) false)) (sym is) none
  keys_read (key ∷ keys) values is =
      subst (λ (b : Bool). Steps (with_last (asked c true [] values) false)
      ((codes "key" ∷ key ∷ keys) ∷ []) (with_last (asked c b (key ∷ keys) values) false))
      (sym is.0)
      (more (key_step key keys values is.1) none)

  values_read : (by_default : Bool) (keys values : List (List ℕ))
      → HasValues (attribute_names attributes) c values
      → (valued : Bool) × Steps (with_last (asked c by_default keys
      (default_values (c.aggregate && c.timer))) false) (names_line (codes "value") values)
      (with_last (asked c by_default keys values) valued)
  values_read by_default keys [] is = (
    false,
    subst (λ (sums : Bool). Steps (with_last
        (asked c by_default keys (default_values sums)) false) []
        (with_last (asked c by_default keys []) false)) (sym is) none,
  )
  values_read by_default keys (value ∷ values) is = (
    true,
    more (value_step by_default keys (default_values (c.aggregate && c.timer)) value values
        is) none,
  )

  channel_read : (valued : Bool) → IsNewChannel channels c → IsQueried (attribute_names attributes)
      c → (later : Bool) × Steps (heading attributes channels valued []) (channel_lines c)
      (with_last c later)
  channel_read valued new is =
      let keys = keys_read c.query.keys (default_values (c.aggregate && c.timer)) is.keys in
      let values = values_read c.query.by_default c.query.keys c.query.values is.values in
      (values.0, more (channel_step valued new) (steps-append keys values.1))

pub channels_read : (attributes : List Attribute) (done rest : List Channel) (valued : Bool)
    → Chain IsNewChannel done rest → All (IsQueried (attribute_names attributes)) rest
    → (later : Bool) × Steps (heading attributes done valued []) (flat_map channel_lines rest)
    (heading attributes (done ++ rest) later [])
channels_read attributes done [] valued chain all = (
  valued,
  subst (λ (d : List Channel). Steps (heading attributes done valued []) []
      (heading attributes d valued [])) (sym (append-nil done)) none,
)
channels_read attributes done (c ∷ rest) valued chain all =
    let first = channel_read attributes done c valued chain.0
    (All-head (IsQueried (attribute_names attributes)) c rest all) in
    let others = channels_read attributes (done ++ c ∷ []) rest first.0 chain.1
    (All-tail (IsQueried (attribute_names attributes)) c rest all) in (
      others.0,
      subst (λ (d : List Channel). Steps (heading attributes done valued [])
          (channel_lines c ++ flat_map channel_lines rest) (heading attributes d others.0 []))
          (append_assoc done (c ∷ []) rest)
          (steps-append first.1 others.1),
    )

-- ---- globals

module _ (attributes : List Attribute) (channels : List Channel) (valued : Bool) where
  global_said : (done : List Entry) (e : Entry) → IsNewGlobal attributes done e
      → global_of (heading attributes channels valued done) (e.attr.name, spelled e.value) ≡ Ok e
  global_said done e new =
      let text : List ℕ = spelled e.value in
      let behind : Attribute → Result Entry ScriptKind = λ a. value_said a.kind text
      >>= (λ (value : Variant). Ok (record { attr = a; value = value })) in
      let allowed : ℕ × Attribute → Result Attribute ScriptKind =
      λ named. ok_or (cond (is_global named.1.props) (Some named.1) None) NotGlobal in
      ap (λ (among : Bool). cond among (Err DuplicateName) (attribute_named attributes e.attr.name
      >>= (λ (named : ℕ × Attribute). allowed named >>= behind))) new.fresh
      ∙ ap (λ (found : Result (ℕ × Attribute) ScriptKind). found
      >>= (λ (named : ℕ × Attribute). allowed named >>= behind)) new.named
      ∙ ap (λ (has : Bool). ok_or (cond has (Some e.attr) None) NotGlobal >>= behind) new.allowed
      ∙ ap (λ (found : Result Variant ScriptKind). found
      >>= (λ (value : Variant). Ok (record { attr = e.attr; value = value }))) new.spoken.said

  global_step : (done : List Entry) (e : Entry) → IsNewGlobal attributes done e
      → IsStep (heading attributes channels valued done) (global_line e)
      (heading attributes channels valued (done ++ e ∷ []))
  global_step done e new =
      let state : State = heading attributes channels valued done in
      let text : List ℕ = spelled e.value in
      let first = literal (codes "global") refl refl in
      let two : List ℕ × List ℕ = (e.attr.name, text) in
      let make : Entry → Result State ScriptKind =
      λ b. Ok (heading attributes channels valued (done ++ b ∷ [])) in
      let behind : Option (List ℕ × List ℕ) → Result State ScriptKind =
      λ found. ok_or found WrongArity >>= (λ (two : List ℕ × List ℕ). global_of state two
      >>= make) in
      record {
        text = joined_text (global_line e) (All-cons IsText (codes "global")
            (e.attr.name ∷ text ∷ []) (word_text (codes "global") first)
            (All-cons IsText e.attr.name (text ∷ []) (word_text e.attr.name new.word)
            (All-cons IsText text [] new.spoken.text (All-nil IsText))));
        says = refl;
        said =
            ap (words_after state) (words_before (codes "global") e.attr.name text first new.word)
            ∙ ap behind (word_and_rest_of e.attr.name text)
            ∙ ap (λ (some : Bool). behind (cond some (Some two) None)) new.word.some
            ∙ ap (λ (found : Result Entry ScriptKind). found >>= make) (global_said done e new);
        grows = heading_grows attributes attributes channels channels valued valued done
            (done ++ e ∷ []) (omega arith) (omega arith);
      }

  pub globals_read : (done rest : List Entry) → Chain (IsNewGlobal attributes) done rest
      → Steps (heading attributes channels valued done) (map global_line rest)
      (heading attributes channels valued (done ++ rest))
  globals_read done [] chain = subst (λ (d : List Entry). Steps
      (heading attributes channels valued done) [] (heading attributes channels valued d))
      (sym (append-nil done)) none
  globals_read done (e ∷ rest) chain =
      more (global_step done e chain.0)
      (subst (λ (d : List Entry). Steps (heading attributes channels valued (done ++ e ∷ []))
      (map global_line rest) (heading attributes channels valued d))
      (append_assoc done (e ∷ []) rest)
      (globals_read (done ++ e ∷ []) rest chain.1))
