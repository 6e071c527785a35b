-- The attribute that a line names.
use Rattle.std.proofs.Common.{◌≡◌, ℕ, List, Some, true, refl, sym, ap, subst, ◌∙◌}
use Rattle.std.specs.Prelude.{Option, None, Result, Ok, Err, slice_get}
use Rattle.std.specs.Option.{ok_or}
use Rattle.std.proofs.lemmas.List.Elements.{All-get_or}
use Rattle.std.proofs.lemmas.Option.{get_or_from_slice_get, slice_get_within}
use Rattle.cal_line.specs.FirstFault.{◌>>=◌}
use Rattle.cal_value.specs.declared.attribute.Attribute.{Attribute}
use Rattle.cal_value.specs.Props.{has_process_scope}
use Rattle.cal_script.specs.declared.kind.ScriptKind.{ScriptKind}
use Rattle.cal_script.specs.declared.kind.ScriptKind.TheVariants.{WrongArity}
use Rattle.cal_script.specs.declared.script.Line.TheVariants as line
use Rattle.cal_script.specs.Lines.{one_word, word_and_rest}
use Rattle.cal_script.specs.Names.{is_name}
use Rattle.cal_script.specs.Reader.{AreNamed}
use Rattle.cal_script.specs.Parts.{attribute_named, attribute_names, place_of, value_said}
use Rattle.cal_script.specs.Reading.{end_after, in_thread, opening_said}
use Rattle.cal_script.specs.State.{State, opening, with_line}
use Rattle.cal_script.specs.Steps.{alone_said, naming_said}

-- an attribute that stands at the place of its name
pub attribute_at : (attributes : List Attribute) (place : ℕ) (attribute : Attribute) → slice_get attributes place ≡ Some attribute
    → place_of (attribute_names attributes) attribute.name ≡ Some place → attribute_named attributes attribute.name ≡ Ok (place, attribute)
attribute_at attributes place attribute here found = rw (found, here) refl

-- a line that begins with the name of an attribute names it
pub naming_of : (attributes : List Attribute) (words : List (List ℕ)) (name rest : List ℕ) (named : ℕ × Attribute) → word_and_rest words ≡ Some (name, rest)
    → attribute_named attributes name ≡ Ok named → naming_said attributes words ≡ Ok (named, rest)
naming_of attributes words name rest named starts is = rw (starts, is) refl

pub alone_of : (attributes : List Attribute) (words : List (List ℕ)) (name : List ℕ) (named : ℕ × Attribute) → one_word words ≡ Some name
    → attribute_named attributes name ≡ Ok named → alone_said attributes words ≡ Ok named
alone_of attributes words name named one is = rw (one, is) refl

module _ {A : Type 0} (go : (ℕ × Attribute) × List ℕ → Result A ScriptKind) where
  by_named : (rest : List ℕ) (named : Result (ℕ × Attribute) ScriptKind)
      → (named >>= (λ n. go (n, rest))) ≡ ((named >>= (λ n. Ok (n, rest))) >>= go)
  by_named rest (Ok n) = refl
  by_named rest (Err kind) = refl

  by_two : (attributes : List Attribute) (two : Option (List ℕ × List ℕ))
      → (ok_or two WrongArity >>= (λ words. attribute_named attributes words.0 >>= (λ named. go (named, words.1))))
      ≡ ((ok_or two WrongArity >>= (λ words. attribute_named attributes words.0 >>= (λ named. Ok (named, words.1)))) >>= go)
  by_two attributes None = refl
  by_two attributes (Some words) = by_named words.1 (attribute_named attributes words.0)

-- what a line opens, by the attribute that it names
pub opening_by_naming : (state : State) (words : List (List ℕ)) → opening_said state words
    ≡ (naming_said state.attributes words >>= (λ n. value_said n.0.1.kind n.1 >>= (λ value. Ok (opening n.0.0 n.0.1 value))))
opening_by_naming state words = by_two (λ n. value_said n.0.1.kind n.1 >>= (λ value. Ok (opening n.0.0 n.0.1 value))) state.attributes (word_and_rest words)

pub opening_falls : (state : State) (words : List (List ℕ)) (kind : ScriptKind) → Err kind ≡ naming_said state.attributes words → opening_said state words ≡ Err kind
opening_falls state words kind falls =
    opening_by_naming state words
    ∙ ap (λ (found : Result ((ℕ × Attribute) × List ℕ) ScriptKind). found >>= (λ n. value_said n.0.1.kind n.1 >>= (λ value. Ok (opening n.0.0 n.0.1 value)))) (sym falls)

pub opening_goes : (state : State) (words : List (List ℕ)) (named : ℕ × Attribute) (rest : List ℕ) → Ok (named, rest) ≡ naming_said state.attributes words
    → opening_said state words ≡ (value_said named.1.kind rest >>= (λ value. Ok (opening named.0 named.1 value)))
opening_goes state words named rest is =
    opening_by_naming state words
    ∙ ap (λ (found : Result ((ℕ × Attribute) × List ℕ) ScriptKind). found >>= (λ n. value_said n.0.1.kind n.1 >>= (λ value. Ok (opening n.0.0 n.0.1 value)))) (sym is)

by_one : {A : Type 0} (go : ℕ × Attribute → Result A ScriptKind) (attributes : List Attribute) (one : Option (List ℕ))
    → (ok_or one WrongArity >>= (λ name. attribute_named attributes name >>= go)) ≡ ((ok_or one WrongArity >>= (λ name. attribute_named attributes name)) >>= go)
by_one go attributes None = refl
by_one go attributes (Some name) = refl

-- what a line ends, by the attribute that it names
pub end_by_name : (state : State) (words : List (List ℕ)) → end_after state words
    ≡ in_thread state (alone_said state.attributes words >>= (λ named. Ok (with_line (line.End named.0) (has_process_scope named.1.props) 0 state)))
end_by_name state words = ap (in_thread state) (by_one (λ named. Ok (with_line (line.End named.0) (has_process_scope named.1.props) 0 state)) state.attributes (one_word words))

-- an attribute that is declared has a name
pub named_at : (attributes : List Attribute) (place : ℕ) (attribute : Attribute) → AreNamed attributes → slice_get attributes place ≡ Some attribute → is_name attribute.name ≡ true
named_at attributes place attribute are here =
    subst (λ (a : Attribute). is_name a.name ≡ true) (get_or_from_slice_get attributes place attribute attribute here)
    (All-get_or (λ a. is_name a.name ≡ true) attributes place attribute (slice_get_within attributes place attribute here) are)
