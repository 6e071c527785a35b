-- Names stand as words where a space ends them.
use Rattle.std.proofs.Common.{◌≡◌, ℕ, ◌≤◌, Bool, true, List, [], ◌∷◌, ◌++◌, length, get_or, Some, None, cond, refl, sym, ap, ◌∙◌, arith}
use Rattle.std.specs.Prelude.{not, ◌&&◌, nat_le}
use Rattle.std.specs.List.{list_all}
use Rattle.std.proofs.lemmas.Bool.{and_parts, both_ways, leb-true, ne_eqb}
use Rattle.std.proofs.lemmas.List.Elements.{All-push}
use Rattle.std.proofs.lemmas.List.Sums.{AllPass-from_list_all}
use Rattle.cal_value.specs.declared.attribute.Attribute.{Attribute}
use Rattle.cal_script.specs.Names.{is_name, is_name_byte, is_reserved, is_attribute_name}
use Rattle.cal_script.specs.Lines.{words_of, is_word, one_word, word_and_rest}
use Rattle.cal_script.specs.Reader.{AreNamed}
use Rattle.cal_script.proofs.Cuts.{HasNone, pieces_of_one, pieces_of_two, word_and_rest_of}

-- a name that an attribute may have is a name
pub declared_name : (name : List ℕ) → is_attribute_name name ≡ true → is_name name ≡ true
declared_name name is = (and_parts (is_name name) (not (is_reserved name)) is).0

pub named_more : (attributes : List Attribute) (attribute : Attribute) → AreNamed attributes → is_name attribute.name ≡ true → AreNamed (attributes ++ attribute ∷ [])
named_more attributes attribute are is = All-push (λ a. is_name a.name ≡ true) attributes attribute are is

-- the parts of a name's test
name_parts : (name : List ℕ) → is_name name ≡ true → (1 ≤ length name) × (list_all is_name_byte name ≡ true)
name_parts name is =
    let parts = and_parts (nat_le 1 (length name) && nat_le (length name) 200) (list_all is_name_byte name) is in
    (leb-true 1 (length name) ((and_parts (nat_le 1 (length name)) (nat_le (length name) 200) parts.0).0), parts.1)

-- no space stands in a name
pub no_space : (name : List ℕ) → is_name name ≡ true → HasNone 32 name
no_space name is i within space =
    let byte : is_name_byte (get_or name i 0) ≡ true = AllPass-from_list_all is_name_byte name ((name_parts name is).1) i 0 within in
    both_ways (is_name_byte 32) refl (sym (ap is_name_byte space) ∙ byte)

-- a name isn't empty
pub name_is_word : (name : List ℕ) → is_name name ≡ true → is_word name ≡ true
name_is_word name is = ap not (ne_eqb (length name) 0 (λ none. omega (arith, none, (name_parts name is).0)))

-- a name, or a word that could be one, is the first word where a space ends it
pub words_behind_name : (line name rest : List ℕ) → is_name name ≡ true → line ≡ name ++ 32 ∷ rest → words_of line ≡ name ∷ words_of rest
words_behind_name line name rest is starts = pieces_of_two 32 line name rest starts (no_space name is)

pub name_and_rest_of : (text name value : List ℕ) → is_name name ≡ true → text ≡ name ++ 32 ∷ value → word_and_rest (words_of text) ≡ Some (name, value)
name_and_rest_of text name value is starts =
    ap word_and_rest (words_behind_name text name value is starts) ∙ word_and_rest_of name value ∙ ap (λ (b : Bool). cond b (Some (name, value)) None) (name_is_word name is)

pub one_name_of : (name : List ℕ) → is_name name ≡ true → one_word (words_of name) ≡ Some name
one_name_of name is =
    ap one_word (pieces_of_one 32 name (no_space name is)) ∙ ap (λ (b : Bool). cond b (Some name) None) (name_is_word name is)
