-- What tokens print with one more, and what they print in brackets.
use Rattle.std.proofs.Common.{◌≡◌, ℕ, ℤ, Bool, true, false, cond, ◌&&◌, List, [], ◌∷◌, ◌++◌, fold, map, if◌then◌else◌, refl, sym, ap, ◌∙◌, append_assoc}
use Rattle.std.specs.List.{join_with_byte}
use Rattle.std.proofs.lemmas.List.{append-nil}
use Rattle.json.specs.Print.{ends, ends_value, print, print_from, separator, token_text}
use Rattle.json.specs.Token.{Token, begin_object, end_object, begin_array, end_array, key, string, number}
use Rattle.json.specs.Written.{Written}
use Rattle.cal_rowset.proofs.Showing.{join-push}
use Rattle.std.specs.Fmt.{signed_decimal}
use Rattle.cal_rowset.specs.declared.cell.Content.TheVariants.{Whole}
use Rattle.cal_jsonfmt.specs.Json.{Member, array_json, fits_64_bits, member_json, object_json, value_json}
use Rattle.cal_jsonfmt.specs.Strings.{string_json}
use Rattle.cal_jsonfmt.specs.Writing.{Writes, WritesEach, WritesValue, comma_if, is_some_list}
use Rattle.cal_jsonfmt.proofs.Escapes.{quoted-is}

-- ---- one token more

print_from-nil : (b : Bool) → print_from b [] ≡ []
unfolding print_from
print_from-nil b = refl

print_from-cons : (b : Bool) (t : Token) (ts : List Token) → print_from b (t ∷ ts) ≡ separator b t ++ (token_text t ++ print_from (ends t) ts)
unfolding print_from
print_from-cons b t ts = refl

-- whether a value ends with tokens, behind others
abbrev ended_from : Bool → List Token → Bool
ended_from b ts = fold (λ _ t. ends t) b ts

ended_from-push : (b : Bool) (ts : List Token) (t : Token) → ended_from b (ts ++ t ∷ []) ≡ ends t
ended_from-push b [] t = refl
ended_from-push b (u ∷ ts) t = ended_from-push (ends u) ts t

print_from-push : (b : Bool) (ts : List Token) (t : Token) → print_from b (ts ++ t ∷ []) ≡ print_from b ts ++ (separator (ended_from b ts) t ++ token_text t)
print_from-push b [] t =
    print_from-cons b t []
    ∙ ap (λ rest. separator b t ++ (token_text t ++ rest)) (print_from-nil (ends t))
    ∙ ap (λ rest. separator b t ++ rest) (append-nil (token_text t))
    ∙ ap (λ front. front ++ (separator b t ++ token_text t)) (sym (print_from-nil b))
print_from-push b (u ∷ ts) t =
    let last = separator (ended_from (ends u) ts) t ++ token_text t in
    print_from-cons b u (ts ++ t ∷ [])
    ∙ ap (λ rest. separator b u ++ (token_text u ++ rest)) (print_from-push (ends u) ts t)
    ∙ ap (λ rest. separator b u ++ rest) (sym (append_assoc (token_text u) (print_from (ends u) ts) last))
    ∙ sym (append_assoc (separator b u) (token_text u ++ print_from (ends u) ts) last)
    ∙ ap (λ front. front ++ last) (sym (print_from-cons b u ts))

-- a token is appended, and nothing else changes
abbrev pub HasToken : Written → Written → Token → Type 0
HasToken old new t = (new.before ≡ old.before) × (new.tokens ≡ old.tokens ++ t ∷ [])

Writes-token : (old new : Written) (t : Token) → HasToken old new t → Writes old new (separator (ends_value old.tokens) t ++ token_text t) (ends t)
Writes-token old new t is = record {
  before = is.0;
  printed = ap print is.1 ∙ print_from-push false old.tokens t;
  ended = ap ends_value is.1 ∙ ended_from-push false old.tokens t;
}

-- a comma stands where a value follows another, and never before a closing bracket
abbrev comma : List ℕ
comma = 44 ∷ []

with_comma : (b : Bool) → cond (b && true) comma [] ≡ comma_if b
with_comma true = refl
with_comma false = refl

without_comma : (b : Bool) → cond (b && false) comma [] ≡ []
without_comma true = refl
without_comma false = refl

Writes-same : (old new : Written) (text other : List ℕ) (whole : Bool) → text ≡ other → Writes old new text whole → Writes old new other whole
Writes-same old new text other whole is writes = record {
  before = writes.before;
  printed = writes.printed ∙ ap (λ t. print old.tokens ++ t) is;
  ended = writes.ended;
}

-- ---- values

pub WritesValue-string : (old new : Written) (text : List ℕ) → HasToken old new (string text) → WritesValue old new (string_json text)
WritesValue-string old new text is =
    Writes-same old new _ _ true (λ j. with_comma (ends_value old.tokens) j ++ quoted-is text j) (Writes-token old new (string text) is)

pub WritesValue-number : (old new : Written) (text : List ℕ) → HasToken old new (number text) → WritesValue old new text
WritesValue-number old new text is =
    Writes-same old new _ _ true (ap (λ c. c ++ text) (with_comma (ends_value old.tokens))) (Writes-token old new (number text) is)

-- a number that 64 bits hold is its digits
pub WritesValue-fits : (old new : Written) (digits text : List ℕ) (z : ℤ) → HasToken old new (number digits) → digits ≡ signed_decimal z → fits_64_bits z ≡ true → text ≡ signed_decimal z
    → WritesValue old new (value_json (Whole z) text)
WritesValue-fits old new digits text z is same fits text_is =
    Writes-same old new _ _ true
    (ap (λ t. comma_if (ends_value old.tokens) ++ t) (same ∙ sym text_is ∙ ap (λ b. if b then text else string_json text) (sym fits)))
    (WritesValue-number old new digits is)

pub WritesValue-member : (old mid new : Written) (name value : List ℕ) → HasToken old mid (key name) → WritesValue mid new value → WritesValue old new (member_json (name, value))
WritesValue-member old mid new name value is writes =
    let named = Writes-token old mid (key name) is in
    record {
      before = writes.before ∙ named.before;
      printed =
          writes.printed
          ∙ ap (λ ended. print mid.tokens ++ (comma_if ended ++ value)) named.ended
          ∙ ap (λ front. front ++ value) (named.printed ∙ (λ j. print old.tokens ++ (with_comma (ends_value old.tokens) j ++ (quoted-is name j ++ 58 ∷ []))))
          ∙ simp append_assoc;
      ended = writes.ended;
    }

-- ---- lists

joined-more : (texts : List (List ℕ)) (text : List ℕ) → join_with_byte 44 texts ++ (comma_if (is_some_list texts) ++ text) ≡ join_with_byte 44 (texts ++ text ∷ [])
joined-more [] text = refl
joined-more (t ∷ ts) text = sym (join-push 44 t ts text)

some_more : (texts : List (List ℕ)) (text : List ℕ) → is_some_list (texts ++ text ∷ []) ≡ true
some_more [] text = refl
some_more (t ∷ ts) text = refl

pub WritesEach-more : (start now new : Written) (texts : List (List ℕ)) (text : List ℕ) → WritesEach start now texts → WritesValue now new text → WritesEach start new (texts ++ text ∷ [])
WritesEach-more start now new texts text each value = record {
  before = value.before ∙ each.before;
  printed =
      value.printed
      ∙ (λ j. each.printed j ++ (comma_if (each.ended j) ++ text))
      ∙ append_assoc (print start.tokens) (join_with_byte 44 texts) (comma_if (is_some_list texts) ++ text)
      ∙ ap (λ rest. print start.tokens ++ rest) (joined-more texts text);
  ended = value.ended ∙ sym (some_more texts text);
}

-- in brackets
bracketed : (old start now new : Written) (opening closing : ℕ) (texts : List (List ℕ)) → Writes old start (comma_if (ends_value old.tokens) ++ opening ∷ []) false → WritesEach start now texts
    → Writes now new (closing ∷ []) true → WritesValue old new (opening ∷ (join_with_byte 44 texts ++ closing ∷ []))
bracketed old start now new opening closing texts opened each closed = record {
  before = closed.before ∙ each.before ∙ opened.before;
  printed =
      closed.printed
      ∙ ap (λ front. front ++ closing ∷ []) (each.printed ∙ ap (λ front. front ++ join_with_byte 44 texts) opened.printed)
      ∙ simp append_assoc;
  ended = closed.ended;
}

pub WritesValue-array : (old start now new : Written) (texts : List (List ℕ)) → HasToken old start begin_array → WritesEach start now texts → HasToken now new end_array
    → WritesValue old new (array_json texts)
WritesValue-array old start now new texts opened each closed =
    bracketed old start now new 91 93 texts
    (Writes-same old start _ _ false (ap (λ c. c ++ 91 ∷ []) (with_comma (ends_value old.tokens))) (Writes-token old start begin_array opened)) each
    (Writes-same now new _ _ true (ap (λ c. c ++ 93 ∷ []) (without_comma (ends_value now.tokens))) (Writes-token now new end_array closed))

pub WritesValue-object : (old start now new : Written) (members : List Member) → HasToken old start begin_object → WritesEach start now (map member_json members)
    → HasToken now new end_object → WritesValue old new (object_json members)
WritesValue-object old start now new members opened each closed =
    bracketed old start now new 123 125 (map member_json members)
    (Writes-same old start _ _ false (ap (λ c. c ++ 123 ∷ []) (with_comma (ends_value old.tokens))) (Writes-token old start begin_object opened)) each
    (Writes-same now new _ _ true (ap (λ c. c ++ 125 ∷ []) (without_comma (ends_value now.tokens))) (Writes-token now new end_object closed))

-- the whole text, behind nothing
pub WritesValue-alone : (old new : Written) (text : List ℕ) → old.before ≡ [] → old.tokens ≡ [] → WritesValue old new text → new.before ++ print new.tokens ≡ text
WritesValue-alone old new text none empty writes =
    ap (λ front. front ++ print new.tokens) (writes.before ∙ none)
    ∙ writes.printed
    ∙ ap (λ tokens. print tokens ++ (comma_if (ends_value tokens) ++ text)) empty
    ∙ ap (λ front. front ++ text) (print_from-nil false)
