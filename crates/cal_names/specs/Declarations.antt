-- Declarations of names, and the words of their records.
use Rattle.std.specs.Prelude.{◌≡◌, ℕ, ◌+◌, ◌*◌, ◌%◌, ◌^◌, ◌<◌, ◌≤◌, List, ◌∷◌, length, drop}
use Rattle.std.specs.Prelude.{slice_index}
use Rattle.std.proofs.Common.{ap, arith}
use Rattle.cal_value.specs.Kinds.{kind_node}
use Rattle.cal_value.specs.declared.kind.Kind.{Kind}
use Rattle.cal_words.specs.Homes.{words_hash}
use Rattle.cal_words.specs.Records.{IsText}
use Rattle.cal_words.specs.Words.{text_words}
use Rattle.cal_names.specs.declared.record.NameRec.{NameRec}

-- a name with its kind and its properties
pub record Declaration : Type 0 where
  pub name : List ℕ
  pub kind : Kind
  pub props : ℕ

-- what a record of a declaration declares
abbrev pub declared : NameRec → Declaration
declared rec = record { name = rec.name.now; kind = rec.kind; props = rec.props }

-- A declaration's record, which stands below the root: its kind above the length of its name in
-- bytes, its properties, and the name's bytes, eight to a word (Giltmoth's rule).
abbrev pub name_words : Declaration → List ℕ
name_words d = 0 ∷ 1 ∷ (kind_node d.kind * 2 ^ 32 + length d.name) ∷ d.props ∷ text_words d.name

abbrev pub words_of : NameRec → List ℕ
words_of rec = name_words (declared rec)

-- the hash of a name: it goes over the name's length and its words (Giltmoth's rule)
abbrev pub name_hash : List ℕ → ℕ
name_hash name = words_hash (length name ∷ text_words name)

-- the slot at which the search for a record begins, by its name alone (Giltmoth's rule)
abbrev pub name_home : ℕ → List ℕ → ℕ
name_home homes words = words_hash ((slice_index words 2 % 2 ^ 32) ∷ drop 4 words) % homes

-- a name may have so many bytes (Giltmoth's rule)
abbrev pub longest_name : ℕ
longest_name = 200

-- A name is a text of 1 to 200 bytes (Giltmoth's rule).
pub record HasNameLength (name : List ℕ) : Type 0 where
  pub some : 1 ≤ length name
  pub short : length name ≤ longest_name

-- a declaration of a name, whose properties are in the range of their type
pub record IsDeclaration (d : Declaration) : Type 0 where
  pub text : IsText d.name
  pub long : HasNameLength d.name
  pub props : d.props < 2 ^ 32

-- the words of some declaration
pub record IsName (words : List ℕ) : Type 0 where
  pub declaration : Declaration
  pub is_declaration : IsDeclaration declaration
  pub spelled : words ≡ name_words declaration

-- a declaration has at least five words
pub IsName-long : (words : List ℕ) → IsName words → 2 ≤ length words
IsName-long words name = omega (arith, ap (λ (ws : List ℕ). length ws) name.spelled)
