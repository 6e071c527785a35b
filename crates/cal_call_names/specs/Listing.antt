-- The list that `names` writes, and which declarations it refuses. (Giltmoth's rule.)
use Rattle.std.specs.Prelude.{◌≡◌, ℕ, ◌≤◌, Bool, true, false, List, ◌++◌, codes, decimal}
use Rattle.std.specs.Prelude.{count_by, length, map, sum_by}
use Rattle.std.specs.List.{flat_map}
use Rattle.std.specs.List.Sorted.{IsStrictlySortedBy}
use Rattle.cal_naming.specs.Naming.{IsNaming}
use Rattle.cal_naming.specs.declared.reply.NameReply as replies
use Rattle.cal_naming.specs.declared.reply.NameReply.TheVariants as reply
use Rattle.cal_value.specs.Kinds.{kind_name}
use Rattle.cal_value.specs.Texts.{text_cmp}
use Rattle.cal_value.specs.declared.attribute.Attribute.{Attribute}

-- a declaration's line: `attribute NAME KIND PROPS`
abbrev pub declaration_line : Attribute → List ℕ
declaration_line declared = codes "attribute " ++ declared.name ++ codes " "
    ++ kind_name declared.kind ++ codes " " ++ decimal declared.props.0 ++ codes "\n"

-- a line for each of them
abbrev pub names_text : List Attribute → List ℕ
names_text kept = flat_map declaration_line kept

-- they stand in byte order of their names, and each name stands once
abbrev pub AreInOrder : List Attribute → Type 0
AreInOrder kept = IsStrictlySortedBy text_cmp (map (λ (k : Attribute). k.name) kept)

-- The text lists the kept declarations of the names that threads declare, in byte order of the
-- names, and these are the replies.
pub record IsListed (threads : List (List Attribute)) (replied : List (List replies.NameReply))
    (text : List ℕ) : Type 0 where
  pub kept : List Attribute
  pub naming : IsNaming threads kept replied
  pub order : AreInOrder kept
  pub listed : text ≡ names_text kept

-- A declaration with this reply was refused: another one of its name is kept.
abbrev pub is_refusal : replies.NameReply → Bool
is_refusal reply.Same = false
is_refusal (reply.Different kind props) = true

-- how many declarations of a thread were refused
abbrev pub refused_of : List replies.NameReply → ℕ
refused_of replied = count_by is_refusal replied

-- how many were refused in all
abbrev pub refused_lines : List (List replies.NameReply) → ℕ
refused_lines replied = sum_by refused_of replied

-- no more replies than an input may have declarations (private)
abbrev pub AreFew : List (List replies.NameReply) → Type 0
AreFew replied = sum_by (λ (r : List replies.NameReply). length r) replied ≤ 1048576
