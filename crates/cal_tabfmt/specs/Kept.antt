-- Texts that are kept one behind another.
use Rattle.std.specs.Prelude.{◌≡◌, ℕ, ◌+◌, List, [], ◌∷◌, ◌++◌, drop, length}
use Rattle.std.specs.List.{All, concat}
use Rattle.std.specs.Str.{IsUtf8}
use Rattle.cal_tabfmt.specs.declared.kept.KeptTexts.{KeptTexts}
use Rattle.cal_tabfmt.specs.declared.kept.Mark.{Mark}

-- where texts end that stand one behind another, the first from this place on
abbrev pub ends_from : ℕ → List (List ℕ) → List ℕ
ends_from start [] = []
ends_from start (text ∷ texts) = (start + length text) ∷ ends_from (start + length text) texts

-- these texts are kept
pub record Keeps (kept : KeptTexts) (texts : List (List ℕ)) : Type 0 where
  pub all : kept.all ≡ concat texts
  pub ends : kept.ends.items ≡ ends_from 0 texts
  pub utf8 : All IsUtf8 texts

-- behind a front, these are left at a mark
pub record AreLeft (kept : KeptTexts) (mark : Mark) (texts : List (List ℕ)) : Type 0 where
  pub front : List ℕ
  pub start : mark.start ≡ length front
  pub all : kept.all ≡ front ++ concat texts
  pub ends : drop mark.place kept.ends.items ≡ ends_from (length front) texts
  pub utf8 : All IsUtf8 texts
