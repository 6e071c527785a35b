-- Two tests of texts answer alike: whether they are the same.
use Rattle.std.proofs.Common.{◌≡◌, ℕ, List, []}
use Rattle.std.specs.Cmp.Lexicographic.{bytes_decides, pointwise}
use Rattle.std.specs.Ordering.{eq_by_cmp}
use Rattle.std.specs.Prelude.{nat_eq}
use Rattle.std.proofs.lemmas.Bool.Decides.{same_from_decides}
use Rattle.cal_value.specs.ExactOrder.{exact_decides, text_exact}
use Rattle.cal_value.specs.Texts.{text_cmp}

pub same_texts : (a b : List ℕ) → pointwise nat_eq a b ≡ eq_by_cmp text_cmp a b
same_texts a b = same_from_decides (pointwise nat_eq a b) (eq_by_cmp text_cmp a b) (bytes_decides a b) (exact_decides text_exact a b)
