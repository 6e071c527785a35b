-- What the making of a channel's query keeps (private).
use Rattle.std.specs.Prelude.{◌≡◌, ℕ, List}
use Rattle.std.specs.BTreeSet.{contains}
use Rattle.cal_value.specs.Texts.{text_cmp}
use Rattle.cal_ql.specs.Once.{has_name}
use Rattle.cal_records.specs.declared.query.Kept.{Kept}

-- the names are those of the kernels
abbrev pub AreNamed : Kept → Type 0
AreNamed kept = (name : List ℕ) → contains text_cmp kept.names name ≡ has_name kept.aggs name
