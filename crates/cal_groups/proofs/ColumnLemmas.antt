-- The attributes of results stay while the context grows.
use Rattle.std.proofs.Common.{◌≡◌, ℕ, ◌+◌, ◌<◌, List, [], ◌∷◌, ◌++◌, length, get_or, take, ◌∙◌}
use Rattle.std.specs.List.{AllZip}
use Rattle.cal_context.proofs.CallerLemmas.{attribute_at-Grows, within_attributes}
use Rattle.cal_context.specs.Tree.{Grows, Tree}
use Rattle.cal_context.specs.declared.numbers.AttributeNumber.{AttributeNumber}
use Rattle.cal_filter.proofs.Zips.{zip_more, zip_weaker}
use Rattle.cal_filter.specs.Results.{IsNumbered}
use Rattle.cal_groups.specs.Columns.{AreOfResult, IsColumn}
use Rattle.cal_groups.specs.declared.column.ResultColumn.{ResultColumn}
use Rattle.cal_groups.specs.declared.results.ResultNumbers.{ResultNumbers}
use Rattle.cal_value.specs.declared.attribute.Attribute.{Attribute}

module _ {old new : Tree} (grows : Grows old new) where
  pub numbered-Grows : (a : Attribute) (n : AttributeNumber) → IsNumbered old a n
      → IsNumbered new a n
  numbered-Grows a n h = record {
    within = within_attributes grows n.0 h.within;
    is = attribute_at-Grows grows n h.within ∙ h.is;
  }

  pub result-Grows : (name : List ℕ) (r : ResultNumbers) → AreOfResult old name r
      → AreOfResult new name r
  result-Grows name r h = record {
    whole = numbered-Grows _ r.whole h.whole;
    fixed = numbered-Grows _ r.fixed h.fixed;
  }

  pub column-Grows : (attr : List ℕ) (c : ResultColumn) → IsColumn old attr c
      → IsColumn new attr c
  column-Grows attr c h = record {
    sum = result-Grows _ c.sum h.sum;
    least = result-Grows _ c.least h.least;
    greatest = result-Grows _ c.greatest h.greatest;
  }

  -- one column more
  pub columns_more : (values : List (List ℕ)) (columns after : List ResultColumn) (i : ℕ)
      (value : List ℕ) (column : ResultColumn)
      → AllZip (IsColumn old) (take i values) columns → i < length values
      → value ≡ get_or values i value → after ≡ columns ++ column ∷ []
      → IsColumn new value column → AllZip (IsColumn new) (take (i + 1) values) after
  columns_more values columns after i value column h short is more one =
      zip_more (IsColumn new) values columns after i value column
      (zip_weaker (IsColumn old) (IsColumn new) column-Grows (take i values) columns h)
      short is more one
