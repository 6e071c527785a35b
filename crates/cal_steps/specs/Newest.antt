-- Paths of a board of which one alone may lack a node.
use Rattle.std.specs.Prelude.{List, [], ◌∷◌, ◌++◌}
use Rattle.std.specs.List.{Contains}
use Rattle.cal_events.specs.Keeping.{HasPaths}
use Rattle.cal_value.specs.declared.attribute.Entry.{Entry}

-- The path is held, and all other paths that are held have a node.
pub record IsNewest (paths held : List (List Entry)) (path : List Entry) : Type 0 where
  pub others : HasPaths (paths ++ path ∷ []) held
  pub among : Contains held path
