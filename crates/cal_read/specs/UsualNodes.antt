-- Nodes that are read in one go from their lines (private).
use Rattle.std.specs.Prelude.{◌≡◌, ℕ, ◌≤◌, List, [], ◌++◌, Option, None, Some, false, Ok}
use Rattle.std.specs.Prelude.{codes, drop, length}
use Rattle.cal_line.specs.Escapes.{escaped}
use Rattle.cal_line.specs.Fields.{fields_of}
use Rattle.cal_line.specs.declared.field.Field.{Field}
use Rattle.cal_read.specs.Fields.{id_of, if_there, repeats_key, sort_of}
use Rattle.cal_read.specs.NodeLines.{node_step, with_ids}
use Rattle.cal_read.specs.Nodes.{Named}
use Rattle.cal_read.specs.declared.node_texts.NodeIds.{NodeIds}
use Rattle.cal_read.specs.declared.sort.Sort.TheVariants.{OfNode}

-- an id stands behind these bytes, up to a place
pub record IsIdBehind (line : List ℕ) (start : ℕ) (bytes : List ℕ) (end id : ℕ) : Type 0 where
  pub text : List ℕ
  pub within : end ≤ length line
  pub read : drop start line ≡ bytes ++ (escaped text ++ drop end line)
  pub is : id_of text ≡ Ok id

-- what is written of a parent
abbrev pub written_parent : Option (List ℕ) → List ℕ
written_parent None = []
written_parent (Some text) = codes ",parent=" ++ escaped text

-- this parent ends the line, if one does
pub record IsParentAt (line : List ℕ) (place : ℕ) (parent : Option ℕ) : Type 0 where
  pub text : Option (List ℕ)
  pub read : drop place line ≡ written_parent text
  pub is : if_there id_of text ≡ Ok parent

-- the line is that of a node with these ids and this text
pub record IsUsualNode (line : List ℕ) (ids : NodeIds) (text : List ℕ) : Type 0 where
  pub fields : List Field
  pub are : fields_of line ≡ Some fields
  pub once : repeats_key fields ≡ false
  pub sorted : sort_of fields ≡ Ok OfNode
  pub step : (nodes : List Named) → node_step nodes fields ≡ with_ids nodes ids text
