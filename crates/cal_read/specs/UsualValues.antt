-- Values of a row that become immediates as they are read from its line (private).
use Rattle.std.specs.Prelude.{◌≡◌, ◌<◌, ℕ, ◌+◌, List, [], ◌∷◌, ◌++◌, length, take}
use Rattle.cal_context.specs.Tree.{Tree}
use Rattle.cal_context.specs.declared.numbers.AttributeNumber.{AttributeNumber}
use Rattle.cal_context.specs.declared.snapshot.Immediate.{Immediate}
use Rattle.cal_value.specs.declared.kind.Kind.{Kind}
use Rattle.cal_value.specs.declared.variant.Variant.{Variant}
use Rattle.cal_read.specs.Known.{NamesAttributes}
use Rattle.cal_read.specs.Usual.{IsValueAt, ReadsImms}
use Rattle.cal_read.specs.UsualColumns.{NumbersAre}
use Rattle.cal_read.specs.declared.nodes.Nodes.{Nodes}

-- an immediate stands at an index, and those before it stay
pub record IsPut (before : List Immediate) (index : ℕ) (imm : Immediate) (after : List Immediate)
    : Type 0 where
  pub there : index < length after
  pub items : take (index + 1) after ≡ take index before ++ imm ∷ []

-- the same of an attribute with the value that the text between two places writes
pub record PutsValue (kind : Kind) (attribute : AttributeNumber) (line : List ℕ) (start end : ℕ)
    (before : List Immediate) (index : ℕ) (after : List Immediate) : Type 0 where
  pub value : Variant
  pub at : IsValueAt kind line start end value
  pub put : IsPut before index (record { attribute = attribute; value = value }) after

-- the values between two places are those of immediates with the attributes of these ids
pub record ReadsEntries (t : Tree) (nodes : Nodes) (ids : List ℕ) (line : List ℕ) (start end : ℕ)
    (imms : List Immediate) : Type 0 where
  pub numbers : List AttributeNumber
  pub are : NumbersAre nodes ids numbers
  pub read : ReadsImms t numbers line start end imms

-- ids of attributes stand at a place, the key `data`, and values of immediates up to another place
pub record ReadsAttributes (t : Tree) (nodes : Nodes) (line : List ℕ) (start end : ℕ)
    (imms : List Immediate) : Type 0 where
  pub place : ℕ
  pub numbers : List AttributeNumber
  pub named : NamesAttributes nodes line start place numbers
  pub read : ReadsImms t numbers line place end imms
