-- The parts of a row's key by numbers of a context (private).
use Rattle.std.specs.Prelude.{List, map, All, Option, unwrap_or}
use Rattle.cal_context.specs.declared.numbers.NodeNumber.{NodeNumber}
use Rattle.cal_context.specs.declared.snapshot.Immediate.{Immediate}
use Rattle.cal_nodes.specs.Numbers.{IsNumbered, number_in}
use Rattle.cal_snap.specs.declared.numbered.NumberedEntry.{NumberedEntry}
use Rattle.cal_table.specs.declared.key.TableKey.{TableKey}
use Rattle.cal_words.specs.declared.node.NodeId.{NodeId}

-- the number of a node that has one
abbrev pub number_at : List (Option NodeNumber) → NodeId → NodeNumber
number_at nodes node = unwrap_or (number_in nodes node) (record { 0 = 0 })

-- each node of a key has its number
abbrev pub IsKeyNumbered : List (Option NodeNumber) → TableKey → Type 0
IsKeyNumbered nodes key = All (IsNumbered nodes) key.refs

-- the numbers of a key's nodes
abbrev pub numbers_of : List (Option NodeNumber) → TableKey → List NodeNumber
numbers_of nodes key = map (number_at nodes) key.refs

-- an entry as an immediate, by the same number of its attribute
abbrev pub immediate_of : NumberedEntry → Immediate
immediate_of e = record { attribute = record { 0 = e.attribute }; value = e.value }
