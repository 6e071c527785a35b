use Rattle.std.specs.Prelude.{ℕ, Bool, ◌==◌, ◌-◌, ◌&&◌, true, false, List, [], ◌∷◌, ◌++◌}
use Rattle.std.specs.Prelude.{Option, Some, None, codes, map}
use Rattle.std.specs.Prelude.{filter, take, length, slice_get, if◌then◌else◌}
use Rattle.std.specs.List.{list_any, position_or_len}
use Rattle.cal_value.specs.declared.attribute.Entry.{Entry}
use Rattle.cal_value.specs.declared.record.Rec.{Rec}
use Rattle.cal_value.specs.declared.record.Records.{Records}
use Rattle.cal_write.specs.Nodes.{Node, same_node, node_of_attribute, built_in}
use Rattle.cal_write.specs.Nodes.{needed_by_record, with_node, with_record, nodes}
use Rattle.cal_write.specs.Lines.{node_line, record_line}

-- A node's id is its place among the nodes: the built-in ones have 0 to 11, and each new one the
-- next number (this project's numbering). More nodes at the end leave it.
abbrev pub id_in : List Node → Node → ℕ
id_in ns n = position_or_len (same_node n) ns

-- the id of a parent; the root has none
abbrev pub parent_id : List Node → Node → Option ℕ
parent_id ns [] = None
parent_id ns (e ∷ up) = Some (id_in ns (e ∷ up))

-- a node's parent is its path without the last entry
abbrev pub parent_of : Node → Node
parent_of n = take (length n - 1) n

-- the line of a node with this entry of its own; the root has no entry, and no line
abbrev pub line_of_entry : List Node → Node → Option Entry → List ℕ
line_of_entry ns n None = []
line_of_entry ns n (Some e) =
    node_line (id_in ns n) (id_in ns (node_of_attribute e.attr)) e.value
    (parent_id ns (parent_of n))

-- the line of a node, whose own entry is its path's last one
abbrev pub line_of_node : List Node → Node → List ℕ
line_of_node ns n = line_of_entry ns n (slice_get n (length n - 1))

-- the lines of needed nodes: each that is new is written where it is first needed
abbrev pub lines_of_new : List Node → List Node → List ℕ
lines_of_new ns [] = []
lines_of_new ns (n ∷ needed) =
    (if list_any (same_node n) ns then [] else line_of_node (ns ++ n ∷ []) n)
    ++ lines_of_new (with_node ns n) needed

-- whether a path has an entry
abbrev pub has_entry : Node → Bool
has_entry [] = false
has_entry (e ∷ path) = true

-- the nodes that a record's paths lead to; a path without entries leads to none
abbrev pub ends : Rec → List Node
ends r = filter has_entry r.paths

-- the line of a record
abbrev pub line_of_record : List ℕ → List Node → Rec → List ℕ
line_of_record sort ns r =
    record_line sort (map (id_in ns) (ends r))
    (map (λ e. id_in ns (node_of_attribute e.attr)) r.imms) (map (λ e. e.value) r.imms)

-- A record behind these nodes: the lines of those that are new with it, and then its own.
abbrev pub record_text : List ℕ → List Node → Rec → List ℕ
record_text sort ns r =
    lines_of_new ns (needed_by_record r) ++ line_of_record sort (with_record ns r) r

-- rows behind these nodes, one after another
abbrev pub rows_text : List Node → List Rec → List ℕ
rows_text ns [] = []
rows_text ns (r ∷ rows) = record_text (codes "ctx") ns r ++ rows_text (with_record ns r) rows

-- globals behind these nodes; a record without entries stands for none
abbrev pub globals_text : List Node → Rec → List ℕ
globals_text ns g =
    if (length (ends g) == 0) && (length g.imms == 0) then []
    else record_text (codes "globals") ns g

-- The canonical text of records (the `.cali` format, in the order and numbering of this project):
-- the rows, and then the globals.
abbrev pub canonical_text : Records → List ℕ
canonical_text rs = rows_text built_in rs.rows ++ globals_text (nodes rs.rows) rs.globals
