-- The nodes of a key, however they are kept.
use Rattle.std.specs.Prelude.{List}
use Rattle.cal_words.specs.declared.node.NodeId.{NodeId}
use Rattle.cal_table.specs.declared.key_nodes.Nodes.{Nodes}
use Rattle.cal_table.specs.declared.key_nodes.Nodes.TheVariants.{Few, Many}

-- the nodes, in order
abbrev pub nodes_in : Nodes → List NodeId
nodes_in (Few few) = few
nodes_in (Many many) = many.items
