use Rattle.std.specs.Prelude.{ℕ, List}
use Rattle.cal_words.specs.declared.node.NodeRec.{NodeRec}
use Rattle.cal_words.specs.Words.{node_words}

-- the words of a node that is to be found or made
abbrev pub words_of : NodeRec → List ℕ
words_of node = node_words node.parent.0 node.depth node.attr node.value.now
