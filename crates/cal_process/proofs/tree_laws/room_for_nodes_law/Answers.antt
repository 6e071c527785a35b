use Rattle.std.proofs.Common.{◌≡◌, ◌≢◌, Bool, if◌then◌else◌, refl, ap, ◌∙◌, arith}
use Rattle.cal_once.specs.Seats.{view}
use Rattle.cal_process.specs.Operations.{words_by, words_made}
use Rattle.cal_process.proofs.Seen.{own-room, shared-room}
use Rattle.cal_process.proofs.tree_laws.room_for_nodes_law.Goals as goal
use Rattle.cal_run.specs.Lines.{value_of}
use Rattle.cal_value.specs.declared.variant.Variant.{Variant}
use Rattle.cal_words.specs.Words.{node_length}
use Rattle.cal_words.specs.declared.op.OpCode as codes
use Rattle.cal_words.specs.declared.op.OpCode.TheVariants as code

pub returns-clause-shared : goal.returns-clause-shared
returns-clause-shared c = λ common seat v h op thread done has at seen uses.
    shared-room common has (view seat) at.sound v h op thread done seen uses

pub returns-clause-own : goal.returns-clause-own
returns-clause-own c = λ common seat v h thread done l op has at seen uses next own does.
    own-room common has (view seat) at.sound v h thread done l op seen uses next own does

-- what opens a value makes its node
words-opened : (c : codes.OpCode) (v : Variant) → c ≢ code.End → words_by c v ≡ node_length v
words-opened code.Begin v other = refl
words-opened code.End v other = absurd (other refl)
words-opened code.Set v other = refl

pub returns-clause-node : goal.returns-clause-node
returns-clause-node c = λ common v op other reference room.
    let script = common.script.now in
    let words : words_made script op ≡ node_length (value_of script op) =
    ap (λ (b : Bool). if b then 0 else words_by op.code (value_of script op)) reference
    ∙ words-opened op.code (value_of script op) other in
    omega (arith, room, words)
