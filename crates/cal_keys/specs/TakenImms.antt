-- The immediates that the names of GROUP BY take of a record.
use Rattle.std.specs.Prelude.{◌≡◌, ℕ, ◌<◌, ◌==◌, false, List, filter, length, map}
use Rattle.std.specs.List.{All}
use Rattle.cal_context.specs.Snapshots.{entry_of}
use Rattle.cal_context.specs.Tree.{Tree}
use Rattle.cal_context.specs.declared.snapshot.Immediate.{Immediate}
use Rattle.cal_value.specs.declared.attribute.Entry.{Entry}
use Rattle.cal_keys.specs.Takers.{taken_at}
use Rattle.cal_keys.specs.declared.key_imms.TakenImm.{TakenImm}

abbrev pub taken_entry : Tree → TakenImm → Entry
taken_entry t one = entry_of t one.imm.now

abbrev pub IsTakenIn : Tree → TakenImm → Type 0
IsTakenIn t one = one.imm.now.attribute.0 < length t.attributes

-- At each place stand those immediates that the name there takes, in their order.
pub record AreTaken (t : Tree) (names : List (List ℕ)) (imms : List Immediate)
    (taken : List TakenImm) : Type 0 where
  pub places : All (λ one. one.place < length names) taken
  pub take : (place : ℕ) → map (taken_entry t) (filter (λ one. one.place == place) taken)
      ≡ taken_at false names place (map (entry_of t) imms)
