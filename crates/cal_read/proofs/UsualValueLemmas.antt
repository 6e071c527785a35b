-- Values of a row that become immediates as they are read.
use Rattle.std.proofs.Common.{◌≡◌, ◌<◌, ◌≤◌, ◌+◌, ℕ, List, [], ◌∷◌, ◌++◌, length, get_or, Some, refl, subst}
use Rattle.std.specs.List.{between}
use Rattle.cal_context.specs.Tree.{Tree, attribute_at}
use Rattle.cal_context.specs.declared.numbers.AttributeNumber.{AttributeNumber}
use Rattle.cal_context.specs.declared.snapshot.Immediate.{Immediate}
use Rattle.cal_value.specs.Reading.{value_of}
use Rattle.cal_value.specs.declared.variant.Variant.{Variant}
use Rattle.cal_read.specs.Held.{HoldsSome, IsNumberOf, held_at}
use Rattle.cal_read.specs.Known.{NamesIds}
use Rattle.cal_read.specs.Nodes.{attribute_of, node_at}
use Rattle.cal_read.specs.Usual.{IsPlain}
use Rattle.cal_read.specs.UsualColumns.{HasNumber}
use Rattle.cal_read.specs.UsualValues.{ReadsAttributes, ReadsEntries}
use Rattle.cal_read.specs.declared.nodes.Nodes.{Nodes}
use Rattle.cal_read.proofs.ColumnLemmas.{attribute_is}
use Rattle.cal_read.proofs.HeldLemmas.{if_held}
use Rattle.cal_read.proofs.UsualColumnLemmas.{numbers_more, numbers_none}
use Rattle.cal_read.proofs.UsualLemmas.{imms_more, imms_none}

pub number_known : (t : Tree) (nodes : Nodes) (id : ℕ) (n : AttributeNumber) → HoldsSome t nodes → HasNumber nodes id n → n.0 < length t.attributes
number_known t nodes id n held has =
    let it = if_held t (held_at nodes id) (node_at held.0 id) has.held (held.1 id) has.there in
    (attribute_is t n (attribute_of it.0) (subst (λ x. IsNumberOf t x (attribute_of it.0)) has.number_is it.2.number)).0

module _ (t : Tree) (nodes : Nodes) (line : List ℕ) (start : ℕ) where
  pub entries_none : start ≤ length line → ReadsEntries t nodes [] line start start []
  entries_none within = record { numbers = []; are = numbers_none nodes [] refl; read = imms_none t [] line start [] within refl refl }

  -- one value more
  pub entries_more : (ids : List ℕ) (id place end : ℕ) (imms : List Immediate) (n : AttributeNumber) (v : Variant) → ReadsEntries t nodes ids line start place imms → HasNumber nodes id n
      → n.0 < length t.attributes → place < length line → get_or line place 0 ≡ 61 → IsPlain line (place + 1) end → value_of (attribute_at t n).kind (between (place + 1) end line) ≡ Some v
      → ReadsEntries t nodes (ids ++ id ∷ []) line start end (imms ++ record { attribute = n; value = v } ∷ [])
  entries_more ids id place end imms n v so_far has known within sign plain is =
      let new = imms ++ record { attribute = n; value = v } ∷ [] in
      record {
        numbers = so_far.numbers ++ n ∷ [];
        are = numbers_more nodes ids id so_far.numbers (so_far.numbers ++ n ∷ []) n so_far.are has refl;
        read = imms_more t so_far.numbers n line start place end imms new v so_far.read known within sign plain is refl;
      }

  -- behind the ids of their attributes
  pub entries_named : (place end : ℕ) (ids : List ℕ) (imms : List Immediate) → NamesIds line start place ids → ReadsEntries t nodes ids line place end imms → ReadsAttributes t nodes line start end imms
  entries_named place end ids imms named entries = record {
    place = place;
    numbers = entries.numbers;
    named = record { ids = ids; named = named; are = entries.are };
    read = entries.read;
  }
