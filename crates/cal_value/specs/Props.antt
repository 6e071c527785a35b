use Rattle.std.specs.Prelude.{ℕ, Bool, List, [], ◌∷◌, codes, ◌==◌, ◌&&◌, not}
use Rattle.std.specs.Int.RustNames.{bit_and}
use Rattle.cal_value.specs.declared.props.Props.{Props}

-- the named bits and groups of bits (Caliper's data model, with Giltmoth's numbers)
abbrev pub named_props : List (List ℕ × ℕ)
named_props =
    (codes "AS_VALUE", 1) ∷ (codes "NOMERGE", 2) ∷ (codes "SCOPE_PROCESS", 12)
    ∷ (codes "SCOPE_THREAD", 20) ∷ (codes "SCOPE_TASK", 24) ∷ (codes "SKIP_EVENTS", 64)
    ∷ (codes "HIDDEN", 128) ∷ (codes "NESTED", 256) ∷ (codes "GLOBAL", 512) ∷ []

-- values stand in snapshots themselves, and not by a node
abbrev pub is_as_value : Props → Bool
is_as_value p = bit_and p.0 1 == 1

-- values go by a node of the context tree
abbrev pub is_reference : Props → Bool
is_reference p = not (is_as_value p)

-- values share the slot of the hierarchy, which needs nodes
abbrev pub is_nested : Props → Bool
is_nested p = bit_and p.0 256 == 256 && is_reference p

-- of the bits 60 of the scope just 12 are set; any other scope is read as thread scope
abbrev pub has_process_scope : Props → Bool
has_process_scope p = bit_and p.0 60 == 12

-- begin, set and end are no events of channels
abbrev pub skips_events : Props → Bool
skips_events p = bit_and p.0 64 == 64

-- the attribute of a global of the stream
abbrev pub is_global : Props → Bool
is_global p = bit_and p.0 512 == 512
