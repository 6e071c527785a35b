use Rattle.std.specs.Prelude.{ℕ, List, [], ◌∷◌, Option, codes, find, nat_eq}
use Rattle.std.specs.Cmp.Lexicographic.{pointwise}
use Rattle.cal_value.specs.declared.kind.Kind.{Kind}
use Rattle.cal_value.specs.declared.kind.Kind.TheVariants.{Usr, Int, Uint, Str, Addr, Double, Bool}
use Rattle.cal_value.specs.declared.kind.Kind.TheVariants.{TypeName, Ptr}

-- the node that stands for a kind in every stream (Giltmoth's rule)
abbrev pub kind_node : Kind → ℕ
kind_node Usr = 0
kind_node Int = 1
kind_node Uint = 2
kind_node Str = 3
kind_node Addr = 4
kind_node Double = 5
kind_node Bool = 6
kind_node TypeName = 7
kind_node Ptr = 11

-- the name of a kind (the `.cali` format)
abbrev pub kind_name : Kind → List ℕ
kind_name Usr = codes "usr"
kind_name Int = codes "int"
kind_name Uint = codes "uint"
kind_name Str = codes "string"
kind_name Addr = codes "addr"
kind_name Double = codes "double"
kind_name Bool = codes "bool"
kind_name TypeName = codes "type"
kind_name Ptr = codes "ptr"

-- the kinds, in the order of their nodes
abbrev pub every_kind : List Kind
every_kind = Usr ∷ Int ∷ Uint ∷ Str ∷ Addr ∷ Double ∷ Bool ∷ TypeName ∷ Ptr ∷ []

-- the kind of this name, if there is one
abbrev pub kind_named : List ℕ → Option Kind
kind_named name = find (λ k. pointwise nat_eq name (kind_name k)) every_kind
