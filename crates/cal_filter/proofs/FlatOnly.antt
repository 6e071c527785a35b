-- What a query makes of a record hangs on its entries alone, and not on which stand in paths.
use Rattle.std.proofs.Common.{◌≡◌, ℕ, ℤ, List, [], ◌∷◌, ◌++◌, map, refl, sym, ◌∙◌, ap}
use Rattle.std.proofs.Common.{Option, None, Some, option_map, slice_get, option_and_then}
use Rattle.std.specs.List.{filter, filter_map, last_or, list_all, list_any}
use Rattle.std.specs.Prelude.{not, if◌then◌else◌}
use Rattle.std.proofs.lemmas.List.{append_assoc, append-nil}
use Rattle.cal_ql.specs.declared.names.Op as ops
use Rattle.cal_ql.specs.declared.names.Op.TheVariants as op
use Rattle.cal_ql.specs.declared.query.Cond.{Cond}
use Rattle.cal_ql.specs.declared.query.Let.{Let}
use Rattle.cal_value.specs.Flat.{flat, joined}
use Rattle.cal_value.specs.declared.attribute.Entry.{Entry}
use Rattle.cal_value.specs.declared.record.Rec.{Rec}
use Rattle.cal_value.specs.declared.variant.Variant.{Variant}
use Rattle.cal_filter.specs.Conditions.{test_holds, where_holds}
use Rattle.cal_filter.specs.Kept.{result_entry, with_let, with_lets, with_result}
use Rattle.cal_filter.specs.Lets.{let_value, limited, operation, value_by}
use Rattle.cal_filter.specs.Named.{is_named}
use Rattle.cal_filter.specs.Numbers.{number_in, value_of_number}

-- the number that an operator gives of entries
abbrev of_entries : ops.Op → ℤ → List (List ℕ) → List Entry → Option Variant
of_entries o n names es =
    option_map value_of_number (option_and_then limited (operation o n
    (map (λ name. last_or None (filter_map (λ e. number_in e.value) (filter (is_named name) es))) names)))

value_alike : (o : ops.Op) (n : ℤ) (names : List (List ℕ)) (r s : Rec) → flat r ≡ flat s
    → value_by o n names r ≡ value_by o n names s
value_alike op.First n names r s e =
    ap (λ es. option_map (λ e. e.value)
    (slice_get (filter_map (λ name. last_or None (filter (is_named name) es)) names) 0)) e
value_alike op.Truncate n names r s e = ap (of_entries op.Truncate n names) e
value_alike op.Scale n names r s e = ap (of_entries op.Scale n names) e
value_alike op.Ratio n names r s e = ap (of_entries op.Ratio n names) e
value_alike op.Sum n names r s e = ap (of_entries op.Sum n names) e

-- the entries that definitions add
entries_of : List ℕ → Option Variant → List Entry
entries_of name None = []
entries_of name (Some v) = result_entry name v ∷ []

pub added : List Let → Rec → List Entry
added [] r = []
added (l ∷ lets) r = entries_of l.name (let_value l r) ++ added lets (with_let r l)

result_adds : (r : Rec) (name : List ℕ) (v : Option Variant)
    → with_result r name v ≡ record { paths = r.paths; imms = r.imms ++ entries_of name v }
unfolding entries_of
result_adds r name None = λ i. record { paths = r.paths; imms = sym (append-nil r.imms) i }
result_adds r name (Some v) = refl

-- they stand at the end
pub lets_add : (lets : List Let) (r : Rec)
    → with_lets lets r ≡ record { paths = r.paths; imms = r.imms ++ added lets r }
unfolding added
lets_add [] r = λ i. record { paths = r.paths; imms = sym (append-nil r.imms) i }
lets_add (l ∷ lets) r =
    let one = result_adds r l.name (let_value l r) in
    lets_add lets (with_let r l)
    ∙ (λ i. record {
      paths = (one i).paths;
      imms = (ap (λ (s : Rec). s.imms ++ added lets (with_let r l)) one
          ∙ append_assoc r.imms (entries_of l.name (let_value l r)) (added lets (with_let r l))) i;
    })

flat_adds : (r : Rec) (name : List ℕ) (v : Option Variant)
    → flat (with_result r name v) ≡ flat r ++ entries_of name v
flat_adds r name v =
    ap flat (result_adds r name v) ∙ sym (append_assoc (joined r.paths) r.imms (entries_of name v))

-- and are the same for records with the same entries
pub added_alike : (lets : List Let) (r s : Rec) → flat r ≡ flat s → added lets r ≡ added lets s
unfolding added
added_alike [] r s e = refl
added_alike (l ∷ lets) r s e =
    let value = value_alike l.op l.n l.args r s e in
    let flats : flat (with_let r l) ≡ flat (with_let s l) =
    flat_adds r l.name (let_value l r)
    ∙ (λ i. e i ++ entries_of l.name (value i))
    ∙ sym (flat_adds s l.name (let_value l s)) in
    λ i. entries_of l.name (value i) ++ added_alike lets (with_let r l) (with_let s l) flats i

pub where_alike : (conds : List Cond) (r s : Rec) → flat r ≡ flat s
    → where_holds conds r ≡ where_holds conds s
where_alike conds r s e =
    ap (λ es. list_all (λ c. if c.not then not (list_any (test_holds c.test) (filter (is_named c.name) es))
    else list_any (test_holds c.test) (filter (is_named c.name) es)) conds) e

-- a record of the same entries, all of them immediates
abbrev pub flattened : Rec → Rec
flattened r = record { paths = []; imms = flat r }
