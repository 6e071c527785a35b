-- The numbers of the names that a definition seeks, and what its seekers find by them.
use Rattle.std.proofs.Common.{◌≡◌, ℕ, ◌+◌, ◌<◌, ◌≤◌, Bool, true, false, List, [], ◌∷◌, ◌++◌, length, map}
use Rattle.std.proofs.Common.{Option, None, Some, option_map, option_and_then, is_some, slice_get, slice_index_or, get_or}
use Rattle.std.proofs.Common.{refl, sym, ◌∙◌, ap, subst, arith, true≢false, if◌then◌else◌}
use Rattle.std.specs.List.{All, AllZip, list_any}
use Rattle.indexmap.specs.IndexSet.{insert_key}
use Rattle.cal_context.proofs.ListLemmas.{IsFront-same, slice_get-IsFront}
use Rattle.cal_context.specs.Lists.{IsFront}
use Rattle.cal_context.specs.Snapshots.{entry_of}
use Rattle.cal_context.specs.Tree.{Tree, path_at}
use Rattle.cal_context.specs.declared.numbers.NodeNumber.{NodeNumber}
use Rattle.cal_context.specs.declared.snapshot.Immediate.{Immediate}
use Rattle.cal_ql.specs.declared.names.Op as ops
use Rattle.cal_ql.specs.declared.names.Op.TheVariants as op
use Rattle.cal_value.specs.Flat.{joined}
use Rattle.cal_filter.specs.Known.{KnowsAll, sought}
use Rattle.cal_filter.specs.Latest.{AreNamed, AreReadyOperands, IsLast, IsLatest, IsNamed, IsReadyOperand, place_for}
use Rattle.cal_filter.specs.Replaced.{CatchesUp}
use Rattle.cal_filter.specs.Sought.{Sought, last_sought, sought_by, value_sought, wanted_by}
use Rattle.cal_filter.specs.declared.definition.Definition.{Definition}
use Rattle.cal_filter.specs.declared.latest.Latest.{Latest}
use Rattle.cal_filter.specs.declared.seeker.Seeker.{Seeker}
use Rattle.cal_filter.specs.declared.wanted.Wanted.{Wanted}
use Rattle.cal_filter.proofs.Finding.{found_immediate, place_is_some}
use Rattle.cal_filter.proofs.Zips.{zip_at, zip_length, zip_weaker}

-- the place that is kept for what an operator wants is that of the last one
place_by : (t : Tree) (l : Latest) (imms : List Immediate) (o : ops.Op) (name : List ℕ) (n : ℕ)
    → IsLatest t l imms → slice_get l.names.keys n ≡ Some name
    → IsLast t (sought_by o name) imms (place_for l (wanted_by o) n)
place_by t l imms op.First name n h at = h.any n name at
place_by t l imms op.Truncate name n h at = h.number n name at
place_by t l imms op.Scale name n h at = h.number n name at
place_by t l imms op.Ratio name n h at = h.number n name at
place_by t l imms op.Sum name n h at = h.number n name at

pub place_is : (t : Tree) (l : Latest) (imms : List Immediate) (s : Seeker) (n : ℕ)
    → IsLatest t l imms → IsNamed l.names.keys s n
    → IsLast t (sought s) imms (place_for l s.wanted n)
place_is t l imms s n h named =
    subst (λ (w : Wanted). IsLast t (record { name = s.name; wanted = w }) imms (place_for l w n))
    (sym named.wanted) (place_by t l imms named.op s.name n h named.name)

-- the value at a place where the last immediate stands
pub found_at : (t : Tree) (s : Sought) (nodes : List NodeNumber) (imms : List Immediate) (p : ℕ)
    → IsLast t s imms (Some p) → option_map (λ (i : Immediate). i.value) (slice_get imms p)
    ≡ value_sought s (joined (map (path_at t) nodes) ++ map (entry_of t) imms)
found_at t s nodes imms p h = by (slice_get imms p) refl
  where
    by : (o : Option Immediate) → slice_get imms p ≡ o → option_map (λ (i : Immediate). i.value) (slice_get imms p)
        ≡ value_sought s (joined (map (path_at t) nodes) ++ map (entry_of t) imms)
    by None e =
        absurd (true≢false (sym (place_is_some imms (Some p) h.within (entry_of t))
        ∙ ap (λ o. is_some (option_map (entry_of t) o)) e))
    by (Some x) e =
        ap (option_map (λ (i : Immediate). i.value)) e
        ∙ sym (found_immediate t s nodes imms x (h.last ∙ ap (option_map (entry_of t)) e))

-- one of a definition's seekers, with its name's number
pub operand_at : (t : Tree) (l : Latest) (imms : List Immediate) (ss : List Seeker) (ns : List ℕ) (i : ℕ)
    (s : Seeker) → AreReadyOperands t l imms ss ns → i < length ss → s ≡ get_or ss i s
    → IsReadyOperand t l imms s (slice_index_or ns i 0)
operand_at t l imms ss ns i s h short read =
    let counted = zip_length (IsNamed l.names.keys) ss ns h.named in
    record {
      knows = subst (KnowsAll t) (sym read) (h.knows i s short);
      named = subst (λ x. IsNamed l.names.keys x (slice_index_or ns i 0)) (sym read)
          (zip_at (IsNamed l.names.keys) ss ns i s 0 h.named (omega (arith, short, counted)));
      latest = h.latest;
    }

-- names keep their numbers while more come
pub named_front : (old new : List (List ℕ)) → IsFront old new → (d : Definition) → AreNamed old d → AreNamed new d
named_front old new front d h =
    zip_weaker (IsNamed old) (IsNamed new)
    (λ s n is. record { name = slice_get-IsFront old new n s.name front is.name; op = is.op; wanted = is.wanted })
    d.seekers.items d.names.items h

-- and while seekers catch up
pub named_up : (t : Tree) (names : List (List ℕ)) (old new : List Seeker) (ns : List ℕ)
    → AllZip (CatchesUp t) old new → AllZip (IsNamed names) old ns → AllZip (IsNamed names) new ns
named_up t names [] [] ns up h = h
named_up t names [] (y ∷ new) ns up h = elim up [ ]
named_up t names (x ∷ old) [] ns up h = elim up [ ]
named_up t names (x ∷ old) (y ∷ new) [] up h = elim h [ ]
named_up t names (x ∷ old) (y ∷ new) (n ∷ ns) up h = (
  record {
    name = h.0.name ∙ ap (λ (s : Sought). Some s.name) (sym up.0.same);
    op = h.0.op;
    wanted = ap (λ (s : Sought). s.wanted) up.0.same ∙ h.0.wanted;
  },
  named_up t names old new ns up.1 h.1,
)

-- a name has this number
abbrev pub HasNumber : List (List ℕ) → List ℕ → ℕ → Type 0
HasNumber names name n = slice_get names n ≡ Some name

-- the seekers of names have the names' numbers
pub names_of : (o : ops.Op) (names : List (List ℕ)) (args : List (List ℕ)) (ss : List Seeker) (ns : List ℕ)
    → map sought ss ≡ map (sought_by o) args → AllZip (HasNumber names) args ns
    → AllZip (IsNamed names) ss ns
names_of o names [] [] [] is h = tt
names_of o names [] [] (n ∷ ns) is h = elim h [ ]
names_of o names [] (s ∷ ss) ns is h = cc
names_of o names (a ∷ args) [] ns is h = cc
names_of o names (a ∷ args) (s ∷ ss) [] is h = elim h [ ]
names_of o names (a ∷ args) (s ∷ ss) (n ∷ ns) is h =
    let first : sought s ≡ sought_by o a = cc in
    let rest : map sought ss ≡ map (sought_by o) args = cc in (
      record {
        name = h.0 ∙ ap (λ (x : Sought). Some x.name) (sym first);
        op = o;
        wanted = ap (λ (x : Sought). x.wanted) first;
      },
      names_of o names args ss ns rest h.1,
    )

-- one name more at the end of names, or none
pub front_insert : (eq : List ℕ → List ℕ → Bool) (names new : List (List ℕ)) (name : List ℕ)
    → new ≡ insert_key eq names name → IsFront names new
front_insert eq names new name is = by (list_any (eq name) names) refl
  where
    by : (b : Bool) → list_any (eq name) names ≡ b → IsFront names new
    by true e = IsFront-same names new (is ∙ ap (λ c. if c then names else names ++ name ∷ []) e)
    by false e = (name ∷ [], is ∙ ap (λ c. if c then names else names ++ name ∷ []) e)

pub operands_ready : (t : Tree) (l : Latest) (imms : List Immediate) (ss ss' : List Seeker) (ns ns' : List ℕ)
    → ss' ≡ ss → ns' ≡ ns → All (KnowsAll t) ss → AllZip (IsNamed l.names.keys) ss ns → IsLatest t l imms
    → AreReadyOperands t l imms ss' ns'
operands_ready t l imms ss ss' ns ns' same_seekers same_numbers knows named latest = record {
  knows = rw same_seekers knows;
  named = rw (same_seekers, same_numbers) named;
  latest = latest;
}
