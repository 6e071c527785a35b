-- The attributes of one name that the snapshots of a run show have one kind.
use Rattle.std.proofs.Common.{◌≡◌, ◌<◌, ◌∙◌, ℕ, true, false, List}
use Rattle.std.proofs.Common.{drop, length, refl, sym, ap, subst, arith, true≢false, inl, inr}
use Rattle.std.specs.Prelude.{◌⊎◌, not, slice_index_or}
use Rattle.std.specs.List.{list_all}
use Rattle.std.proofs.lemmas.Bool.{and_parts, cases_lt}
use Rattle.std.proofs.lemmas.List.{get_or_default}
use Rattle.cal_context.specs.Tree.{no_attribute}
use Rattle.cal_run.specs.Entries.{IsDeclared, IsOfEvent, IsOfService, IsShown}
use Rattle.cal_run.specs.Lines.{attribute_of}
use Rattle.cal_run.specs.Snapshots.{event_of}
use Rattle.cal_script.specs.Names.{is_attribute_name, is_name, is_name_byte, is_reserved}
use Rattle.cal_script.specs.Valid.{IsRunnable}
use Rattle.cal_script.specs.declared.script.ProbeKind.TheVariants as probe
use Rattle.cal_script.specs.declared.script.Script.{Script}
use Rattle.cal_readable.proofs.EntryLemmas.{declared-allowed}
use Rattle.cal_value.specs.declared.attribute.Attribute.{Attribute}
use Rattle.cal_value.specs.declared.kind.Kind.TheVariants as kind
use Rattle.cal_words.specs.declared.op.OpCode as opcodes
use Rattle.cal_words.specs.declared.op.OpCode.TheVariants as code

-- the byte of a name at a place
abbrev byte : ℕ → List ℕ → ℕ
byte place name = slice_index_or name place 0

-- ---- services

service-kind : (a : Attribute) → IsOfService a → a.kind ≡ kind.Uint
service-kind a (inl is) = ap (λ (x : Attribute). x.kind) is
service-kind a (inr (inl is)) = ap (λ (x : Attribute). x.kind) is
service-kind a (inr (inr (probe.Depth, is))) = ap (λ (x : Attribute). x.kind) is
service-kind a (inr (inr (probe.Count, is))) = ap (λ (x : Attribute). x.kind) is

-- their names begin with `t` or with `r`
service-first : (a : Attribute) → IsOfService a → (byte 0 a.name ≡ 116) ⊎ (byte 0 a.name ≡ 114)
service-first a (inl is) = inl (ap (λ (x : Attribute). byte 0 x.name) is)
service-first a (inr (inl is)) = inl (ap (λ (x : Attribute). byte 0 x.name) is)
service-first a (inr (inr (probe.Depth, is))) = inr (ap (λ (x : Attribute). byte 0 x.name) is)
service-first a (inr (inr (probe.Count, is))) = inr (ap (λ (x : Attribute). byte 0 x.name) is)

-- ---- events

event-first : (c : opcodes.OpCode) (a : Attribute) → byte 0 (event_of c a).name ≡ 101
event-first code.Begin a = refl
event-first code.End a = refl
event-first code.Set a = refl

-- events of one name are of one attribute's name
event-rest : (c d : opcodes.OpCode) (a b : Attribute) → (event_of c a).name ≡ (event_of d b).name
    → a.name ≡ b.name
event-rest code.Begin code.Begin a b same = ap (drop 12) same
event-rest code.End code.End a b same = ap (drop 10) same
event-rest code.Set code.Set a b same = ap (drop 10) same
event-rest code.Begin code.End a b same =
    let differ : 98 ≡ 101 = ap (byte 6) same in absurd (omega (arith, differ))
event-rest code.Begin code.Set a b same =
    let differ : 98 ≡ 115 = ap (byte 6) same in absurd (omega (arith, differ))
event-rest code.End code.Begin a b same =
    let differ : 101 ≡ 98 = ap (byte 6) same in absurd (omega (arith, differ))
event-rest code.End code.Set a b same =
    let differ : 101 ≡ 115 = ap (byte 6) same in absurd (omega (arith, differ))
event-rest code.Set code.Begin a b same =
    let differ : 115 ≡ 98 = ap (byte 6) same in absurd (omega (arith, differ))
event-rest code.Set code.End a b same =
    let differ : 115 ≡ 101 = ap (byte 6) same in absurd (omega (arith, differ))

module _ (script : Script) (runnable : IsRunnable script) where
  -- ---- declared attributes

  -- they have names of their own
  pub place-once : (i j : ℕ) → i < length script.attributes → j < length script.attributes
      → (attribute_of script i).name ≡ (attribute_of script j).name → i ≡ j
  place-once i j below within named = elim (cases_lt i j) [
    | inl before ↦ absurd (runnable.declared.apart i j no_attribute before within named)
    | inr behind ↦ elim (cases_lt j i) [
      | inl after ↦ absurd (runnable.declared.apart j i no_attribute after below (sym named))
      | inr before ↦ omega (arith, before, behind)
    ]
  ]

  pub at-place : (a : Attribute) (there : IsDeclared script a) → attribute_of script there.0 ≡ a
  at-place a there =
      get_or_default script.attributes there.0 no_attribute a there.1 ∙ there.2

  declared-once : (a b : Attribute) → IsDeclared script a → IsDeclared script b
      → a.name ≡ b.name → a ≡ b
  declared-once a b one other named =
      sym (at-place a one)
      ∙ ap (attribute_of script) (place-once one.0 other.0 one.1 other.1
      (ap (λ (x : Attribute). x.name) (at-place a one) ∙ named
      ∙ sym (ap (λ (x : Attribute). x.name) (at-place b other))))
      ∙ at-place b other

  -- they have no `#`
  declared-bytes : (a : Attribute) → IsDeclared script a → list_all is_name_byte a.name ≡ true
  declared-bytes a there = (and_parts _ (list_all is_name_byte a.name)
      (and_parts (is_name a.name) (not (is_reserved a.name))
      (declared-allowed script runnable a there)).0).1

  -- so none has the name of an event
  declared-event : (a : Attribute) → IsDeclared script a → (c : opcodes.OpCode) (b : Attribute)
      → a.name ≡ (event_of c b).name → ⊥
  declared-event a there code.Begin b same =
      true≢false (sym (declared-bytes a there) ∙ ap (list_all is_name_byte) same)
  declared-event a there code.End b same =
      true≢false (sym (declared-bytes a there) ∙ ap (list_all is_name_byte) same)
  declared-event a there code.Set b same =
      true≢false (sym (declared-bytes a there) ∙ ap (list_all is_name_byte) same)

  -- and those of services are reserved
  service-reserved : (b : Attribute) → IsOfService b → is_attribute_name b.name ≡ false
  service-reserved b (inl is) = ap (λ (x : Attribute). is_attribute_name x.name) is
  service-reserved b (inr (inl is)) = ap (λ (x : Attribute). is_attribute_name x.name) is
  service-reserved b (inr (inr (probe.Depth, is))) =
      ap (λ (x : Attribute). is_attribute_name x.name) is
  service-reserved b (inr (inr (probe.Count, is))) =
      ap (λ (x : Attribute). is_attribute_name x.name) is

  declared-service : (a b : Attribute) → IsDeclared script a → IsOfService b → a.name ≡ b.name → ⊥
  declared-service a b there service named = true≢false
      (sym (declared-allowed script runnable a there) ∙ ap is_attribute_name named
      ∙ service-reserved b service)

  event-begins : (a : Attribute) → IsOfEvent script a → byte 0 a.name ≡ 101
  event-begins a event = ap (λ (x : Attribute). byte 0 x.name) event.is
      ∙ event-first event.code event.of

  event-service : (a b : Attribute) → IsOfEvent script a → IsOfService b → a.name ≡ b.name → ⊥
  event-service a b event service named =
      let begins : byte 0 b.name ≡ 101 = sym (ap (byte 0) named) ∙ event-begins a event in
      elim (service-first b service) [
        | inl t ↦ omega (arith, begins, t)
        | inr r ↦ omega (arith, begins, r)
      ]

  -- ---- so one name is of one kind

  pub same-kind : (a b : Attribute) → IsShown script a → IsShown script b → a.name ≡ b.name
      → a.kind ≡ b.kind
  same-kind a b (inl one) (inl other) named =
      ap (λ (x : Attribute). x.kind) (declared-once a b one other named)
  same-kind a b (inl one) (inr (inl event)) named = absurd
      (declared-event a one event.code event.of
      (named ∙ ap (λ (x : Attribute). x.name) event.is))
  same-kind a b (inl one) (inr (inr service)) named =
      absurd (declared-service a b one service named)
  same-kind a b (inr (inl event)) (inl other) named = absurd
      (declared-event b other event.code event.of
      (sym named ∙ ap (λ (x : Attribute). x.name) event.is))
  same-kind a b (inr (inl event)) (inr (inl more)) named =
      ap (λ (x : Attribute). x.kind) event.is
      ∙ ap (λ (x : Attribute). x.kind) (declared-once event.of more.of event.declared more.declared
      (event-rest event.code more.code event.of more.of
      (sym (ap (λ (x : Attribute). x.name) event.is) ∙ named
      ∙ ap (λ (x : Attribute). x.name) more.is)))
      ∙ sym (ap (λ (x : Attribute). x.kind) more.is)
  same-kind a b (inr (inl event)) (inr (inr service)) named =
      absurd (event-service a b event service named)
  same-kind a b (inr (inr service)) (inl other) named =
      absurd (declared-service b a other service (sym named))
  same-kind a b (inr (inr service)) (inr (inl event)) named =
      absurd (event-service b a event service (sym named))
  same-kind a b (inr (inr one)) (inr (inr other)) named =
      service-kind a one ∙ sym (service-kind b other)

  -- ---- and a result's name is none of them

  -- it has a `#` behind a front that begins with `s` or `m`
  pub shown-no-result : (a : Attribute) → IsShown script a → (name : List ℕ)
      → list_all is_name_byte name ≡ false → (byte 0 name ≡ 115) ⊎ (byte 0 name ≡ 109)
      → a.name ≡ name → ⊥
  shown-no-result a (inl declared) name hash strange named =
      true≢false (sym (declared-bytes a declared) ∙ ap (list_all is_name_byte) named ∙ hash)
  shown-no-result a (inr (inl event)) name hash strange named =
      let begins : byte 0 name ≡ 101 = sym (ap (byte 0) named) ∙ event-begins a event in
      elim strange [ inl s ↦ omega (arith, begins, s) | inr m ↦ omega (arith, begins, m) ]
  shown-no-result a (inr (inr service)) name hash strange named =
      let begins : (byte 0 name ≡ 116) ⊎ (byte 0 name ≡ 114) =
      subst (λ (n : List ℕ). (byte 0 n ≡ 116) ⊎ (byte 0 n ≡ 114)) named
      (service-first a service) in
      elim strange [
        | inl s ↦ elim begins [ inl t ↦ omega (arith, s, t) | inr r ↦ omega (arith, s, r) ]
        | inr m ↦ elim begins [ inl t ↦ omega (arith, m, t) | inr r ↦ omega (arith, m, r) ]
      ]
