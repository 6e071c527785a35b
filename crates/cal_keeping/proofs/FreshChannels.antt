-- What a thread keeps before its first line is ready for all of them.
use Rattle.std.proofs.Common.{◌≡◌, ℕ, zero, suc, ◌+◌, ◌<◌, ◌≤◌, ◌^◌}
use Rattle.std.proofs.Common.{List, [], ◌∷◌, ◌++◌, length, take}
use Rattle.std.proofs.Common.{Bool, true, false, if◌then◌else◌, refl, sym, ap, ◌∙◌, subst, arith}
use Rattle.std.specs.Prelude.{Some, None, IfSome, is_some, option_map, slice_get}
use Rattle.std.proofs.lemmas.List.{take_more}
use Rattle.std.proofs.lemmas.Option.{get_or_from_slice_get, same_Some, slice_get_within}
use Rattle.cal_book.specs.Accounts.{blank}
use Rattle.cal_channel.specs.Values.{ChannelValue, unflushed_of}
use Rattle.cal_keeping.specs.Hands.{AccountOf, given_by}
use Rattle.cal_keeping.specs.Kept.{AreEachReady, IsFresh, IsReady, new_for, new_of}
use Rattle.cal_script.specs.declared.script.Channel.{Channel}
use Rattle.cal_table.specs.Tables.{TableValue, empty_table}
use Rattle.cal_table.specs.declared.shape.TableShape.{TableShape}

-- ---- lists

-- an element at each place within
pub there : {A : Type 0} (xs : List A) (place : ℕ) → place < length xs
    → (x : A) × (slice_get xs place ≡ Some x)
there [] place less = absurd (omega (arith, less))
there (x ∷ xs) zero less = (x, refl)
there (x ∷ xs) (suc place) less = there xs place (omega (arith, less))

-- ---- choices

some-if : {A : Type 0} (b : Bool) (x : A) → is_some (if b then Some x else None) ≡ b
some-if true x = refl
some-if false x = refl

table-if : (b : Bool) (shape : TableShape)
    → is_some (option_map empty_table (if b then Some shape else None)) ≡ b
table-if true shape = refl
table-if false shape = refl

made-if : (b : Bool) (shape : TableShape)
    → IfSome (option_map empty_table (if b then Some shape else None))
    (λ (table : TableValue). table.shape ≡ shape)
made-if true shape = refl
made-if false shape = tt

none-taken-if : (b : Bool) (shape : TableShape)
    → unflushed_of (option_map empty_table (if b then Some shape else None)) ≡ 0
none-taken-if true shape = refl
none-taken-if false shape = refl

-- ---- one channel

-- a new channel is ready for as many lines as a run has
fresh-ready : (left : ℕ) (channel : Channel) (shape : TableShape) (account : AccountOf)
    → left ≤ 2 ^ 20 → account ≡ blank
    → IsReady left channel shape (new_of channel shape) account
fresh-ready left channel shape account few nothing = record {
  traces = some-if channel.trace [];
  aggregates = table-if channel.aggregate shape;
  made = made-if channel.aggregate shape;
  few =
      let given : given_by account ≡ 0 = ap given_by nothing in
      let none = none-taken-if channel.aggregate shape in
      omega (arith, given, none, few);
}

-- ---- all channels

pub length-new_for : (channels : List Channel) (shapes : List TableShape)
    → length shapes ≡ length channels → length (new_for channels shapes) ≡ length channels
length-new_for [] [] same = refl
length-new_for [] (s ∷ shapes) same = absurd (omega (arith, same))
length-new_for (c ∷ channels) [] same = absurd (omega (arith, same))
length-new_for (c ∷ channels) (s ∷ shapes) same =
    ap suc (length-new_for channels shapes (omega (arith, same)))

-- What stands at a place of them.
record IsMadeAt (shapes : List TableShape) (place : ℕ) (channel : Channel) (c : ChannelValue)
    : Type 0 where
  shape : TableShape
  shape_at : slice_get shapes place ≡ Some shape
  made : c ≡ new_of channel shape

made-at : (channels : List Channel) (shapes : List TableShape) (place : ℕ)
    (channel : Channel) (c : ChannelValue) → slice_get channels place ≡ Some channel
    → slice_get (new_for channels shapes) place ≡ Some c → IsMadeAt shapes place channel c
made-at [] shapes place channel c at had = absurd cc
made-at (x ∷ channels) [] place channel c at had = absurd cc
made-at (x ∷ channels) (s ∷ shapes) zero channel c at had = record {
  shape = s;
  shape_at = refl;
  made = sym (same_Some (new_of x s) c had)
      ∙ ap (λ (y : Channel). new_of y s) (same_Some x channel at);
}
made-at (x ∷ channels) (s ∷ shapes) (suc place) channel c at had =
    let m = made-at channels shapes place channel c at had in
    record { shape = m.shape; shape_at = m.shape_at; made = m.made }

-- the channel at a place
new_for-at : (channels : List Channel) (shapes : List TableShape) (place : ℕ)
    (channel : Channel) (shape : TableShape) → slice_get channels place ≡ Some channel
    → slice_get shapes place ≡ Some shape
    → slice_get (new_for channels shapes) place ≡ Some (new_of channel shape)
new_for-at [] shapes place channel shape at shape_at = absurd cc
new_for-at (x ∷ channels) [] place channel shape at shape_at = absurd cc
new_for-at (x ∷ channels) (s ∷ shapes) zero channel shape at shape_at =
    ap (λ (y : Channel). Some (new_of y s)) (same_Some x channel at)
    ∙ ap (λ (t : TableShape). Some (new_of channel t)) (same_Some s shape shape_at)
new_for-at (x ∷ channels) (s ∷ shapes) (suc place) channel shape at shape_at =
    new_for-at channels shapes place channel shape at shape_at

-- one more
pub take-new_for : (channels : List Channel) (shapes : List TableShape) (place : ℕ)
    (channel : Channel) (shape : TableShape) → length shapes ≡ length channels
    → slice_get channels place ≡ Some channel → slice_get shapes place ≡ Some shape
    → take (place + 1) (new_for channels shapes)
    ≡ take place (new_for channels shapes) ++ new_of channel shape ∷ []
take-new_for channels shapes place channel shape same at shape_at =
    let many = length-new_for channels shapes same in
    let less = slice_get_within channels place channel at in
    take_more (new_for channels shapes) place (new_of channel shape) (omega (arith, many, less))
    ∙ ap (λ (c : ChannelValue). take place (new_for channels shapes) ++ c ∷ [])
    (get_or_from_slice_get (new_for channels shapes) place (new_of channel shape)
    (new_of channel shape) (new_for-at channels shapes place channel shape at shape_at))

-- The new channels of a thread, with the shapes of its tables, for which nothing was done.
module _ (channels : List Channel) (shapes : List TableShape) (cs : List ChannelValue)
    (are : cs ≡ new_for channels shapes) (accounts : ℕ → AccountOf)
    (nothing : (place : ℕ) → accounts place ≡ blank) where
  at-place : (place : ℕ) (channel : Channel) (c : ChannelValue)
      → slice_get channels place ≡ Some channel → slice_get cs place ≡ Some c
      → IsMadeAt shapes place channel c
  at-place place channel c at had = made-at channels shapes place channel c at
      (ap (λ (xs : List ChannelValue). slice_get xs place) (sym are) ∙ had)

  pub each-fresh-ready : (left : ℕ) → left ≤ 2 ^ 20
      → AreEachReady left channels shapes cs accounts
  each-fresh-ready left few place channel shape c at shape_at had =
      let m = at-place place channel c at had in
      let same : m.shape ≡ shape = same_Some m.shape shape (sym m.shape_at ∙ shape_at) in
      subst (λ (x : ChannelValue). IsReady left channel shape x (accounts place))
      (ap (new_of channel) (sym same) ∙ sym m.made)
      (fresh-ready left channel shape (accounts place) few (nothing place))

  pub each-fresh : (place : ℕ) (channel : Channel) (c : ChannelValue)
      → slice_get channels place ≡ Some channel → slice_get cs place ≡ Some c
      → IsFresh channel c (accounts place)
  each-fresh place channel c at had =
      let m = at-place place channel c at had in
      record {
        shape = if channel.aggregate then Some m.shape else None;
        made = m.made;
        nothing = nothing place;
      }
