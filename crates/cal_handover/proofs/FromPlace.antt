-- Lists of threads while the books are closed from the last one on.
use Rattle.std.proofs.Common.{◌≡◌, ℕ, zero, suc, ◌+◌, ◌<◌, List, [], ◌∷◌, ◌++◌, Some}
use Rattle.std.proofs.Common.{length, map, take, refl, sym, ap, ◌∙◌, arith}
use Rattle.std.proofs.Common.{add-one, length-append, length-take-le}
use Rattle.std.specs.List.{All, cons_option}
use Rattle.std.specs.Prelude.{slice_get}
use Rattle.std.proofs.lemmas.List.{take-take, take_all, take_at}
use Rattle.std.proofs.lemmas.List.Elements.{All-head, All-map, All-tail, All-weaker}
use Rattle.cal_channel.specs.Values.{ChannelValue}
use Rattle.cal_channel.specs.Places.{at_place}
use Rattle.cal_handover.specs.Places.{emptied, emptied_at}

-- channels, where those from a place on are emptied
abbrev pub emptied_from : ℕ → List ChannelValue → List ChannelValue
emptied_from zero cs = map emptied cs
emptied_from (suc n) [] = []
emptied_from (suc n) (c ∷ cs) = c ∷ emptied_from n cs

-- none is emptied yet
from-none : (n : ℕ) (cs : List ChannelValue) → length cs ≡ n → emptied_from n cs ≡ cs
from-none zero [] e = refl
from-none zero (c ∷ cs) e = absurd (omega (arith, e))
from-none (suc n) [] e = refl
from-none (suc n) (c ∷ cs) e = ap (λ rest. c ∷ rest) (from-none n cs (omega (arith, e)))

-- one more is emptied
from-next : (n : ℕ) (cs : List ChannelValue)
    → emptied_at n (emptied_from (suc n) cs) ≡ emptied_from n cs
from-next zero [] = refl
from-next zero (c ∷ cs) = refl
from-next (suc n) [] = refl
from-next (suc n) (c ∷ cs) = ap (λ rest. c ∷ rest) (from-next n cs)

-- the one before is as it was
from-at : (n : ℕ) (cs : List ChannelValue)
    → slice_get (emptied_from (suc n) cs) n ≡ slice_get cs n
from-at zero [] = refl
from-at zero (c ∷ cs) = refl
from-at (suc n) [] = refl
from-at (suc n) (c ∷ cs) = from-at n cs

length-from : (n : ℕ) (cs : List ChannelValue) → length (emptied_from n cs) ≡ length cs
length-from zero [] = refl
length-from zero (c ∷ cs) = ap suc (length-from zero cs)
length-from (suc n) [] = refl
length-from (suc n) (c ∷ cs) = ap suc (length-from n cs)

module _ {A : Type 0} where
  -- the item behind those that are taken
  pub take-at : (n : ℕ) (xs : List A) → slice_get (take (suc n) xs) n ≡ slice_get xs n
  take-at zero [] = refl
  take-at zero (x ∷ xs) = refl
  take-at (suc n) [] = refl
  take-at (suc n) (x ∷ xs) = take-at n xs

  seam : (xs : List A) (x : A) → slice_get (xs ++ x ∷ []) (length xs) ≡ Some x
  seam [] x = refl
  seam (y ∷ xs) x = seam xs x

  -- the last one of those that are taken is popped
  pub popped-rest : (all popped left : List A) (x : A) → popped ≡ take (length popped) all
      → popped ≡ left ++ x ∷ [] → left ≡ take (length left) all
  popped-rest all popped left x is pop =
      sym (take_at left (x ∷ []) (length left) refl)
      ∙ ap (take (length left)) (sym pop ∙ is)
      ∙ take-take (length left) (length popped) all
      (let e = ap length pop in let sum = length-append left (x ∷ []) in omega (arith, e, sum))

  pub popped-at : (all popped left : List A) (x : A) → popped ≡ take (length popped) all
      → popped ≡ left ++ x ∷ [] → slice_get all (length left) ≡ Some x
  popped-at all popped left x is pop =
      sym (take-at (length left) all)
      ∙ ap (λ (n : ℕ). slice_get (take n all) (length left))
      (sym (add-one (length left)) ∙ sym (length-append left (x ∷ [])) ∙ sym (ap length pop))
      ∙ ap (λ xs. slice_get xs (length left)) (sym is ∙ pop)
      ∙ seam left x

  -- of lists, whose items at a place stay, what stands there
  at_place-same : (h : List A → List A) (n : ℕ)
      → ((xs : List A) → slice_get (h xs) n ≡ slice_get xs n)
      → (lists : List (List A)) → at_place n (map h lists) ≡ at_place n lists
  at_place-same h n same [] = refl
  at_place-same h n same (xs ∷ lists) =
      λ i. cons_option (same xs i) (at_place-same h n same lists i)

  -- lists that stay
  maps-none : (P : List A → Type 0) (h : List A → List A)
      → ((xs : List A) → P xs → h xs ≡ xs) → (lists : List (List A)) → All P lists
      → map h lists ≡ lists
  maps-none P h same [] all = refl
  maps-none P h same (xs ∷ lists) all =
      λ i. same xs (All-head P xs lists all) i
      ∷ maps-none P h same lists (All-tail P xs lists all) i

  maps-next : (f g h : List A → List A) → ((xs : List A) → f (g xs) ≡ h xs)
      → (lists : List (List A)) → map f (map g lists) ≡ map h lists
  maps-next f g h same [] = refl
  maps-next f g h same (xs ∷ lists) = λ i. same xs i ∷ maps-next f g h same lists i

  pub seats-none : (many : ℕ) (lists : List (List A))
      → All (λ (own : List A). length own ≡ many) lists → map (take many) lists ≡ lists
  seats-none many lists long = maps-none (λ (own : List A). length own ≡ many) (take many)
      (λ xs e. take_all many xs (omega (arith, e))) lists long

  pub seats-next : (n : ℕ) (lists : List (List A))
      → map (take n) (map (take (suc n)) lists) ≡ map (take n) lists
  seats-next n lists = maps-next (take n) (take (suc n)) (take n)
      (λ xs. take-take n (suc n) xs (omega arith)) lists

  pub seats-same : (n : ℕ) (lists : List (List A))
      → at_place n (map (take (suc n)) lists) ≡ at_place n lists
  seats-same n lists = at_place-same (take (suc n)) n (take-at n) lists

  pub seats-long : (many n : ℕ) (lists : List (List A)) → n < many
      → All (λ (own : List A). length own ≡ many) lists
      → All (λ (own : List A). length own ≡ n + 1) (map (take (suc n)) lists)
  seats-long many n lists less long =
      All-map (λ (own : List A). length own ≡ n + 1) (take (suc n)) lists
      (All-weaker (λ (own : List A). length own ≡ many)
      (λ (own : List A). length (take (suc n) own) ≡ n + 1)
      (λ own e. length-take-le (suc n) own (omega (arith, e, less)) ∙ sym (add-one n)) lists long)

pub channels-none : (many : ℕ) (lists : List (List ChannelValue))
    → All (λ (own : List ChannelValue). length own ≡ many) lists
    → map (emptied_from many) lists ≡ lists
channels-none many lists long =
    maps-none (λ (own : List ChannelValue). length own ≡ many) (emptied_from many)
    (λ cs e. from-none many cs e) lists long

pub channels-next : (n : ℕ) (lists : List (List ChannelValue))
    → map (emptied_at n) (map (emptied_from (suc n)) lists) ≡ map (emptied_from n) lists
channels-next n lists =
    maps-next (emptied_at n) (emptied_from (suc n)) (emptied_from n) (from-next n) lists

pub channels-same : (n : ℕ) (lists : List (List ChannelValue))
    → at_place n (map (emptied_from (suc n)) lists) ≡ at_place n lists
channels-same n lists = at_place-same (emptied_from (suc n)) n (from-at n) lists

pub channels-within : (many n : ℕ) (lists : List (List ChannelValue)) → n < many
    → All (λ (own : List ChannelValue). length own ≡ many) lists
    → All (λ (own : List ChannelValue). n < length own) (map (emptied_from (suc n)) lists)
channels-within many n lists less long =
    All-map (λ (own : List ChannelValue). n < length own) (emptied_from (suc n)) lists
    (All-weaker (λ (own : List ChannelValue). length own ≡ many)
    (λ (own : List ChannelValue). n < length (emptied_from (suc n) own))
    (λ own e. let same = length-from (suc n) own in omega (arith, e, less, same)) lists long)

-- all are emptied
pub channels-all : (lists : List (List ChannelValue))
    → map (emptied_from 0) lists ≡ map (map emptied) lists
channels-all [] = refl
channels-all (cs ∷ lists) = ap (λ rest. map emptied cs ∷ rest) (channels-all lists)
